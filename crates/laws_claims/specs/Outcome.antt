-- What a job leaves at each path, by what of its parts is done.
use Rattle.std.specs.Prelude.{Bool, ◌&&◌, ◌||◌, if◌then◌else◌, List, [], ◌∷◌, ◌++◌, Option, None}
use Rattle.std.specs.Option.{option_map, option_map_or}
use Rattle.std.specs.List.{list_any}
use Rattle.mc_text.specs.Routes.{Route, same_path}
use Rattle.tree_trait.specs.FileSystem.{Value, Spot, View}
use Rattle.job_reports.specs.declared.job.Pair.{Pair}
use Rattle.laws_claims.specs.Ways.{below}
use Rattle.laws_claims.specs.Views.{nothing, holding, one_mount}
use Rattle.op_plan.specs.declared.job.Job.{Job}
use Rattle.op_plan.specs.declared.job.Job.TheVariants.{Copy, Move, Delete, MakeFolder}
use Rattle.op_plan.specs.declared.job.Job.TheVariants.{SetMode, MakeLink, Save}
use Rattle.laws_claims.specs.Works.{Part, Make, Place, Set, Remove, Work, Did, is_part, folder, made_for}
use Rattle.laws_claims.specs.Works.{source_of, Plain, deleting, making, setting, linking, saving}

-- which parts are done
abbrev pub Decisions : Type 0
Decisions = Part → Route → Bool

abbrev pub is_work : Part → Route → Work → Bool
is_work part p (Did other path) = is_part other part && same_path p path

-- what works have done
abbrev pub decisions_of_works : List Work → Decisions
decisions_of_works works part p = list_any (is_work part p) works

-- What a copy leaves at a target: what is placed there; or a folder with the source's mode, open to its
-- owner until it is set; or what was there.
abbrev pub copied_target : Decisions → Route → Option Value → Option Value → Option Value
copied_target d p source target =
    if d Place p then source else
    if d Make p then (if d Set p then option_map (λ x. folder x.mode) source else made_for source) else target

-- Where a path lies: at or below the target or the source of a pair, by the way from there, or elsewhere.
pub data Spotted : Type 0 where
  AtTarget : (pair : Pair) (rest : Route) → Spotted
  AtSource : (pair : Pair) (rest : Route) → Spotted
  Elsewhere : Spotted

abbrev pub place : List Pair → Route → Spotted
place [] p = Elsewhere
place (pair ∷ pairs) p =
    option_map_or (AtTarget pair) (below pair.target p)
    (option_map_or (AtSource pair) (below pair.source p) (place pairs p))

-- the thing at this way below the pair, or one above it, went by one renaming
abbrev pub is_carried : View → Decisions → Pair → Route → Bool
is_carried v d pair [] = d Place pair.target && one_mount v pair.source pair.target
is_carried v d pair (name ∷ rest) =
    (d Place (name ∷ rest ++ pair.target)
    && one_mount v (name ∷ rest ++ pair.source) (name ∷ rest ++ pair.target)) || is_carried v d pair rest

abbrev pub moved_spot : View → Decisions → Route → Spotted → Spot
moved_spot v d p (AtTarget pair rest) =
    if is_carried v d pair rest then v (rest ++ pair.source)
    else holding (copied_target d p (v (rest ++ pair.source)).value (v p).value) (v p)
moved_spot v d p (AtSource pair rest) =
    if is_carried v d pair rest then nothing else if d Remove p then holding None (v p) else v p
moved_spot v d p Elsewhere = v p

abbrev pub plain_left : Plain → View → Decisions → Route → Spot
plain_left plain v d p =
    if plain.is_at p && d plain.part p then holding (plain.new (v p).value) (v p) else v p

-- The spot at each path after a job of which these parts are done. A part that isn't done changes nothing.
abbrev pub outcome : View → Job → Decisions → View
outcome v (Copy pairs) d p = option_map_or
    (λ source. holding (copied_target d p (v source).value (v p).value) (v p)) (source_of pairs p) (v p)
outcome v (Move pairs) d p = moved_spot v d p (place pairs p)
outcome v (Delete paths) d p = plain_left (deleting paths) v d p
outcome v (MakeFolder path) d p = plain_left (making path) v d p
outcome v (SetMode paths mode) d p = plain_left (setting paths mode) v d p
outcome v (MakeLink path text) d p = plain_left (linking path text) v d p
outcome v (Save path bytes) d p = plain_left (saving path bytes) v d p
