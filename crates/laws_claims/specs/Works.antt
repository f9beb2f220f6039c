-- What the parts of a job do to the view.
use Rattle.std.specs.Prelude.{true, false, ℕ, Bool, ◌&&◌, ◌==◌, if◌then◌else◌}
use Rattle.std.specs.Prelude.{List, [], ◌∷◌, ◌++◌, Option, Some, None, bit_or}
use Rattle.std.specs.Option.{option_map, option_map_or}
use Rattle.std.specs.List.{list_any}
use Rattle.mc_text.specs.Routes.{Route, same_path, is_prefix}
use Rattle.tree_trait.specs.FileSystem.{Value, View}
use Rattle.job_reports.specs.declared.job.Pair.{Pair}
use Rattle.laws_claims.specs.Ways.{below}
use Rattle.laws_claims.specs.Views.{Change, Nothing, Puts, Carries, apply, one_mount}
use Rattle.mc_text.specs.declared.kind.Kind.{Kind}
use Rattle.mc_text.specs.declared.kind.Kind.TheVariants.{File, Folder, Link, Other}
use Rattle.op_plan.specs.declared.job.Job.{Job}
use Rattle.op_plan.specs.declared.job.Job.TheVariants.{Copy, Move, Delete, MakeFolder}
use Rattle.op_plan.specs.declared.job.Job.TheVariants.{SetMode, MakeLink, Save}

-- The parts of an item: a folder is made, a thing is placed, by a copy or by one renaming, a mode is
-- set, a thing is removed.
pub data Part : Type 0 where
  Make : Part
  Place : Part
  Set : Part
  Remove : Part

-- A part that is done, as an entry says. Its path is that of the item's target, but of a source or of a
-- thing deleted where it is removed.
pub data Work : Type 0 where
  Did : (part : Part) (path : Route) → Work

abbrev pub number : Part → ℕ
number Make = 0
number Place = 1
number Set = 2
number Remove = 3

abbrev pub is_part : Part → Part → Bool
is_part a b = number a == number b

abbrev pub file : List ℕ → ℕ → Value
file bytes mode = record { kind = File; bytes = bytes; mode = mode; unnamed = 0 }

abbrev pub folder : ℕ → Value
folder mode = record { kind = Folder; bytes = []; mode = mode; unnamed = 0 }

abbrev pub link : List ℕ → Value
link text = record { kind = Link; bytes = text; mode = 0; unnamed = 0 }

abbrev pub with_mode : ℕ → Value → Value
with_mode mode x = record x { mode = mode }

abbrev pub mode_or : Option Value → ℕ → ℕ
mode_or o mode = option_map_or (λ (x : Value). x.mode) o mode

abbrev pub file_kind : Kind → Bool
file_kind File = true
file_kind Folder = false
file_kind Link = false
file_kind Other = false

-- the mode of a file that is there, or this one
abbrev pub file_mode_or : Option Value → ℕ → ℕ
file_mode_or o mode = option_map_or (λ (x : Value). if file_kind x.kind then x.mode else mode) o mode

-- a folder with the mode of this one, and open to its owner
abbrev pub made_for : Option Value → Option Value
made_for source = option_map (λ x. folder (bit_or x.mode 0o700)) source

-- one of these paths is at or above p
abbrev pub covers : List Route → Route → Bool
covers paths p = list_any (λ path. is_prefix path p) paths

abbrev pub is_one_of : List Route → Route → Bool
is_one_of paths p = list_any (same_path p) paths

-- the source of what is at or below a target
abbrev pub source_of : List Pair → Route → Option Route
source_of [] p = None
source_of (pair ∷ pairs) p =
    option_map_or (λ rest. Some (rest ++ pair.source)) (below pair.target p) (source_of pairs p)

abbrev pub from_source : List Pair → Route → (Route → Change) → Change
from_source pairs p change = option_map_or change (source_of pairs p) Nothing

abbrev pub sources : List Pair → List Route
sources [] = []
sources (pair ∷ pairs) = pair.source ∷ sources pairs

-- a part of a copy, at a target
abbrev pub copies : View → Part → Route → Route → Change
copies v Make p source = Puts p (made_for (v source).value)
copies v Place p source = Puts p (v source).value
copies v Set p source = Puts p (option_map (with_mode (mode_or (v source).value 0)) (v p).value)
copies v Remove p source = Nothing

-- a part of a move
abbrev pub moves : List Pair → View → Part → Route → Change
moves pairs v Make p = from_source pairs p (copies v Make p)
moves pairs v Place p =
    from_source pairs p (λ source. if one_mount v source p then Carries source p else Puts p (v source).value)
moves pairs v Set p = from_source pairs p (copies v Set p)
moves pairs v Remove p = if covers (sources pairs) p then Puts p None else Nothing

-- A job that reads nothing but its own paths: the part that each has, where, and the
-- new value by the old one.
pub record Plain : Type 0 where
  pub part : Part
  pub is_at : Route → Bool
  pub new : Option Value → Option Value

abbrev pub deleting : List Route → Plain
deleting paths = record { part = Remove; is_at = covers paths; new = λ o. None }

abbrev pub making : Route → Plain
making path = record { part = Make; is_at = λ p. same_path p path; new = λ o. Some (folder 0o755) }

abbrev pub setting : List Route → ℕ → Plain
setting paths mode = record { part = Set; is_at = is_one_of paths; new = option_map (with_mode mode) }

abbrev pub linking : Route → List ℕ → Plain
linking path text = record { part = Place; is_at = λ p. same_path p path; new = λ o. Some (link text) }

abbrev pub saving : Route → List ℕ → Plain
saving path bytes = record {
  part = Place;
  is_at = λ p. same_path p path;
  new = λ o. Some (file bytes (file_mode_or o 0o644));
}

abbrev pub plainly : Plain → View → Part → Route → Change
plainly plain v part p =
    if is_part part plain.part && plain.is_at p then Puts p (plain.new (v p).value) else Nothing

-- the change of the view that a work of a job is
abbrev pub change : Job → View → Work → Change
change (Copy pairs) v (Did part p) = from_source pairs p (copies v part p)
change (Move pairs) v (Did part p) = moves pairs v part p
change (Delete paths) v (Did part p) = plainly (deleting paths) v part p
change (MakeFolder path) v (Did part p) = plainly (making path) v part p
change (SetMode paths mode) v (Did part p) = plainly (setting paths mode) v part p
change (MakeLink path text) v (Did part p) = plainly (linking path text) v part p
change (Save path bytes) v (Did part p) = plainly (saving path bytes) v part p

abbrev pub does : Job → Work → View → View
does job work v = apply (change job v work) v

-- the view after works of one job, the newest first
abbrev pub after_works : Job → List Work → View → View
after_works job [] v = v
after_works job (work ∷ older) v = does job work (after_works job older v)
