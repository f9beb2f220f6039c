-- The names that a job changes; and of a copy also those of the parts of its own job beside the target.
use Rattle.std.specs.Prelude.{◌≡◌, ◌⊎◌, ℕ, Bool, true, false, ◌||◌}
use Rattle.std.proofs.Common.{[], ◌∷◌, ◌++◌, sym, ◌∙◌, ap, subst, inl, inr}
use Rattle.std.proofs.lemmas.Bool.{or_left}
use Rattle.mc_text.specs.Routes.{Route, is_prefix, same_path}
use Rattle.tree_trait.proofs.Visible.{same_path-self}
use Rattle.job_reports.specs.declared.job.Pair.{Pair}
use Rattle.job_reports.specs.Jobs.{ItemOfJob, Copies, Moves, Removes, Makes, MakesLink, Sets, RemovesEmptied}
use Rattle.job_reports.specs.Paths.{folder_of}
use Rattle.copy_file.specs.PartNames.{part_name}
use Rattle.copy_tree.specs.InPlace.{IsMoved}
use Rattle.copy_tree.specs.MadeCalls.{IsPartFor}
use Rattle.copy_move.specs.declared.work.Work.{Work}
use Rattle.copy_move.specs.declared.work.Work.TheVariants.{Copy, Delete, Make, Move, SetMode, RemoveEmptied}
use Rattle.laws_sessions.proofs.PathsBelow.{in_or_below, is_below}

-- a path of which a job may change the name, parts aside: what it touches, but for one that only sets a mode
abbrev pub may_change : ItemOfJob → Route → Bool
may_change (Copies source target) path = is_prefix target path
may_change (Moves source target) path = is_prefix source path || is_prefix target path
may_change (Removes top) path = is_prefix top path
may_change (Makes made) path = same_path path made
may_change (MakesLink made text) path = same_path path made
may_change (Sets thing mode) path = false
may_change (RemovesEmptied folder) path = same_path path folder

-- a name of a copy's own: its target's or one below it, or that of a part of its job beside the target
abbrev pub IsOwnName : ℕ → Pair → Route → Type 0
IsOwnName job top path = (is_prefix top.target path ≡ true) ⊎ IsPartFor job top.target path

-- each lies in the folder that holds the target, or at or below the target
pub own_in : (job : ℕ) (top : Pair) (path : Route) → IsOwnName job top path → (same_path (folder_of path) (folder_of top.target) || is_prefix top.target (folder_of path)) ≡ true
own_in job top path (inl below) = in_or_below top.target path below
own_in job top path (inr (k, is)) = or_left _ _ (subst (λ q. same_path (folder_of q) (folder_of top.target) ≡ true) (sym is) (same_path-self (folder_of top.target)))

-- a part beside the target of what lies at or below the source has such a name
pub own_part : (job : ℕ) (top : Pair) (source target part : Route) → IsMoved top source target → IsPartFor job target part → IsOwnName job top part
own_part job top source target part moved (k, is) = by moved.rest moved.to
  where
    by : (rest : Route) → target ≡ rest ++ top.target → IsOwnName job top part
    by [] to = inr (k, is ∙ ap (λ q. (let r : Route = part_name job k ∷ folder_of q in r)) to)
    by (name ∷ rest) to = inl (subst (λ q. is_prefix top.target q ≡ true) (sym (is ∙ ap (λ q. (let r : Route = part_name job k ∷ folder_of q in r)) to)) (is_below top.target (part_name job k ∷ rest)))

-- a part of this work has this path
abbrev pub HoldsPart : Work → Route → Type 0
HoldsPart (Copy c) path = IsOwnName c.at.job c.top path
HoldsPart (Delete d) path = ⊥
HoldsPart (Make m) path = ⊥
HoldsPart (Move m) path = ⊥
HoldsPart (SetMode s) path = ⊥
HoldsPart (RemoveEmptied r) path = ⊥
