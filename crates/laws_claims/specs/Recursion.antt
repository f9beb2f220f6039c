-- The outcome of a copy once more, as one recursion over the selected subtree. It is what
-- `outcome` says path by path.
use Rattle.std.specs.Prelude.{◌≡◌, ℕ, Bool, true, false, ◌||◌, if◌then◌else◌, List, [], ◌∷◌}
use Rattle.mc_text.specs.Routes.{Route, same_path, is_prefix}
use Rattle.tree_trait.specs.FileSystem.{View, view_with}
use Rattle.job_reports.specs.declared.job.Pair.{Pair}
use Rattle.op_plan.specs.declared.job.Job.TheVariants.{Copy}
use Rattle.laws_claims.specs.Works.{Make, Place}
use Rattle.laws_claims.specs.Outcome.{Decisions, copied_target, outcome}
use Rattle.laws_claims.specs.Planned.{is_folder}

-- the names in a folder, each with what lies below it
pub data Shape : Type 0 where
  End : Shape
  Child : (name : List ℕ) (below next : Shape) → Shape

-- where Make is done or the target is a folder, the children come
abbrev pub is_open : View → Decisions → Route → Bool
is_open v d target = d Make target || is_folder (v target).value

-- the children of a source, in their order, each before what lies below it
abbrev pub copy_children : View → Decisions → Route → Route → Shape → View → View
copy_children v d source target End sofar = sofar
copy_children v d source target (Child name below next) sofar =
    let here = view_with sofar (name ∷ target)
    (copied_target d (name ∷ target) (v (name ∷ source)).value (v (name ∷ target)).value) in
    let there = copy_children v d (name ∷ source) (name ∷ target) below here in
    copy_children v d source target next (if is_open v d (name ∷ target) then there else here)

abbrev pub copy_all : View → Decisions → Pair → Shape → View
copy_all v d pair shape =
    let here =
    view_with v pair.target (copied_target d pair.target (v pair.source).value (v pair.target).value) in
    if is_open v d pair.target then copy_children v d pair.source pair.target shape here else here

-- a path is that of one of these, below a folder
abbrev pub lists : Route → Shape → Route → Bool
lists top End p = false
lists top (Child name below next) p =
    same_path p (name ∷ top) || (lists (name ∷ top) below p || lists top next p)

-- nothing is done outside the subtree, nor below a target that isn't open
pub record IsWithin (v : View) (d : Decisions) (pair : Pair) (shape : Shape) : Type 0 where
  pub inside : (p : Route) → same_path p pair.target ≡ false → lists pair.target shape p ≡ false
      → (d Place p ≡ false) × (d Make p ≡ false)
  pub opened : (target p : Route) → is_open v d target ≡ false → is_prefix target p ≡ true
      → same_path p target ≡ false → (d Place p ≡ false) × (d Make p ≡ false)

abbrev pub RecursionLaw : Type 0
RecursionLaw = (v : View) (d : Decisions) (pair : Pair) (shape : Shape) → IsWithin v d pair shape
    → copy_all v d pair shape ≡ outcome v (Copy (pair ∷ [])) d
