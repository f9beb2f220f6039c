-- What a box may ask of, and the plans that it confirms.
use Rattle.std.specs.Prelude.{◌≡◌, ℕ, Bool, true, false, ◌&&◌, not, is_some}
use Rattle.std.specs.Prelude.{nat_le, ⊤, List, [], ◌∷◌, length, Option, Some, None}
use Rattle.std.specs.List.{list_all}
use Rattle.std.specs.Option.{option_map}
use Rattle.mc_text.specs.Routes.{Route, same_path, spelled_route}
use Rattle.tree_trait.specs.FileSystem.{Value, View}
use Rattle.job_reports.specs.declared.job.Job.{Job}
use Rattle.job_reports.specs.declared.job.Job.TheVariants as plan
use Rattle.job_reports.specs.declared.job.Pair.{Pair}
use Rattle.ui_words.specs.Chosen.{is_within}
use Rattle.ui_words.specs.declared.carry.Carry.{Carry}
use Rattle.ui_words.specs.declared.carry.Carry.TheVariants as carry

-- a box may ask of the thing at a path: exactly where something stands there, as far as the tree can be
-- seen, and the path isn't too long
abbrev pub MayAsk : Option View → Route → Bool → Type 0
MayAsk None path asks = ⊤
MayAsk (Some view) path asks = asks ≡ (is_some (view path).value && nat_le (length (spelled_route path)) 4096)

-- the thing at a path has a mode, as far as the tree can be seen
abbrev pub HasMode : Option View → Route → ℕ → Type 0
HasMode None path mode = ⊤
HasMode (Some view) path mode = option_map (λ (v : Value). v.mode) (view path).value ≡ Some mode

-- the plans of some things
abbrev pub delete_plan : List Route → Job
delete_plan paths = plan.Delete paths

abbrev pub mode_plan : List Route → ℕ → Job
mode_plan paths mode = plan.SetMode paths mode

-- the job that copies these, each with all that lies in it, or moves them
abbrev pub carry_plan : Carry → List Pair → Job
carry_plan carry.Copy pairs = plan.Copy pairs
carry_plan carry.Move pairs = plan.Move pairs

-- at least one source with its target, of which each lies in a folder; nothing is moved to where it is
abbrev pub lie_within : Pair → Bool
lie_within pair = is_within pair.source && is_within pair.target

abbrev pub can_go : Carry → Pair → Bool
can_go carry.Copy pair = lie_within pair
can_go carry.Move pair = lie_within pair && not (same_path pair.source pair.target)

abbrev pub can_be_carried : Carry → List Pair → Bool
can_be_carried how [] = false
can_be_carried how (pair ∷ pairs) = list_all (can_go how) (pair ∷ pairs)

-- nothing stands at a path, as far as the tree can be seen
abbrev pub IsVacant : Option View → Route → Type 0
IsVacant tree path = (view : View) → tree ≡ Some view → (view path).value ≡ None
