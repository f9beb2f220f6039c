-- Where a new thing is made, and why none is. The rule is that of a path for a new thing
-- (`op_plan`): own, after mc(1), F7.
use Rattle.std.specs.Prelude.{◌≡◌, ◌⊎◌, ℕ, Bool, true, false, ◌||◌, List, [], ◌∷◌}
use Rattle.std.specs.Prelude.{codes, Option, Some, None, Result, Ok, Err, is_some}
use Rattle.std.specs.Str.{bytes_eq}
use Rattle.mc_text.specs.Routes.{Route, last_of}
use Rattle.tree_trait.specs.Change.{CallLog, current}
use Rattle.tree_trait.specs.Answers.{IfKnown}
use Rattle.text_scan.specs.Words.{behind_word}
use Rattle.op_plan.specs.declared.error.PlanError.{PlanError}
use Rattle.op_plan.specs.declared.error.PlanError.TheVariants as place
use Rattle.op_plan.specs.Answering.{Plans}
use Rattle.op_plan.specs.Destinations.{last_part}
use Rattle.op_plan.specs.Planning.{place_of}
use Rattle.session_entries.specs.declared.refusal.PlanError.TheVariants.{NoSelection, TooLong, Nested}
use Rattle.session_entries.specs.declared.refusal.PlanError.TheVariants.{Source, BadMask, Target}
use Rattle.session_entries.specs.declared.refusal.PlanError.TheVariants.{TargetThere, SameFile, IntoItself}
use Rattle.session_entries.specs.declared.refusal.PlanError.TheVariants.{TwoToOne, BadLinkText}
use Rattle.session_entries.specs.declared.refusal.TypedError.TheVariants.{BadPattern, BadFormat, BadName}
use Rattle.session_entries.specs.declared.refusal.Refusal.{Refusal}
use Rattle.session_entries.specs.declared.refusal.Refusal.TheVariants.{Tree, Read, Resolve}
use Rattle.session_entries.specs.declared.refusal.Refusal.TheVariants.{Plan, Begin, Typed}
use Rattle.ui_plans.specs.declared.new_place.NewPlace.{NewPlace}
use Rattle.ui_plans.specs.declared.new_place.NewPlace.TheVariants.{At, Refused}
use Rattle.ui_plans.specs.Plans.{IsVacant}
use Rattle.ui_plans.specs.Reading.{sight}

-- A typed tilde, alone or before a slash, stands for HOME, which isn't known here.
abbrev pub is_below_home : List ℕ → Bool
is_below_home typed = bytes_eq typed (codes "~") || is_some (behind_word (codes "~/") typed)

-- what a typed text comes to in a folder, as far as the tree tells: the path of a new
-- thing, or why there is none
abbrev pub IsPlace : Option CallLog → Route → List ℕ → Result Route PlanError → Type 0
IsPlace contents from typed result =
    IfKnown contents (λ log. Plans (place_of (current log) from typed) result)

-- A new thing may be made at a path: what is typed before its last slash leads from the panel's folder to
-- that of the path, the last part is its name, and nothing stands there.
pub record IsNewPlace (contents : Option CallLog) (from : Route) (typed : List ℕ)
    (path : Route) : Type 0 where
  pub not_home : is_below_home typed ≡ false
  pub named : last_of path ≡ Some (last_part typed)
  pub place : IsPlace contents from typed (Ok path)
  pub vacant : IsVacant (sight contents) path

-- None is made: something stands there; no way leads to its folder, or nothing can be seen of the path; or
-- what is typed ends in no name, or begins at HOME, and of that no more is said.
abbrev pub PlaceRefused : Option CallLog → Route → List ℕ → Refusal → Type 0
PlaceRefused contents from typed (Plan (TargetThere there)) =
    (is_below_home typed ≡ false) × IsPlace contents from typed (Err (place.TargetThere there))
PlaceRefused contents from typed (Plan (Target e)) =
    (is_below_home typed ≡ false) × IsPlace contents from typed (Err (place.Target e))
PlaceRefused contents from typed (Typed BadName) =
    (is_below_home typed ≡ true) ⊎ IsPlace contents from typed (Err place.BadMask)
PlaceRefused contents from typed (Typed BadPattern) = ⊥
PlaceRefused contents from typed (Typed (BadFormat at)) = ⊥
PlaceRefused contents from typed (Plan BadMask) = ⊥
PlaceRefused contents from typed (Plan NoSelection) = ⊥
PlaceRefused contents from typed (Plan TooLong) = ⊥
PlaceRefused contents from typed (Plan (Nested first second)) = ⊥
PlaceRefused contents from typed (Plan (Source path e)) = ⊥
PlaceRefused contents from typed (Plan (SameFile path)) = ⊥
PlaceRefused contents from typed (Plan (IntoItself source target)) = ⊥
PlaceRefused contents from typed (Plan (TwoToOne first second)) = ⊥
PlaceRefused contents from typed (Plan BadLinkText) = ⊥
PlaceRefused contents from typed (Tree path e) = ⊥
PlaceRefused contents from typed (Read path e) = ⊥
PlaceRefused contents from typed (Resolve e) = ⊥
PlaceRefused contents from typed (Begin error) = ⊥

-- what looking for it comes to: the path, or why there is none
abbrev pub PlaceLeads : Option CallLog → Route → List ℕ → NewPlace → Type 0
PlaceLeads contents from typed (At path) = IsNewPlace contents from typed path
PlaceLeads contents from typed (Refused refusal) = PlaceRefused contents from typed refusal

-- what it was refused
abbrev pub place_refusals : NewPlace → List Refusal
place_refusals (At path) = []
place_refusals (Refused refusal) = refusal ∷ []

-- the refusal that an error of such a path is: where no mask was asked for, what was typed makes no
-- name; want of memory is none
abbrev pub told_of_place : PlanError → Option Refusal
told_of_place place.BadMask = Some (Typed BadName)
told_of_place (place.Target e) = Some (Plan (Target e))
told_of_place (place.TargetThere path) = Some (Plan (TargetThere path))
told_of_place place.NoSelection = None
told_of_place (place.Source path e) = None
told_of_place (place.SameFile path) = None
told_of_place (place.IntoItself source target) = None
told_of_place (place.Nested one second) = None
told_of_place (place.TwoToOne one second) = None
told_of_place place.BadLinkText = None
told_of_place place.Memory = None

-- what a refused path comes to
abbrev pub IsToldOfPlace : PlanError → NewPlace → Type 0
IsToldOfPlace error (At path) = ⊥
IsToldOfPlace error (Refused refusal) = told_of_place error ≡ Some refusal
