-- What a refused plan tells of the tree.
use Rattle.std.proofs.Common.{◌≡◌, ℕ, true, false, [], ◌∷◌, refl, sym, ◌∙◌, subst, Option, Some, None, Result, Ok, Err}
use Rattle.std.specs.Prelude.{⊤, ◌||◌, IfOk}
use Rattle.std.proofs.lemmas.Bool.{false≢true}
use Rattle.mc_text.specs.declared.error.NoMemory.{NoMemory}
use Rattle.mc_text.specs.Routes.{Route, is_prefix}
use Rattle.tree_trait.specs.declared.calls.TreeError.{TreeError}
use Rattle.tree_trait.specs.declared.calls.TreeError.TheVariants as tree
use Rattle.tree_trait.specs.Calls.{Stat}
use Rattle.tree_trait.specs.Refusals.{refusal_of}
use Rattle.tree_trait.specs.Change.{CallLog, current}
use Rattle.tree_trait.specs.Answers.{IfKnown, HasRisen}
use Rattle.resolving.specs.declared.error.ResolveError.{ResolveError}
use Rattle.resolving.specs.declared.error.ResolveError.TheVariants as resolve
use Rattle.op_plan.specs.declared.error.PlanError.{PlanError}
use Rattle.op_plan.specs.declared.error.PlanError.TheVariants as place
use Rattle.op_plan.specs.Answering.{HasPlanCause, and_then, is_fault}
use Rattle.session_entries.specs.declared.refusal.Refusal.{Refusal}
use Rattle.session_entries.specs.declared.refusal.Refusal.TheVariants.{Plan}
use Rattle.session_entries.specs.declared.refusal.PlanError.TheVariants.{NoSelection, Nested, Source, BadMask, Target, TargetThere, SameFile, IntoItself, TwoToOne, BadLinkText}
use Rattle.session_entries.specs.Refusals.{AreRefused, HasCause, IsSourceRefused, IsTargetRefused}
use Rattle.ui_plans.specs.declared.carrying.JobPlan.{JobPlan}
use Rattle.ui_plans.specs.declared.carrying.JobPlan.TheVariants.{Begins, Refuses}
use Rattle.ui_plans.specs.Choices.{plan_refusals}
use Rattle.ui_plans.specs.Reading.{ReadsTree}
use Rattle.ui_plans.specs.Refused.{has_fault}
use Rattle.ui_plans.specs.Told.{IsToldAs, told_as}

-- a check that lets something pass, and what comes after it
pub after : {A B : Type 0} (r : Result A PlanError) (next : A → Result B PlanError) (y : B) → and_then r next ≡ Ok y → (x : A) × (r ≡ Ok x) × (next x ≡ Ok y)
after (Ok x) next y h = (x, refl, h)
after (Err e) next y h = absurd cc

-- a refusal is that of a check, or of what comes after what it let pass
pub refused_in : {A B : Type 0} (P : Type 0) (r : Result A PlanError) (next : A → Result B PlanError) (e : PlanError) → and_then r next ≡ Err e
    → (r ≡ Err e → P) → ((x : A) → r ≡ Ok x → next x ≡ Err e → P) → P
refused_in P (Ok x) next e h first later = later x refl h
refused_in P (Err other) next e h first later = first cc

-- what the tree has where a plan is refused so
abbrev pub HasTreeCause : CallLog → PlanError → Type 0
HasTreeCause log place.NoSelection = ⊤
HasTreeCause log (place.Nested one second) = (is_prefix one second || is_prefix second one) ≡ true
HasTreeCause log (place.Source path e) = IsSourceRefused log path e
HasTreeCause log place.BadMask = ⊤
HasTreeCause log (place.Target e) = IsTargetRefused log e
HasTreeCause log (place.TargetThere path) = refusal_of (current log) (Stat path) ≡ None
HasTreeCause log (place.SameFile path) = refusal_of (current log) (Stat path) ≡ None
HasTreeCause log (place.IntoItself source target) =
    (refusal_of (current log) (Stat source) ≡ None) × ((is_prefix source target || is_prefix target source) ≡ true)
HasTreeCause log (place.TwoToOne one second) = (refusal_of (current log) (Stat one) ≡ None) × (refusal_of (current log) (Stat second) ≡ None)
HasTreeCause log place.BadLinkText = ⊤
HasTreeCause log place.Memory = ⊤

told_cause : (log : CallLog) (error : PlanError) (refusal : Refusal) → HasTreeCause log error → told_as error ≡ Some refusal → HasCause log refusal
told_cause log place.NoSelection refusal cause told = let is : Plan NoSelection ≡ refusal = cc in subst (HasCause log) is tt
told_cause log (place.Nested one second) refusal cause told = let is : Plan (Nested one second) ≡ refusal = cc in subst (HasCause log) is cause
told_cause log (place.Source path e) refusal cause told = let is : Plan (Source path e) ≡ refusal = cc in subst (HasCause log) is cause
told_cause log place.BadMask refusal cause told = let is : Plan BadMask ≡ refusal = cc in subst (HasCause log) is tt
told_cause log (place.Target e) refusal cause told = let is : Plan (Target e) ≡ refusal = cc in subst (HasCause log) is cause
told_cause log (place.TargetThere path) refusal cause told = let is : Plan (TargetThere path) ≡ refusal = cc in subst (HasCause log) is cause
told_cause log (place.SameFile path) refusal cause told = let is : Plan (SameFile path) ≡ refusal = cc in subst (HasCause log) is cause
told_cause log (place.IntoItself source target) refusal cause told = let is : Plan (IntoItself source target) ≡ refusal = cc in subst (HasCause log) is cause
told_cause log (place.TwoToOne one second) refusal cause told = let is : Plan (TwoToOne one second) ≡ refusal = cc in subst (HasCause log) is cause
told_cause log place.BadLinkText refusal cause told = let is : Plan BadLinkText ≡ refusal = cc in subst (HasCause log) is tt
told_cause log place.Memory refusal cause told = absurd cc

told_called : (log : CallLog) (error : PlanError) (plan : JobPlan) → HasTreeCause log error → IsToldAs error plan → AreRefused log (plan_refusals plan)
told_called log error (Begins plan) cause told = absurd told
told_called log error (Refuses refusal) cause told = (told_cause log error refusal cause told, tt)

-- what is told of a plan that no fault refused is no fault
pub no_fault : (error : PlanError) (refusal other : Refusal) → has_fault (refusal ∷ []) ≡ false → has_fault (other ∷ []) ≡ true → refusal ≡ other → is_fault error ≡ true
no_fault error refusal other none h is = absurd (false≢true (sym (subst (λ r. has_fault (r ∷ []) ≡ false) is none) ∙ h))

source_fault : (path : Route) (e : TreeError) → has_fault (Plan (Source path e) ∷ []) ≡ true → is_fault (place.Source path e) ≡ true
source_fault path tree.Fault h = refl
source_fault path tree.Missing h = absurd cc
source_fault path tree.NotFolder h = absurd cc
source_fault path tree.Denied h = absurd cc
source_fault path tree.Exists h = absurd cc
source_fault path tree.IsFolder h = absurd cc
source_fault path tree.NotEmpty h = absurd cc
source_fault path tree.IntoItself h = absurd cc
source_fault path tree.Mounted h = absurd cc
source_fault path tree.CrossMount h = absurd cc
source_fault path tree.NoSpace h = absurd cc
source_fault path tree.Special h = absurd cc
source_fault path tree.Memory h = absurd cc

pub target_fault : (e : ResolveError) → has_fault (Plan (Target e) ∷ []) ≡ true → is_fault (place.Target e) ≡ true
target_fault resolve.Fault h = refl
target_fault (resolve.Tree path e) h = absurd cc
target_fault resolve.TooManyLinks h = absurd cc
target_fault resolve.TooLong h = absurd cc
target_fault resolve.BadName h = absurd cc
target_fault resolve.Memory h = absurd cc

told_fault : (error : PlanError) (refusal : Refusal) → told_as error ≡ Some refusal → has_fault (refusal ∷ []) ≡ true → is_fault error ≡ true
told_fault place.NoSelection refusal told h =
    let none : has_fault (Plan NoSelection ∷ []) ≡ false = refl in no_fault place.NoSelection (Plan NoSelection) refusal none h cc
told_fault (place.Nested one second) refusal told h =
    let none : has_fault (Plan (Nested one second) ∷ []) ≡ false = refl in no_fault (place.Nested one second) (Plan (Nested one second)) refusal none h cc
told_fault (place.Source path e) refusal told h =
    let is : refusal ≡ Plan (Source path e) = cc in source_fault path e (subst (λ r. has_fault (r ∷ []) ≡ true) is h)
told_fault place.BadMask refusal told h =
    let none : has_fault (Plan BadMask ∷ []) ≡ false = refl in no_fault place.BadMask (Plan BadMask) refusal none h cc
told_fault (place.Target e) refusal told h = let is : refusal ≡ Plan (Target e) = cc in target_fault e (subst (λ r. has_fault (r ∷ []) ≡ true) is h)
told_fault (place.TargetThere path) refusal told h =
    let none : has_fault (Plan (TargetThere path) ∷ []) ≡ false = refl in no_fault (place.TargetThere path) (Plan (TargetThere path)) refusal none h cc
told_fault (place.SameFile path) refusal told h =
    let none : has_fault (Plan (SameFile path) ∷ []) ≡ false = refl in no_fault (place.SameFile path) (Plan (SameFile path)) refusal none h cc
told_fault (place.IntoItself source target) refusal told h =
    let none : has_fault (Plan (IntoItself source target) ∷ []) ≡ false = refl in no_fault (place.IntoItself source target) (Plan (IntoItself source target)) refusal none h cc
told_fault (place.TwoToOne one second) refusal told h =
    let none : has_fault (Plan (TwoToOne one second) ∷ []) ≡ false = refl in no_fault (place.TwoToOne one second) (Plan (TwoToOne one second)) refusal none h cc
told_fault place.BadLinkText refusal told h =
    let none : has_fault (Plan BadLinkText ∷ []) ≡ false = refl in no_fault place.BadLinkText (Plan BadLinkText) refusal none h cc
told_fault place.Memory refusal told h = absurd cc

risen : {A : Type 0} (f0 f1 : ℕ) (error : PlanError) (plan : JobPlan) → HasPlanCause {A = A} f0 f1 (Err error) → IsToldAs error plan
    → has_fault (plan_refusals plan) ≡ true → HasRisen f0 f1
risen f0 f1 error (Begins plan) cause told h = absurd told
risen f0 f1 error (Refuses refusal) cause told h = cause.risen (told_fault error refusal told h)

-- what a refused plan tells of the tree
pub refused_reads : {A : Type 0} (contents after : Option CallLog) (f0 f1 : ℕ) (error : PlanError) (result : Result JobPlan NoMemory) → after ≡ contents
    → IfKnown contents (λ log. HasTreeCause log error) → HasPlanCause {A = A} f0 f1 (Err error) → IfOk result (IsToldAs error)
    → ReadsTree plan_refusals result contents after f0 f1
refused_reads contents after f0 f1 error (Err e) same known cause told = record { same = same; later = cause.later; called = λ log is. tt; fault = tt }
refused_reads contents after f0 f1 error (Ok plan) same known cause told = record {
  same = same;
  later = cause.later;
  called = λ log is. told_called log error plan (known log is) told;
  fault = risen f0 f1 error plan cause told;
}
