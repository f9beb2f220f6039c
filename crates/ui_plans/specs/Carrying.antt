-- Where things are copied or moved to, and why none is. The rule is that of a plan (`op_plan`), after
-- mc(1), "Copy, Rename": masks.
use Rattle.std.specs.Prelude.{◌≡◌, ◌⊎◌, ℕ, true, false, List, Option, Some, Result, Ok, Err}
use Rattle.mc_text.specs.Routes.{Route}
use Rattle.tree_trait.specs.Change.{CallLog, current}
use Rattle.tree_trait.specs.Answers.{IfKnown}
use Rattle.job_reports.specs.declared.job.Pair.{Pair}
use Rattle.op_plan.specs.declared.error.PlanError.{PlanError}
use Rattle.op_plan.specs.declared.job.Job.{Job as Planned}
use Rattle.op_plan.specs.declared.job.Job.TheVariants as planned
use Rattle.op_plan.specs.declared.request.Request.{Request}
use Rattle.op_plan.specs.declared.request.Request.TheVariants as asked
use Rattle.op_plan.specs.Answering.{Plans}
use Rattle.op_plan.specs.Asking.{ArePairsFor}
use Rattle.op_plan.specs.Planning.{plan_of}
use Rattle.op_plan.specs.Soundness.{ArePairsApart}
use Rattle.session_entries.specs.Sources.{are_workable}
use Rattle.session_entries.specs.declared.refusal.PlanError.TheVariants.{BadMask}
use Rattle.session_entries.specs.declared.refusal.Refusal.{Refusal}
use Rattle.session_entries.specs.declared.refusal.Refusal.TheVariants.{Plan}
use Rattle.ui_words.specs.declared.carry.Carry.{Carry}
use Rattle.ui_words.specs.declared.carry.Carry.TheVariants as carry
use Rattle.ui_plans.specs.declared.carrying.JobPlan.{JobPlan}
use Rattle.ui_plans.specs.declared.carrying.JobPlan.TheVariants.{Begins, Refuses}
use Rattle.ui_plans.specs.Plans.{carry_plan}
use Rattle.ui_plans.specs.Places.{is_below_home}
use Rattle.ui_plans.specs.Told.{told_as}

-- what is asked for: the sources, the mask that they are to match, and the destination
-- that was typed in a folder
abbrev pub carry_request : Carry → List Route → List ℕ → Route → List ℕ → Request
carry_request carry.Copy paths mask from typed = asked.Copy paths mask from typed
carry_request carry.Move paths mask from typed = asked.Move paths mask from typed

-- the plan of such a request, and that a plan is one
abbrev pub planned_as : Carry → List Pair → Planned
planned_as carry.Copy pairs = planned.Copy pairs
planned_as carry.Move pairs = planned.Move pairs

abbrev pub IsPlanOf : Carry → Planned → Type 0
IsPlanOf how (planned.Copy pairs) = how ≡ carry.Copy
IsPlanOf how (planned.Move pairs) = how ≡ carry.Move
IsPlanOf how job = ⊥

-- what the plan of a request comes to, as far as the tree tells
abbrev pub IsPlanned : Option CallLog → Request → Result Planned PlanError → Type 0
IsPlanned contents request result = IfKnown contents (λ log. Plans (plan_of (current log) request) result)

-- Sources are to be copied or moved to their targets: they are those that were asked for, in their order,
-- none of the sources and the targets is, holds or lies in another, and they are what the plan comes to.
-- What stands at a target is the job's to ask about.
pub record AreCarried (how : Carry) (contents : Option CallLog) (paths : List Route) (mask : List ℕ)
    (from : Route) (typed : List ℕ) (pairs : List Pair) : Type 0 where
  pub not_home : is_below_home typed ≡ false
  pub asked_for : ArePairsFor paths mask typed pairs
  pub apart : ArePairsApart pairs
  pub planned : IsPlanned contents (carry_request how paths mask from typed) (Ok (planned_as how pairs))

-- the plan comes to this refusal
pub record HasNoPlan (contents : Option CallLog) (request : Request) (refusal : Refusal) : Type 0 where
  pub error : PlanError
  pub planned : IsPlanned contents request (Err error)
  pub told : told_as error ≡ Some refusal

-- Nothing is copied or moved: what is typed begins at HOME, which isn't known here; or the plan is refused.
abbrev pub CarryRefused : Carry → Option CallLog → List Route → List ℕ → Route → List ℕ → Refusal → Type 0
CarryRefused how contents paths mask from typed refusal =
    ((is_below_home typed ≡ true) × (refusal ≡ Plan BadMask))
    ⊎ ((is_below_home typed ≡ false) × HasNoPlan contents (carry_request how paths mask from typed) refusal)

-- what planning to copy or to move things comes to: the plan, or why it is refused
abbrev pub CarryLeads : Carry → Option CallLog → List Route → List ℕ → Route → List ℕ → JobPlan → Type 0
CarryLeads how contents paths mask from typed (Begins plan) =
    (pairs : List Pair) × AreCarried how contents paths mask from typed pairs × (plan ≡ carry_plan how pairs)
    × (are_workable plan ≡ true)
CarryLeads how contents paths mask from typed (Refuses refusal) =
    CarryRefused how contents paths mask from typed refusal

-- the job of sources with their targets
abbrev pub BeginsCarry : Carry → List Pair → JobPlan → Type 0
BeginsCarry how pairs (Begins plan) = (plan ≡ carry_plan how pairs) × (are_workable plan ≡ true)
BeginsCarry how pairs (Refuses refusal) = ⊥
