-- What the plan of a request comes to is what copying or moving comes to.
use Rattle.std.proofs.Common.{◌≡◌, inl, inr, ℕ, true, false, List, refl, subst, Option, Result, Ok, Err, arith}
use Rattle.std.specs.Prelude.{IfOk}
use Rattle.mc_text.specs.declared.error.NoMemory.{NoMemory}
use Rattle.mc_text.specs.Routes.{Route}
use Rattle.tree_trait.specs.Change.{CallLog}
use Rattle.job_reports.specs.declared.job.Pair.{Pair}
use Rattle.op_plan.specs.declared.error.PlanError.{PlanError}
use Rattle.op_plan.specs.declared.job.Job.{Job as Planned}
use Rattle.op_plan.specs.declared.job.Job.TheVariants as planned
use Rattle.op_plan.specs.declared.request.Request.{Request}
use Rattle.op_plan.specs.Answering.{HasPlanCause}
use Rattle.op_plan.specs.Asking.{ArePairsFor, IsJobFor}
use Rattle.op_plan.specs.Soundness.{ArePairsApart, IsSound}
use Rattle.ui_words.specs.Chosen.{can_be_chosen}
use Rattle.ui_words.specs.declared.carry.Carry.{Carry}
use Rattle.ui_words.specs.declared.carry.Carry.TheVariants as carry
use Rattle.ui_plans.specs.declared.carrying.JobPlan.{JobPlan}
use Rattle.ui_plans.specs.declared.carrying.JobPlan.TheVariants.{Begins, Refuses}
use Rattle.ui_plans.specs.Choices.{plan_refusals}
use Rattle.ui_plans.specs.Plans.{can_be_carried}
use Rattle.ui_plans.specs.Carrying.{BeginsCarry, CarryLeads, IsPlanOf, IsPlanned, carry_request, planned_as}
use Rattle.ui_plans.specs.Places.{is_below_home}
use Rattle.ui_plans.specs.Reading.{ReadsTree}
use Rattle.ui_plans.specs.Told.{IsToldAs}
use Rattle.ui_plans.proofs.Within.{carried_within}

-- a plan of sources with their targets keeps them apart
keeps_apart : (how : Carry) (pairs : List Pair) → IsSound (planned_as how pairs) → ArePairsApart pairs
keeps_apart carry.Copy pairs sound = sound
keeps_apart carry.Move pairs sound = sound

module _ (how : Carry) (paths : List Route) (mask : List ℕ) (from : Route) (typed : List ℕ) where
  abbrev request_is : Request → Type 0
  request_is request = request ≡ carry_request how paths mask from typed

  -- the plan of the request is one of its kind
  of_kind : (kind : Carry) (job : Planned) → IsJobFor (carry_request kind paths mask from typed) job → IsPlanOf kind job
  of_kind carry.Copy (planned.Copy pairs) asked = refl
  of_kind carry.Copy (planned.Move pairs) asked = absurd asked
  of_kind carry.Copy (planned.Delete at) asked = absurd asked
  of_kind carry.Copy (planned.MakeFolder at) asked = absurd asked
  of_kind carry.Copy (planned.SetMode at mode) asked = absurd asked
  of_kind carry.Copy (planned.MakeLink at text) asked = absurd asked
  of_kind carry.Copy (planned.Save at bytes) asked = absurd asked
  of_kind carry.Move (planned.Move pairs) asked = refl
  of_kind carry.Move (planned.Copy pairs) asked = absurd asked
  of_kind carry.Move (planned.Delete at) asked = absurd asked
  of_kind carry.Move (planned.MakeFolder at) asked = absurd asked
  of_kind carry.Move (planned.SetMode at mode) asked = absurd asked
  of_kind carry.Move (planned.MakeLink at text) asked = absurd asked
  of_kind carry.Move (planned.Save at bytes) asked = absurd asked

  pub is_plan : (request : Request) (job : Planned) → request_is request → IsJobFor request job → IsPlanOf how job
  is_plan request job is asked = of_kind how job (subst (λ (r : Request). IsJobFor r job) is asked)

  -- its pairs are those that were asked for
  pairs_for : (kind : Carry) (pairs : List Pair) → IsJobFor (carry_request kind paths mask from typed) (planned_as kind pairs) → ArePairsFor paths mask typed pairs
  pairs_for carry.Copy pairs asked = asked
  pairs_for carry.Move pairs asked = asked

  are_for : (request : Request) (job : Planned) (pairs : List Pair) → request_is request → job ≡ planned_as how pairs → IsJobFor request job
      → ArePairsFor paths mask typed pairs
  are_for request job pairs is are asked =
      pairs_for how pairs (subst (λ (j : Planned). IsJobFor (carry_request how paths mask from typed) j) are (subst (λ (r : Request). IsJobFor r job) is asked))

  -- and can be carried there
  pub can_be : (request : Request) (job : Planned) (pairs : List Pair) → request_is request → job ≡ planned_as how pairs → can_be_chosen paths ≡ true
      → IsSound job → IsJobFor request job → can_be_carried how pairs ≡ true
  can_be request job pairs is are within sound asked =
      carried_within how paths mask typed pairs within (are_for request job pairs is are asked) (keeps_apart how pairs (subst IsSound are sound))

  module _ (contents : Option CallLog) where
    leads : (pairs : List Pair) (plan : JobPlan) → is_below_home typed ≡ false → ArePairsApart pairs → ArePairsFor paths mask typed pairs
        → IsPlanned contents (carry_request how paths mask from typed) (Ok (planned_as how pairs)) → BeginsCarry how pairs plan
        → CarryLeads how contents paths mask from typed plan
    leads pairs (Begins plan) not_home sound asked known at =
        (pairs, record { not_home = not_home; asked_for = asked; apart = sound; planned = known }, at.0, at.1)
    leads pairs (Refuses refusal) not_home sound asked known at = absurd at

    pub carry_leads : (request : Request) (job : Planned) (pairs : List Pair) (plan : JobPlan) → is_below_home typed ≡ false
        → request_is request → IsSound job → IsJobFor request job → IsPlanned contents request (Ok job)
        → job ≡ planned_as how pairs → BeginsCarry how pairs plan
        → CarryLeads how contents paths mask from typed plan
    carry_leads request job pairs plan not_home is sound asked known are told =
        leads pairs plan not_home (keeps_apart how pairs (subst IsSound are sound)) (are_for request job pairs is are asked)
        (subst (λ (j : Planned). IsPlanned contents (carry_request how paths mask from typed) (Ok j)) are
        (subst (λ (r : Request). IsPlanned contents r (Ok job)) is known))
        told

    refuses : (error : PlanError) (plan : JobPlan) → is_below_home typed ≡ false → IsPlanned contents (carry_request how paths mask from typed) (Err error)
        → IsToldAs error plan → CarryLeads how contents paths mask from typed plan
    refuses error (Begins plan) not_home known told = absurd told
    refuses error (Refuses refusal) not_home known told = inr (not_home, record { error = error; planned = known; told = told })

    pub refused_carry : (request : Request) (error : PlanError) (result : Result JobPlan NoMemory) → is_below_home typed ≡ false
        → request_is request → IsPlanned contents request (Err error) → IfOk result (IsToldAs error)
        → IfOk result (CarryLeads how contents paths mask from typed)
    refused_carry request error (Err e) not_home is known told = tt
    refused_carry request error (Ok plan) not_home is known told =
        refuses error plan not_home (subst (λ (r : Request). IsPlanned contents r (Err error)) is known) told

-- what is read by a plan that was made
pub carry_reads : {A : Type 0} (how : Carry) (contents after : Option CallLog) (f0 f1 : ℕ) (made : Result A PlanError) (pairs : List Pair) (result : Result JobPlan NoMemory)
    → after ≡ contents → HasPlanCause f0 f1 made → IfOk result (BeginsCarry how pairs) → ReadsTree plan_refusals result contents after f0 f1
carry_reads how contents after f0 f1 made pairs (Err e) same cause begins = record { same = same; later = cause.later; called = λ log is. tt; fault = tt }
carry_reads how contents after f0 f1 made pairs (Ok (Begins plan)) same cause begins = record { same = same; later = cause.later; called = λ log is. tt; fault = λ h. absurd cc }
carry_reads how contents after f0 f1 made pairs (Ok (Refuses refusal)) same cause begins = absurd begins
