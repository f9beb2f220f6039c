-- What the plan of a new link comes to (mc(1), "Miscellaneous Keys": C-x s).
use Rattle.std.specs.Prelude.{◌≡◌, ◌⊎◌, ℕ, true, false, List, Option}
use Rattle.mc_text.specs.Routes.{Route}
use Rattle.tree_trait.specs.Change.{CallLog}
use Rattle.job_reports.specs.declared.job.Job.{Job}
use Rattle.job_reports.specs.declared.job.Job.TheVariants as plan
use Rattle.job_reports.specs.Jobs.{is_link_text}
use Rattle.session_entries.specs.Sources.{are_workable}
use Rattle.session_entries.specs.declared.refusal.PlanError.TheVariants.{BadLinkText}
use Rattle.session_entries.specs.declared.refusal.Refusal.{Refusal}
use Rattle.session_entries.specs.declared.refusal.Refusal.TheVariants.{Plan}
use Rattle.ui_plans.specs.declared.carrying.JobPlan.{JobPlan}
use Rattle.ui_plans.specs.declared.carrying.JobPlan.TheVariants.{Begins, Refuses}
use Rattle.ui_plans.specs.Places.{IsNewPlace, PlaceRefused}

-- the plan of a new link that says a text
abbrev pub link_plan : Route → List ℕ → Job
link_plan path text = plan.MakeLink path text

-- a link may be made at a path that says a text: a new thing may be made there, and a link can say it
pub record IsNewLink (contents : Option CallLog) (from : Route) (typed text : List ℕ)
    (path : Route) : Type 0 where
  pub place : IsNewPlace contents from typed path
  pub says : is_link_text text ≡ true

-- a new thing may be made at a path, and a link can't say the text
pub record HasBadText (contents : Option CallLog) (from : Route) (typed text : List ℕ)
    (refusal : Refusal) : Type 0 where
  pub path : Route
  pub place : IsNewPlace contents from typed path
  pub says : is_link_text text ≡ false
  pub told : refusal ≡ Plan BadLinkText

-- None is made: nothing new may be made there, or a link can't say the text.
abbrev pub LinkRefused : Option CallLog → Route → List ℕ → List ℕ → Refusal → Type 0
LinkRefused contents from typed text refusal =
    PlaceRefused contents from typed refusal ⊎ HasBadText contents from typed text refusal

-- what planning it comes to: the plan, or why it is refused
abbrev pub LinkLeads : Option CallLog → Route → List ℕ → List ℕ → JobPlan → Type 0
LinkLeads contents from typed text (Begins plan) =
    (path : Route) × IsNewLink contents from typed text path × (plan ≡ link_plan path text)
    × (are_workable plan ≡ true)
LinkLeads contents from typed text (Refuses refusal) = LinkRefused contents from typed text refusal

-- what comes of a path at which a new thing may be made
abbrev pub IsLinkAt : Route → List ℕ → JobPlan → Type 0
IsLinkAt path text (Begins plan) =
    (is_link_text text ≡ true) × (plan ≡ link_plan path text) × (are_workable plan ≡ true)
IsLinkAt path text (Refuses refusal) = (is_link_text text ≡ false) × (refusal ≡ Plan BadLinkText)
