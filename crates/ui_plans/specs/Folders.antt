-- What the plan of a new folder comes to.
use Rattle.std.specs.Prelude.{◌≡◌, ℕ, true, List, Option}
use Rattle.mc_text.specs.Routes.{Route}
use Rattle.tree_trait.specs.Change.{CallLog}
use Rattle.job_reports.specs.declared.job.Job.{Job}
use Rattle.job_reports.specs.declared.job.Job.TheVariants as plan
use Rattle.session_entries.specs.Sources.{are_workable}
use Rattle.ui_plans.specs.declared.carrying.JobPlan.{JobPlan}
use Rattle.ui_plans.specs.declared.carrying.JobPlan.TheVariants.{Begins, Refuses}
use Rattle.ui_plans.specs.Places.{IsNewPlace, PlaceRefused}

-- the plan of a new folder
abbrev pub folder_plan : Route → Job
folder_plan path = plan.MakeFolder path

-- what planning it comes to: the plan, where a new thing may be made, or why it is refused
abbrev pub FolderLeads : Option CallLog → Route → List ℕ → JobPlan → Type 0
FolderLeads contents from typed (Begins plan) =
    (path : Route) × IsNewPlace contents from typed path × (plan ≡ folder_plan path)
    × (are_workable plan ≡ true)
FolderLeads contents from typed (Refuses refusal) = PlaceRefused contents from typed refusal
