-- What is planned by a typed path.
use Rattle.std.specs.Prelude.{ℕ, List, Option}
use Rattle.mc_text.specs.Routes.{Route}
use Rattle.resolving.specs.Homes.{with_home}
use Rattle.tree_trait.specs.Change.{CallLog}
use Rattle.ui_plans.specs.declared.carrying.JobPlan.{JobPlan}
use Rattle.ui_plans.specs.Carrying.{CarryLeads}
use Rattle.ui_plans.specs.Folders.{FolderLeads}
use Rattle.ui_plans.specs.Links.{LinkLeads}
use Rattle.ui_job_boxes.specs.declared.plan_of.PlanOf.{PlanOf}
use Rattle.ui_job_boxes.specs.declared.plan_of.PlanOf.TheVariants as plan_of
use Rattle.ui_job_boxes.specs.JobBoxes.{Around}

-- what planning it comes to where a text leads from a folder
abbrev pub PlansAt : PlanOf → Option CallLog → Route → List ℕ → JobPlan → Type 0
PlansAt (plan_of.Carry source) contents from text plan =
    CarryLeads source.now.carry contents source.now.chosen.paths source.now.mask from text plan
PlansAt plan_of.Folder contents from text plan = FolderLeads contents from text plan
PlansAt (plan_of.Link said) contents from text plan = LinkLeads contents from text said.now plan

-- from the current panel's folder, with HOME in place of a tilde
abbrev pub PlansBy : PlanOf → Option CallLog → Around → List ℕ → JobPlan → Type 0
PlansBy wanted contents around text plan =
    PlansAt wanted contents around.current (with_home around.home text) plan
