-- What an error of a plan is told as.
use Rattle.std.specs.Prelude.{◌≡◌, Option, Some, None}
use Rattle.op_plan.specs.declared.error.PlanError.{PlanError}
use Rattle.op_plan.specs.declared.error.PlanError.TheVariants as place
use Rattle.session_entries.specs.declared.refusal.PlanError.TheVariants.{NoSelection, Nested, Source, BadMask}
use Rattle.session_entries.specs.declared.refusal.PlanError.TheVariants.{Target, TargetThere, SameFile}
use Rattle.session_entries.specs.declared.refusal.PlanError.TheVariants.{IntoItself, TwoToOne, BadLinkText}
use Rattle.session_entries.specs.declared.refusal.Refusal.{Refusal}
use Rattle.session_entries.specs.declared.refusal.Refusal.TheVariants.{Plan}
use Rattle.ui_plans.specs.declared.carrying.JobPlan.{JobPlan}
use Rattle.ui_plans.specs.declared.carrying.JobPlan.TheVariants.{Begins, Refuses}

-- the refusal that an error of a plan is; want of memory is none
abbrev pub told_as : PlanError → Option Refusal
told_as place.NoSelection = Some (Plan NoSelection)
told_as (place.Source path e) = Some (Plan (Source path e))
told_as place.BadMask = Some (Plan BadMask)
told_as (place.Target e) = Some (Plan (Target e))
told_as (place.TargetThere path) = Some (Plan (TargetThere path))
told_as (place.SameFile path) = Some (Plan (SameFile path))
told_as (place.IntoItself source target) = Some (Plan (IntoItself source target))
told_as (place.Nested first second) = Some (Plan (Nested first second))
told_as (place.TwoToOne first second) = Some (Plan (TwoToOne first second))
told_as place.BadLinkText = Some (Plan BadLinkText)
told_as place.Memory = None

-- what a refused plan comes to
abbrev pub IsToldAs : PlanError → JobPlan → Type 0
IsToldAs error (Begins plan) = ⊥
IsToldAs error (Refuses refusal) = told_as error ≡ Some refusal
