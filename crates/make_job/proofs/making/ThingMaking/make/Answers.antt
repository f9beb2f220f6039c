-- Without memory no call was made; a thing that was made stands at the path; a refused call changed nothing.
use Rattle.std.proofs.Common.{ap, sym, ◌∙◌, refl, arith, false, ◌≡◌, Some}
use Rattle.tree_trait.specs.declared.calls.TreeError.TheVariants as refused
use Rattle.job_reports.specs.declared.report.Did.TheVariants.{Made, Troubled}
use Rattle.job_reports.specs.declared.report.StepResult.{StepResult}
use Rattle.make_job.specs.declared.making.MakingStage.TheVariants.{Sync}
use Rattle.make_job.specs.Makings.{Making, call_of}
use Rattle.make_job.specs.NewThings.{making_call}
use Rattle.job_reports.specs.Stops.{trouble_at}
use Rattle.make_job.proofs.MakingRuns.{err_is, fault-cause, make_at, steps_made, steps_refused, steps_unmade}
use Rattle.make_job.proofs.Answering.{answered_made, answered_refused, answered_unmade}
use Rattle.make_job.proofs.making.ThingMaking.make.Goals as goal

pub returns-in_default-clause-steps : goal.returns-in_default-clause-steps
returns-in_default-clause-steps g c =
    let t = trouble_at refused.Memory c.args.self.now.path false in
    steps_unmade c.args.self.now _ _ _ _ _ c.without_call.result.did c.without_call.result.calls t (ap (λ (s : StepResult). s.did) c.without_call.ensures ∙ ap Troubled c.out_of_memory.ensures)
    (make_at c.args.self.now refused.Memory c.requires.stage) refl
    (λ h. h) (omega arith) (λ h. absurd cc) (ap (λ (s : StepResult). s.calls) c.without_call.ensures) refl refl

pub returns-in-Ok-make_at-clause-steps : goal.returns-in-Ok-make_at-clause-steps
returns-in-Ok-make_at-clause-steps g c =
    let path_is : c.in-Ok.path ≡ c.args.self.now.path = c.in-Ok.ensures ∙ ap (λ (m : Making). m.path) c.self.view_is in
    let called : making_call c.self.inside.thing c.self.inside.path ≡ making_call c.args.self.now.thing c.args.self.now.path = ap (λ (m : Making). making_call m.thing m.path) c.self.view_is in
    steps_made c.args.self.now _ _ _ _ _ c.with_call.result.did c.with_call.result.calls (ap (λ (s : StepResult). s.did) c.with_call.ensures ∙ ap Made path_is)
    (ap (λ (s : StepResult). s.calls) c.with_call.ensures)
    c.requires.stage (ap (λ (m : Making). let k : Making = record m { stage = Sync } in k) c.self.view_is)
    (λ log known. rw (← called) (c.in-Ok-make_at.ensures.answer log known))
    c.make_at.ensures.stays_unknown c.make_at.ensures.cause.later

pub returns-in-Err-clause-steps : goal.returns-in-Err-clause-steps
returns-in-Err-clause-steps g c =
    let path_is : c.in-Ok.path ≡ c.args.self.now.path = c.in-Ok.ensures ∙ ap (λ (m : Making). m.path) c.self.view_is in
    let called : making_call c.self.inside.thing c.self.inside.path ≡ making_call c.args.self.now.thing c.args.self.now.path = ap (λ (m : Making). making_call m.thing m.path) c.self.view_is in
    let t = trouble_at c.in-Err.error c.args.self.now.path false in
    steps_refused c.args.self.now _ _ _ _ _ c.refused.result.did c.refused.result.calls t (c.refused.ensures.did ∙ ap (λ q. Troubled (trouble_at c.in-Err.error q false)) path_is)
    (make_at c.args.self.now c.in-Err.error c.requires.stage) refl
    c.make_at.ensures.stays_unknown c.make_at.ensures.cause.later (λ h. c.in-Err.ensures.cause.risen (err_is c.in-Err.error (fault-cause c.in-Err.error h)))
    (making_call c.self.inside.thing c.self.inside.path) c.in-Err.error c.refused.ensures.calls
    (ap (λ s. call_of c.args.self.now.thing s c.args.self.now.path) c.requires.stage ∙ ap (λ call. Some call) (sym called)) refl
    (λ log known. c.in-Err.ensures.answer log known)

pub returns-in_default-clause-answered : goal.returns-in_default-clause-answered
returns-in_default-clause-answered g c =
    answered_unmade c.args.self.now _ _ c.without_call.result.did (trouble_at refused.Memory c.args.self.now.path false)
    (ap (λ (s : StepResult). s.did) c.without_call.ensures ∙ ap Troubled c.out_of_memory.ensures) refl refl

pub returns-in-Ok-make_at-clause-answered : goal.returns-in-Ok-make_at-clause-answered
returns-in-Ok-make_at-clause-answered g c =
    let path_is : c.in-Ok.path ≡ c.args.self.now.path = c.in-Ok.ensures ∙ ap (λ (m : Making). m.path) c.self.view_is in
    answered_made c.args.self.now _ _ c.with_call.result.did (making_call c.self.inside.thing c.self.inside.path) (ap (λ (s : StepResult). s.did) c.with_call.ensures ∙ ap Made path_is)
    (ap (λ (m : Making). making_call m.thing m.path) c.self.view_is) c.in-Ok-make_at.ensures.told

pub returns-in-Err-clause-answered : goal.returns-in-Err-clause-answered
returns-in-Err-clause-answered g c =
    let path_is : c.in-Ok.path ≡ c.args.self.now.path = c.in-Ok.ensures ∙ ap (λ (m : Making). m.path) c.self.view_is in
    let called : making_call c.self.inside.thing c.self.inside.path ≡ making_call c.args.self.now.thing c.args.self.now.path = ap (λ (m : Making). making_call m.thing m.path) c.self.view_is in
    answered_refused c.args.self.now _ _ c.refused.result.did (trouble_at c.in-Err.error c.args.self.now.path false) (making_call c.self.inside.thing c.self.inside.path) c.in-Err.error
    (c.refused.ensures.did ∙ ap (λ q. Troubled (trouble_at c.in-Err.error q false)) path_is)
    (ap (λ s. call_of c.args.self.now.thing s c.args.self.now.path) c.requires.stage ∙ ap (λ call. Some call) (sym called)) refl
    c.in-Err.ensures.told
