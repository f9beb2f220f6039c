use Rattle.std.proofs.Common.{◌∙◌, sym, ap, Err}
use Rattle.mc_text.specs.Routes.{Route}
use Rattle.job_reports.specs.declared.job.Pair.{Pair}
use Rattle.op_plan.specs.declared.error.PlanError.TheVariants.{SameFile}
use Rattle.op_plan.proofs.CheckLemmas.{same-none, same-some}
use Rattle.op_plan.proofs.apart.refuse_same.Goals as goal

pub returns-in-None-clause-answer : goal.returns-in-None-clause-answer
returns-in-None-clause-answer c = same-none c.args.pairs.now (sym c.first_same.ensures.first ∙ c.in-None.is)

pub returns-in_ok-copy-in-Some-clause-answer : goal.returns-in_ok-copy-in-Some-clause-answer
returns-in_ok-copy-in-Some-clause-answer c = λ _.
    same-some c.args.pairs.now c.in-Some.at c.index-pairs-at.result (sym c.first_same.ensures.first ∙ c.in-Some.is) c.index-pairs-at.is
    ∙ ap (λ (r : Route). Err (SameFile r)) (ap (λ (pair : Pair). pair.source) c.index-pairs-at.is ∙ sym c.in_ok-copy-in-Some.ensures)
