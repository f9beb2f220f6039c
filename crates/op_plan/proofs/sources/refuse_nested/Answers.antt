-- two that meet are found by their positions
use Rattle.std.proofs.Common.{◌∙◌, ap, sym, subst, Err}
use Rattle.mc_text.specs.Routes.{Route}
use Rattle.op_plan.specs.declared.error.PlanError.TheVariants.{Nested}
use Rattle.op_plan.specs.Sorting.{AreFirst, IsFirstMeeting}
use Rattle.op_plan.proofs.CheckLemmas.{nested-none, nested-some}
use Rattle.op_plan.proofs.sources.refuse_nested.Goals as goal

pub returns-in-None-clause-answer : goal.returns-in-None-clause-answer
returns-in-None-clause-answer c =
    nested-none c.args.sources.now (subst (IsFirstMeeting c.args.sources.now) c.in-None.is c.in_ok-first_meeting.ensures)

pub returns-in_ok-copy-in-Some-2-clause-answer : goal.returns-in_ok-copy-in-Some-2-clause-answer
returns-in_ok-copy-in-Some-2-clause-answer c =
    let sources = c.args.sources.now in
    let found : AreFirst sources c.in-Some.first c.in-Some.second = subst (IsFirstMeeting sources) c.in-Some.is c.in_ok-first_meeting.ensures in
    λ _.
    nested-some sources c.in-Some.first c.in-Some.second c.index-sources-first.result c.index-sources-second.result found c.index-sources-first.is c.index-sources-second.is
    ∙ (ap (λ (r : Route). Err (Nested r c.index-sources-second.result)) (sym c.in_ok-copy-in-Some.ensures)
    ∙ ap (λ (r : Route). Err (Nested c.in_ok-copy-in-Some.field-0 r)) (sym c.in_ok-copy-in-Some-2.ensures))

pub returns-in-None-clause-apart : goal.returns-in-None-clause-apart
returns-in-None-clause-apart c = subst (IsFirstMeeting c.args.sources.now) c.in-None.is c.in_ok-first_meeting.ensures
