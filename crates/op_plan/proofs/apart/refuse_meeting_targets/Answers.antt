-- two targets that meet are found by their positions
use Rattle.std.proofs.Common.{◌≡◌, ◌∙◌, ap, sym, subst, Err, List}
use Rattle.mc_text.specs.Routes.{Route}
use Rattle.job_reports.specs.declared.job.Pair.{Pair}
use Rattle.op_plan.specs.declared.error.PlanError.TheVariants.{TwoToOne}
use Rattle.op_plan.specs.Checks.{targets_from}
use Rattle.op_plan.specs.Sorting.{AreFirst, IsFirstMeeting}
use Rattle.op_plan.proofs.CheckLemmas.{twice-none, twice-some}
use Rattle.op_plan.proofs.apart.refuse_meeting_targets.Goals as goal

pub returns-in-None-clause-answer : goal.returns-in-None-clause-answer
returns-in-None-clause-answer c =
    let pairs = c.args.pairs.now in
    let listed : c.as_slice.result.now ≡ targets_from pairs = c.as_slice.ensures ∙ c.in_ok-targets.ensures in
    let P : List Route → Type 0 = λ l. IsFirstMeeting l c.in_ok-first_meeting.field-0 in
    twice-none pairs (subst (IsFirstMeeting (targets_from pairs)) c.in-None.is (subst P listed c.in_ok-first_meeting.ensures))

pub returns-clause-answer : goal.returns-clause-answer
returns-clause-answer c =
    let pairs = c.args.pairs.now in
    let listed : c.as_slice.result.now ≡ targets_from pairs = c.as_slice.ensures ∙ c.in_ok-targets.ensures in
    let P : List Route → Type 0 = λ l. IsFirstMeeting l c.in_ok-first_meeting.field-0 in
    let found : AreFirst (targets_from pairs) c.in-Some.first c.in-Some.second =
    subst (IsFirstMeeting (targets_from pairs)) c.in-Some.is (subst P listed c.in_ok-first_meeting.ensures) in
    λ _.
    twice-some pairs c.in-Some.first c.in-Some.second c.index-pairs-first.result c.index-pairs-second.result found c.index-pairs-first.is c.index-pairs-second.is
    ∙ (ap (λ (r : Route). Err (TwoToOne r c.index-pairs-second.result.source)) (ap (λ (pair : Pair). pair.source) c.index-pairs-first.is ∙ sym c.in_ok-copy-in-Some.ensures)
    ∙ ap (λ (r : Route). Err (TwoToOne c.in_ok-copy-in-Some.field-0 r)) (ap (λ (pair : Pair). pair.source) c.index-pairs-second.is ∙ sym c.in_ok-copy-in-Some-2.ensures))

pub returns-in-None-clause-apart : goal.returns-in-None-clause-apart
returns-in-None-clause-apart c =
    let listed : c.as_slice.result.now ≡ targets_from c.args.pairs.now = c.as_slice.ensures ∙ c.in_ok-targets.ensures in
    let P : List Route → Type 0 = λ l. IsFirstMeeting l c.in_ok-first_meeting.field-0 in
    subst (IsFirstMeeting (targets_from c.args.pairs.now)) c.in-None.is (subst P listed c.in_ok-first_meeting.ensures)
