-- a source that meets no target's name meets no target, and one that meets a target meets a first one
use Rattle.std.proofs.Common.{◌≡◌, ◌∙◌, sym, ap, false, None, Err}
use Rattle.std.specs.Prelude.{option_map}
use Rattle.std.specs.List.{list_any, position}
use Rattle.std.specs.BTreeSet.{contains_text}
use Rattle.mc_text.specs.Routes.{Route}
use Rattle.job_reports.specs.declared.job.Pair.{Pair}
use Rattle.op_plan.specs.declared.error.PlanError.TheVariants.{IntoItself}
use Rattle.op_plan.specs.Meeting.{meet}
use Rattle.op_plan.specs.Answering.{unless}
use Rattle.op_plan.specs.Checks.{sources_in, targets_from, into_itself}
use Rattle.op_plan.proofs.Twos.{any-map, position-none}
use Rattle.op_plan.proofs.CheckLemmas.{across-next, across-found, across-end, across-none}
use Rattle.op_plan.proofs.ChildLemmas.{across-apart}
use Rattle.op_plan.proofs.apart.refuse_across.Goals as goal
use Rattle.op_plan.proofs.apart.refuse_across.Goals.{else-meets_any-via-else-meets_any, else-meets_any-via-then-meets_any+in-None-1}

pub returns-in-loop-pair-clause-answer : goal.returns-in-loop-pair-clause-answer
returns-in-loop-pair-clause-answer c = λ _.
    let pairs = c.args.pairs.now in
    ap (λ o. unless (option_map into_itself o))
    (sym c.loop-pair.invariant
    ∙ across-found pairs c.loop-pair.pair-index c.in-Some.at c.pair-item.result c.index-pairs-at.result c.loop-pair-test.true c.pair-item.is
    (sym c.first_target.ensures.first ∙ c.in-Some.is) c.index-pairs-at.is)
    ∙ (ap (λ (r : Route). Err (IntoItself r c.index-pairs-at.result.target)) (sym c.in_ok-copy.ensures)
    ∙ ap (λ (r : Route). Err (IntoItself c.in_ok-copy.field-0 r)) (ap (λ (pair : Pair). pair.target) c.index-pairs-at.is ∙ sym c.in_ok-copy-2.ensures))

pub loop-pair-preserved : goal.loop-pair-preserved
loop-pair-preserved c =
    let pairs = c.args.pairs.now in
    let source = c.pair-item.result.source in
    let apart : list_any (meet source) (targets_from pairs) ≡ false =
    elim c.else-meets_any.branch [
      | else-meets_any-via-else-meets_any w ↦
          ap (list_any (meet source)) c.requires
          ∙ across-apart c.args.folder.now source c.args.names.now (contains_text c.in_ok-taken.taken) c.in_ok-taken.ensures (sym c.meets_any.ensures ∙ w.if-meets_any.false)
      | else-meets_any-via-then-meets_any+in-None-1 w ↦
          let none : position (λ (pair : Pair). meet source pair.target) pairs ≡ None = cc in
          any-map (meet source) (λ (pair : Pair). pair.target) pairs ∙ position-none (λ (pair : Pair). meet source pair.target) pairs none
    ] in
    across-next pairs (targets_from pairs) c.loop-pair.pair-index c.pair-item.result c.loop-pair-test.true c.pair-item.is apart ∙ c.loop-pair.invariant

pub returns-clause-answer : goal.returns-clause-answer
returns-clause-answer c =
    ap (λ o. unless (option_map into_itself o))
    (sym c.loop-pair.invariant ∙ across-end c.args.pairs.now (targets_from c.args.pairs.now) c.loop-pair.pair-index c.loop-pair-test.false)

pub returns-clause-apart : goal.returns-clause-apart
returns-clause-apart c =
    let pairs = c.args.pairs.now in
    across-none (sources_in pairs) (targets_from pairs)
    (sym c.loop-pair.invariant ∙ across-end pairs (targets_from pairs) c.loop-pair.pair-index c.loop-pair-test.false)
