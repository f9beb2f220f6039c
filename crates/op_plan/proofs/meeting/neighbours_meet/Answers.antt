use Rattle.std.proofs.Common.{◌∙◌, sym, arith}
use denote.Ref.{Bor}
use Rattle.mc_text.specs.Routes.{Route, is_prefix}
use Rattle.op_plan.proofs.Sorted.{neighbours-at, neighbours-step, neighbours-all, neighbours-map}
use Rattle.op_plan.proofs.meeting.neighbours_meet.Goals as goal

pub returns-then-is_prefix_of : goal.returns-then-is_prefix_of
returns-then-is_prefix_of c =
    sym (sym (neighbours-map is_prefix (λ (path : Bor Route). path.now) c.args.sorted.now)
    ∙ neighbours-at (λ (a b : Bor Route). is_prefix a.now b.now) c.args.sorted.now c.loop-i.i c.index-sorted-i.result c.index-sorted-i-in-loop-i.result (omega arith)
    c.loop-i-test.true c.index-sorted-i.is c.index-sorted-i-in-loop-i.is (sym c.is_prefix_of.ensures ∙ c.if-is_prefix_of.true))

pub loop-i-preserved : goal.loop-i-preserved
loop-i-preserved c =
    neighbours-step (λ (a b : Bor Route). is_prefix a.now b.now) c.args.sorted.now c.loop-i.i c.index-sorted-i.result c.index-sorted-i-in-loop-i.result (omega arith)
    c.loop-i-test.true c.index-sorted-i.is c.index-sorted-i-in-loop-i.is (sym c.is_prefix_of.ensures ∙ c.if-is_prefix_of.false) c.loop-i.invariant

pub returns : goal.returns
returns c =
    sym (sym (neighbours-map is_prefix (λ (path : Bor Route). path.now) c.args.sorted.now)
    ∙ neighbours-all (λ (a b : Bor Route). is_prefix a.now b.now) c.args.sorted.now c.loop-i.i (omega arith) c.loop-i.invariant)
