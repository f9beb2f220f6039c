-- At first nothing is drawn.
use Rattle.std.proofs.Common.{refl}
use Rattle.mc_text.proofs.drawing.drawn.Goals as goal

pub loop-cluster-init : goal.loop-cluster-init
loop-cluster-init c =
    rw (c.into_iter-cluster-iterator.ensures.into_iter_gives, c.graphemes-cluster-items.ensures.left, c.new-line.ensures.bytes)
    (tt, tt, refl)
