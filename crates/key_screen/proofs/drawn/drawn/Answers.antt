use Rattle.std.proofs.Common.{◌≡◌, arith, ◌<◌, ◌+◌, vec_len}
use Rattle.key_screen.proofs.DrawnLemmas.{drawn-step}
use Rattle.key_screen.proofs.drawn.drawn.Goals as goal

pub loop-cluster-preserved : goal.loop-cluster-preserved
loop-cluster-preserved c =
    let more : vec_len c.push.new.self ≡ vec_len c.loop-cluster.glyphs + 1 = omega (arith, c.in_ok-push.ensures.len) in
    let room : vec_len c.loop-cluster.glyphs < c.args.count = omega (arith, c.loop-cluster.invariant.2) in (
      tt,
      tt,
      omega arith,
      drawn-step c.args.count (vec_len c.loop-cluster.glyphs) (vec_len c.push.new.self) c.loop-cluster.glyphs.items c.push.new.self.items _ c.in-Some.cluster.now _ _
          c.in_ok-glyph_of.field-0 c.in-Some.ensures.steps c.in_ok-glyph_of.ensures c.in_ok-push.ensures.items room more c.loop-cluster.invariant.3,
    )
