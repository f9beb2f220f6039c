-- Each place leads the size on.
use Rattle.std.proofs.Common.{◌≡◌, ◌+◌, ◌<◌, length, ◌∙◌, arith}
use Rattle.memchr.specs.Find.{matches}
use Rattle.mc_edit.specs.Replacing.{replaced_run}
use Rattle.mc_edit.proofs.ReplacingLemmas.{size-next, size-over, end-next, end-over}
use Rattle.mc_edit.proofs.replacing.measure.Goals as goal

pub loop-place-preserved : goal.loop-place-preserved
loop-place-preserved c =
    let text = c.args.text.now in
    let what = c.args.finder.now in
    let from = c.loop-place.end in
    let at = c.in-Some.place in
    let some : 0 < length what = omega (arith, c.requires.width, c.requires.some) in
    let new = c.args.new.now in
    let left = length (replaced_run text what new (at + length what) (matches text what (at + length what))) in
    let size : c.in_ok-bytes.bytes + left ≡ length (replaced_run text what new 0 (matches text what 0)) =
    omega (
      arith,
      c.in_ok-bytes.ensures,
      size-next text what some from new at c.in-Some.ensures.low (omega (arith, c.in-Some.ensures.within)) c.in-Some.ensures.place,
      c.loop-place.invariant.1,
    ) in
    rw c.requires.width (
      c.in-Some.ensures.within,
      size,
      end-next text what some from at c.in-Some.ensures.place ∙ c.loop-place.invariant.2,
    )

pub returns-clause-bytes : goal.returns-clause-bytes
returns-clause-bytes c =
    let some : 0 < length c.args.finder.now = omega (arith, c.requires.width, c.requires.some) in
    omega (arith, size-over c.args.text.now c.args.finder.now some c.loop-place.end c.args.new.now c.in_default.ensures.place, c.loop-place.invariant.1)

pub returns-clause-end : goal.returns-clause-end
returns-clause-end c =
    let some : 0 < length c.args.finder.now = omega (arith, c.requires.width, c.requires.some) in
    end-over c.args.text.now c.args.finder.now some c.loop-place.end c.in_default.ensures.place ∙ c.loop-place.invariant.2
