-- The bytes stand nowhere in the front, nor on the seam: so the first place in the back is the first of all.
use Rattle.std.proofs.Common.{length, arith, ◌∙◌, length-append}
use Rattle.gap_text.proofs.PlaceLemmas.{StandNowhere-halves, stands_at-append_right}
use Rattle.gap_text.proofs.places.place_in_halves.Goals as goal

pub returns-in_err-at : goal.returns-in_err-at
returns-in_err-at c =
    let front = c.args.front.now in
    let back = c.args.back.now in
    let bytes = c.args.bytes.now in
    let in_back = rw c.saturating_sub.ensures at c.in_err-at.ensures in
    let nowhere = StandNowhere-halves front back bytes c.args.from (length back) c.requires c.in_default.ensures c.in_default-place_on_seam.ensures in_back in
    rw (c.from_residual.ensures, length-append front back) nowhere

pub returns : goal.returns
returns c =
    let front = c.args.front.now in
    let back = c.args.back.now in
    let bytes = c.args.bytes.now in
    let at = c.in_ok-at.at in
    let here = rw c.saturating_sub.ensures at c.in_ok-at.ensures in (
      omega (arith, here.0),
      omega (arith, here.1, length-append front back),
      stands_at-append_right front back bytes at ∙ here.2,
      StandNowhere-halves front back bytes c.args.from at c.requires c.in_default.ensures c.in_default-place_on_seam.ensures here.3,
    )
