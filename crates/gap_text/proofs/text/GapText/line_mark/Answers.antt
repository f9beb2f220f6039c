-- The newlines before a place behind the point are those before the point and those between the two.
use Rattle.std.proofs.Common.{List, ℕ, take, ap, arith}
use Rattle.gap_text.specs.LineCounts.{newlines}
use Rattle.gap_text.proofs.LineCountLemmas.{newlines-add}
use Rattle.gap_text.proofs.text.GapText.line_mark.Goals as goal

pub returns-clause-counted : goal.returns-clause-counted
returns-clause-counted c =
    let text = c.self.inside.buffer in
    let place = c.mark_in_back-mark.result.place in
    rw (← c.self.view_is, c.point.ensures.value) (omega (
      arith,
      newlines-add text.bytes text.point place,
      c.count_on-before.ensures.all,
      ap newlines c.front.ensures,
      c.mark_in_back-mark.ensures.counted,
      ap (λ (l : List ℕ). newlines (take place l)) c.back-2.ensures,
    ))
