-- Each half gives what it has of the range.
use Rattle.std.proofs.Common.{◌≡◌, ◌-◌, ◌++◌, length, take, slice_range, sym, ap, ◌∙◌, take-append-drop}
use Rattle.gap_text.proofs.RangeLemmas.{slice_range-append}
use Rattle.gap_text.proofs.gap.GapBuffer.range.Goals as goal

pub returns : goal.returns
returns c =
    let text = c.args.self.now.bytes in
    let point = c.args.self.now.point in
    let from = c.args.from in
    let to = c.args.to in
    let front = c.front-front.result.now in
    let back = c.back-back.result.now in
    let halves : front ++ back ≡ text =
    ap (λ l. l ++ back) c.front-front.ensures ∙ ap (λ l. take point text ++ l) c.back-back.ensures ∙ take-append-drop point text in
    let first : c.extend_from_slice.new.self.items ≡ slice_range front from to =
    c.in_ok-extend_from_slice.ensures.items ∙ ap (λ l. l ++ c.part_of.result.now) c.in_ok-bytes.ensures.items ∙ c.part_of.ensures in
    let second : c.part_of-2.result.now ≡ slice_range back (from - length front) (to - length front) =
    c.part_of-2.ensures ∙ ap (λ n. slice_range back n c.saturating_sub-2.result) c.saturating_sub.ensures
    ∙ ap (λ n. slice_range back (from - length front) n) c.saturating_sub-2.ensures in
    c.in_ok-extend_from_slice-2.ensures.items ∙ ap (λ l. l ++ c.part_of-2.result.now) first
    ∙ ap (λ l. slice_range front from to ++ l) second
    ∙ sym (slice_range-append from to front back c.requires.ordered)
    ∙ ap (λ l. slice_range l from to) halves
