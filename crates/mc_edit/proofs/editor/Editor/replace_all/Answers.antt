-- A run that ends where it begins has no place.
use Rattle.std.proofs.Common.{◌≡◌, ◌<◌, length, drop, sym, ap, ◌∙◌, arith}
use Rattle.std.proofs.lemmas.Bool.{eqb-false}
use Rattle.gap_text.specs.PointedText.{PointedText}
use Rattle.mc_edit.specs.Edits.{EditedText, largest_text}
use Rattle.mc_edit.proofs.ChangeLemmas.{largest_is}
use Rattle.mc_edit.proofs.ReplacingLemmas.{all_replaced-none, all_replaced-large}
use Rattle.mc_edit.proofs.editor.Editor.replace_all.Goals as goal

pub returns-then-run-eq0-clause-refused : goal.returns-then-run-eq0-clause-refused
returns-then-run-eq0-clause-refused c =
    let what = c.slice_of-what.result.now in
    let rest = c.back-rest.result.now in
    let some : 0 < length what = omega (arith, eqb-false (length what) 0 (sym c.is_empty.ensures ∙ c.if-is_empty.false)) in
    let is_rest : rest ≡ drop c.args.self.now.text.point c.args.self.now.text.bytes =
    c.back-rest.ensures ∙ ap (λ (text : PointedText). drop text.point text.bytes) c.move_to.ensures
    ∙ ap (λ (e : EditedText). drop e.text.point e.text.bytes) c.self.view_is in
    λ other. rw (← c.slice_of-what.ensures, ← c.slice_of.ensures)
    (all_replaced-none what c.slice_of.result.now rest some c.args.self.now is_rest c.in-Some.run'.end c.in-Some.ensures.end c.if-run-eq0.true)

pub returns-then-size-gt-LARGEST_TEXT-clause-refused : goal.returns-then-size-gt-LARGEST_TEXT-clause-refused
returns-then-size-gt-LARGEST_TEXT-clause-refused c =
    let what = c.slice_of-what.result.now in
    let rest = c.back-rest.result.now in
    let some : 0 < length what = omega (arith, eqb-false (length what) 0 (sym c.is_empty.ensures ∙ c.if-is_empty.false)) in
    let is_rest : rest ≡ drop c.args.self.now.text.point c.args.self.now.text.bytes =
    c.back-rest.ensures ∙ ap (λ (text : PointedText). drop text.point text.bytes) c.move_to.ensures
    ∙ ap (λ (e : EditedText). drop e.text.point e.text.bytes) c.self.view_is in
    let size_is = ap (λ (e : EditedText). length e.text.bytes) c.self.view_is in
    let point_is = ap (λ (e : EditedText). e.text.point) c.self.view_is in
    let same_size = ap (λ (text : PointedText). length text.bytes) c.move_to.ensures in
    let large : largest_text < c.in-Some-checked_add.size = omega (arith, largest_is, c.if-size-gt-LARGEST_TEXT.true) in
    λ other. rw (← c.slice_of-what.ensures, ← c.slice_of.ensures)
    (all_replaced-large what c.slice_of.result.now rest some c.args.self.now is_rest c.in-Some.run'.end c.in-Some.run'.bytes
    c.in-Some-checked_add.size c.in-Some.ensures.end c.if-run-eq0.false c.in-Some.ensures.within
    (omega (arith, c.self.invariant.point_within, point_is, size_is))
    (omega (arith, c.self.invariant.small, size_is))
    large c.in-Some.ensures.bytes
    (omega (arith, c.in-Some-checked_add.ensures, c.len.ensures.value, same_size, size_is)))
