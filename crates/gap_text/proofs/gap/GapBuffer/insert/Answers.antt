-- Where nothing gives way the text stays as it is.
use Rattle.std.proofs.Common.{◌≡◌, ℕ, ◌+◌, ◌++◌, take, drop, OnOk, ap, subst, ◌∙◌, arith, take-append-drop}
use Rattle.gap_text.specs.PointedText.{PointedText, inserted_text, deleted_text}
use Rattle.gap_text.proofs.GapLemmas.{text_with}
use Rattle.gap_text.proofs.gap.GapBuffer.insert.Goals as goal

pub returns-clause-done : goal.returns-clause-done
returns-clause-done c =
    let text = c.args.self.now in
    let new = c.args.bytes.now in
    let none : text.point + 0 ≡ text.point = omega arith in
    let same : inserted_text (deleted_text text 0) new ≡ inserted_text text new =
    ap (λ (n : ℕ). inserted_text (text_with (take text.point text.bytes ++ drop n text.bytes) text.point) new) none
    ∙ ap (λ bytes. inserted_text (text_with bytes text.point) new) (take-append-drop text.point text.bytes) in
    subst (λ (after : PointedText). OnOk c.replace.result (c.replace.new.self ≡ after)) same c.replace.ensures.done
