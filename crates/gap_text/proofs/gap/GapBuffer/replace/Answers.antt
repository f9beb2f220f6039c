-- The bytes are written at the start of the gap, which swallowed what gives way and was made long enough for them.
use Rattle.std.proofs.Common.{◌≡◌, ◌+◌, ◌≤◌, ◌++◌, length, take, drop, vec_len, arith, refl, ap, ◌∙◌}
use Rattle.gap_text.specs.PointedText.{inserted_text, deleted_text}
use Rattle.gap_text.proofs.GapLemmas.{text_around, text_with, inserted-around, deleted-around}
use Rattle.gap_text.proofs.gap.GapBuffer.replace.Goals as goal

pub returns-clause-done : goal.returns-clause-done
returns-clause-done c =
    let room = c.self.inside.room.items in
    let start = c.self.inside.gap_start in
    let old_end = c.self.inside.gap_end in
    let end = c.in_ok-self-inside.field-0 in
    let wide = c.with_gap_of.new.room.items in
    let long : start + length c.args.bytes.now ≤ end = c.in_ok-self-inside.ensures.long in
    let ends : end ≤ vec_len c.with_gap_of.new.room = c.in_ok-self-inside.ensures.ends in
    let same : text_around wide start end ≡ text_around room start (old_end + c.args.count) =
    ap (λ l. l ++ drop end wide) c.in_ok-self-inside.ensures.front
    ∙ ap (λ l. take start room ++ l) c.in_ok-self-inside.ensures.back in
    inserted-around wide _ c.args.bytes.now start end _ c.write_at.ensures refl long (omega arith)
    ∙ ap (λ bytes. inserted_text (text_with bytes start) c.args.bytes.now) same
    ∙ ap (λ text. inserted_text text c.args.bytes.now) (deleted-around room start old_end (omega arith) c.args.count)
    ∙ ap (λ text. inserted_text (deleted_text text c.args.count) c.args.bytes.now) c.self.view_is
