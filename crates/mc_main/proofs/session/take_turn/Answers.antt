-- What was taken is no more left, and the byte is the next.
use Rattle.std.proofs.Common.{ℕ, sym, ◌∙◌, ap, Option, Result, Ok}
use Rattle.tree_trait.specs.declared.devices.SourceFault.{SourceFault}
use Rattle.mc_main.specs.KeysRead.{bytes_given, left_of}
use Rattle.mc_main.proofs.Taking.{next_byte, took_all}
use Rattle.mc_main.proofs.session.take_turn.Goals as goal

pub returns-in-Ok-None-clause-ended : goal.returns-in-Ok-None-clause-ended
returns-in-Ok-None-clause-ended g c ended known is =
    let before = g.K.Source.left c.seek_till_stopped.new.keys in
    took_all g.N.Tag.stream before (g.K.Source.left c.take_byte.new.keys) c.args.desk.now.taken (c.seek_till_stopped.ensures.source.0 ∙ c.requires.left)
    (λ b k. sym c.in-Ok-None.field-0-is ∙ c.in-Ok-None.ensures.first b k)
    (c.in-Ok-None.ensures.left ∙ ap (λ (o : Option ℕ). left_of before (bytes_given (let r : Result (Option ℕ) SourceFault = Ok o in r))) c.in-Ok-None.field-0-is) known is

pub byte-requires-clause-next : goal.byte-requires-clause-next
byte-requires-clause-next g c known is =
    let before = g.K.Source.left c.seek_till_stopped.new.keys in
    next_byte g.N.Tag.stream before c.seek_before.new.desk.taken c.in-Ok-Some.byte
    (c.seek_till_stopped.ensures.source.0 ∙ (c.requires.left ∙ ap (left_of g.N.Tag.stream) (sym (c.seek_before.ensures.keys.taken ∙ (c.seek_till_stopped.ensures.keys.taken ∙ c.work_due.ensures.keys.taken)))))
    (λ b k. sym c.in-Ok-Some.field-0-is ∙ c.in-Ok-Some.ensures.first b k) known is
