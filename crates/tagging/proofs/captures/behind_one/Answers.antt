use Rattle.std.proofs.Common.{sym}
use Rattle.tagging.proofs.FrontLemmas.{one_taken}
use Rattle.tagging.proofs.captures.behind_one.Goals as goal

pub returns-then-stands_for : goal.returns-then-stands_for
returns-then-stands_for c = λ behind.
    one_taken c.args.part.now behind c.args.text.now c.in_ok-character.more.now c.in_ok-character.character c.requires c.utf8.text
    c.in_ok-character.ensures.bytes (sym c.if-stands_for.ensures)
