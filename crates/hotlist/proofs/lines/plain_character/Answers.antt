use Rattle.std.proofs.Common.{◌++◌, ap, ◌∙◌, encode_utf8, false}
use Rattle.hotlist.specs.HotLines.{up_to_quote}
use Rattle.hotlist.proofs.QuoteLemmas.{up_to_quote-character, up_to_quote-bad}
use lib.Utf8.{encode}
use Rattle.hotlist.proofs.lines.plain_character.Goals as goal

pub returns-then-character-ne92-clause-read : goal.returns-then-character-ne92-clause-read
returns-then-character-ne92-clause-read c = up_to_quote-character c.args.character c.args.behind.now c.requires c.if-character-ne92.true

pub returns-in-None-clause-read : goal.returns-in-None-clause-read
unfolding encode
returns-in-None-clause-read c =
    ap (λ character. up_to_quote false (encode_utf8 character ++ c.args.behind.now)) c.if-character-ne92.false
    ∙ up_to_quote-bad c.args.behind.now c.in_default.ensures.found c.in-None.ensures.found
