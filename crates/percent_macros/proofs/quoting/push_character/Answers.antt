use Rattle.std.proofs.Common.{ap, ◌∙◌, sym, arith, ◌++◌}
use Rattle.std.specs.String.{string_bytes}
use Rattle.text_scan.proofs.HighLemmas.{encode-high}
use Rattle.percent_macros.proofs.QuoteLemmas.{quoted_bytes-high}
use Rattle.percent_macros.proofs.quoting.push_character.Goals as goal

pub returns-in_ok-push-in_default : goal.returns-in_ok-push-in_default
returns-in_ok-push-in_default c =
    c.in_ok-push-in_default.ensures.bytes
    ∙ ap (λ bytes. string_bytes c.args.word.now ++ bytes) (sym (quoted_bytes-high _ (encode-high c.args.character (omega arith))))
