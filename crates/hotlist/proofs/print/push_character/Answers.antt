use Rattle.std.proofs.Common.{◌≢◌, ◌++◌, ap, ◌∙◌, sym, arith}
use Rattle.std.specs.String.{string_bytes}
use Rattle.hotlist.proofs.PrintLemmas.{escaped-character}
use Rattle.hotlist.proofs.print.push_character.Goals as goal

pub returns-in_ok-push-in_default : goal.returns-in_ok-push-in_default
returns-in_ok-push-in_default c =
    let quote : c.args.character ≢ 34 = λ is. absurd (omega (arith, is)) in
    let backslash : c.args.character ≢ 92 = λ is. absurd (omega (arith, is)) in
    c.in_ok-push-in_default.ensures.bytes ∙ ap (λ bytes. string_bytes c.args.text.now ++ bytes) (sym (escaped-character c.args.character quote backslash))
