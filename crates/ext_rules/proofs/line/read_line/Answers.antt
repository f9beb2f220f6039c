use Rattle.std.proofs.Common.{◌≡◌, codes, ap, ◌∙◌, sym}
use Rattle.std.proofs.lemmas.Result.{IfOk-weaker}
use Rattle.text_scan.specs.Words.{behind_word}
use Rattle.ext_rules.specs.ExtLines.{reading_of, action_line}
use Rattle.ext_rules.proofs.FileLemmas.{not_begun, reading_of-action}
use Rattle.ext_rules.proofs.line.read_line.Goals as goal

pub returns-in-Some : goal.returns-in-Some
returns-in-Some c =
    let line = c.args.line.now in
    let no_comment = not_begun c.behind_word.result (behind_word (codes "#") line) (sym c.is_some.ensures ∙ c.if-is_some.false) c.behind_word.ensures.found in
    let says = reading_of-action line c.in-Some.words.now (sym c.is_empty.ensures ∙ c.if-is_empty.false) no_comment (sym c.in-Some.ensures.found) in
    IfOk-weaker c.read_action.result (λ read. read ≡ action_line c.unindented.result.now) (λ read. read ≡ reading_of line)
    (λ read is. is ∙ ap action_line c.unindented.ensures ∙ sym says) c.read_action.ensures
