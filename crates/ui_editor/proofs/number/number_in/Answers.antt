use Rattle.std.proofs.Common.{◌∙◌, sym}
use Rattle.ui_editor.proofs.DigitLemmas.{number_read}
use Rattle.ui_editor.proofs.number.number_in.Goals as goal

pub returns : goal.returns
returns c = c.ok.ensures.value ∙ number_read c.args.text.now c.parse.result (sym c.if-not-are_digits.ensures) c.parse.ensures.value.0
