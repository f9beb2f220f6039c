use Rattle.std.proofs.Common.{◌∙◌, sym}
use Rattle.main_words.proofs.DigitLemmas.{number_read}
use Rattle.main_words.proofs.numbers.number_of.Goals as goal

pub returns : goal.returns
returns c = c.ok.ensures.value ∙ number_read c.args.most c.args.text.now c.parse.result (sym c.if-not-has_digits.ensures) c.parse.ensures.value.0
