use Rattle.text_scan.proofs.HighLemmas.{encode-high}
use Rattle.text_scan.proofs.first_char.Goals as goal

pub returns-in-Some-clause-high : goal.returns-in-Some-clause-high
returns-in-Some-clause-high c = encode-high c.in-Some.character
