-- a byte alone is the front of a key, or a key
use Rattle.std.proofs.Common.{[], ◌∷◌, arith, sym, ◌∙◌, ap, refl}
use Rattle.std.proofs.lemmas.List.{take_more_set}
use Rattle.key_screen.specs.KeySpelling.{unknown}
use Rattle.key_screen.specs.DecodedKeys.{with_key, decoded_afresh, no_key}
use Rattle.key_screen.specs.declared.spelling.Spelling.TheVariants.{Partial, Whole}
use Rattle.key_screen.proofs.DecodedLemmas.{spelling_of-first, told}
use Rattle.key_screen.proofs.reader.KeyReader.feed_afresh.Goals as goal

pub returns-in-Partial-clause-keys : goal.returns-in-Partial-clause-keys
returns-in-Partial-clause-keys c =
    let is = spelling_of-first c.self.inside.bytes c.args.byte Partial (omega arith) (sym c.in-Partial.is ∙ c.spelled.ensures) in
    ap (λ s. with_key unknown (decoded_afresh s c.args.byte no_key)) is
    ∙ told c.one.result _ _ (c.args.byte ∷ []) c.one.ensures (take_more_set c.self.inside.bytes 0 c.args.byte (omega arith))

pub returns-in-Whole-clause-keys : goal.returns-in-Whole-clause-keys
returns-in-Whole-clause-keys c =
    let is = spelling_of-first c.self.inside.bytes c.args.byte (Whole c.in-Whole.key) (omega arith) (sym c.in-Whole.is ∙ c.spelled.ensures) in
    ap (λ s. with_key unknown (decoded_afresh s c.args.byte no_key)) is ∙ told c.two.result _ [] [] c.two.ensures refl
