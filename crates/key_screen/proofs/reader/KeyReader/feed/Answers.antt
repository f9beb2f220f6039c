-- the bytes held, and the new one behind them, decide by what they spell
use Rattle.std.proofs.Common.{◌≡◌, ◌+◌, [], ◌∷◌, ◌++◌, arith, sym, ◌∙◌, ap, take, set, refl}
use Rattle.std.proofs.lemmas.List.{take_more_set}
use Rattle.key_screen.specs.KeySpelling.{spelling_of}
use Rattle.key_screen.specs.declared.spelling.Spelling.TheVariants.{Partial, Whole, Broken}
use Rattle.key_screen.proofs.FrontLemmas.{spelling_of-short}
use Rattle.key_screen.proofs.DecodedLemmas.{decoded_keys-one_more, spelling_of-held, told, held-short}
use Rattle.key_screen.proofs.reader.KeyReader.feed.Goals as goal

pub invariant_of-self : goal.invariant_of-self
invariant_of-self c =
    let partial : spelling_of (take (c.self.inside.count + 1) (set c.self.inside.bytes c.self.inside.count c.args.byte)) ≡ Partial
    = sym c.spelled.ensures ∙ c.in-Partial.is in
    (omega (arith, held-short c.self.inside.bytes c.self.inside.count c.args.byte (omega arith) partial), partial)

pub returns-in-Partial-clause-keys : goal.returns-in-Partial-clause-keys
returns-in-Partial-clause-keys c =
    let prefix : spelling_of c.args.self.now ≡ Partial = ap spelling_of (sym c.self.view_is) ∙ c.self.invariant.1 in
    let is = spelling_of-held c.self.inside.bytes c.self.inside.count c.args.byte c.args.self.now Partial (omega arith) c.self.view_is (sym c.in-Partial.is ∙ c.spelled.ensures) in
    decoded_keys-one_more c.args.self.now c.args.byte Partial prefix is
    ∙ told c.none.result _ _ _ c.none.ensures (take_more_set c.self.inside.bytes c.self.inside.count c.args.byte (omega arith) ∙ ap (λ held. held ++ c.args.byte ∷ []) c.self.view_is)

pub returns-in-Partial-clause-bounded : goal.returns-in-Partial-clause-bounded
returns-in-Partial-clause-bounded c =
    let partial : spelling_of (take (c.self.inside.count + 1) (set c.self.inside.bytes c.self.inside.count c.args.byte)) ≡ Partial
    = sym c.spelled.ensures ∙ c.in-Partial.is in
    spelling_of-short _ partial

pub returns-in-Whole-clause-keys : goal.returns-in-Whole-clause-keys
returns-in-Whole-clause-keys c =
    let prefix : spelling_of c.args.self.now ≡ Partial = ap spelling_of (sym c.self.view_is) ∙ c.self.invariant.1 in
    let is = spelling_of-held c.self.inside.bytes c.self.inside.count c.args.byte c.args.self.now (Whole c.in-Whole.key) (omega arith) c.self.view_is (sym c.in-Whole.is ∙ c.spelled.ensures) in
    decoded_keys-one_more c.args.self.now c.args.byte (Whole c.in-Whole.key) prefix is ∙ told c.one.result _ [] [] c.one.ensures refl

pub returns-in-Broken-clause-keys : goal.returns-in-Broken-clause-keys
returns-in-Broken-clause-keys c =
    let prefix : spelling_of c.args.self.now ≡ Partial = ap spelling_of (sym c.self.view_is) ∙ c.self.invariant.1 in
    let is = spelling_of-held c.self.inside.bytes c.self.inside.count c.args.byte c.args.self.now Broken (omega arith) c.self.view_is (sym c.in-Broken.is ∙ c.spelled.ensures) in
    decoded_keys-one_more c.args.self.now c.args.byte Broken prefix is ∙ c.feed_afresh.ensures.keys

pub returns-in-Broken-clause-first_of_two : goal.returns-in-Broken-clause-first_of_two
returns-in-Broken-clause-first_of_two c = λ _. c.feed_afresh.ensures.first_of_two
