-- A format is what its first word and the columns behind it say.
use Rattle.std.proofs.Common.{◌≡◌, ◌∷◌, ◌∙◌, ◌+◌, Some, Ok, length, ap, sym}
use Rattle.std.proofs.lemmas.Result.{err_from_is_err_and}
use Rattle.panel_listing.specs.FormatTexts.{words_from, size_named}
use Rattle.panel_listing.specs.Words.{word_in}
use Rattle.panel_listing.proofs.FormatLemmas.{format-none, format-unsized, format-fault, format-read}
use Rattle.panel_listing.proofs.format.Format.parse.Goals as goal

pub returns-in_default-clause-refused : goal.returns-in_default-clause-refused
returns-in_default-clause-refused c = λ other. format-none c.args.text.now (ap (words_from 0) (sym c.as_bytes.ensures.value) ∙ c.in_default.ensures)

pub returns-in_default-size_named-clause-refused : goal.returns-in_default-size_named-clause-refused
returns-in_default-size_named-clause-refused c =
    let first = c.in-Some.first in
    let rest = words_from (first.at + length first.text.now) c.in-Some.fields.now in
    let words : words_from 0 c.args.text.now ≡ word_in first ∷ rest = ap (words_from 0) (sym c.as_bytes.ensures.value) ∙ c.in-Some.ensures.words in
    λ other. format-unsized c.args.text.now (word_in first) rest words (sym c.size_named.ensures ∙ c.in_default-size_named.is)

pub returns-in_err-columns-clause-refused : goal.returns-in_err-columns-clause-refused
returns-in_err-columns-clause-refused c =
    let first = c.in-Some.first in
    let rest = words_from (first.at + length first.text.now) c.in-Some.fields.now in
    let words : words_from 0 c.args.text.now ≡ word_in first ∷ rest = ap (words_from 0) (sym c.as_bytes.ensures.value) ∙ c.in-Some.ensures.words in
    let size : size_named first.text.now ≡ Some c.in-Some-size_named.full = sym c.size_named.ensures ∙ c.in-Some-size_named.is in
    let p = err_from_is_err_and c.from_residual.result c.from_residual.ensures.1 in
    rw (p.1, p.2) (λ other.
    format-fault c.args.text.now (word_in first) rest words c.in-Some-size_named.full c.in_err-columns.field-0.0 size (c.in_err-columns.ensures.refused other))

pub returns-clause-read : goal.returns-clause-read
returns-clause-read c =
    let first = c.in-Some.first in
    let rest = words_from (first.at + length first.text.now) c.in-Some.fields.now in
    let words : words_from 0 c.args.text.now ≡ word_in first ∷ rest = ap (words_from 0) (sym c.as_bytes.ensures.value) ∙ c.in-Some.ensures.words in
    let size : size_named first.text.now ≡ Some c.in-Some-size_named.full = sym c.size_named.ensures ∙ c.in-Some-size_named.is in
    format-read c.args.text.now (word_in first) rest words c.in-Some-size_named.full c.in_ok-columns.columns.items size c.in_ok-columns.ensures.read
    ∙ ap Ok (sym c.of.ensures)
