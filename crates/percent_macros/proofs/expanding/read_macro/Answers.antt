use Rattle.std.proofs.Common.{◌≡◌, ◌++◌, ◌∷◌, [], Some, ap, ◌∙◌, sym, refl, append_assoc, arith}
use Rattle.percent_macros.specs.MacroTable.{macro_named}
use Rattle.percent_macros.specs.Expansion.{prompt_expansion, meaning}
use Rattle.percent_macros.proofs.TableLemmas.{macro_named-ascii, BeginsNoMacro-char}
use Rattle.percent_macros.proofs.ExpansionLemmas.{Expands-macro, Expands-prompt}
use Rattle.percent_macros.proofs.expanding.read_macro.Goals as goal

pub returns-in_default-macro_named-clause-refused : goal.returns-in_default-macro_named-clause-refused
returns-in_default-macro_named-clause-refused c = λ _. (
  refl,
  BeginsNoMacro-char c.args.behind.now c.in-Some.rest.now c.in-Some.letter c.in-Some.ensures.bytes c.in-Some.ensures.ascii
      c.in-Some.ensures.high (sym c.macro_named.ensures ∙ c.in_default-macro_named.is) c.in-Some.letter-test.1,
)

pub returns-in_ok-ask-in-Some-eq123-default-clause-read : goal.returns-in_ok-ask-in-Some-eq123-default-clause-read
returns-in_ok-ask-in-Some-eq123-default-clause-read c =
    let question = c.in-Some-split_at_mark.question.now in
    let rest = c.in-Some-split_at_mark.rest.now in
    let behind : c.args.behind.now ≡ 123 ∷ c.in-Some-eq123-default.prompt.now =
    c.in-Some-eq123-default.ensures.ascii (omega arith) ∙ ap (λ letter. letter ∷ c.in-Some-eq123-default.prompt.now) c.in-Some-eq123-default.field-0-0-test in
    record {
      text = 37 ∷ 123 ∷ (question ++ 125 ∷ []);
      expanded = prompt_expansion question;
      expands = Expands-prompt c.args.context.now question c.in-Some-split_at_mark.ensures.found.0;
      cut = ap (λ text. 37 ∷ text) behind ∙ ap (λ text. 37 ∷ 123 ∷ text) (c.in-Some-split_at_mark.ensures.found.1 ∙ sym (append_assoc question (125 ∷ []) rest));
      added = c.in_ok-ask-in-Some-eq123-default.ensures;
    }

pub returns-in_ok-insert-in-Some-clause-read : goal.returns-in_ok-insert-in-Some-clause-read
returns-in_ok-insert-in-Some-clause-read c =
    let named : macro_named c.in-Some.letter ≡ Some c.in-Some-macro_named.meant = sym c.macro_named.ensures ∙ c.in-Some-macro_named.is in
    record {
      text = 37 ∷ c.in-Some.letter ∷ [];
      expanded = meaning c.args.context.now c.in-Some-macro_named.meant;
      expands = Expands-macro c.args.context.now c.in-Some.letter c.in-Some-macro_named.meant named;
      cut = ap (λ text. 37 ∷ text) (c.in-Some.ensures.ascii (macro_named-ascii c.in-Some.letter c.in-Some-macro_named.meant named));
      added = c.in_ok-insert-in-Some.ensures;
    }
