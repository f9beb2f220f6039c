use Rattle.std.proofs.Common.{◌≡◌, ◌-◌, ◌++◌, ◌∷◌, List, ℕ, length, ap, ◌∙◌, sym, subst, append_assoc, arith, rules}
use Rattle.std.specs.List.{flat_map}
use Rattle.std.proofs.lemmas.List.{length-append}
use Rattle.std.proofs.lemmas.Result.{err_from_is_err_and}
use Rattle.percent_macros.specs.Expansion.{Expands, joined_expansions, spelling, IsFaultAt}
use Rattle.percent_macros.proofs.ExpansionLemmas.{Expands-append, Expands-typed}
use Rattle.percent_macros.proofs.expanding.expand.Goals as goal

-- three texts that follow each other, and what stands behind them
regrouped : (front plain text rest : List ℕ) → front ++ (plain ++ (text ++ rest)) ≡ ((front ++ plain) ++ text) ++ rest
regrouped front plain text rest = sym (append_assoc front plain (text ++ rest)) ∙ sym (append_assoc (front ++ plain) text rest)

pub loop-plain-preserved : goal.loop-plain-preserved
loop-plain-preserved c =
    let here = c.loop-plain.invariant in
    let plain = c.in-Some.plain.now in
    let read = c.in_ok-rest.ensures.read in
    let before = Expands-append c.args.context.now here.front plain _ _ here.expands (Expands-typed c.args.context.now plain c.in-Some.ensures.found.0) in
    let whole = Expands-append c.args.context.now (here.front ++ plain) read.text _ _ before read.expands in
    record {
      utf8 = search rules;
      front = (here.front ++ plain) ++ read.text;
      expands = subst (Expands c.args.context.now ((here.front ++ plain) ++ read.text))
          (sym (read.added ∙ ap (λ draft. joined_expansions draft read.expanded) c.in_ok-write.ensures)) whole;
      cut = here.cut ∙ ap (λ rest. here.front ++ rest) (c.in-Some.ensures.found.1 ∙ ap (λ rest. plain ++ rest) read.cut)
          ∙ regrouped here.front plain read.text c.in_ok-rest.rest.now;
    }

pub returns-in_err-rest-clause-refused : goal.returns-in_err-rest-clause-refused
returns-in_err-rest-clause-refused c =
    let p = err_from_is_err_and c.from_residual-in_err-rest.result c.from_residual-in_err-rest.ensures.1 in
    rw (p.1, p.2) (λ other.
    let here = c.loop-plain.invariant in
    let plain = c.in-Some.plain.now in
    let behind = c.in-Some.behind.now in
    let before = Expands-append c.args.context.now here.front plain _ _ here.expands (Expands-typed c.args.context.now plain c.in-Some.ensures.found.0) in
    let cut : c.args.text.now ≡ (here.front ++ plain) ++ 37 ∷ behind =
    here.cut ∙ ap (λ rest. here.front ++ rest) c.in-Some.ensures.found.1 ∙ sym (append_assoc here.front plain (37 ∷ behind)) in
    let place : length c.args.text.now - length behind - 1 ≡ length (flat_map spelling before.parts) =
    omega (arith, ap length cut, length-append (here.front ++ plain) (37 ∷ behind), ap length before.spelled) in
    record {
      parts = before.parts;
      rest = behind;
      written = before.written;
      spelled = cut ∙ ap (λ front. front ++ 37 ∷ behind) before.spelled;
      fault_is = subst (λ at. IsFaultAt at behind c.in_err-rest.field-0.0) place (c.in_err-rest.ensures.refused other);
    })

pub returns-clause-expanded : goal.returns-clause-expanded
returns-clause-expanded c =
    let here = c.loop-plain.invariant in
    let rest = c.loop-plain.rest.now in
    let whole = Expands-append c.args.context.now here.front rest _ _ here.expands (Expands-typed c.args.context.now rest c.in_default.ensures.found) in
    subst (λ text. Expands c.args.context.now text c.in_ok-expanded.expanded) (sym here.cut)
    (subst (Expands c.args.context.now (here.front ++ rest)) (sym (c.in_ok-expanded.ensures ∙ c.in_ok-write-2.ensures)) whole)
