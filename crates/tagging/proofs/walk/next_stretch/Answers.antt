use Rattle.std.proofs.Common.{◌∙◌, sym, rules, arith}
use Rattle.std.proofs.lemmas.List.{nil_from_length}
use Rattle.tagging.proofs.WalkLemmas.{AnyText-or_single, walked_on, walked_to_star, walked_short, walked_apart, is_match-nil, is_match-past}
use Rattle.tagging.proofs.walk.next_stretch.Goals as goal

pub returns-in-AnyText-clause-fits : goal.returns-in-AnyText-clause-fits
returns-in-AnyText-clause-fits c =
    walked_to_star c.args.parts.now _ c.in-Some.behind.now _
    (rw (c.in-Some.ensures.cases.0, c.in-AnyText.is) at c.loop-part.invariant.walked)

pub returns-in_default-first_char : goal.returns-in_default-first_char
returns-in_default-first_char c =
    let short = walked_short c.args.parts.now _ c.in-Some.part.now c.in-Some.behind.now (AnyText-or_single _ c.in_default-part.not-AnyText)
    (rw (c.in-Some.ensures.cases.0, c.in_default-first_char.ensures.first) at c.loop-part.invariant.walked) in
    record { fits = short; shrinks = tt }

pub returns-then-not-stands_for : goal.returns-then-not-stands_for
returns-then-not-stands_for c = record {
  fits = walked_apart c.args.parts.now _ c.in-Some.part.now c.in-Some.behind.now c.in-Some-first_char.character _
      (AnyText-or_single _ c.in_default-part.not-AnyText) (sym c.if-not-stands_for.ensures)
      (rw (c.in-Some.ensures.cases.0, c.in-Some-first_char.ensures.first) at c.loop-part.invariant.walked);
  shrinks = tt;
}

pub loop-part-preserved : goal.loop-part-preserved
loop-part-preserved c = record {
  text = search rules;
  walked = walked_on c.args.parts.now _ c.in-Some.part.now c.in-Some.behind.now c.in-Some-first_char.character _
      (AnyText-or_single _ c.in_default-part.not-AnyText) (sym c.if-not-stands_for.ensures)
      (rw (c.in-Some.ensures.cases.0, c.in-Some-first_char.ensures.first) at c.loop-part.invariant.walked);
  fewer = omega (arith, c.in-Some.ensures.cases.1);
  shorter = omega (arith, c.in-Some-first_char.ensures.shorter);
}

pub returns-in-None-clause-fits : goal.returns-in-None-clause-fits
returns-in-None-clause-fits c =
    let ended = nil_from_length _ c.in_default.ensures.cases in
    (rw (ended, c.in-None.ensures.first) at c.loop-part.invariant.walked).here ∙ is_match-nil

pub returns-in-Some-first_char-2-clause-fits : goal.returns-in-Some-first_char-2-clause-fits
returns-in-Some-first_char-2-clause-fits c =
    let ended = nil_from_length _ c.in_default.ensures.cases in
    (rw (ended, c.in-Some-first_char-2.ensures.first) at c.loop-part.invariant.walked).here ∙ is_match-past _ _
