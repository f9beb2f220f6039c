-- The line ends at the first newline, or with the part.
use Rattle.std.proofs.Common.{length, sym, ◌∙◌, arith}
use Rattle.std.proofs.lemmas.List.{take_all}
use Rattle.text_search.proofs.LineLemmas.{first_line-at, first_line-none}
use Rattle.text_search.proofs.matcher.line_bytes.Goals as goal

pub returns-in-Some : goal.returns-in-Some
returns-in-Some c = record {
  line = first_line-at c.args.part.now c.in-Some.newline c.in-Some.ensures.0.high (λ k low here. c.in-Some.ensures.0.before k (omega arith) low here) c.in-Some.ensures.1;
  within = omega (arith, c.in-Some.ensures.0.high);
  ended = λ _. c.in-Some.ensures.0.high;
}

pub returns-in-None : goal.returns-in-None
returns-in-None c = record {
  line = first_line-none c.args.part.now (λ k low here. c.in-None.ensures k (omega arith) low here) ∙ sym (take_all (length c.args.part.now) c.args.part.now (omega arith));
  within = omega arith;
  ended = λ more. cc;
}

pub returns-in-None-2 : goal.returns-in-None-2
returns-in-None-2 c = (
  c.if-is_last.false,
  first_line-none c.args.part.now (λ k low here. c.in-None-2.ensures k (omega arith) low here),
)
