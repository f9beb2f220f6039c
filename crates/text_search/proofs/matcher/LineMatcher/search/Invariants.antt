-- The lines before the one that is looked at have nothing.
use Rattle.std.proofs.Common.{◌≡◌, ℕ, ◌+◌, ◌-◌, ◌≤◌, List, length, take, drop}
use Rattle.std.specs.Prelude.{nat_lt}
use Rattle.text_search.specs.Lines.{in_lines}
use Rattle.text_search.proofs.matcher.LineMatcher.search.Given as goal

abbrev pub invariant-loop-start : goal.invariant-loop-start
invariant-loop-start l = record {
  same : l.self ≡ l.fn.self;
  low : l.start ≤ length l.part + 1;
  last : l.is_last ≡ nat_lt (length l.part) 1048577;
  left : (at : ℕ) (rest : List ℕ) → l.part ≡ take 1048577 rest → in_lines l.fn.self at 0 rest ≡ in_lines l.fn.self (at + l.start) 0 (drop l.start rest);
}

abbrev pub decreases-loop-start : goal.decreases-loop-start
decreases-loop-start l = length l.part + 1 - l.start
