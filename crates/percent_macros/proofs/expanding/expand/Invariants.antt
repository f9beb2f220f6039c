-- The draft is the expansion of what stands before the rest.
use Rattle.std.proofs.Common.{◌≡◌, ◌++◌, length, List, ℕ}
use denote.Text.{Utf8}
use denote.Shadow.{shadow}
use Rattle.percent_macros.specs.Drafts.{draft_of}
use Rattle.percent_macros.specs.Expansion.{Expands}
use Rattle.percent_macros.proofs.expanding.expand.Given as goal

abbrev pub invariant-loop-plain : goal.invariant-loop-plain
invariant-loop-plain l = record {
  utf8 : shadow (Utf8 l.rest);
  front : List ℕ;
  expands : Expands l.context front (draft_of l.draft);
  cut : l.text ≡ front ++ l.rest;
}

abbrev pub decreases-loop-plain : goal.decreases-loop-plain
decreases-loop-plain l = length l.rest
