-- The columns so far, before those of what is left.
use Rattle.std.proofs.Common.{◌≡◌, ◌+◌, ◌<◌, ◌^◌, length}
use Rattle.panel_listing.specs.FormatTexts.{words_from, after_columns, columns_of}
use Rattle.panel_listing.proofs.parsing.columns_of.Given as goal

abbrev pub invariant-loop-word : goal.invariant-loop-word
invariant-loop-word l = record {
  columns_are : after_columns l.columns.items (columns_of (words_from l.from l.rest)) ≡ columns_of (words_from l.at l.text);
  place : l.from + length l.rest < 2 ^ 64;
}

abbrev pub decreases-loop-word : goal.decreases-loop-word
decreases-loop-word l = length l.rest
