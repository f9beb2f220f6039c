-- The words of what is left are those of the text.
use Rattle.std.proofs.Common.{◌≡◌, ◌+◌, ◌≤◌, length}
use Rattle.panel_listing.specs.FormatTexts.{words_from}
use Rattle.panel_listing.proofs.words.next_word.Given as goal

abbrev pub invariant-loop-byte : goal.invariant-loop-byte
invariant-loop-byte l = record {
  words : words_from l.from l.rest ≡ words_from l.at l.text;
  place : l.from + length l.rest ≡ l.at + length l.text;
  shorter : length l.rest ≤ length l.text;
}

abbrev pub decreases-loop-byte : goal.decreases-loop-byte
decreases-loop-byte l = length l.rest
