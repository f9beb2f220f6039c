-- How much was read, and the size of what is left.
use Rattle.std.proofs.Common.{◌≡◌, ◌+◌, length}
use Rattle.panel_listing.specs.Words.{word_size}
use Rattle.panel_listing.proofs.words.word_size.Given as goal

abbrev pub invariant-loop-byte : goal.invariant-loop-byte
invariant-loop-byte l = record {
  size_is : l.size + word_size l.rest ≡ word_size l.text;
  within : l.size + length l.rest ≡ length l.text;
}

abbrev pub decreases-loop-byte : goal.decreases-loop-byte
decreases-loop-byte l = length l.rest
