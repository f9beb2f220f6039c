-- The number so far goes on with the digits that are left; it has no more digits than were read.
use Rattle.std.proofs.Common.{◌≡◌, ◌≤◌, length}
use Rattle.panel_listing.specs.FormatTexts.{number_from}
use Rattle.panel_listing.proofs.parsing.number_in.Given as goal

abbrev pub invariant-loop-digit : goal.invariant-loop-digit
invariant-loop-digit l = record {
  number_is : number_from l.number l.rest ≡ number_from 0 l.digits;
  long : length l.rest ≤ 3;
  none : 3 ≤ length l.rest → l.number ≡ 0;
  one : 2 ≤ length l.rest → l.number ≤ 9;
  two : 1 ≤ length l.rest → l.number ≤ 99;
  three : l.number ≤ 999;
}

abbrev pub decreases-loop-digit : goal.decreases-loop-digit
decreases-loop-digit l = length l.rest
