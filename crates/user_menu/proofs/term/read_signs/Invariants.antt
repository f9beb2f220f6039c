-- What is left decides.
use Rattle.std.proofs.Common.{◌≡◌, length}
use denote.Text.{Utf8}
use denote.Shadow.{shadow}
use Rattle.user_menu.specs.Conditions.{turned_sense, sense_of, behind_signs}
use Rattle.user_menu.proofs.term.read_signs.Given as goal

abbrev pub invariant-loop-turn : goal.invariant-loop-turn
invariant-loop-turn l = record {
  text : shadow (Utf8 l.rest);
  sense_is : turned_sense l.sense (sense_of l.rest) ≡ sense_of l.text;
  behind_is : behind_signs l.rest ≡ behind_signs l.text;
}

abbrev pub decreases-loop-turn : goal.decreases-loop-turn
decreases-loop-turn l = length l.rest
