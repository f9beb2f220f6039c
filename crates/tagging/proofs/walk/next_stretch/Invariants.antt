use Rattle.std.proofs.Common.{◌≤◌, length}
use Rattle.std.specs.Str.{chars}
use denote.Text.{Utf8}
use denote.Shadow.{shadow}
use Rattle.tagging.proofs.WalkLemmas.{IsWalked}
use Rattle.tagging.proofs.walk.next_stretch.Given as goal

abbrev pub invariant-loop-part : goal.invariant-loop-part
invariant-loop-part l = record {
  text : shadow (Utf8 l.text);
  walked : IsWalked l.initial.parts (chars l.initial.text) l.parts (chars l.text);
  fewer : length l.parts ≤ length l.initial.parts;
  shorter : length l.text ≤ length l.initial.text;
}

abbrev pub decreases-loop-part : goal.decreases-loop-part
decreases-loop-part l = length l.parts
