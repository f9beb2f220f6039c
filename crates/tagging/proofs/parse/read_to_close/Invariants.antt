use Rattle.std.proofs.Common.{◌≡◌, ◌≤◌, length, false}
use Rattle.std.specs.Str.{chars}
use denote.Text.{Utf8}
use denote.Shadow.{shadow}
use Rattle.tagging.specs.GlobText.{marks_up_to_close, after_marks}
use Rattle.tagging.proofs.parse.read_to_close.Given as goal

abbrev pub invariant-loop-character : goal.invariant-loop-character
invariant-loop-character l = record {
  text : shadow (Utf8 l.rest);
  same : after_marks l.marks.items (marks_up_to_close false (chars l.rest)) ≡ after_marks l.initial.marks.items (marks_up_to_close false (chars l.text));
  shorter : length l.rest ≤ length l.text;
}

abbrev pub decreases-loop-character : goal.decreases-loop-character
decreases-loop-character l = length l.rest
