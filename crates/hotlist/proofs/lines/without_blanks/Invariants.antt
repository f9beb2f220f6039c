use Rattle.std.proofs.Common.{◌≡◌, length}
use denote.Text.{Utf8}
use denote.Shadow.{shadow}
use Rattle.hotlist.specs.HotLines.{without_blanks}
use Rattle.hotlist.proofs.lines.without_blanks.Given as goal

abbrev pub invariant-loop-behind : goal.invariant-loop-behind
invariant-loop-behind l = record {
  text : shadow (Utf8 l.rest);
  same : without_blanks l.rest ≡ without_blanks l.text;
}

abbrev pub decreases-loop-behind : goal.decreases-loop-behind
decreases-loop-behind l = length l.rest
