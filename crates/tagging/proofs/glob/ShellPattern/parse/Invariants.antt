use Rattle.std.proofs.Common.{◌≡◌, ◌≤◌, length}
use Rattle.std.specs.Str.{chars}
use denote.Text.{Utf8}
use denote.Shadow.{shadow}
use Rattle.tagging.specs.GlobText.{pattern_of, parts_within, after_parts}
use Rattle.tagging.proofs.glob.ShellPattern.parse.Given as goal

abbrev pub invariant-loop-first : goal.invariant-loop-first
invariant-loop-first l = record {
  text : shadow (Utf8 l.rest);
  same : after_parts l.parts.items (parts_within (length (chars l.rest)) (length l.text) (chars l.rest)) ≡ pattern_of l.text;
  shorter : length l.rest ≤ length l.text;
}

abbrev pub decreases-loop-first : goal.decreases-loop-first
decreases-loop-first l = length l.rest
