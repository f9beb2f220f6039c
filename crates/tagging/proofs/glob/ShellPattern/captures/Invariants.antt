use Rattle.std.proofs.Common.{◌≡◌, length}
use Rattle.std.specs.Str.{chars}
use denote.Text.{Utf8}
use denote.Shadow.{shadow}
use Rattle.tagging.specs.Globs.{captures_of}
use Rattle.tagging.proofs.FrontLemmas.{after_captures}
use Rattle.tagging.proofs.glob.ShellPattern.captures.Given as goal

abbrev pub invariant-loop-part : goal.invariant-loop-part
invariant-loop-part l = record {
  text : shadow (Utf8 l.rest);
  same : after_captures l.captured (captures_of l.parts (chars l.rest)) ≡ captures_of l.self (chars l.name);
}

abbrev pub decreases-loop-part : goal.decreases-loop-part
decreases-loop-part l = length l.parts
