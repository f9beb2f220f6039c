-- What is written, and what is left of the text, escaped.
use Rattle.std.proofs.Common.{◌≡◌, ◌++◌, length}
use denote.Text.{Utf8}
use denote.Shadow.{shadow}
use Rattle.std.specs.List.{flat_map}
use Rattle.std.specs.String.{string_bytes}
use Rattle.hotlist.specs.Printed.{escaped_byte}
use Rattle.hotlist.proofs.print.push_escaped.Given as goal

abbrev pub invariant-loop-character : goal.invariant-loop-character
invariant-loop-character l = record {
  utf8 : shadow (Utf8 l.rest);
  written : string_bytes l.text ++ flat_map escaped_byte l.rest ≡ string_bytes l.initial.text ++ flat_map escaped_byte l.plain;
}

abbrev pub decreases-loop-character : goal.decreases-loop-character
decreases-loop-character l = length l.rest
