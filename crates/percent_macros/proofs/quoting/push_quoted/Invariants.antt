-- What is written, and what is left of the text, quoted.
use Rattle.std.proofs.Common.{◌≡◌, ◌++◌, length}
use denote.Text.{Utf8}
use denote.Shadow.{shadow}
use Rattle.std.specs.String.{string_bytes}
use Rattle.percent_macros.specs.Quoting.{quoted_bytes}
use Rattle.percent_macros.proofs.quoting.push_quoted.Given as goal

abbrev pub invariant-loop-character : goal.invariant-loop-character
invariant-loop-character l = record {
  text : shadow (Utf8 l.rest);
  written : string_bytes l.word ++ quoted_bytes l.rest ≡ string_bytes l.initial.word ++ quoted_bytes l.text;
}

abbrev pub decreases-loop-character : goal.decreases-loop-character
decreases-loop-character l = length l.rest
