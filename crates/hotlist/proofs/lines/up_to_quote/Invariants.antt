-- What is read so far, before what is left.
use Rattle.std.proofs.Common.{◌≡◌, false, length}
use denote.Text.{Utf8}
use denote.Shadow.{shadow}
use Rattle.std.specs.String.{string_bytes}
use Rattle.hotlist.specs.HotLines.{up_to_quote}
use Rattle.hotlist.specs.LineViews.{with_bytes}
use Rattle.hotlist.proofs.lines.up_to_quote.Given as goal

abbrev pub invariant-loop-character : goal.invariant-loop-character
invariant-loop-character l = record {
  utf8 : shadow (Utf8 l.rest);
  so_far : with_bytes (string_bytes l.read) (up_to_quote false l.rest) ≡ up_to_quote false l.text;
}

abbrev pub decreases-loop-character : goal.decreases-loop-character
decreases-loop-character l = length l.rest
