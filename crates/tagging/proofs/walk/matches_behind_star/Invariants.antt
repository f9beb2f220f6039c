use Rattle.std.proofs.Common.{◌≡◌, ◌+◌, ◌∷◌, length}
use Rattle.std.specs.Str.{chars}
use denote.Text.{Utf8}
use denote.Shadow.{shadow}
use Rattle.tagging.specs.Globs.{is_match}
use Rattle.tagging.specs.declared.glob.GlobPart.TheVariants.{AnyText}
use Rattle.tagging.proofs.walk.matches_behind_star.Given as goal

abbrev pub invariant-loop-behind : goal.invariant-loop-behind
invariant-loop-behind l = record {
  text : shadow (Utf8 l.text);
  same : is_match (AnyText ∷ l.parts) (chars l.text) ≡ is_match (AnyText ∷ l.initial.parts) (chars l.initial.text);
}

abbrev pub decreases-loop-behind : goal.decreases-loop-behind
decreases-loop-behind l = length l.parts + length l.text
