-- The terms so far, before those of the rest.
use Rattle.std.proofs.Common.{◌≡◌, length}
use denote.Text.{Utf8}
use denote.Shadow.{shadow}
use Rattle.user_menu.specs.declared.condition.Joint.TheVariants.{And}
use Rattle.user_menu.specs.Conditions.{terms_of}
use Rattle.user_menu.specs.Courses.{onto_terms}
use Rattle.user_menu.proofs.reading.read_terms.Given as goal

abbrev pub invariant-terms : goal.invariant-terms
invariant-terms l = record {
  utf8 : shadow (Utf8 l.rest);
  same : onto_terms l.terms.items (terms_of l.kind l.joint l.rest) ≡ terms_of l.kind And l.text;
}

abbrev pub decreases-terms : goal.decreases-terms
decreases-terms l = length l.rest
