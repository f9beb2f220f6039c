-- A star alone matches each name.
use Rattle.std.proofs.Common.{◌≡◌, ℕ, ◌==◌, true, false, not, is_some, List, [], ◌∷◌, length, reverse, Some, refl, sym, ap, ◌∙◌, arith}
use Rattle.std.specs.Prelude.{chars}
use Rattle.std.proofs.lemmas.Bool.Decides.{nat_tests}
use Rattle.std.proofs.lemmas.List.{length-reverse}
use Rattle.tagging.specs.declared.glob.GlobPart.{GlobPart}
use Rattle.tagging.specs.declared.glob.GlobPart.TheVariants.{Plain, AnyOne, AnyText, OneOf}
use Rattle.tagging.specs.Globs.{is_match, longest_prefix, nothing_in_front}
use Rattle.mc_text.specs.Routes.{Route}
use Rattle.op_plan.specs.Naming.{has_match}
use Rattle.op_plan.specs.Stars.{is_star}

-- the longest front that may stand before nothing is the whole text
front_whole : (text : List ℕ) → longest_prefix nothing_in_front text ≡ Some (text ∷ [])
front_whole [] = refl
front_whole (character ∷ text) = rw (front_whole text) refl

star_matches : (name : List ℕ) → is_match (AnyText ∷ []) name ≡ true
unfolding is_match
star_matches name = ap is_some (front_whole name)

any_match : (names source : Route) → reverse names ≡ source → not (length names == 0) ≡ has_match (AnyText ∷ []) source
any_match names [] e =
    let size : length names ≡ 0 = sym (length-reverse names) ∙ ap length e in
    rw size refl
any_match names (name ∷ folder) e =
    let size : length names ≡ length (name ∷ folder) = sym (length-reverse names) ∙ ap length e in
    let some : (length names == 0) ≡ false = grind (arith, nat_tests) in
    rw (some, star_matches (chars name)) refl

-- it matches what has a name
pub star_match : (pattern : List GlobPart) (names source : Route) → is_star pattern ≡ true → reverse names ≡ source
    → not (length names == 0) ≡ has_match pattern source
star_match [] names source star e = cc
star_match (AnyText ∷ []) names source star e = any_match names source e
star_match (AnyText ∷ part ∷ parts) names source star e = cc
star_match (Plain plain ∷ parts) names source star e = cc
star_match (AnyOne ∷ parts) names source star e = cc
star_match (OneOf bracket ∷ parts) names source star e = cc
