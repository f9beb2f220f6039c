-- A part that is begun has the name of nothing that is yet to be met in the folder that is worked.
use Rattle.std.proofs.Common.{◌≡◌, ℕ, Bool, true, false, List, [], ◌∷◌, refl, sym, ◌∙◌, ap, inl, inr}
use Rattle.std.proofs.lemmas.Bool.{false≢true}
use Rattle.std.specs.Prelude.{◌&&◌, ◌||◌, not}
use Rattle.std.specs.Str.{bytes_eq}
use Rattle.std.proofs.lemmas.Slice.Eq.{bytes_eq-Decides}
use Rattle.mc_text.specs.Routes.{Route}
use Rattle.tree_trait.specs.CrashImages.{Among}
use Rattle.tree_walk.specs.Places.{is_one_of}
use Rattle.copy_tree.specs.Parts.{IsPartPlace, ahead}
use Rattle.copy_tree.specs.Standing.{Seen}

or_right : (a b : Bool) → b ≡ true → (a || b) ≡ true
or_right true b is = refl
or_right false b is = is

among_one : (name : List ℕ) (names : List (List ℕ)) → Among names name → is_one_of name names ≡ true
among_one name [] among = absurd among
among_one name (first ∷ names) (inl same) = ap (λ b. b || is_one_of name names) ((bytes_eq-Decides first name).1 (sym same))
among_one name (first ∷ names) (inr among) = or_right (bytes_eq first name) (is_one_of name names) (among_one name names among)

none_of : (free one : Bool) → (free && not one) ≡ true → one ≡ false
none_of true true is = absurd (false≢true is)
none_of true false is = refl
none_of false one is = absurd (false≢true is)

pub parts_apart : (free : Route → Bool) (c : Seen) (name : List ℕ) (folder : Route) → IsPartPlace free c (name ∷ folder) → Among (ahead c) name → ⊥
parts_apart free c name folder place among = false≢true (sym (none_of (free (name ∷ folder)) (is_one_of name (ahead c)) place) ∙ among_one name (ahead c) among)
