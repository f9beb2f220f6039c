-- A name is one of some whatever their order, and the name of a part is none of names that don't begin as one does.
use Rattle.std.proofs.Common.{◌≡◌, ℕ, List, [], ◌∷◌, reverse, Bool, true, false, refl, sym, ◌∙◌, ap}
use Rattle.std.specs.Prelude.{◌||◌}
use Rattle.std.specs.List.{list_any}
use Rattle.std.proofs.lemmas.Bool.{false≢true}
use Rattle.std.proofs.lemmas.Slice.Eq.{bytes_eq-Decides}
use Rattle.std.specs.Str.{bytes_eq}
use Rattle.std.proofs.lemmas.List.Sorted.{IsPermutation-reverse, list_any-IsPermutation}
use Rattle.tree_walk.specs.Places.{is_named_as_part, is_one_of}

pub one_reversed : (name : List ℕ) (names : List (List ℕ)) → is_one_of name names ≡ is_one_of name (reverse names)
one_reversed name names = list_any-IsPermutation (λ met. bytes_eq met name) names (reverse names) (IsPermutation-reverse names)

first_false : (a b : Bool) → (a || b) ≡ false → a ≡ false
first_false true b none = absurd (false≢true (sym none))
first_false false b none = refl

rest_false : (a b : Bool) → (a || b) ≡ false → b ≡ false
rest_false true b none = absurd (false≢true (sym none))
rest_false false b none = none

apart_so : (name : List ℕ) (names : List (List ℕ)) → is_named_as_part name ≡ true → list_any is_named_as_part names ≡ false → is_one_of name names ≡ false
apart_so name [] is none = refl
apart_so name (met ∷ names) is none =
    by (bytes_eq met name) refl (apart_so name names is (rest_false (is_named_as_part met) (list_any is_named_as_part names) none))
  where
    by : (b : Bool) → bytes_eq met name ≡ b → is_one_of name names ≡ false → (b || is_one_of name names) ≡ false
    by true same rest =
        let named : is_named_as_part met ≡ true = ap is_named_as_part ((bytes_eq-Decides met name).0 same) ∙ is in
        absurd (false≢true (sym (first_false (is_named_as_part met) (list_any is_named_as_part names) none) ∙ named))
    by false other rest = rest

pub none_named_so : (name : List ℕ) (names : List (List ℕ)) → is_named_as_part name ≡ true → list_any is_named_as_part names ≡ false → false ≡ is_one_of name (reverse names)
none_named_so name names is none = sym (sym (one_reversed name names) ∙ apart_so name names is none)
