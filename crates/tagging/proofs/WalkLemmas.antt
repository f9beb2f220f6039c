-- A `*` matches a text where the parts behind it match an end of it.
use Rattle.std.proofs.Common.{◌≡◌, ℕ, Bool, true, false, cond, ◌||◌, ◌&&◌, List, [], ◌∷◌, Option, Some, None, is_some, refl, sym, ap, ◌∙◌, ◌⊎◌, inl, inr}
use mathlib.Core.Bool.{true≢false}
use Rattle.tagging.specs.Stretches.{AreMatchedAlike}
use Rattle.tagging.specs.Globs.{stands_for, is_match, cut_of, after_text, longer_or, longest_prefix, one_in_front}
use Rattle.tagging.specs.declared.glob.GlobPart.{GlobPart}
use Rattle.tagging.specs.declared.glob.GlobPart.TheVariants.{Plain, AnyOne, AnyText, OneOf}

is_some-after_text : (text : List ℕ) (cut : Option (List (List ℕ))) → is_some (after_text text cut) ≡ is_some cut
is_some-after_text text None = refl
is_some-after_text text (Some cut) = refl

or_true : (b : Bool) → (b || true) ≡ true
or_true true = refl
or_true false = refl

or_false : (b : Bool) → (b || false) ≡ b
or_false true = refl
or_false false = refl

-- a cut has a first text
abbrev HasText : Option (List (List ℕ)) → Type 0
HasText None = Unit {0}
HasText (Some []) = ⊥
HasText (Some (text ∷ cut)) = Unit {0}

front_has_text : (cut_rest : List ℕ → Option (List (List ℕ))) (text : List ℕ) → HasText (longest_prefix cut_rest text)
front_has_text cut_rest [] = go (cut_rest [])
  where
    go : (cut : Option (List (List ℕ))) → HasText (after_text [] cut)
    go None = tt
    go (Some cut) = tt
front_has_text cut_rest (c ∷ text) = go (longest_prefix cut_rest text) (cut_rest (c ∷ text))
  where
    go : (longer here : Option (List (List ℕ))) → HasText (longer_or c longer (after_text [] here))
    go (Some (text ∷ cut)) here = tt
    go (Some []) None = tt
    go (Some []) (Some cut) = tt
    go None None = tt
    go None (Some cut) = tt

is_some-longer_or : (c : ℕ) (cut_rest : List ℕ → Option (List (List ℕ))) (text : List ℕ) (other : Option (List (List ℕ)))
    → is_some (longer_or c (longest_prefix cut_rest text) other) ≡ (is_some other || is_some (longest_prefix cut_rest text))
is_some-longer_or c cut_rest text other = go (longest_prefix cut_rest text) (front_has_text cut_rest text)
  where
    go : (cut : Option (List (List ℕ))) → HasText cut → is_some (longer_or c cut other) ≡ (is_some other || is_some cut)
    go None has = sym (or_false (is_some other))
    go (Some []) has = absurd has
    go (Some (text ∷ cut)) has = sym (or_true (is_some other))

-- a part that takes one character
pub record IsSingle (part : GlobPart) : Type 0 where
  pub is : (parts : List GlobPart) (name : List ℕ) → cut_of (part ∷ parts) name ≡ one_in_front part (cut_of parts) name

pub AnyText-or_single : (part : GlobPart) → (part ≡ AnyText → ⊥) → IsSingle part
AnyText-or_single AnyText ne = absurd (ne refl)
AnyText-or_single (Plain plain) ne = record { is = λ _ _. refl }
AnyText-or_single AnyOne ne = record { is = λ _ _. refl }
AnyText-or_single (OneOf bracket) ne = record { is = λ _ _. refl }

pub is_match-nil : is_match [] [] ≡ true
unfolding is_match
is_match-nil = refl

pub is_match-past : (c : ℕ) (text : List ℕ) → is_match [] (c ∷ text) ≡ false
unfolding is_match
is_match-past c text = refl

pub is_match-short : (part : GlobPart) (parts : List GlobPart) → IsSingle part → is_match (part ∷ parts) [] ≡ false
unfolding is_match
is_match-short part parts single = ap is_some (single.is parts [])

pub is_match-one : (part : GlobPart) (parts : List GlobPart) (c : ℕ) (text : List ℕ) → IsSingle part
    → is_match (part ∷ parts) (c ∷ text) ≡ (stands_for part c && is_match parts text)
unfolding is_match
is_match-one part parts c text single = ap is_some (single.is parts (c ∷ text)) ∙ go (stands_for part c)
  where
    go : (b : Bool) → is_some (cond b (after_text (c ∷ []) (cut_of parts text)) None) ≡ (b && is_some (cut_of parts text))
    go true = is_some-after_text (c ∷ []) (cut_of parts text)
    go false = refl

pub is_match-star_nil : (parts : List GlobPart) → is_match (AnyText ∷ parts) [] ≡ is_match parts []
unfolding is_match
is_match-star_nil parts = is_some-after_text [] (cut_of parts [])

pub is_match-star : (parts : List GlobPart) (c : ℕ) (text : List ℕ)
    → is_match (AnyText ∷ parts) (c ∷ text) ≡ (is_match parts (c ∷ text) || is_match (AnyText ∷ parts) text)
unfolding is_match
is_match-star parts c text =
    is_some-longer_or c (cut_of parts) text (after_text [] (cut_of parts (c ∷ text)))
    ∙ ap (λ b. b || is_some (longest_prefix (cut_of parts) text)) (is_some-after_text [] (cut_of parts (c ∷ text)))

-- what is left to try after some parts have taken their characters
pub record IsWalked (all : List GlobPart) (name : List ℕ) (parts : List GlobPart) (text : List ℕ) : Type 0 where
  pub here : is_match all name ≡ is_match parts text
  pub behind_star : is_match (AnyText ∷ all) name ≡ true → is_match (AnyText ∷ parts) text ≡ true

pub walked_nothing : (parts : List GlobPart) (text : List ℕ) → IsWalked parts text parts text
walked_nothing parts text = record { here = refl; behind_star = λ h. h }

either : (a b : Bool) → (a || b) ≡ true → (a ≡ true) ⊎ (b ≡ true)
either true b h = inl refl
either false b h = inr h

second : (a b : Bool) → (a && b) ≡ true → b ≡ true
second true b h = h
second false b h = absurd (true≢false (sym h))

pub same_answers : (a b : Bool) → (a ≡ true → b ≡ true) → (b ≡ true → a ≡ true) → a ≡ b
same_answers true b to from = sym (to refl)
same_answers false true to from = from refl
same_answers false false to from = refl

pub never : (b : Bool) → (b ≡ true → ⊥) → b ≡ false
never true h = absurd (h refl)
never false h = refl

-- a text that some end of matches still does with a character in front
star_longer : (parts : List GlobPart) (c : ℕ) (text : List ℕ) → is_match (AnyText ∷ parts) text ≡ true → is_match (AnyText ∷ parts) (c ∷ text) ≡ true
star_longer parts c text h = is_match-star parts c text ∙ ap (λ b. is_match parts (c ∷ text) || b) h ∙ or_true (is_match parts (c ∷ text))

-- where the parts match here, they match behind a `*`
pub star_here : (parts : List GlobPart) (text : List ℕ) → is_match parts text ≡ true → is_match (AnyText ∷ parts) text ≡ true
star_here parts [] h = is_match-star_nil parts ∙ h
star_here parts (c ∷ text) h = is_match-star parts c text ∙ ap (λ b. b || is_match (AnyText ∷ parts) text) h

-- two stars are one
star_star : (parts : List GlobPart) (text : List ℕ) → is_match (AnyText ∷ AnyText ∷ parts) text ≡ true → is_match (AnyText ∷ parts) text ≡ true
star_star parts [] h = sym (is_match-star_nil (AnyText ∷ parts)) ∙ h
star_star parts (c ∷ text) h =
    elim (either _ _ (sym (is_match-star (AnyText ∷ parts) c text) ∙ h)) [
      | inl here ↦ here
      | inr later ↦ star_longer parts c text (star_star parts text later)
    ]

-- a part that takes one character, behind a `*`: what is behind it matches an end of what is behind one character
past_single : (part : GlobPart) (parts : List GlobPart) (c : ℕ) (text : List ℕ) → IsSingle part
    → is_match (AnyText ∷ part ∷ parts) (c ∷ text) ≡ true → is_match (AnyText ∷ parts) text ≡ true
past_single part parts c [] single h =
    elim (either _ _ (sym (is_match-star (part ∷ parts) c []) ∙ h)) [
      | inl here ↦ star_here parts [] (second _ _ (sym (is_match-one part parts c [] single) ∙ here))
      | inr later ↦ absurd (true≢false (sym later ∙ is_match-star_nil (part ∷ parts) ∙ is_match-short part parts single))
    ]
past_single part parts c (d ∷ text) single h =
    elim (either _ _ (sym (is_match-star (part ∷ parts) c (d ∷ text)) ∙ h)) [
      | inl here ↦ star_here parts (d ∷ text) (second _ _ (sym (is_match-one part parts c (d ∷ text) single) ∙ here))
      | inr later ↦ star_longer parts d text (past_single part parts d text single later)
    ]

-- a part takes its character
pub walked_on : (all : List GlobPart) (name : List ℕ) (part : GlobPart) (parts : List GlobPart) (c : ℕ) (text : List ℕ) → IsSingle part
    → stands_for part c ≡ true → IsWalked all name (part ∷ parts) (c ∷ text) → IsWalked all name parts text
walked_on all name part parts c text single takes walked = record {
  here = walked.here ∙ is_match-one part parts c text single ∙ ap (λ b. b && is_match parts text) takes;
  behind_star = λ h. past_single part parts c text single (walked.behind_star h);
}

pub walked_to_star : (all : List GlobPart) (name : List ℕ) (behind : List GlobPart) (text : List ℕ)
    → IsWalked all name (AnyText ∷ behind) text → AreMatchedAlike all name behind text
walked_to_star all name behind text walked = record {
  here = walked.here;
  behind_star = same_answers _ _ (λ h. star_star behind text (walked.behind_star h)) (λ h. star_here all name (walked.here ∙ h));
}

pub walked_short : (all : List GlobPart) (name : List ℕ) (part : GlobPart) (parts : List GlobPart) → IsSingle part
    → IsWalked all name (part ∷ parts) [] → (is_match all name ≡ false) × (is_match (AnyText ∷ all) name ≡ false)
walked_short all name part parts single walked = (
  walked.here ∙ is_match-short part parts single,
  never _ (λ h. true≢false (sym (walked.behind_star h) ∙ is_match-star_nil (part ∷ parts) ∙ is_match-short part parts single)),
)

pub walked_apart : (all : List GlobPart) (name : List ℕ) (part : GlobPart) (parts : List GlobPart) (c : ℕ) (text : List ℕ) → IsSingle part
    → stands_for part c ≡ false → IsWalked all name (part ∷ parts) (c ∷ text) → is_match all name ≡ false
walked_apart all name part parts c text single differs walked =
    walked.here ∙ is_match-one part parts c text single ∙ ap (λ b. b && is_match parts text) differs

-- one character more for the `*`
pub star_takes : (parts : List GlobPart) (c : ℕ) (text : List ℕ) → is_match parts (c ∷ text) ≡ false → is_match (AnyText ∷ parts) text ≡ is_match (AnyText ∷ parts) (c ∷ text)
star_takes parts c text differs = sym (is_match-star parts c text ∙ ap (λ b. b || is_match (AnyText ∷ parts) text) differs)

pub star_at_end : (parts : List GlobPart) → is_match parts [] ≡ false → is_match (AnyText ∷ parts) [] ≡ false
star_at_end parts differs = is_match-star_nil parts ∙ differs
