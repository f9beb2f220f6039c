-- What a shell pattern matches, and what its wildcards take (POSIX.1-2017, XCU 2.13.1 and 2.13.2; the order
-- of cuts is our own, after mc(1), "Copy, Rename, ..": masks). Texts are lists of characters here.
use Rattle.std.specs.Prelude.{◌≡◌, ℕ, ◌<◌, Bool, true, false, ◌==◌, ◌⊎◌, if◌then◌else◌, List, [], ◌∷◌}
use Rattle.std.specs.Prelude.{length, map, Option, Some, None, is_some, option_map, encode_utf8_all}
use Rattle.std.specs.List.{concat}
use Rattle.tagging.specs.Brackets.{holds}
use Rattle.tagging.specs.declared.glob.GlobPart.{GlobPart}
use Rattle.tagging.specs.declared.glob.GlobPart.TheVariants.{Plain, AnyOne, AnyText, OneOf}

-- a part that takes one character takes this one
abbrev pub stands_for : GlobPart → ℕ → Bool
stands_for (Plain plain) character = plain == character
stands_for AnyOne character = true
stands_for AnyText character = true
stands_for (OneOf bracket) character = holds bracket character

-- what the part takes is captured
abbrev pub is_wild : GlobPart → Bool
is_wild (Plain plain) = false
is_wild AnyOne = true
is_wild AnyText = true
is_wild (OneOf bracket) = true

-- the text is one character, which the part stands for
abbrev pub TakesOne : GlobPart → List ℕ → Type 0
TakesOne part text = (character : ℕ) × (text ≡ character ∷ []) × (stands_for part character ≡ true)

-- a part may take this text
abbrev pub Takes : GlobPart → List ℕ → Type 0
Takes AnyText text = Unit {0}
Takes (Plain plain) text = TakesOne (Plain plain) text
Takes AnyOne text = TakesOne AnyOne text
Takes (OneOf bracket) text = TakesOne (OneOf bracket) text

-- there is one text for each part, which the part may take
abbrev pub TakeAll : List GlobPart → List (List ℕ) → Type 0
TakeAll [] [] = Unit {0}
TakeAll [] (text ∷ texts) = ⊥
TakeAll (part ∷ parts) [] = ⊥
TakeAll (part ∷ parts) (text ∷ texts) = Takes part text × TakeAll parts texts

-- the name is cut into these texts, one for each part, and each part may take its text
pub record IsCut (parts : List GlobPart) (name : List ℕ) (cut : List (List ℕ)) : Type 0 where
  pub whole : concat cut ≡ name
  pub takes : TakeAll parts cut

-- a name matches where it can be cut so
abbrev pub MatchesGlob : List GlobPart → List ℕ → Type 0
MatchesGlob parts name = (cut : List (List ℕ)) × IsCut parts name cut

-- the texts of a cut that wildcards took
abbrev pub wild_texts : List GlobPart → List (List ℕ) → List (List ℕ)
wild_texts [] cut = []
wild_texts (part ∷ parts) [] = []
wild_texts (part ∷ parts) (text ∷ cut) =
    if is_wild part then text ∷ wild_texts parts cut else wild_texts parts cut

-- texts that are as long as others, or are longer at the first place where the lengths differ
abbrev pub AreLongerFirst : List (List ℕ) → List (List ℕ) → Type 0
AreLongerFirst [] [] = Unit {0}
AreLongerFirst [] (other ∷ others) = ⊥
AreLongerFirst (text ∷ texts) [] = ⊥
AreLongerFirst (text ∷ texts) (other ∷ others) =
    (length other < length text) ⊎ ((length other ≡ length text) × AreLongerFirst texts others)

-- the cut whose first wildcard takes the longest text, then the second, and so on
pub record IsLongestCut (parts : List GlobPart) (name : List ℕ) (cut : List (List ℕ)) : Type 0 where
  pub is_cut : IsCut parts name cut
  pub longest : (other : List (List ℕ)) → IsCut parts name other
      → AreLongerFirst (wild_texts parts cut) (wild_texts parts other)

-- these are the captures, each as UTF-8
abbrev pub AreCaptures : List GlobPart → List ℕ → List (List ℕ) → Type 0
AreCaptures parts name texts =
    (cut : List (List ℕ)) × IsLongestCut parts name cut × (texts ≡ map encode_utf8_all (wild_texts parts cut))

-- one text more at the front of a cut
abbrev pub after_text : List ℕ → Option (List (List ℕ)) → Option (List (List ℕ))
after_text text = option_map (λ cut. text ∷ cut)

-- the first text of a cut made longer by a character, or else another cut
abbrev pub longer_or : ℕ → Option (List (List ℕ)) → Option (List (List ℕ)) → Option (List (List ℕ))
longer_or character (Some (text ∷ cut)) other = Some ((character ∷ text) ∷ cut)
longer_or character (Some []) other = other
longer_or character None other = other

-- a front of the text, as long as may be, before a cut of the rest
abbrev pub longest_prefix : (List ℕ → Option (List (List ℕ))) → List ℕ → Option (List (List ℕ))
longest_prefix cut_rest [] = after_text [] (cut_rest [])
longest_prefix cut_rest (character ∷ text) =
    longer_or character (longest_prefix cut_rest text) (after_text [] (cut_rest (character ∷ text)))

-- one character in front, before a cut of the rest
abbrev pub one_in_front : GlobPart → (List ℕ → Option (List (List ℕ))) → List ℕ → Option (List (List ℕ))
one_in_front part cut_rest [] = None
one_in_front part cut_rest (character ∷ text) =
    if stands_for part character then after_text (character ∷ []) (cut_rest text) else None

-- no parts are left for a text
abbrev pub nothing_in_front : List ℕ → Option (List (List ℕ))
nothing_in_front [] = Some []
nothing_in_front (character ∷ text) = None

-- that longest cut, found part by part
abbrev pub cut_of : List GlobPart → List ℕ → Option (List (List ℕ))
cut_of [] = nothing_in_front
cut_of (AnyText ∷ parts) = longest_prefix (cut_of parts)
cut_of (Plain plain ∷ parts) = one_in_front (Plain plain) (cut_of parts)
cut_of (AnyOne ∷ parts) = one_in_front AnyOne (cut_of parts)
cut_of (OneOf bracket ∷ parts) = one_in_front (OneOf bracket) (cut_of parts)

-- the pattern matches the name
unfoldable pub is_match : List GlobPart → List ℕ → Bool
is_match parts name = is_some (cut_of parts name)

-- the captures, where it matches
unfoldable pub captures_of : List GlobPart → List ℕ → Option (List (List ℕ))
captures_of parts name = option_map (λ cut. map encode_utf8_all (wild_texts parts cut)) (cut_of parts name)
