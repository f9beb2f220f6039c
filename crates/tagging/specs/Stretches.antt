-- What the walk over a text's characters may say of the parts before the next `*`.
use Rattle.std.specs.Prelude.{◌≡◌, ℕ, ◌<◌, ◌≤◌, true, false, List, ◌∷◌, length, chars}
use Rattle.tagging.specs.Globs.{is_match}
use Rattle.tagging.specs.declared.glob.GlobPart.{GlobPart}
use Rattle.tagging.specs.declared.glob.GlobPart.TheVariants.{AnyText}
use Rattle.tagging.specs.declared.walk.Stretch.{Stretch}
use Rattle.tagging.specs.declared.walk.Stretch.TheVariants.{Whole, Differs, Short, Star}

-- these parts match this text, and behind a `*` too, exactly where a `*` and other parts match another text
pub record AreMatchedAlike (parts : List GlobPart) (text : List ℕ) (behind : List GlobPart)
    (rest : List ℕ) : Type 0 where
  pub here : is_match parts text ≡ is_match (AnyText ∷ behind) rest
  pub behind_star : is_match (AnyText ∷ parts) text ≡ is_match (AnyText ∷ behind) rest

-- what an answer says of the whole match
abbrev pub IsStretch : List GlobPart → List ℕ → Stretch → Type 0
IsStretch parts text Whole = is_match parts text ≡ true
IsStretch parts text Differs = is_match parts text ≡ false
IsStretch parts text Short = (is_match parts text ≡ false) × (is_match (AnyText ∷ parts) text ≡ false)
IsStretch parts text (Star behind rest) = AreMatchedAlike parts text behind.now (chars rest.now)

-- fewer parts are left, and no more text
abbrev pub IsShrunk : List GlobPart → List ℕ → Stretch → Type 0
IsShrunk parts text Whole = Unit {0}
IsShrunk parts text Differs = Unit {0}
IsShrunk parts text Short = Unit {0}
IsShrunk parts text (Star behind rest) = (length behind.now < length parts) × (length rest.now ≤ length text)
