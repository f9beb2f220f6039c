-- What one part takes at the front of a text. Texts are UTF-8 here.
use Rattle.std.specs.Prelude.{◌≡◌, ℕ, ◌<◌, length, List, ◌∷◌, ◌++◌, chars, encode_utf8}
use Rattle.std.specs.Str.{IsUtf8}
use Rattle.tagging.specs.Globs.{cut_of, after_text}
use Rattle.tagging.specs.declared.glob.GlobPart.{GlobPart}

-- the longest cut of a text begins with this front, and goes on as the longest cut of what is behind it
pub record LeavesCut (part : GlobPart) (behind : List GlobPart) (text more : List ℕ) : Type 0 where
  pub front : List ℕ
  pub is_text : IsUtf8 front
  pub joins : front ++ more ≡ text
  pub cut : cut_of (part ∷ behind) (chars text) ≡ after_text (chars front) (cut_of behind (chars more))

-- the same, of a front that is given
pub record IsPrefixTaken (part : GlobPart) (behind : List GlobPart) (text front more : List ℕ) : Type 0 where
  pub is_text : IsUtf8 front
  pub joins : front ++ more ≡ text
  pub cut : cut_of (part ∷ behind) (chars text) ≡ after_text (chars front) (cut_of behind (chars more))

-- a text is another with one character more at its end
pub record LosesLast (text front : List ℕ) : Type 0 where
  pub last : ℕ
  pub joins : text ≡ front ++ encode_utf8 last
  pub shorter : length front < length text
