-- Typed paths that begin at HOME: a tilde stands for it, as in sh(1), where it is the whole
-- path or a slash follows.
use Rattle.std.specs.Prelude.{ℕ, Bool, true, ◌==◌, if◌then◌else◌, List}
use Rattle.std.specs.Prelude.{[], ◌∷◌, ◌++◌, codes, Option, Some, None}
use Rattle.mc_text.specs.Routes.{Route, path_text}
use Rattle.text_scan.specs.Words.{behind_word}

-- nothing stands behind a tilde, or a slash does
abbrev pub goes_below : List ℕ → Bool
goes_below [] = true
goes_below (byte ∷ rest) = byte == 47

-- what is typed, where this stands behind its tilde, if it begins with one
abbrev pub behind_tilde : Route → List ℕ → Option (List ℕ) → List ℕ
behind_tilde home typed None = typed
behind_tilde home typed (Some rest) = if goes_below rest then path_text home ++ rest else typed

-- the text of HOME in place of the tilde
abbrev pub in_place : Route → List ℕ → List ℕ
in_place home typed = behind_tilde home typed (behind_word (codes "~") typed)

-- the same; where HOME is missing, what is typed stays
abbrev pub with_home : Option Route → List ℕ → List ℕ
with_home None typed = typed
with_home (Some home) typed = in_place home typed
