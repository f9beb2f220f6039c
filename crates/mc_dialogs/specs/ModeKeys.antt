-- The box that asks for a mode of four octal digits, and what it makes of a key. Own.
use Rattle.std.specs.Prelude.{ℕ, ◌+◌, ◌-◌, ◌*◌, ◌/◌, ◌%◌, Bool, true, false, if◌then◌else◌, List, [], ◌∷◌}
use Rattle.key_screen.specs.declared.keys.Base.{Base}
use Rattle.key_screen.specs.declared.keys.Base.TheVariants.{Char, Enter}
use Rattle.key_screen.specs.declared.keys.Key.{Key}
use Rattle.key_screen.specs.KeySpelling.{is_within}
use Rattle.mc_dialogs.specs.declared.shut.Shut.{Shut}
use Rattle.mc_dialogs.specs.declared.shut.Shut.TheVariants.{Stay, Closed}
use Rattle.mc_dialogs.specs.declared.shut.Reply.{Reply}
use Rattle.mc_dialogs.specs.declared.shut.Reply.TheVariants.{Cancel, Mode}
use Rattle.mc_text.specs.declared.kind.Kind.TheVariants.{File}
use Rattle.mc_text.specs.Permissions.{perm_text}
use Rattle.key_screen.specs.declared.cells.Attr.TheVariants.{Plain}
use Rattle.mc_dialogs.specs.declared.frame.Line.{Line}
use Rattle.mc_dialogs.specs.CommonKeys.{cancels}

-- a mode box: its title and its mode
pub record ModeState : Type 0 where
  pub title : List ℕ
  pub mode : ℕ

-- an octal digit shifts in from the right, and four digits are kept
abbrev pub shifted_in : ℕ → ℕ → ℕ
shifted_in mode code = (mode * 8) % 4096 + (code - 48)

abbrev pub mode_typed : ModeState → Base → ModeState
mode_typed s (Char code) = if is_within 48 55 code then record s { mode = shifted_in s.mode code } else s
mode_typed s base = s

-- a mode box after a key
abbrev pub mode_after : ModeState → Key → ModeState
mode_after s key = if key.meta then s else mode_typed s key.base

abbrev pub mode_closed : ModeState → Base → Shut
mode_closed s Enter = Closed (Mode s.mode)
mode_closed s base = if cancels base then Closed Cancel else Stay

-- what it answers: Enter closes it with its mode
abbrev pub mode_shut : ModeState → Key → Shut
mode_shut s key = if key.meta then Stay else mode_closed s key.base

-- an octal digit of a mode
abbrev pub octal_digit : ℕ → ℕ
octal_digit n = 48 + n % 8

-- four octal digits
abbrev pub octal : ℕ → List ℕ
octal mode =
    octal_digit (mode / 512) ∷ octal_digit (mode / 64) ∷ octal_digit (mode / 8) ∷ octal_digit mode ∷ []

-- the lines of a mode box: its title, the mode in letters as of a file, and its digits
abbrev pub mode_lines : ModeState → List Line
mode_lines s =
    record { text = s.title; attr = Plain }
    ∷ record { text = perm_text File s.mode; attr = Plain }
    ∷ record { text = octal s.mode; attr = Plain }
    ∷ []
