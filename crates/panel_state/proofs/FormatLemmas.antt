-- The formats of panels are formats.
use Rattle.std.proofs.Common.{◌≡◌, ◌≢◌, ℕ, List, ◌∷◌, [], false, codes, Some, None, Ok, refl, sym, ap}
use Rattle.panel_listing.specs.FormatTexts.{RowFormat, format_of, size_named, field_named}
use Rattle.panel_listing.specs.declared.error.FormatError.{FormatError}
use Rattle.panel_listing.specs.declared.error.FormatError.TheVariants.{NoSize, UnknownField, BadWidth, Memory}
use Rattle.panel_listing.specs.declared.format.Field.TheVariants.{Name, Size, TypeLetter, Mtime, Bar}
use Rattle.panel_state.specs.Formats.{read_format, format_meant}
use Rattle.panel_state.specs.Windows.{brief_format}

pub brief-read : format_of (codes "half type name") ≡ Ok brief_format
unfolding format_of size_named field_named
brief-read = refl

pub full-read : format_of (codes "half type name | size | mtime") ≡ Ok (record {
  full = false;
  columns =
      record { field = TypeLetter; width = None }
      ∷ record { field = Name; width = None }
      ∷ record { field = Bar; width = None }
      ∷ record { field = Size; width = None }
      ∷ record { field = Bar; width = None }
      ∷ record { field = Mtime; width = None }
      ∷ [];
})
unfolding format_of size_named field_named
full-read = refl

-- a text means the format that was read
pub meant : (text : List ℕ) (format : RowFormat) → format_of text ≡ Ok format → format ≡ format_meant text
unfolding format_meant
meant text format is = sym (ap read_format is)

-- an error that is none of the faults
pub only_memory : (e : FormatError) → (e ≢ Memory → ⊥) → e ≡ Memory
only_memory Memory h = refl
only_memory (NoSize at) h = absurd (h (λ same. cc))
only_memory (UnknownField at) h = absurd (h (λ same. cc))
only_memory (BadWidth at) h = absurd (h (λ same. cc))
