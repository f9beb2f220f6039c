-- How a panel shows its rows (own, after mc(1), "Listing format").
use Rattle.std.specs.Prelude.{ℕ, ◌+◌, false, List, [], Result, Ok, Err}
use Rattle.panel_listing.specs.FormatTexts.{RowFormat, format_of}
use Rattle.panel_listing.specs.declared.error.FormatError.{FormatError}
use Rattle.panel_state.specs.declared.format.Layout.{Layout}
use Rattle.panel_state.specs.declared.format.Layout.TheVariants.{Columns, Brief}

-- a format as it was typed, and whether its columns are shown, or names alone
pub record FormatState : Type 0 where
  pub layout : Layout
  pub text : List ℕ

abbrev pub in_brief : FormatState → FormatState
in_brief format = record format { layout = Brief }

-- the format that was read, or one without columns where there was a fault
abbrev pub read_format : Result RowFormat FormatError → RowFormat
read_format (Ok format) = format
read_format (Err fault) = record { full = false; columns = [] }

-- what a text means that was read once
unfoldable pub format_meant : List ℕ → RowFormat
format_meant text = read_format (format_of text)

-- how many rows are on the screen, where a column has a page of so many: brief has two columns
abbrev pub rows_shown : Layout → ℕ → ℕ
rows_shown Columns page = page
rows_shown Brief page = page + page
