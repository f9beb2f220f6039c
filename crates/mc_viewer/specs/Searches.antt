-- Searches: places in the whole list of bytes, and where they lead (own).
use Rattle.std.specs.Prelude.{◌≡◌, ◌≢◌, ⊤, ℕ, ◌+◌, ◌==◌, List, [], ◌∷◌, length, take}
use Rattle.std.specs.Prelude.{drop, Option, Some, None, Result, Ok, Err, if◌then◌else◌}
use Rattle.std.specs.Option.{option_map_or}
use Rattle.std.specs.Str.{bytes_eq}
use Rattle.tree_trait.specs.declared.calls.TreeError.TheVariants as tree
use Rattle.text_search.specs.declared.sought.Sought.{Sought}
use Rattle.text_search.specs.declared.sought.Sought.TheVariants.{At, Nowhere, TooLong, NoPattern}
use Rattle.text_search.specs.Lines.{lines_sought}
use Rattle.mc_viewer.specs.declared.layout.Shape.TheVariants.{Unwrapped}
use Rattle.mc_viewer.specs.declared.error.ViewError.{ViewError}
use Rattle.mc_viewer.specs.declared.error.ViewError.TheVariants as error
use Rattle.mc_viewer.specs.declared.state.State.{State}
use Rattle.mc_viewer.specs.declared.search.Search.{Search}
use Rattle.mc_viewer.specs.declared.search.Search.TheVariants.{Plain, Regex}
use Rattle.mc_viewer.specs.declared.search.Hit.{Hit}
use Rattle.mc_viewer.specs.declared.search.Landing.{Landing}
use Rattle.mc_viewer.specs.Rows.{line_length, row_holding}
use Rattle.mc_viewer.specs.ViewerSteps.{top_row, to_byte, Viewing}

-- the least place where the text stands, in a rest of the file that begins at this place
unfoldable pub first_place : List ℕ → ℕ → List ℕ → Option ℕ
first_place text at [] = None
first_place text at (byte ∷ rest) =
    if bytes_eq (take (length text) (byte ∷ rest)) text then Some at else first_place text (at + 1) rest

-- what a search for a text comes to; an empty one is nowhere
abbrev pub text_sought : List ℕ → ℕ → List ℕ → Sought
text_sought text at rest =
    if length text == 0 then Nowhere else option_map_or At (first_place text at rest) Nowhere

-- what a search of the file from a place on comes to
abbrev pub sought_place : Search → List ℕ → ℕ → Sought
sought_place (Plain text) bytes from = text_sought text from (drop from bytes)
sought_place (Regex text) bytes from = lines_sought text from (drop from bytes)

-- where a search begins: at the top, one over lines where the line of the top begins
abbrev pub start_from : List ℕ → ℕ → Search → ℕ → ℕ
start_from bytes columns (Plain text) top = top
start_from bytes columns (Regex text) top = row_holding Unwrapped columns bytes top

abbrev pub first_from : List ℕ → State → Search → ℕ
first_from bytes s what = start_from bytes s.columns what (top_row bytes s)

-- where the next one begins: behind the place that was found, one over lines behind the line of that
abbrev pub next_from : List ℕ → Search → ℕ → ℕ
next_from bytes (Plain text) place = place + 1
next_from bytes (Regex text) place = place + line_length (drop place bytes)

-- where what was found leads: the row that holds its first byte is the top
abbrev pub landing_at : List ℕ → State → Sought → Result Landing ViewError
landing_at bytes s (At place) = Ok (record { state = to_byte bytes s place; place = place })
landing_at bytes s Nowhere = Err error.NotFound
landing_at bytes s (TooLong line) = Err (error.LineTooLong line)
landing_at bytes s NoPattern = Err error.BadPattern

-- where a search from a place on leads
abbrev pub landing : Search → List ℕ → State → ℕ → Result Landing ViewError
landing what bytes s from = landing_at bytes s (sought_place what bytes from)

-- a viewer once it landed there
abbrev pub landed_viewing : Viewing → Search → Result Landing ViewError → Result Viewing ViewError
landed_viewing v what (Ok l) =
    Ok (record v { state = l.state; last = Some (record { what = what; place = l.place }) })
landed_viewing v what (Err e) = Err e

-- a viewer after a search, and after the next one
abbrev pub after_search : List ℕ → Search → Viewing → Result Viewing ViewError
after_search bytes what v = landed_viewing v what (landing what bytes v.state (first_from bytes v.state what))

-- where a search behind what was found last leads
abbrev pub hit_landing : List ℕ → State → Option Hit → Result Landing ViewError
hit_landing bytes s None = Err error.NotFound
hit_landing bytes s (Some hit) = landing hit.what bytes s (next_from bytes hit.what hit.place)

-- what was found last, at another place
abbrev pub moved_on : Option Hit → ℕ → Option Hit
moved_on None place = None
moved_on (Some hit) place = Some (record { what = hit.what; place = place })

abbrev pub landed_again : Viewing → Result Landing ViewError → Result Viewing ViewError
landed_again v (Ok l) = Ok (record v { state = l.state; last = moved_on v.last l.place })
landed_again v (Err e) = Err e

abbrev pub after_next : List ℕ → Viewing → Result Viewing ViewError
after_next bytes v = landed_again v (hit_landing bytes v.state v.last)

-- what is refused as this says, or since it can't be read
abbrev pub IsMissed : {A : Type 0} → Result A ViewError → ViewError → Type 0
IsMissed outcome error.NotFound = outcome ≡ Err error.NotFound
IsMissed outcome error.BadPattern = outcome ≡ Err error.BadPattern
IsMissed outcome (error.LineTooLong line) = outcome ≡ Err (error.LineTooLong line)
IsMissed outcome (error.Tree e) = ⊤
IsMissed outcome error.Memory = ⊤

-- why a search fails on any tree: the tree's refusals never carry want of memory
abbrev pub IsSearchError : ViewError → Type 0
IsSearchError (error.Tree e) = e ≢ tree.Memory
IsSearchError error.Memory = ⊤
IsSearchError error.NotFound = ⊤
IsSearchError error.BadPattern = ⊤
IsSearchError (error.LineTooLong line) = ⊤
