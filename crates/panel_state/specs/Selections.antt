-- What is tagged, and what a job takes (mc(1), "Directory Panels": tagging files; "Select group").
use Rattle.std.specs.Prelude.{ℕ, List, [], ◌∷◌, filter, Option, Some, None}
use Rattle.std.specs.FinSet as set
use Rattle.key_screen.specs.declared.keys.Base.TheVariants.{Down}
use Rattle.tagging.specs.TagSets.{TagSet, names_in, toggled_tags, inverted_tags}
use Rattle.tagging.specs.Patterns.{PatternText, is_found}
use Rattle.panel_state.specs.declared.wanted.Wanted.TheVariants.{Files, Tagged}
use Rattle.panel_state.specs.Wanted.{wanted_names}
use Rattle.panel_state.specs.Panels.{PanelState, tag_set, with_tags, current_name, moved_by}

-- the panel with the other answer for a name, if there is one
abbrev pub with_toggled : Option (List ℕ) → PanelState → PanelState
with_toggled None p = p
with_toggled (Some name) p = with_tags (toggled_tags (tag_set p) name) p

-- the panel after Insert: the current name has the other answer, and the cursor is a row further down
abbrev pub toggled_current : ℕ → PanelState → PanelState
toggled_current page p = moved_by page Down (with_toggled (current_name p) p)

-- the shown files that a pattern finds
abbrev pub found_files : PatternText → PanelState → TagSet
found_files pattern p = names_in (filter (is_found pattern) (wanted_names Files (tag_set p) p.listing))

-- the panel with those tagged, or not
abbrev pub selected_panel : PatternText → PanelState → PanelState
selected_panel pattern p = with_tags (set.union (tag_set p) (found_files pattern p)) p

abbrev pub unselected_panel : PatternText → PanelState → PanelState
unselected_panel pattern p = with_tags (set.difference (tag_set p) (found_files pattern p)) p

-- the panel with the other answer for each shown file
abbrev pub inverted_files : PanelState → PanelState
inverted_files p =
    with_tags (inverted_tags (tag_set p) (names_in (wanted_names Files (tag_set p) p.listing))) p

-- some names, or else the current one, if there is one
abbrev pub or_current : List (List ℕ) → Option (List ℕ) → List (List ℕ)
or_current [] None = []
or_current [] (Some name) = name ∷ []
or_current (name ∷ names) current = name ∷ names

-- what a job takes: the tagged names that are shown, in the order of their rows, or else the
-- current one, but not `..`
abbrev pub selection : PanelState → List (List ℕ)
selection p = or_current (wanted_names Tagged (tag_set p) p.listing) (current_name p)
