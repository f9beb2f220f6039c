-- The keys that open the boxes of the panels, and the boxes as they open (mc(1), "Directory Panels": `+`,
-- `\` and `-`; "Menu Bar": F9; "Miscellaneous Keys": C-x). Own: the options are one list.
use Rattle.std.specs.Prelude.{ℕ, ◌==◌, false, if◌then◌else◌, List, [], map, codes, Option, Some, None}
use Rattle.key_screen.specs.declared.keys.Key.{Key}
use Rattle.key_screen.specs.declared.keys.Base.{Base}
use Rattle.key_screen.specs.declared.keys.Base.TheVariants.{Char, Ctrl, F}
use Rattle.mc_dialogs.specs.InputKeys.{InputState}
use Rattle.mc_dialogs.specs.ListKeys.{ListState}
use Rattle.tagging.specs.Patterns.{PatternText}
use Rattle.panel_boxes.specs.declared.opening.Opening.{Opening}
use Rattle.panel_boxes.specs.declared.opening.Opening.TheVariants as opening
use Rattle.panel_boxes.specs.declared.panel_box.Asked.{Asked}
use Rattle.panel_boxes.specs.declared.panel_box.Asked.TheVariants.{Select, Unselect, Filter, Format}
use Rattle.panel_boxes.specs.declared.panel_box.PanelBox.{PanelBox}
use Rattle.panel_boxes.specs.declared.panel_box.PanelBox.TheVariants.{Pending, Typed, Options}
use Rattle.panel_boxes.specs.Choices.{all_options, option_words}

-- `+` asks for what is to be tagged, `\` and `-` for what is not
abbrev pub letter_opening : ℕ → Option Opening
letter_opening code =
    if code == 43 then Some opening.Select
    else if code == 92 then Some opening.Unselect
    else if code == 45 then Some opening.Unselect
    else None

-- a key without meta: F9 lists the options, and C-x waits for the next key
abbrev pub plain_opening : Base → Option Opening
plain_opening (Char code) = letter_opening code
plain_opening (F number) = if number == 9 then Some opening.Options else None
plain_opening (Ctrl letter) = if letter == 120 then Some opening.Pending else None
plain_opening other = None

-- which box a key opens, if it opens one
abbrev pub opening_of : Key → Option Opening
opening_of key = if key.meta then None else plain_opening key.base

-- the title of a line
abbrev pub title_of : Asked → List ℕ
title_of Select = codes "Select"
title_of Unselect = codes "Unselect"
title_of Filter = codes "Filter"
title_of Format = codes "Format"

-- a line that asks for this, as it opens: the cursor is at the end of its text
abbrev pub line_of : Asked → List ℕ → InputState
line_of asked text = record { title = title_of asked; before = text; behind = [] }

-- the list of the options, the first of which is current
abbrev pub options_list : ℕ → ListState
options_list lines = record {
  title = codes "Options";
  rows = map option_words all_options;
  lines = lines;
  by_letter = false;
  current = 0;
  first = 0;
}

-- a box as it opens on a screen of so many lines
abbrev pub opened_panel_box : ℕ → Opening → PanelBox
opened_panel_box lines opening.Select = Typed Select (line_of Select (codes "*"))
opened_panel_box lines opening.Unselect = Typed Unselect (line_of Unselect (codes "*"))
opened_panel_box lines opening.Options = Options (options_list lines)
opened_panel_box lines opening.Pending = Pending

-- the text of a filter, which is empty where there is none
abbrev pub filter_text : Option PatternText → List ℕ
filter_text None = []
filter_text (Some filter) = filter.text
