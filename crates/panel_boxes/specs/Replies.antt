-- What a key comes to in each box of the panels (mc(1), "Directory Panels", "Menu
-- Bar", "Miscellaneous Keys").
use Rattle.std.specs.Prelude.{◌≡◌, ⊤, ℕ, Bool, true, false, not, ◌==◌, if◌then◌else◌, List}
use Rattle.std.specs.Prelude.{[], ◌∷◌, codes, slice_get, Option, Some, None, Result, Ok, Err}
use Rattle.key_screen.specs.declared.keys.Key.{Key}
use Rattle.key_screen.specs.declared.keys.Base.{Base}
use Rattle.key_screen.specs.declared.keys.Base.TheVariants.{Char, Unknown}
use Rattle.mc_dialogs.specs.declared.shut.Shut.{Shut}
use Rattle.mc_dialogs.specs.declared.shut.Shut.TheVariants.{Stay, Closed}
use Rattle.mc_dialogs.specs.declared.shut.Reply.TheVariants.{Line, Chosen}
use Rattle.mc_dialogs.specs.InputKeys.{InputState, input_after, input_shut}
use Rattle.mc_dialogs.specs.ListKeys.{ListState, list_after, list_shut}
use Rattle.tagging.specs.declared.pattern.PatternKind.{PatternKind}
use Rattle.tagging.specs.Patterns.{PatternText}
use Rattle.tagging.specs.TypedPatterns.{pattern_in}
use Rattle.panel_listing.specs.declared.error.FormatError.{FormatError}
use Rattle.panel_listing.specs.declared.error.FormatError.TheVariants.{NoSize, UnknownField, BadWidth, Memory}
use Rattle.panel_listing.specs.FormatTexts.{RowFormat, format_of}
use Rattle.panel_state.specs.declared.arranging.Arrangement.TheVariants.{Sorted, Reversed, Filtered}
use Rattle.panel_state.specs.declared.format.Layout.TheVariants.{Columns}
use Rattle.panel_state.specs.Panels.{PanelState}
use Rattle.panel_pair.specs.declared.command.PanelCommand.{PanelCommand}
use Rattle.panel_pair.specs.declared.command.PanelCommand.TheVariants as command
use Rattle.panel_pair.specs.Pairs.{PairState}
use Rattle.session_entries.specs.declared.refusal.TypedError.TheVariants.{BadPattern, BadFormat}
use Rattle.panel_boxes.specs.declared.options.PanelOption.{PanelOption}
use Rattle.panel_boxes.specs.declared.options.PanelOption.TheVariants as option
use Rattle.panel_boxes.specs.declared.panel_box.Asked.{Asked}
use Rattle.panel_boxes.specs.declared.panel_box.Asked.TheVariants as asked
use Rattle.panel_boxes.specs.declared.panel_box.PanelBox.{PanelBox}
use Rattle.panel_boxes.specs.declared.panel_box.PanelBox.TheVariants.{Pending, Typed, Options}
use Rattle.panel_boxes.specs.declared.panel_box.PanelReply.{PanelReply}
use Rattle.panel_boxes.specs.declared.panel_box.PanelReply.TheVariants.{Stays, Shuts, Opens, Does, ListsJobs}
use Rattle.panel_boxes.specs.declared.panel_box.PanelReply.TheVariants.{AsksLink, AsksMode, Refuses}
use Rattle.panel_boxes.specs.Choices.{all_options}
use Rattle.panel_boxes.specs.Openings.{filter_text, line_of}

-- WHAT WAS TYPED

-- a command by a pattern, or the text is refused that is none
abbrev pub by_pattern : (PatternText → PanelCommand) → Option PatternText → PanelReply
by_pattern command None = Refuses BadPattern
by_pattern command (Some pattern) = Does (command pattern)

-- only files that a pattern finds are to be shown
abbrev pub filter_command : PatternText → PanelCommand
filter_command pattern = command.Arrange (Filtered (Some pattern))

-- a filter; an empty text takes it away
abbrev pub filter_reply : PatternKind → List ℕ → PanelReply
filter_reply kind [] = Does (command.Arrange (Filtered None))
filter_reply kind (first ∷ more) = by_pattern filter_command (pattern_in kind (first ∷ more))

-- a format's first fault, with its position
abbrev pub fault_reply : FormatError → PanelReply
fault_reply (NoSize at) = Refuses (BadFormat at)
fault_reply (UnknownField at) = Refuses (BadFormat at)
fault_reply (BadWidth at) = Refuses (BadFormat at)
fault_reply Memory = Stays

-- rows of a format
abbrev pub format_reply : List ℕ → Result RowFormat FormatError → PanelReply
format_reply text (Ok format) = Does (command.ShowColumns (record { layout = Columns; text = text }))
format_reply text (Err fault) = fault_reply fault

-- what a text comes to that a line asked for, while patterns are of this kind
abbrev pub typed_reply : PatternKind → Asked → List ℕ → PanelReply
typed_reply kind asked.Select text = by_pattern command.Select (pattern_in kind text)
typed_reply kind asked.Unselect text = by_pattern command.Unselect (pattern_in kind text)
typed_reply kind asked.Filter text = filter_reply kind text
typed_reply kind asked.Format text = format_reply text (format_of text)

-- what a line's answer comes to
abbrev pub line_reply : PatternKind → Asked → Shut → PanelReply
line_reply kind asked Stay = Stays
line_reply kind asked (Closed (Line text background)) = typed_reply kind asked text
line_reply kind asked (Closed other) = Shuts

-- WHAT WAS CHOSEN

-- What an option comes to for a panel. The format that is asked for is at first the one that was shown
-- last, and the filter the one that is wished for.
abbrev pub option_reply : PanelState → PanelOption → PanelReply
option_reply p option.ListFull =
    Does (command.ShowColumns (record { layout = Columns; text = codes "half type name | size | mtime" }))
option_reply p option.ListBrief = Does command.ShowBrief
option_reply p option.ListUser = Opens (Typed asked.Format (line_of asked.Format p.format.text))
option_reply p (option.SortBy order) = Does (command.Arrange (Sorted order))
option_reply p option.Reverse = Does (command.Arrange (Reversed (not p.wish.reverse)))
option_reply p option.Filter = Opens (Typed asked.Filter (line_of asked.Filter (filter_text p.wish.filter)))
option_reply p option.ShellPatterns = Does command.SwitchPatterns

-- what the row of the list comes to, if there is an option in it
abbrev pub row_reply : PanelState → Option PanelOption → PanelReply
row_reply p None = Shuts
row_reply p (Some option) = option_reply p option

-- what the list's answer comes to
abbrev pub options_reply : PanelState → Shut → PanelReply
options_reply p Stay = Stays
options_reply p (Closed (Chosen row)) = row_reply p (slice_get all_options row)
options_reply p (Closed other) = Shuts

-- KEYS

-- the key behind C-x: `c` asks for a mode, `d` compares the panels, `j` lists the live jobs, `s` asks for a
-- new link, and no other does anything
abbrev pub letter_pending : ℕ → PanelReply
letter_pending code =
    if code == 99 then AsksMode
    else if code == 100 then Does command.Compare
    else if code == 106 then ListsJobs
    else if code == 115 then AsksLink
    else Shuts

abbrev pub plain_pending : Base → PanelReply
plain_pending (Char code) = letter_pending code
plain_pending other = Shuts

abbrev pub pending_reply : Key → PanelReply
pending_reply key = if key.meta then Shuts else plain_pending key.base

-- bytes that spell no key are none
abbrev pub is_key : Base → Bool
is_key Unknown = false
is_key base = true

abbrev pub answer_of : PairState → PanelBox → Key → PanelReply
answer_of pair Pending key = pending_reply key
answer_of pair (Typed asked line) key = line_reply pair.patterns asked (input_shut line key)
answer_of pair (Options list) key = options_reply pair.current (list_shut list key)

-- what a key comes to in a box over these panels
abbrev pub reply_to : PairState → PanelBox → Key → PanelReply
reply_to pair box key = if is_key key.base then answer_of pair box key else Stays

-- The box stays, and the key has worked in it. In all other cases it is as it was.
abbrev pub stays : PanelReply → Bool
stays Stays = true
stays other = false

-- a line is as it was where it is closed
abbrev pub SameWhereClosed : Shut → InputState → InputState → Type 0
SameWhereClosed Stay before after = ⊤
SameWhereClosed (Closed reply) before after = after ≡ before

-- a list after a key that it answers so: where it is closed it is as it was
abbrev pub list_kept : Shut → Key → ListState → ListState
list_kept Stay key list = list_after list key
list_kept (Closed reply) key list = list

abbrev pub worked_box : PanelBox → Key → PanelBox
worked_box Pending key = Pending
worked_box (Typed asked line) key = Typed asked (input_after line key)
worked_box (Options list) key = Options (list_kept (list_shut list key) key list)

-- a box after a key
abbrev pub box_after : PanelBox → Key → PanelBox
box_after box key = if is_key key.base then worked_box box key else box
