-- What each command makes of the panels (mc(1), "Directory Panels", "Keys", "Menu Bar"; own where
-- mc has a mouse or a menu).
use Rattle.std.specs.Prelude.{◌≡◌, ℕ, not, Result, Ok, Err, ⊤}
use Rattle.tree_trait.specs.Refusals.{holder}
use Rattle.tree_trait.specs.Change.{CallLog}
use Rattle.resolving.specs.declared.error.ResolveError.{ResolveError}
use Rattle.resolving.specs.declared.error.ResolveError.TheVariants.{Memory}
use Rattle.panel_state.specs.declared.arranging.Arrangement.{Arrangement}
use Rattle.panel_state.specs.declared.arranging.Arrangement.TheVariants.{Hidden}
use Rattle.panel_state.specs.declared.going.Going.{Going}
use Rattle.panel_state.specs.Panels.{PanelState, moved_by, with_format, with_brief}
use Rattle.panel_state.specs.Readings.{ShowsFolder, read_again, gone_to_path}
use Rattle.panel_state.specs.Goings.{way_of, Enters, Reads, Turns, ShowsNext}
use Rattle.panel_state.specs.declared.visits.Turn.TheVariants.{Earlier, Later}
use Rattle.panel_state.specs.Selections.{toggled_current, selected_panel, unselected_panel, inverted_files}
use Rattle.panel_state.specs.Arrangements.{arranged_again, HasSameItems}
use Rattle.panel_state.specs.Comparisons.{compared_panel}
use Rattle.panel_pair.specs.declared.command.PanelCommand.{PanelCommand}
use Rattle.panel_pair.specs.declared.command.PanelCommand.TheVariants.{Move, SwitchPanel, SwapPanels, Enter}
use Rattle.panel_pair.specs.declared.command.PanelCommand.TheVariants.{ReadAgain, Back, Forward, GoTo, Toggle}
use Rattle.panel_pair.specs.declared.command.PanelCommand.TheVariants.{Invert, Select, Unselect, Compare}
use Rattle.panel_pair.specs.declared.command.PanelCommand.TheVariants.{Arrange, ShowColumns, ShowBrief}
use Rattle.panel_pair.specs.declared.command.PanelCommand.TheVariants.{ToggleHidden, SwitchPatterns}
use Rattle.panel_pair.specs.Pairs.{PairState, opposite, other_kind, with_current}

-- Tab makes the other panel current; it stays on its side
abbrev pub switched_panels : PairState → PairState
switched_panels pair = record pair { current = pair.other; other = pair.current; side = opposite pair.side }

-- C-u swaps the panels; the left or the right one stays current
abbrev pub swapped_panels : PairState → PairState
swapped_panels pair = record pair { current = pair.other; other = pair.current }

-- C-x d tags in both panels the files that differ
abbrev pub compared_pair : PairState → PairState
compared_pair pair = record pair {
  current = compared_panel pair.other pair.current;
  other = compared_panel pair.current pair.other;
}

-- the current panel goes to a folder, or there is none to go to; the rest stays
abbrev pub Goes : (PanelState → Going → Type 0) → PairState → PairState → Type 0
Goes leads before after =
    ((going : Going) × leads after.current going) × (after ≡ with_current after.current before)

-- both panels show their items by another wish; of each it is the same items as before
pub record BothArrange (arrangement : Arrangement) (page : ℕ) (before after : PairState) : Type 0 where
  pub on_current : HasSameItems before.current.listing after.current.listing
  pub on_other : HasSameItems before.other.listing after.other.listing
  pub done : after ≡ record before {
    current = arranged_again page arrangement after.current.listing before.current;
    other = arranged_again page arrangement after.other.listing before.other;
  }

-- what a command makes of the panels, a page having so many rows
abbrev pub CommandDone : PanelCommand → ℕ → PairState → PairState → Type 0
CommandDone (Move base) page before after = after ≡ with_current (moved_by page base before.current) before
CommandDone SwitchPanel page before after = after ≡ switched_panels before
CommandDone SwapPanels page before after = after ≡ swapped_panels before
CommandDone Enter page before after = Goes (Enters (way_of before.current) page before.current) before after
CommandDone ReadAgain page before after =
    after ≡ with_current (read_again page after.current.listing before.current) before
CommandDone Back page before after = Goes (Turns Earlier page before.current) before after
CommandDone Forward page before after = Goes (Turns Later page before.current) before after
CommandDone (GoTo path) page before after =
    after ≡ with_current (gone_to_path page path after.current.listing before.current) before
CommandDone Toggle page before after = after ≡ with_current (toggled_current page before.current) before
CommandDone Invert page before after = after ≡ with_current (inverted_files before.current) before
CommandDone (Select pattern) page before after =
    after ≡ with_current (selected_panel pattern before.current) before
CommandDone (Unselect pattern) page before after =
    after ≡ with_current (unselected_panel pattern before.current) before
CommandDone Compare page before after = after ≡ compared_pair before
CommandDone (Arrange arrangement) page before after =
    HasSameItems before.current.listing after.current.listing
    × (after ≡ with_current (arranged_again page arrangement after.current.listing before.current) before)
CommandDone (ShowColumns format) page before after =
    after ≡ with_current (with_format page format before.current) before
CommandDone ShowBrief page before after = after ≡ with_current (with_brief page before.current) before
CommandDone ToggleHidden page before after =
    BothArrange (Hidden (not before.current.wish.hidden)) page before after
CommandDone SwitchPatterns page before after = after ≡ record before { patterns = other_kind before.patterns }

-- a command that reads nothing is refused for want of memory alone
abbrev pub ReadsNothing : Result PanelState ResolveError → Type 0
ReadsNothing (Ok p) = ⊤
ReadsNothing (Err e) = e ≡ Memory

-- what a command reads of the tree for the current panel, and what that refuses
abbrev pub CommandReads : PanelCommand → CallLog → PanelState → Result PanelState ResolveError → Type 0
CommandReads Enter log before result = Reads (way_of before) log before result
CommandReads ReadAgain log before result = ShowsFolder log before.folder result
CommandReads Back log before result = ShowsNext log before.visits.behind result
CommandReads Forward log before result = ShowsNext log before.visits.ahead result
CommandReads (GoTo path) log before result = ShowsFolder log (holder path) result
CommandReads (Move base) log before result = ReadsNothing result
CommandReads SwitchPanel log before result = ReadsNothing result
CommandReads SwapPanels log before result = ReadsNothing result
CommandReads Toggle log before result = ReadsNothing result
CommandReads Invert log before result = ReadsNothing result
CommandReads (Select pattern) log before result = ReadsNothing result
CommandReads (Unselect pattern) log before result = ReadsNothing result
CommandReads Compare log before result = ReadsNothing result
CommandReads (Arrange arrangement) log before result = ReadsNothing result
CommandReads (ShowColumns format) log before result = ReadsNothing result
CommandReads ShowBrief log before result = ReadsNothing result
CommandReads ToggleHidden log before result = ReadsNothing result
CommandReads SwitchPatterns log before result = ReadsNothing result
