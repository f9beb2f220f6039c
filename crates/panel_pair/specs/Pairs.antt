-- The two panels of a session (own, after mc(1), "Directory Panels"; "Shell Patterns" of its "Options").
use Rattle.std.specs.Prelude.{[]}
use Rattle.panel_listing.specs.Listings.{Listed, nothing_listed}
use Rattle.mc_text.specs.Routes.{Route}
use Rattle.tagging.specs.declared.pattern.PatternKind.{PatternKind}
use Rattle.tagging.specs.declared.pattern.PatternKind.TheVariants.{Shell, Regex}
use Rattle.panel_state.specs.Panels.{PanelState, untagged_panel}
use Rattle.panel_state.specs.Readings.{opened_panel}
use Rattle.panel_pair.specs.declared.side.Side.{Side}
use Rattle.panel_pair.specs.declared.side.Side.TheVariants.{Left, Right}

-- the current panel, the other one, the side on which the current one stands, and how
-- patterns are read that are typed
pub record PairState : Type 0 where
  pub current : PanelState
  pub other : PanelState
  pub side : Side
  pub patterns : PatternKind

-- the other side
abbrev pub opposite : Side → Side
opposite Left = Right
opposite Right = Left

-- of two panels that stand so, the one on the left and the one on the right
abbrev pub left_of : Side → PanelState → PanelState → PanelState
left_of Left current other = current
left_of Right current other = other

abbrev pub right_of : Side → PanelState → PanelState → PanelState
right_of Left current other = other
right_of Right current other = current

abbrev pub left_panel : PairState → PanelState
left_panel pair = left_of pair.side pair.current pair.other

abbrev pub right_panel : PairState → PanelState
right_panel pair = right_of pair.side pair.current pair.other

-- the other kind of pattern
abbrev pub other_kind : PatternKind → PatternKind
other_kind Shell = Regex
other_kind Regex = Shell

-- another state of the current panel
abbrev pub with_current : PanelState → PairState → PairState
with_current panel pair = record pair { current = panel }

-- no name is tagged in the current panel
abbrev pub untagged_pair : PairState → PairState
untagged_pair pair = with_current (untagged_panel pair.current) pair

-- the panels of two folders that were read; the left one is current, and shell patterns are on
abbrev pub opened_pair : Route → Route → Listed → Listed → PairState
opened_pair left right on_left on_right =
    record {
      current = opened_panel left on_left;
      other = opened_panel right on_right;
      side = Left;
      patterns = Shell;
    }

-- the panels of a session that shows none: both of the root, of which nothing is read
abbrev pub unread_pair : PairState
unread_pair = opened_pair [] [] nothing_listed nothing_listed
