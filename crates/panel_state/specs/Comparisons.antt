-- The quick comparison of two panels (mc(1), "Compare directories": quick).
use Rattle.tagging.specs.TagSets.{names_in}
use Rattle.tagging.specs.Compared.{differing}
use Rattle.panel_state.specs.Wanted.{files_shown}
use Rattle.panel_state.specs.Panels.{PanelState, with_tags}

-- the panel with those of its shown files tagged that differ from the other panel's, and nothing else
abbrev pub compared_panel : PanelState → PanelState → PanelState
compared_panel other p =
    with_tags (names_in (differing (files_shown p.listing) (files_shown other.listing))) p
