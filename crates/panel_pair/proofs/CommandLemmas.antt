-- What Enter makes of the current panel it makes of the pair.
use Rattle.std.proofs.Common.{◌≡◌, ℕ, refl, sym, subst}
use Rattle.panel_state.specs.declared.going.Going.{Going}
use Rattle.panel_state.specs.Panels.{PanelState}
use Rattle.panel_state.specs.Goings.{way_of, Enters}
use Rattle.tagging.specs.declared.pattern.PatternKind.{PatternKind}
use Rattle.panel_pair.specs.declared.command.PanelCommand.{PanelCommand}
use Rattle.panel_pair.specs.declared.command.PanelCommand.TheVariants.{Enter}
use Rattle.panel_pair.specs.declared.side.Side.{Side}
use Rattle.panel_pair.specs.Commands.{CommandDone}
use Rattle.panel_pair.specs.Pairs.{PairState}

abbrev pub pair_of : PanelState → PanelState → Side → PatternKind → PairState
pair_of current other side patterns = record { current = current; other = other; side = side; patterns = patterns }

pub entered : (command : PanelCommand) (page : ℕ) (before : PairState) (current other new : PanelState) (side : Side) (patterns : PatternKind)
    (going : Going)
    → command ≡ Enter → pair_of current other side patterns ≡ before → Enters (way_of current) page current new going
    → CommandDone command page before (pair_of new other side patterns)
entered command page before current other new side patterns going is view enters =
    subst (λ (k : PanelCommand). CommandDone k page before (pair_of new other side patterns)) (sym is)
    (subst (λ (b : PairState). CommandDone Enter page b (pair_of new other side patterns)) view ((going, enters), refl))
