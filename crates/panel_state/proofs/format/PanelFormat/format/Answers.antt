-- The text means the format that was read.
use Rattle.std.proofs.Common.{ap, ◌∙◌}
use Rattle.panel_state.specs.Formats.{FormatState, format_meant}
use Rattle.panel_state.proofs.FormatLemmas.{meant}
use Rattle.panel_state.proofs.format.PanelFormat.format.Goals as goal

pub returns : goal.returns
returns c =
    meant c.self.inside.text c.self.inside.format c.self.invariant ∙ ap (λ (format : FormatState). format_meant format.text) c.self.view_is
