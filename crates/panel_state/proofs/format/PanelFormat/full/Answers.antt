-- The text is a format.
use Rattle.std.proofs.Common.{sym, ◌∙◌}
use Rattle.panel_state.proofs.FormatLemmas.{full-read, only_memory}
use Rattle.panel_state.proofs.format.PanelFormat.full.Goals as goal

pub no_memory-requires : goal.no_memory-requires
no_memory-requires c = only_memory c.in-Err.error (λ other. let both = sym full-read ∙ c.in-Err.ensures.refused other in cc)
