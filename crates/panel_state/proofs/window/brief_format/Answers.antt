-- The text is this format.
use Rattle.std.proofs.Common.{sym, ◌∙◌}
use Rattle.panel_state.proofs.FormatLemmas.{brief-read, only_memory}
use Rattle.panel_state.proofs.window.brief_format.Goals as goal

pub no_memory-requires : goal.no_memory-requires
no_memory-requires c = only_memory c.in-Err.error (λ other. let both = sym brief-read ∙ c.in-Err.ensures.refused other in cc)

pub returns-in-Ok : goal.returns-in-Ok
returns-in-Ok c = let both = sym c.in-Ok.ensures.read ∙ brief-read in cc
