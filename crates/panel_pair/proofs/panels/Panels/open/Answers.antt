-- What was refused is what the path leads to.
use Rattle.std.proofs.Common.{refl, ap, arith}
use Rattle.panel_state.specs.Panels.{PanelState}
use Rattle.panel_pair.specs.declared.opening.Unopened.{Unopened}
use Rattle.panel_pair.proofs.ReadingLemmas.{path_cause, reads_later}
use Rattle.panel_pair.proofs.panels.Panels.open.Goals as goal

pub returns-in-Err-clause-reads : goal.returns-in-Err-clause-reads
returns-in-Err-clause-reads g c =
    reads_later PanelState c.refused_on.result.error c.in-Err.error _ _ _ _ _ _ (ap (λ (u : Unopened). u.error) c.refused_on.ensures) refl c.in-Err.ensures.same
    (omega arith) c.in-Err.ensures.cause (λ log is. path_cause log c.args.left.now c.in-Err.error (c.in-Err.ensures.answer log is))

pub returns-in-Err-opened-clause-reads : goal.returns-in-Err-opened-clause-reads
returns-in-Err-opened-clause-reads g c =
    reads_later PanelState c.refused_on-in-Err-opened.result.error c.in-Err-opened.error _ _ _ _ _ _
    (ap (λ (u : Unopened). u.error) c.refused_on-in-Err-opened.ensures) c.in-Ok.ensures.same c.in-Err-opened.ensures.same c.in-Ok.ensures.cause.later
    c.in-Err-opened.ensures.cause (λ log is. path_cause log c.args.right.now c.in-Err-opened.error (c.in-Err-opened.ensures.answer log is))
