-- what is read first, and what is read behind each escape
use Rattle.std.proofs.Common.{◌∙◌, sym, ap, arith, ◌+◌, drop}
use Rattle.std.proofs.lemmas.Result.{err_from_is_err_and}
use Rattle.key_screen.specs.Terminal.{sequences_read}
use Rattle.key_screen.proofs.TerminalLemmas.{all_read-first, behind_escape, Reads-first, sequences_read-next}
use Rattle.key_screen.proofs.terminal.Terminal.read_all.Goals as goal

pub returns-in_err-read_text : goal.returns-in_err-read_text
returns-in_err-read_text c =
    let p = err_from_is_err_and c.from_residual.result c.from_residual.ensures.1 in
    let whole = all_read-first c.args.self.now c.args.bytes.now c.escape_in-at.result c.escape_in-at.ensures.within c.escape_in-at.ensures.before c.escape_in-at.ensures.found in
    rw (p.1, p.2) (Reads-first _ _ _ _ _ _ _ whole c.in_err-read_text.ensures)

pub loop-at-init : goal.loop-at-init
loop-at-init c =
    let at = c.escape_in-at.result in
    let whole = all_read-first c.args.self.now c.args.bytes.now at c.escape_in-at.ensures.within c.escape_in-at.ensures.before c.escape_in-at.ensures.found in (
      c.escape_in-at.ensures.within,
      ap (λ told. sequences_read told at (behind_escape (drop at c.args.bytes.now))) (sym c.in_ok-read_text.ensures) ∙ sym whole,
    )

pub returns-in_err-read_sequence : goal.returns-in_err-read_sequence
returns-in_err-read_sequence c =
    let p = err_from_is_err_and c.from_residual-in_err-read_sequence.result c.from_residual-in_err-read_sequence.ensures.1 in
    let next = sequences_read-next c.loop-at.self c.args.bytes.now c.split_at.result.1.now c.loop-at.at c.escape_in-count.result (omega arith) c.split_at.ensures.back
    c.escape_in-count.ensures.within c.escape_in-count.ensures.before c.escape_in-count.ensures.found in
    rw (p.1, p.2) (Reads-first _ _ _ _ _ _ _ (sym c.loop-at.invariant.1 ∙ next) c.in_err-read_sequence.ensures)

pub loop-at-preserved : goal.loop-at-preserved
loop-at-preserved c =
    let end = c.loop-at.at + (1 + c.escape_in-count.result) in
    let next = sequences_read-next c.loop-at.self c.args.bytes.now c.split_at.result.1.now c.loop-at.at c.escape_in-count.result (omega arith) c.split_at.ensures.back
    c.escape_in-count.ensures.within c.escape_in-count.ensures.before c.escape_in-count.ensures.found in (
      omega arith,
      ap (λ told. sequences_read told end (behind_escape (drop end c.args.bytes.now))) (sym c.in_ok-read_sequence.ensures) ∙ sym next ∙ c.loop-at.invariant.1,
    )
