-- A place in the rest is a place in the half.
use Rattle.std.proofs.Common.{ℕ, List, length, Some, None, subst}
use Rattle.std.proofs.lemmas.List.{take_rest}
use Rattle.memchr.specs.Find.{IsFirst, Passes, is_byte}
use Rattle.gap_text.proofs.ByteLemmas.{first-none, first-some}
use Rattle.gap_text.proofs.bytes.byte_in_half.Goals as goal

pub returns-in_err-at : goal.returns-in_err-at
returns-in_err-at c =
    let half = c.args.half.now in
    let test = is_byte c.args.byte in
    rw c.from_residual.ensures
    (first-none test half c.args.from c.requires
    (subst (λ (rest : List ℕ). IsFirst (Passes test rest) 0 (length rest) None) (take_rest half c.args.from) c.in_err-at.ensures))

pub returns : goal.returns
returns c =
    let half = c.args.half.now in
    let test = is_byte c.args.byte in
    let at = c.in_ok-at.at in
    first-some test half c.args.from c.requires at
    (subst (λ (rest : List ℕ). IsFirst (Passes test rest) 0 (length rest) (Some at)) (take_rest half c.args.from) c.in_ok-at.ensures)
