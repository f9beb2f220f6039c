-- A place in the rest from `from` on is a place in the half.
use Rattle.std.proofs.Common.{ℕ, ◌+◌, List, length, drop, arith, subst, sym, ◌∙◌, length-drop}
use Rattle.std.proofs.lemmas.List.{take_rest}
use Rattle.memchr.specs.Find.{OccursAt, Nowhere}
use Rattle.gap_text.proofs.PlaceLemmas.{StandNowhere-drop, stands_at-drop, stands_at-from_occurs, stands_at-fits}
use Rattle.gap_text.proofs.places.place_in_half.Goals as goal

pub returns-in_err-at : goal.returns-in_err-at
returns-in_err-at c =
    let half = c.args.half.now in
    let bytes = c.args.bytes.now in
    let from = c.args.from in
    let nowhere = subst (λ (rest : List ℕ). Nowhere (OccursAt rest bytes) 0 (length rest + 1)) (take_rest half from) c.in_err-at.ensures in
    rw c.from_residual.ensures (StandNowhere-drop half bytes from (length (drop from half) + 1) (length half) c.requires (omega (arith, length-drop from half)) nowhere)

pub returns : goal.returns
returns c =
    let half = c.args.half.now in
    let bytes = c.args.bytes.now in
    let from = c.args.from in
    let at = c.in_ok-at.at in
    let occurs = subst (λ (rest : List ℕ). OccursAt rest bytes at) (take_rest half from) c.in_ok-at.ensures.1 in
    let nowhere = subst (λ (rest : List ℕ). Nowhere (OccursAt rest bytes) 0 at) (take_rest half from) c.in_ok-at.ensures.0.before in
    let stands = sym (stands_at-drop half bytes from at) ∙ stands_at-from_occurs (drop from half) bytes at occurs in
    let fits = stands_at-fits half bytes (from + at) c.requires stands in
    (omega arith, omega arith, stands, StandNowhere-drop half bytes from at (from + at) c.requires (omega arith) nowhere)
