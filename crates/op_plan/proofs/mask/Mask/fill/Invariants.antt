-- What was filled so far goes before what the pieces that are left come to.
use Rattle.std.proofs.Common.{◌≡◌, drop}
use Rattle.std.specs.String.{string_bytes}
use Rattle.op_plan.specs.Masks.{before}
use Rattle.op_plan.specs.Filling.{filled_with}
use Rattle.op_plan.proofs.mask.Mask.fill.Given as goal

abbrev pub invariant-loop-piece : goal.invariant-loop-piece
invariant-loop-piece l =
    before (string_bytes l.text) (filled_with l.name l.captures l.stars (drop l.piece-index l.piece-items))
    ≡ filled_with l.name l.captures l.captures l.piece-items
