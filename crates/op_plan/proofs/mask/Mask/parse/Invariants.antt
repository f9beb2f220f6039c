-- The pieces so far, and those of the characters that are left, make up the whole.
use Rattle.std.proofs.Common.{◌≡◌, ◌++◌, length, drop}
use Rattle.std.specs.Str.{chars}
use Rattle.op_plan.specs.Masks.{pieces_behind, pieces_of}
use Rattle.op_plan.proofs.mask.Mask.parse.Given as goal

abbrev pub invariant-loop-character : goal.invariant-loop-character
invariant-loop-character l =
    l.pieces.items ++ pieces_behind l.quoted (drop (length l.yielded) (chars l.text)) ≡ pieces_of (chars l.text)
