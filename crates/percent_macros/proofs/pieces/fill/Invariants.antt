-- The command so far, and what the pieces and answers that are left add to it.
use Rattle.std.proofs.Common.{◌≡◌, ◌++◌, length, drop}
use Rattle.std.specs.List.{flat_map}
use Rattle.std.specs.String.{string_bytes}
use Rattle.percent_macros.specs.Commands.{prompts_in, filled_command, parts_of_piece}
use Rattle.percent_macros.proofs.pieces.fill.Given as goal

abbrev pub invariant-loop-piece : goal.invariant-loop-piece
invariant-loop-piece l =
    let left = flat_map parts_of_piece (drop l.piece-index l.pieces) in
    record {
      filled_in : string_bytes l.command ++ filled_command left l.unused ≡ filled_command (flat_map parts_of_piece l.pieces) l.answers;
      enough : length l.unused ≡ prompts_in left;
    }
