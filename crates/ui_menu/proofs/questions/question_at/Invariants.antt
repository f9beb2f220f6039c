-- Those that are left decide.
use Rattle.std.proofs.Common.{◌≡◌, length, slice_get}
use Rattle.std.specs.List.{flat_map}
use Rattle.percent_macros.specs.Commands.{parts_of_piece}
use Rattle.ui_menu.specs.Questions.{questions_in}
use Rattle.ui_menu.proofs.questions.question_at.Given as goal

abbrev pub decreases-loop-piece : goal.decreases-loop-piece
decreases-loop-piece l = length l.rest

abbrev pub invariant-loop-piece : goal.invariant-loop-piece
invariant-loop-piece l =
    slice_get (questions_in (flat_map parts_of_piece l.rest)) l.left ≡ slice_get (questions_in (flat_map parts_of_piece l.pieces)) l.position
