use Rattle.std.proofs.Common.{◌≡◌, ◌∷◌, slice_get, ap, ◌∙◌, sym, arith}
use Rattle.std.proofs.lemmas.Grind.{common_steps}
use Rattle.std.specs.List.{flat_map}
use Rattle.percent_macros.specs.Commands.{parts_of_piece}
use Rattle.ui_menu.specs.Questions.{questions_in}
use Rattle.ui_menu.proofs.QuestionLemmas.{plain-first}
use Rattle.ui_menu.proofs.questions.question_at.Goals as goal

pub loop-piece-preserved-in-Plain : goal.loop-piece-preserved-in-Plain
loop-piece-preserved-in-Plain c =
    let more = c.in-Some.more.now in
    let front : c.loop-piece.rest.now ≡ c.in-Some.piece.now ∷ more = grind (arith, common_steps, c.in-Some.ensures.cases) in
    let plain = front ∙ ap (λ piece. piece ∷ more) c.in-Plain.is in
    ap (λ questions. slice_get questions c.loop-piece.left)
    (sym (ap (λ pieces. questions_in (flat_map parts_of_piece pieces)) plain ∙ plain-first c.in-Plain.field-0 more))
    ∙ c.loop-piece.invariant
