-- A line that asks stands at a prompt; without one there is no prompt.
use Rattle.std.proofs.Common.{length, slice_get, refl, ap, ◌∙◌, sym}
use Rattle.ui_menu.specs.Questions.{questions_in}
use Rattle.ui_menu.proofs.QuestionLemmas.{line-asked, none-asked}
use Rattle.ui_menu.proofs.beginning.begin_expanded.Goals as goal

pub new-requires : goal.new-requires
new-requires c =
    let parts = c.args.expanded.pieces in
    line-asked parts 0 (slice_get (questions_in parts) 0) c.in-Some.line refl (sym c.in_ok-line.ensures ∙ c.in-Some.is)

pub answered-requires : goal.answered-requires
answered-requires c =
    let parts = c.args.expanded.pieces in
    ap length c.new-answers.ensures
    ∙ none-asked parts (slice_get (questions_in parts) 0) refl (sym c.in_ok-line.ensures ∙ c.in-None.is)
