-- The last answer is in.
use Rattle.std.proofs.Common.{rules, ◌≡◌, ◌<◌, ◌+◌, ◌++◌, ◌∷◌, [], None, slice_get, length, ap, ◌∙◌, arith}
use Rattle.std.proofs.lemmas.List.{length-append}
use Rattle.percent_macros.specs.Commands.{prompts_in}
use Rattle.ui_menu.specs.PromptStates.{PromptsState}
use Rattle.ui_menu.specs.Questions.{questions_in}
use Rattle.ui_menu.proofs.QuestionLemmas.{last-answer}
use Rattle.ui_menu.proofs.prompts.Prompts.command.Goals as goal

pub answered-requires : goal.answered-requires
answered-requires c =
    let p = c.self.inside in
    let none : slice_get (questions_in p.expanded.pieces) (length p.answers + 1) ≡ None = search rules in
    let all : c.push.new.self ≡ p.answers ++ c.args.text ∷ [] = search rules in
    let count : length (p.answers ++ c.args.text ∷ []) ≡ length p.answers + 1 = length-append p.answers (c.args.text ∷ []) in
    ap length all ∙ count ∙ last-answer p.expanded.pieces (length p.answers) c.self.invariant none
