-- A question is left behind the answers, so there are fewer answers than prompts.
use Rattle.std.proofs.Common.{rules, ◌≡◌, ◌<◌, ◌+◌, ◌++◌, ◌∷◌, [], length, slice_get, refl, ap, ◌∙◌, sym, arith}
use Rattle.std.proofs.lemmas.List.{length-append}
use Rattle.percent_macros.specs.Commands.{prompts_in}
use Rattle.ui_menu.specs.Questions.{questions_in}
use Rattle.ui_menu.proofs.QuestionLemmas.{line-asked}
use Rattle.ui_menu.proofs.prompts.Prompts.answer.Goals as goal

pub invariant_of-self-in-Some : goal.invariant_of-self-in-Some
invariant_of-self-in-Some c =
    let p = c.self.inside in
    let parts = p.expanded.pieces in
    let place = length c.as_slice.result.now + 1 in
    let asked : place < prompts_in parts =
    line-asked parts place (slice_get (questions_in parts) place) c.in-Some.line refl (sym c.in_ok-line.ensures ∙ c.in-Some.is) in
    let all : c.push.new.self ≡ p.answers ++ c.args.text ∷ [] = search rules in
    let same : length c.as_slice.result.now ≡ length p.answers = ap length c.as_slice.ensures in
    let count : length c.push.new.self ≡ length p.answers + 1 = ap length all ∙ length-append p.answers (c.args.text ∷ []) in
    omega (arith, asked, same, count)
