use Rattle.std.proofs.Common.{◌≡◌, Some, ap, ◌∙◌}
use Rattle.std.proofs.lemmas.Result.{IfOk-weaker}
use Rattle.std.specs.Option.{option_map_or}
use Rattle.user_menu.specs.Facts.{IsAskedOf, AsksNoTree}
use Rattle.user_menu.specs.Holding.{holds_in}
use Rattle.user_menu.specs.ShownEntries.{last_asked, is_unasked, answer_of}
use Rattle.user_menu.proofs.AskingLemmas.{each_of_last}
use Rattle.user_menu.proofs.standing.answer_of.Goals as goal

pub returns-in-Some-clause-answer : goal.returns-in-Some-clause-answer
returns-in-Some-clause-answer g c s told =
    let entry = c.args.entry.now in
    let question = c.args.question in
    let condition = c.in-Some.condition.now in
    let is : Some condition ≡ last_asked question entry.conditions = c.in-Some.ensures ∙ ap (last_asked question) c.conditions.ensures in
    let each = each_of_last (IsAskedOf (g.T.ReadTree.contents c.args.tree.now) s) question entry.conditions condition is told in
    IfOk-weaker c.holds.result (λ answer. answer ≡ holds_in s condition c.args.here.now c.args.other.now)
    (λ answer. answer ≡ answer_of s c.args.here.now c.args.other.now question entry)
    (λ answer same. same ∙ ap (λ o. option_map_or (λ one. holds_in s one c.args.here.now c.args.other.now) o (is_unasked question)) is)
    (c.holds.ensures.answer s each)

pub returns-in-Some-clause-unasked : goal.returns-in-Some-clause-unasked
returns-in-Some-clause-unasked g c asks =
    let is : Some c.in-Some.condition.now ≡ last_asked c.args.question c.args.entry.now.conditions =
    c.in-Some.ensures ∙ ap (last_asked c.args.question) c.conditions.ensures in
    c.holds.ensures.unasked (each_of_last AsksNoTree c.args.question c.args.entry.now.conditions c.in-Some.condition.now is asks)
