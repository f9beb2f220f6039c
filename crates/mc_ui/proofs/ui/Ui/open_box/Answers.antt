-- The screen is that of what choosing came to.
use Rattle.std.proofs.Common.{◌≡◌, refl, rules, ap, IfOk}
use Rattle.ui_plans.specs.declared.choosing.Choice.TheVariants as choice
use Rattle.ui_plans.specs.Reading.{sight}
use Rattle.session_entries.specs.declared.refusal.PlanError.TheVariants.{NoSelection, TooLong}
use Rattle.session_entries.specs.declared.refusal.Refusal.TheVariants.{Plan, Tree}
use Rattle.mc_ui.specs.declared.asks.KeyAct.{KeyAct}
use Rattle.mc_ui.specs.Screens.{after_choice, told_refusal}
use Rattle.mc_ui.proofs.ChoosingLemmas.{opened_on, refused_on}
use Rattle.mc_ui.proofs.ui.Ui.open_box.Goals as goal

pub returns-in-NoSelection-clause-leads : goal.returns-in-NoSelection-clause-leads
returns-in-NoSelection-clause-leads g c =
    let before = c.args.self.now in
    let same : c.current.result.now ≡ before.panels.current = search rules in
    let told : IfOk c.refuse.result (λ _act. c.refuse.new.self ≡ told_refusal (Plan NoSelection) before) = search rules in
    refused_on c.args.opens (sight (g.T.ReadTree.contents c.args.tree.now)) c.current.result.now before c.in_ok-choose.field-0 choice.NoSelection same
    c.in_ok-choose.ensures.chosen c.in-NoSelection.is (Plan NoSelection) c.refuse.new.self c.refuse.result refl refl told c.refuse.ensures.act

pub returns-in-TooLong-clause-leads : goal.returns-in-TooLong-clause-leads
returns-in-TooLong-clause-leads g c =
    let before = c.args.self.now in
    let same : c.current.result.now ≡ before.panels.current = search rules in
    let told : IfOk c.refuse-in-TooLong.result (λ _act. c.refuse-in-TooLong.new.self ≡ told_refusal (Plan TooLong) before) = search rules in
    refused_on c.args.opens (sight (g.T.ReadTree.contents c.args.tree.now)) c.current.result.now before c.in_ok-choose.field-0 choice.TooLong same
    c.in_ok-choose.ensures.chosen c.in-TooLong.is (Plan TooLong) c.refuse-in-TooLong.new.self c.refuse-in-TooLong.result refl refl told c.refuse-in-TooLong.ensures.act

pub returns-in_ok-open-in-Things-clause-leads : goal.returns-in_ok-open-in-Things-clause-leads
returns-in_ok-open-in-Things-clause-leads g c =
    let before = c.args.self.now in
    let same : c.current.result.now ≡ before.panels.current = search rules in
    let after : c.show_box.new.self ≡ after_choice c.args.opens (choice.Things c.in-Things.chosen c.in-Things.mode) before = search rules in
    opened_on c.args.opens (sight (g.T.ReadTree.contents c.args.tree.now)) c.current.result.now before c.in_ok-choose.field-0
    (choice.Things c.in-Things.chosen c.in-Things.mode) same c.in_ok-choose.ensures.chosen c.in-Things.is c.asking_nothing.result.refusals
    c.show_box.new.self (ap (λ (act : KeyAct). act.refusals) c.asking_nothing.ensures) after

pub returns-in-Refused-clause-leads : goal.returns-in-Refused-clause-leads
returns-in-Refused-clause-leads g c =
    let before = c.args.self.now in
    let same : c.current.result.now ≡ before.panels.current = search rules in
    let told : IfOk c.refuse-in-Refused.result (λ _act. c.refuse-in-Refused.new.self ≡ told_refusal (Tree c.in-Refused.path c.in-Refused.error) before) = search rules in
    refused_on c.args.opens (sight (g.T.ReadTree.contents c.args.tree.now)) c.current.result.now before c.in_ok-choose.field-0
    (choice.Refused c.in-Refused.path c.in-Refused.error) same c.in_ok-choose.ensures.chosen c.in-Refused.is (Tree c.in-Refused.path c.in-Refused.error)
    c.refuse-in-Refused.new.self c.refuse-in-Refused.result refl refl told c.refuse-in-Refused.ensures.act
