-- What a key came to while things are sought is what it makes of the screen.
use Rattle.std.proofs.Common.{◌∙◌, ap, refl, subst}
use Rattle.ui_find.specs.declared.act.FindAct.{FindAct}
use Rattle.mc_ui.specs.declared.asks.KeyAct.{KeyAct}
use Rattle.mc_ui.proofs.FindFollowing.{goes_leads, leaves_leads, lost_on, refused_leads, shown, stays_leads}
use Rattle.mc_ui.proofs.FindLemmas.{Tells, key_tells}
use Rattle.mc_ui.proofs.FindReadings.{reads_behind, refused_reads}
use Rattle.mc_ui.proofs.ui.Ui.key_in_find.Goals as goal

pub returns-in-Ok-Stays-clause-leads : goal.returns-in-Ok-Stays-clause-leads
returns-in-Ok-Stays-clause-leads g c =
    stays_leads c.args.find c.key-act.new.self (g.T.ReadTree.contents c.args.tree.now) c.args.key c.in-Ok-Stays.field-0 c.in-Ok-Stays.ensures.leads
    c.asking_nothing.result.refusals c.args.self.now _ c.in-Ok-Stays.field-0-is (ap (λ (act : KeyAct). act.refusals) c.asking_nothing.ensures)
    c.show_box.ensures

pub returns-in-Ok-Leaves-clause-leads : goal.returns-in-Ok-Leaves-clause-leads
returns-in-Ok-Leaves-clause-leads g c =
    leaves_leads c.args.find c.key-act.new.self (g.T.ReadTree.contents c.args.tree.now) c.args.key c.in-Ok-Leaves.field-0 c.in-Ok-Leaves.ensures.leads
    c.asking_nothing-in-Ok-Leaves.result.refusals c.args.self.now c.args.self.now c.in-Ok-Leaves.field-0-is
    (ap (λ (act : KeyAct). act.refusals) c.asking_nothing-in-Ok-Leaves.ensures) refl

pub returns-in-Ok-Refused-clause-leads : goal.returns-in-Ok-Refused-clause-leads
returns-in-Ok-Refused-clause-leads g c =
    refused_leads c.args.find c.key-act.new.self (g.T.ReadTree.contents c.args.tree.now) c.args.key c.in-Ok-Refused.field-0 c.in-Ok-Refused.ensures.leads
    c.in-Ok-Refused.why c.find_refusal.result c.args.self.now _ c.refuse.new.self c.refuse.result c.in-Ok-Refused.field-0-is c.find_refusal.ensures
    c.show_box-in-Ok-Refused.ensures c.refuse.ensures.told c.refuse.ensures.act

pub returns-in-Ok-Refused-clause-lost : goal.returns-in-Ok-Refused-clause-lost
returns-in-Ok-Refused-clause-lost g c =
    let kept = subst (λ (act : FindAct). Tells (g.T.ReadTree.contents c.args.tree.now) c.args.find c.key-act.new.self act) c.in-Ok-Refused.field-0-is
    (key_tells (g.T.ReadTree.contents c.args.tree.now) c.args.find c.key-act.new.self c.args.key c.in-Ok-Refused.field-0 c.in-Ok-Refused.ensures.leads) in
    lost_on c.refuse.result c.refuse.new.self _ _
    (c.show_box-in-Ok-Refused.ensures ∙ ap (λ find. shown find c.args.self.now) kept.0) c.refuse.ensures.lost

pub returns-in-Ok-Refused-clause-reads : goal.returns-in-Ok-Refused-clause-reads
returns-in-Ok-Refused-clause-reads g c =
    refused_reads (g.T.ReadTree.contents c.args.tree.now) (g.T.ReadTree.contents c.key-act.new.tree) c.args.key c.args.find c.key-act.new.self
    c.in-Ok-Refused.field-0 c.in-Ok-Refused.why c.find_refusal.result (g.T.ReadTree.fault_count c.args.tree.now) (g.T.ReadTree.fault_count c.key-act.new.tree)
    c.refuse.result c.in-Ok-Refused.field-0-is c.find_refusal.ensures c.refuse.ensures.act c.in-Ok-Refused.ensures.leads c.in-Ok-Refused.ensures.reads

pub returns-in-Ok-Goes-clause-leads : goal.returns-in-Ok-Goes-clause-leads
returns-in-Ok-Goes-clause-leads g c =
    goes_leads c.args.find c.key-act.new.self (g.T.ReadTree.contents c.args.tree.now) c.args.key c.in-Ok-Goes.field-0 c.in-Ok-Goes.ensures.leads
    c.in-Ok-Goes.path (g.T.ReadTree.contents c.key-act.new.tree) c.args.self.now c.go_to_found.new.self c.go_to_found.result c.in-Ok-Goes.field-0-is
    c.in-Ok-Goes.ensures.reads.same c.go_to_found.ensures.leads

pub returns-in-Ok-Goes-clause-lost : goal.returns-in-Ok-Goes-clause-lost
returns-in-Ok-Goes-clause-lost g c =
    let kept = subst (λ (act : FindAct). Tells (g.T.ReadTree.contents c.args.tree.now) c.args.find c.key-act.new.self act) c.in-Ok-Goes.field-0-is
    (key_tells (g.T.ReadTree.contents c.args.tree.now) c.args.find c.key-act.new.self c.args.key c.in-Ok-Goes.field-0 c.in-Ok-Goes.ensures.leads) in
    lost_on c.go_to_found.result c.go_to_found.new.self _ _ (ap (λ find. shown find c.args.self.now) kept) c.go_to_found.ensures.lost

pub returns-in-Ok-Goes-clause-reads : goal.returns-in-Ok-Goes-clause-reads
returns-in-Ok-Goes-clause-reads g c =
    reads_behind (λ (act : KeyAct). act.refusals) (g.T.ReadTree.contents c.args.tree.now) (g.T.ReadTree.contents c.key-act.new.tree) (g.T.ReadTree.contents c.go_to_found.new.tree)
    (g.T.ReadTree.fault_count c.args.tree.now) (g.T.ReadTree.fault_count c.key-act.new.tree) (g.T.ReadTree.fault_count c.go_to_found.new.tree)
    c.go_to_found.result c.in-Ok-Goes.ensures.reads.same c.in-Ok-Goes.ensures.reads.later c.go_to_found.ensures.reads
