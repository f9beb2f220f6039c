-- Where going to a found path is refused, the list stays.
use Rattle.std.proofs.Common.{◌≢◌, ◌∙◌, subst, Err, rules}
use Rattle.tree_trait.specs.Answers.{IfKnown}
use Rattle.resolving.specs.declared.error.ResolveError.TheVariants as resolve
use Rattle.panel_pair.specs.declared.command.PanelCommand.TheVariants.{GoTo}
use Rattle.panel_pair.specs.Commands.{CommandReads}
use Rattle.mc_ui.specs.Screens.{Screen}
use Rattle.mc_ui.proofs.FindFollowing.{listed_is, lost_on, refused_goes}
use Rattle.mc_ui.proofs.Readings.{command_reads}
use Rattle.mc_ui.proofs.ui.Ui.go_to_found.Goals as goal

pub returns-in-Err-clause-leads : goal.returns-in-Err-clause-leads
returns-in-Err-clause-leads g c =
    let other : c.in-Err.error ≢ resolve.Memory = search rules in
    refused_goes c.args.path c.args.find (g.T.ReadTree.contents c.args.tree.now) c.in-Err.error c.args.self.now _ c.refuse.new.self c.refuse.result
    (c.show_box-in-Err.ensures ∙ listed_is c.work.new.self c.args.find _ c.args.self.now c.in-Err.ensures.refused c.self.view_is)
    (subst (λ (s : Screen). IfKnown (g.T.ReadTree.contents c.args.tree.now) (λ log. CommandReads (GoTo c.args.path) log s.panels.current (Err c.in-Err.error)))
    c.self.view_is c.in-Err.ensures.answer)
    other c.refuse.ensures.told c.refuse.ensures.act

pub returns-in-Err-clause-lost : goal.returns-in-Err-clause-lost
returns-in-Err-clause-lost g c =
    lost_on c.refuse.result c.refuse.new.self _ _
    (c.show_box-in-Err.ensures ∙ listed_is c.work.new.self c.args.find _ c.args.self.now c.in-Err.ensures.refused c.self.view_is) c.refuse.ensures.lost

pub returns-in-Err-clause-reads : goal.returns-in-Err-clause-reads
returns-in-Err-clause-reads g c =
    command_reads c.in-Err.error (g.T.ReadTree.contents c.args.tree.now) (g.T.ReadTree.contents c.work.new.tree)
    (g.T.ReadTree.fault_count c.args.tree.now) (g.T.ReadTree.fault_count c.work.new.tree) c.refuse.result c.in-Err.ensures.reads c.refuse.ensures.act
