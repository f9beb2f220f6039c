-- What the path for a new thing comes to, as a plan answers it, is what is told.
use Rattle.std.proofs.Common.{sym, ◌∙◌}
use Rattle.ui_plans.proofs.NewPlaces.{place_causes, refused_leads, refused_reads, stands}
use Rattle.ui_plans.proofs.new_place.new_place.Goals as goal

pub returns-in-Ok-clause-leads : goal.returns-in-Ok-clause-leads
returns-in-Ok-clause-leads g c =
    stands (g.T.ReadTree.contents c.args.tree.now) c.args.from.now c.args.typed.now c.in-Ok.path (sym c.is_below_home.ensures ∙ c.if-is_below_home.false)
    c.in-Ok.ensures.named c.in-Ok.ensures.answer

pub returns-in-Err-clause-leads : goal.returns-in-Err-clause-leads
returns-in-Err-clause-leads g c =
    refused_leads (g.T.ReadTree.contents c.args.tree.now) c.args.from.now c.args.typed.now c.in-Err.error c.refused_place.result
    (sym c.is_below_home.ensures ∙ c.if-is_below_home.false) c.in-Err.ensures.only c.in-Err.ensures.answer c.refused_place.ensures

pub returns-in-Err-clause-reads : goal.returns-in-Err-clause-reads
returns-in-Err-clause-reads g c =
    refused_reads (g.T.ReadTree.contents c.args.tree.now) (g.T.ReadTree.contents c.plan_place.new.tree)
    (g.T.ReadTree.fault_count c.args.tree.now) (g.T.ReadTree.fault_count c.plan_place.new.tree) c.in-Err.error c.refused_place.result
    c.in-Err.ensures.same (place_causes (g.T.ReadTree.contents c.args.tree.now) c.args.from.now c.args.typed.now c.in-Err.error
    c.in-Err.ensures.only c.in-Err.ensures.answer) c.in-Err.ensures.cause c.refused_place.ensures
