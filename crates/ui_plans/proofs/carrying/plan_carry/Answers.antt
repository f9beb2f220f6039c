-- What the plan of the request comes to is what copying or moving comes to.
use Rattle.std.proofs.Common.{sym, ◌∙◌, subst}
use Rattle.std.specs.Prelude.{Err}
use Rattle.op_plan.specs.declared.request.Request.{Request}
use Rattle.ui_plans.specs.Carrying.{IsPlanned}
use Rattle.ui_plans.proofs.CarriesLead.{can_be, carry_leads, is_plan}
use Rattle.ui_plans.proofs.CarryCauses.{carry_causes}
use Rattle.ui_plans.proofs.Refusing.{refused_reads}
use Rattle.ui_plans.proofs.carrying.plan_carry.Goals as goal

pub pairs_of-requires : goal.pairs_of-requires
pairs_of-requires g c =
    is_plan c.args.carry c.args.chosen.now.paths c.args.mask.now c.args.from.now c.args.typed.now c.in_ok-request.request c.in-Ok.job
    c.in_ok-request.ensures c.in-Ok.ensures.asked

pub plan_to-requires : goal.plan_to-requires
plan_to-requires g c =
    record {
      within = can_be c.args.carry c.args.chosen.now.paths c.args.mask.now c.args.from.now c.args.typed.now c.in_ok-request.request c.in-Ok.job c.pairs_of.result
          c.in_ok-request.ensures c.pairs_of.ensures c.args.chosen.now.within c.in-Ok.ensures.sound c.in-Ok.ensures.asked;
    }

pub returns-in-Ok-clause-leads : goal.returns-in-Ok-clause-leads
returns-in-Ok-clause-leads g c =
    carry_leads c.args.carry c.args.chosen.now.paths c.args.mask.now c.args.from.now c.args.typed.now (g.T.ReadTree.contents c.args.tree.now)
    c.in_ok-request.request c.in-Ok.job c.pairs_of.result c.plan_to.result
    (sym c.is_below_home.ensures ∙ c.if-is_below_home.false) c.in_ok-request.ensures c.in-Ok.ensures.sound c.in-Ok.ensures.asked
    c.in-Ok.ensures.answer c.pairs_of.ensures c.plan_to.ensures

pub returns-in-Err-clause-reads : goal.returns-in-Err-clause-reads
returns-in-Err-clause-reads g c =
    let contents = g.T.ReadTree.contents c.args.tree.now in
    refused_reads contents (g.T.ReadTree.contents c.make_plan.new.tree)
    (g.T.ReadTree.fault_count c.args.tree.now) (g.T.ReadTree.fault_count c.make_plan.new.tree) c.in-Err.error c.refused.result
    c.in-Err.ensures.same (carry_causes contents c.args.carry c.args.chosen.now.paths c.args.mask.now c.args.from.now c.args.typed.now c.in-Err.error
    (subst (λ (r : Request). IsPlanned contents r (Err c.in-Err.error)) c.in_ok-request.ensures c.in-Err.ensures.answer)
    c.in-Err.ensures.cause.carried) c.in-Err.ensures.cause c.refused.ensures
