use Rattle.std.proofs.Common.{sym, ◌∙◌, reverse}
use Rattle.tree_trait.specs.Calls.{SetMode}
use Rattle.mem_tree.proofs.Plans.{refused_none}
use Rattle.mem_tree.proofs.plan.plan_set_mode.Goals as goal

pub returns-in-Some-clause-no_memory : goal.returns-in-Some-clause-no_memory
returns-in-Some-clause-no_memory c =
    refused_none c.args.fs.now (SetMode (reverse c.args.names.now) c.args.mode) c.in-Some.e (sym c.refuse_set_mode.ensures ∙ c.in-Some.is)
