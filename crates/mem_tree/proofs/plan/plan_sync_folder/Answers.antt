use Rattle.std.proofs.Common.{sym, ◌∙◌, reverse}
use Rattle.tree_trait.specs.Calls.{SyncFolder}
use Rattle.mem_tree.proofs.Plans.{refused_none}
use Rattle.mem_tree.proofs.plan.plan_sync_folder.Goals as goal

pub returns-in-Some-clause-no_memory : goal.returns-in-Some-clause-no_memory
returns-in-Some-clause-no_memory c =
    refused_none c.args.fs.now (SyncFolder (reverse c.args.names.now)) c.in-Some.e (sym c.refuse_sync_folder.ensures ∙ c.in-Some.is)
