use Rattle.std.proofs.Common.{sym, ◌∙◌, reverse}
use Rattle.tree_trait.specs.Calls.{SyncFile}
use Rattle.mem_tree.proofs.Plans.{refused_none}
use Rattle.mem_tree.proofs.plan.plan_sync_file.Goals as goal

pub returns-in-Some-clause-no_memory : goal.returns-in-Some-clause-no_memory
returns-in-Some-clause-no_memory c =
    refused_none c.args.fs.now (SyncFile (reverse c.args.names.now)) c.in-Some.e (sym c.refuse_sync_file.ensures ∙ c.in-Some.is)
