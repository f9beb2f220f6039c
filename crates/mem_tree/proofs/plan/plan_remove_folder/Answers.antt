use Rattle.std.proofs.Common.{sym, ◌∙◌, reverse}
use Rattle.tree_trait.specs.Calls.{RemoveFolder}
use Rattle.mem_tree.proofs.Plans.{folder_found, refused_none}
use Rattle.mem_tree.proofs.plan.plan_remove_folder.Goals as goal

pub unlink_step-requires : goal.unlink_step-requires
unlink_step-requires c = folder_found c.args.fs.now (reverse c.args.names.now) (sym c.refuse_remove_folder.ensures ∙ c.in-None.is)

pub returns-in-Some-clause-no_memory : goal.returns-in-Some-clause-no_memory
returns-in-Some-clause-no_memory c =
    refused_none c.args.fs.now (RemoveFolder (reverse c.args.names.now)) c.in-Some.e (sym c.refuse_remove_folder.ensures ∙ c.in-Some.is)
