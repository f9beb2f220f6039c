-- A folder is gone into, or skipped.
use Rattle.tree_trait.specs.declared.calls.Children.{Children}
use Rattle.tree_trait.specs.Change.{current, found_node}
use Rattle.tree_trait.specs.Answers.{IsListing}
use Rattle.find_file.specs.declared.walk.Task.TheVariants.{List as ListTask}
use Rattle.find_file.proofs.Looking.{list-refused, works-refused, enters, works-enters, brings-children}
use Rattle.find_file.proofs.walk.Walk.list.Goals as goal

pub returns-in-Err-clause-answer : goal.returns-in-Err-clause-answer
returns-in-Err-clause-answer g c = λ log tells.
    list-refused log c.args.search.now c.args.self.now c.requires Children (IsListing (current log) (found_node (current log) c.args.folder)) c.in-Err.error c.refused.new.self c.refused.result
    c.args.folder c.names-short.ensures.short (c.in-Err.ensures.answer log tells) c.refused.ensures.told c.refused.ensures.waits

pub returns-in-Err-clause-works : goal.returns-in-Err-clause-works
returns-in-Err-clause-works g c =
    works-refused (ListTask c.args.folder) c.args.self.now c.refused.new.self (g.T.ReadTree.fault_count c.args.tree.now) (g.T.ReadTree.fault_count c.list.new.self) Children c.in-Err.error c.refused.result
    c.in-Err.ensures.cause c.refused.ensures.told c.refused.ensures.waits c.requires

pub returns-in-Ok-clause-answer : goal.returns-in-Ok-clause-answer
returns-in-Ok-clause-answer g c = λ log tells.
    let told = c.in-Ok.ensures.answer log tells in
    enters c.args.search.now c.args.self.now c.enter.new.self c.args.folder c.in-Ok.children.names (current log) c.enter.result
    (brings-children (current log) c.args.search.now c.args.folder c.in-Ok.children c.names-short.ensures.short told.0 told.1 c.in-Ok.ensures.ascending)
    c.enter.ensures.entered c.enter.ensures.waits

pub returns-in-Ok-clause-works : goal.returns-in-Ok-clause-works
returns-in-Ok-clause-works g c =
    works-enters c.args.search.now c.args.self.now c.enter.new.self c.args.folder c.in-Ok.children.names c.enter.result (g.T.ReadTree.fault_count c.args.tree.now) (g.T.ReadTree.fault_count c.list.new.self)
    c.in-Ok.ensures.cause.later c.enter.ensures.entered c.enter.ensures.waits c.enter.ensures.few
