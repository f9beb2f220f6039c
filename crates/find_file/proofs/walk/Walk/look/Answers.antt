-- A thing is gone into, read, or passed; or skipped.
use Rattle.std.proofs.Common.{Ok, refl, sym, subst, ◌∙◌}
use Rattle.mc_text.specs.declared.kind.Kind.TheVariants as kinds
use Rattle.tree_trait.specs.declared.calls.Meta.{Meta}
use Rattle.tree_trait.specs.Change.{current}
use Rattle.tree_trait.specs.Answers.{IsMeta}
use Rattle.find_file.specs.declared.walk.Task.TheVariants.{Look}
use Rattle.find_file.specs.Walks.{left_in}
use Rattle.find_file.specs.Telling.{Advances, with_task}
use Rattle.find_file.proofs.Looking.{look-refused, works-refused, looked-into, looked-past}
use Rattle.find_file.proofs.walk.Walk.look.Goals as goal

pub returns-in-Err-clause-answer : goal.returns-in-Err-clause-answer
returns-in-Err-clause-answer g c = λ log tells.
    look-refused log c.args.search.now c.args.self.now c.requires Meta (IsMeta (current log) c.args.path) c.in-Err.error c.refused.new.self c.refused.result
    c.args.path c.args.is_named (c.in-Err.ensures.answer log tells) c.refused.ensures.told c.refused.ensures.waits

pub returns-in-Err-clause-works : goal.returns-in-Err-clause-works
returns-in-Err-clause-works g c =
    works-refused (Look c.args.path c.args.is_named) c.args.self.now c.refused.new.self (g.T.ReadTree.fault_count c.args.tree.now) (g.T.ReadTree.fault_count c.stat.new.self) Meta c.in-Err.error c.refused.result
    c.in-Err.ensures.cause c.refused.ensures.told c.refused.ensures.waits c.requires

pub returns-in-Folder-clause-answer : goal.returns-in-Folder-clause-answer
returns-in-Folder-clause-answer g c = λ log tells.
    let told = c.in-Ok.ensures.answer log tells in
    let search = c.args.search.now in
    let old = c.args.self.now in
    subst (λ t. Advances (current log) search (left_in (current log) search (with_task old (Look c.args.path c.args.is_named))) (Ok t) (left_in (current log) search c.go_into.new.self))
    (sym c.go_into.ensures.none)
    (looked-into (current log) search old c.requires c.args.path c.args.is_named c.go_into.new.self told.0 (sym told.1.kind ∙ c.in-Folder.is) c.go_into.ensures.next)

pub returns-in-Link-clause-answer : goal.returns-in-Link-clause-answer
returns-in-Link-clause-answer g c = λ log tells.
    let told = c.in-Ok.ensures.answer log tells in
    looked-past (current log) c.args.search.now c.args.self.now c.requires c.args.path c.args.is_named kinds.Link c.args.self.now told.0 (sym told.1.kind ∙ c.in-Link.is) refl refl

pub returns-in-Other-clause-answer : goal.returns-in-Other-clause-answer
returns-in-Other-clause-answer g c = λ log tells.
    let told = c.in-Ok.ensures.answer log tells in
    looked-past (current log) c.args.search.now c.args.self.now c.requires c.args.path c.args.is_named kinds.Other c.args.self.now told.0 (sym told.1.kind ∙ c.in-Other.is) refl refl
