use Rattle.std.proofs.Common.{to_z, of_z, w64, subst, Some, []}
use Rattle.mc_text.specs.Routes.{Route}
use Rattle.tree_trait.specs.Answers.{Performs}
use Rattle.tree_trait.specs.Calls.{MakeFile}
use Rattle.tree_trait.specs.Change.{change_of, torn_write}
use Rattle.mem_tree.specs.CallSteps.{Plans}
use Rattle.mem_tree.specs.Held.{Held, log_of}
use Rattle.mem_tree.proofs.Plans.{no_fault}
use Rattle.mem_tree.proofs.Endings.{Performs-concluded, kept_concluded, once_kept}
use Rattle.mem_tree.proofs.calls.MemTreeTree.make_file.Goals as goal

pub conclude-answer-requires-clause-no_fault : goal.conclude-answer-requires-clause-no_fault
conclude-answer-requires-clause-no_fault c =
    let call = MakeFile c.args.path.now c.args.mode in
    no_fault c.self.inside.stands call (change_of c.self.inside.stands call (to_z w64 (of_z w64 c.self.inside.time))) (torn_write c.self.inside.stands call []) c.plan_make_file-plan.result (subst (λ (p : Route). Plans c.self.inside.stands (MakeFile p c.args.mode) (to_z w64 (of_z w64 c.self.inside.time)) c.plan_make_file-plan.result) c.names.ensures.names c.plan_make_file-plan.ensures)

pub conclude-answer-requires-clause-once : goal.conclude-answer-requires-clause-once
conclude-answer-requires-clause-once c = once_kept c.self.inside.opening c.self.inside.records.items c.self.inside.stands c.self.invariant

pub invariant_of-self : goal.invariant_of-self
invariant_of-self c =
    kept_concluded c.self.inside.opening c.self.inside.records.items c.self.inside.stands c.self.invariant (MakeFile c.args.path.now c.args.mode) (to_z w64 (of_z w64 c.self.inside.time)) c.count-due.result c.plan_make_file-plan.result
    (subst (λ (p : Route). Plans c.self.inside.stands (MakeFile p c.args.mode) (to_z w64 (of_z w64 c.self.inside.time)) c.plan_make_file-plan.result) c.names.ensures.names c.plan_make_file-plan.ensures)
    c.conclude-answer.new.records.items c.conclude-answer.new.stands (Unit {0}) c.conclude-answer.result (c.requires.mode) c.conclude-answer.ensures.concludes

pub returns-clause-answer : goal.returns-clause-answer
returns-clause-answer c =
    let s = c.self.inside.opening in
    subst (λ (h : Held). Performs h.log (MakeFile c.args.path.now c.args.mode) c.conclude-answer.result (Some (log_of s c.conclude-answer.new.records.items))) c.self.view_is
    (Performs-concluded s c.self.inside.records.items c.self.inside.stands c.self.invariant (MakeFile c.args.path.now c.args.mode) (to_z w64 (of_z w64 c.self.inside.time)) c.count-due.result c.plan_make_file-plan.result
    (subst (λ (p : Route). Plans c.self.inside.stands (MakeFile p c.args.mode) (to_z w64 (of_z w64 c.self.inside.time)) c.plan_make_file-plan.result) c.names.ensures.names c.plan_make_file-plan.ensures)
    c.conclude-answer.new.records.items c.conclude-answer.new.stands (Unit {0}) c.conclude-answer.result c.conclude-answer.ensures.concludes)
