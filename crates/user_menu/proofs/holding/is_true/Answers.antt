use Rattle.std.proofs.Common.{◌≡◌, ℕ, List, IfOk, sym, subst}
use Rattle.tree_trait.specs.Change.{current}
use Rattle.tree_trait.specs.Answers.{IfKnown}
use Rattle.user_menu.specs.declared.condition.Test.{Test}
use Rattle.user_menu.specs.Facts.{is_program, is_true, IsAskedOf}
use Rattle.user_menu.proofs.AskingLemmas.{program_told}
use Rattle.user_menu.proofs.holding.is_true.Goals as goal

pub returns-in-Program-clause-answer : goal.returns-in-Program-clause-answer
returns-in-Program-clause-answer g c s told =
    let contents = g.T.ReadTree.contents c.args.tree.now in
    let r = c.is_program.result in
    let here = c.args.here.now in
    let answer : IfKnown contents (λ log. IfOk r (λ is. is ≡ is_program (current log) here.folder c.in-Program.argument)) =
    subst (λ (text : List ℕ). IfKnown contents (λ log. IfOk r (λ is. is ≡ is_program (current log) here.folder text))) c.as_str-in-Program.ensures c.is_program.ensures.answer in
    subst (λ (test : Test). IfOk r (λ is. is ≡ is_true s test here c.args.other.now)) (sym c.in-Program.is)
    (program_told contents s here.folder c.in-Program.argument r answer (subst (λ (test : Test). IsAskedOf contents s test) c.in-Program.is told))
