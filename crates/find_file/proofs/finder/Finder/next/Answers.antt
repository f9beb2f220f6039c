-- What a step tells behind steps that told nothing is what the search tells.
use Rattle.std.proofs.Common.{Ok, sym, subst, ◌∙◌, arith}
use Rattle.tree_trait.specs.Change.{current}
use Rattle.find_file.specs.Walks.{left_in}
use Rattle.find_file.specs.Telling.{Advances, Answers, IsTold, Leads, Steps}
use Rattle.find_file.proofs.Leading.{told-on, answers-want, first-of}
use Rattle.find_file.proofs.finder.Finder.next.Goals as goal

pub returns-in_err-found-clause-answer : goal.returns-in_err-found-clause-answer
returns-in_err-found-clause-answer g c = λ log tells.
    let search = c.args.self.now.search in
    let before = left_in (current log) search c.args.self.now.walk in
    let after = left_in (current log) search c.step.new.self in
    let now = left_in (current log) search c.loop-found.self.walk in
    let step : Advances (current log) search now c.step.result after =
    subst (λ q. Steps (current log) q c.loop-found.self.walk c.step.result c.step.new.self) c.loop-found.invariant.search (c.step.ensures.answer log (c.loop-found.invariant.same ∙ tells)) in
    let told = told-on (current log) search before now after (c.loop-found.invariant.left log tells) c.step.result step in
    let waits : Leads before after = subst (λ r. Advances (current log) search before r after) c.in_err-found.was told in
    subst (λ q. Answers (current log) search before c.from_residual.result (left_in (current log) q c.step.new.self)) (sym c.loop-found.invariant.search)
    (answers-want (current log) search before after c.from_residual.result c.from_residual.ensures.0 waits)

pub returns-in-Some-clause-answer : goal.returns-in-Some-clause-answer
returns-in-Some-clause-answer g c = λ log tells.
    let search = c.args.self.now.search in
    let before = left_in (current log) search c.args.self.now.walk in
    let after = left_in (current log) search c.step.new.self in
    let now = left_in (current log) search c.loop-found.self.walk in
    let step : Advances (current log) search now c.step.result after =
    subst (λ q. Steps (current log) q c.loop-found.self.walk c.step.result c.step.new.self) c.loop-found.invariant.search (c.step.ensures.answer log (c.loop-found.invariant.same ∙ tells)) in
    let told = told-on (current log) search before now after (c.loop-found.invariant.left log tells) c.step.result step in
    let is : IsTold (current log) search before c.in-Some.found after =
    subst (λ o. Advances (current log) search before (Ok o) after) c.in-Some.is (subst (λ r. Advances (current log) search before r after) c.in_ok-found.was told) in
    subst (λ q. IsTold (current log) search before c.in-Some.found (left_in (current log) q c.step.new.self)) (sym c.loop-found.invariant.search) is

pub returns-in_err-found-clause-first : goal.returns-in_err-found-clause-first
returns-in_err-found-clause-first g c = λ log tells.
    first-of (current log) c.args.self.now.search (left_in (current log) c.args.self.now.search c.args.self.now.walk) (left_in (current log) c.loop-found.self.search c.step.new.self)
    c.from_residual.result (returns-in_err-found-clause-answer g c log tells)

pub returns-in-Some-clause-first : goal.returns-in-Some-clause-first
returns-in-Some-clause-first g c = λ log tells.
    first-of (current log) c.args.self.now.search (left_in (current log) c.args.self.now.search c.args.self.now.walk) (left_in (current log) c.loop-found.self.search c.step.new.self)
    (Ok c.in-Some.found) (returns-in-Some-clause-answer g c log tells)

pub loop-found-preserved : goal.loop-found-preserved
loop-found-preserved g c = record {
  same = c.step.ensures.same ∙ c.loop-found.invariant.same;
  later = omega (arith, c.step.ensures.reason.later, c.loop-found.invariant.later);
  over = λ is_over.
      let ends = c.step.ensures.over (c.loop-found.invariant.over is_over) in
      let none = sym c.in_ok-found.was ∙ ends in
      let is = c.in_default.is in
      absurd (cc);
  apart = λ is_over.
      let ends = c.step.ensures.over (c.loop-found.invariant.over is_over) in
      let none = sym c.in_ok-found.was ∙ ends in
      let is = c.in_default.is in
      absurd (cc);
  search = c.loop-found.invariant.search;
  left = λ log tells.
      let search = c.args.self.now.search in
      let before = left_in (current log) search c.args.self.now.walk in
      let after = left_in (current log) search c.step.new.self in
      let now = left_in (current log) search c.loop-found.self.walk in
      let step : Advances (current log) search now c.step.result after =
      subst (λ q. Steps (current log) q c.loop-found.self.walk c.step.result c.step.new.self) c.loop-found.invariant.search (c.step.ensures.answer log (c.loop-found.invariant.same ∙ tells)) in
      let told = told-on (current log) search before now after (c.loop-found.invariant.left log tells) c.step.result step in
      subst (λ o. Advances (current log) search before (Ok o) after) c.in_default.is (subst (λ r. Advances (current log) search before r after) c.in_ok-found.was told);
}
