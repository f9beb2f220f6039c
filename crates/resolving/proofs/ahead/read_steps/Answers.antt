-- Each component that isn't passed over joins those that were read.
use Rattle.std.proofs.Common.{◌≡◌, [], ◌∷◌, ◌++◌, true, false, length, drop, append_assoc, lit<, ap, sym, ◌∙◌, refl, arith}
use Rattle.std.proofs.lemmas.List.{length-append, append-nil, drop-drop}
use Rattle.std.proofs.lemmas.Iterator.Splits.{YieldsList-from_str_split}
use Rattle.std.proofs.lemmas.Grind.{common_steps}
use Rattle.mc_text.specs.Routes.{components_of}
use Rattle.mc_text.proofs.Components.{yields-next, yields-end}
use Rattle.resolving.specs.Resolution.{is_passed}
use Rattle.resolving.proofs.Walks.{kept, kept-passed, kept-more}
use Rattle.resolving.proofs.ahead.read_steps.Goals as goal

pub loop-component-init : goal.loop-component-init
loop-component-init c =
    let split = c.split-component-items.ensures in
    rw (c.into_iter-component-iterator.ensures.into_iter_gives, c.new-steps.ensures.items)
    (record {
      can_next = tt;
      is_finite = tt;
      comes = YieldsList-from_str_split 47 c.args.text.now (lit< tt) split.text split.has_more split.pattern;
      steps = refl;
    })

pub loop-component-preserved-in_ok-push : goal.loop-component-preserved-in_ok-push
loop-component-preserved-in_ok-push c =
    let component = c.in-Some.component.now in
    let yielded = c.loop-component.yielded in
    let left = drop (length yielded) (components_of c.args.text.now) in
    let here = c.loop-component.invariant in
    let step = yields-next {t = c.next.new.self} {x = c.in-Some.component} here.comes c.in-Some.ensures.steps in
    let cut : left ≡ component ∷ drop 1 left = step.0 in
    let next : drop (length (yielded ++ (c.in-Some.component ∷ []))) (components_of c.args.text.now) ≡ drop 1 left =
    rw (length-append yielded (c.in-Some.component ∷ [])) (sym (drop-drop 1 (length yielded) (components_of c.args.text.now))) in
    let is_kept : is_passed component ≡ false = grind (arith, common_steps) in
    let pushed : c.push.new.self.items ≡ c.loop-component.steps.items ++ component ∷ [] = grind (arith, common_steps) in
    rw next
    (record {
      can_next = tt;
      is_finite = tt;
      comes = step.1;
      steps = rw pushed (append_assoc c.loop-component.steps.items (component ∷ []) (kept (drop 1 left))
          ∙ ap (λ n. c.loop-component.steps.items ++ n) (sym (ap kept cut ∙ kept-more component (drop 1 left) is_kept)) ∙ here.steps);
    })

pub loop-component-preserved : goal.loop-component-preserved
loop-component-preserved c =
    let component = c.in-Some.component.now in
    let yielded = c.loop-component.yielded in
    let left = drop (length yielded) (components_of c.args.text.now) in
    let here = c.loop-component.invariant in
    let step = yields-next {t = c.next.new.self} {x = c.in-Some.component} here.comes c.in-Some.ensures.steps in
    let cut : left ≡ component ∷ drop 1 left = step.0 in
    let next : drop (length (yielded ++ (c.in-Some.component ∷ []))) (components_of c.args.text.now) ≡ drop 1 left =
    rw (length-append yielded (c.in-Some.component ∷ [])) (sym (drop-drop 1 (length yielded) (components_of c.args.text.now))) in
    let is_passed_over : is_passed component ≡ true = grind (arith, common_steps) in
    rw next
    (record {
      can_next = tt;
      is_finite = tt;
      comes = step.1;
      steps = sym (ap (λ n. c.loop-component.steps.items ++ n) (ap kept cut ∙ kept-passed component (drop 1 left) is_passed_over)) ∙ here.steps;
    })

pub returns : goal.returns
returns c =
    let here = c.loop-component.invariant in
    let end = yields-end here.comes c.in-None.ensures.steps in
    sym (append-nil c.loop-component.steps.items) ∙ ap (λ left. c.loop-component.steps.items ++ kept left) (sym end) ∙ here.steps
