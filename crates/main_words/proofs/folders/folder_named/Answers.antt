-- Each component that isn't passed over leads one step on.
use Rattle.std.proofs.Common.{◌≡◌, [], ◌∷◌, ◌++◌, true, false, None, Some, length, drop, lit<, ap, sym, ◌∙◌, rules, arith}
use Rattle.std.proofs.lemmas.List.{length-append, drop-drop}
use Rattle.std.proofs.lemmas.Iterator.Splits.{YieldsList-from_str_split}
use Rattle.std.proofs.lemmas.Grind.{common_steps}
use Rattle.mc_text.specs.Routes.{components_of}
use Rattle.mc_text.proofs.Components.{yields-next, yields-end}
use Rattle.main_words.specs.Folders.{below, is_passed, step_below}
use Rattle.main_words.proofs.FolderLemmas.{below-more, below-passed, kept}
use Rattle.main_words.proofs.folders.folder_named.Goals as goal

pub loop-component-init : goal.loop-component-init
loop-component-init c =
    let split = c.split-component-items.ensures in
    rw c.into_iter-component-iterator.ensures.into_iter_gives
    (record {
      can_next = tt;
      is_finite = tt;
      comes = YieldsList-from_str_split 47 c.args.word.now (lit< tt) split.text split.has_more split.pattern;
      leads = ap (λ folder. below (Some folder) (kept (components_of c.args.word.now))) c.in_ok-folder.ensures;
    })

pub loop-component-preserved-then-not-is_passed_over : goal.loop-component-preserved-then-not-is_passed_over
loop-component-preserved-then-not-is_passed_over c =
    let component = c.in-Some.component.now in
    let yielded = c.loop-component.yielded in
    let left = drop (length yielded) (components_of c.args.word.now) in
    let here = c.loop-component.invariant in
    let step = yields-next {t = c.next.new.self} {x = c.in-Some.component} here.comes c.in-Some.ensures.steps in
    let next : drop (length (yielded ++ (c.in-Some.component ∷ []))) (components_of c.args.word.now) ≡ drop 1 left =
    rw (length-append yielded (c.in-Some.component ∷ [])) (sym (drop-drop 1 (length yielded) (components_of c.args.word.now))) in
    let is_kept : is_passed component ≡ false = grind (arith, common_steps) in
    rw next
    (record {
      can_next = tt;
      is_finite = tt;
      comes = step.1;
      leads = sym (below-more c.loop-component.folder component left (drop 1 left) (Some c.in_ok-folder-2.folder) step.0 is_kept c.in_ok-folder-2.ensures.read) ∙ here.leads;
    })

pub loop-component-preserved : goal.loop-component-preserved
loop-component-preserved c =
    let component = c.in-Some.component.now in
    let yielded = c.loop-component.yielded in
    let left = drop (length yielded) (components_of c.args.word.now) in
    let here = c.loop-component.invariant in
    let step = yields-next {t = c.next.new.self} {x = c.in-Some.component} here.comes c.in-Some.ensures.steps in
    let next : drop (length (yielded ++ (c.in-Some.component ∷ []))) (components_of c.args.word.now) ≡ drop 1 left =
    rw (length-append yielded (c.in-Some.component ∷ [])) (sym (drop-drop 1 (length yielded) (components_of c.args.word.now))) in
    let is_passed_over : is_passed component ≡ true = grind (arith, common_steps) in
    rw next
    (record {
      can_next = tt;
      is_finite = tt;
      comes = step.1;
      leads = sym (below-passed c.loop-component.folder component left (drop 1 left) step.0 is_passed_over) ∙ here.leads;
    })

pub returns-in_err-folder-2-clause-usage : goal.returns-in_err-folder-2-clause-usage
returns-in_err-folder-2-clause-usage c usage =
    let component = c.in-Some.component.now in
    let left = drop (length c.loop-component.yielded) (components_of c.args.word.now) in
    let here = c.loop-component.invariant in
    let step = yields-next {t = c.next.new.self} {x = c.in-Some.component} here.comes c.in-Some.ensures.steps in
    let is_kept : is_passed component ≡ false = grind (arith, common_steps) in
    let refused : step_below c.loop-component.folder component ≡ None = search rules in
    sym here.leads ∙ below-more c.loop-component.folder component left (drop 1 left) None step.0 is_kept refused

pub returns-clause-read : goal.returns-clause-read
returns-clause-read c =
    let here = c.loop-component.invariant in
    let end = yields-end here.comes c.in-None.ensures.steps in
    sym here.leads ∙ ap (λ left. below (Some c.loop-component.folder) (kept left)) end
