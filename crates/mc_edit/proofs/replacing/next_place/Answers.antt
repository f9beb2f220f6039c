-- A place in the rest is a place in the text.
use Rattle.std.proofs.Common.{ℕ, List, Some, None, subst}
use Rattle.std.proofs.lemmas.List.{take_rest}
use Rattle.memchr.specs.Find.{FindsNeedle}
use Rattle.mc_edit.proofs.ReplacingLemmas.{FindsNeedle-some, FindsNeedle-none}
use Rattle.mc_edit.proofs.replacing.next_place.Goals as goal

pub returns-in_err-at-clause-place : goal.returns-in_err-at-clause-place
returns-in_err-at-clause-place c =
    let text = c.args.text.now in
    let what = c.args.finder.now in
    let from = c.args.from in
    rw c.from_residual.ensures
    (FindsNeedle-none text what from c.requires
    (subst (λ (rest : List ℕ). FindsNeedle rest what 0 None) (take_rest text from) c.in_err-at.ensures))

pub returns-clause-place : goal.returns-clause-place
returns-clause-place c =
    let text = c.args.text.now in
    let what = c.args.finder.now in
    let from = c.args.from in
    let at = c.in_ok-at.at in
    FindsNeedle-some text what from c.requires at
    (subst (λ (rest : List ℕ). FindsNeedle rest what 0 (Some at)) (take_rest text from) c.in_ok-at.ensures)
