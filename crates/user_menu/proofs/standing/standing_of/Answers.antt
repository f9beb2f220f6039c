use Rattle.std.proofs.Common.{cond, ap, ◌∙◌, sym, subst}
use Rattle.user_menu.specs.declared.choosing.Standing.TheVariants.{Shown, Default}
use Rattle.user_menu.specs.Facts.{IsAskedOf}
use Rattle.user_menu.specs.ShownEntries.{EachTestAsked}
use Rattle.user_menu.proofs.AskingLemmas.{standing-shown}
use Rattle.user_menu.proofs.standing.standing_of.Goals as goal

pub returns-then-branch-clause-answer : goal.returns-then-branch-clause-answer
returns-then-branch-clause-answer g c s told =
    let later = subst (λ contents. EachTestAsked (IsAskedOf contents s) c.args.entry.now.conditions) (sym c.in_ok-answer_of.ensures.same) told in
    let is_default = sym (c.in_ok-answer_of-2.ensures.answer s later) ∙ c.if-branch.true in
    ap (λ default. cond default Default Shown) (sym is_default)
    ∙ standing-shown s c.args.here.now c.args.other.now c.args.entry.now (sym (c.in_ok-answer_of.ensures.answer s told) ∙ c.if-not-branch.false)

pub returns-clause-answer : goal.returns-clause-answer
returns-clause-answer g c s told =
    let later = subst (λ contents. EachTestAsked (IsAskedOf contents s) c.args.entry.now.conditions) (sym c.in_ok-answer_of.ensures.same) told in
    let is_default = sym (c.in_ok-answer_of-2.ensures.answer s later) ∙ c.if-branch.false in
    ap (λ default. cond default Default Shown) (sym is_default)
    ∙ standing-shown s c.args.here.now c.args.other.now c.args.entry.now (sym (c.in_ok-answer_of.ensures.answer s told) ∙ c.if-not-branch.false)
