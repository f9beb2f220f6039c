-- What was read is what the words ask for.
use Rattle.std.proofs.Common.{◌≡◌, refl, rules, sym, subst, ap, ◌∙◌, None, Some}
use Rattle.main_words.specs.Asked.{asked_by}
use Rattle.mc_main.specs.declared.run.Env.{Env}
use Rattle.mc_main.specs.declared.words.Printed.TheVariants.{Usage}
use Rattle.mc_main.specs.Beginnings.{IsBeginning, printed_for, surroundings_in}
use Rattle.mc_main.proofs.Printing.{asked_read}
use Rattle.mc_main.proofs.words.beginning_of.Goals as goal

pub returns-in-Ok : goal.returns-in-Ok
returns-in-Ok c =
    subst (λ o. IsBeginning (surroundings_in c.args.env.now) o c.begun_by.result) (sym (asked_read c.args.env.now.folder _ c.args.words.now c.in_ok-started.started (Some c.in-Ok.asked) c.in_ok-started.ensures (c.as_str.ensures.value ∙ ap (λ (env : Env). env.folder) c.env.view_is) c.in-Ok.ensures.read))
    (subst (λ n. IsBeginning n (Some c.in-Ok.asked) c.begun_by.result) c.in_ok-around.ensures c.begun_by.ensures)

pub returns-in-Err-Usage : goal.returns-in-Err-Usage
returns-in-Err-Usage c =
    let none : asked_by c.in_ok-started.started c.args.words.now ≡ None = c.in-Err-Usage.ensures.usage (search rules) in
    subst (λ o. printed_for o ≡ Some Usage) (sym (asked_read c.args.env.now.folder _ c.args.words.now c.in_ok-started.started None c.in_ok-started.ensures (c.as_str.ensures.value ∙ ap (λ (env : Env). env.folder) c.env.view_is) none)) refl
