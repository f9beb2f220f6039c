-- Panels that were opened make the screen, or why they weren't is why the session doesn't start.
use Rattle.std.proofs.Common.{rules, ◌≡◌, sym, subst}
use Rattle.tree_trait.specs.Change.{current}
use Rattle.mc_desk.specs.declared.starts.StartError.{StartError}
use Rattle.mc_desk.specs.declared.starts.StartMode.TheVariants.{Panels}
use Rattle.mc_desk.specs.Starts.{IsStartCause}
use Rattle.mc_desk.specs.StartedDesks.{place_of, start_error}
use Rattle.mc_desk.proofs.Openings.{both_lead, opens, start_refused}
use Rattle.mc_desk.proofs.opening.open_panels.Goals as goal

pub returns-in-Ok-clause-opened : goal.returns-in-Ok-clause-opened
returns-in-Ok-clause-opened g c =
    opens (g.T.ReadTree.contents c.args.tree.now) c.args.left.now c.args.right.now c.args.home c.args.lines c.args.columns c.in-Ok.panels c.args.now c.new.result c.in-Ok.ensures.opened c.new.ensures c.in-Ok.ensures.answer

pub returns-in-Ok-clause-cause : goal.returns-in-Ok-clause-cause
returns-in-Ok-clause-cause g c log known = both_lead log c.args.left.now c.args.right.now c.in-Ok.panels (c.in-Ok.ensures.answer log known)

pub returns-in-Err-clause-cause : goal.returns-in-Err-clause-cause
returns-in-Err-clause-cause g c log known =
    let unopened = c.in-Err.field-0 in
    let same : c.refused.result ≡ start_error (place_of unopened.side) unopened.error = search rules in
    subst (λ (e : StartError). IsStartCause (current log) (Panels c.args.left.now c.args.right.now) e) (sym same)
    (start_refused log c.args.left.now c.args.right.now unopened.side unopened.error (c.in-Err.ensures.answer log known))
