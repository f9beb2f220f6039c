-- A refused look is the first that is refused, since none before it was.
use Rattle.std.proofs.Common.{◌≡◌, ◌∙◌, subst, None}
use Rattle.tree_trait.specs.Calls.{Stat}
use Rattle.tree_trait.specs.Change.{current}
use Rattle.tree_trait.specs.Refusals.{refusal_of}
use Rattle.copy_file.specs.Looking.{IsThere}
use Rattle.job_reports.specs.Reading.{StatStops}
use Rattle.copy_file.proofs.LooksInOrder.{first_look, third_look, fourth_look}
use Rattle.copy_file.proofs.looks.look_at_places.Goals as goal

pub returns-in-Err-clause-known : goal.returns-in-Err-clause-known
returns-in-Err-clause-known g c = λ log known.
    let t = c.in-Err.trouble in
    first_look (current log) c.args.item.now t.cause t.path (subst (λ q. StatStops (current log) q t.cause t.path) c.source.ensures (c.in-Err.ensures.known log known))

pub returns-in-Err-look-clause-known : goal.returns-in-Err-look-clause-known
returns-in-Err-look-clause-known g c = λ log known.
    let t = c.in-Err-look.trouble in
    let second = c.in-Ok.ensures.peeks.same ∙ known in
    let third = c.in-Ok-look_at_target.ensures.peeks.same ∙ second in
    third_look (current log) c.args.item.now
    (subst (λ q. refusal_of (current log) (Stat q) ≡ None) c.source.ensures (c.in-Ok.ensures.known log known).0)
    c.in-Ok-look_at_target.target (subst (λ q. IsThere (current log) q c.in-Ok-look_at_target.target) c.target.ensures (c.in-Ok-look_at_target.ensures.known log second))
    t.cause t.path (subst (λ q. StatStops (current log) q t.cause t.path) c.source_folder.ensures (c.in-Err-look.ensures.known log third))

pub returns-in-Err-look-2-clause-known : goal.returns-in-Err-look-2-clause-known
returns-in-Err-look-2-clause-known g c = λ log known.
    let t = c.in-Err-look-2.trouble in
    let second = c.in-Ok.ensures.peeks.same ∙ known in
    let third = c.in-Ok-look_at_target.ensures.peeks.same ∙ second in
    let fourth = c.in_default.ensures.peeks.same ∙ third in
    fourth_look (current log) c.args.item.now
    (subst (λ q. refusal_of (current log) (Stat q) ≡ None) c.source.ensures (c.in-Ok.ensures.known log known).0)
    c.in-Ok-look_at_target.target (subst (λ q. IsThere (current log) q c.in-Ok-look_at_target.target) c.target.ensures (c.in-Ok-look_at_target.ensures.known log second))
    t.cause t.path
    (subst (λ q. refusal_of (current log) (Stat q) ≡ None) c.source_folder.ensures (c.in_default.ensures.known log third).0)
    (subst (λ q. StatStops (current log) q t.cause t.path) c.folder.ensures (c.in-Err-look-2.ensures.known log fourth))
