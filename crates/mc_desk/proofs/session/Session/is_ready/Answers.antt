-- What is to be looked at is the live job.
use Rattle.std.proofs.Common.{rules, nat_eq, ◌≡◌, ◌∙◌, ap, sym, false}
use Rattle.std.proofs.lemmas.Bool.{both_ways, eq-eqb}
use Rattle.std.specs.Option.{option_map}
use Rattle.copy_move.specs.Told.{told_job}
use Rattle.mc_desk.specs.Tallies.{Tally}
use Rattle.mc_desk.specs.Desks.{Seen}
use Rattle.mc_desk.proofs.Naming.{due_is_live}
use Rattle.mc_desk.proofs.session.Session.is_ready.Goals as goal

pub returns-else-id-job-clause-due : goal.returns-else-id-job-clause-due
returns-else-id-job-clause-due g c due =
    let written = c.self.invariant.desk.written.tally in
    let is_due = sym (ap (λ (t : Tally). t.due) written) ∙ (ap (λ (d : Seen). d.tally.due) c.self.view_is ∙ due) in
    let live = sym (ap (λ (t : Tally). t.job) written) ∙ ap (option_map told_job) c.in-Some.is in
    let same : c.in-Some.live.id ≡ c.args.job = due_is_live c.self.inside.log.newest c.args.job is_due (told_job c.in-Some.live) live in
    let differ : nat_eq c.id.result c.args.job ≡ false = search rules in
    absurd (both_ways _ differ (eq-eqb c.id.result c.args.job (c.id.ensures ∙ same)))
