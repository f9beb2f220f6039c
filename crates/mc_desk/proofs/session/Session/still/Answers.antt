-- Where nothing is to be looked at, the frame drawn last is the desk's.
use Rattle.std.proofs.Common.{ap, subst, sym, ◌∙◌}
use Rattle.std.specs.Prelude.{not}
use Rattle.mc_desk.specs.Desks.{Seen, ShowsDesk, seen_of}
use Rattle.mc_desk.specs.Shown.{ShowsOverAny}
use Rattle.mc_desk.specs.Tallies.{Tally}
use Rattle.mc_desk.proofs.Showing.{looked_written}
use Rattle.mc_desk.proofs.session.Session.still.Goals as goal

pub returns-clause-shows : goal.returns-clause-shows
returns-clause-shows g c unshut =
    let inside = c.self.inside in
    let shown = c.self.invariant.desk.shown in
    let unclosed = ap (λ (d : Seen). d.tally.closed) c.self.view_is ∙ unshut in
    let whole = ap (λ (d : Seen). d.out.put.is_cut) c.self.view_is ∙ c.requires.uncut unshut in
    let looked = ap (λ (d : Seen). d.tally.due) c.self.view_is ∙ c.requires.looked in
    let drawn = shown.drawn unclosed whole ∙ ap not (looked_written inside.log.newest (sym (ap (λ (t : Tally). t.due) c.self.invariant.desk.written.tally) ∙ looked)) in
    let now : ShowsDesk (seen_of inside.log inside.ui inside.standing inside.dirty inside.terminal inside.taken inside.keys) =
    λ bytes known. subst (λ grid. ShowsOverAny bytes grid) (shown.current unclosed whole looked) (c.shown-shown.ensures.shows whole drawn bytes known) in
    subst ShowsDesk c.self.view_is now
