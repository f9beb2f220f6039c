-- A session is a trace of its tree's calls.
use Rattle.std.proofs.Common.{reverse, ap, sym, subst, ◌≡◌, ◌∙◌, None}
use Rattle.session_entries.specs.SourcesLeft.{AreInTurn}
use Rattle.laws_sessions.specs.Traces.{IsTracedTo, Stand, at_rest}
use Rattle.mc_desk.specs.Sessions.{IsSession, SessionState}
use Rattle.mc_desk.specs.Desks.{Seen, stand_with, with_end}
use Rattle.mc_desk.specs.Outputs.{Output}
use Rattle.mc_desk.specs.DeskDevices.{HasGiven, Put, put_since}
use Rattle.mc_desk.proofs.Adding.{end_noted}
use Rattle.mc_desk.proofs.Keeping.{session_in_turn, session_traced_to}
use Rattle.mc_desk.proofs.session.Session.end.Goals as goal

pub returns-clause-traced : goal.returns-clause-traced
returns-clause-traced g c =
    let desk = c.session.inside in
    let none : desk.standing.job ≡ None = ap (λ (d : Seen). d.job) c.session.view_is ∙ c.work_off.ensures.idle in
    let state : Stand → Put → SessionState = λ stand put. record { screen = with_end desk.standing.quit desk.ui; stand = stand; contents = g.T.ReadTree.contents desk.tree; put = put } in
    subst (λ es. IsTracedTo g.N.Tag.opening (g.T.ReadTree.contents desk.tree) es) (sym c.into_history.ensures.entries)
    (session_traced_to g.N.Tag.start g.N.Tag.opening g.N.Tag.tree_faults desk.log.newest (with_end desk.standing.quit desk.ui) desk.dirty (g.T.ReadTree.contents desk.tree) desk.terminal.put
    (subst (λ j. IsSession g.N.Tag.start g.N.Tag.opening g.N.Tag.tree_faults desk.log.newest (state (stand_with j desk.dirty) desk.terminal.put)) none
    c.session.invariant.desk.written.session))

pub returns-clause-session : goal.returns-clause-session
returns-clause-session g c =
    let desk = c.session.inside in
    let none : desk.standing.job ≡ None = ap (λ (d : Seen). d.job) c.session.view_is ∙ c.work_off.ensures.idle in
    let state : Stand → Put → SessionState = λ stand put. record { screen = with_end desk.standing.quit desk.ui; stand = stand; contents = g.T.ReadTree.contents desk.tree; put = put } in
    let bytes = put_since g.N.Tag.given (g.S.Sink.given c.into_parts-screen.result.0) in
    let out : desk.terminal ≡ c.args.self.out = ap (λ (d : Seen). d.out) c.session.view_is ∙ (c.work_off.ensures.out ∙ c.close.ensures.out) in
    let put : desk.terminal.put ≡ (let p : Put = record { bytes = bytes; is_cut = c.args.self.out.put.is_cut } in p) =
    ap (λ b. let p : Put = record { bytes = b; is_cut = desk.terminal.put.is_cut } in p) c.into_parts-screen.ensures.put
    ∙ ap (λ (o : Output). let p : Put = record { bytes = bytes; is_cut = o.put.is_cut } in p) out in (
      with_end desk.standing.quit desk.ui,
      desk.dirty,
      end_noted desk.standing.quit desk.ui c.session.invariant.desk.settled,
      subst (λ p. IsSession g.N.Tag.start g.N.Tag.opening g.N.Tag.tree_faults (reverse c.into_history.result.entries) (state (at_rest desk.dirty) p)) put
          (subst (λ es. IsSession g.N.Tag.start g.N.Tag.opening g.N.Tag.tree_faults es (state (at_rest desk.dirty) desk.terminal.put)) (sym c.into_history.ensures.entries)
          (subst (λ j. IsSession g.N.Tag.start g.N.Tag.opening g.N.Tag.tree_faults desk.log.newest (state (stand_with j desk.dirty) desk.terminal.put)) none
          c.session.invariant.desk.written.session)),
    )

pub returns-clause-turns : goal.returns-clause-turns
returns-clause-turns g c =
    subst AreInTurn (sym c.into_history.ensures.entries) (session_in_turn g.N.Tag.start g.N.Tag.opening g.N.Tag.tree_faults c.session.inside.log.newest _ c.session.invariant.desk.written.session)

pub returns-clause-given : goal.returns-clause-given
returns-clause-given g c =
    subst (λ put. HasGiven g.N.Tag.given put (g.S.Sink.given c.into_parts-screen.result.0)) c.into_parts-screen.ensures.put c.into_parts-screen.ensures.given
