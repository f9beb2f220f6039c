-- The key is written down as lost, and the desk closed.
use Rattle.std.proofs.Common.{rules, ◌≡◌, ◌≤◌, ◌∷◌, false, true, None, refl, ap, sym, subst, ◌∙◌, arith}
use Rattle.session_entries.specs.declared.history.Entry.{Entry}
use Rattle.session_entries.specs.declared.history.Event.TheVariants.{Closed, Key}
use Rattle.mc_desk.specs.Sessions.{MayWork}
use Rattle.mc_desk.specs.Desks.{Seen}
use Rattle.session_log.specs.Logs.{plain_entry}
use Rattle.mc_desk.specs.Standings.{awaited_look}
use Rattle.mc_desk.proofs.Adding.{entry}
use Rattle.mc_desk.proofs.Closing.{lost_whole}
use Rattle.mc_desk.proofs.session.Session.lose_key.Goals as goal

pub invariant_of-self : goal.invariant_of-self
invariant_of-self g c =
    let inside = c.self.inside in
    let unclosed : inside.standing.closed ≡ false = ap (λ (d : Seen). d.tally.closed) c.self.view_is ∙ c.requires.unclosed in
    let unasked : inside.standing.quit ≡ false = ap (λ (d : Seen). d.quit) c.self.view_is ∙ c.requires.unasked in
    let looked : awaited_look inside.standing.due ≡ None = ap (λ (d : Seen). d.tally.due) c.self.view_is ∙ c.requires.looked in
    let sought : MayWork c.args.key inside.ui = subst (λ (d : Seen). MayWork c.args.key d.screen) (sym c.self.view_is) c.requires.sought in
    let uncut : inside.terminal.put.is_cut ≡ false = ap (λ (d : Seen). d.out.put.is_cut) c.self.view_is ∙ c.requires.uncut in
    let count = c.faults-faults.result in
    let counted = c.faults-faults.ensures in
    let had = c.self.invariant.counted in
    let room : 1 ≤ c.note-2.new.self.spare = search rules in
    record {
      desk = lost_whole _ _ _ _ _ c.note-2.new.self _ inside.standing c.close.new.self _ _ _ _ count c.self.invariant.desk unclosed (omega (arith, counted, had)) c.args.key c.args.now c.shown.result unasked looked sought
          (c.note-2.ensures.added ∙ (ap (λ (e : Entry). e ∷ c.note.new.self.newest) c.plain_entry.ensures
          ∙ ap (λ es. plain_entry inside.standing.calls count Closed ∷ es) (c.note.ensures.added ∙ ap (λ rs. entry 0 inside.standing.calls count c.shown.result (Key c.args.key c.args.now rs true) ∷ inside.log.newest) c.new.ensures.items)))
          room c.close.ensures (record { same = refl; uncut = uncut; counted = λ bytes known. c.shown.ensures.counted ∙ c.shown.ensures.all uncut bytes known });
      counted = search rules;
      spawner = c.self.invariant.spawner;
    }
