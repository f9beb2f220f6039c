-- A key is written down as it was worked, and what it asked for directly after it; its frame is on the terminal then.
use Rattle.std.proofs.Common.{rules, ◌≡◌, ◌≤◌, ◌∷◌, false, None, ap, sym, subst, ◌∙◌, arith}
use Rattle.session_entries.specs.declared.history.Event.TheVariants.{Key}
use Rattle.mc_ui.specs.Seekings.{is_seeking}
use Rattle.mc_desk.specs.Desks.{IsDesk, Seen, ShowsDesk, seen_of}
use Rattle.mc_desk.specs.Granting.{IsWorked}
use Rattle.mc_desk.specs.Sessions.{MayWork}
use Rattle.session_log.specs.Told.{waits_told}
use Rattle.mc_desk.specs.LiveRows.{rows_of}
use Rattle.mc_desk.specs.Outputs.{ShowsFrame}
use Rattle.mc_desk.specs.Redrawing.{asks_anew}
use Rattle.mc_ui.specs.Frames.{frame_of}
use Rattle.mc_desk.specs.declared.standing.Standing.{Standing}
use Rattle.session_log.specs.Logs.{entries_with_event}
use Rattle.mc_desk.specs.Standings.{after_deed, awaited_look, event_of}
use Rattle.mc_desk.specs.Tallies.{next_id}
use Rattle.mc_desk.proofs.Adding.{entry}
use Rattle.mc_desk.proofs.Carried.{none_unknown, unknown_due, unknown_sought}
use Rattle.mc_desk.proofs.Showing.{ended_uncut, fits_after, shows_drawn, waits_followed}
use Rattle.mc_desk.proofs.Worked.{desk_worked, may_carry_out}
use Rattle.mc_desk.proofs.session.Session.work_key.Goals as goal

pub invariant_of-self-2 : goal.invariant_of-self-2
invariant_of-self-2 g c =
    let inside = c.self.inside in
    let done = c.in-Ok-work.granted in
    let unclosed : inside.standing.closed ≡ false = ap (λ (d : Seen). d.tally.closed) c.self.view_is ∙ c.requires.unclosed in
    let unasked : inside.standing.quit ≡ false = ap (λ (d : Seen). d.quit) c.self.view_is ∙ c.requires.unasked in
    let looked : awaited_look inside.standing.due ≡ None = ap (λ (d : Seen). d.tally.due) c.self.view_is ∙ c.requires.looked in
    let sought : MayWork c.args.key inside.ui = subst (λ (d : Seen). MayWork c.args.key d.screen) (sym c.self.view_is) c.requires.sought in
    let count = c.faults-faults.result in
    let counted = c.faults-faults.ensures in
    let had = c.self.invariant.counted in
    let later = c.work.ensures.reads.later in
    let worked : IsWorked (g.T.ReadTree.contents inside.tree) c.in-Ok.rows (next_id inside.standing.last_id) c.args.now c.args.key inside.ui c.work.new.ui done.deed done.refusals =
    subst (λ n. IsWorked (g.T.ReadTree.contents inside.tree) c.in-Ok.rows n c.args.now c.args.key inside.ui c.work.new.ui done.deed done.refusals) c.next_id-next.ensures c.in-Ok-work.ensures.worked in
    let room : 2 ≤ c.note_after.new.self.spare = search rules in
    let asked : ShowsFrame (asks_anew c.args.key) (frame_of c.work.new.ui (rows_of c.carry_out-follows.new.standing.job (waits_told inside.log.newest))) c.carry_out-follows.result.drawn inside.terminal c.carry_out-follows.new.terminal =
    subst (λ b. ShowsFrame b (frame_of c.work.new.ui (rows_of c.carry_out-follows.new.standing.job (waits_told inside.log.newest))) c.carry_out-follows.result.drawn inside.terminal c.carry_out-follows.new.terminal) c.drawing_after.ensures c.carry_out-follows.ensures.shows in
    let shows : ShowsFrame (asks_anew c.args.key) (frame_of c.work.new.ui (rows_of (after_deed done.deed inside.standing).job (waits_told inside.log.newest))) c.carry_out-follows.result.drawn inside.terminal c.carry_out-follows.new.terminal =
    subst (λ (s : Standing). ShowsFrame (asks_anew c.args.key) (frame_of c.work.new.ui (rows_of s.job (waits_told inside.log.newest))) c.carry_out-follows.result.drawn inside.terminal c.carry_out-follows.new.terminal) c.carry_out-follows.ensures.done asked in
    record {
      desk = subst (λ s. IsDesk g.N.Tag.start g.N.Tag.opening (g.T.ReadTree.contents c.work.new.tree) g.N.Tag.tree_faults (seen_of c.note_after.new.self c.work.new.ui s inside.dirty c.carry_out-follows.new.terminal inside.taken inside.keys))
          (sym c.carry_out-follows.ensures.done)
          (desk_worked g.N.Tag.start g.N.Tag.opening (g.T.ReadTree.contents inside.tree) (g.T.ReadTree.contents c.work.new.tree) g.N.Tag.tree_faults inside.log c.note_after.new.self inside.ui c.work.new.ui inside.standing inside.dirty inside.terminal
          c.carry_out-follows.new.terminal inside.taken inside.keys count c.args.key c.args.now c.self.invariant.desk unclosed unasked looked sought c.work.ensures.reads.same (omega (arith, counted, had, later)) done.refusals
          (λ h. let risen = c.in-Ok-work.ensures.reads.fault h in omega (arith, counted, had, risen)) c.in-Ok-work.ensures.reads.called room c.in-Ok.rows c.in-Ok.ensures c.carry_out-follows.result.drawn done.deed worked
          (fits_after inside.terminal.display.grid c.carry_out-follows.new.terminal.display.grid inside.ui c.work.new.ui c.self.invariant.desk.shown.size c.carry_out-follows.ensures.shows.sized worked.size) shows
          (c.note_after.ensures.added ∙ (ap (λ f. entries_with_event inside.standing.calls count f c.note.new.self.newest) c.carry_out-follows.ensures.told
          ∙ ap (λ es. entries_with_event inside.standing.calls count (event_of done.deed inside.standing.job) es)
          (c.note.ensures.added ∙ ap (λ n. entry 0 inside.standing.calls count n (Key c.args.key c.args.now done.refusals false) ∷ inside.log.newest) c.shown.ensures.counted))));
      counted = search rules;
      spawner = c.self.invariant.spawner;
    }

pub carry_out-follows-requires-clause-may : goal.carry_out-follows-requires-clause-may
carry_out-follows-requires-clause-may g c =
    may_carry_out g.N.Tag.start g.N.Tag.opening (g.T.ReadTree.contents c.self.inside.tree) g.N.Tag.tree_faults _ c.self.invariant.desk c.in-Ok.rows c.in-Ok.ensures c.next_id-next.result c.in-Ok-work.granted.deed c.in-Ok-work.ensures.worked.can

pub after_draw-requires-clause-whole : goal.after_draw-requires-clause-whole
after_draw-requires-clause-whole g c = ended_uncut _ _ c.carry_out-follows.result.drawn c.self.inside.terminal c.carry_out-follows.new.terminal c.carry_out-follows.ensures.shows

pub returns-clause-shows : goal.returns-clause-shows
returns-clause-shows g c unclosed =
    let inside = c.self.inside in
    let standing = c.carry_out-follows.new.standing in
    let desk : Seen = seen_of c.note_after.new.self c.work.new.ui standing inside.dirty c.carry_out-follows.new.terminal inside.taken inside.keys in
    let same : c.after_draw.new.self ≡ desk = c.in_ok-after_draw.ensures.same in
    let whole : desk.out.put.is_cut ≡ false = sym (ap (λ (d : Seen). d.out.put.is_cut) same) ∙ c.in_ok-after_draw.ensures.whole in
    let trouble : waits_told c.note_after.new.self.newest ≡ waits_told inside.log.newest =
    ap waits_told (c.note_after.ensures.added ∙ ap (λ f. entries_with_event inside.standing.calls c.faults-faults.result f c.note.new.self.newest) c.carry_out-follows.ensures.told)
    ∙ (waits_followed inside.standing.calls c.faults-faults.result c.in-Ok-work.granted.deed inside.standing.job c.note.new.self.newest ∙ ap waits_told c.note.ensures.added) in
    let asked : ShowsFrame (asks_anew c.args.key) (frame_of c.work.new.ui (rows_of standing.job (waits_told inside.log.newest))) c.carry_out-follows.result.drawn inside.terminal c.carry_out-follows.new.terminal =
    subst (λ b. ShowsFrame b (frame_of c.work.new.ui (rows_of standing.job (waits_told inside.log.newest))) c.carry_out-follows.result.drawn inside.terminal c.carry_out-follows.new.terminal) c.drawing_after.ensures c.carry_out-follows.ensures.shows in
    subst ShowsDesk (sym same)
    (shows_drawn (asks_anew c.args.key) desk c.carry_out-follows.result.drawn inside.terminal
    (subst (λ t. ShowsFrame (asks_anew c.args.key) (frame_of c.work.new.ui (rows_of standing.job t)) c.carry_out-follows.result.drawn inside.terminal c.carry_out-follows.new.terminal) (sym trouble) asked) whole (c.shown.ensures.shows whole))

pub returns-clause-looked : goal.returns-clause-looked
returns-clause-looked g c unknown =
    let inside = c.self.inside in
    let looked : awaited_look inside.standing.due ≡ None = ap (λ (d : Seen). d.tally.due) c.self.view_is ∙ c.requires.looked in
    let unasked : inside.standing.quit ≡ false = ap (λ (d : Seen). d.quit) c.self.view_is ∙ c.requires.unasked in
    ap (λ (d : Seen). d.tally.due) c.in_ok-after_draw.ensures.same
    ∙ (ap (λ (s : Standing). awaited_look s.due) c.carry_out-follows.ensures.done
    ∙ (unknown_due _ c.in-Ok.rows c.next_id-next.result c.args.now c.args.key inside.ui c.work.new.ui c.in-Ok-work.granted.deed c.in-Ok-work.granted.refusals inside.standing unknown c.self.invariant.desk.settled c.in-Ok-work.ensures.worked looked unasked).0)

pub returns-clause-unasked : goal.returns-clause-unasked
returns-clause-unasked g c unknown =
    let inside = c.self.inside in
    let looked : awaited_look inside.standing.due ≡ None = ap (λ (d : Seen). d.tally.due) c.self.view_is ∙ c.requires.looked in
    let unasked : inside.standing.quit ≡ false = ap (λ (d : Seen). d.quit) c.self.view_is ∙ c.requires.unasked in
    ap (λ (d : Seen). d.quit) c.in_ok-after_draw.ensures.same
    ∙ (ap (λ (s : Standing). s.quit) c.carry_out-follows.ensures.done
    ∙ (unknown_due _ c.in-Ok.rows c.next_id-next.result c.args.now c.args.key inside.ui c.work.new.ui c.in-Ok-work.granted.deed c.in-Ok-work.granted.refusals inside.standing unknown c.self.invariant.desk.settled c.in-Ok-work.ensures.worked looked unasked).1)

pub returns-clause-sought : goal.returns-clause-sought
returns-clause-sought g c unknown =
    let may : MayWork c.args.key c.self.inside.ui = subst (λ (d : Seen). MayWork c.args.key d.screen) (sym c.self.view_is) c.requires.sought in
    let sought : is_seeking c.self.inside.ui ≡ false = none_unknown c.args.key c.self.inside.ui unknown may in
    ap (λ (d : Seen). is_seeking d.screen) c.in_ok-after_draw.ensures.same
    ∙ unknown_sought _ c.in-Ok.rows c.next_id-next.result c.args.now c.args.key c.self.inside.ui c.work.new.ui c.in-Ok-work.granted.deed c.in-Ok-work.granted.refusals unknown sought c.in-Ok-work.ensures.worked
