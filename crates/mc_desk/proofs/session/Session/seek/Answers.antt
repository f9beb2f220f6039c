-- The steps of a search are written down as they were made.
use Rattle.std.proofs.Common.{rules, ◌≡◌, ◌≤◌, ◌<◌, ◌∷◌, true, false, None, ap, sym, ◌∙◌, subst, arith}
use Rattle.session_entries.specs.declared.history.Entry.{Entry}
use Rattle.session_entries.specs.declared.history.Event.TheVariants.{Sought}
use Rattle.session_log.specs.Told.{waits_told}
use Rattle.mc_desk.specs.LiveRows.{rows_of}
use Rattle.mc_desk.specs.Outputs.{ShowsFrame}
use Rattle.mc_desk.specs.Searches.{HasSought, steps_ahead}
use Rattle.mc_desk.specs.Standings.{awaited_look}
use Rattle.mc_desk.specs.Desks.{Seen, seeks, seen_of}
use Rattle.mc_ui.specs.Frames.{frame_of}
use Rattle.mc_desk.proofs.Adding.{entry}
use Rattle.mc_desk.proofs.Searched.{of_ok, seeks_open, sought_whole}
use Rattle.mc_desk.proofs.Showing.{fits_after}
use Rattle.mc_desk.proofs.session.Session.seek.Goals as goal

pub invariant_of-self-2 : goal.invariant_of-self-2
invariant_of-self-2 g c =
    let inside = c.self.inside in
    let seeking : seeks c.args.self.now ≡ true = search rules in
    let goes = seeks_open (seen_of inside.log inside.ui inside.standing inside.dirty inside.terminal inside.taken inside.keys) (ap seeks c.self.view_is ∙ seeking) in
    let looked : awaited_look inside.standing.due ≡ None = ap (λ (d : Seen). d.tally.due) c.self.view_is ∙ c.requires.looked in
    let from = g.T.ReadTree.fault_count inside.tree in
    let count = c.faults-faults.result in
    let counted = c.faults-faults.ensures in
    let later = c.seek_and_show-sought.ensures.later in
    let room : 2 ≤ c.note.new.self.spare = search rules in
    record {
      desk = sought_whole g.N.Tag.start g.N.Tag.opening (g.T.ReadTree.contents inside.tree) (g.T.ReadTree.contents c.seek_and_show-sought.new.tree) g.N.Tag.tree_faults _ c.note.new.self _ c.seek_and_show-sought.new.ui inside.standing _ inside.terminal
          c.seek_and_show-sought.new.terminal _ _ from count c.self.invariant.desk goes.0 goes.1 looked goes.2 c.seek_and_show-sought.ensures.same c.self.invariant.counted (omega (arith, counted, later))
          (subst (λ n. HasSought (g.T.ReadTree.contents inside.tree) from n inside.ui c.seek_and_show-sought.new.ui) (sym counted) c.seek_and_show-sought.ensures.sought) c.seek_and_show-sought.ensures.settled
          (c.note.ensures.added ∙ (ap (λ (e : Entry). e ∷ c.reserve.new.self.newest) c.sought_entry-entry.ensures ∙ ap (λ es. entry 0 inside.standing.calls count c.shown.result Sought ∷ es) c.reserve.ensures.same
          ∙ ap (λ n. entry 0 inside.standing.calls count n Sought ∷ inside.log.newest) c.shown.ensures.counted)) room c.seek_and_show-sought.result.drawn
          (fits_after inside.terminal.display.grid c.seek_and_show-sought.new.terminal.display.grid inside.ui c.seek_and_show-sought.new.ui c.self.invariant.desk.shown.size c.seek_and_show-sought.ensures.shows.sized c.seek_and_show-sought.ensures.size)
          (subst (λ es. ShowsFrame false (frame_of c.seek_and_show-sought.new.ui (rows_of inside.standing.job (waits_told es))) c.seek_and_show-sought.result.drawn inside.terminal c.seek_and_show-sought.new.terminal) c.reserve.ensures.same c.seek_and_show-sought.ensures.shows);
      counted = search rules;
      spawner = c.self.invariant.spawner;
    }

pub returns-clause-nearer : goal.returns-clause-nearer
returns-clause-nearer g c seeking =
    let inside = c.self.inside in
    let goes = seeks_open (seen_of inside.log inside.ui inside.standing inside.dirty inside.terminal inside.taken inside.keys) (ap seeks c.self.view_is ∙ seeking) in
    let made = of_ok c.drawn_behind.result _ c.in_ok-after_draw.ensures.drawn c.drawn_behind.ensures.sought in
    subst (λ s. steps_ahead s < steps_ahead c.args.self.now.screen) (sym (ap (λ (d : Seen). d.screen) c.in_ok-after_draw.ensures.same))
    (subst (λ (d : Seen). steps_ahead c.seek_and_show-sought.new.ui < steps_ahead d.screen) c.self.view_is (of_ok c.seek_and_show-sought.result.sought _ made c.seek_and_show-sought.ensures.falls))

pub seek_and_show-sought-requires-clause-seeking : goal.seek_and_show-sought-requires-clause-seeking
seek_and_show-sought-requires-clause-seeking g c =
    let inside = c.self.inside in
    let seeking : seeks c.args.self.now ≡ true = search rules in
    let goes = seeks_open (seen_of inside.log inside.ui inside.standing inside.dirty inside.terminal inside.taken inside.keys) (ap seeks c.self.view_is ∙ seeking) in
    goes.2

pub seek_and_show-sought-requires-clause-uncut : goal.seek_and_show-sought-requires-clause-uncut
seek_and_show-sought-requires-clause-uncut g c =
    let inside = c.self.inside in
    let seeking : seeks c.args.self.now ≡ true = search rules in
    let goes = seeks_open (seen_of inside.log inside.ui inside.standing inside.dirty inside.terminal inside.taken inside.keys) (ap seeks c.self.view_is ∙ seeking) in
    ap (λ (d : Seen). d.out.put.is_cut) c.self.view_is ∙ c.requires.uncut (sym (ap (λ (d : Seen). d.tally.closed) c.self.view_is) ∙ goes.0)
