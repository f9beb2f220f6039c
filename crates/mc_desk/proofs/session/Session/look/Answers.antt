-- A look is written down as it was made.
use Rattle.std.proofs.Common.{rules, ◌≡◌, ◌≤◌, ◌∷◌, false, ℕ, Option, Some, IsSome, refl, ap, sym, ◌∙◌, subst, arith}
use Rattle.session_entries.specs.declared.history.Event.TheVariants.{Look}
use Rattle.session_log.specs.Told.{waits_told, news_left}
use Rattle.mc_desk.specs.LiveRows.{rows_of}
use Rattle.mc_desk.proofs.Adding.{entry}
use Rattle.mc_desk.specs.Outputs.{ShowsFrame}
use Rattle.mc_ui.specs.Frames.{frame_of}
use Rattle.mc_desk.specs.Standings.{awaited_look}
use Rattle.mc_desk.proofs.Looked.{looked_whole, open_due}
use Rattle.mc_desk.specs.declared.standing.Standing.{Standing}
use Rattle.mc_desk.specs.Desks.{Seen, ShowsDesk, seen_of}
use Rattle.mc_desk.proofs.Showing.{ended_uncut, fits_after, shows_drawn}
use Rattle.mc_desk.proofs.session.Session.look.Goals as goal

pub invariant_of-self-2 : goal.invariant_of-self-2
invariant_of-self-2 g c =
    let inside = c.self.inside in
    let due : awaited_look inside.standing.due ≡ Some c.in-Some.field-0 = ap (λ (d : Seen). d.tally.due) c.self.view_is ∙ sym c.in-Some.ensures in
    let opened = open_due g.N.Tag.start g.N.Tag.opening (g.T.ReadTree.contents inside.tree) g.N.Tag.tree_faults _ c.in-Some.field-0 c.self.invariant.desk due in
    let some : IsSome (awaited_look inside.standing.due) = subst (λ (o : Option ℕ). IsSome o) (sym due) refl in
    let count = c.faults.result in
    let counted = c.faults.ensures in
    let had = c.self.invariant.counted in
    let later = c.look.ensures.reads.later in
    let room : 2 ≤ c.note.new.self.spare = search rules in
    record {
      desk = looked_whole g.N.Tag.start g.N.Tag.opening (g.T.ReadTree.contents inside.tree) (g.T.ReadTree.contents c.look.new.tree) g.N.Tag.tree_faults _ c.note.new.self _ c.look.new.self inside.standing c.look_taken.new.self _ inside.terminal c.show-drawn.new.self _ _ count
          c.self.invariant.desk opened.0 opened.1 some c.look.ensures.reads.same (omega (arith, counted, had, later)) c.args.now c.in-Ok-look.refusals c.in-Ok-rows_of.rows c.in-Ok.news
          (c.in-Ok-rows_of.ensures ∙ ap (λ es. rows_of inside.standing.job (waits_told es)) c.reserve.ensures.same) (c.in-Ok.ensures ∙ ap news_left c.reserve.ensures.same)
          (λ h. let risen = c.in-Ok-look.ensures.reads.fault h in omega (arith, counted, had, risen)) c.in-Ok-look.ensures.reads.called c.in-Ok-look.ensures.leads c.look.ensures.settled
          (c.note.ensures.added ∙ (ap (λ es. entry 0 inside.standing.calls count c.shown.result (Look c.in-Ok-look.refusals) ∷ es) c.reserve.ensures.same
          ∙ ap (λ n. entry 0 inside.standing.calls count n (Look c.in-Ok-look.refusals) ∷ inside.log.newest) c.shown.ensures.counted)) room c.look_taken.ensures c.show-drawn.result
          (fits_after inside.terminal.display.grid c.show-drawn.new.self.display.grid inside.ui c.look.new.self c.self.invariant.desk.shown.size c.show-drawn.ensures.shows.sized c.look.ensures.size)
          (subst (λ es. ShowsFrame false (frame_of c.look.new.self (rows_of inside.standing.job (waits_told es))) c.show-drawn.result inside.terminal c.show-drawn.new.self) c.reserve.ensures.same c.show-drawn.ensures.shows);
      counted = search rules;
      spawner = c.self.invariant.spawner;
    }

pub show-drawn-requires-clause-uncut : goal.show-drawn-requires-clause-uncut
show-drawn-requires-clause-uncut g c =
    let inside = c.self.inside in
    let due : awaited_look inside.standing.due ≡ Some c.in-Some.field-0 = ap (λ (d : Seen). d.tally.due) c.self.view_is ∙ sym c.in-Some.ensures in
    let opened = open_due g.N.Tag.start g.N.Tag.opening (g.T.ReadTree.contents inside.tree) g.N.Tag.tree_faults _ c.in-Some.field-0 c.self.invariant.desk due in
    ap (λ (d : Seen). d.out.put.is_cut) c.self.view_is ∙ c.requires.uncut (sym (ap (λ (d : Seen). d.tally.closed) c.self.view_is) ∙ opened.0)

pub after_draw-requires-clause-whole : goal.after_draw-requires-clause-whole
after_draw-requires-clause-whole g c = ended_uncut false _ c.show-drawn.result c.self.inside.terminal c.show-drawn.new.self c.show-drawn.ensures.shows

pub returns-clause-second : goal.returns-clause-second
returns-clause-second g c some = ap (λ (d : Seen). d.screen.second) c.in_ok-after_draw.ensures.same ∙ c.in-Ok-look.ensures.second

pub returns-clause-shows : goal.returns-clause-shows
returns-clause-shows g c unclosed =
    let inside = c.self.inside in
    let standing = c.look_taken.new.self in
    let desk : Seen = seen_of c.note.new.self c.look.new.self standing inside.dirty c.show-drawn.new.self inside.taken inside.keys in
    let same : c.after_draw.new.self ≡ desk = c.in_ok-after_draw.ensures.same in
    let whole : desk.out.put.is_cut ≡ false = sym (ap (λ (d : Seen). d.out.put.is_cut) same) ∙ c.in_ok-after_draw.ensures.whole in
    let job : standing.job ≡ inside.standing.job = ap (λ (s : Standing). s.job) c.look_taken.ensures in
    let trouble : waits_told c.note.new.self.newest ≡ waits_told c.reserve.new.self.newest = ap waits_told c.note.ensures.added in
    subst ShowsDesk (sym same)
    (shows_drawn false desk c.show-drawn.result inside.terminal
    (subst (λ j. ShowsFrame false (frame_of c.look.new.self (rows_of j (waits_told c.note.new.self.newest))) c.show-drawn.result inside.terminal c.show-drawn.new.self) (sym job)
    (subst (λ t. ShowsFrame false (frame_of c.look.new.self (rows_of inside.standing.job t)) c.show-drawn.result inside.terminal c.show-drawn.new.self) (sym trouble) c.show-drawn.ensures.shows)) whole (c.shown.ensures.shows whole))
