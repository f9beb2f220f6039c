-- A step is written down as it was made; a closed desk's job never waits.
use Rattle.std.proofs.Common.{rules, Result, Ok, Err, ◌≡◌, ◌+◌, ◌^◌, ◌≤◌, ◌||◌, None, Some, refl, ap, sym, ◌∙◌, ◌∷◌, ◌<◌, length, min, subst, true, false, arith}
use Rattle.std.specs.Prelude.{OnOk, is_err}
use Rattle.std.specs.Option.{option_map}
use Rattle.std.proofs.lemmas.Bool.{both_ways, true≢false}
use Rattle.job_reports.specs.declared.report.Did.TheVariants.{Ended}
use Rattle.job_reports.specs.declared.report.Ending.TheVariants.{NoMemory}
use Rattle.session_entries.specs.declared.history.Event.TheVariants.{Step}
use Rattle.copy_move.specs.Jobs.{waits_on}
use Rattle.copy_move.specs.Told.{told_job}
use Rattle.mc_desk.specs.Tallies.{Tally}
use Rattle.mc_desk.specs.declared.standing.Standing.{Standing}
use Rattle.mc_desk.specs.Standings.{awaited_look}
use Rattle.mc_desk.specs.Desks.{MovesDirty, Seen, rank_of, seen_of}
use Rattle.mc_desk.proofs.Adding.{entry}
use Rattle.job_sources.proofs.Following.{step_follows}
use Rattle.mc_desk.proofs.Went.{desk_went, went_moves, went_nearer}
use Rattle.mc_desk.proofs.Whole.{closed_goes_on, desk_gave_up, room_left}
use Rattle.mc_desk.proofs.session.Session.step.Goals as goal

pub returns-then-waits-clause-nearer : goal.returns-then-waits-clause-nearer
returns-then-waits-clause-nearer g c closed live =
    let is : c.self.inside.standing.job ≡ Some c.in-Some.job = sym c.take.ensures.value ∙ c.in-Some.is in
    let waits : waits_on c.in-Some.job.course ≡ true = sym c.waits.ensures ∙ c.if-waits.true in
    absurd (both_ways _ (closed_goes_on _ _ _ _ _ c.in-Some.job c.self.invariant.desk (ap (λ (d : Seen). d.tally.closed) c.self.view_is ∙ closed) is) waits)

-- each source that the step leaves can be worked
pub go_on-what-requires : goal.go_on-what-requires
go_on-what-requires g c = record { follows = step_follows _ c.in-Some.job c.step-made.new.self _ _ _ _ _ _ _ c.step-made.result.did c.step-made.ensures.steps }

pub invariant_of-self-then-is_err : goal.invariant_of-self-then-is_err
invariant_of-self-then-is_err g c =
    let inside = c.self.inside in
    let is : inside.standing.job ≡ Some c.in-Some.job = sym c.take.ensures.value ∙ c.in-Some.is in
    let ready : waits_on c.in-Some.job.course ≡ false = sym c.waits.ensures ∙ c.if-waits.false in
    let none : c.take.new.self ≡ None = c.take.ensures.after in
    let count = c.faults.result in
    let counted = c.faults.ensures in
    let had = c.self.invariant.counted in
    record {
      desk = desk_gave_up _ _ _ _ _ _ _ c.args.seat count c.in-Some.job c.give_up.result refl c.requires.main c.self.invariant.desk is ready c.give_up.ensures (omega (arith, counted, had))
          (c.note.ensures.added ∙ (ap (λ n. entry c.args.seat inside.standing.calls count 0 (Step n c.ended_without_memory.result) ∷ c.reserve.new.self.newest) c.id-id.ensures
          ∙ (ap (λ d. entry c.args.seat inside.standing.calls count 0 (Step c.in-Some.job.id d) ∷ c.reserve.new.self.newest) c.ended_without_memory.ensures
          ∙ ap (λ es. entry c.args.seat inside.standing.calls count 0 (Step c.in-Some.job.id (Ended NoMemory c.give_up.result)) ∷ es) c.reserve.ensures.same)))
          none
          (ap (λ j. let t : Tally = record { job = option_map told_job j; last = inside.standing.last_id; has_unseen_end = true; closed = inside.standing.closed; due = awaited_look inside.standing.due; lost = inside.standing.lost; calls = inside.standing.calls } in t) none)
          refl refl (room_left inside.standing.closed inside.standing.job c.in-Some.job inside.log.spare c.reserve.new.self.spare c.note.new.self.spare is c.self.invariant.desk.room c.reserve.ensures.kept c.note.ensures.room) refl c.clear.ensures refl;
      counted = search rules;
      spawner = c.self.invariant.spawner;
    }

-- what holds where a call wasn't refused
not_refused : {T E P : Type 0} (r : Result T E) → is_err r ≡ false → OnOk r P → P
not_refused (Ok x) done on = on
not_refused (Err e) done on = absurd (true≢false done)

pub invariant_of-self-2 : goal.invariant_of-self-2
invariant_of-self-2 g c =
    let inside = c.self.inside in
    let is : inside.standing.job ≡ Some c.in-Some.job = sym c.take.ensures.value ∙ c.in-Some.is in
    let made = c.step-made.result in
    let went = c.go_on-what.result in
    let total = c.saturating_add-calls.result in
    let count = c.faults-2.result in
    let counted = c.faults-2.ensures in
    let more : c.note-2.new.self.newest ≡ entry c.args.seat total count 0 went.what ∷ inside.log.newest =
    c.note-2.ensures.added ∙ ap (λ es. entry c.args.seat total count 0 went.what ∷ es) c.reserve.ensures.same in
    let granted : is_err c.reserve.result ≡ false = sym c.is_err.ensures.value ∙ c.if-is_err.false in
    let had : 3 ≤ c.reserve.new.self.spare = not_refused c.reserve.result granted c.reserve.ensures.room in
    let kept = c.note-2.ensures.room in
    let room : 2 ≤ c.note-2.new.self.spare = omega (arith, had, kept) in
    let bounded : length c.reserve.new.self.newest + 3 ≤ 2 ^ 56 = not_refused c.reserve.result granted c.reserve.ensures.bounded in
    let fits : length inside.log.newest + 3 ≤ 2 ^ 56 = subst (λ es. length es + 3 ≤ 2 ^ 56) c.reserve.ensures.same bounded in
    record {
      desk = desk_went g.N.Tag.start g.N.Tag.opening (g.T.ReadTree.contents inside.tree) (g.T.ReadTree.contents c.step-made.new.tree) g.N.Tag.tree_faults _ _ c.args.seat count made.calls total _ _ c.in-Some.job c.step-made.new.self made.did went
          c.requires.main c.self.invariant.desk is c.step-made.ensures.steps c.self.invariant.counted (omega (arith, counted)) (sym c.waits.ensures ∙ c.if-waits.false) c.go_on-what.ensures.goes fits c.saturating_add-calls.ensures
          more (c.put_back-2.ensures ∙ c.unless_waiting-kept.ensures)
          (ap (λ u. let t : Tally = record { job = option_map told_job c.put_back-2.new.place; last = inside.standing.last_id; has_unseen_end = u; closed = inside.standing.closed; due = awaited_look inside.standing.due; lost = inside.standing.lost; calls = total } in t)
          (c.end_waits-self-inside.ensures ∙ ap (λ b. b || inside.standing.has_unseen_end) c.has_ended-ended.ensures))
          refl refl room refl;
      counted = search rules;
      spawner = c.self.invariant.spawner;
    }

pub returns-clause-dirty : goal.returns-clause-dirty
returns-clause-dirty g c =
    let inside = c.self.inside in
    let is : inside.standing.job ≡ Some c.in-Some.job = sym c.take.ensures.value ∙ c.in-Some.is in
    let made = c.step-made.result in
    let went = c.go_on-what.result in
    let total = c.saturating_add-calls.result in
    let count = c.faults-2.result in
    let standing : Standing = record inside.standing { job = c.put_back-2.new.place; later = c.go_on-what.new.later; calls = total; has_unseen_end = c.end_waits-self-inside.result } in
    let new : Seen = seen_of c.note-2.new.self inside.ui standing c.step-made.new.dirty inside.terminal inside.taken inside.keys in
    let more : c.note-2.new.self.newest ≡ entry c.args.seat total count 0 went.what ∷ inside.log.newest =
    c.note-2.ensures.added ∙ ap (λ es. entry c.args.seat total count 0 went.what ∷ es) c.reserve.ensures.same in
    subst (λ (d : Seen). MovesDirty d.job new.newest d.dirty new.dirty) c.self.view_is (went_moves g.N.Tag.start g.N.Tag.opening (g.T.ReadTree.contents inside.tree) (g.T.ReadTree.contents c.step-made.new.tree) g.N.Tag.tree_faults _ new c.args.seat count made.calls total _ _ c.in-Some.job c.step-made.new.self made.did went
    c.requires.main c.self.invariant.desk is c.step-made.ensures.steps c.self.invariant.counted (let n = c.faults-2.ensures in omega (arith, n)) (sym c.waits.ensures ∙ c.if-waits.false) c.go_on-what.ensures.goes more)

pub returns-clause-nearer : goal.returns-clause-nearer
returns-clause-nearer g c closed live =
    let inside = c.self.inside in
    let is : inside.standing.job ≡ Some c.in-Some.job = sym c.take.ensures.value ∙ c.in-Some.is in
    let made = c.step-made.result in
    let went = c.go_on-what.result in
    let total = c.saturating_add-calls.result in
    let count = c.faults-2.result in
    let standing : Standing = record inside.standing { job = c.put_back-2.new.place; later = c.go_on-what.new.later; calls = total; has_unseen_end = c.end_waits-self-inside.result } in
    let new : Seen = seen_of c.note-2.new.self inside.ui standing c.step-made.new.dirty inside.terminal inside.taken inside.keys in
    subst (λ (d : Seen). rank_of new < rank_of d) c.self.view_is (went_nearer g.N.Tag.start g.N.Tag.opening (g.T.ReadTree.contents inside.tree) (g.T.ReadTree.contents c.step-made.new.tree) g.N.Tag.tree_faults _ new c.args.seat count made.calls total _ _ c.in-Some.job c.step-made.new.self made.did went
    c.requires.main c.self.invariant.desk is c.step-made.ensures.steps c.self.invariant.counted (let n = c.faults-2.ensures in omega (arith, n)) (sym c.waits.ensures ∙ c.if-waits.false) c.go_on-what.ensures.goes (c.put_back-2.ensures ∙ c.unless_waiting-kept.ensures))

pub returns-clause-worked : goal.returns-clause-worked
returns-clause-worked g c ready =
    let inside = c.self.inside in
    let is : inside.standing.job ≡ Some c.in-Some.job = sym c.take.ensures.value ∙ c.in-Some.is in
    let made = c.step-made.result in
    let went = c.go_on-what.result in
    let total = c.saturating_add-calls.result in
    let count = c.faults-2.result in
    let standing : Standing = record inside.standing { job = c.put_back-2.new.place; later = c.go_on-what.new.later; calls = total; has_unseen_end = c.end_waits-self-inside.result } in
    let new : Seen = seen_of c.note-2.new.self inside.ui standing c.step-made.new.dirty inside.terminal inside.taken inside.keys in
    subst (λ (d : Seen). rank_of new < rank_of d) c.self.view_is (went_nearer g.N.Tag.start g.N.Tag.opening (g.T.ReadTree.contents inside.tree) (g.T.ReadTree.contents c.step-made.new.tree) g.N.Tag.tree_faults _ new c.args.seat count made.calls total _ _ c.in-Some.job c.step-made.new.self made.did went
    c.requires.main c.self.invariant.desk is c.step-made.ensures.steps c.self.invariant.counted (let n = c.faults-2.ensures in omega (arith, n)) (sym c.waits.ensures ∙ c.if-waits.false) c.go_on-what.ensures.goes (c.put_back-2.ensures ∙ c.unless_waiting-kept.ensures))
