-- A step of a job, however the job goes on then, leaves a whole desk.
use Rattle.std.proofs.Common.{◌≡◌, ℕ, ◌+◌, ◌-◌, ◌^◌, ◌<◌, ◌≤◌, min, Bool, true, false, ◌||◌, ◌⊎◌, List, [], ◌∷◌, length, refl, sym, ◌∙◌, ap, subst, inl, inr, Option, Some, None, arith}
use Rattle.std.specs.Prelude.{if◌then◌else◌}
use Rattle.std.specs.Option.{is_none, option_map}
use Rattle.mc_text.specs.Routes.{Route}
use Rattle.tree_trait.specs.Change.{CallLog}
use Rattle.job_reports.specs.declared.job.Job.{Job}
use Rattle.job_reports.specs.declared.report.Did.{Did}
use Rattle.job_reports.specs.declared.report.Did.TheVariants.{Ended}
use Rattle.job_reports.specs.declared.report.Ending.TheVariants.{Finished, NoMemory}
use Rattle.job_reports.specs.Reports.{ends}
use Rattle.session_entries.specs.declared.history.Event.TheVariants.{Next, Step}
use Rattle.copy_move.specs.Jobs.{Running, part_of, waits_on}
use Rattle.copy_move.specs.JobStepReports.{RunStep, step_made}
use Rattle.copy_move.proofs.Finishing.{Finishes}
use Rattle.copy_move.proofs.Merging.{merge_stays}
use Rattle.copy_move.specs.Told.{if_closed, told_job}
use Rattle.laws_sessions.specs.Traces.{IsUnclaimed}
use Rattle.mc_desk.specs.declared.starts.Start.{Start}
use Rattle.job_sources.specs.declared.turning.Stepped.{Stepped}
use Rattle.mc_desk.specs.Desks.{IsDesk, MovesDirty, Seen, rank_of}
use Rattle.mc_desk.specs.Tallies.{Tally}
use Rattle.mc_desk.specs.KeysAndFaults.{faults_in, keys_of}
use Rattle.job_sources.specs.Turning.{GoesOn, finishes, merges, rank_left}
use Rattle.mc_desk.proofs.Adding.{entry}
use Rattle.mc_desk.proofs.Moving.{run_moves}
use Rattle.job_sources.proofs.Nearer.{finish_so, goes_nearer, merge_so, step_number}
use Rattle.mc_desk.proofs.Ordered.{Never, live_never}
use Rattle.mc_desk.proofs.Turned.{desk_short, desk_turned, finished}
use Rattle.mc_desk.proofs.Whole.{desk_stepped, room_two}

-- a step types no key
pub went_keys : (job : Running) (did : Did) (calls : ℕ) (left after : List Job) (stepped : Stepped) → GoesOn job did calls left stepped after → keys_of stepped.what ≡ []
went_keys job did calls left after stepped (inl (r, last)) = ap keys_of r.told
went_keys job did calls left after stepped (inr (inl (h, source, left_is, t))) = ap keys_of t.told
went_keys job did calls left after stepped (inr (inr (h, none, r))) = ap keys_of r.told

none_unless : (ended : Bool) (job : Running) → is_none (if ended then None else Some job) ≡ ended
none_unless true job = refl
none_unless false job = refl

closed_none : (closed : Bool) → if_closed closed None ≡ None
closed_none true = refl
closed_none false = refl

module _ (start : Option Start) (opening contents contents_after : Option CallLog) (faults : ℕ) (old new : Seen) (seat count made total before after : ℕ) (live stepped : Running) (did : Did) (went : Stepped) (main : seat ≡ 0)
    (desk : IsDesk start opening contents faults old) (is : old.job ≡ Some live) (steps : RunStep IsUnclaimed (step_made live stepped did made old.dirty new.dirty contents contents_after before after))
    (had : faults_in faults old.newest ≤ before) (now : after ≤ count) (ready : waits_on live.course ≡ false) (goes : GoesOn stepped did made old.later went new.later) where
  number : stepped.id ≡ live.id
  number = step_number IsUnclaimed live stepped did made old.dirty new.dirty contents contents_after before after steps

  finishing : (part : Option Route) → did ≡ Ended Finished part → RunStep IsUnclaimed (step_made live stepped (Ended Finished part) made old.dirty new.dirty contents contents_after before after)
  finishing part same = subst (λ d. RunStep IsUnclaimed (step_made live stepped d made old.dirty new.dirty contents contents_after before after)) same steps

  unknown : contents ≡ None → contents_after ≡ None
  unknown = by steps
    where
      by : RunStep IsUnclaimed (step_made live stepped did made old.dirty new.dirty contents contents_after before after) → contents ≡ None → contents_after ≡ None
      by (inl o) = o.own.unknown
      by (inr s) = s.unknown

  rises : before ≤ after
  rises = by steps
    where
      by : RunStep IsUnclaimed (step_made live stepped did made old.dirty new.dirty contents contents_after before after) → before ≤ after
      by (inl o) = o.own.later
      by (inr s) = s.later

  -- a source that is finished, and a folder that is merged, leave the dirty folders as they are, and all that the next source needs
  finishes_so : finishes did ≡ true → (part : Option Route) × Finishes live stepped part old.dirty new.dirty contents contents_after
  finishes_so h = (let p = finish_so did h in (p.0, finished start opening contents contents_after faults old new seat count made 0 before after live stepped p.0 main desk is (finishing p.0 p.1) had now ready))

  stays_so : (finishes did ≡ true) ⊎ (merges did ≡ true) → Finishes live stepped None old.dirty new.dirty contents contents_after
  stays_so (inl h) = (let f = finishes_so h in let k = f.1 in subst (λ part. Finishes live stepped part old.dirty new.dirty contents contents_after) k.none k)
  stays_so (inr h) =
      let m = merge_so did h in
      merge_stays IsUnclaimed m.0 m.1 m.2 made old.dirty new.dirty contents contents_after before after live stepped
      (subst (λ d. RunStep IsUnclaimed (step_made live stepped d made old.dirty new.dirty contents contents_after before after)) m.3 steps)

  same_dirty : (finishes did ≡ true) ⊎ (merges did ≡ true) → new.dirty ≡ old.dirty
  same_dirty h = (let f = stays_so h in f.list)

  pub went_moves : new.newest ≡ entry seat total count 0 went.what ∷ old.newest → MovesDirty old.job new.newest old.dirty new.dirty
  went_moves more = by goes
    where
      by : GoesOn stepped did made old.later went new.later → MovesDirty old.job new.newest old.dirty new.dirty
      by (inl (r, last)) =
          run_moves old.job _ _ old.dirty new.dirty seat total count 0 live.id did (more ∙ ap (λ w. entry seat total count 0 w ∷ old.newest) (r.told ∙ ap (λ n. Step n did) number)) _ live stepped made contents contents_after before after is steps
      by (inr (inl (h, source, left_is, t))) = inl (same_dirty (inl h))
      by (inr (inr (h, none, r))) = inl (same_dirty h)

  -- fewer steps are left
  pub went_nearer : new.job ≡ if_closed old.tally.closed went.job → rank_of new < rank_of old
  went_nearer job =
      subst (λ j. rank_left new.dirty j new.later < rank_of old) (sym job)
      (subst (λ j. rank_left new.dirty (if_closed old.tally.closed went.job) new.later < rank_left old.dirty j old.later) (sym is)
      (goes_nearer IsUnclaimed old.tally.closed live stepped did made made old.dirty new.dirty contents contents_after before after old.later new.later went
      (λ ends. (subst Never (sym (ap (λ (t : Tally). t.job) desk.written.tally) ∙ (desk.written.told ∙ ap (option_map told_job) is)) (live_never old.newest)) ends) steps goes))

  module _ (fits : length old.newest + 3 ≤ 2 ^ 56) (total_is : total ≡ min (old.tally.calls + went.calls) (2 ^ 64 - 1)) (more : new.newest ≡ entry seat total count 0 went.what ∷ old.newest)
      (job : new.job ≡ if_closed old.tally.closed went.job) (tally : new.tally ≡ record old.tally { job = option_map told_job new.job; has_unseen_end = is_none went.job || old.tally.has_unseen_end; calls = total })
      (screen : new.screen ≡ old.screen) (quit : new.quit ≡ old.quit) (room : 2 ≤ new.spare) (out : new.out ≡ old.out) where
    -- where nothing is counted
    same_total : went.calls ≡ 0 → total ≡ old.tally.calls
    same_total none = let few = desk.written.calls in omega (arith, total_is, none, fits, few)

    tally_so : (gone : Bool) → is_none went.job ≡ gone → went.calls ≡ 0 → new.tally ≡ record old.tally { job = option_map told_job new.job; has_unseen_end = gone || old.tally.has_unseen_end }
    tally_so gone is_gone none =
        tally
        ∙ (ap (λ b. let t : Tally = record old.tally { job = option_map told_job new.job; has_unseen_end = b || old.tally.has_unseen_end; calls = total } in t) is_gone
        ∙ ap (λ n. let t : Tally = record old.tally { job = option_map told_job new.job; has_unseen_end = gone || old.tally.has_unseen_end; calls = n } in t) (same_total none))

    pub desk_went : IsDesk start opening contents_after faults new
    desk_went = by goes
      where
        by : GoesOn stepped did made old.later went new.later → IsDesk start opening contents_after faults new
        by (inl (r, last)) =
            desk_stepped start opening contents contents_after faults old new seat count made total before after live stepped did main desk is steps fits
            (total_is ∙ ap (λ n. min (old.tally.calls + n) (2 ^ 64 - 1)) r.counted) had now (more ∙ ap (λ w. entry seat total count 0 w ∷ old.newest) (r.told ∙ ap (λ n. Step n did) number))
            (job ∙ ap (if_closed old.tally.closed) r.stands)
            (tally ∙ ap (λ b. let t : Tally = record old.tally { job = option_map told_job new.job; has_unseen_end = b || old.tally.has_unseen_end; calls = total } in t) (ap is_none r.stands ∙ none_unless (ends did) stepped))
            screen quit room ready out last r.rest
        by (inr (inl (h, source, left_is, t))) =
            let p = finish_so did h in
            desk_turned start opening contents contents_after faults old new seat count made total before after live stepped p.0 main desk is (finishing p.0 p.1) had now ready source t.run t.run_is t.workable (same_total t.uncounted)
            (more ∙ ap (λ w. entry seat total count 0 w ∷ old.newest) (t.told ∙ ap (λ n. Next n source) number)) left_is (job ∙ ap (if_closed old.tally.closed) t.stands) (tally_so false (ap is_none t.stands) t.uncounted) screen quit room out
        by (inr (inr (h, none, r))) =
            let gone : new.job ≡ None = job ∙ (ap (if_closed old.tally.closed) r.stands ∙ closed_none old.tally.closed) in
            desk_short start opening contents contents_after faults old new seat count total before after live stepped main desk is (stays_so h) unknown had rises now ready (same_total r.uncounted)
            (more ∙ ap (λ w. entry seat total count 0 w ∷ old.newest) (r.told ∙ ap (λ n. Step n (Ended NoMemory (part_of stepped.work))) number)) gone
            (tally_so true (ap is_none r.stands) r.uncounted ∙ ap (λ j. let t : Tally = record old.tally { job = option_map told_job j; has_unseen_end = true } in t) gone) screen quit
            (let two = room_two old.tally.closed None in omega (arith, two, room)) none out
