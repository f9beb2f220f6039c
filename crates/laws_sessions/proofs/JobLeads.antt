-- A step of a job, by its course; and the sync of a folder that an ended job left.
use Rattle.std.proofs.Common.{◌≡◌, ℕ, true, false, List, refl, sym, ◌∙◌, ap, subst, inl, inr, Some}
use Rattle.mc_text.specs.Routes.{Route}
use Rattle.tree_trait.specs.Change.{CallLog, current}
use Rattle.laws_crash.specs.Guarded.{Marks}
use Rattle.tree_trait.proofs.Visible.{same_path-true}
use Rattle.job_reports.specs.Paths.{folder_of}
use Rattle.job_reports.specs.declared.report.Cause.{Cause}
use Rattle.job_reports.specs.declared.report.Ending.{Ending}
use Rattle.job_reports.specs.declared.report.Did.{Did}
use Rattle.job_reports.specs.declared.report.Did.TheVariants.{Skipped, Barrier, Troubled}
use Rattle.job_reports.proofs.CallAnswers.{some_log}
use Rattle.copy_move.specs.declared.work.Work.{Work}
use Rattle.copy_move.specs.declared.work.Work.TheVariants.{Copy, Delete, Make, Move, SetMode, RemoveEmptied}
use Rattle.job_answers.specs.declared.replies.Replies.{Replies}
use Rattle.copy_move.specs.declared.run.Course.{Course}
use Rattle.copy_move.specs.declared.run.Course.TheVariants.{GoesOn, Asking, InTrouble, OwedSyncFailed, Skips, Ends}
use Rattle.make_job.specs.Makings.{Making}
use Rattle.emptied_job.specs.Removals.{Removing}
use Rattle.copy_move.specs.Jobs.{Running, CallsOn, TellsOn, WorkCalls, WorkLastCalls, WorkTells, PassesOver, WorkWinds, course_after, is_fresh, unreported_skip}
use Rattle.delete_job.specs.DeletionSteps.{after_try}
use Rattle.copy_move.specs.Settling.{NoneOwed, WorkLeaves}
use Rattle.copy_move.specs.JobStepReports.{LeavesDirty, SkipWalks, WalksOn}
use Rattle.laws_sessions.specs.Traces.{IsUnclaimed, SyncLeads, WorkLeads}
use Rattle.mode_job.specs.Settings.{Setting}
use Rattle.laws_sessions.proofs.Calming.{thing_stopped}
use Rattle.laws_sessions.proofs.ModeSteps.{setting_tells, setting_winds}
use Rattle.laws_sessions.proofs.Deleted.{comes_refused}
use Rattle.laws_sessions.proofs.DeletionSteps.{Steps, comes_thing_synced, deletion_tells, deletion_winds, stands, stays, still_going}
use Rattle.laws_sessions.proofs.MakingSteps.{making_tells, making_winds}
use Rattle.laws_sessions.proofs.MovingSteps.{moving_skipped, moving_tells, moving_winds}
use Rattle.laws_sessions.proofs.RemovalSteps.{removal_tells, removal_winds}
use Rattle.laws_sessions.proofs.JobSteps.{fresh_knows}
use Rattle.laws_sessions.proofs.Knowing.{HistoryFacts, IsKept}
use Rattle.laws_sessions.proofs.JobKnows.{KnowsAfter, WorkKnows, none_over, work_course}
use Rattle.laws_sessions.proofs.Stepped.{StepRan, said_after}
use Rattle.laws_sessions.proofs.TreeKnown.{is_over}
use Rattle.laws_sessions.proofs.TreeSkipped.{skips_tree}
use Rattle.laws_sessions.proofs.TreeTells.{tree_tells}
use Rattle.laws_sessions.proofs.TreeWinds.{tree_winds}

module _ (told : HistoryFacts) (dirty dirty_after : List Route) (marks : Marks) (log now : CallLog) (kept : IsKept told dirty marks log) where
  skip_knows : (course : Course) (work new : Work) (path : Route) (cause : Cause) → is_over course ≡ false → PassesOver work path new → SkipWalks cause work (Skipped path cause) new → WorkKnows told dirty marks log course work
      → WorkKnows told dirty marks log GoesOn new
  skip_knows course (SetMode s) (SetMode new) path cause going (path_is, new_is) walks k = subst (λ (n : Setting). WorkKnows told dirty marks log GoesOn (SetMode n)) (sym new_is) k
  skip_knows course (Make m) (Make new) path cause going (path_is, new_is) walks k = subst (λ (n : Making). WorkKnows told dirty marks log GoesOn (Make n)) (sym new_is) k
  skip_knows course (Move m) (Move new) path cause going (path_is, new_is) walks k = moving_skipped told marks log course m new going new_is k
  skip_knows course (Delete d) (Delete new) path cause going at walks k = stays told dirty dirty_after marks log now kept course GoesOn d new _ k at (still_going told dirty dirty_after marks log now kept path d) dirty
  skip_knows course (Copy c) (Copy new) path cause going h walks k =
      skips_tree told dirty marks log course GoesOn cause c new (Skipped path cause) going (λ trouble is on. let f : ⊥ = cc in f) walks k
  skip_knows course (RemoveEmptied r) (RemoveEmptied new) path cause going (path_is, new_is) walks k = subst (λ (n : Removing). WorkKnows told dirty marks log GoesOn (RemoveEmptied n)) (sym new_is) k
  skip_knows course old new path cause going h walks k = absurd h

  -- what the machine of the work did
  abbrev WorkWalks : Replies → Course → Work → Did → Work → Type 0
  WorkWalks replies course old did new = (count : ℕ) × (f0 : ℕ) × (f1 : ℕ) × WalksOn IsUnclaimed replies course old new did count dirty dirty_after (Some log) (Some now) f0 f1

  work_tells : (replies : Replies) (old new : Work) (did : Did) → WorkKnows told dirty marks log GoesOn old → WorkTells replies old did new → WorkCalls IsUnclaimed replies old did new log (Some now)
      → (is_fresh old ≡ true → NoneOwed (current log) old dirty) → WorkLeaves old did new dirty dirty_after (Some log) (Some now) → WorkWalks replies GoesOn old did new
      → Steps told dirty dirty_after marks log now kept did (course_after did) old new
  work_tells replies (Delete d) (Delete new) did knows tells calls settled leaves walks = deletion_tells told dirty dirty_after marks log now kept replies d new did knows tells calls settled leaves
  work_tells replies (Make w) (Make new) did knows tells calls settled leaves walks = making_tells told dirty dirty_after marks log now kept w new did knows tells calls (λ fresh. none_over (current log) (Make w) dirty (settled fresh)) leaves
  work_tells replies (Move w) (Move new) did knows tells calls settled leaves walks = moving_tells told dirty dirty_after marks log now kept replies w new did knows tells calls settled leaves
  work_tells replies (SetMode s) (SetMode new) did knows tells calls settled leaves walks = setting_tells told dirty dirty_after marks log now kept replies s new did knows tells calls settled leaves
  work_tells replies (Copy c) (Copy new) did knows tells calls settled leaves (count, f0, f1, goes) = tree_tells told dirty dirty_after marks log now kept replies c new did knows tells settled goes.free count goes.since f1 goes.steps
  work_tells replies (RemoveEmptied r) (RemoveEmptied new) did knows tells calls settled leaves walks = removal_tells told dirty dirty_after marks log now kept replies r new did knows tells calls settled leaves
  work_tells replies old new did knows tells calls settled leaves walks = absurd tells

  work_winds : (replies : Replies) (ending : Ending) (old new : Work) (did : Did) → WorkKnows told dirty marks log (Ends ending) old → WorkWinds ending old did new → WorkLastCalls old did log (Some now)
      → LeavesDirty (Ends ending) old did new dirty dirty_after (Some log) (Some now) → WorkWalks replies (Ends ending) old did new → Steps told dirty dirty_after marks log now kept did (Ends ending) old new
  work_winds replies ending (Delete d) (Delete new) did knows winds calls leaves walks =
      deletion_winds told dirty dirty_after marks log now kept d new ending did leaves.refusal leaves.folder knows winds (leaves.tried log refl) calls leaves.dirty_is
  work_winds replies ending (Make m) (Make new) did knows winds calls leaves walks =
      making_winds told dirty dirty_after marks log now kept m new ending did leaves.refusal knows winds (leaves.tried log refl) calls
      (leaves.dirty_is ∙ ap (λ f. after_try did leaves.refusal f dirty) (same_path-true leaves.folder (folder_of m.path) leaves.own))
  work_winds replies ending (Move m) (Move new) did knows winds calls leaves walks =
      moving_winds told dirty dirty_after marks log now kept m new ending did leaves.refusal leaves.folder knows winds (leaves.tried log refl) calls leaves.dirty_is
  work_winds replies ending (SetMode s) (SetMode new) did knows winds calls leaves walks =
      setting_winds told dirty dirty_after marks log now kept s new ending did leaves.refusal knows winds (leaves.tried log refl) calls
      (leaves.dirty_is ∙ ap (λ f. after_try did leaves.refusal f dirty) (same_path-true leaves.folder s.path leaves.own))
  work_winds replies ending (Copy c) (Copy new) did knows winds calls leaves (count, f0, f1, (tells, last)) = tree_winds told dirty dirty_after marks log now kept ending c new knows did count tells f0 f1 winds last calls leaves
  work_winds replies ending (RemoveEmptied r) (RemoveEmptied new) did knows winds calls leaves walks =
      removal_winds told dirty dirty_after marks log now kept r new ending did leaves.refusal knows winds (leaves.tried log refl) calls
      (leaves.dirty_is ∙ ap (λ f. after_try did leaves.refusal f dirty) (same_path-true leaves.folder (folder_of r.path) leaves.own))
  work_winds replies ending old new did knows winds calls leaves walks = absurd winds

  abbrev pub Leads : Running → Did → Running → Type 0
  Leads job did new = StepRan told (said_after now did job.work told) dirty_after log now (KnowsAfter did (said_after now did job.work told) dirty_after now new.course new.work)

  by_course : (job new : Running) (did : Did) (course : Course) → job.course ≡ course → WorkKnows told dirty marks log course job.work → TellsOn course job did new
      → CallsOn IsUnclaimed course job did new log (Some now) → (course ≡ GoesOn → is_fresh job.work ≡ true → NoneOwed (current log) job.work dirty)
      → LeavesDirty course job.work did new.work dirty dirty_after (Some log) (Some now) → WorkWalks job.replies course job.work did new.work → Leads job did new
  by_course job new did GoesOn is knows (work, tells, new_is) calls settled leaves walks =
      subst (λ (x : Running). Leads job did x) (sym new_is)
      (work_tells job.replies job.work work did knows tells (subst (λ (x : Running). WorkCalls IsUnclaimed job.replies job.work did x.work log (Some now)) new_is calls) (settled refl)
      (subst (λ (x : Running). WorkLeaves job.work did x.work dirty dirty_after (Some log) (Some now)) new_is leaves)
      (subst (λ (x : Running). WorkWalks job.replies GoesOn job.work did x.work) new_is walks))
  by_course job new did (InTrouble halt) is knows tells calls settled leaves walks = absurd tells
  by_course job new did (OwedSyncFailed why) is knows tells calls settled leaves walks = absurd tells
  by_course job new did Asking is knows tells calls settled leaves walks = absurd tells
  by_course job new did (Skips why) is knows (inl (path, work, did_is, passes, new_is)) calls settled leaves (count, f0, f1, walks) =
      subst (λ x. Leads job x new) (sym did_is) (subst (λ (x : Running). Leads job (Skipped path why) x) (sym new_is)
      (stands told dirty dirty_after marks log now kept GoesOn work (skip_knows (Skips why) job.work work path why refl passes
      (subst (λ d. SkipWalks why job.work d work) did_is (subst (λ (x : Running). SkipWalks why job.work did x.work) new_is walks)) knows) leaves (some_log now log calls)))
  by_course job new did (Skips why) is knows (inr (apart, did_is, new_is)) calls settled leaves walks =
      subst (λ x. Leads job x new) (sym did_is) (subst (λ (x : Running). Leads job (Troubled (Rattle.job_reports.specs.Stops.out_of_memory_at false)) x) (sym new_is)
      (stands told dirty dirty_after marks log now kept (InTrouble unreported_skip) job.work
      (work_course told dirty marks log (Skips why) (InTrouble unreported_skip) job.work (λ e. absurd (let f : ⊥ = cc in f)) (λ on. refl) knows) leaves (some_log now log calls)))
  by_course job new did (Ends ending) is knows (work, winds, new_is) calls settled leaves walks =
      subst (λ (x : Running). Leads job did x) (sym (new_is ∙ ap (λ c. (let x : Running = record job { work = work; course = c } in x)) is))
      (work_winds job.replies ending job.work work did knows winds calls (subst (λ (x : Running). LeavesDirty (Ends ending) job.work did x.work dirty dirty_after (Some log) (Some now)) new_is leaves)
      (subst (λ (x : Running). WorkWalks job.replies (Ends ending) job.work did x.work) new_is walks))

  pub work_leads : (job new : Running) (did : Did) → WorkKnows told dirty marks log job.course job.work → WorkLeads job did new dirty dirty_after log now → Leads job did new
  work_leads job new did knows w = by_course job new did job.course refl knows w.tells w.called w.settled w.leaves w.walks

  pub sync_leads : (job new : Running) (did : Did) → WorkKnows told dirty marks log job.course job.work → SyncLeads job did new dirty dirty_after log now → Leads job did new
  sync_leads job new did knows s = by s.synced
    where
      by : Rattle.copy_move.specs.JobStepReports.SyncsOwed job s.path did new dirty dirty_after (Some log) (Some now) → Leads job did new
      by (inl f) =
          subst (λ x. Leads job x new) (sym f.did_is) (subst (λ (x : Running). Leads job Barrier x) (sym f.new_is)
          (subst (λ xs. StepRan told told xs log now (λ m. WorkKnows told xs m now job.course job.work)) (sym f.dirty_is)
          (comes_thing_synced told dirty marks log now s.path job.course job.work kept
          (fresh_knows told dirty (Rattle.job_reports.specs.Paths.without s.path dirty) marks log job.course job.work (ap is_over s.goes) s.fresh knows) (f.called log refl))))
      by (inr f) =
          subst (λ x. Leads job x new) (sym f.did_is) (subst (λ (x : Running). Leads job (Troubled f.trouble) x) (sym f.new_is)
          (subst (λ xs. StepRan told told xs log now (λ m. WorkKnows told xs m now (OwedSyncFailed f.trouble.cause) job.work)) (sym f.dirty_is)
          (comes_refused told dirty marks log now (OwedSyncFailed f.trouble.cause) job.work kept
          (work_course told dirty marks log job.course (OwedSyncFailed f.trouble.cause) job.work (λ x. absurd (let f : ⊥ = cc in f)) (λ on. ap is_over s.goes) knows)
          (thing_stopped log now s.path f.trouble.cause f.trouble.path (f.called log refl)))))
