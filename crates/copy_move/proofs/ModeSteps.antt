-- What the steps of a setting make of what is dirty.
use Rattle.std.proofs.Common.{◌≡◌, ℕ, ◌+◌, ◌<◌, ◌≤◌, true, false, List, length, refl, sym, ◌∙◌, ap, subst, inl, inr, Option, None, arith}
use Rattle.std.proofs.lemmas.Bool.{true≢false, false≢true}
use Rattle.mc_text.specs.Routes.{Route}
use Rattle.tree_trait.specs.Change.{CallLog}
use Rattle.tree_trait.proofs.Visible.{same_path-self}
use Rattle.job_reports.specs.declared.report.Cause.{Cause}
use Rattle.job_reports.specs.declared.report.Ending.{Ending}
use Rattle.job_reports.specs.declared.report.Did.{Did}
use Rattle.job_reports.specs.declared.report.Did.TheVariants.{Began, Chunk, Placed, Removed, Made, Set, Kept, Skipped, Cleaned, Barrier, Asked, Merges, Moved, Troubled, Ended}
use Rattle.job_reports.specs.declared.report.LastStepResult.{LastStepResult}
use Rattle.job_reports.specs.Reports.{ends}
use Rattle.job_reports.specs.Stops.{out_of_memory_at}
use Rattle.job_reports.proofs.Runs.{no_more}
use Rattle.mode_job.specs.declared.setting.Stage.{Stage}
use Rattle.mode_job.specs.declared.setting.Stage.TheVariants.{Give, Sync, Done}
use Rattle.mode_job.specs.Settings.{Setting, Tells, at_barrier, is_dirty, skipped_stage}
use Rattle.mode_job.specs.SettingSteps.{SettingSkips, StepsOn, SyncTried, TellsFault, Winds}
use Rattle.job_answers.specs.declared.replies.Replies.{Replies}
use Rattle.copy_move.specs.declared.work.Work.TheVariants.{SetMode}
use Rattle.copy_move.specs.declared.run.Course.TheVariants.{GoesOn, InTrouble}
use Rattle.delete_job.specs.DeletionSteps.{after_try}
use Rattle.copy_move.specs.Faults.{MeetsFault}
use Rattle.copy_move.specs.Jobs.{course_after, unreported_skip}
use Rattle.mode_job.specs.ModeSettings.{LastSettingCalls, SettingLeaves}
use Rattle.mode_job.specs.ModeSettings as modes
use Rattle.copy_move.specs.Ranks.{last_rank, last_setting_steps, rank_on, setting_rank, tries_left, work_rank}
use Rattle.copy_move.specs.Settling.{with_change}
use Rattle.copy_move.specs.JobStepReports.{WorkSkips, WorkSteps, WorkWindsUp}
use Rattle.copy_move.proofs.Falling.{setting_tried_low, waiting_falls}
use Rattle.copy_move.proofs.FolderSteps.{one_more, tried_more, tries_after, weighs_less}

dirty_at : (stage : Stage) → is_dirty stage ≡ true → stage ≡ Sync
dirty_at Sync h = refl
dirty_at Give h = absurd (false≢true h)
dirty_at Done h = absurd (false≢true h)

-- each step leaves fewer
pub setting_falls : (replies : Replies) (old new : Setting) (did : Did) → Tells replies old did new → ends did ≡ false → rank_on (course_after did) (SetMode new) < work_rank (SetMode old)
setting_falls replies old new (Set path) (at, path_is, is) h =
    subst (λ (n : Setting). setting_rank n.stage < setting_rank old.stage) (sym is) (subst (λ s. 5 < setting_rank s) (sym at) (omega arith))
setting_falls replies old new Barrier (at, is) h =
    subst (λ (n : Setting). setting_rank n.stage < setting_rank old.stage) (sym is) (subst (λ s. 4 < setting_rank s) (sym at) (omega arith))
setting_falls replies old new (Troubled trouble) (at, told, is) h =
    subst (λ (n : Setting). last_setting_steps n.stage < setting_rank old.stage) (sym is) (setting_tried_low old.stage)
setting_falls replies old new (Ended ending part) t h = absurd (true≢false h)
setting_falls replies old new (Began part) t h = absurd t
setting_falls replies old new (Chunk count) t h = absurd t
setting_falls replies old new (Asked question) t h = absurd t
setting_falls replies old new (Merges transfer pair names) t h = absurd t
setting_falls replies old new (Moved pair) t h = absurd t
setting_falls replies old new (Placed path) t h = absurd t
setting_falls replies old new (Removed path) t h = absurd t
setting_falls replies old new (Made path) t h = absurd t
setting_falls replies old new (Kept path) t h = absurd t
setting_falls replies old new (Skipped path cause) (at, path_is, passes, is) h =
    subst (λ (n : Setting). setting_rank n.stage < setting_rank old.stage) (sym is) (subst (λ s. 4 < setting_rank s) (sym at) (omega arith))
setting_falls replies old new (Cleaned part) t h = absurd t

-- so does one that keeps its mode
unset_falls : (stage : Stage) → setting_rank (skipped_stage stage) < 10
unset_falls Give = omega arith
unset_falls Sync = omega arith
unset_falls Done = omega arith

-- a fault that a job meets is one of which the setting tells
fault_so : (did : Did) → MeetsFault GoesOn did → TellsFault did
fault_so (Troubled trouble) h = h
fault_so (Skipped path cause) h = h
fault_so (Began part) h = h
fault_so (Chunk count) h = h
fault_so (Asked question) h = h
fault_so (Merges transfer pair names) h = h
fault_so (Moved pair) h = h
fault_so (Set path) h = h
fault_so (Placed path) h = h
fault_so (Removed path) h = h
fault_so (Made path) h = h
fault_so (Kept path) h = h
fault_so (Cleaned part) h = h
fault_so Barrier h = h
fault_so (Ended ending part) h = h

-- a step
module _ (unclaimed : Route → Type 0) (replies : Replies) (s new : Setting) (did : Did) (calls : ℕ) (dirty dirty_after : List Route) (before after : Option CallLog) (f0 f1 : ℕ) where
  pub setting_steps : StepsOn replies s new did calls before after f0 f1 → dirty_after ≡ with_change (is_dirty s.stage) (is_dirty new.stage) s.path dirty
      → WorkSteps unclaimed replies (SetMode s) (SetMode new) did calls dirty dirty_after before after f0 f1
  setting_steps made leaves = record {
    tells = made.tells;
    walks = tt;
    called = made.called;
    leaves = leaves;
    counted = made.counted;
    few = let few = made.few in omega (arith, few);
    unknown = made.unknown;
    later = made.later;
    fault = λ h. made.fault (fault_so did h);
    falls = λ going.
        let low = setting_falls replies s new did made.tells going in
        let more = subst (λ xs. length xs ≤ length dirty + 1) (sym leaves) (one_more (is_dirty s.stage) (is_dirty new.stage) s.path dirty) in
        weighs_less (rank_on (course_after did) (SetMode new)) (setting_rank s.stage) (length dirty_after) (length dirty) (tries_left (course_after did) (SetMode new) dirty_after) low more (tries_after did (SetMode new) dirty_after);
  }

-- a last step
module _ (ending : Ending) (s new : Setting) (last : LastStepResult) (dirty dirty_after : List Route) (before after : Option CallLog) (f0 f1 : ℕ) where
  abbrev WindsUp : LastStepResult → Type 0
  WindsUp l = WorkWindsUp ending (SetMode s) (SetMode new) l.did l.calls l.left dirty dirty_after before after f0 f1

  -- the sync that is owed was tried
  sync_tried : s.stage ≡ Sync → new ≡ record s { stage = Done } → SyncTried s.path last before after f0 f1 → dirty_after ≡ after_try last.did last.left s.path dirty → WindsUp last
  sync_tried at is tried leaves = record {
    tells = subst (λ d. modes.Winds ending s d new) (sym tried.did) (at, is);
    walks = tt;
    called = λ log known. subst (λ d. LastSettingCalls s d log after) (sym tried.did) (last.left, tried.told log known);
    folder = s.path;
    own = same_path-self s.path;
    dirty_is = leaves;
    synced = λ log known. subst (λ d. SettingLeaves s d last.left log after) (sym tried.did) (tried.told log known);
    counted = tried.counted;
    few = let few = tried.few in omega (arith, few);
    unknown = tried.unknown;
    later = tried.later;
    fault = tried.fault;
    falls = λ going.
        let low : last_rank (SetMode new) < last_rank (SetMode s) =
        subst (λ (n : Setting). last_setting_steps n.stage < last_setting_steps s.stage) (sym is) (subst (λ stage. 1 < last_setting_steps stage) (sym at) (omega arith)) in
        let more = subst (λ xs. length xs ≤ length dirty + 1) (sym leaves) (tried_more last.did last.left s.path dirty) in
        omega (arith, low, more);
  }

  -- none is owed, and the job ends
  ends_at_once : is_dirty s.stage ≡ false → new ≡ s → after ≡ before → f1 ≡ f0 → dirty_after ≡ dirty → WindsUp (record { did = Ended ending None; calls = 0; left = None })
  ends_at_once clean is same faults leaves = record {
    tells = (clean, refl, refl, is);
    walks = tt;
    called = λ log known. same ∙ known;
    folder = s.path;
    own = same_path-self s.path;
    dirty_is = leaves;
    synced = λ log known. refl;
    counted = λ log known now has. no_more log now (sym known ∙ (sym same ∙ has));
    few = omega arith;
    unknown = λ none. same ∙ none;
    later = omega (arith, faults);
    fault = λ h. absurd cc;
    falls = λ going. absurd (true≢false going);
  }

  pub setting_winds_up : Winds ending s new last before after f0 f1 → dirty_after ≡ after_try last.did last.left s.path dirty → WindsUp last
  setting_winds_up (inl (dirty_is, is, tried)) leaves = sync_tried (dirty_at s.stage dirty_is) is tried leaves
  setting_winds_up (inr (clean, is, last_is, same, faults)) leaves =
      subst WindsUp (sym last_is) (ends_at_once clean is same faults (leaves ∙ ap (λ (l : LastStepResult). after_try l.did l.left s.path dirty) last_is))

-- a skip
pub setting_skips : (cause : Cause) (s new : Setting) (did : Did) → SettingSkips cause s did new → at_barrier s.stage ≡ false → WorkSkips cause (SetMode s) did (SetMode new)
setting_skips cause s new did (inl (did_is, new_is)) apart = record {
  walks = tt;
  skips = inl (s.path, did_is, (refl, new_is));
  falls = subst (λ d. rank_on (course_after d) (SetMode new) < 10) (sym did_is) (subst (λ (n : Setting). setting_rank n.stage < 10) (sym new_is) (unset_falls s.stage));
}
setting_skips cause s new did (inr (did_is, new_is)) apart = record {
  walks = tt;
  skips = inr (did_is ∙ ap (λ b. Troubled (out_of_memory_at b)) apart, ap SetMode new_is);
  falls = subst (λ d. rank_on (course_after d) (SetMode new) < 10) (sym did_is) (subst (λ (n : Setting). rank_on (InTrouble unreported_skip) (SetMode n) < 10) (sym new_is) (waiting_falls (SetMode s) tt));
}
