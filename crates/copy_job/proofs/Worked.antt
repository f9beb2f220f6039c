-- A step with the list of dirty folders.
use Rattle.std.proofs.Common.{◌≡◌, ℕ, ◌&&◌, ◌-◌, not, refl, sym, ◌∙◌, ap, inl, inr, Bool, true, false, List, length, take, Option}
use Rattle.std.specs.Prelude.{if◌then◌else◌}
use Rattle.mc_text.specs.Routes.{Route}
use Rattle.tree_trait.specs.Change.{CallLog}
use Rattle.job_answers.specs.declared.replies.Replies.{Replies}
use Rattle.job_reports.specs.declared.report.Did.TheVariants.{Troubled}
use Rattle.job_reports.specs.declared.report.StepResult.{StepResult}
use Rattle.job_reports.specs.Paths.{without}
use Rattle.job_reports.specs.Stops.{out_of_memory_at}
use Rattle.copy_folders.specs.FolderCopying.{is_dirty}
use Rattle.copy_folders.specs.Levels.{is_around_dirty, target_around}
use Rattle.copy_tree.specs.Standing.{Seen}
use Rattle.copy_tree.specs.TreeCopySteps.{CopySteps}
use Rattle.job_unsynced.specs.Folders.{joined_folders, with_change}
use Rattle.copy_job.specs.Leaving.{is_done, may_leave}
use Rattle.copy_job.specs.Marks.{brings_made, folder_worked, is_dirty_after, is_left_dirty, was_dirty}
use Rattle.copy_job.specs.Standing.{at_barrier}
use Rattle.copy_job.specs.SubtreeSteps.{ListSteps, step_result}
use Rattle.copy_job.proofs.Listed.{joins_list, leaves_list, of_around, of_inner, unchanged}
use Rattle.copy_job.proofs.Targets.{stays_around, stays_inner}

-- there was no memory to keep the folder
pub ran_short : (free : Route → Bool) (replies : Replies) (old : Seen) (result : StepResult) (barrier : Bool) (dirty dirty_after : List Route) (before : Option CallLog) (f0 : ℕ)
    → is_done old ≡ false → result ≡ step_result (Troubled (out_of_memory_at barrier)) 0 → barrier ≡ at_barrier old → dirty_after ≡ dirty → ListSteps free replies old old result dirty dirty_after before before f0 f0
ran_short free replies old result barrier dirty dirty_after before f0 left says barred list =
    inl record { left = left; says = says ∙ ap (λ b. step_result (Troubled (out_of_memory_at b)) 0) barred; stays = refl; list = list; same = refl; later = refl }

module _ (free : Route → Bool) (replies : Replies) (old new : Seen) (result : StepResult) (before after : Option CallLog) (f0 f1 : ℕ) (steps : CopySteps free replies old new result.did result.calls before after f0 f1) (settled : may_leave old ≡ false)
    (dirty dirty_after : List Route) where
  listed : dirty_after ≡ with_change (was_dirty old) (is_dirty_after old result.did new) (folder_worked old) dirty → ListSteps free replies old new result dirty dirty_after before after f0 f1
  listed list = inr record { steps = steps; list = list }

  -- the folder around was dirty
  pub worked_around : brings_made old ≡ true → (now synced : Bool) (there : Route) → now ≡ is_around_dirty new.levels.around → synced ≡ not now → there ≡ target_around new.levels.around
      → dirty_after ≡ (if synced then without there dirty else dirty) → ListSteps free replies old new result dirty dirty_after before after f0 f1
  worked_around brings now synced there is off at list =
      let stays = stays_around free replies old new result.did result.calls before after f0 f1 steps settled brings in
      listed (list
      ∙ (ap (λ b. if b then without there dirty else dirty) off
      ∙ (leaves_list now there (target_around old.levels.around) dirty (λ _. at ∙ stays.1)
      ∙ (ap (λ b. with_change true b (target_around old.levels.around) dirty) is ∙ of_around old new result.did dirty brings))))

  -- nothing was left to be done
  pub worked_at_end : brings_made old ≡ false → is_left_dirty result.did new ≡ is_dirty old.levels.inner.copy.names → dirty_after ≡ dirty → ListSteps free replies old new result dirty dirty_after before after f0 f1
  worked_at_end brings same list =
      listed (list
      ∙ (unchanged (is_dirty old.levels.inner.copy.names) old.levels.inner.copy.target dirty
      ∙ (ap (λ b. with_change (is_dirty old.levels.inner.copy.names) b old.levels.inner.copy.target dirty) (sym same) ∙ of_inner old new result.did dirty brings)))

  -- the innermost was dirty
  pub worked_in_dirty : brings_made old ≡ false → is_dirty old.levels.inner.copy.names ≡ true → (now synced : Bool) (there : Route) → now ≡ is_left_dirty result.did new → synced ≡ not now → there ≡ new.levels.inner.copy.target
      → dirty_after ≡ (if synced then without there dirty else dirty) → ListSteps free replies old new result dirty dirty_after before after f0 f1
  worked_in_dirty brings was now synced there is off at list =
      listed (list
      ∙ (ap (λ b. if b then without there dirty else dirty) off
      ∙ (leaves_list now there old.levels.inner.copy.target dirty (λ clean. at ∙ stays_inner free replies old new result.did result.calls before after f0 f1 steps settled brings (sym is ∙ clean))
      ∙ (ap (λ b. with_change true b old.levels.inner.copy.target dirty) is
      ∙ (ap (λ b. with_change b (is_left_dirty result.did new) old.levels.inner.copy.target dirty) (sym was) ∙ of_inner old new result.did dirty brings)))))

  -- the innermost was clean
  pub worked_in_clean : brings_made old ≡ false → is_dirty old.levels.inner.copy.names ≡ false → (now more dropped : Bool) (there : Route) (with_it : List Route) → now ≡ is_left_dirty result.did new → there ≡ old.levels.inner.copy.target
      → with_it ≡ joined_folders there dirty → (if more then take (length with_it - 1) with_it else with_it) ≡ dirty → dropped ≡ (more && not now)
      → dirty_after ≡ (if dropped then take (length with_it - 1) with_it else with_it) → ListSteps free replies old new result dirty dirty_after before after f0 f1
  worked_in_clean brings was now more dropped there with_it is at joins back off list =
      listed (joins_list now more dropped there dirty with_it dirty_after joins back off list
      ∙ (ap (λ f. with_change false now f dirty) at
      ∙ (ap (λ b. with_change false b old.levels.inner.copy.target dirty) is
      ∙ (ap (λ b. with_change b (is_left_dirty result.did new) old.levels.inner.copy.target dirty) (sym was) ∙ of_inner old new result.did dirty brings))))
