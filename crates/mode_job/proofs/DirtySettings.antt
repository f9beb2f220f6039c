-- A setting with the list of what is unsynced: it stays at its path, and what it has synced isn't given a mode again.
use Rattle.std.proofs.Common.{◌≡◌, ℕ, true, false, refl, sym, ◌∙◌, ap, subst, inl, inr, Option, Some, None, arith}
use Rattle.std.proofs.lemmas.Bool.{true≢false, false≢true}
use Rattle.tree_trait.specs.Change.{CallLog}
use Rattle.job_reports.specs.declared.report.Cause.TheVariants.{Memory}
use Rattle.job_reports.specs.declared.report.Ending.{Ending}
use Rattle.job_reports.specs.declared.report.Ending.TheVariants.{Finished, Aborted, Killed, NoMemory}
use Rattle.job_reports.specs.declared.report.Did.{Did}
use Rattle.job_reports.specs.declared.report.Did.TheVariants.{Began, Chunk, Placed, Removed, Made, Set, Kept, Skipped, Cleaned, Barrier, Asked, Merges, Moved, Troubled, Ended}
use Rattle.job_reports.specs.declared.report.LastStepResult.{LastStepResult}
use Rattle.job_reports.specs.Stops.{out_of_memory_at}
use Rattle.job_reports.proofs.Runs.{no_more}
use Rattle.job_answers.specs.declared.replies.Replies.{Replies}
use Rattle.mode_job.specs.declared.setting.Stage.{Stage}
use Rattle.mode_job.specs.declared.setting.Stage.TheVariants.{Give, Sync, Done}
use Rattle.mode_job.specs.Settings.{Setting, Tells, at_barrier, is_dirty, is_fresh}
use Rattle.mode_job.specs.SettingSteps.{SettingStops, StepsOn, Winds}

-- a setting stays at its path
pub setting_stays : (replies : Replies) (s new : Setting) (did : Did) → Tells replies s did new → new.path ≡ s.path
setting_stays replies s new (Set path) (at, path_is, is) = ap (λ (n : Setting). n.path) is
setting_stays replies s new Barrier (at, is) = ap (λ (n : Setting). n.path) is
setting_stays replies s new (Troubled trouble) (barrier, told, is) = ap (λ (n : Setting). n.path) is
setting_stays replies s new (Ended Finished part) (at, none, is) = ap (λ (n : Setting). n.path) is
setting_stays replies s new (Ended Aborted part) t = absurd t
setting_stays replies s new (Ended Killed part) t = absurd t
setting_stays replies s new (Ended NoMemory part) t = absurd t
setting_stays replies s new (Began part) t = absurd t
setting_stays replies s new (Chunk count) t = absurd t
setting_stays replies s new (Asked question) t = absurd t
setting_stays replies s new (Merges transfer pair names) t = absurd t
setting_stays replies s new (Moved pair) t = absurd t
setting_stays replies s new (Placed path) t = absurd t
setting_stays replies s new (Removed path) t = absurd t
setting_stays replies s new (Made path) t = absurd t
setting_stays replies s new (Kept path) t = absurd t
setting_stays replies s new (Skipped path cause) (at, path_is, passes, is) = ap (λ (n : Setting). n.path) is
setting_stays replies s new (Cleaned part) t = absurd t

pub setting_winds_there : (ending : Ending) (s new : Setting) (last : LastStepResult) (before after : Option CallLog) (f0 f1 : ℕ) → Winds ending s new last before after f0 f1 → new.path ≡ s.path
setting_winds_there ending s new last before after f0 f1 (inl w) = ap (λ (n : Setting). n.path) w.1
setting_winds_there ending s new last before after f0 f1 (inr w) = ap (λ (n : Setting). n.path) w.1

-- what was given its mode before, and is synced, isn't given one again
pub clean_setting : (replies : Replies) (s new : Setting) (did : Did) → Tells replies s did new → is_fresh s.stage ≡ false → is_dirty s.stage ≡ false → is_dirty new.stage ≡ false
clean_setting replies s new (Set path) (at, path_is, is) changed clean = absurd (true≢false (sym (ap is_fresh at) ∙ changed))
clean_setting replies s new Barrier (at, is) changed clean = ap (λ (n : Setting). is_dirty n.stage) is
clean_setting replies s new (Troubled trouble) (barrier, told, is) changed clean = ap (λ (n : Setting). is_dirty n.stage) is ∙ clean
clean_setting replies s new (Ended Finished part) (at, none, is) changed clean = ap (λ (n : Setting). is_dirty n.stage) is ∙ clean
clean_setting replies s new (Ended Aborted part) t changed clean = absurd t
clean_setting replies s new (Ended Killed part) t changed clean = absurd t
clean_setting replies s new (Ended NoMemory part) t changed clean = absurd t
clean_setting replies s new (Began part) t changed clean = absurd t
clean_setting replies s new (Chunk count) t changed clean = absurd t
clean_setting replies s new (Asked question) t changed clean = absurd t
clean_setting replies s new (Merges transfer pair names) t changed clean = absurd t
clean_setting replies s new (Moved pair) t changed clean = absurd t
clean_setting replies s new (Placed path) t changed clean = absurd t
clean_setting replies s new (Removed path) t changed clean = absurd t
clean_setting replies s new (Made path) t changed clean = absurd t
clean_setting replies s new (Kept path) t changed clean = absurd t
clean_setting replies s new (Skipped path cause) (at, path_is, passes, is) changed clean = ap (λ (n : Setting). is_dirty n.stage) is
clean_setting replies s new (Cleaned part) t changed clean = absurd t

-- one that has given no mode has left nothing dirty
pub fresh_setting : (stage : Stage) → is_fresh stage ≡ true → is_dirty stage ≡ false
fresh_setting Give h = refl
fresh_setting Sync h = absurd (false≢true h)
fresh_setting Done h = absurd (false≢true h)

-- there was no memory to remember the thing: no call was made
pub none_given : (replies : Replies) (s : Setting) (did : Did) (calls : ℕ) (contents : Option CallLog) (f : ℕ) → is_fresh s.stage ≡ true → did ≡ Troubled (out_of_memory_at false) → calls ≡ 0 → StepsOn replies s s did calls contents contents f f
none_given replies s did calls contents f fresh is count =
    subst (λ d. StepsOn replies s s d calls contents contents f f) (sym is)
    (subst (λ n. StepsOn replies s s (Troubled (out_of_memory_at false)) n contents contents f f) (sym count) (record {
      tells = (barred s.stage fresh, inr refl, refl);
      called = λ log known. stops log s.stage fresh known;
      counted = λ log known now has. no_more log now (sym known ∙ has);
      few = omega arith;
      unknown = λ h. h;
      later = omega arith;
      fault = λ h. absurd cc;
    }))
  where
    barred : (stage : Stage) → is_fresh stage ≡ true → false ≡ at_barrier stage
    barred Give h = refl
    barred Sync h = absurd (false≢true h)
    barred Done h = absurd (false≢true h)

    stops : (log : CallLog) (stage : Stage) → is_fresh stage ≡ true → contents ≡ Some log → SettingStops s stage Memory None log contents
    stops log Give h known = (refl, (0, omega arith, known))
    stops log Sync h known = absurd (false≢true h)
    stops log Done h known = absurd (false≢true h)
