-- Where a making stands after its steps, and which folder it leaves dirty.
use Rattle.std.proofs.Common.{◌≡◌, ℕ, true, false, refl, sym, ◌∙◌, ap, subst, Option, Some, arith}
use Rattle.std.proofs.lemmas.Bool.{true≢false, false≢true}
use Rattle.tree_trait.specs.declared.calls.TreeError.TheVariants as refused
use Rattle.tree_trait.specs.Change.{CallLog}
use Rattle.job_reports.specs.declared.report.Ending.{Ending}
use Rattle.job_reports.specs.declared.report.Ending.TheVariants.{Finished, Aborted, Killed, NoMemory}
use Rattle.job_reports.specs.declared.report.Did.{Did}
use Rattle.job_reports.specs.declared.report.Did.TheVariants.{Began, Chunk, Placed, Removed, Made, Set, Kept, Skipped, Cleaned, Barrier, Asked, Merges, Moved, Troubled, Ended}
use Rattle.job_reports.specs.Stops.{out_of_memory_at}
use Rattle.make_job.specs.declared.making.MakingStage.{MakingStage}
use Rattle.make_job.specs.declared.making.MakingStage.TheVariants as making
use Rattle.make_job.specs.Makings.{Making, MakingCalls, Tells, Winds, is_dirty, is_fresh}
use Rattle.make_job.specs.MakingSteps.{MakingStep}
use Rattle.make_job.proofs.MakingRuns.{same_log}

-- a making stays at its path
pub making_stays : (m new : Making) (did : Did) → Tells m did new → new.path ≡ m.path
making_stays m new (Made path) (at, path_is, is) = ap (λ (n : Making). n.path) is
making_stays m new Barrier (at, is) = ap (λ (n : Making). n.path) is
making_stays m new (Troubled trouble) t = ap (λ (n : Making). n.path) t.1
making_stays m new (Ended Finished part) (at, none, is) = ap (λ (n : Making). n.path) is
making_stays m new (Ended Aborted part) t = absurd t
making_stays m new (Ended Killed part) t = absurd t
making_stays m new (Ended NoMemory part) t = absurd t
making_stays m new (Began part) t = absurd t
making_stays m new (Chunk count) t = absurd t
making_stays m new (Asked question) t = absurd t
making_stays m new (Merges transfer pair names) t = absurd t
making_stays m new (Moved pair) t = absurd t
making_stays m new (Set path) t = absurd t
making_stays m new (Placed path) t = absurd t
making_stays m new (Removed made) t = absurd t
making_stays m new (Kept kept) t = absurd t
making_stays m new (Skipped path cause) t = absurd t
making_stays m new (Cleaned part) t = absurd t

pub making_winds_there : (ending : Ending) (m new : Making) (did : Did) → Winds ending m did new → new.path ≡ m.path
making_winds_there ending m new Barrier w = ap (λ (n : Making). n.path) w.1
making_winds_there ending m new (Ended how part) w = ap (λ (n : Making). n.path) w.3
making_winds_there ending m new (Began part) w = absurd w
making_winds_there ending m new (Chunk count) w = absurd w
making_winds_there ending m new (Asked question) w = absurd w
making_winds_there ending m new (Merges transfer pair names) w = absurd w
making_winds_there ending m new (Moved pair) w = absurd w
making_winds_there ending m new (Set path) w = absurd w
making_winds_there ending m new (Placed path) w = absurd w
making_winds_there ending m new (Made path) w = absurd w
making_winds_there ending m new (Removed made) w = absurd w
making_winds_there ending m new (Kept kept) w = absurd w
making_winds_there ending m new (Skipped path cause) w = absurd w
making_winds_there ending m new (Cleaned part) w = absurd w
making_winds_there ending m new (Troubled trouble) w = absurd w

-- a folder in which it changed a name before, and that is synced, isn't changed again
pub clean_making : (m new : Making) (did : Did) → Tells m did new → is_fresh m.stage ≡ false → is_dirty m.stage ≡ false → is_dirty new.stage ≡ false
clean_making m new (Made path) (at, path_is, is) changed clean = absurd (true≢false (sym (ap is_fresh at) ∙ changed))
clean_making m new Barrier (at, is) changed clean = ap (λ (n : Making). is_dirty n.stage) is
clean_making m new (Troubled trouble) t changed clean = ap (λ (n : Making). is_dirty n.stage) t.1 ∙ clean
clean_making m new (Ended Finished part) (at, none, is) changed clean = ap (λ (n : Making). is_dirty n.stage) is ∙ clean
clean_making m new (Ended Aborted part) t changed clean = absurd t
clean_making m new (Ended Killed part) t changed clean = absurd t
clean_making m new (Ended NoMemory part) t changed clean = absurd t
clean_making m new (Began part) t changed clean = absurd t
clean_making m new (Chunk count) t changed clean = absurd t
clean_making m new (Asked question) t changed clean = absurd t
clean_making m new (Merges transfer pair names) t changed clean = absurd t
clean_making m new (Moved pair) t changed clean = absurd t
clean_making m new (Set path) t changed clean = absurd t
clean_making m new (Placed path) t changed clean = absurd t
clean_making m new (Removed made) t changed clean = absurd t
clean_making m new (Kept kept) t changed clean = absurd t
clean_making m new (Skipped path cause) t changed clean = absurd t
clean_making m new (Cleaned part) t changed clean = absurd t

-- one that has made nothing has no dirty folder
pub fresh_making : (stage : MakingStage) → is_fresh stage ≡ true → is_dirty stage ≡ false
fresh_making making.Make h = refl
fresh_making making.Sync h = absurd (false≢true h)
fresh_making making.Finish h = absurd (false≢true h)
fresh_making making.PassedOver h = absurd (false≢true h)

-- there was no memory to remember the folder: no call was made
pub none_made : (m : Making) (did : Did) (calls : ℕ) (contents : Option CallLog) (f : ℕ) → is_fresh m.stage ≡ true → did ≡ Troubled (out_of_memory_at false) → calls ≡ 0 → MakingStep m m did calls contents contents f f
none_made m did calls contents f fresh is count =
    subst (λ d. MakingStep m m d calls contents contents f f) (sym is)
    (subst (λ n. MakingStep m m (Troubled (out_of_memory_at false)) n contents contents f f) (sym count) (record {
      tells = tells m.stage refl fresh;
      called = λ log known. subst (MakingCalls m (Troubled (out_of_memory_at false)) log) (sym known) (none_called log m.stage refl fresh);
      counted = λ log known now has. same_log log now contents known has;
      few = omega arith;
      unknown = λ h. h;
      later = omega arith;
      fault = λ h. absurd cc;
    }))
  where
    tells : (stage : MakingStage) → m.stage ≡ stage → is_fresh stage ≡ true → Tells m (Troubled (out_of_memory_at false)) m
    tells making.Make is h = rw is ((refused.Memory, refl), refl)
    tells making.Sync is h = absurd (false≢true h)
    tells making.Finish is h = absurd (false≢true h)
    tells making.PassedOver is h = absurd (false≢true h)

    none_called : (log : CallLog) (stage : MakingStage) → m.stage ≡ stage → is_fresh stage ≡ true → MakingCalls m (Troubled (out_of_memory_at false)) log (Some log)
    none_called log making.Make is h = rw is (refused.Memory, refl, refl)
    none_called log making.Sync is h = absurd (false≢true h)
    none_called log making.Finish is h = absurd (false≢true h)
    none_called log making.PassedOver is h = absurd (false≢true h)
