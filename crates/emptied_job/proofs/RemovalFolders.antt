-- Where a removal stands after its steps, and which folder it leaves dirty.
use Rattle.std.proofs.Common.{◌≡◌, true, false, refl, sym, ◌∙◌, ap}
use Rattle.std.proofs.lemmas.Bool.{true≢false, false≢true}
use Rattle.job_reports.specs.declared.report.Ending.{Ending}
use Rattle.job_reports.specs.declared.report.Ending.TheVariants.{Finished}
use Rattle.job_reports.specs.declared.report.Did.{Did}
use Rattle.job_reports.specs.declared.report.Did.TheVariants.{Removed, Kept, Skipped, Barrier, Troubled, Ended}
use Rattle.job_answers.specs.declared.replies.Replies.{Replies}
use Rattle.emptied_job.specs.declared.removal.RemovalStage.{RemovalStage}
use Rattle.emptied_job.specs.declared.removal.RemovalStage.TheVariants as stage
use Rattle.emptied_job.specs.Removals.{Removing, Tells, Winds, is_dirty, is_fresh}

-- a removal stays at its path
pub removal_stays : (replies : Replies) (r new : Removing) (did : Did) → Tells replies r did new → new.path ≡ r.path
removal_stays replies r new (Removed path) (at, path_is, is) = ap (λ (n : Removing). n.path) is
removal_stays replies r new (Kept path) (at, path_is, is) = ap (λ (n : Removing). n.path) is
removal_stays replies r new (Skipped path cause) (at, path_is, over, is) = ap (λ (n : Removing). n.path) is
removal_stays replies r new Barrier (at, is) = ap (λ (n : Removing). n.path) is
removal_stays replies r new (Troubled trouble) (barrier, going, told, is) = ap (λ (n : Removing). n.path) is
removal_stays replies r new (Ended Finished part) (at, none, is) = ap (λ (n : Removing). n.path) is
removal_stays replies r new did t = absurd t

pub removal_winds_there : (ending : Ending) (r new : Removing) (did : Did) → Winds ending r did new → new.path ≡ r.path
removal_winds_there ending r new Barrier (at, is) = ap (λ (n : Removing). n.path) is
removal_winds_there ending r new (Ended how part) (clean, how_is, none, is) = ap (λ (n : Removing). n.path) is
removal_winds_there ending r new did w = absurd w

-- the folder around, once it is synced, isn't changed again
pub clean_removal : (replies : Replies) (r new : Removing) (did : Did) → Tells replies r did new → is_fresh r.stage ≡ false → is_dirty r.stage ≡ false → is_dirty new.stage ≡ false
clean_removal replies r new (Removed path) (at, path_is, is) changed clean = absurd (true≢false (sym (ap is_fresh at) ∙ changed))
clean_removal replies r new (Kept path) (at, path_is, is) changed clean = ap (λ (n : Removing). is_dirty n.stage) is
clean_removal replies r new (Skipped path cause) (at, path_is, over, is) changed clean = ap (λ (n : Removing). is_dirty n.stage) is
clean_removal replies r new Barrier (at, is) changed clean = ap (λ (n : Removing). is_dirty n.stage) is
clean_removal replies r new (Troubled trouble) (barrier, going, told, is) changed clean = ap (λ (n : Removing). is_dirty n.stage) is ∙ clean
clean_removal replies r new (Ended Finished part) (at, none, is) changed clean = ap (λ (n : Removing). is_dirty n.stage) is ∙ clean
clean_removal replies r new did t changed clean = absurd t

-- one that has removed nothing is about to
pub fresh_removal : (s : RemovalStage) → is_fresh s ≡ true → s ≡ stage.Remove
fresh_removal stage.Remove h = refl
fresh_removal s h = absurd (false≢true h)
