-- Steps of a small copy that is told all that its tree holds, as its job makes them under these answers.
use Rattle.std.proofs.Common.{◌≡◌, ℕ, Bool, true, false, List, [], refl, sym, subst, ap, Option, Some, arith}
use Rattle.std.specs.Prelude.{⊤}
use Rattle.mc_text.specs.Routes.{Route}
use Rattle.tree_trait.specs.Change.{CallLog}
use Rattle.tree_trait.specs.CrashImages.{Among}
use Rattle.job_answers.specs.declared.replies.Replies.{Replies}
use Rattle.job_reports.specs.declared.report.Did.{Did}
use Rattle.job_reports.specs.declared.report.Did.TheVariants.{Began, Chunk, Placed, Removed, Made, Set, Kept, Skipped, Cleaned, Barrier, Asked, Merges, Moved, Troubled, Ended}
use Rattle.copy_folders.specs.Levels.{passed_levels}
use Rattle.copy_tree.specs.Reports.{changes}
use Rattle.copy_tree.specs.Standing.{Seen, is_fresh}
use Rattle.copy_tree.specs.TreeCopySteps.{at_end}
use Rattle.copy_job.specs.Merged.{IsOver}
use Rattle.copy_job.specs.Reporting.{ChangesOwn, MayTell}
use Rattle.copy_job.specs.Standing.{SubtreeCopying}
use Rattle.copy_job.specs.SubtreeSteps.{SubtreeSteps}
use Rattle.copy_job.specs.Told.{IsAfter}
use Rattle.copy_job.specs.Unbegun.{MayBegin}
use Rattle.copy_move.specs.declared.run.Course.{Course}
use Rattle.copy_move.specs.declared.run.Course.TheVariants.{GoesOn}
use Rattle.copy_move.specs.declared.work.Work.TheVariants.{Copy}
use Rattle.copy_move.specs.Jobs.{Running, course_after}
use Rattle.copy_move.specs.TreeCopies.{Goes, Tells}
use Rattle.laws_sessions.specs.Traces.{IsUnclaimed, WorkLeads}

-- the job of a copy that stands so
abbrev pub job : Replies → Course → SubtreeCopying → Running
job replies course c = record { id = 1; work = Copy c; course = course; replies = replies }

-- the copy once it is done with its top, and at the end of the folder that holds that
abbrev pub with_top_passed : SubtreeCopying → SubtreeCopying
with_top_passed c = record c { at = (let s : Seen = c.at in record s { levels = passed_levels false s.levels }) }

abbrev pub at_last : SubtreeCopying → SubtreeCopying
at_last c = record c { at = at_end c.at }

-- any path may be a part's
abbrev pub anywhere : Route → Bool
anywhere path = true

abbrev pub IsStep : Replies → SubtreeCopying → SubtreeCopying → Did → ℕ → List Route → List Route → CallLog → CallLog → Type 0
IsStep replies old new did calls dirty dirty_after before now = SubtreeSteps anywhere replies old new did calls dirty dirty_after (let o : Option CallLog = Some before in o) (let o : Option CallLog = Some now in o) 0 0

-- a report that tells of no name and of no trouble
abbrev IsOwn : Did → Type 0
IsOwn (Removed path) = ⊥
IsOwn (Kept path) = ⊥
IsOwn (Skipped path cause) = ⊥
IsOwn (Asked question) = ⊥
IsOwn (Merges transfer pair names) = ⊥
IsOwn (Moved pair) = ⊥
IsOwn (Troubled trouble) = ⊥
IsOwn did = ⊤

pub tells_own : (replies : Replies) (old new : SubtreeCopying) (did : Did) → IsOwn did → MayTell did → IsAfter did old new → (is_fresh old.at.stage ≡ true → MayBegin did) → (IsOver old.at → IsOver new.at × (changes did ≡ false)) → Tells replies old did new
tells_own replies old new did own may after first over = record {
  may = may;
  after = after;
  first = first;
  barred = λ trouble is. absurd (subst IsOwn is own);
  apart = λ trouble is. absurd (subst IsOwn is own);
  kinds = λ path cause is. absurd (subst IsOwn is own);
  merged = λ pair names is. absurd (subst IsOwn is own);
  kept = λ path is. absurd (subst IsOwn is own);
  asked = λ question is. absurd (subst IsOwn is own);
  over = over;
}

pub works : (replies : Replies) (course : Course) (old new : SubtreeCopying) (did : Did) (calls : ℕ) (dirty dirty_after : List Route) (before now : CallLog) → Tells replies old did new → course_after did ≡ course → IsStep replies old new did calls dirty dirty_after before now
    → (is_fresh old.at.stage ≡ true → dirty ≡ []) → ChangesOwn old did dirty dirty_after → WorkLeads (job replies GoesOn old) did (job replies course new) dirty dirty_after before now
works replies course old new did calls dirty dirty_after before now tells on step clean leaves = record {
  tells = (Copy new, tells, ap (λ c. job replies c new) (sym on));
  called = record { calls = calls; dirty = dirty; dirty_after = dirty_after; faults = 0; faults_after = 0; goes = goes };
  settled = λ way fresh kept among. absurd (subst (λ xs. Among xs kept) (clean fresh) among);
  cleared = λ way fresh kept among. absurd (subst (λ xs. Among xs kept) (clean fresh) among);
  leaves = leaves;
  walks = (calls, 0, 0, goes);
}
  where
    goes : Goes IsUnclaimed replies old new did calls dirty dirty_after (let o : Option CallLog = Some before in o) (let o : Option CallLog = Some now in o) 0 0
    goes = record { free = anywhere; allows = λ path allowed. refl; since = 0; later = omega arith; steps = step }
