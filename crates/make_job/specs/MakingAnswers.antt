-- What a report of a making says of the calls that were made on the tree and of their answers, on every tree,
-- also on one that tells nothing of what it holds.
use Rattle.std.specs.Prelude.{◌≡◌, List, Option, Some, None, Result, Ok, Err}
use Rattle.tree_trait.specs.Answered.{Answered, with_answer}
use Rattle.tree_trait.specs.Calls.{Call}
use Rattle.tree_trait.specs.declared.calls.TreeError.{TreeError}
use Rattle.job_reports.specs.declared.report.Did.{Did}
use Rattle.job_reports.specs.declared.report.Did.TheVariants.{Began, Chunk, Placed, Removed, Made}
use Rattle.job_reports.specs.declared.report.Did.TheVariants.{Set, Kept, Skipped, Cleaned, Barrier}
use Rattle.job_reports.specs.declared.report.Did.TheVariants.{Asked, Merges, Moved, Troubled, Ended}
use Rattle.job_reports.specs.Stops.{cause_of, sync_answer}
use Rattle.make_job.specs.Makings.{Making, call_of, sync_of}
use Rattle.make_job.specs.NewThings.{making_call}

-- the calls once this one was answered so, if there is one
abbrev pub with_answer_of : Option Call → Result (Unit {0}) TreeError → List Answered → List Answered
with_answer_of None answer calls = calls
with_answer_of (Some call) answer calls = with_answer call answer calls

-- A making and a sync are told only where their call was answered Ok, and a trouble where it was refused for
-- that cause, or there was no memory. No other call was made.
abbrev pub MakingAnswered : Making → Did → List Answered → List Answered → Type 0
MakingAnswered m (Made path) before after = after ≡ with_answer (making_call m.thing path) (Ok tt) before
MakingAnswered m Barrier before after = after ≡ with_answer_of (sync_of m.path) (Ok tt) before
MakingAnswered m (Troubled trouble) before after = (e : TreeError) × (trouble.cause ≡ cause_of e)
    × (after ≡ with_answer_of (call_of m.thing m.stage m.path) (Err e) before)
MakingAnswered m (Ended ending part) before after = after ≡ before
MakingAnswered m (Began part) before after = ⊥
MakingAnswered m (Chunk count) before after = ⊥
MakingAnswered m (Set path) before after = ⊥
MakingAnswered m (Placed path) before after = ⊥
MakingAnswered m (Removed path) before after = ⊥
MakingAnswered m (Kept kept) before after = ⊥
MakingAnswered m (Asked question) before after = ⊥
MakingAnswered m (Merges transfer pair names) before after = ⊥
MakingAnswered m (Moved pair) before after = ⊥
MakingAnswered m (Skipped path cause) before after = ⊥
MakingAnswered m (Cleaned part) before after = ⊥

-- Of a last step: the sync was answered as it tells, Ok where it tells no refusal.
abbrev pub LastMakingAnswered : Making → Did → Option TreeError → List Answered → List Answered → Type 0
LastMakingAnswered m Barrier left before after =
    after ≡ with_answer_of (sync_of m.path) (sync_answer left) before
LastMakingAnswered m did left before after = after ≡ before
