-- The move of a thing as the work of a job: its steps, its last steps and its skips.
use Rattle.std.proofs.Common.{◌≡◌, ℕ, ◌+◌, ◌*◌, ◌<◌, ◌≤◌, Bool, true, false, List, length, refl, sym, ◌∙◌, ap, subst, inl, inr, Option, arith}
use Rattle.std.specs.Prelude.{◌||◌, if◌then◌else◌}
use Rattle.std.proofs.lemmas.Bool.{false≢true, or_left, or_right}
use Rattle.mc_text.specs.Routes.{Route, is_prefix, same_path}
use Rattle.tree_trait.specs.declared.calls.TreeError.{TreeError}
use Rattle.tree_trait.specs.Change.{CallLog}
use Rattle.tree_trait.proofs.Visible.{same_path-self}
use Rattle.job_reports.specs.declared.job.Pair.{Pair}
use Rattle.job_reports.specs.declared.report.Cause.{Cause}
use Rattle.job_reports.specs.declared.report.Ending.{Ending}
use Rattle.job_reports.specs.declared.report.Ending.TheVariants.{Finished, Aborted, Killed, NoMemory}
use Rattle.job_reports.specs.declared.report.Did.{Did}
use Rattle.job_reports.specs.declared.report.Did.TheVariants.{Began, Chunk, Placed, Removed, Made, Set, Kept, Skipped, Cleaned, Barrier, Asked, Merges, Moved, Troubled, Ended}
use Rattle.job_reports.specs.Paths.{folder_of, without}
use Rattle.job_reports.specs.Reports.{ends}
use Rattle.job_reports.specs.Stops.{out_of_memory_at}
use Rattle.job_answers.specs.declared.replies.Replies.{Replies}
use Rattle.move_job.specs.declared.moving.MovingStage.{MovingStage}
use Rattle.move_job.specs.declared.moving.MovingStage.TheVariants.{Take, SyncTarget, SyncSource, Finish, PassedOver}
use Rattle.move_job.specs.Movings.{Moving, Tells, after_sync, at_barrier, is_dirty, owed_folder, owed_in, owes_target, with_moves}
use Rattle.job_unsynced.specs.Folders.{is_of}
use Rattle.move_job.specs.MovingSteps.{LastMovingStep, MovingSkips, MovingStep, TellsFault}
use Rattle.copy_move.specs.declared.work.Work.TheVariants.{Move}
use Rattle.copy_move.specs.declared.run.Course.TheVariants.{GoesOn, InTrouble}
use Rattle.delete_job.specs.DeletionSteps.{after_try}
use Rattle.copy_move.specs.Faults.{MeetsFault}
use Rattle.copy_move.specs.Jobs.{course_after, unreported_skip}
use Rattle.copy_move.specs.Ranks.{last_moving_steps, moving_rank, rank_on, tries_left}
use Rattle.copy_move.specs.Settling.{is_own, with_change}
use Rattle.copy_move.specs.JobStepReports.{WorkSkips, WorkSteps, WorkWindsUp}
use Rattle.delete_job.proofs.DeletionRuns.{fewer}
use Rattle.copy_move.proofs.Falling.{waiting_falls}
use Rattle.copy_move.proofs.FolderSteps.{one_more, tried_more, tries_after}
use Rattle.copy_move.proofs.MovingFalls.{last_moving_falls, moving_tried_low, unmoved_falls}

-- a move that stands where it stood leaves the dirty folders so
pub no_moves : (stage : MovingStage) (pair : Pair) (dirty : List Route) → with_moves stage stage pair dirty ≡ dirty
no_moves Take pair dirty = refl
no_moves SyncTarget pair dirty = refl
no_moves SyncSource pair dirty = refl
no_moves Finish pair dirty = refl
no_moves PassedOver pair dirty = refl

-- it adds two folders at most
pub two_more : (old new : MovingStage) (pair : Pair) (dirty : List Route) → length (with_moves old new pair dirty) ≤ length dirty + 2
two_more old new pair dirty =
    more (length dirty) (length (with_change (owes_target old) (owes_target new) (folder_of pair.target) dirty)) (length (with_moves old new pair dirty))
    (one_more (owes_target old) (owes_target new) (folder_of pair.target) dirty)
    (one_more (is_dirty old) (is_dirty new) (folder_of pair.source) (with_change (owes_target old) (owes_target new) (folder_of pair.target) dirty))
  where
    more : (many mid few : ℕ) → mid ≤ many + 1 → few ≤ mid + 1 → few ≤ many + 2
    more many mid few one two = omega (arith, one, two)

-- so many steps are left, with the dirty folders, each of which may have to be synced and to be tried
abbrev weight : ℕ → List Route → ℕ
weight rank dirty = 3 * rank + (length dirty + length dirty)

-- a step to this stage leaves fewer, where that leaves so many
abbrev Falls : MovingStage → ℕ → MovingStage → Pair → List Route → Type 0
Falls old low new pair dirty = weight low (with_moves old new pair dirty) < weight (moving_rank old) dirty

one_rank : (low high few many : ℕ) → low < high → few ≤ many → 3 * low + (few + few) < 3 * high + (many + many)
one_rank low high few many less more = omega (arith, less, more)

two_ranks : (few many : ℕ) → few ≤ many + 2 → 3 * 6 + (few + few) < 3 * 8 + (many + many)
two_ranks few many more = omega (arith, more)

same_length : (after dirty : List Route) → after ≡ dirty → length after ≤ length dirty
same_length after dirty same = let count = ap length same in omega (arith, count)

-- where it stood
stands_low : (low : ℕ) (stage : MovingStage) (pair : Pair) (dirty : List Route) → low < moving_rank stage → Falls stage low stage pair dirty
stands_low low stage pair dirty less =
    one_rank low (moving_rank stage) (length (with_moves stage stage pair dirty)) (length dirty) less (same_length (with_moves stage stage pair dirty) dirty (no_moves stage pair dirty))

-- once its thing was renamed
renamed_low : (pair : Pair) (dirty : List Route) → Falls Take 6 SyncTarget pair dirty
renamed_low pair dirty = two_ranks (length (with_moves Take SyncTarget pair dirty)) (length dirty) (two_more Take SyncTarget pair dirty)

-- once it stays
passed_low : (pair : Pair) (dirty : List Route) → Falls Take 4 PassedOver pair dirty
passed_low pair dirty = one_rank 4 8 (length dirty) (length dirty) (omega arith) (omega arith)

-- once a folder was synced
synced_low : (stage : MovingStage) (pair : Pair) (dirty : List Route) → is_dirty stage ≡ true → Falls stage (moving_rank (after_sync pair stage)) (after_sync pair stage) pair dirty
synced_low Take pair dirty h = absurd (false≢true h)
synced_low SyncTarget pair dirty h = by (same_path (folder_of pair.target) (folder_of pair.source))
  where
    rest : List Route
    rest = without (folder_of pair.target) dirty

    twice : (few mid many : ℕ) → few ≤ mid → mid ≤ many → few ≤ many
    twice few mid many one two = omega (arith, one, two)

    by : (once : Bool) → Falls SyncTarget (moving_rank (if once then Finish else SyncSource)) (if once then Finish else SyncSource) pair dirty
    by true = one_rank 4 6 (length (without (folder_of pair.source) rest)) (length dirty) (omega arith)
        (twice (length (without (folder_of pair.source) rest)) (length rest) (length dirty) (fewer (folder_of pair.source) rest) (fewer (folder_of pair.target) dirty))
    by false = one_rank 5 6 (length rest) (length dirty) (omega arith) (fewer (folder_of pair.target) dirty)
synced_low SyncSource pair dirty h = one_rank 4 5 (length (without (folder_of pair.source) dirty)) (length dirty) (omega arith) (fewer (folder_of pair.source) dirty)
synced_low Finish pair dirty h = absurd (false≢true h)
synced_low PassedOver pair dirty h = absurd (false≢true h)

moving_falls : (replies : Replies) (m new : Moving) (did : Did) (dirty : List Route) → Tells replies m did new → ends did ≡ false → Falls m.stage (rank_on (course_after did) (Move new)) new.stage m.pair dirty
moving_falls replies m new (Moved pair) dirty (at, pair_is, is) h =
    subst (λ (n : Moving). Falls m.stage (moving_rank n.stage) n.stage m.pair dirty) (sym is) (subst (λ s. Falls s 6 SyncTarget m.pair dirty) (sym at) (renamed_low m.pair dirty))
moving_falls replies m new (Kept path) dirty (at, path_is, is) h =
    subst (λ (n : Moving). Falls m.stage (moving_rank n.stage) n.stage m.pair dirty) (sym is) (subst (λ s. Falls s 4 PassedOver m.pair dirty) (sym at) (passed_low m.pair dirty))
moving_falls replies m new (Merges transfer pair names) dirty (at, merges, is) h =
    subst (λ (n : Moving). Falls m.stage (moving_rank n.stage) n.stage m.pair dirty) (sym is) (subst (λ s. Falls s 4 PassedOver m.pair dirty) (sym at) (passed_low m.pair dirty))
moving_falls replies m new (Skipped path cause) dirty (at, path_is, passes, is) h =
    subst (λ (n : Moving). Falls m.stage (moving_rank n.stage) n.stage m.pair dirty) (sym is) (subst (λ s. Falls s 4 PassedOver m.pair dirty) (sym at) (passed_low m.pair dirty))
moving_falls replies m new Barrier dirty (owed, is) h =
    subst (λ (n : Moving). Falls m.stage (moving_rank n.stage) n.stage m.pair dirty) (sym is) (synced_low m.stage m.pair dirty owed)
moving_falls replies m new (Asked question) dirty (at, is) h =
    subst (λ (n : Moving). Falls m.stage (last_moving_steps n.stage) n.stage m.pair dirty) (sym is) (stands_low (last_moving_steps m.stage) m.stage m.pair dirty (moving_tried_low m.stage))
moving_falls replies m new (Troubled trouble) dirty (barrier, undone, cause, is) h =
    subst (λ (n : Moving). Falls m.stage (last_moving_steps n.stage) n.stage m.pair dirty) (sym is) (stands_low (last_moving_steps m.stage) m.stage m.pair dirty (moving_tried_low m.stage))
moving_falls replies m new (Ended Finished part) dirty t h = absurd cc
moving_falls replies m new (Ended Aborted part) dirty t h = absurd t
moving_falls replies m new (Ended Killed part) dirty t h = absurd t
moving_falls replies m new (Ended NoMemory part) dirty t h = absurd t
moving_falls replies m new (Began part) dirty t h = absurd t
moving_falls replies m new (Chunk count) dirty t h = absurd t
moving_falls replies m new (Set path) dirty t h = absurd t
moving_falls replies m new (Placed path) dirty t h = absurd t
moving_falls replies m new (Removed path) dirty t h = absurd t
moving_falls replies m new (Made path) dirty t h = absurd t
moving_falls replies m new (Cleaned part) dirty t h = absurd t

with_tries : (low high few many tries : ℕ) → 3 * low + (few + few) < 3 * high + (many + many) → tries ≡ few → 3 * low + (few + tries) < 3 * high + (many + many)
with_tries low high few many tries less is = omega (arith, less, is)

-- a fault that a job meets is one of which the move tells
fault_so : (did : Did) → MeetsFault GoesOn did → TellsFault did
fault_so (Troubled trouble) h = h
fault_so (Skipped path cause) h = h
fault_so (Began part) h = h
fault_so (Chunk count) h = h
fault_so (Asked question) h = h
fault_so (Merges transfer pair names) h = h
fault_so (Moved pair) h = h
fault_so (Set path) h = h
fault_so (Placed path) h = h
fault_so (Removed path) h = h
fault_so (Made path) h = h
fault_so (Kept path) h = h
fault_so (Cleaned part) h = h
fault_so Barrier h = h
fault_so (Ended ending part) h = h

-- a step
module _ (unclaimed : Route → Type 0) (replies : Replies) (m new : Moving) (did : Did) (calls : ℕ) (dirty dirty_after : List Route) (before after : Option CallLog) (f0 f1 : ℕ) where
  pub moving_steps : MovingStep replies m new did calls before after f0 f1 → dirty_after ≡ with_moves m.stage new.stage m.pair dirty
      → WorkSteps unclaimed replies (Move m) (Move new) did calls dirty dirty_after before after f0 f1
  moving_steps s leaves = record {
    tells = s.tells;
    walks = tt;
    called = s.called;
    leaves = leaves;
    counted = s.counted;
    few = let few = s.few in omega (arith, few);
    unknown = s.unknown;
    later = s.later;
    fault = λ h. s.fault (fault_so did h);
    falls = λ going.
        with_tries (rank_on (course_after did) (Move new)) (moving_rank m.stage) (length dirty_after) (length dirty) (tries_left (course_after did) (Move new) dirty_after)
        (subst (λ xs. weight (rank_on (course_after did) (Move new)) xs < weight (moving_rank m.stage) dirty) (sym leaves) (moving_falls replies m new did dirty s.tells going))
        (tries_after did (Move new) dirty_after);
  }

-- the folder that is tried is one of the two
source_own : (pair : Pair) → (is_of (folder_of pair.source) pair.source (folder_of pair.source) || is_of (folder_of pair.target) pair.target (folder_of pair.source)) ≡ true
source_own pair = or_left _ (is_of (folder_of pair.target) pair.target (folder_of pair.source)) (or_left _ (is_prefix pair.source (folder_of pair.source)) (same_path-self (folder_of pair.source)))

owed_own : (m : Moving) (stage : MovingStage) → is_own (Move m) (owed_in m.pair stage) ≡ true
owed_own m SyncTarget = or_right (is_of (folder_of m.pair.source) m.pair.source (folder_of m.pair.target)) _ (or_left _ (is_prefix m.pair.target (folder_of m.pair.target)) (same_path-self (folder_of m.pair.target)))
owed_own m Take = source_own m.pair
owed_own m SyncSource = source_own m.pair
owed_own m Finish = source_own m.pair
owed_own m PassedOver = source_own m.pair

-- a last step
pub moving_winds_up : (ending : Ending) (m new : Moving) (did : Did) (calls : ℕ) (left : Option TreeError) (dirty dirty_after : List Route) (before after : Option CallLog) (f0 f1 : ℕ) → LastMovingStep ending m new did calls left before after f0 f1
    → dirty_after ≡ after_try did left (owed_folder m) dirty → WorkWindsUp ending (Move m) (Move new) did calls left dirty dirty_after before after f0 f1
moving_winds_up ending m new did calls left dirty dirty_after before after f0 f1 w leaves = record {
  tells = w.tells;
  walks = tt;
  called = w.called;
  folder = owed_folder m;
  own = owed_own m m.stage;
  dirty_is = leaves;
  synced = λ log known. (refl, w.synced log known);
  counted = w.counted;
  few = let few = w.few in omega (arith, few);
  unknown = w.unknown;
  later = w.later;
  fault = w.fault;
  falls = λ going.
      let low = last_moving_falls ending m new did w.tells going in
      let more = subst (λ xs. length xs ≤ length dirty + 1) (sym leaves) (tried_more did left (owed_folder m) dirty) in
      omega (arith, low, more);
}

-- a skip
pub moving_skips : (cause : Cause) (m new : Moving) (did : Did) → MovingSkips cause m did new → at_barrier m.stage ≡ false → WorkSkips cause (Move m) did (Move new)
moving_skips cause m new did (inl (did_is, new_is)) apart = record {
  walks = apart;
  skips = inl (m.pair.source, did_is, (refl, new_is));
  falls = subst (λ d. rank_on (course_after d) (Move new) < 10) (sym did_is) (subst (λ (n : Moving). moving_rank n.stage < 10) (sym new_is) (unmoved_falls m.stage));
}
moving_skips cause m new did (inr (did_is, new_is)) apart = record {
  walks = apart;
  skips = inr (did_is ∙ ap (λ b. Troubled (out_of_memory_at b)) apart, ap Move new_is);
  falls = subst (λ d. rank_on (course_after d) (Move new) < 10) (sym did_is) (subst (λ (n : Moving). rank_on (InTrouble unreported_skip) (Move n) < 10) (sym new_is) (waiting_falls (Move m) tt));
}
