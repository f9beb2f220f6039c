-- The order in which a mode is set: it is given, the thing itself is synced, and only then
-- is the setting finished.
use Rattle.std.specs.Prelude.{◌≡◌, ◌⊎◌, ℕ, Bool, true, false, None}
use Rattle.mc_text.specs.Routes.{Route}
use Rattle.job_reports.specs.declared.report.Cause.TheVariants.{Memory}
use Rattle.job_reports.specs.declared.report.Ending.TheVariants.{Finished}
use Rattle.job_reports.specs.declared.report.Did.{Did}
use Rattle.job_reports.specs.declared.report.Did.TheVariants.{Set, Skipped, Barrier, Troubled, Ended}
use Rattle.job_answers.specs.declared.replies.Replies.{Replies}
use Rattle.job_answers.specs.Skipping.{holds, is_passed_over, kind_in}
use Rattle.mode_job.specs.declared.setting.Stage.{Stage}
use Rattle.mode_job.specs.declared.setting.Stage.TheVariants.{Give, Sync, Done}

-- a setting as it stands: the thing, the mode, and what is to be done next
pub record Setting : Type 0 where
  pub path : Route
  pub mode : ℕ
  pub stage : Stage

abbrev pub setting : Route → ℕ → Stage → Setting
setting path mode stage = record { path = path; mode = mode; stage = stage }

-- the next call is at a barrier: the sync
abbrev pub at_barrier : Stage → Bool
at_barrier Give = false
at_barrier Sync = true
at_barrier Done = true

-- the mode was given, and no sync has brought it onto the disk
abbrev pub is_dirty : Stage → Bool
is_dirty Give = false
is_dirty Sync = true
is_dirty Done = false

-- nothing was changed yet
abbrev pub is_fresh : Stage → Bool
is_fresh Give = true
is_fresh Sync = false
is_fresh Done = false

-- a thing that is skipped keeps its mode
abbrev pub skipped_stage : Stage → Stage
skipped_stage Give = Done
skipped_stage Sync = Sync
skipped_stage Done = Done

-- What a step may report, and where the setting stands then. A trouble is told of whose kind none is to be
-- passed over, or there was no memory.
abbrev pub Tells : Replies → Setting → Did → Setting → Type 0
Tells replies s (Set path) new = (s.stage ≡ Give) × (path ≡ s.path) × (new ≡ record s { stage = Sync })
Tells replies s Barrier new = (s.stage ≡ Sync) × (new ≡ record s { stage = Done })
Tells replies s (Skipped path cause) new = (s.stage ≡ Give) × (path ≡ s.path)
    × (holds replies.skips (kind_in cause) ≡ true) × (new ≡ record s { stage = Done })
Tells replies s (Troubled trouble) new =
    (trouble.barrier ≡ at_barrier s.stage)
    × ((is_passed_over replies.skips trouble ≡ false) ⊎ (trouble.cause ≡ Memory)) × (new ≡ s)
Tells replies s (Ended Finished part) new = (s.stage ≡ Done) × (part ≡ None) × (new ≡ s)
Tells replies s did new = ⊥
