-- The mode, and then the sync and the renaming.
use Rattle.std.proofs.Common.{[], ◌∷◌, false}
use Rattle.tree_trait.specs.Calls.{SyncFile, Rename}
use Rattle.copy_file.specs.CopyCalls.{moding}
use Rattle.job_reports.specs.Stops.{RanFolded}
use Rattle.job_reports.proofs.Runs.{ran_told, ran_stopped}
use Rattle.copy_file.proofs.place.place.Goals as goal

pub returns-in-Ok : goal.returns-in-Ok
unfolding RanFolded
returns-in-Ok g c =
    ran_told (moding c.args.part.now c.args.mode) (SyncFile c.args.part.now ∷ Rename c.args.part.now c.args.target.now ∷ []) false _ _ _ _ _ _
    c.in-Ok.calls c.sync_and_rename.result c.after_calls.result c.after_calls.ensures c.in-Ok.ensures c.sync_and_rename.ensures

pub returns-in-Err : goal.returns-in-Err
returns-in-Err g c =
    ran_stopped (moding c.args.part.now c.args.mode) (SyncFile c.args.part.now ∷ Rename c.args.part.now c.args.target.now ∷ []) false _ _ _ _ c.in-Err.stop c.in-Err.ensures
