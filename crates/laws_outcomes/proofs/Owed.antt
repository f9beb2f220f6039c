-- The sync of what an ended job left dirty changes nothing that can be seen.
use Rattle.std.proofs.Common.{◌≡◌, List, refl, ap, inl, inr, Some}
use Rattle.mc_text.specs.Routes.{Route}
use Rattle.tree_trait.specs.Change.{CallLog, Nothing, Syncs, current}
use Rattle.job_reports.specs.declared.report.Did.{Did}
use Rattle.copy_move.specs.Jobs.{Running}
use Rattle.copy_move.specs.JobStepReports.{SyncsOwed}
use Rattle.laws_sessions.specs.Traces.{SyncLeads}
use Rattle.laws_sessions.proofs.Calming.{thing_done, thing_stopped}
use Rattle.laws_sessions.proofs.JobKnows.{still_same}

pub owed_still : (job : Running) (did : Did) (new : Running) (dirty dirty_after : List Route) (log now : CallLog) → SyncLeads job did new dirty dirty_after log now → current now ≡ current log
owed_still job did new dirty dirty_after log now syncs = by syncs.synced
  where
    by : SyncsOwed job syncs.path did new dirty dirty_after (Some log) (Some now) → current now ≡ current log
    by (inl s) = let d = thing_done log now syncs.path (s.called log refl) in still_same log now (Syncs d.0, d.2, inr (d.0, refl))
    by (inr s) = elim (thing_stopped log now syncs.path s.trouble.cause s.trouble.path (s.called log refl)) [
      | inl same ↦ ap current same
      | inr more ↦ still_same log now (Nothing, more, inl refl)
    ]
