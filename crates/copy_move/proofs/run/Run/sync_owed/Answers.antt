-- What is dirty was synced, or that was refused.
use Rattle.std.proofs.Common.{ap, refl}
use Rattle.copy_move.specs.declared.run.Course.TheVariants.{OwedSyncFailed}
use Rattle.copy_move.specs.Jobs.{Running}
use Rattle.copy_move.proofs.OwedSyncs.{owed_refused, owed_synced}
use Rattle.copy_move.proofs.run.Run.sync_owed.Goals as goal

pub returns-in-Ok : goal.returns-in-Ok
returns-in-Ok g c =
    record { steps = owed_synced c.args.owed _ _ _ c.requires.course c.requires.fresh c.requires.owed c.requires.going _ _ _ _ c.in-Ok.calls c.in-Ok.ensures c.remove.ensures }

pub returns : goal.returns
returns g c =
    record {
      steps = owed_refused c.args.owed _ _ _ c.requires.course c.requires.fresh c.requires.owed c.requires.going _ _ _ _ c.in-Err.stop _ c.in-Err.ensures
          (ap (λ (j : Running). let k : Running = record j { course = OwedSyncFailed c.in-Err.stop.trouble.cause } in k) c.self.view_is) refl;
    }
