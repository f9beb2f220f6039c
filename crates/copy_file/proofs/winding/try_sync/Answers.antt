-- The sync of the folder was tried.
use Rattle.std.proofs.Common.{refl}
use Rattle.copy_file.proofs.Tries.{winds_tried}
use Rattle.copy_file.proofs.winding.try_sync.Goals as goal

pub returns : goal.returns
returns g c = λ ending.
    winds_tried ending c.args.item.now c.args.stage _ _ _ c.folder.result.now c.sync_folder-synced.result c.calls_made.result c.refusal_in.result _ _ c.requires refl c.folder.ensures c.calls_made.ensures c.refusal_in.ensures
    c.sync_folder-synced.ensures.answer c.sync_folder-synced.ensures.stays_unknown c.sync_folder-synced.ensures.cause
