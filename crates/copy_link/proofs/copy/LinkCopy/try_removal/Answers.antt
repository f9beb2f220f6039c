-- The part is gone, or it stays.
use Rattle.copy_link.proofs.Removing.{removal_cleaned, removal_stays}
use Rattle.copy_link.proofs.copy.LinkCopy.try_removal.Goals as goal

pub returns-in-Ok : goal.returns-in-Ok
returns-in-Ok g c =
    removal_cleaned c.args.self.now c.self.inside.places c.self.inside.stage c.self.inside.folder c.part.result.now _ _ _ _ c.self.view_is c.part.ensures
    c.in-Ok.field-0 c.in-Ok.ensures.answer c.in-Ok.ensures.stays_unknown c.in-Ok.ensures.cause

pub returns-in-Err : goal.returns-in-Err
returns-in-Err g c =
    removal_stays c.args.self.now c.self.inside.places c.self.inside.stage c.self.inside.folder c.part.result.now _ _ _ _ c.self.view_is c.part.ensures
    c.in-Err.error c.calls_made.result c.calls_made.ensures c.in-Err.ensures.answer c.in-Err.ensures.stays_unknown c.in-Err.ensures.cause
