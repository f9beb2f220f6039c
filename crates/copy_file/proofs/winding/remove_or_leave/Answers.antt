-- The part was removed, or it stays.
use Rattle.copy_file.proofs.Tries.{winds_cleaned, winds_left}
use Rattle.copy_file.proofs.winding.remove_or_leave.Goals as goal

pub returns-in-Ok : goal.returns-in-Ok
returns-in-Ok g c = λ ending stage has.
    winds_cleaned ending c.args.item.now stage _ _ c.args.part has c.in-Ok.field-0 _ _ c.in-Ok.ensures.answer c.in-Ok.ensures.stays_unknown c.in-Ok.ensures.cause

pub returns-in-Err : goal.returns-in-Err
returns-in-Err g c = λ ending stage has.
    winds_left ending c.args.item.now stage _ _ c.args.part has c.in-Err.error _ c.leave.result c.calls_made.result _ _ _ c.calls_made.ensures
    c.in-Err.ensures.answer c.in-Err.ensures.stays_unknown c.in-Err.ensures.cause.later c.leave.ensures
