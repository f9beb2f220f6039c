-- Whatever the list is, it stays so at the end.
use Rattle.copy_job.proofs.working.work.Goals as goal

pub returns-then-is_done-clause-works : goal.returns-then-is_done-clause-works
returns-then-is_done-clause-works g c = c.finish.ensures.works c.args.dirty.now
