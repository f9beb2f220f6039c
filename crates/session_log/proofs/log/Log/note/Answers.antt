-- A history begins no more jobs than it has entries.
use Rattle.session_log.proofs.Counting.{fits_begun}
use Rattle.session_log.proofs.log.Log.note.Goals as goal

pub overflow_add-self : goal.overflow_add-self
overflow_add-self c = fits_begun c.self.inside.started c.begun_by.result c.len-count.result c.args.entry.what c.self.inside.entries.newest c.self.invariant c.begun_by.ensures c.len-count.ensures.count c.len-count.ensures.few
