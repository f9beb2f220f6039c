-- The link's copy made the step.
use Rattle.std.proofs.Common.{refl}
use Rattle.copy_tree.specs.Standing.{seen_copy}
use Rattle.copy_tree.proofs.Counting.{link_counts}
use Rattle.copy_tree.proofs.Placed.{link_stands, link_stays}
use Rattle.copy_tree.proofs.copy.TreeCopy.work_link.Goals as goal

pub returns-clause-works : goal.returns-clause-works
returns-clause-works g c = record {
  moved = c.step-stepped.new.self;
  tells = (let s = c.step-stepped.ensures in s.tells);
  called = (let s = c.step-stepped.ensures in s.called);
  falls = (let s = c.step-stepped.ensures in s.falls);
  stands = link_stands c.step-stepped.new.self c.step-stepped.result.did c.is_dirty.result (seen_copy c.args.self.now) (seen_copy c.note.new.self) (seen_copy c.put_link.new.self) c.requires.free c.is_dirty.ensures c.note.ensures c.put_link.ensures.settled;
}

pub returns-clause-counts : goal.returns-clause-counts
returns-clause-counts g c = link_counts c.args.copy c.step-stepped.new.self c.step-stepped.result.did _ _ _ _ _ c.step-stepped.ensures

pub put_link-requires-clause-ready : goal.put_link-requires-clause-ready
put_link-requires-clause-ready g c = link_stays c.args.copy c.step-stepped.new.self c.step-stepped.result.did c.requires.ready (let s = c.step-stepped.ensures in s.tells)
