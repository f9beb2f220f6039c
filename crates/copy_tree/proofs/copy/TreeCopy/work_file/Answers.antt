-- The file's copy made the step.
use Rattle.std.proofs.Common.{◌≡◌, refl, true}
use Rattle.copy_tree.specs.Parts.{IsPartPlace}
use Rattle.copy_tree.specs.Standing.{seen_copy}
use Rattle.copy_tree.proofs.Counting.{file_counts}
use Rattle.copy_tree.proofs.Placed.{file_stands}
use Rattle.copy_tree.proofs.copy.TreeCopy.work_file.Goals as goal

pub returns-clause-works : goal.returns-clause-works
returns-clause-works g c = record {
  moved = c.step-stepped.new.self;
  tells = (let s = c.step-stepped.ensures.steps in s.tells);
  called = (let s = c.step-stepped.ensures.steps in s.called);
  falls = (let s = c.step-stepped.ensures.steps in s.falls);
  sound = c.step-stepped.ensures.sound;
  short = c.see_part.ensures;
  stands = file_stands c.step-stepped.new.self c.step-stepped.result.did c.is_dirty.result (seen_copy c.args.self.now) (seen_copy c.note.new.self) (seen_copy c.put_file.new.self) c.requires.free c.is_dirty.ensures c.note.ensures c.put_file.ensures.settled;
}

pub returns-clause-counts : goal.returns-clause-counts
returns-clause-counts g c = file_counts (IsPartPlace (g.P.PartTest.is_free c.args.parts.now) (seen_copy c.args.self.now)) c.args.copy c.step-stepped.new.self c.step-stepped.result.did _ _ _ _ _ c.step-stepped.ensures.steps
