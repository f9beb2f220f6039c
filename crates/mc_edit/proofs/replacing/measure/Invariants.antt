-- What is measured and what is left to measure are the whole run.
use Rattle.std.proofs.Common.{◌≡◌, ◌+◌, ◌-◌, ◌≤◌, length}
use Rattle.memchr.specs.Find.{matches}
use Rattle.mc_edit.specs.Replacing.{replaced_run, last_end}
use Rattle.mc_edit.proofs.replacing.measure.Given as goal

abbrev pub invariant-loop-place : goal.invariant-loop-place
invariant-loop-place l =
    (l.end ≤ length l.text) ×
    (l.bytes + length (replaced_run l.text l.finder l.new l.end (matches l.text l.finder l.end))
    ≡ length (replaced_run l.text l.finder l.new 0 (matches l.text l.finder 0))) ×
    (last_end l.finder l.end (matches l.text l.finder l.end) ≡ last_end l.finder 0 (matches l.text l.finder 0))

abbrev pub decreases-loop-place : goal.decreases-loop-place
decreases-loop-place l = length l.text - l.end
