-- What is built and what is left to build are the whole run.
use Rattle.std.proofs.Common.{◌≡◌, ◌-◌, ◌≤◌, ◌++◌, length}
use Rattle.memchr.specs.Find.{matches}
use Rattle.mc_edit.specs.Replacing.{replaced_run}
use Rattle.mc_edit.proofs.replacing.build.Given as goal

abbrev pub invariant-loop-place : goal.invariant-loop-place
invariant-loop-place l =
    (l.end ≤ length l.text) ×
    (l.bytes.items ++ replaced_run l.text l.finder l.new l.end (matches l.text l.finder l.end)
    ≡ replaced_run l.text l.finder l.new 0 (matches l.text l.finder 0))

abbrev pub decreases-loop-place : goal.decreases-loop-place
decreases-loop-place l = length l.text - l.end
