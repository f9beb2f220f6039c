-- Each folder is still to come, or is none of the deletion's; and those to come are of the list.
use Rattle.std.proofs.Common.{◌≡◌, ◌⊎◌, false, length}
use Rattle.mc_text.specs.Routes.{Route}
use Rattle.tree_trait.specs.CrashImages.{Among}
use Rattle.job_unsynced.specs.Folders.{is_of}
use Rattle.job_unsynced.proofs.dirty.Dirty.first_of.Given as goal

abbrev pub invariant-loop-first : goal.invariant-loop-first
invariant-loop-first l = record {
  left : (kept : Route) → Among l.fn.self kept → Among l.rest kept ⊎ (is_of l.fn.folder l.fn.top kept ≡ false);
  listed : (kept : Route) → Among l.rest kept → Among l.fn.self kept;
}

abbrev pub decreases-loop-first : goal.decreases-loop-first
decreases-loop-first l = length l.rest
