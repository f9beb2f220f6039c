-- The entries of which little is to be kept.
use Rattle.std.specs.Prelude.{ℕ, ◌+◌}
use Rattle.job_reports.specs.declared.report.Did.{Did}
use Rattle.job_reports.specs.declared.report.Did.TheVariants as told
use Rattle.session_entries.specs.declared.history.Entry.{Entry}
use Rattle.session_packed.specs.declared.short.Short.{Short}
use Rattle.session_packed.specs.declared.short.ShortDid.{ShortDid}
use Rattle.session_packed.specs.declared.short.ShortDid.TheVariants as short
use Rattle.session_packed.specs.ReadingBack.{did_to, step_entry}

-- what such a step did
abbrev pub did_of : ShortDid → Did
did_of (short.Named kind path) = did_to kind path.now
did_of (short.Chunk count) = told.Chunk count
did_of short.Barrier = told.Barrier

-- its entry, where there were so many calls and faults before it
abbrev pub entry_of : ℕ → ℕ → Short → Entry
entry_of calls faults step = step_entry step.job (did_of step.did) (calls + step.calls) faults
