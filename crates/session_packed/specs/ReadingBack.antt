-- How entries are read back from what is kept of them, the newest first: from the state after an entry,
-- what is kept of it leads to the state before.
use Rattle.std.specs.Prelude.{◌≡◌, ℕ, ◌-◌, ⊤, List, [], ◌∷◌, ◌++◌, length, take, drop, None}
use Rattle.std.specs.Str.{IsUtf8}
use Rattle.mc_text.specs.Routes.{Route, route_of, path_fault}
use Rattle.job_reports.specs.declared.report.Did.{Did}
use Rattle.job_reports.specs.declared.report.Did.TheVariants as told
use Rattle.session_entries.specs.declared.history.Entry.{Entry}
use Rattle.session_entries.specs.declared.history.Event.TheVariants.{Step}
use Rattle.session_packed.specs.declared.delta.PathKind.{PathKind}
use Rattle.session_packed.specs.declared.delta.PathKind.TheVariants.{Began, Placed, Removed}
use Rattle.session_packed.specs.declared.delta.PathKind.TheVariants.{Made, Set, Kept, Cleaned}
use Rattle.session_packed.specs.declared.delta.Delta.{Delta}
use Rattle.session_packed.specs.declared.delta.Delta.TheVariants.{Named, Chunk, Barrier, Whole}
use Rattle.session_packed.specs.declared.delta.WholeEntry.{WholeEntry}

-- The state after some entries: what is kept of paths, the oldest first; the entries that stand whole, the
-- newest first; the text of the newest path; and the counts of calls and faults.
pub record State : Type 0 where
  pub tails : List ℕ
  pub wholes : List WholeEntry
  pub path : List ℕ
  pub calls : ℕ
  pub faults : ℕ

abbrev pub state : List ℕ → List WholeEntry → List ℕ → ℕ → ℕ → State
state tails wholes path calls faults =
    record { tails = tails; wholes = wholes; path = path; calls = calls; faults = faults }

-- what a step of this kind did
abbrev pub did_to : PathKind → Route → Did
did_to Began path = told.Began path
did_to Placed path = told.Placed path
did_to Removed path = told.Removed path
did_to Made path = told.Made path
did_to Set path = told.Set path
did_to Kept path = told.Kept path
did_to Cleaned path = told.Cleaned path

-- the entry of a step by the main thread, which drew nothing
abbrev pub step_entry : ℕ → Did → ℕ → ℕ → Entry
step_entry job did calls faults =
    record { seat = 0; calls = calls; faults = faults; shown = 0; what = Step job did }

-- the newest of the entries that stand whole, alone
abbrev pub whole_at : List WholeEntry → List Entry
whole_at [] = []
whole_at (whole ∷ more) = whole.entry ∷ []

-- the entry of which this is kept, alone
abbrev pub entry_at : Delta → State → List Entry
entry_at (Named job shared tail calls kind) s =
    step_entry job (did_to kind (route_of s.path)) s.calls s.faults ∷ []
entry_at (Chunk job count calls) s = step_entry job (told.Chunk count) s.calls s.faults ∷ []
entry_at (Barrier job calls) s = step_entry job told.Barrier s.calls s.faults ∷ []
entry_at Whole s = whole_at s.wholes

-- the state before so many calls
abbrev pub without_calls : ℕ → State → State
without_calls calls s = state s.tails s.wholes s.path (s.calls - calls) s.faults

-- the state before a path was named: the one before it shares so many bytes with it, and goes on with the
-- last bytes that are kept of paths, so many
abbrev pub without_path : ℕ → ℕ → State → State
without_path shared tail s =
    state (take (length s.tails - tail) s.tails) s.wholes
    (take shared s.path ++ drop (length s.tails - tail) s.tails) s.calls s.faults

-- the state before an entry that stands whole
abbrev pub without_whole : List WholeEntry → State → State
without_whole [] s = s
without_whole (whole ∷ more) s = state s.tails more s.path whole.calls whole.faults

-- the state before the entry of which this is kept
abbrev pub state_before : Delta → State → State
state_before (Named job shared tail calls kind) s = without_calls calls (without_path shared tail s)
state_before (Chunk job count calls) s = without_calls calls s
state_before (Barrier job calls) s = without_calls calls s
state_before Whole s = without_whole s.wholes s

-- the entries of which these are kept, the newest first
abbrev pub entries_in : List Delta → State → List Entry
entries_in [] s = []
entries_in (delta ∷ older) s = entry_at delta s ++ entries_in older (state_before delta s)

-- there is one that stands whole
abbrev pub IsSomeWhole : List WholeEntry → Type 0
IsSomeWhole [] = ⊥
IsSomeWhole (whole ∷ more) = ⊤

-- an entry can be read back: the text is a path's, or an entry stands whole
abbrev pub IsReadable : Delta → State → Type 0
IsReadable (Named job shared tail calls kind) s = IsUtf8 s.path × (path_fault s.path ≡ None)
IsReadable (Chunk job count calls) s = ⊤
IsReadable (Barrier job calls) s = ⊤
IsReadable Whole s = IsSomeWhole s.wholes

-- so can all
abbrev pub AreReadable : List Delta → State → Type 0
AreReadable [] s = ⊤
AreReadable (delta ∷ older) s = IsReadable delta s × AreReadable older (state_before delta s)
