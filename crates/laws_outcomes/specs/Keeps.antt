-- Where a job keeps the file or the link at its target, or the folder there that a folder is merged with,
-- it has changed nothing; in the words of the history alone. Histories stand newest first here.
use Rattle.std.specs.Prelude.{◌≡◌, ℕ, ◌==◌, Bool, true, false, if◌then◌else◌, List, [], ◌∷◌}
use Rattle.mc_text.specs.Routes.{Route}
use Rattle.tree_trait.specs.Change.{CallLog}
use Rattle.job_reports.specs.declared.report.Did.{Did}
use Rattle.job_reports.specs.declared.report.Did.TheVariants.{Began, Chunk, Placed, Removed, Made}
use Rattle.job_reports.specs.declared.report.Did.TheVariants.{Set, Kept, Skipped, Cleaned, Barrier}
use Rattle.job_reports.specs.declared.report.Did.TheVariants.{Asked, Merges, Moved, Troubled, Ended}
use Rattle.job_reports.specs.Jobs.{Copies}
use Rattle.job_reports.specs.Reports.{ends}
use Rattle.session_entries.specs.declared.history.Event.{Event}
use Rattle.session_entries.specs.declared.history.Event.TheVariants.{Key, Look, Sought, Order}
use Rattle.session_entries.specs.declared.history.Event.TheVariants.{Step, Next, Closed}
use Rattle.session_entries.specs.declared.history.Event.TheVariants as event
use Rattle.session_entries.specs.declared.history.Entry.{Entry}
use Rattle.session_entries.specs.Entries.{IsMoment}
use Rattle.session_entries.specs.Named.{names}
use Rattle.laws_sessions.specs.Replayed.{replayed_tree}
use Rattle.laws_outcomes.specs.Outcomes.{Finishes}
use Rattle.laws_outcomes.specs.Begun.{tree_begun}
use Rattle.laws_outcomes.specs.Others.{have_others_named}
use Rattle.laws_outcomes.specs.Untouched.{IsStepOf}

-- whether a job has kept something once it has reported this: a file or a link at its target, or a folder
-- there, with which that of the source is merged
abbrev pub keeps_by : Did → Bool → Bool
keeps_by (Kept path) before = true
keeps_by (Began part) before = before
keeps_by (Chunk count) before = before
keeps_by (Placed path) before = before
keeps_by (Removed path) before = before
keeps_by (Made made) before = before
keeps_by (Set path) before = before
keeps_by (Skipped path cause) before = before
keeps_by (Cleaned part) before = before
keeps_by Barrier before = before
keeps_by (Asked question) before = before
keeps_by (Merges transfer pair names) before = true
keeps_by (Moved pair) before = before
keeps_by (Troubled trouble) before = before
keeps_by (Ended ending part) before = before

abbrev pub keeps_after : ℕ → Event → Bool → Bool
keeps_after id (event.Began number plan background) before = if number == id then false else before
keeps_after id (Step number did) before = if number == id then keeps_by did before else before
keeps_after id (Next number plan) before = if number == id then false else before
keeps_after id (Key key now refusals lost) before = before
keeps_after id (Look refusals) before = before
keeps_after id Sought before = before
keeps_after id (Order number order) before = before
keeps_after id Closed before = before

-- the job that was begun last with this number has kept something, of the source at which it is: where it
-- copies, what stood at its target
abbrev pub has_kept : ℕ → List Entry → Bool
has_kept id [] = false
has_kept id (e ∷ older) = keeps_after id e.what (has_kept id older)

pub record LeavesKept (opening now : CallLog) (newest : List Entry) : Type 0 where
  -- What a job reports once it has kept the target of its copy, each path shows what it showed before; but
  -- for the part that its end names, which shows what it then is.
  pub steps : (e : Entry) (older : List Entry) (id : ℕ) (source target : Route) (did : Did) (path : Route)
      → IsStepOf e older id (Copies source target) did → IsMoment newest (e ∷ older) (e ∷ older) e.calls
      → has_kept id older ≡ true → (ends did ≡ true → names did path ≡ false)
      → replayed_tree opening now (e ∷ older) path ≡ replayed_tree opening now older path
  -- And wherever a job is done with such a copy, each path that no other job named meanwhile shows what it
  -- showed where the job began with it.
  pub since : (e : Entry) (older : List Entry) (id : ℕ) (source target path : Route)
      → Finishes e older id (Copies source target) → IsMoment newest (e ∷ older) (e ∷ older) e.calls
      → has_kept id older ≡ true → have_others_named id path older ≡ false
      → replayed_tree opening now older path ≡ tree_begun opening now id older path
