-- A job changes nothing but what it touches; in the words of the history alone. Histories stand newest first
-- here.
use Rattle.std.specs.Prelude.{◌≡◌, ℕ, true, false, List, ◌∷◌, Some}
use Rattle.mc_text.specs.Routes.{Route}
use Rattle.tree_trait.specs.Change.{CallLog}
use Rattle.job_reports.specs.declared.report.Did.{Did}
use Rattle.job_reports.specs.Jobs.{ItemOfJob}
use Rattle.job_reports.specs.Reports.{ends}
use Rattle.session_entries.specs.declared.history.Event.TheVariants.{Step}
use Rattle.session_entries.specs.declared.history.Entry.{Entry}
use Rattle.session_entries.specs.Entries.{IsMoment}
use Rattle.session_entries.specs.LiveJobs.{live_item, live_jobs}
use Rattle.session_entries.specs.Named.{names}
use Rattle.laws_sessions.specs.Touched.{touches}
use Rattle.laws_sessions.specs.Replayed.{replayed_tree}
use Rattle.laws_outcomes.specs.Begun.{tree_begun}
use Rattle.laws_outcomes.specs.Others.{have_others_named}
use Rattle.laws_outcomes.specs.Outcomes.{Finishes}

-- This entry, after the older ones, is a report of the job with this number, which is at this item.
pub record IsStepOf (e : Entry) (older : List Entry) (id : ℕ) (item : ItemOfJob) (did : Did) : Type 0 where
  pub reports : e.what ≡ Step id did
  pub its : live_item id (live_jobs older) ≡ Some item

pub record LeavesAlone (opening now : CallLog) (newest : List Entry) : Type 0 where
  -- Whatever a job reports, each path that its item doesn't touch shows what it showed before; but for the
  -- part that its end names, which shows what it then is.
  pub steps : (e : Entry) (older : List Entry) (id : ℕ) (item : ItemOfJob) (did : Did) (path : Route)
      → IsStepOf e older id item did → IsMoment newest (e ∷ older) (e ∷ older) e.calls
      → touches item path ≡ false → (ends did ≡ true → names did path ≡ false)
      → replayed_tree opening now (e ∷ older) path ≡ replayed_tree opening now older path
  -- So wherever a job is done with an item, such a path that no other job named meanwhile shows what it
  -- showed where the job began with it.
  pub since : (e : Entry) (older : List Entry) (id : ℕ) (item : ItemOfJob) (path : Route)
      → Finishes e older id item → IsMoment newest (e ∷ older) (e ∷ older) e.calls
      → touches item path ≡ false → have_others_named id path older ≡ false
      → replayed_tree opening now older path ≡ tree_begun opening now id older path
