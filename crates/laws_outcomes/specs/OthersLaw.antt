-- With one job live at a time no other one names a path meanwhile. Histories stand newest first here.
use Rattle.std.specs.Prelude.{◌≡◌, ℕ, true, false, List, Some}
use Rattle.mc_text.specs.Routes.{Route}
use Rattle.tree_trait.specs.Shape.{IsTree}
use Rattle.tree_trait.specs.Change.{CallLog, current}
use Rattle.tree_trait.specs.CrashImages.{all_settled}
use Rattle.job_reports.specs.Jobs.{ItemOfJob}
use Rattle.session_entries.specs.declared.history.Entry.{Entry}
use Rattle.session_entries.specs.LiveJobs.{live_item, live_jobs}
use Rattle.laws_sessions.specs.Traces.{IsTraced, Stand}
use Rattle.laws_outcomes.specs.Others.{have_others_named}

-- While a job is at its source no other one names a path.
abbrev pub NoOthersLaw : Type 0
NoOthersLaw = (opening now : CallLog) (newest : List Entry) (stand : Stand) (id : ℕ) (item : ItemOfJob)
    (path : Route) → IsTree (current opening) → all_settled opening.changes ≡ true
    → IsTraced opening newest stand now → live_item id (live_jobs newest) ≡ Some item
    → have_others_named id path newest ≡ false
