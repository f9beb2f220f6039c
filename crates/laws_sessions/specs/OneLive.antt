-- With one job live at a time no path is another's. Histories stand newest first here.
use Rattle.std.specs.Prelude.{◌≡◌, ℕ, true, List, Some}
use Rattle.mc_text.specs.Routes.{Route}
use Rattle.tree_trait.specs.Shape.{IsTree}
use Rattle.tree_trait.specs.Change.{CallLog, current}
use Rattle.tree_trait.specs.CrashImages.{all_settled}
use Rattle.job_reports.specs.Jobs.{ItemOfJob}
use Rattle.session_entries.specs.declared.history.Entry.{Entry}
use Rattle.session_entries.specs.LiveJobs.{live_item, live_jobs}
use Rattle.laws_sessions.specs.Traces.{IsTraced, Stand}
use Rattle.laws_sessions.specs.OwnPaths.{IsOfAnother}

-- While a job is live no other one is, so no path is one that another live job named last.
abbrev pub OneLiveLaw : Type 0
OneLiveLaw = (opening now : CallLog) (newest : List Entry) (stand : Stand) (id : ℕ) (item : ItemOfJob)
    (path : Route) → IsTree (current opening) → all_settled opening.changes ≡ true
    → IsTraced opening newest stand now → live_item id (live_jobs newest) ≡ Some item
    → IsOfAnother id newest path → ⊥
