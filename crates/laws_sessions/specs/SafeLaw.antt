-- The law of what a crash leaves, and of what a session shows at its end. Histories stand newest first here.
use Rattle.std.specs.Prelude.{◌≡◌, ◌⊎◌, ℕ, ◌+◌, true, List, length}
use Rattle.mc_text.specs.Routes.{Route}
use Rattle.tree_trait.specs.declared.file_system.FileSystem.{FileSystem}
use Rattle.tree_trait.specs.FileSystem.{visible_tree}
use Rattle.tree_trait.specs.Shape.{IsTree}
use Rattle.tree_trait.specs.Change.{CallLog, current}
use Rattle.tree_trait.specs.CrashImages.{all_settled, IsCrashImage}
use Rattle.session_entries.specs.declared.history.Entry.{Entry}
use Rattle.session_entries.specs.Entries.{IsMoment}
use Rattle.session_entries.specs.LiveJobs.{live_jobs, IsLivePart}
use Rattle.laws_sessions.specs.Replayed.{log_prefix, replayed_tree}
use Rattle.laws_sessions.specs.Traces.{IsTraced, Stand}
use Rattle.laws_sessions.specs.Safe.{IsSafe}

-- The law of what a crash leaves: at each moment of a session, over a tree on which nothing was pending at
-- the opening, each crash image is safe as of the entries that stand, or with the one that is under way.
abbrev pub SessionLaw : Type 0
SessionLaw = (opening now : CallLog) (newest standing coming : List Entry) (stand : Stand) (calls : ℕ)
    (image : FileSystem)
    → IsTree (current opening) → all_settled opening.changes ≡ true → IsTraced opening newest stand now
    → IsMoment newest standing coming calls → IsCrashImage now (length opening.changes + calls) image
    → IsSafe opening now standing (log_prefix opening calls now) image
    ⊎ IsSafe opening now coming (log_prefix opening calls now) image

-- The log goes on from the opening, and what can be seen at its end is what the history makes of the
-- opening, but for the parts of live jobs.
pub record Replays (opening : CallLog) (newest : List Entry) (now : CallLog) : Type 0 where
  pub base : now.opening ≡ opening.opening
  pub tree : IsTree (current now)
  pub shows : (path : Route) → (IsLivePart (live_jobs newest) path → ⊥)
      → visible_tree (current now) path ≡ replayed_tree opening now newest path

abbrev pub ReplayLaw : Type 0
ReplayLaw = (opening now : CallLog) (newest : List Entry) (stand : Stand)
    → IsTree (current opening) → all_settled opening.changes ≡ true → IsTraced opening newest stand now
    → Replays opening newest now
