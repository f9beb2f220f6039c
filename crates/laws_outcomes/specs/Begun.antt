-- The tree as it was where a job began with its source; in the words of the history alone. Histories
-- stand newest first here.
use Rattle.std.specs.Prelude.{ℕ, ◌==◌, if◌then◌else◌, List, [], ◌∷◌}
use Rattle.tree_trait.specs.FileSystem.{View, visible_tree}
use Rattle.tree_trait.specs.Change.{CallLog, current}
use Rattle.session_entries.specs.declared.history.Event.{Event}
use Rattle.session_entries.specs.declared.history.Event.TheVariants.{Key, Look, Sought, Order}
use Rattle.session_entries.specs.declared.history.Event.TheVariants.{Step, Next, Closed}
use Rattle.session_entries.specs.declared.history.Event.TheVariants as event
use Rattle.session_entries.specs.declared.history.Entry.{Entry}
use Rattle.laws_sessions.specs.Replayed.{replayed_tree}

abbrev pub begun_after : ℕ → Event → View → View → View
begun_after id (event.Began number plan background) now before = if number == id then now else before
begun_after id (Step number did) now before = before
begun_after id (Key key time refusals lost) now before = before
begun_after id (Look refusals) now before = before
begun_after id Sought now before = before
begun_after id (Order number order) now before = before
begun_after id (Next number plan) now before = if number == id then now else before
begun_after id Closed now before = before

-- the tree as the history makes it where the job with this number was begun last, or
-- went on with a source last
abbrev pub tree_begun : CallLog → CallLog → ℕ → List Entry → View
tree_begun opening now id [] = visible_tree (current opening)
tree_begun opening now id (e ∷ older) =
    begun_after id e.what (replayed_tree opening now older) (tree_begun opening now id older)
