-- Which paths other jobs named while a job was at its source. Histories stand newest first here.
use Rattle.std.specs.Prelude.{ℕ, ◌==◌, Bool, false, not, ◌||◌, ◌&&◌, if◌then◌else◌, List, [], ◌∷◌}
use Rattle.mc_text.specs.Routes.{Route}
use Rattle.session_entries.specs.declared.history.Event.{Event}
use Rattle.session_entries.specs.declared.history.Event.TheVariants.{Key, Look, Sought, Order}
use Rattle.session_entries.specs.declared.history.Event.TheVariants.{Step, Next, Closed}
use Rattle.session_entries.specs.declared.history.Event.TheVariants as event
use Rattle.session_entries.specs.declared.history.Entry.{Entry}
use Rattle.session_entries.specs.Named.{names}

abbrev pub others_after : ℕ → Route → Event → Bool → Bool
others_after id path (event.Began number plan background) before = if number == id then false else before
others_after id path (Next number plan) before = if number == id then false else before
others_after id path (Step number did) before = before || (not (number == id) && names did path)
others_after id path (Key key now refusals lost) before = before
others_after id path (Look refusals) before = before
others_after id path Sought before = before
others_after id path (Order number order) before = before
others_after id path Closed before = before

-- another job has named this path since the one with this number took up the source at which it is
abbrev pub have_others_named : ℕ → Route → List Entry → Bool
have_others_named id path [] = false
have_others_named id path (e ∷ older) = others_after id path e.what (have_others_named id path older)
