-- What a job puts at a path for a source, whole, by what stood at each path when it took that up.
use Rattle.std.specs.Prelude.{bit_or, List, [], ◌∷◌, map, Option, Some, None}
use Rattle.mc_text.specs.Routes.{Route}
use Rattle.mc_text.specs.declared.kind.Kind.{Kind}
use Rattle.mc_text.specs.declared.kind.Kind.TheVariants.{File, Folder, Link, Other}
use Rattle.tree_trait.specs.FileSystem.{Value}
use Rattle.job_reports.specs.Jobs.{ItemOfJob, Copies, Moves, Removes, Makes, MakesLink, Sets, RemovesEmptied}
use Rattle.session_entries.specs.Moves.{moved_from}
use Rattle.laws_sessions.specs.Replayed.{new_folder, new_link, placed_copy, with_mode}

-- A copy of a thing: of a file its bytes and its mode, of a link its text; of a folder one with its mode,
-- or, until it has been given that, with its mode and all that its owner may do.
abbrev pub copies_as : Kind → Value → List Value
copies_as Folder x = with_mode (bit_or x.mode 0o700) new_folder ∷ with_mode x.mode new_folder ∷ []
copies_as File x = placed_copy x ∷ []
copies_as Link x = placed_copy x ∷ []
copies_as Other x = placed_copy x ∷ []

abbrev pub copies_of : Option Value → List Value
copies_of None = []
copies_of (Some x) = copies_as x.kind x

-- over what stands comes the copy of a file or a link; of a folder at most its mode
abbrev pub copies_over : Kind → Value → List Value
copies_over Folder x = with_mode x.mode new_folder ∷ []
copies_over File x = placed_copy x ∷ []
copies_over Link x = placed_copy x ∷ []
copies_over Other x = placed_copy x ∷ []

abbrev pub overs_of : Option Value → List Value
overs_of None = []
overs_of (Some x) = copies_over x.kind x

abbrev pub only : Option Value → List Value
only None = []
only (Some x) = x ∷ []

-- what may come to a path: a copy of what stood as far below the source as the path lies below the target,
-- that itself where it is moved, what is made, or what stood there with another mode
abbrev pub new_things : ItemOfJob → (Route → Option Value) → Route → List Value
new_things (Copies source target) stood path = copies_of (stood (moved_from source target path))
new_things (Moves source target) stood path = only (stood (moved_from source target path))
new_things (Makes made) stood path = new_folder ∷ []
new_things (MakesLink made text) stood path = new_link text ∷ []
new_things (Sets thing mode) stood path = map (with_mode mode) (only (stood path))
new_things (Removes top) stood path = []
new_things (RemovesEmptied folder) stood path = []

-- and what may come to one at which something stands: nothing is made there
abbrev pub over_things : ItemOfJob → (Route → Option Value) → Route → List Value
over_things (Copies source target) stood path = overs_of (stood (moved_from source target path))
over_things (Moves source target) stood path = only (stood (moved_from source target path))
over_things (Makes made) stood path = []
over_things (MakesLink made text) stood path = []
over_things (Sets thing mode) stood path = map (with_mode mode) (only (stood path))
over_things (Removes top) stood path = []
over_things (RemovesEmptied folder) stood path = []
