-- How far a walk is, and how it goes on.
use Rattle.std.specs.Prelude.{ℕ, ◌+◌, ◌*◌, List, [], ◌∷◌, length, Result, Ok}
use Rattle.mc_text.specs.Routes.{Route}
use Rattle.tree_trait.specs.declared.file_system.FileSystem.{FileSystem}
use Rattle.resolving.specs.declared.error.ResolveError.{ResolveError}
use Rattle.resolving.specs.declared.walking.Wanted.{Wanted}
use Rattle.resolving.specs.declared.walking.Place.{Place}
use Rattle.resolving.specs.declared.walking.Course.{Course}
use Rattle.resolving.specs.declared.walking.Course.TheVariants.{EndsAt, GoesOn}
use Rattle.resolving.specs.Resolution.{walk_from}

-- what the whole walk comes to
abbrev pub end_of : FileSystem → Wanted → Course → Result Route ResolveError
end_of s wanted (EndsAt path) = Ok path
end_of s wanted (GoesOn place) = walk_from s wanted place.links place.folder place.ahead

-- in a folder that was looked at the walk ends where nothing is ahead
abbrev pub into_folder : Route → List (List ℕ) → ℕ → Course
into_folder folder [] links = EndsAt folder
into_folder folder (component ∷ rest) links =
    GoesOn (record { folder = folder; ahead = component ∷ rest; links = links })

-- how many components may still come at most: the text of each link has fewer than 4,097
abbrev pub way_from : Place → ℕ
way_from place = place.links * 4097 + length place.ahead

abbrev pub way_of : Course → ℕ
way_of (EndsAt path) = 0
way_of (GoesOn place) = way_from place
