-- Which paths a job may change for a source, by their names.
use Rattle.std.specs.Prelude.{◌||◌, Bool}
use Rattle.mc_text.specs.Routes.{Route, is_prefix, same_path}
use Rattle.job_reports.specs.Jobs.{ItemOfJob, Copies, Moves, Removes, Makes, MakesLink, Sets, RemovesEmptied}

-- a path that a job may change: what it makes, removes or gives a mode; where it copies or deletes, also
-- what lies in that; where it moves, so of both its paths
abbrev pub touches : ItemOfJob → Route → Bool
touches (Copies source target) path = is_prefix target path
touches (Moves source target) path = is_prefix source path || is_prefix target path
touches (Removes top) path = is_prefix top path
touches (Makes made) path = same_path path made
touches (MakesLink made text) path = same_path path made
touches (Sets thing mode) path = same_path path thing
touches (RemovesEmptied folder) path = same_path path folder
