-- The paths that a report says were changed, each by its name, or with the thing that was moved.
use Rattle.std.specs.Prelude.{◌≡◌, true}
use Rattle.mc_text.specs.Routes.{Route}
use Rattle.tree_trait.specs.CrashImages.{Among}
use Rattle.job_reports.specs.declared.report.Did.{Did}
use Rattle.job_reports.specs.declared.report.Did.TheVariants.{Moved}
use Rattle.session_entries.specs.Moves.{is_of_move}
use Rattle.session_entries.specs.Named.{changed_by}

abbrev pub IsChanged : Did → Route → Type 0
IsChanged (Moved pair) path = is_of_move pair path ≡ true
IsChanged did path = Among (changed_by did) path
