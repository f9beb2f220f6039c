-- What a power cut leaves, in six sentences, in the words of the tree and of the history alone: where `begun`
-- ended a job was at a source, and had changed nothing for it yet, and the tree's log was `log`; later the
-- entries `standing` stood, and `coming` with the one on its way; then the power was cut, and left `image`.
use Rattle.std.specs.Prelude.{◌≡◌, ◌⊎◌, true, false, List, ◌++◌, Option, Some, None}
use Rattle.mc_text.specs.Routes.{Route, is_prefix}
use Rattle.tree_trait.specs.declared.file_system.FileSystem.{FileSystem}
use Rattle.tree_trait.specs.FileSystem.{Value, value_at}
use Rattle.tree_trait.specs.Change.{CallLog, current}
use Rattle.tree_trait.specs.CrashImages.{Among}
use Rattle.job_reports.specs.Jobs.{ItemOfJob, Copies, Moves}
use Rattle.session_entries.specs.declared.history.Entry.{Entry}
use Rattle.session_entries.specs.Named.{names_path}
use Rattle.laws_sessions.specs.Doubt.{is_unsettled}
use Rattle.laws_sessions.specs.Whole.{Spares}
use Rattle.laws_outcomes.specs.Touched.{IsPartAt, IsUntouched, LastsSince, WasPart}
use Rattle.laws_outcomes.specs.Touched.{came_from, is_removed, is_target, taken_up}
use Rattle.laws_outcomes.specs.Arrivals.{new_things, over_things}

abbrev pub stood : CallLog → Route → Option Value
stood log path = value_at (current log) path

-- All of the path was on the disk then, and it was no part.
pub record IsPromised (log : CallLog) (begun : List Entry) (path : Route) : Type 0 where
  pub on_disk : is_unsettled log path ≡ false
  pub no_part : IsPartAt begun path → ⊥

-- No step named it since another source was taken up; and where nothing stood it was never a part.
pub record IsLeft (log : CallLog) (begun standing coming : List Entry) (path : Route) : Type 0 where
  pub firm : IsPromised log begun path
  pub since : LastsSince begun (λ what. names_path what path ≡ false) standing
  pub later : LastsSince begun (λ what. names_path what path ≡ false) coming
  pub bare : stood log path ≡ None → WasPart coming path → ⊥

pub record KeepsFiles (log : CallLog) (begun standing coming : List Entry) (image : FileSystem) : Type 0 where
  -- What is copied is as it was.
  pub source : (from to path : Route) → taken_up begun ≡ Some (Copies from to) → is_prefix from path ≡ true
      → is_prefix to path ≡ false → IsLeft log begun standing coming path
      → value_at image path ≡ stood log path
  -- Where something stood at a target stands that, or the new thing, whole; never anything else, or nothing.
  pub overwritten : (i : ItemOfJob) (path : Route) (old : Value) → taken_up begun ≡ Some i
      → is_target i path ≡ true → stood log path ≡ Some old → (IsPartAt begun (came_from i path) → ⊥)
      → IsLeft log begun standing coming path
      → (x : Value) × (value_at image path ≡ Some x) × ((x ≡ old) ⊎ Among (over_things i (stood log) path) x)
  -- Where nothing stood at a target stands nothing, or the new thing, whole.
  pub new : (i : ItemOfJob) (path : Route) (x : Value) → taken_up begun ≡ Some i → is_target i path ≡ true
      → stood log path ≡ None → IsLeft log begun standing coming path → value_at image path ≡ Some x
      → Among (new_things i (stood log) path) x
  -- What is moved is whole at its source or at its target, with all in it, until a step for another source
  -- names a path that is one of the two, or lies above one or below it.
  pub moved : (from to : Route) → taken_up begun ≡ Some (Moves from to)
      → LastsSince begun (Spares from to) standing → LastsSince begun (Spares from to) coming
      → (there : Route) × ((there ≡ from) ⊎ (there ≡ to)) × ((rest : Route)
      → IsPromised log begun (rest ++ from) → value_at image (rest ++ there) ≡ stood log (rest ++ from))
  -- What is deleted is whole, or gone.
  pub deleted : (item : ItemOfJob) (path : Route) → taken_up begun ≡ Some item → is_removed item path ≡ true
      → IsLeft log begun standing coming path
      → (value_at image path ≡ stood log path) ⊎ (value_at image path ≡ None)
  -- All else is as it was: what no live job touches for its source.
  pub rest : (path : Route) → IsUntouched begun path → IsLeft log begun standing coming path
      → value_at image path ≡ stood log path
