-- What an answer says of what is yet to come.
use Rattle.std.specs.Prelude.{⊤, ◌≡◌, ◌≢◌, ◌≤◌, ◌<◌, ℕ, List, [], ◌∷◌, ◌++◌}
use Rattle.std.specs.Prelude.{map, Option, Some, None, Result, Ok, Err, IsOk}
use Rattle.mc_text.specs.declared.error.NoMemory.{NoMemory}
use Rattle.mc_text.specs.Routes.{Route}
use Rattle.tree_trait.specs.declared.file_system.FileSystem.{FileSystem}
use Rattle.tree_trait.specs.declared.calls.TreeError.{TreeError}
use Rattle.tree_trait.specs.declared.calls.TreeError.TheVariants.{Fault, Memory}
use Rattle.tree_trait.specs.Calls.{Call, Stat, ListFolder}
use Rattle.tree_trait.specs.Refusals.{refusal_of}
use Rattle.tree_trait.specs.Change.{CallLog, current}
use Rattle.tree_trait.specs.Answers.{HasRisen, IfKnown}
use Rattle.find_file.specs.declared.found.Found.{Found}
use Rattle.find_file.specs.declared.found.Found.TheVariants.{Path, Skipped, End}
use Rattle.find_file.specs.declared.finder.Finder.{Finder}
use Rattle.find_file.specs.declared.search.Search.{Search}
use Rattle.find_file.specs.declared.walk.Task.{Task}
use Rattle.find_file.specs.declared.walk.Task.TheVariants.{Look, List as ListTask}
use Rattle.find_file.specs.declared.walk.Walk.{Walk}
use Rattle.find_file.specs.FoundList.{Turn}
use Rattle.find_file.specs.FoundList.Turn.{At, Tells}
use Rattle.find_file.specs.Folders.{OpenFolder}
use Rattle.find_file.specs.Walks.{of_task, left_in, rank, steps_left, yet_to_come, yet_to_find}

-- the path that a task is about, and the first call that it makes there
abbrev pub place_of : Task → Route
place_of (Look path is_named) = path
place_of (ListTask folder) = folder

abbrev pub call_of : Task → Call
call_of (Look path is_named) = Stat path
call_of (ListTask folder) = ListFolder folder

-- what is yet to come begins with looks and listings at which nothing is told, and then comes this
pub record Leads (before after : List Turn) : Type 0 where
  pub past : List Route
  pub is : before ≡ map At past ++ after

-- The device failed at a path, where the next look or listing is made: all that this one was to bring is
-- missing, and nothing else. The tree doesn't refuse it.
pub record IsMissing (s : FileSystem) (search : Search) (path : Route)
    (before after : List Turn) : Type 0 where
  pub task : Task
  pub place : place_of task ≡ path
  pub allowed : refusal_of s (call_of task) ≡ None
  pub missing : Leads before (of_task s search (Some task) ++ after)

-- an answer is the first that is to be told, or a fault; it is the end where nothing is
abbrev pub IsTold : FileSystem → Search → List Turn → Found → List Turn → Type 0
IsTold s search before (Path path) after = Leads before (Tells (Path path) ∷ after)
IsTold s search before (Skipped path Fault) after = IsMissing s search path before after
IsTold s search before (Skipped path error) after = Leads before (Tells (Skipped path error) ∷ after)
IsTold s search before End after = Leads before [] × (after ≡ [])

-- an answer is told; without memory all that was to be told is still to be told
abbrev pub Answers : FileSystem → Search → List Turn → Result Found NoMemory → List Turn → Type 0
Answers s search before (Ok found) after = IsTold s search before found after
Answers s search before (Err error) after = Leads before after

-- of what is yet to be found an answer is the first; a fault leaves that open
abbrev pub IsFirst : List Found → Result Found NoMemory → List Found → Type 0
IsFirst before (Ok (Path path)) after = before ≡ Path path ∷ after
IsFirst before (Ok (Skipped path Fault)) after = ⊤
IsFirst before (Ok (Skipped path error)) after = before ≡ Skipped path error ∷ after
IsFirst before (Ok End) after = (before ≡ []) × (after ≡ [])
IsFirst before (Err error) after = before ≡ after

-- the same of a step, which may tell nothing yet, and then leaves all that is to be found
abbrev pub IsNext : List Found → Option Found → List Found → Type 0
IsNext before None after = before ≡ after
IsNext before (Some found) after = IsFirst before (Ok found) after

-- a step may tell nothing yet
abbrev pub Advances : FileSystem → Search → List Turn → Result (Option Found) NoMemory → List Turn → Type 0
Advances s search before (Ok None) after = Leads before after
Advances s search before (Ok (Some found)) after = IsTold s search before found after
Advances s search before (Err error) after = Leads before after

-- a step from where a walk stands
abbrev pub Steps : FileSystem → Search → Walk → Result (Option Found) NoMemory → Walk → Type 0
Steps s search old result new = Advances s search (left_in s search old) result (left_in s search new)

-- a walk with this task
abbrev pub with_task : Walk → Task → Walk
with_task w task = record w { task = Some task }

-- a walk stands so
pub record StandsAt (w : Walk) (task : Option Task) (inner : OpenFolder)
    (around : List OpenFolder) : Type 0 where
  pub task_is : w.task ≡ task
  pub inner_is : w.inner ≡ inner
  pub around_is : w.around.nearest ≡ around

-- the path of which an answer tells
abbrev pub path_of : Found → Option Route
path_of (Path path) = Some path
path_of (Skipped path error) = Some path
path_of End = None

-- Where a step at a task leaves a walk, whatever the tree holds. What is told is told of the task's path,
-- and the folders that are open stay; without memory the task waits; where nothing is told, a folder may be
-- listed next, or is open besides.
abbrev pub Leaves : Walk → Task → Result (Option Found) NoMemory → Walk → Type 0
Leaves old task (Err error) new = StandsAt new (Some task) old.inner old.around.nearest
Leaves old task (Ok (Some found)) new =
    (path_of found ≡ Some (place_of task)) × StandsAt new None old.inner old.around.nearest
Leaves old (Look path is_named) (Ok None) new = StandsAt new new.task old.inner old.around.nearest
    × (new.task ≢ None → new.task ≡ Some (ListTask path))
Leaves old (ListTask folder) (Ok None) new = (new.task ≡ None) × (new.inner.path ≡ folder)
    × (new.around.nearest ≡ old.inner ∷ old.around.nearest)

-- why a path was skipped
abbrev pub cause_of : Found → Option TreeError
cause_of (Path path) = None
cause_of (Skipped path error) = Some error
cause_of End = None

abbrev pub cause_in : Result Found NoMemory → Option TreeError
cause_in (Ok found) = cause_of found
cause_in (Err error) = None

abbrev pub cause_at : Result (Option Found) NoMemory → Option TreeError
cause_at (Ok None) = None
cause_at (Ok (Some found)) = cause_of found
cause_at (Err error) = None

-- the count of faults doesn't fall, a path is skipped for a fault only where it has risen, and
-- never for want of memory
pub record HasReason (before after : ℕ) (cause : Option TreeError) : Type 0 where
  pub later : before ≤ after
  pub risen : cause ≡ Some Fault → HasRisen before after
  pub no_want : cause ≢ Some Memory

-- nothing is left to be done
pub record IsOver (w : Walk) : Type 0 where
  pub no_task : w.task ≡ None
  pub no_child : w.inner.children ≡ []
  pub no_folder : w.around.nearest ≡ []

-- A step of a search that tells this: it is the first of what is yet to be found, or nothing. But
-- for the end, fewer steps are left. It works the walk's task and no other, and without one makes no
-- call that could fail. Behind the end nothing is left. A path is skipped for a fault only where the
-- count of faults has risen.
pub record IsStep (contents : Option CallLog) (faults faults_after : ℕ) (finder : Finder)
    (told : Option Found) (left : Finder) : Type 0 where
  pub next : IfKnown contents (λ log.
      IsNext (yet_to_find (current log) finder) told (yet_to_find (current log) left))
  pub answer : IfKnown contents (λ log.
      Advances (current log) finder.search (yet_to_come (current log) finder) (Ok told)
      (yet_to_come (current log) left))
  pub falls : told ≢ Some End → steps_left left < steps_left finder
  pub leaves : (task : Task) → finder.walk.task ≡ Some task → Leaves finder.walk task (Ok told) left.walk
  pub apart : finder.walk.task ≡ None → faults_after ≡ faults
  pub ended : told ≡ Some End → IsOver left.walk
  pub reason : HasReason faults faults_after (cause_at (Ok told))

-- a step without a call of the tree: what it tells, that fewer steps are left unless it tells the end, that
-- no path is skipped, and that it tells the end exactly where nothing is left
pub record Goes (search : Search) (old new : Walk) (result : Result (Option Found) NoMemory) : Type 0 where
  pub steps : (s : FileSystem) → Steps s search old result new
  pub falls : IsOk result → result ≢ Ok (Some End) → rank new < rank old
  pub cause : cause_at result ≡ None
  pub ended : result ≡ Ok (Some End) → IsOver new
  pub over : IsOver old → result ≡ Ok (Some End)

-- a step at a task of a walk, with a call of the tree: the same, but it never tells the end
pub record Works (task : Task) (old new : Walk) (before after : ℕ)
    (result : Result (Option Found) NoMemory) : Type 0 where
  pub falls : IsOk result → rank new < rank (with_task old task)
  pub reason : HasReason before after (cause_at result)
  pub not_end : result ≢ Ok (Some End)
  pub leaves : Leaves old task result new
