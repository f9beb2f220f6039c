-- Where the copy of a tree stands, and what it takes up next.
use Rattle.std.specs.Prelude.{ℕ, Bool, true, false, List, [], ◌∷◌, if◌then◌else◌, None}
use Rattle.job_reports.specs.declared.job.Pair.{Pair}
use Rattle.copy_file.specs.Copying as file
use Rattle.copy_folders.specs.FolderCopying as folder
use Rattle.copy_link.specs.LinkCopying as link
use Rattle.copy_folders.specs.declared.stage.Stage.TheVariants as folder_stage
use Rattle.copy_folders.specs.declared.stage.NamesState.TheVariants as folder_names
use Rattle.tree_walk.specs.Places.{is_empty, opened_folder}
use Rattle.copy_tree.specs.declared.copy.Stage.{Stage}
use Rattle.copy_tree.specs.declared.copy.Stage.TheVariants.{Begin, Going}
use Rattle.copy_tree.specs.declared.copy.Named.{Named}
use Rattle.copy_tree.specs.declared.copy.TreeCopy.{TreeCopy}
use Rattle.copy_tree.specs.declared.item.ItemAtWork.{ItemAtWork}
use Rattle.copy_tree.specs.declared.item.ItemAtWork.TheVariants.{Next, File, Link, Stays}
use Rattle.copy_tree.specs.declared.due.Due.{Due}
use Rattle.copy_tree.specs.declared.due.Due.TheVariants.{End, Thing}
use Rattle.job_reports.specs.declared.report.Did.{Did}
use Rattle.copy_folders.specs.Levels.{Levels, is_sync_next, outermost}
use Rattle.copy_tree.specs.Reports.{changes}

-- the copy of a tree, as it stands: all but the room for more open folders
pub record Seen : Type 0 where
  pub job : ℕ
  pub name : List ℕ
  pub stage : Stage
  pub item : ItemAtWork
  pub levels : Levels

abbrev pub seen_copy : TreeCopy → Seen
seen_copy c = record { job = c.job; name = c.name; stage = c.stage; item = c.item; levels = c.stack.levels }

-- The copy just begun. The folder that holds the source counts as open, with that one name in it, and its
-- copy as one that stands.
abbrev pub begun_tree_copy : ℕ → Named → Named → Seen
begun_tree_copy job source target = record {
  job = job;
  name = target.name;
  stage = Begin;
  item = Next;
  levels = outermost (opened_folder source.folder (source.name ∷ []))
      (folder.copying source.folder target.folder (folder_stage.Fill None) folder_names.Synced);
}

abbrev pub is_fresh : Stage → Bool
is_fresh Begin = true
is_fresh Going = false

-- the next call is at a barrier: the removal of a part, or the sync of a folder
abbrev pub barrier_at : ItemAtWork → Levels → Bool
barrier_at Next l = is_sync_next l
barrier_at (File f) l = file.at_barrier f.stage
barrier_at (Link k) l = link.at_barrier k.stage
barrier_at (Stays part) l = true

abbrev pub at_barrier : Seen → Bool
at_barrier c = barrier_at c.item c.levels

-- how far it is after a report
abbrev pub after_report : Did → Stage → Stage
after_report did stage = if changes did then Going else stage

-- what is copied may have another name at its target; what lies in it has its own
abbrev pub target_name : Seen → List ℕ → List ℕ
target_name c name = if is_empty c.levels.around then c.name else name

-- source and target of the thing that has this name in the folder that is worked
abbrev pub pair_of : Seen → List ℕ → Pair
pair_of c name = record {
  source = name ∷ c.levels.inner.copy.source;
  target = target_name c name ∷ c.levels.inner.copy.target;
}

-- what is taken up: the thing that has the next name, or the end of the folder that is worked
abbrev pub due_at : List (List ℕ) → Seen → Due
due_at [] c = End
due_at (name ∷ names) c = Thing (pair_of c name)

abbrev pub due : Seen → Due
due c = due_at c.levels.inner.names.names c
