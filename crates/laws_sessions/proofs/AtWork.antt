-- What has to be known of the file or link at work as a step begins: where its part stands, if it has one yet.
use Rattle.std.specs.Prelude.{◌≡◌, ◌⊎◌, ℕ, ⊤, true, false, List, [], ◌∷◌, Some, None}
use Rattle.mc_text.specs.Routes.{Route}
use Rattle.tree_trait.specs.declared.file_system.FileSystem.{FileSystem}
use Rattle.tree_trait.specs.Change.{CallLog, current}
use Rattle.tree_trait.specs.CrashImages.{Among}
use Rattle.tree_trait.specs.FileSystem.{find, node}
use Rattle.tree_trait.specs.Refusals.{is_folder}
use Rattle.job_reports.specs.Paths.{folder_of}
use Rattle.copy_file.specs.Copying.{part_at}
use Rattle.copy_link.specs.LinkCopying.{has_part}
use Rattle.copy_folders.specs.Levels.{Levels, coming, is_around_dirty, passed_levels}
use Rattle.copy_tree.specs.declared.item.ItemAtWork.{ItemAtWork}
use Rattle.copy_tree.specs.declared.item.ItemAtWork.TheVariants.{Next, File, Link, Stays}
use Rattle.copy_tree.specs.declared.progress.Progress.TheVariants.{UnderWay}
use Rattle.copy_tree.specs.Progress.{link_progress, progress}
use Rattle.copy_tree.specs.Standing.{Seen}

-- The part of a file or a link that is at work in this folder, and the target that it is to come to, which is met next.
pub record IsAtWork (s : FileSystem) (up : Route) (rest : List (List ℕ)) (part target : Route) : Type 0 where
  pub k : List ℕ
  pub n : List ℕ
  pub i : ℕ
  pub part_is : part ≡ k ∷ up
  pub target_is : target ≡ n ∷ up
  pub apart : k ≡ n → ⊥
  pub leads : find s part ≡ Some i
  pub file : is_folder (node s i) ≡ false
  pub bare : (j : ℕ) → find s target ≡ Some j → is_folder (node s j) ≡ false
  -- neither is met later
  pub part_off : Among rest k → ⊥
  pub target_off : Among rest n → ⊥

-- the part at work, whose name is none of those that are yet to be met, with that of its target, which is met next
pub record HasItem (log : CallLog) (name : List ℕ) (l : Levels) (part target : Route) : Type 0 where
  pub work : IsAtWork (current log) l.inner.copy.target (let p : Levels = passed_levels false l in coming name p.inner.names p.around) part target
  pub off : Among (coming name l.inner.names l.around) work.k → ⊥
  -- what stands at the target is replaced only by what is copied itself
  pub free : (find (current log) target ≡ None) ⊎ (l.around ≡ [])

-- what is at work has its part, and comes to a target that is met next
abbrev pub ItemKnown : CallLog → Seen → ItemAtWork → Type 0
ItemKnown log c Next = ⊤
ItemKnown log c (File f) = (is_around_dirty c.levels.around ≡ false) × (progress f.stage ≡ UnderWay) × (folder_of f.target ≡ c.levels.inner.copy.target)
    × ((part : Route) → part_at f.stage ≡ Some part → HasItem log c.name c.levels part f.target)
ItemKnown log c (Link l) = (is_around_dirty c.levels.around ≡ false) × (link_progress l.stage ≡ UnderWay) × (folder_of l.target ≡ c.levels.inner.copy.target)
    × (has_part l.stage ≡ true → HasItem log c.name c.levels l.part l.target)
ItemKnown log c (Stays part) = ⊤
