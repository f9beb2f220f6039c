-- A skip and a retry in the copy of a tree call nothing, and keep what is known of the folders that are open.
use Rattle.std.proofs.Common.{◌≡◌, ℕ, Bool, true, false, List, [], ◌∷◌, sym, ◌∙◌, ap, subst, inl, inr}
use Rattle.tree_trait.specs.Change.{CallLog}
use Rattle.copy_folders.specs.FolderCopying.{FolderCopying, skipped_stage}
use Rattle.copy_folders.specs.FolderSteps as folder
use Rattle.copy_folders.specs.declared.stage.Stage.{Stage}
use Rattle.copy_folders.specs.declared.stage.Stage.TheVariants as at
use Rattle.job_reports.specs.declared.report.Cause.{Cause}
use Rattle.job_reports.specs.declared.report.Did.{Did}
use Rattle.copy_folders.specs.Levels.{passed_levels}
use Rattle.copy_tree.specs.declared.item.ItemAtWork.{ItemAtWork}
use Rattle.copy_tree.specs.declared.item.ItemAtWork.TheVariants.{Next, File, Link, Stays}
use Rattle.copy_tree.specs.declared.progress.Progress.{Progress}
use Rattle.copy_tree.specs.declared.progress.Progress.TheVariants.{UnderWay, Decided, Anew}
use Rattle.copy_tree.specs.Skipping.{NoRoom, SkipsAt, SkipsNamed, SkipsRest, retried_at}
use Rattle.copy_tree.specs.Standing.{Seen}
use Rattle.copy_tree.specs.TreeCopySteps.{idle, copy_after_progress}
use Rattle.laws_sessions.proofs.CopyLaws.{FoldersKnown, SkipLaw}
use Rattle.laws_sessions.proofs.TreeFolders.{copy_levels}
use Rattle.laws_sessions.proofs.ItemSteps.{retries_item, skips_item}
use Rattle.laws_sessions.proofs.TreeKnows.{levels_emptied, levels_passed}
use Rattle.laws_sessions.proofs.FoldersLie.{AreLaid}
use Rattle.laws_sessions.proofs.TreePlaces.{laid_copy, laid_emptied, laid_passed, placed_of}

skipped_not : (stage : Stage) → ((mode : ℕ) → stage ≡ at.Make mode → ⊥) → (mode : ℕ) → skipped_stage stage ≡ at.Make mode → ⊥
skipped_not (at.Make other) none mode is = (let f : ⊥ = cc in f)
skipped_not (at.Fill owed) none mode is = (let f : ⊥ = cc in f)
skipped_not (at.Close owed) none mode is = (let f : ⊥ = cc in f)
skipped_not at.Done none mode is = (let f : ⊥ = cc in f)

-- the folder's own copy keeps its target, and isn't to be made
folder_target : (cause : Cause) (c moved : FolderCopying) (did : Did) → folder.Skips cause c did moved → moved.target ≡ c.target
folder_target cause c moved did (inl done) = ap (λ (x : FolderCopying). x.target) done.1
folder_target cause c moved did (inr room) = ap (λ (x : FolderCopying). x.target) room.1

folder_stage : (cause : Cause) (c moved : FolderCopying) (did : Did) → folder.Skips cause c did moved → ((mode : ℕ) → c.stage ≡ at.Make mode → ⊥) → (mode : ℕ) → moved.stage ≡ at.Make mode → ⊥
folder_stage cause c moved did (inl done) none mode is = skipped_not c.stage none mode (sym (ap (λ (x : FolderCopying). x.stage) done.1) ∙ is)
folder_stage cause c moved did (inr room) none mode is = none mode (sym (ap (λ (x : FolderCopying). x.stage) room.1) ∙ is)

module _ (log : CallLog) where
  abbrev Knows : Seen → Type 0
  Knows c = FoldersKnown log c

  passed_knows : (left : Bool) (c : Seen) → Knows c → Knows (record c { levels = passed_levels left c.levels })
  passed_knows left c known = (levels_passed log c.name left c.levels known.0, laid_passed c.name left c.levels known.1)

  settled_knows : (p : Progress) (item : ItemAtWork) (c : Seen) → Knows c → Knows (copy_after_progress p item c)
  settled_knows UnderWay item c known = known
  settled_knows Decided item c known = passed_knows false c known
  settled_knows Anew item c known = known

  none_left : (old new : Seen) (did : Did) → NoRoom old did new → Knows old → Knows new
  none_left old new did room known = subst Knows (sym room.1) known

  skips_rest : (cause : Cause) (old new : Seen) (did : Did) → SkipsRest cause old did new → Knows old → Knows new
  skips_rest cause old new did (inl done) known = subst Knows (sym done.1) (levels_emptied log old.name old.levels known.0, laid_emptied old.name old.levels known.1)
  skips_rest cause old new did (inr room) known = none_left old new did room known

  skips_named : (names : List (List ℕ)) (cause : Cause) (old new : Seen) (did : Did) → SkipsNamed names cause old did new → Knows old → Knows new
  skips_named [] cause old new did (moved, skips, stands) known =
      let inner = placed_of old.name old.levels.inner old.levels.around known.1 in
      let same = folder_target cause old.levels.inner.copy moved did skips in
      subst Knows (sym stands)
      (copy_levels log old.name old.levels moved same known.0, laid_copy old.name moved old.levels same (folder_stage cause old.levels.inner.copy moved did skips inner.made) known.1)
  skips_named (first ∷ names) cause old new did (inl done) known = subst Knows (sym done.1) (passed_knows true old known)
  skips_named (first ∷ names) cause old new did (inr (inl rest)) known = skips_rest cause old new did rest.1 known
  skips_named (first ∷ names) cause old new did (inr (inr room)) known = none_left old new did room known

  skips_at : (item : ItemAtWork) (cause : Cause) (old new : Seen) (did : Did) → SkipsAt item cause old did new → Knows old → Knows new
  skips_at Next cause old new did skips known = skips_named old.levels.inner.names.names cause old new did skips known
  skips_at (File f) cause old new did (moved, skips, stands) known = subst Knows (sym stands) (settled_knows _ (File moved) (idle old) known)
  skips_at (Link l) cause old new did (moved, skips, stands) known = subst Knows (sym stands) (settled_knows _ (Link moved) (idle old) known)
  skips_at (Stays part) cause old new did skips known = absurd skips

  retries_at : (item : ItemAtWork) (c : Seen) → Knows c → Knows (retried_at item c)
  retries_at Next c known = known
  retries_at (File f) c known = settled_knows _ _ (idle c) known
  retries_at (Link l) c known = settled_knows _ _ (idle c) known
  retries_at (Stays part) c known = known

-- How the folders lie is a fact of the machine alone.
abbrev pub LaidIn : Seen → Type 0
LaidIn c = AreLaid c.name c.levels.inner c.levels.around

settled_laid : (p : Progress) (item : ItemAtWork) (c : Seen) → LaidIn c → LaidIn (copy_after_progress p item c)
settled_laid UnderWay item c h = h
settled_laid Decided item c h = laid_passed c.name false c.levels h
settled_laid Anew item c h = h

rest_laid : (cause : Cause) (old new : Seen) (did : Did) → SkipsRest cause old did new → LaidIn old → LaidIn new
rest_laid cause old new did (inl done) h = subst LaidIn (sym done.1) (laid_emptied old.name old.levels h)
rest_laid cause old new did (inr room) h = subst LaidIn (sym room.1) h

named_laid : (names : List (List ℕ)) (cause : Cause) (old new : Seen) (did : Did) → SkipsNamed names cause old did new → LaidIn old → LaidIn new
named_laid [] cause old new did (moved, skips, stands) h =
    let inner = placed_of old.name old.levels.inner old.levels.around h in
    subst LaidIn (sym stands)
    (laid_copy old.name moved old.levels (folder_target cause old.levels.inner.copy moved did skips) (folder_stage cause old.levels.inner.copy moved did skips inner.made) h)
named_laid (first ∷ names) cause old new did (inl done) h = subst LaidIn (sym done.1) (laid_passed old.name true old.levels h)
named_laid (first ∷ names) cause old new did (inr (inl rest)) h = rest_laid cause old new did rest.1 h
named_laid (first ∷ names) cause old new did (inr (inr room)) h = subst LaidIn (sym room.1) h

pub skips_laid : (item : ItemAtWork) (cause : Cause) (old new : Seen) (did : Did) → SkipsAt item cause old did new → LaidIn old → LaidIn new
skips_laid Next cause old new did skips h = named_laid old.levels.inner.names.names cause old new did skips h
skips_laid (File f) cause old new did (moved, skips, stands) h = subst LaidIn (sym stands) (settled_laid _ (File moved) (idle old) h)
skips_laid (Link l) cause old new did (moved, skips, stands) h = subst LaidIn (sym stands) (settled_laid _ (Link moved) (idle old) h)
skips_laid (Stays part) cause old new did skips h = absurd skips

pub retries_laid : (item : ItemAtWork) (c : Seen) → LaidIn c → LaidIn (retried_at item c)
retries_laid Next c h = h
retries_laid (File f) c h = settled_laid _ _ (idle c) h
retries_laid (Link l) c h = settled_laid _ _ (idle c) h
retries_laid (Stays part) c h = h

pub skip_law : SkipLaw
skip_law = record {
  skip = λ log cause old new did skips known. (skips_at log old.item cause old new did skips known.0, skips_item log cause old new did skips known.1);
  retry = λ log c known. (retries_at log c.item c known.0, retries_item log c known.1);
}
