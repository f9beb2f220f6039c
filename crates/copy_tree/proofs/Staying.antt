-- A skip, a retry and a last step keep a copy in its place.
use Rattle.std.specs.Prelude.{◌⊎◌}
use Rattle.std.proofs.Common.{◌≡◌, ℕ, zero, suc, refl, sym, ◌∙◌, ap, subst, inl, inr, Bool, true, List, [], ◌∷◌, length, arith, Option, Some, None}
use Rattle.mc_text.specs.Routes.{Route}
use Rattle.tree_trait.specs.Change.{CallLog}
use Rattle.tree_trait.specs.CrashImages.{Among}
use Rattle.job_reports.specs.declared.job.Pair.{Pair}
use Rattle.job_reports.specs.declared.report.Cause.{Cause}
use Rattle.job_reports.specs.declared.report.Did.{Did}
use Rattle.job_reports.specs.declared.report.Ending.{Ending}
use Rattle.job_reports.specs.declared.report.LastStepResult.{LastStepResult}
use Rattle.copy_file.specs.Copying as file
use Rattle.copy_file.specs.Copying.{Copying, part_at}
use Rattle.copy_file.specs.CopySteps as file_steps
use Rattle.copy_folders.specs.FolderCopying as folder
use Rattle.copy_folders.specs.FolderCopying.{FolderCopying}
use Rattle.copy_folders.specs.FolderSteps as folder_steps
use Rattle.copy_folders.specs.declared.stage.NamesState.TheVariants.{Synced}
use Rattle.copy_folders.specs.declared.stage.Stage.{Stage}
use Rattle.copy_folders.specs.declared.stage.Stage.TheVariants.{Make, Fill, Close, Done}
use Rattle.copy_link.specs.LinkCopying as link
use Rattle.copy_link.specs.LinkCopying.{LinkCopying}
use Rattle.copy_link.specs.LinkSteps as link_steps
use Rattle.copy_tree.specs.declared.item.ItemAtWork.{ItemAtWork}
use Rattle.copy_tree.specs.declared.item.ItemAtWork.TheVariants.{Next, File, Link, Stays}
use Rattle.copy_folders.specs.declared.level.Level.{Level}
use Rattle.copy_tree.specs.Ending.{EndsAll, FileWinds, FoldersWind, LinkWinds, TriesFolder, WindsAt, stays_if}
use Rattle.copy_tree.specs.InPlace.{AreMoved, IsInPlace, IsMoved, ItemMoved, NoneBeside, owed_of}
use Rattle.copy_folders.specs.Levels.{LeftAll, Levels, dirtied_levels, emptied_levels, level, passed_levels, with_copy}
use Rattle.copy_tree.specs.MadeCalls.{StayingLaw}
use Rattle.copy_tree.specs.Progress.{link_progress, progress}
use Rattle.copy_tree.specs.Skipping.{SkipsAt, SkipsFile, SkipsLink, SkipsName, SkipsNamed, SkipsRest, retried_at}
use Rattle.copy_tree.specs.Standing.{Seen}
use Rattle.copy_tree.specs.TreeCopySteps.{idle}
use Rattle.copy_tree.proofs.InPlaces.{dirty_keeps, fewer, fewer_many, idle_in_place, left_beside, levels_keep, moved_to, settled_in_place}

skipped_owed : (stage : Stage) → owed_of stage ≡ None → owed_of (folder.skipped_stage stage) ≡ None
skipped_owed (Make mode) h = refl
skipped_owed (Fill owed) h = h
skipped_owed (Close owed) h = refl
skipped_owed Done h = refl

-- the copy of a folder that keeps its paths, and comes to owe no mode
abbrev KeepsFolder : FolderCopying → FolderCopying → Type 0
KeepsFolder c new = (new.source ≡ c.source) × (new.target ≡ c.target) × (owed_of c.stage ≡ None → owed_of new.stage ≡ None)

folder_skipped : (cause : Cause) (c new : FolderCopying) (did : Did) → folder_steps.Skips cause c did new → KeepsFolder c new
folder_skipped cause c new did (inl s) = subst (KeepsFolder c) (sym s.1) (refl, refl, λ h. skipped_owed c.stage h)
folder_skipped cause c new did (inr s) = subst (KeepsFolder c) (sym s.1) (refl, refl, λ h. h)

synced_keeps : (c new : FolderCopying) → new ≡ record c { names = Synced } → KeepsFolder c new
synced_keeps c new is = subst (KeepsFolder c) (sym is) (refl, refl, λ h. h)

module _ (top : Pair) where
  copy_keeps : (moved : FolderCopying) (l : Levels) → KeepsFolder l.inner.copy moved → AreMoved top l.inner l.around → AreMoved top (let n = with_copy moved l in n.inner) l.around
  copy_keeps moved l k h = levels_keep top l.inner (level l.inner.names moved) l.around k.0 k.1 k.2 (λ name is. is) (omega arith) h

  rest_stays : (cause : Cause) (old new : Seen) (did : Did) → SkipsRest cause old did new → IsInPlace top old → IsInPlace top new
  rest_stays cause old new did (inl s) h = subst (IsInPlace top) (sym s.1) record {
    name = h.name;
    levels = levels_keep top old.levels.inner (let l = emptied_levels old.levels in l.inner) old.levels.around refl refl (λ o. o) (λ name is. absurd is) (omega arith) h.levels;
    alone = h.alone;
    item = h.item;
  }
  rest_stays cause old new did (inr s) h = subst (IsInPlace top) (sym s.1) h

  name_stays : (name : List ℕ) (cause : Cause) (old new : Seen) (did : Did) → SkipsName name cause old did new → IsInPlace top old → IsInPlace top new
  name_stays name cause old new did (inl s) h = subst (IsInPlace top) (sym s.1) record {
    name = h.name;
    levels = levels_keep top old.levels.inner (let l = passed_levels true old.levels in l.inner) old.levels.around refl refl (λ o. o) (λ n is. fewer old.levels.inner.names.names n is) (fewer_many old.levels.inner.names.names) h.levels;
    alone = h.alone;
    item = h.item;
  }
  name_stays name cause old new did (inr (inl s)) h = rest_stays cause old new did s.1 h
  name_stays name cause old new did (inr (inr s)) h = subst (IsInPlace top) (sym s.1) h

  named_stays : (names : List (List ℕ)) (cause : Cause) (old new : Seen) (did : Did) → SkipsNamed names cause old did new → IsInPlace top old → IsInPlace top new
  named_stays [] cause old new did s h = subst (IsInPlace top) (sym s.2) record {
    name = h.name;
    levels = copy_keeps s.0 old.levels (folder_skipped cause old.levels.inner.copy s.0 did s.1) h.levels;
    alone = h.alone;
    item = h.item;
  }
  named_stays (name ∷ names) cause old new did s h = name_stays name cause old new did s h

  file_moved : (cause : Cause) (f new : Copying) (did : Did) → file_steps.Skips cause f did new → IsMoved top f.source f.target → IsMoved top new.source new.target
  file_moved cause f new did (inl s) m = moved_to top f.source f.target new.source new.target (ap (λ (x : Copying). x.source) s.1) (ap (λ (x : Copying). x.target) s.1) m
  file_moved cause f new did (inr s) m = moved_to top f.source f.target new.source new.target (ap (λ (x : Copying). x.source) s.1) (ap (λ (x : Copying). x.target) s.1) m

  link_moved : (cause : Cause) (l new : LinkCopying) (did : Did) → link_steps.Skips cause l did new → IsMoved top l.source l.target → IsMoved top new.source new.target
  link_moved cause l new did (inl s) m = moved_to top l.source l.target new.source new.target (ap (λ (x : LinkCopying). x.source) s.1) (ap (λ (x : LinkCopying). x.target) s.1) m
  link_moved cause l new did (inr s) m = moved_to top l.source l.target new.source new.target (ap (λ (x : LinkCopying). x.source) s.1) (ap (λ (x : LinkCopying). x.target) s.1) m

  skips_stay : (item : ItemAtWork) (cause : Cause) (old new : Seen) (did : Did) → SkipsAt item cause old did new → ItemMoved top item → IsInPlace top old → IsInPlace top new
  skips_stay Next cause old new did s m h = named_stays old.levels.inner.names.names cause old new did s h
  skips_stay (File f) cause old new did s m h =
      subst (IsInPlace top) (sym s.2) (settled_in_place top (progress s.0.stage) (File s.0) (idle old) (file_moved cause f s.0 did s.1 m) (idle_in_place top old h))
  skips_stay (Link l) cause old new did s m h =
      subst (IsInPlace top) (sym s.2) (settled_in_place top (link_progress s.0.stage) (Link s.0) (idle old) (link_moved cause l s.0 did s.1 m) (idle_in_place top old h))
  skips_stay (Stays part) cause old new did s m h = absurd s

  retries_stay : (item : ItemAtWork) (c : Seen) → ItemMoved top item → IsInPlace top c → IsInPlace top (retried_at item c)
  retries_stay Next c m h = h
  retries_stay (File f) c m h = settled_in_place top (progress (file.taken_anew f.stage)) (File (record f { stage = file.taken_anew f.stage })) (idle c) m (idle_in_place top c h)
  retries_stay (Link l) c m h = settled_in_place top (link_progress (link.taken_anew l.stage)) (Link (record l { stage = link.taken_anew l.stage })) (idle c) m (idle_in_place top c h)
  retries_stay (Stays part) c m h = h

  -- folders that are left leave those around them in their places
  pub left_moved : (n : ℕ) (old new : Levels) → LeftAll n old new → AreMoved top old.inner old.around → AreMoved top new.inner new.around
  left_moved zero old new is h = subst (λ (l : Levels). AreMoved top l.inner l.around) (sym is) h
  left_moved (suc n) old new l h = around_stays l.0.inner new.inner l.0.around new.around (let e = l.3 in e.was) (left_moved n old l.0 l.1 h)
    where
      around_stays : (inner outer : Level) (was around : List Level) → was ≡ outer ∷ around → AreMoved top inner was → AreMoved top outer around
      around_stays inner outer was around is k = let m = subst (λ (xs : List Level). AreMoved top inner xs) is k in m.1

  left_all_beside : (n : ℕ) (old new : Levels) → LeftAll n old new → NoneBeside old.around → NoneBeside new.around
  left_all_beside zero old new is h = subst (λ (l : Levels). NoneBeside l.around) (sym is) h
  left_all_beside (suc n) old new l h = left_beside new.inner l.0.around new.around (let e = l.3 in e.was) (left_all_beside n old l.0 l.1 h)

  stays_moved : (part : Option Route) → ItemMoved top (stays_if part)
  stays_moved (Some part) = tt
  stays_moved None = tt

  winding : (ending : Ending) (part : Option Route) (mid : Levels) (old new : Seen) (last : LastStepResult) (before after : Option CallLog) (f0 f1 : ℕ)
      → TriesFolder part mid old new last before after f0 f1 ⊎ EndsAll ending part mid old new last before after f0 f1 → AreMoved top mid.inner mid.around → NoneBeside mid.around → IsInPlace top old → IsInPlace top new
  winding ending part mid old new last before after f0 f1 (inl t) m a h =
      let s = t.tried in
      subst (IsInPlace top) (sym t.stands) record { name = h.name; levels = copy_keeps t.moved mid (synced_keeps mid.inner.copy t.moved s.stands) m; alone = a; item = stays_moved part }
  winding ending part mid old new last before after f0 f1 (inr e) m a h = subst (IsInPlace top) (sym e.stands) record { name = h.name; levels = m; alone = a; item = tt }

  folders_stay : (ending : Ending) (part : Option Route) (old new : Seen) (last : LastStepResult) (before after : Option CallLog) (f0 f1 : ℕ) → FoldersWind ending part old new last before after f0 f1
      → IsInPlace top old → IsInPlace top new
  folders_stay ending part old new last before after f0 f1 w h = winding ending part w.mid old new last before after f0 f1 w.winds (left_moved w.count old.levels w.mid w.left h.levels) (left_all_beside w.count old.levels w.mid w.left h.alone) h

  file_stays : (ending : Ending) (f : Copying) (old new : Seen) (last : LastStepResult) (before after : Option CallLog) (f0 f1 : ℕ) → FileWinds ending f old new last before after f0 f1
      → IsInPlace top old → IsInPlace top new
  file_stays ending f old new last before after f0 f1 w h =
      let synced : FolderCopying = record old.levels.inner.copy { names = Synced } in
      let l = with_copy synced old.levels in
      subst (IsInPlace top) (sym w.stands) record {
        name = h.name;
        levels = dirty_keeps (file.is_dirty w.moved.folder) top l.inner old.levels.around (copy_keeps synced old.levels (refl, refl, λ o. o) h.levels);
        alone = h.alone;
        item = stays_moved (part_at w.moved.stage);
      }

  link_stays : (ending : Ending) (l : LinkCopying) (old new : Seen) (last : LastStepResult) (before after : Option CallLog) (f0 f1 : ℕ) → LinkWinds ending l old new last before after f0 f1
      → IsInPlace top old → IsInPlace top new
  link_stays ending l old new last before after f0 f1 (inl c) h =
      subst (IsInPlace top) (sym c.stands) record { name = h.name; levels = dirty_keeps true top old.levels.inner old.levels.around h.levels; alone = h.alone; item = h.item }
  link_stays ending l old new last before after f0 f1 (inr s) h =
      let later = s.winds in folders_stay ending (Some l.part) old new later.next s.mid after s.since f1 later.winds h

  winds_stay : (item : ItemAtWork) (ending : Ending) (old new : Seen) (last : LastStepResult) (before after : Option CallLog) (f0 f1 : ℕ) → WindsAt item ending old new last before after f0 f1
      → IsInPlace top old → IsInPlace top new
  winds_stay Next ending old new last before after f0 f1 w h = folders_stay ending None old new last before after f0 f1 w h
  winds_stay (File f) ending old new last before after f0 f1 w h = file_stays ending f (idle old) new last before after f0 f1 w (idle_in_place top old h)
  winds_stay (Link l) ending old new last before after f0 f1 w h = link_stays ending l (idle old) new last before after f0 f1 w (idle_in_place top old h)
  winds_stay (Stays part) ending old new last before after f0 f1 w h = folders_stay ending (Some part) (idle old) new last before after f0 f1 w (idle_in_place top old h)

pub staying_law : StayingLaw
staying_law = record {
  skip = λ top cause old new did s h. skips_stay top old.item cause old new did s h.item h;
  retry = λ top old h. retries_stay top old.item old h.item h;
  last_step = λ top ending old new last before after f0 f1 w h. winds_stay top old.item ending old new last before after f0 f1 w h;
}
