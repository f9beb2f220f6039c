-- The copy keeps to its place with each step.
use Rattle.std.proofs.Common.{◌≡◌, ℕ, suc, zero, refl, sym, ◌∙◌, ap, subst, inl, inr, Bool, true, false, List, [], ◌∷◌, drop, length, arith, ◌≤◌, Option, None}
use Rattle.std.specs.Prelude.{if◌then◌else◌}
use Rattle.mc_text.specs.Routes.{Route}
use Rattle.job_answers.specs.declared.replies.Replies.{Replies}
use Rattle.tree_trait.specs.Change.{CallLog}
use Rattle.tree_trait.specs.CrashImages.{Among}
use Rattle.job_reports.specs.declared.job.Pair.{Pair}
use Rattle.job_reports.specs.declared.report.Did.{Did}
use Rattle.job_reports.specs.declared.report.Did.TheVariants.{Began, Chunk, Placed, Removed, Made, Set, Kept, Skipped, Cleaned, Barrier, Asked, Merges, Moved, Troubled, Ended}
use Rattle.job_reports.specs.declared.report.Ending.TheVariants.{Finished, Aborted, Killed, NoMemory}
use Rattle.copy_file.specs.Copying as file
use Rattle.copy_file.specs.Copying.{Copying}
use Rattle.copy_link.specs.LinkCopying as link
use Rattle.copy_link.specs.LinkCopying.{LinkCopying}
use Rattle.copy_folders.specs.FolderCopying as folder
use Rattle.copy_folders.specs.FolderCopying.{FolderCopying}
use Rattle.copy_folders.specs.FolderSteps.{at_sync}
use Rattle.copy_folders.specs.declared.stage.FolderDid.{FolderDid}
use Rattle.copy_folders.specs.declared.stage.FolderDid.TheVariants as folder_did
use Rattle.copy_folders.specs.declared.stage.Stage.{Stage}
use Rattle.copy_folders.specs.declared.stage.Stage.TheVariants.{Make, Fill, Close, Done}
use Rattle.copy_folders.specs.declared.stage.NamesState.{NamesState}
use Rattle.copy_folders.specs.declared.stage.NamesState.TheVariants.{Synced, Dirty}
use Rattle.tree_walk.specs.Places.{OpenFolder, is_empty, opened_folder, without_next}
use Rattle.copy_tree.specs.declared.due.Due.TheVariants.{Thing}
use Rattle.copy_tree.specs.declared.item.ItemAtWork.{ItemAtWork}
use Rattle.copy_tree.specs.declared.item.ItemAtWork.TheVariants.{Next, File, Link, Stays}
use Rattle.copy_folders.specs.declared.level.Level.{Level}
use Rattle.copy_tree.specs.declared.progress.Progress.{Progress}
use Rattle.copy_tree.specs.declared.progress.Progress.TheVariants.{UnderWay, Decided, Anew}
use Rattle.copy_tree.specs.InPlace.{AreMoved, IsInPlace, IsMoved, IsTargetOf, ItemMoved, NamesTarget, NoneBeside, PlaceLaw, owed_of}
use Rattle.copy_folders.specs.Levels.{levels_closed, dirtied_levels, level, made_levels, passed_levels, with_copy}
use Rattle.copy_tree.specs.Parts.{IsPartPlace}
use Rattle.copy_tree.specs.Progress.{link_progress, progress}
use Rattle.copy_tree.specs.Reports.{IsToldAs}
use Rattle.copy_tree.specs.Standing.{Seen, after_report, due_at, pair_of}
use Rattle.copy_tree.specs.TreeCopySteps.{FileWorks, FolderEnds, FolderMakes, GoesOn, Leaves, LeavesAll, LinkWorks, SyncsAround, TakesNext, WorksOn, at_end, idle, noted_copy as noted_seen, copy_after_progress}
use Rattle.copy_tree.proofs.PartsBegin.{file_taken}

-- the paths of a copy stay
pub file_paths : (f new : Copying) (did : Did) → file.Tells f did new → (new.source ≡ f.source) × (new.target ≡ f.target)
file_paths f new (Began part) t = (ap (λ (x : Copying). x.source) t.1.1, ap (λ (x : Copying). x.target) t.1.1)
file_paths f new (Chunk count) t = (ap (λ (x : Copying). x.source) t.7, ap (λ (x : Copying). x.target) t.7)
file_paths f new (Set path) t = absurd t
file_paths f new (Placed path) t = (ap (λ (x : Copying). x.source) t.4, ap (λ (x : Copying). x.target) t.4)
file_paths f new (Cleaned part) t = (ap (λ (x : Copying). x.source) t.2, ap (λ (x : Copying). x.target) t.2)
file_paths f new Barrier t = (ap (λ (x : Copying). x.source) t.2, ap (λ (x : Copying). x.target) t.2)
file_paths f new (Troubled trouble) t = (ap (λ (x : Copying). x.source) t.1, ap (λ (x : Copying). x.target) t.1)
file_paths f new (Ended Finished part) t = (ap (λ (x : Copying). x.source) t.3, ap (λ (x : Copying). x.target) t.3)
file_paths f new (Ended Aborted part) t = absurd t
file_paths f new (Ended Killed part) t = absurd t
file_paths f new (Ended NoMemory part) t = absurd t
file_paths f new (Removed path) t = absurd t
file_paths f new (Made made) t = absurd t
file_paths f new (Kept path) t = absurd t
file_paths f new (Asked question) t = absurd t
file_paths f new (Merges transfer pair names) t = absurd t
file_paths f new (Moved pair) t = absurd t
file_paths f new (Skipped path cause) t = absurd t

pub link_paths : (l new : LinkCopying) (did : Did) → link.Tells l did new → (new.source ≡ l.source) × (new.target ≡ l.target)
link_paths l new (Began part) t = (ap (λ (x : LinkCopying). x.source) t.2, ap (λ (x : LinkCopying). x.target) t.2)
link_paths l new (Placed path) t = (ap (λ (x : LinkCopying). x.source) t.2, ap (λ (x : LinkCopying). x.target) t.2)
link_paths l new (Cleaned part) t = (ap (λ (x : LinkCopying). x.source) t.3, ap (λ (x : LinkCopying). x.target) t.3)
link_paths l new Barrier t = (ap (λ (x : LinkCopying). x.source) t.2, ap (λ (x : LinkCopying). x.target) t.2)
link_paths l new (Troubled trouble) t = (ap (λ (x : LinkCopying). x.source) t.1, ap (λ (x : LinkCopying). x.target) t.1)
link_paths l new (Chunk count) t = absurd t
link_paths l new (Set path) t = absurd t
link_paths l new (Removed path) t = absurd t
link_paths l new (Made made) t = absurd t
link_paths l new (Kept path) t = absurd t
link_paths l new (Asked question) t = absurd t
link_paths l new (Merges transfer pair names) t = absurd t
link_paths l new (Moved pair) t = absurd t
link_paths l new (Skipped path cause) t = absurd t
link_paths l new (Ended ending part) t = absurd t

pub folder_paths : (c new : FolderCopying) (did : FolderDid) → folder.Tells c did new → (new.source ≡ c.source) × (new.target ≡ c.target)
folder_paths c new (folder_did.Made path) t = (ap (λ (x : FolderCopying). x.source) t.3, ap (λ (x : FolderCopying). x.target) t.3)
folder_paths c new (folder_did.Set path) t = (ap (λ (x : FolderCopying). x.source) t.3, ap (λ (x : FolderCopying). x.target) t.3)
folder_paths c new folder_did.Barrier t = (ap (λ (x : FolderCopying). x.source) t.2, ap (λ (x : FolderCopying). x.target) t.2)
folder_paths c new folder_did.Closed t = (ap (λ (x : FolderCopying). x.source) t.2, ap (λ (x : FolderCopying). x.target) t.2)
folder_paths c new (folder_did.Troubled trouble) t = (ap (λ (x : FolderCopying). x.source) t.1, ap (λ (x : FolderCopying). x.target) t.1)

pub moved_to : (top : Pair) (source target s t : Route) → s ≡ source → t ≡ target → IsMoved top source target → IsMoved top s t
moved_to top source target s t a b m = record { rest = m.rest; from = a ∙ m.from; to = b ∙ m.to }

-- a level changes while its paths stay
pub levels_keep : (top : Pair) (old new : Level) (around : List Level) → new.copy.source ≡ old.copy.source → new.copy.target ≡ old.copy.target
    → (owed_of old.copy.stage ≡ None → owed_of new.copy.stage ≡ None) → ((name : List ℕ) → Among new.names.names name → Among old.names.names name) → length new.names.names ≤ length old.names.names
    → AreMoved top old around → AreMoved top new around
levels_keep top old new [] s t owed among many h =
    record { from = s ∙ h.from; to = t ∙ h.to; keeps = owed h.keeps; only = λ name is. h.only name (among name is); one = (let one = h.one in omega (arith, many, one)) }
levels_keep top old new (outer ∷ around) s t owed among many h = (moved_to top old.copy.source old.copy.target new.copy.source new.copy.target s t h.0, h.1)

pub fewer : (names : List (List ℕ)) (name : List ℕ) → Among (let d = drop 1 names in d) name → Among names name
fewer [] name h = h
fewer (x ∷ names) name h = inr h

-- where a name is gone into none is left beside it
none_more : (names : List (List ℕ)) → length names ≤ 1 → (let d = drop 1 names in d) ≡ []
none_more [] one = refl
none_more (x ∷ []) one = refl
none_more (x ∷ y ∷ names) one = absurd (omega (arith, one))

gone_into : (top : Pair) (inner : Level) (around : List Level) (outer : Level) → outer.names.names ≡ (let d = drop 1 inner.names.names in d) → AreMoved top inner around → NoneBeside around → NoneBeside (outer ∷ around)
gone_into top inner [] outer is h alone = is ∙ none_more inner.names.names h.one
gone_into top inner (next ∷ around) outer is h alone = alone

pub left_beside : (outer : Level) (was around : List Level) → was ≡ outer ∷ around → NoneBeside was → NoneBeside around
left_beside outer was [] is alone = tt
left_beside outer was (next ∷ around) is alone = subst NoneBeside is alone

synced_beside : (outer : Level) (names : NamesState) (was around : List Level) → was ≡ outer ∷ around → NoneBeside was → NoneBeside (level outer.names (record outer.copy { names = names }) ∷ around)
synced_beside outer names was [] is alone = subst NoneBeside is alone
synced_beside outer names was (next ∷ around) is alone = subst NoneBeside is alone

pub fewer_many : (names : List (List ℕ)) → length (let d = drop 1 names in d) ≤ length names
fewer_many [] = omega arith
fewer_many (x ∷ names) = omega arith

closing_owed : (stage : Stage) → owed_of stage ≡ None → owed_of (folder.closing stage) ≡ None
closing_owed (Make mode) h = h
closing_owed (Fill owed) h = h
closing_owed (Close owed) h = h
closing_owed Done h = h

-- a folder that owes no mode doesn't come to owe one
owes_none : (c new : FolderCopying) (did : FolderDid) → folder.Tells c did new → owed_of c.stage ≡ None → owed_of new.stage ≡ None
owes_none c new (folder_did.Made path) t h = absurd (let is = sym (ap owed_of t.1) ∙ h in let f : ⊥ = cc in f)
owes_none c new (folder_did.Set path) t h = ap (λ (x : FolderCopying). owed_of x.stage) t.3
owes_none c new folder_did.Barrier t h = ap (λ (x : FolderCopying). owed_of x.stage) t.2 ∙ h
owes_none c new folder_did.Closed t h = ap (λ (x : FolderCopying). owed_of x.stage) t.2
owes_none c new (folder_did.Troubled trouble) t h = ap (λ (x : FolderCopying). owed_of x.stage) t.1 ∙ h

pub dirty_keeps : (changed : Bool) (top : Pair) (inner : Level) (around : List Level) → AreMoved top inner around
    → AreMoved top (let l = dirtied_levels changed (record { inner = inner; around = around; left = 0 }) in l.inner) around
dirty_keeps true top inner around h = levels_keep top inner (record inner { copy = record inner.copy { names = Dirty } }) around refl refl (λ o. o) (λ name is. is) (omega arith) h
dirty_keeps false top inner around h = levels_keep top inner (record inner { copy = inner.copy }) around refl refl (λ o. o) (λ name is. is) (omega arith) h

module _ (top : Pair) where
  pub idle_in_place : (c : Seen) → IsInPlace top c → IsInPlace top (idle c)
  idle_in_place c h = record { name = h.name; levels = h.levels; alone = h.alone; item = tt }

  noted_in_place : (did : Did) (changed : Bool) (c : Seen) → IsInPlace top c → IsInPlace top (noted_seen did changed c)
  noted_in_place did changed c h = record { name = h.name; levels = dirty_keeps changed top c.levels.inner c.levels.around h.levels; alone = h.alone; item = h.item }

  pub settled_in_place : (p : Progress) (item : ItemAtWork) (c : Seen) → ItemMoved top item → IsInPlace top c → IsInPlace top (copy_after_progress p item c)
  settled_in_place UnderWay item c moved h = record { name = h.name; levels = h.levels; alone = h.alone; item = moved }
  settled_in_place Decided item c moved h = record {
    name = h.name;
    levels = levels_keep top c.levels.inner (let l = passed_levels false c.levels in l.inner) c.levels.around refl refl (λ o. o) (λ name is. fewer c.levels.inner.names.names name is) (fewer_many c.levels.inner.names.names) h.levels;
    alone = h.alone;
    item = h.item;
  }
  settled_in_place Anew item c moved h = h

  names_file : (f new : Copying) (report : Did) → file.Tells f report new → IsMoved top f.source f.target → NamesTarget top report
  names_file f new (Placed path) t m = (f.source, moved_to top f.source f.target f.source path refl t.3 m)
  names_file f new (Made made) t m = absurd t
  names_file f new (Began part) t m = tt
  names_file f new (Chunk count) t m = tt
  names_file f new (Set path) t m = absurd t
  names_file f new (Removed path) t m = tt
  names_file f new (Kept path) t m = tt
  names_file f new (Asked question) t m = tt
  names_file f new (Merges transfer pair names) t m = tt
  names_file f new (Moved pair) t m = tt
  names_file f new (Skipped path cause) t m = tt
  names_file f new (Cleaned part) t m = tt
  names_file f new Barrier t m = tt
  names_file f new (Troubled trouble) t m = tt
  names_file f new (Ended ending part) t m = tt

  names_link : (l new : LinkCopying) (report : Did) → link.Tells l report new → IsMoved top l.source l.target → NamesTarget top report
  names_link l new (Placed path) t m = (l.source, moved_to top l.source l.target l.source path refl t.1 m)
  names_link l new (Made made) t m = absurd t
  names_link l new (Began part) t m = tt
  names_link l new (Chunk count) t m = tt
  names_link l new (Set path) t m = absurd t
  names_link l new (Removed path) t m = tt
  names_link l new (Kept path) t m = tt
  names_link l new (Asked question) t m = tt
  names_link l new (Merges transfer pair names) t m = tt
  names_link l new (Moved pair) t m = tt
  names_link l new (Skipped path cause) t m = tt
  names_link l new (Cleaned part) t m = tt
  names_link l new Barrier t m = tt
  names_link l new (Troubled trouble) t m = tt
  names_link l new (Ended ending part) t m = tt

  file_keeps : (unclaimed : Route → Type 0) (f : Copying) (old new : Seen) (did : Did) (before after : Option CallLog) → FileWorks unclaimed f old new did before after → IsMoved top f.source f.target
      → IsInPlace top old → IsInPlace top new × NamesTarget top did
  file_keeps unclaimed f old new did before after w m h =
      let same = file_paths f w.moved did w.tells in (
        subst (IsInPlace top) (sym w.stands)
            (settled_in_place (progress w.moved.stage) (File w.moved) (noted_seen did (file.is_dirty w.moved.folder) (idle old)) (moved_to top f.source f.target w.moved.source w.moved.target same.0 same.1 m)
            (noted_in_place did (file.is_dirty w.moved.folder) (idle old) (idle_in_place old h))),
        names_file f w.moved did w.tells m,
      )

  link_keeps : (l : LinkCopying) (old new : Seen) (did : Did) (before after : Option CallLog) → LinkWorks l old new did before after → IsMoved top l.source l.target
      → IsInPlace top old → IsInPlace top new × NamesTarget top did
  link_keeps l old new did before after w m h =
      let same = link_paths l w.moved did w.tells in (
        subst (IsInPlace top) (sym w.stands)
            (settled_in_place (link_progress w.moved.stage) (Link w.moved) (noted_seen did (link.is_dirty w.moved.folder) (idle old)) (moved_to top l.source l.target w.moved.source w.moved.target same.0 same.1 m)
            (noted_in_place did (link.is_dirty w.moved.folder) (idle old) (idle_in_place old h))),
        names_link l w.moved did w.tells m,
      )

  -- what is taken up lies in its place
  pub pair_moved : (names : List (List ℕ)) (c : Seen) (pair : Pair) → c.levels.inner.names.names ≡ names → due_at names c ≡ Thing pair → IsInPlace top c → IsMoved top pair.source pair.target
  pair_moved [] c pair is due_is h = absurd (let f : ⊥ = cc in f)
  pair_moved (name ∷ names) c pair is due_is h =
      let same : pair_of c name ≡ pair = cc in
      subst (λ (p : Pair). IsMoved top p.source p.target) same
      (at c.levels.inner c.levels.around (subst (λ ns. Among ns name) (sym is) (inl refl)) h.levels)
    where
      at : (inner : Level) (around : List Level) → Among inner.names.names name → AreMoved top inner around
          → IsMoved top (name ∷ inner.copy.source) ((let b = is_empty around in if b then c.name else name) ∷ inner.copy.target)
      at inner [] among a = record {
        rest = [];
        from = ap (λ (p : Route). name ∷ p) a.from ∙ a.only name among;
        to = ap (λ (p : Route). c.name ∷ p) a.to ∙ h.name;
      }
      at inner (outer ∷ around) among a = record {
        rest = name ∷ (let m = a.0 in m.rest);
        from = (let m = a.0 in ap (λ (p : Route). name ∷ p) m.from);
        to = (let m = a.0 in ap (λ (p : Route). name ∷ p) m.to);
      }

  -- a folder that was made is gone into, or all stays
  made_in_place : (stage : Stage) (names : OpenFolder) (moved : FolderCopying) (c : Seen) (to : Did) → IsMoved top moved.source moved.target → IsInPlace top c
      → IsInPlace top (record c { stage = after_report to c.stage; levels = made_levels stage names moved c.levels })
  made_in_place (Fill owed) names moved c to m h = record {
    name = h.name;
    levels = (
      m,
      levels_keep top c.levels.inner (let l = dirtied_levels true c.levels in record { names = without_next c.levels.inner.names; copy = l.inner.copy }) c.levels.around refl refl (λ o. o)
          (λ name is. fewer c.levels.inner.names.names name is) (fewer_many c.levels.inner.names.names) h.levels,
    );
    alone = gone_into top c.levels.inner c.levels.around (let l = dirtied_levels true c.levels in record { names = without_next c.levels.inner.names; copy = l.inner.copy }) refl h.levels h.alone;
    item = h.item;
  }
  made_in_place (Make mode) names moved c to m h = record { name = h.name; levels = h.levels; alone = h.alone; item = h.item }
  made_in_place (Close owed) names moved c to m h = record { name = h.name; levels = h.levels; alone = h.alone; item = h.item }
  made_in_place Done names moved c to m h = record { name = h.name; levels = h.levels; alone = h.alone; item = h.item }

  names_made : (c new : FolderCopying) (mode : ℕ) (report : FolderDid) (did : Did) → c.stage ≡ Make mode → IsToldAs report did → folder.Tells c report new → IsMoved top c.source c.target → NamesTarget top did
  names_made c new mode (folder_did.Made path) did is told t m = subst (NamesTarget top) (sym told) (c.source, moved_to top c.source c.target c.source path refl t.2 m)
  names_made c new mode (folder_did.Set path) did is told t m = absurd (let e = sym is ∙ t.1 in let f : ⊥ = cc in f)
  names_made c new mode folder_did.Barrier did is told t m = subst (NamesTarget top) (sym told) tt
  names_made c new mode folder_did.Closed did is told t m = absurd told
  names_made c new mode (folder_did.Troubled trouble) did is told t m = subst (NamesTarget top) (sym told) tt

  folder_keeps : (pair : Pair) (names : List (List ℕ)) (mode : ℕ) (old new : Seen) (did : Did) (before after : Option CallLog) → FolderMakes pair names mode old new did before after
      → IsMoved top pair.source pair.target → IsInPlace top old → IsInPlace top new × NamesTarget top did
  folder_keeps pair names mode old new did before after w m h =
      let same = folder_paths (folder.copying pair.source pair.target (Make mode) Synced) w.moved w.report w.tells in (
        subst (IsInPlace top) (sym w.stands)
            (made_in_place w.moved.stage (opened_folder pair.source names) w.moved old did (moved_to top pair.source pair.target w.moved.source w.moved.target same.0 same.1 m) h),
        names_made (folder.copying pair.source pair.target (Make mode) Synced) w.moved mode w.report did refl w.says w.tells m,
      )

  -- at the end of a folder
  pub closed_in_place : (c : Seen) → IsInPlace top c → IsInPlace top (at_end c)
  closed_in_place c h = record {
    name = h.name;
    levels = levels_keep top c.levels.inner (let l = levels_closed c.levels in l.inner) c.levels.around refl refl (closing_owed c.levels.inner.copy.stage) (λ name is. is) (omega arith) h.levels;
    alone = h.alone;
    item = h.item;
  }

  names_set : (around : List Level) (inner : Level) (new : FolderCopying) (path : Route) → folder.Tells inner.copy (folder_did.Set path) new → AreMoved top inner around → IsTargetOf top path
  names_set [] inner new path t h = absurd (let e = sym (ap owed_of t.1) ∙ h.keeps in let f : ⊥ = cc in f)
  names_set (outer ∷ around) inner new path t h = (inner.copy.source, moved_to top inner.copy.source inner.copy.target inner.copy.source path refl t.2 h.0)

  names_again : (around : List Level) (inner : Level) (new : FolderCopying) (path : Route) → folder.Tells inner.copy (folder_did.Made path) new → AreMoved top inner around → IsTargetOf top path
  names_again [] inner new path t h = absurd (let e = sym (ap owed_of t.1) ∙ h.keeps in let f : ⊥ = cc in f)
  names_again (outer ∷ around) inner new path t h = (inner.copy.source, moved_to top inner.copy.source inner.copy.target inner.copy.source path refl t.2 h.0)

  names_end : (around : List Level) (inner : Level) (new : FolderCopying) (report : FolderDid) (did : Did) → IsToldAs report did → folder.Tells inner.copy report new → AreMoved top inner around → NamesTarget top did
  names_end around inner new (folder_did.Made path) did told t h = subst (NamesTarget top) (sym told) (names_again around inner new path t h)
  names_end around inner new (folder_did.Set path) did told t h = subst (NamesTarget top) (sym told) (names_set around inner new path t h)
  names_end around inner new folder_did.Barrier did told t h = subst (NamesTarget top) (sym told) tt
  names_end around inner new folder_did.Closed did told t h = absurd told
  names_end around inner new (folder_did.Troubled trouble) did told t h = subst (NamesTarget top) (sym told) tt

  ends_keep : (old new : Seen) (did : Did) (before after : Option CallLog) → FolderEnds old new did before after → IsInPlace top old → IsInPlace top new × NamesTarget top did
  ends_keep old new did before after w h =
      let same = folder_paths old.levels.inner.copy w.moved w.report w.tells in (
        subst (IsInPlace top) (sym w.stands) record {
          name = h.name;
          levels = levels_keep top old.levels.inner (let l = with_copy w.moved old.levels in l.inner) old.levels.around same.0 same.1 (owes_none old.levels.inner.copy w.moved w.report w.tells) (λ name is. is) (omega arith) h.levels;
          alone = h.alone;
          item = h.item;
        },
        names_end old.levels.around old.levels.inner w.moved w.report did w.says w.tells h.levels,
      )

  -- the folder around is in its place too
  around_moved : (inner outer : Level) (was around : List Level) → was ≡ outer ∷ around → AreMoved top inner was → AreMoved top outer around
  around_moved inner outer was around is h = let k = subst (λ (xs : List Level). AreMoved top inner xs) is h in k.1

  leaves_keep : (old new : Seen) → Leaves old new → IsInPlace top old → IsInPlace top new
  leaves_keep old new l h =
      let r = l.returns in
      let b = closed_in_place old h in
      subst (IsInPlace top) (sym r.stands) record {
        name = b.name;
        levels = around_moved (let c = at_end old in c.levels.inner) new.levels.inner old.levels.around new.levels.around (let x = r.left in x.was) b.levels;
        alone = left_beside new.levels.inner old.levels.around new.levels.around (let x = r.left in x.was) b.alone;
        item = b.item;
      }

  pub leaves_all : (n : ℕ) (old new : Seen) → LeavesAll n old new → IsInPlace top old → IsInPlace top new
  leaves_all zero old new is h = subst (IsInPlace top) (sym is) h
  leaves_all (suc n) old new l h = leaves_keep l.0 new l.3 (leaves_all n old l.0 l.1 h)

  takes_keep : (unclaimed : Route → Type 0) (replies : Replies) (old new : Seen) (did : Did) (before after : Option CallLog) → TakesNext unclaimed replies old new did before after → IsInPlace top old → IsInPlace top new × NamesTarget top did
  takes_keep unclaimed replies old new did before after (inl s) h = (subst (IsInPlace top) (sym s.stands) h, subst (NamesTarget top) (sym s.says) tt)
  takes_keep unclaimed replies old new did before after (inr (inl t)) h =
      file_keeps unclaimed (file.begun_copy old.job t.pair.source t.pair.target) old new did None None (file_taken unclaimed replies old new did before after t) (pair_moved old.levels.inner.names.names old t.pair refl t.next h) h
  takes_keep unclaimed replies old new did before after (inr (inr (inl t))) h = link_keeps _ old new did before after t.works (pair_moved old.levels.inner.names.names old t.pair refl t.next h) h
  takes_keep unclaimed replies old new did before after (inr (inr (inr (inl t)))) h =
      folder_keeps t.pair t.names t.mode old new did before after t.works (pair_moved old.levels.inner.names.names old t.pair refl t.next h) h
  takes_keep unclaimed replies old new did before after (inr (inr (inr (inr (inl t))))) h = (
    subst (IsInPlace top) (sym t.stands) record {
      name = h.name;
      levels = levels_keep top old.levels.inner (let l = passed_levels false old.levels in l.inner) old.levels.around refl refl (λ o. o) (λ name is. fewer old.levels.inner.names.names name is) (fewer_many old.levels.inner.names.names) h.levels;
      alone = h.alone;
      item = h.item;
    },
    subst (NamesTarget top) (sym t.says) tt,
  )
  takes_keep unclaimed replies old new did before after (inr (inr (inr (inr (inr (inl t)))))) h = (
    subst (IsInPlace top) (sym t.stands) record {
      name = h.name;
      levels = levels_keep top old.levels.inner (let l = passed_levels false old.levels in l.inner) old.levels.around refl refl (λ o. o) (λ name is. fewer old.levels.inner.names.names name is) (fewer_many old.levels.inner.names.names) h.levels;
      alone = h.alone;
      item = h.item;
    },
    subst (NamesTarget top) (sym t.says) tt,
  )
  takes_keep unclaimed replies old new did before after (inr (inr (inr (inr (inr (inr (inl t))))))) h = (subst (IsInPlace top) (sym t.stands) h, subst (NamesTarget top) (sym t.says) tt)
  takes_keep unclaimed replies old new did before after (inr (inr (inr (inr (inr (inr (inr (next, inl (debt, e))))))))) h = ends_keep (at_end old) new did before after e (closed_in_place old h)
  takes_keep unclaimed replies old new did before after (inr (inr (inr (inr (inr (inr (inr (next, inr (debt, f, same))))))))) h =
      (subst (IsInPlace top) (sym f.stands) (closed_in_place old h), subst (NamesTarget top) (sym f.says) tt)

  -- the folder around is synced
  pub synced_around : (inner outer : Level) (names : NamesState) (was around : List Level) → was ≡ outer ∷ around → AreMoved top inner was → AreMoved top inner (level outer.names (record outer.copy { names = names }) ∷ around)
  synced_around inner outer names was around is h =
      let k = subst (λ (xs : List Level). AreMoved top inner xs) is h in
      (k.0, levels_keep top outer (level outer.names (record outer.copy { names = names })) around refl refl (λ o. o) (λ name n. n) (omega arith) k.1)

  names_sync : (c new : FolderCopying) (report : FolderDid) (did : Did) → c.stage ≡ Close None → IsToldAs report did → folder.Tells c report new → owed_of c.stage ≡ None → NamesTarget top did
  names_sync c new (folder_did.Made path) did at told t h = absurd (let e = sym at ∙ t.1 in let f : ⊥ = cc in f)
  names_sync c new (folder_did.Set path) did at told t h = absurd (let e = sym (ap owed_of t.1) ∙ h in let f : ⊥ = cc in f)
  names_sync c new folder_did.Barrier did at told t h = subst (NamesTarget top) (sym told) tt
  names_sync c new folder_did.Closed did at told t h = absurd told
  names_sync c new (folder_did.Troubled trouble) did at told t h = subst (NamesTarget top) (sym told) tt

  syncs_keep : (old new : Seen) (did : Did) (before after : Option CallLog) → SyncsAround old new did before after → IsInPlace top old → IsInPlace top new × NamesTarget top did
  syncs_keep old new did before after s h = (
    subst (IsInPlace top) (sym s.stands) record { name = h.name; levels = synced_around old.levels.inner s.outer s.names old.levels.around s.around s.was h.levels; alone = synced_beside s.outer s.names old.levels.around s.around s.was h.alone; item = h.item },
    names_sync (at_sync s.outer.copy) (record (at_sync s.outer.copy) { names = s.names }) s.report did refl s.says s.tells refl,
  )

  goes_keep : (unclaimed : Route → Type 0) (replies : Replies) (old new : Seen) (did : Did) (before after : Option CallLog) → GoesOn unclaimed replies old new did before after → IsInPlace top old → IsInPlace top new × NamesTarget top did
  goes_keep unclaimed replies old new did before after (inl s) h = syncs_keep old new did before after s h
  goes_keep unclaimed replies old new did before after (inr s) h = takes_keep unclaimed replies old new did before after s.1 h

  works_keep : (unclaimed : Route → Type 0) (replies : Replies) (item : ItemAtWork) (old new : Seen) (did : Did) (before after : Option CallLog) → WorksOn item unclaimed replies old new did before after → ItemMoved top item
      → IsInPlace top old → IsInPlace top new × NamesTarget top did
  works_keep unclaimed replies Next old new did before after w m h = goes_keep unclaimed replies old new did before after w h
  works_keep unclaimed replies (File f) old new did before after w m h = file_keeps unclaimed f old new did before after w m h
  works_keep unclaimed replies (Link l) old new did before after w m h = link_keeps l old new did before after w m h
  works_keep unclaimed replies (Stays part) old new did before after w m h = absurd w

pub place_law : PlaceLaw
place_law free replies top old new did calls before after f0 f1 s h =
    let m = leaves_all top s.folders old s.mid s.leaves h in
    works_keep top (IsPartPlace free s.mid) replies s.mid.item s.mid new did before after s.works m.item m
