-- A folder that was made is on the disk before anything is put into it.
use Rattle.std.specs.Prelude.{◌⊎◌}
use Rattle.std.proofs.Common.{◌≡◌, ℕ, zero, suc, refl, sym, ◌∙◌, ap, subst, inl, inr, Bool, true, false, List, [], ◌∷◌, Option, Some, None}
use Rattle.std.proofs.lemmas.Bool.{false≢true}
use Rattle.mc_text.specs.Routes.{Route}
use Rattle.tree_trait.specs.Change.{CallLog}
use Rattle.job_answers.specs.declared.replies.Replies.{Replies}
use Rattle.job_reports.specs.declared.report.Cause.{Cause}
use Rattle.job_reports.specs.declared.report.Did.{Did}
use Rattle.job_reports.specs.declared.report.Ending.{Ending}
use Rattle.job_reports.specs.declared.report.LastStepResult.{LastStepResult}
use Rattle.copy_file.specs.Copying as file
use Rattle.copy_file.specs.Copying.{Copying}
use Rattle.copy_folders.specs.FolderCopying as folder
use Rattle.copy_folders.specs.FolderCopying.{FolderCopying, is_dirty}
use Rattle.copy_folders.specs.FolderSteps as folder_steps
use Rattle.copy_folders.specs.declared.stage.FolderDid.{FolderDid}
use Rattle.copy_folders.specs.declared.stage.FolderDid.TheVariants as folder_did
use Rattle.copy_folders.specs.declared.stage.NamesState.TheVariants.{Synced}
use Rattle.copy_folders.specs.declared.stage.Stage.{Stage}
use Rattle.copy_folders.specs.declared.stage.Stage.TheVariants.{Make, Fill, Close, Done}
use Rattle.copy_link.specs.LinkCopying as link
use Rattle.copy_link.specs.LinkCopying.{LinkCopying}
use Rattle.tree_walk.specs.Places.{OpenFolder, opened_folder}
use Rattle.copy_tree.specs.declared.item.ItemAtWork.{ItemAtWork}
use Rattle.copy_tree.specs.declared.item.ItemAtWork.TheVariants.{Next, File, Link, Stays}
use Rattle.copy_folders.specs.declared.level.Level.{Level}
use Rattle.copy_tree.specs.declared.progress.Progress.{Progress}
use Rattle.copy_tree.specs.declared.progress.Progress.TheVariants.{UnderWay, Decided, Anew}
use Rattle.copy_tree.specs.Ending.{EndsAll, FoldersWind, LinkWinds, TriesFolder, WindsAt}
use Rattle.copy_folders.specs.Levels.{LeftAll, Levels, is_around_dirty, made_levels}
use Rattle.copy_tree.specs.OnDisk.{AllSynced, AroundSynced, IsOnDisk, IsUntouched, OnDiskLaw}
use Rattle.copy_tree.specs.Parts.{IsPartPlace}
use Rattle.copy_tree.specs.Progress.{link_progress, progress}
use Rattle.copy_tree.specs.Skipping.{SkipsAt, SkipsName, SkipsNamed, SkipsRest, retried_at}
use Rattle.copy_tree.specs.Standing.{Seen, after_report}
use Rattle.copy_tree.specs.TreeCopySteps.{FileWorks, GoesOn, LeavesAll, LinkWorks, SyncsAround, TakesNext, WorksOn, idle, copy_after_progress}
use Rattle.copy_tree.proofs.PartsBegin.{file_taken}

-- where none of the folders around is dirty, all may go on
from_all : (item : ItemAtWork) (inner : Level) (around : List Level) → AllSynced around → AroundSynced item inner around
from_all item inner [] h = tt
from_all item inner (outer ∷ around) h = (λ dirty. absurd (false≢true (sym h.0 ∙ dirty)), h.1)

kept : (around : List Level) (new : Seen) → let l = new.levels in l.around ≡ around → AllSynced around → IsOnDisk new
kept around new is h = from_all new.item new.levels.inner new.levels.around (subst AllSynced (sym is) h)

-- it isn't dirty, where that leads to a contradiction
clean_if : (b dirty : Bool) → dirty ≡ b → (dirty ≡ true → ⊥) → dirty ≡ false
clean_if true dirty is not = absurd (not is)
clean_if false dirty is not = is

synced_if : (item : ItemAtWork) (inner : Level) (around : List Level) → (IsUntouched item inner → ⊥) → AroundSynced item inner around → AllSynced around
synced_if item inner [] not h = tt
synced_if item inner (outer ∷ around) not h = (clean_if (is_dirty outer.copy.names) (is_dirty outer.copy.names) refl (λ dirty. not (h.0 dirty)), h.1)

quiet : (item : ItemAtWork) (inner : Level) (around : List Level) → is_around_dirty around ≡ false → AroundSynced item inner around → AllSynced around
quiet item inner [] is h = tt
quiet item inner (outer ∷ around) is h = (is, h.1)

file_busy : (f : Copying) (inner : Level) (around : List Level) → AroundSynced (File f) inner around → AllSynced around
file_busy f inner around h = synced_if (File f) inner around (λ u. let e = u.free in let no : ⊥ = cc in no) h

link_busy : (l : LinkCopying) (inner : Level) (around : List Level) → AroundSynced (Link l) inner around → AllSynced around
link_busy l inner around h = synced_if (Link l) inner around (λ u. let e = u.free in let no : ⊥ = cc in no) h

dirty_busy : (item : ItemAtWork) (inner : Level) (around : List Level) → is_dirty inner.copy.names ≡ true → AroundSynced item inner around → AllSynced around
dirty_busy item inner around dirty h = synced_if item inner around (λ u. false≢true (sym u.clean ∙ dirty)) h

-- the mark of the innermost folder stays
inner_same : (item : ItemAtWork) (inner new : Level) (around : List Level) → new.copy.names ≡ inner.copy.names → AroundSynced item inner around → AroundSynced item new around
inner_same item inner new [] is h = tt
inner_same item inner new (outer ∷ around) is h = (λ dirty. let u = h.0 dirty in record { free = u.free; clean = ap is_dirty is ∙ u.clean }, h.1)

settled_around : (p : Progress) (item : ItemAtWork) (c : Seen) → (let s = copy_after_progress p item c in s.levels.around) ≡ c.levels.around
settled_around UnderWay item c = refl
settled_around Decided item c = refl
settled_around Anew item c = refl

file_around : (unclaimed : Route → Type 0) (f : Copying) (old new : Seen) (did : Did) (before after : Option CallLog) → FileWorks unclaimed f old new did before after → new.levels.around ≡ old.levels.around
file_around unclaimed f old new did before after w = ap (λ (c : Seen). c.levels.around) w.stands ∙ settled_around (progress w.moved.stage) (File w.moved) _

link_around : (l : LinkCopying) (old new : Seen) (did : Did) (before after : Option CallLog) → LinkWorks l old new did before after → new.levels.around ≡ old.levels.around
link_around l old new did before after w = ap (λ (c : Seen). c.levels.around) w.stands ∙ settled_around (link_progress w.moved.stage) (Link w.moved) _

-- a folder that is made is not dirty
made_clean : (source target : Route) (mode : ℕ) (new : FolderCopying) (report : FolderDid) → folder.Tells (folder.copying source target (Make mode) Synced) report new → is_dirty new.names ≡ false
made_clean source target mode new (folder_did.Made path) t = ap (λ (c : FolderCopying). is_dirty c.names) t.3
made_clean source target mode new (folder_did.Set path) t = absurd (let e = t.1 in let no : ⊥ = cc in no)
made_clean source target mode new folder_did.Barrier t = ap (λ (c : FolderCopying). is_dirty c.names) t.2
made_clean source target mode new folder_did.Closed t = ap (λ (c : FolderCopying). is_dirty c.names) t.2
made_clean source target mode new (folder_did.Troubled trouble) t = ap (λ (c : FolderCopying). is_dirty c.names) t.1

made_on_disk : (stage : Stage) (names : OpenFolder) (moved : FolderCopying) (c : Seen) (did : Did) → is_dirty moved.names ≡ false → c.item ≡ Next → AllSynced c.levels.around
    → IsOnDisk (record c { stage = after_report did c.stage; levels = made_levels stage names moved c.levels })
made_on_disk (Fill owed) names moved c did clean free h = (λ dirty. record { free = free; clean = clean }, h)
made_on_disk (Make mode) names moved c did clean free h = from_all c.item c.levels.inner c.levels.around h
made_on_disk (Close owed) names moved c did clean free h = from_all c.item c.levels.inner c.levels.around h
made_on_disk Done names moved c did clean free h = from_all c.item c.levels.inner c.levels.around h

takes : (unclaimed : Route → Type 0) (replies : Replies) (old new : Seen) (did : Did) (before after : Option CallLog) → TakesNext unclaimed replies old new did before after → old.item ≡ Next → AllSynced old.levels.around → IsOnDisk new
takes unclaimed replies old new did before after (inl s) free h = kept old.levels.around new (ap (λ (c : Seen). c.levels.around) s.stands) h
takes unclaimed replies old new did before after (inr (inl t)) free h = kept old.levels.around new (file_around unclaimed _ old new did None None (file_taken unclaimed replies old new did before after t)) h
takes unclaimed replies old new did before after (inr (inr (inl t))) free h = kept old.levels.around new (link_around _ old new did before after t.works) h
takes unclaimed replies old new did before after (inr (inr (inr (inl t)))) free h =
    let w = t.works in
    subst IsOnDisk (sym w.stands) (made_on_disk w.moved.stage (opened_folder t.pair.source t.names) w.moved old did (made_clean t.pair.source t.pair.target t.mode w.moved w.report w.tells) free h)
takes unclaimed replies old new did before after (inr (inr (inr (inr (inl t))))) free h = kept old.levels.around new (ap (λ (c : Seen). c.levels.around) t.stands) h
takes unclaimed replies old new did before after (inr (inr (inr (inr (inr (inl t)))))) free h = kept old.levels.around new (ap (λ (c : Seen). c.levels.around) t.stands) h
takes unclaimed replies old new did before after (inr (inr (inr (inr (inr (inr (inl t))))))) free h = kept old.levels.around new (ap (λ (c : Seen). c.levels.around) t.stands) h
takes unclaimed replies old new did before after (inr (inr (inr (inr (inr (inr (inr (next, inl (debt, e))))))))) free h = kept old.levels.around new (ap (λ (c : Seen). c.levels.around) e.stands) h
takes unclaimed replies old new did before after (inr (inr (inr (inr (inr (inr (inr (next, inr (debt, f, same))))))))) free h = kept old.levels.around new (ap (λ (c : Seen). c.levels.around) f.stands) h

nearest : (item : ItemAtWork) (inner outer : Level) (was around : List Level) → was ≡ outer ∷ around → AroundSynced item inner was → AroundSynced item inner (outer ∷ around)
nearest item inner outer was around is h = subst (AroundSynced item inner) is h

syncs : (old new : Seen) (did : Did) (before after : Option CallLog) → SyncsAround old new did before after → IsOnDisk old → IsOnDisk new
syncs old new did before after s h =
    let k = nearest old.item old.levels.inner s.outer old.levels.around s.around s.was h in
    let dirty : is_dirty s.outer.copy.names ≡ true = ap is_around_dirty (sym s.was) ∙ s.dirty in
    subst IsOnDisk (sym s.stands) (λ still. k.0 dirty, k.1)

goes : (unclaimed : Route → Type 0) (replies : Replies) (old new : Seen) (did : Did) (before after : Option CallLog) → GoesOn unclaimed replies old new did before after → old.item ≡ Next → IsOnDisk old → IsOnDisk new
goes unclaimed replies old new did before after (inl s) free h = syncs old new did before after s h
goes unclaimed replies old new did before after (inr s) free h = takes unclaimed replies old new did before after s.1 free (quiet old.item old.levels.inner old.levels.around s.0 h)

works : (unclaimed : Route → Type 0) (replies : Replies) (item : ItemAtWork) (old new : Seen) (did : Did) (before after : Option CallLog) → WorksOn item unclaimed replies old new did before after → old.item ≡ item
    → AroundSynced item old.levels.inner old.levels.around → IsOnDisk new
works unclaimed replies Next old new did before after w is h = goes unclaimed replies old new did before after w is (subst (λ (i : ItemAtWork). AroundSynced i old.levels.inner old.levels.around) (sym is) h)
works unclaimed replies (File f) old new did before after w is h = kept old.levels.around new (file_around unclaimed f old new did before after w) (file_busy f old.levels.inner old.levels.around h)
works unclaimed replies (Link l) old new did before after w is h = kept old.levels.around new (link_around l old new did before after w) (link_busy l old.levels.inner old.levels.around h)
works unclaimed replies (Stays part) old new did before after w is h = absurd w

-- folders that are left
leaves : (n : ℕ) (old new : Seen) → LeavesAll n old new → IsOnDisk old → IsOnDisk new
leaves zero old new is h = subst IsOnDisk (sym is) h
leaves (suc n) old new l h =
    let one = l.3 in
    let r = one.returns in
    let left = r.left in
    let all = subst AllSynced left.was (quiet l.0.item l.0.levels.inner l.0.levels.around one.synced (leaves n old l.0 l.1 h)) in
    from_all new.item new.levels.inner new.levels.around all.1

-- skips and retries
rest_stays : (cause : Cause) (old new : Seen) (did : Did) → SkipsRest cause old did new → IsOnDisk old → IsOnDisk new
rest_stays cause old new did (inl s) h = subst IsOnDisk (sym s.1) (inner_same old.item old.levels.inner _ old.levels.around refl h)
rest_stays cause old new did (inr s) h = subst IsOnDisk (sym s.1) h

name_stays : (name : List ℕ) (cause : Cause) (old new : Seen) (did : Did) → SkipsName name cause old did new → IsOnDisk old → IsOnDisk new
name_stays name cause old new did (inl s) h = subst IsOnDisk (sym s.1) (inner_same old.item old.levels.inner _ old.levels.around refl h)
name_stays name cause old new did (inr (inl s)) h = rest_stays cause old new did s.1 h
name_stays name cause old new did (inr (inr s)) h = subst IsOnDisk (sym s.1) h

skipped_same : (cause : Cause) (c new : FolderCopying) (did : Did) → folder_steps.Skips cause c did new → new.names ≡ c.names
skipped_same cause c new did (inl s) = ap (λ (x : FolderCopying). x.names) s.1
skipped_same cause c new did (inr s) = ap (λ (x : FolderCopying). x.names) s.1

named_stays : (names : List (List ℕ)) (cause : Cause) (old new : Seen) (did : Did) → SkipsNamed names cause old did new → IsOnDisk old → IsOnDisk new
named_stays [] cause old new did s h = subst IsOnDisk (sym s.2) (inner_same old.item old.levels.inner _ old.levels.around (skipped_same cause old.levels.inner.copy s.0 did s.1) h)
named_stays (name ∷ names) cause old new did s h = name_stays name cause old new did s h

skips_stay : (item : ItemAtWork) (cause : Cause) (old new : Seen) (did : Did) → SkipsAt item cause old did new → old.item ≡ item → AroundSynced item old.levels.inner old.levels.around → IsOnDisk new
skips_stay Next cause old new did s is h = named_stays old.levels.inner.names.names cause old new did s (subst (λ (i : ItemAtWork). AroundSynced i old.levels.inner old.levels.around) (sym is) h)
skips_stay (File f) cause old new did s is h =
    kept old.levels.around new (ap (λ (c : Seen). c.levels.around) s.2 ∙ settled_around (progress s.0.stage) (File s.0) (idle old)) (file_busy f old.levels.inner old.levels.around h)
skips_stay (Link l) cause old new did s is h =
    kept old.levels.around new (ap (λ (c : Seen). c.levels.around) s.2 ∙ settled_around (link_progress s.0.stage) (Link s.0) (idle old)) (link_busy l old.levels.inner old.levels.around h)
skips_stay (Stays part) cause old new did s is h = absurd s

retries_stay : (item : ItemAtWork) (c : Seen) → c.item ≡ item → AroundSynced item c.levels.inner c.levels.around → IsOnDisk (retried_at item c)
retries_stay Next c is h = subst (λ (i : ItemAtWork). AroundSynced i c.levels.inner c.levels.around) (sym is) h
retries_stay (File f) c is h =
    kept c.levels.around (retried_at (File f) c) (settled_around (progress (file.taken_anew f.stage)) (File (record f { stage = file.taken_anew f.stage })) (idle c)) (file_busy f c.levels.inner c.levels.around h)
retries_stay (Link l) c is h =
    kept c.levels.around (retried_at (Link l) c) (settled_around (link_progress (link.taken_anew l.stage)) (Link (record l { stage = link.taken_anew l.stage })) (idle c)) (link_busy l c.levels.inner c.levels.around h)
retries_stay (Stays part) c is h = subst (λ (i : ItemAtWork). AroundSynced i c.levels.inner c.levels.around) (sym is) h

-- last steps
left_stays : (item : ItemAtWork) (n : ℕ) (old new : Levels) → LeftAll n old new → AroundSynced item old.inner old.around → AroundSynced item new.inner new.around
left_stays item zero old new is h = subst (λ (l : Levels). AroundSynced item l.inner l.around) (sym is) h
left_stays item (suc n) old new l h =
    let left = l.3 in
    let k = nearest item l.0.inner new.inner l.0.around new.around left.was (left_stays item n old l.0 l.1 h) in
    from_all item new.inner new.around k.1

winds : (item : ItemAtWork) (ending : Ending) (part : Option Route) (mid : Levels) (old new : Seen) (last : LastStepResult) (before after : Option CallLog) (f0 f1 : ℕ)
    → TriesFolder part mid old new last before after f0 f1 ⊎ EndsAll ending part mid old new last before after f0 f1 → AroundSynced item mid.inner mid.around → IsOnDisk new
winds item ending part mid old new last before after f0 f1 (inl t) h = kept mid.around new (ap (λ (c : Seen). c.levels.around) t.stands) (dirty_busy item mid.inner mid.around t.dirty h)
winds item ending part mid old new last before after f0 f1 (inr e) h = kept [] new (ap (λ (c : Seen). c.levels.around) e.stands ∙ e.outermost) tt

folders_stay : (item : ItemAtWork) (ending : Ending) (part : Option Route) (old new : Seen) (last : LastStepResult) (before after : Option CallLog) (f0 f1 : ℕ) → FoldersWind ending part old new last before after f0 f1
    → AroundSynced item old.levels.inner old.levels.around → IsOnDisk new
folders_stay item ending part old new last before after f0 f1 w h = winds item ending part w.mid old new last before after f0 f1 w.winds (left_stays item w.count old.levels w.mid w.left h)

link_stays : (ending : Ending) (l : LinkCopying) (old new : Seen) (last : LastStepResult) (before after : Option CallLog) (f0 f1 : ℕ) → LinkWinds ending l old new last before after f0 f1
    → AllSynced old.levels.around → IsOnDisk new
link_stays ending l old new last before after f0 f1 (inl c) h = kept old.levels.around new (ap (λ (s : Seen). s.levels.around) c.stands) h
link_stays ending l old new last before after f0 f1 (inr s) h =
    let later = s.winds in
    folders_stay Next ending (Some l.part) old new later.next s.mid after s.since f1 later.winds (from_all Next old.levels.inner old.levels.around h)

winds_stay : (item : ItemAtWork) (ending : Ending) (old new : Seen) (last : LastStepResult) (before after : Option CallLog) (f0 f1 : ℕ) → WindsAt item ending old new last before after f0 f1
    → AroundSynced item old.levels.inner old.levels.around → IsOnDisk new
winds_stay Next ending old new last before after f0 f1 w h = folders_stay Next ending None old new last before after f0 f1 w h
winds_stay (File f) ending old new last before after f0 f1 w h = kept old.levels.around new (ap (λ (c : Seen). c.levels.around) w.stands) (file_busy f old.levels.inner old.levels.around h)
winds_stay (Link l) ending old new last before after f0 f1 w h = link_stays ending l (idle old) new last before after f0 f1 w (link_busy l old.levels.inner old.levels.around h)
winds_stay (Stays part) ending old new last before after f0 f1 w h = folders_stay (Stays part) ending (Some part) (idle old) new last before after f0 f1 w h

pub on_disk_law : OnDiskLaw
on_disk_law = record {
  begins = λ job source target. tt;
  step = λ free replies old new did calls before after f0 f1 s h.
      works (IsPartPlace free s.mid) replies s.mid.item s.mid new did before after s.works refl (leaves s.folders old s.mid s.leaves h);
  skip = λ cause old new did s h. skips_stay old.item cause old new did s refl h;
  retry = λ old h. retries_stay old.item old refl h;
  last_step = λ ending old new last before after f0 f1 w h. winds_stay old.item ending old new last before after f0 f1 w h;
}
