-- A dirty folder is clean after a step only where the step reports its sync.
use Rattle.std.proofs.Common.{◌≡◌, ℕ, refl, sym, ◌∙◌, ap, inl, inr, Bool, true, false, List, Option, None}
use Rattle.std.specs.Prelude.{if◌then◌else◌}
use Rattle.std.proofs.lemmas.Bool.{true≢false}
use Rattle.mc_text.specs.Routes.{Route}
use Rattle.tree_trait.specs.Change.{CallLog}
use Rattle.job_answers.specs.declared.replies.Replies.{Replies}
use Rattle.copy_file.specs.Copying as file
use Rattle.copy_file.specs.Copying.{Copying}
use Rattle.copy_link.specs.LinkCopying as link
use Rattle.copy_link.specs.LinkCopying.{LinkCopying}
use Rattle.copy_folders.specs.FolderCopying as folder
use Rattle.copy_folders.specs.FolderCopying.{FolderCopying, is_dirty}
use Rattle.copy_folders.specs.FolderSteps.{at_sync}
use Rattle.copy_folders.specs.declared.stage.FolderDid.{FolderDid}
use Rattle.copy_folders.specs.declared.stage.FolderDid.TheVariants as folder_did
use Rattle.copy_folders.specs.declared.stage.Stage.{Stage}
use Rattle.job_answers.specs.declared.skips.Skips.{Skips}
use Rattle.job_reports.specs.declared.job.Pair.{Pair}
use Rattle.job_reports.specs.declared.report.Did.{Did}
use Rattle.job_reports.specs.declared.report.Did.TheVariants.{Began, Chunk, Placed, Removed, Made, Set, Kept, Skipped, Cleaned, Barrier, Asked, Merges, Moved, Troubled, Ended}
use Rattle.job_reports.specs.declared.report.StepResult.{StepResult}
use Rattle.tree_walk.specs.Places.{opened_folder}
use Rattle.copy_folders.specs.Levels.{Levels, is_around_dirty, made_levels}
use Rattle.copy_tree.specs.declared.item.ItemAtWork.{ItemAtWork}
use Rattle.copy_tree.specs.declared.item.ItemAtWork.TheVariants.{Next, File, Link, Stays}
use Rattle.copy_tree.specs.declared.progress.Progress.{Progress}
use Rattle.copy_tree.specs.declared.progress.Progress.TheVariants.{UnderWay, Decided, Anew}
use Rattle.copy_tree.specs.Parts.{IsPartPlace}
use Rattle.copy_tree.specs.Progress.{link_progress, progress}
use Rattle.copy_tree.specs.Reports.{IsToldAs}
use Rattle.copy_tree.specs.Standing.{Seen}
use Rattle.copy_tree.specs.TreeCopySteps.{CopySteps, FileWorks, FolderEnds, FolderMakes, LinkWorks, SyncsAround, TakesNext, WorksOn, at_end, idle, noted_copy, copy_after_progress}
use Rattle.copy_job.specs.Leaving.{may_leave}
use Rattle.copy_job.specs.Marks.{brings_in, is_dirty_after, is_left_dirty, was_dirty}
use Rattle.copy_job.specs.Passing.{OrPassedOver}
use Rattle.copy_tree.proofs.PartsBegin.{file_taken}
use Rattle.copy_job.proofs.Barred.{passed_trouble}
use Rattle.copy_job.proofs.Targets.{unmade, works_at_once}

abbrev inner_dirty : Seen → Bool
inner_dirty c = is_dirty c.levels.inner.copy.names

left_clean : (did : Did) (c : Seen) → is_left_dirty did c ≡ false → inner_dirty c ≡ false
left_clean (Made path) c h = absurd (true≢false h)
left_clean (Began part) c h = h
left_clean (Chunk count) c h = h
left_clean (Set path) c h = h
left_clean (Placed path) c h = h
left_clean (Removed path) c h = h
left_clean (Kept path) c h = h
left_clean (Asked question) c h = h
left_clean (Merges transfer pair names) c h = h
left_clean (Moved pair) c h = h
left_clean (Skipped path cause) c h = h
left_clean (Cleaned part) c h = h
left_clean Barrier c h = h
left_clean (Troubled trouble) c h = h
left_clean (Ended ending part) c h = h

-- a file or a link changes names in the folder that is worked, and syncs nothing
settled_names : (p : Progress) (item : ItemAtWork) (c : Seen) → inner_dirty (copy_after_progress p item c) ≡ inner_dirty c
settled_names UnderWay item c = refl
settled_names Decided item c = refl
settled_names Anew item c = refl

noted_names : (changed : Bool) (did : Did) (c : Seen) → inner_dirty c ≡ true → inner_dirty (noted_copy did changed c) ≡ true
noted_names true did c was = refl
noted_names false did c was = was

file_stays : (unclaimed : Route → Type 0) (f : Copying) (old new : Seen) (did : Did) (before after : Option CallLog) → FileWorks unclaimed f old new did before after → inner_dirty old ≡ true → inner_dirty new ≡ true
file_stays unclaimed f old new did before after w was =
    let m = w.moved in
    ap inner_dirty w.stands
    ∙ (settled_names (progress m.stage) (File m) (noted_copy did (file.is_dirty m.folder) (idle old)) ∙ noted_names (file.is_dirty m.folder) did (idle old) was)

link_stays : (l : LinkCopying) (old new : Seen) (did : Did) (before after : Option CallLog) → LinkWorks l old new did before after → inner_dirty old ≡ true → inner_dirty new ≡ true
link_stays l old new did before after w was =
    let m = w.moved in
    ap inner_dirty w.stands
    ∙ (settled_names (link_progress m.stage) (Link m) (noted_copy did (link.is_dirty m.folder) (idle old)) ∙ noted_names (link.is_dirty m.folder) did (idle old) was)

-- a step at a folder itself
folder_syncs : (c new : FolderCopying) (report : FolderDid) (did : Did) → IsToldAs report did → folder.Tells c report new → is_dirty c.names ≡ true → is_dirty new.names ≡ false → did ≡ Barrier
folder_syncs c new (folder_did.Made path) did told t was now = absurd (true≢false ((sym was ∙ sym (ap (λ (x : FolderCopying). is_dirty x.names) t.3)) ∙ now))
folder_syncs c new (folder_did.Set path) did told t was now = absurd (true≢false (sym (ap (λ (x : FolderCopying). is_dirty x.names) t.3) ∙ now))
folder_syncs c new folder_did.Barrier did told t was now = told
folder_syncs c new folder_did.Closed did told t was now = absurd told
folder_syncs c new (folder_did.Troubled trouble) did told t was now = absurd (true≢false ((sym was ∙ sym (ap (λ (x : FolderCopying). is_dirty x.names) t.1)) ∙ now))

-- where the innermost folder is still dirty nothing is to be shown
never : (did : Did) (new : Seen) → inner_dirty new ≡ true → is_left_dirty did new ≡ false → did ≡ Barrier
never did new there now = absurd (true≢false (sym there ∙ left_clean did new now))

makes_stay : (pair : Pair) (names : List (List ℕ)) (mode : ℕ) (old new : Seen) (did : Did) (before after : Option CallLog) → FolderMakes pair names mode old new did before after → is_left_dirty did new ≡ false
    → inner_dirty new ≡ inner_dirty old
makes_stay pair names mode old new did before after w clean =
    let same = unmade pair mode w.moved w.report did new w.says w.tells clean in
    ap inner_dirty w.stands ∙ ap (λ (s : Stage). (let l : Levels = made_levels s (opened_folder pair.source names) w.moved old.levels in is_dirty l.inner.copy.names)) same

ends_sync : (old new : Seen) (did : Did) (before after : Option CallLog) → FolderEnds (at_end old) new did before after → inner_dirty old ≡ true → is_left_dirty did new ≡ false → did ≡ Barrier
ends_sync old new did before after e was now =
    folder_syncs (let c = at_end old in c.levels.inner.copy) e.moved e.report did e.says e.tells was (sym (ap inner_dirty e.stands) ∙ left_clean did new now)

takes_sync : (unclaimed : Route → Type 0) (replies : Replies) (old new : Seen) (did : Did) (before after : Option CallLog) → TakesNext unclaimed replies old new did before after → inner_dirty old ≡ true → is_left_dirty did new ≡ false → did ≡ Barrier
takes_sync unclaimed replies old new did before after (inl s) was now = never did new (ap inner_dirty s.stands ∙ was) now
takes_sync unclaimed replies old new did before after (inr (inl t)) was now = never did new (file_stays unclaimed _ old new did None None (file_taken unclaimed replies old new did before after t) was) now
takes_sync unclaimed replies old new did before after (inr (inr (inl t))) was now = never did new (link_stays _ old new did before after t.works was) now
takes_sync unclaimed replies old new did before after (inr (inr (inr (inl t)))) was now = never did new (makes_stay t.pair t.names t.mode old new did before after t.works now ∙ was) now
takes_sync unclaimed replies old new did before after (inr (inr (inr (inr (inl t))))) was now = never did new (ap inner_dirty t.stands ∙ was) now
takes_sync unclaimed replies old new did before after (inr (inr (inr (inr (inr (inl t)))))) was now = never did new (ap inner_dirty t.stands ∙ was) now
takes_sync unclaimed replies old new did before after (inr (inr (inr (inr (inr (inr (inl t))))))) was now = never did new (ap inner_dirty t.stands ∙ was) now
takes_sync unclaimed replies old new did before after (inr (inr (inr (inr (inr (inr (inr (next, inl (debt, e))))))))) was now = ends_sync old new did before after e was now
takes_sync unclaimed replies old new did before after (inr (inr (inr (inr (inr (inr (inr (next, inr (debt, f, same))))))))) was now = never did new (ap inner_dirty f.stands ∙ was) now

around_syncs : (old new : Seen) (did : Did) (before after : Option CallLog) → SyncsAround old new did before after → is_around_dirty new.levels.around ≡ false → did ≡ Barrier
around_syncs old new did before after s now =
    folder_syncs (at_sync s.outer.copy) (record (at_sync s.outer.copy) { names = s.names }) s.report did s.says s.tells refl (sym (ap (λ (c : Seen). is_around_dirty c.levels.around) s.stands) ∙ now)

works_sync : (unclaimed : Route → Type 0) (replies : Replies) (item : ItemAtWork) (old new : Seen) (did : Did) (before after : Option CallLog) → WorksOn item unclaimed replies old new did before after
    → (if brings_in item old.levels then true else inner_dirty old) ≡ true → (if brings_in item old.levels then is_around_dirty new.levels.around else is_left_dirty did new) ≡ false → did ≡ Barrier
works_sync unclaimed replies Next old new did before after (inl s) was now =
    around_syncs old new did before after s (sym (ap (λ b. if b then is_around_dirty new.levels.around else is_left_dirty did new) s.dirty) ∙ now)
works_sync unclaimed replies Next old new did before after (inr s) was now =
    takes_sync unclaimed replies old new did before after s.1 (sym (ap (λ b. if b then true else inner_dirty old) s.0) ∙ was)
    (sym (ap (λ b. if b then is_around_dirty new.levels.around else is_left_dirty did new) s.0) ∙ now)
works_sync unclaimed replies (File f) old new did before after w was now = never did new (file_stays unclaimed f old new did before after w was) now
works_sync unclaimed replies (Link l) old new did before after w was now = never did new (link_stays l old new did before after w was) now
works_sync unclaimed replies (Stays part) old new did before after w was now = absurd w

-- the folder that a step of the machine works
pub cleaned_by_sync : (free : Route → Bool) (replies : Replies) (old new : Seen) (did : Did) (calls : ℕ) (before after : Option CallLog) (f0 f1 : ℕ) → CopySteps free replies old new did calls before after f0 f1 → may_leave old ≡ false
    → was_dirty old ≡ true → is_dirty_after old did new ≡ false → did ≡ Barrier
cleaned_by_sync free replies old new did calls before after f0 f1 s settled was now =
    works_sync (IsPartPlace free old) replies old.item old new did before after (works_at_once free replies old new did calls before after f0 f1 s settled) was now

-- a sync is no trouble, and so is never passed over
pub passed_barrier : (skips : Skips) (worked : StepResult) (old new : Seen) (result : StepResult) → OrPassedOver skips worked old new result → worked.did ≡ Barrier → result.did ≡ Barrier
passed_barrier skips worked old new result (inl p) is = ap (λ (r : StepResult). r.did) p.1 ∙ is
passed_barrier skips worked old new result (inr p) is =
    let trouble = passed_trouble skips worked.did p.0 p.1 in absurd (let e = sym is ∙ trouble.1 in let f : ⊥ = cc in f)
