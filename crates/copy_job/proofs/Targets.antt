-- The folder that a step works is the one that was to be worked before it.
use Rattle.std.proofs.Common.{◌≡◌, ℕ, refl, sym, ◌∙◌, ap, subst, inl, inr, Bool, true, false, List, Option, None}
use Rattle.std.proofs.lemmas.Bool.{false≢true, true≢false}
use Rattle.mc_text.specs.Routes.{Route}
use Rattle.tree_trait.specs.Change.{CallLog}
use Rattle.job_answers.specs.declared.replies.Replies.{Replies}
use Rattle.copy_file.specs.Copying as file
use Rattle.copy_file.specs.Copying.{Copying}
use Rattle.copy_link.specs.LinkCopying as link
use Rattle.copy_link.specs.LinkCopying.{LinkCopying}
use Rattle.copy_folders.specs.FolderCopying as folder
use Rattle.copy_folders.specs.FolderCopying.{FolderCopying}
use Rattle.copy_folders.specs.declared.stage.FolderDid.{FolderDid}
use Rattle.copy_folders.specs.declared.stage.FolderDid.TheVariants as folder_did
use Rattle.copy_folders.specs.declared.stage.NamesState.TheVariants.{Synced}
use Rattle.copy_folders.specs.declared.stage.Stage.{Stage}
use Rattle.copy_folders.specs.declared.stage.Stage.TheVariants.{Make}
use Rattle.job_reports.specs.declared.job.Pair.{Pair}
use Rattle.tree_walk.specs.Places.{is_empty, opened_folder}
use Rattle.copy_tree.specs.declared.item.ItemAtWork.{ItemAtWork}
use Rattle.copy_tree.specs.declared.item.ItemAtWork.TheVariants.{Next, File, Link, Stays}
use Rattle.copy_folders.specs.declared.level.Level.{Level}
use Rattle.copy_tree.specs.declared.progress.Progress.{Progress}
use Rattle.copy_tree.specs.declared.progress.Progress.TheVariants.{UnderWay, Decided, Anew}
use Rattle.job_reports.specs.declared.report.Did.{Did}
use Rattle.copy_folders.specs.Levels.{Levels, is_around_dirty, made_levels, target_around}
use Rattle.copy_tree.specs.Parts.{IsPartPlace}
use Rattle.copy_tree.specs.Progress.{link_progress, progress}
use Rattle.copy_tree.specs.Reports.{IsToldAs}
use Rattle.copy_tree.specs.Standing.{Seen}
use Rattle.copy_tree.specs.TreeCopySteps.{CopySteps, FileWorks, FolderEnds, FolderMakes, GoesOn, LinkWorks, TakesNext, WorksOn, at_end, idle, noted_copy, copy_after_progress}
use Rattle.copy_job.specs.Leaving.{may_leave}
use Rattle.copy_job.specs.Marks.{brings_in, brings_made, is_left_dirty}
use Rattle.copy_tree.proofs.PartsBegin.{file_taken}
use Rattle.copy_job.proofs.Left.{settled_stays}

abbrev target_of : Seen → Route
target_of c = c.levels.inner.copy.target

settled_there : (p : Progress) (item : ItemAtWork) (c : Seen) → target_of (copy_after_progress p item c) ≡ target_of c
settled_there UnderWay item c = refl
settled_there Decided item c = refl
settled_there Anew item c = refl

noted_there : (changed : Bool) (did : Did) (c : Seen) → target_of (noted_copy did changed c) ≡ target_of c
noted_there true did c = refl
noted_there false did c = refl

file_there : (unclaimed : Route → Type 0) (f : Copying) (old new : Seen) (did : Did) (before after : Option CallLog) → FileWorks unclaimed f old new did before after → target_of new ≡ target_of old
file_there unclaimed f old new did before after w =
    let m = w.moved in
    ap target_of w.stands
    ∙ (settled_there (progress m.stage) (File m) (noted_copy did (file.is_dirty m.folder) (idle old)) ∙ noted_there (file.is_dirty m.folder) did (idle old))

link_there : (l : LinkCopying) (old new : Seen) (did : Did) (before after : Option CallLog) → LinkWorks l old new did before after → target_of new ≡ target_of old
link_there l old new did before after w =
    let m = w.moved in
    ap target_of w.stands
    ∙ (settled_there (link_progress m.stage) (Link m) (noted_copy did (link.is_dirty m.folder) (idle old)) ∙ noted_there (link.is_dirty m.folder) did (idle old))

folder_there : (c new : FolderCopying) (report : FolderDid) → folder.Tells c report new → new.target ≡ c.target
folder_there c new (folder_did.Made path) t = ap (λ (x : FolderCopying). x.target) t.3
folder_there c new (folder_did.Set path) t = ap (λ (x : FolderCopying). x.target) t.3
folder_there c new folder_did.Barrier t = ap (λ (x : FolderCopying). x.target) t.2
folder_there c new folder_did.Closed t = ap (λ (x : FolderCopying). x.target) t.2
folder_there c new (folder_did.Troubled trouble) t = ap (λ (x : FolderCopying). x.target) t.1

-- a folder that isn't made is still to be made
pub unmade : (pair : Pair) (mode : ℕ) (new : FolderCopying) (report : FolderDid) (did : Did) (c : Seen) → IsToldAs report did → folder.Tells (folder.copying pair.source pair.target (Make mode) Synced) report new
    → is_left_dirty did c ≡ false → new.stage ≡ Make mode
unmade pair mode new (folder_did.Made path) did c told t clean = absurd (true≢false (sym (ap (λ d. is_left_dirty d c) told) ∙ clean))
unmade pair mode new (folder_did.Set path) did c told t clean = absurd (let e = t.1 in let f : ⊥ = cc in f)
unmade pair mode new folder_did.Barrier did c told t clean = absurd (let e = t.0 in let f : ⊥ = cc in f)
unmade pair mode new folder_did.Closed did c told t clean = absurd told
unmade pair mode new (folder_did.Troubled trouble) did c told t clean = ap (λ (x : FolderCopying). x.stage) t.1

makes_there : (pair : Pair) (names : List (List ℕ)) (mode : ℕ) (old new : Seen) (did : Did) (before after : Option CallLog) → FolderMakes pair names mode old new did before after → is_left_dirty did new ≡ false
    → target_of new ≡ target_of old
makes_there pair names mode old new did before after w clean =
    let same = unmade pair mode w.moved w.report did new w.says w.tells clean in
    ap target_of w.stands ∙ ap (λ (s : Stage). (let l : Levels = made_levels s (opened_folder pair.source names) w.moved old.levels in l.inner.copy.target)) same

ends_there : (old new : Seen) (did : Did) (before after : Option CallLog) → FolderEnds (at_end old) new did before after → target_of new ≡ target_of old
ends_there old new did before after e = ap target_of e.stands ∙ folder_there (let c = at_end old in c.levels.inner.copy) e.moved e.report e.tells

takes_there : (unclaimed : Route → Type 0) (replies : Replies) (old new : Seen) (did : Did) (before after : Option CallLog) → TakesNext unclaimed replies old new did before after → is_left_dirty did new ≡ false → target_of new ≡ target_of old
takes_there unclaimed replies old new did before after (inl s) clean = ap target_of s.stands
takes_there unclaimed replies old new did before after (inr (inl t)) clean = file_there unclaimed _ old new did None None (file_taken unclaimed replies old new did before after t)
takes_there unclaimed replies old new did before after (inr (inr (inl t))) clean = link_there _ old new did before after t.works
takes_there unclaimed replies old new did before after (inr (inr (inr (inl t)))) clean = makes_there t.pair t.names t.mode old new did before after t.works clean
takes_there unclaimed replies old new did before after (inr (inr (inr (inr (inl t))))) clean = ap target_of t.stands
takes_there unclaimed replies old new did before after (inr (inr (inr (inr (inr (inl t)))))) clean = ap target_of t.stands
takes_there unclaimed replies old new did before after (inr (inr (inr (inr (inr (inr (inl t))))))) clean = ap target_of t.stands
takes_there unclaimed replies old new did before after (inr (inr (inr (inr (inr (inr (inr (next, inl (debt, e))))))))) clean = ends_there old new did before after e
takes_there unclaimed replies old new did before after (inr (inr (inr (inr (inr (inr (inr (next, inr (debt, f, same))))))))) clean = ap target_of f.stands

goes_there : (unclaimed : Route → Type 0) (replies : Replies) (old new : Seen) (did : Did) (before after : Option CallLog) → GoesOn unclaimed replies old new did before after → is_around_dirty old.levels.around ≡ false → is_left_dirty did new ≡ false
    → target_of new ≡ target_of old
goes_there unclaimed replies old new did before after (inl s) inner clean = absurd (false≢true (sym inner ∙ s.dirty))
goes_there unclaimed replies old new did before after (inr s) inner clean = takes_there unclaimed replies old new did before after s.1 clean

works_there : (unclaimed : Route → Type 0) (replies : Replies) (item : ItemAtWork) (old new : Seen) (did : Did) (before after : Option CallLog) → WorksOn item unclaimed replies old new did before after → brings_in item old.levels ≡ false
    → is_left_dirty did new ≡ false → target_of new ≡ target_of old
works_there unclaimed replies Next old new did before after w inner clean = goes_there unclaimed replies old new did before after w inner clean
works_there unclaimed replies (File f) old new did before after w inner clean = file_there unclaimed f old new did before after w
works_there unclaimed replies (Link l) old new did before after w inner clean = link_there l old new did before after w
works_there unclaimed replies (Stays part) old new did before after w inner clean = absurd w

-- the step of a copy in which no folder is left to be left is work on what is due
pub works_at_once : (free : Route → Bool) (replies : Replies) (old new : Seen) (did : Did) (calls : ℕ) (before after : Option CallLog) (f0 f1 : ℕ) → CopySteps free replies old new did calls before after f0 f1 → may_leave old ≡ false
    → WorksOn old.item (IsPartPlace free old) replies old new did before after
works_at_once free replies old new did calls before after f0 f1 s settled =
    subst (λ (c : Seen). WorksOn c.item (IsPartPlace free c) replies c new did before after) (settled_stays s.folders old s.mid settled s.leaves) s.works

-- an innermost folder that is clean after a step is the one that was the innermost
pub stays_inner : (free : Route → Bool) (replies : Replies) (old new : Seen) (did : Did) (calls : ℕ) (before after : Option CallLog) (f0 f1 : ℕ) → CopySteps free replies old new did calls before after f0 f1 → may_leave old ≡ false
    → brings_made old ≡ false → is_left_dirty did new ≡ false → new.levels.inner.copy.target ≡ old.levels.inner.copy.target
stays_inner free replies old new did calls before after f0 f1 s settled inner clean =
    works_there (IsPartPlace free old) replies old.item old new did before after (works_at_once free replies old new did calls before after f0 f1 s settled) inner clean

-- the folder around stays there
abbrev StaysAround : Seen → Seen → Type 0
StaysAround old new = (is_empty new.levels.around ≡ false) × (target_around new.levels.around ≡ target_around old.levels.around)

goes_around : (unclaimed : Route → Type 0) (replies : Replies) (old new : Seen) (did : Did) (before after : Option CallLog) → GoesOn unclaimed replies old new did before after → is_around_dirty old.levels.around ≡ true → StaysAround old new
goes_around unclaimed replies old new did before after (inl s) outer =
    (ap (λ (c : Seen). is_empty c.levels.around) s.stands, ap (λ (c : Seen). target_around c.levels.around) s.stands ∙ sym (ap (λ (xs : List Level). target_around xs) s.was))
goes_around unclaimed replies old new did before after (inr s) outer = absurd (false≢true (sym s.0 ∙ outer))

works_around : (unclaimed : Route → Type 0) (replies : Replies) (item : ItemAtWork) (old new : Seen) (did : Did) (before after : Option CallLog) → WorksOn item unclaimed replies old new did before after → brings_in item old.levels ≡ true → StaysAround old new
works_around unclaimed replies Next old new did before after w outer = goes_around unclaimed replies old new did before after w outer
works_around unclaimed replies (File f) old new did before after w outer = absurd (false≢true outer)
works_around unclaimed replies (Link l) old new did before after w outer = absurd (false≢true outer)
works_around unclaimed replies (Stays part) old new did before after w outer = absurd w

pub stays_around : (free : Route → Bool) (replies : Replies) (old new : Seen) (did : Did) (calls : ℕ) (before after : Option CallLog) (f0 f1 : ℕ) → CopySteps free replies old new did calls before after f0 f1 → may_leave old ≡ false
    → brings_made old ≡ true → StaysAround old new
stays_around free replies old new did calls before after f0 f1 s settled outer =
    works_around (IsPartPlace free old) replies old.item old new did before after (works_at_once free replies old new did calls before after f0 f1 s settled) outer
