-- The calls of a last step: the part that stands is tried first, and then a folder.
use Rattle.std.specs.Prelude.{if◌then◌else◌}
use Rattle.std.proofs.Common.{◌≡◌, ◌⊎◌, ℕ, refl, sym, ◌∙◌, ap, subst, inl, inr, Bool, true, false, [], ◌∷◌, Option, Some, None, Result, Ok, Err}
use Rattle.mc_text.specs.Routes.{Route}
use Rattle.tree_trait.specs.declared.calls.TreeError.{TreeError}
use Rattle.tree_trait.specs.Calls.{RemoveFile, SyncFolder}
use Rattle.tree_trait.specs.Change.{CallLog}
use Rattle.tree_trait.specs.Answers.{Performs}
use Rattle.job_reports.specs.CallRuns.{AllDone}
use Rattle.job_reports.specs.Paths.{folder_of}
use Rattle.job_reports.specs.Stops.{refusal_in, sync_answer}
use Rattle.job_reports.specs.declared.report.Did.{Did}
use Rattle.job_reports.specs.declared.report.Did.TheVariants.{Began, Chunk, Placed, Removed, Made, Set, Kept, Skipped, Cleaned, Barrier, Asked, Merges, Moved, Troubled, Ended}
use Rattle.job_reports.specs.declared.report.Ending.{Ending}
use Rattle.job_reports.specs.declared.report.LastStepResult.{LastStepResult}
use Rattle.copy_file.specs.Copying as file
use Rattle.copy_file.specs.Copying.{Copying, part_at}
use Rattle.copy_file.specs.LastSteps as file_last
use Rattle.copy_file.specs.LastSteps.{left_at}
use Rattle.copy_folders.specs.FolderCopying.{FolderCopying}
use Rattle.copy_folders.specs.declared.stage.NamesState.TheVariants.{Synced}
use Rattle.copy_link.specs.LastTries.{answer_in}
use Rattle.copy_folders.specs.Levels.{Levels, dirtied_levels, with_copy}
use Rattle.copy_tree.specs.declared.item.ItemAtWork.{ItemAtWork}
use Rattle.copy_tree.specs.declared.item.ItemAtWork.TheVariants.{Next, File, Link, Stays}
use Rattle.copy_tree.specs.declared.progress.Progress.TheVariants.{UnderWay}
use Rattle.copy_tree.specs.Ending.{EndsAll, FoldersWind, IsWindable, TriesFolder, WindsAt}
use Rattle.copy_tree.specs.Progress.{progress}
use Rattle.copy_tree.specs.Standing.{Seen}
use Rattle.copy_tree.specs.TreeCopySteps.{idle}
use Rattle.copy_tree.specs.WorkedFolder.{ItemIn}
use Rattle.copy_job.specs.LastCalls.{LastCalls, LeavesPart, TellsTried}
use Rattle.copy_job.specs.Standing.{part_of}
use Rattle.copy_job.proofs.Reportings.{file_removable, no_more, removable_part}
use Rattle.copy_job.proofs.StillTelling.{performs_tells}

-- what is called and told of a last step
pub record IsTold (part : Option Route) (last : LastStepResult) (folder : Route) (log : CallLog) (after : Option CallLog) : Type 0 where
  pub called : LastCalls part last.did log after
  pub told : TellsTried part last.did last.left folder log after

answer_is : (answer : Result (Unit {0}) TreeError) → answer ≡ sync_answer (refusal_in answer)
answer_is (Ok done) = refl
answer_is (Err e) = refl

-- a folder was tried
folder_told : (part : Option Route) (log mid : CallLog) (last : LastStepResult) (folder : Route) (after : Option CallLog) → LeavesPart part log mid → last.did ≡ Barrier
    → Performs {A = Unit {0}} mid (SyncFolder folder) (sync_answer last.left) after → IsTold part last folder log after
folder_told part log mid last folder after leaves is done = record {
  called = subst (λ d. LastCalls part d log after) (sym is) (folder, last.left, (mid, leaves, done));
  told = subst (λ d. TellsTried part d last.left folder log after) (sym is) (mid, leaves, done);
}

-- all ended
end_told : (part : Option Route) (log mid : CallLog) (ending : Ending) (stays : Option Route) (last : LastStepResult) (folder : Route) (after : Option CallLog) → LeavesPart part log mid → last.did ≡ Ended ending stays → last.left ≡ None
    → after ≡ Some mid → IsTold part last folder log after
end_told part log mid ending stays last folder after leaves is left same = record {
  called = subst (λ d. LastCalls part d log after) (sym is) (mid, leaves, same);
  told = subst (λ d. TellsTried part d last.left folder log after) (sym is) left;
}

folders_told : (ending : Ending) (part stays : Option Route) (old new : Seen) (last told : LastStepResult) (log mid : CallLog) (after : Option CallLog) (f0 f1 : ℕ) → FoldersWind ending stays old new last (Some mid) after f0 f1
    → LeavesPart part log mid → told.did ≡ last.did → told.left ≡ last.left → IsTold part told new.levels.inner.copy.target log after
folders_told ending part stays old new last told log mid after f0 f1 w leaves did_is left_is = by w.winds
  where
    by : TriesFolder stays w.mid old new last (Some mid) after f0 f1 ⊎ EndsAll ending stays w.mid old new last (Some mid) after f0 f1 → IsTold part told new.levels.inner.copy.target log after
    by (inl t) =
        let tried = t.tried in
        let a = tried.answered in
        let there : new.levels.inner.copy.target ≡ (let l : Levels = w.mid in l.inner.copy.target) = ap (λ (c : Seen). c.levels.inner.copy.target) t.stands ∙ ap (λ (c : FolderCopying). c.target) tried.stands in
        let answer : a.0 ≡ sync_answer told.left = answer_is a.0 ∙ ap sync_answer (sym a.2 ∙ sym left_is) in
        folder_told part log mid told new.levels.inner.copy.target after leaves (did_is ∙ tried.did)
        (subst (λ f. Performs {A = Unit {0}} mid (SyncFolder f) (sync_answer told.left) after) (sym there)
        (subst (λ x. Performs {A = Unit {0}} mid (SyncFolder (let l : Levels = w.mid in l.inner.copy.target)) x after) answer (a.3 mid refl)))
    by (inr e) =
        end_told part log mid ending stays told new.levels.inner.copy.target after leaves (did_is ∙ ap (λ (r : LastStepResult). r.did) e.says) (left_is ∙ ap (λ (r : LastStepResult). r.left) e.says) e.same

-- the folder stays where it is
dirtied_there : (b : Bool) (l : Levels) → (let d : Levels = dirtied_levels b l in d.inner.copy.target) ≡ l.inner.copy.target
dirtied_there true l = refl
dirtied_there false l = refl

-- a file's last step
file_told : (ending : Ending) (f m : Copying) (last : LastStepResult) (did : Did) (folder : Route) (log : CallLog) (after : Option CallLog) → last.did ≡ did → file_last.Winds ending f did m → file_last.WindCalls f did log after
    → file_last.TellsFolder f did last.left log after → (progress f.stage ≡ UnderWay) × (left_at f.stage ≡ None) → folder ≡ folder_of f.target → IsTold (part_at f.stage) last folder log after
file_told ending f m last (Cleaned part) folder log after is w called synced can there = record {
  called = subst (λ d. LastCalls (part_at f.stage) d log after) (sym is) called;
  told = subst (λ d. TellsTried (part_at f.stage) d last.left folder log after) (sym is) synced;
}
file_told ending f m last Barrier folder log after is w called synced can there = by (file_last.removable f.stage) refl synced
  where
    by : (part : Option Route) → file_last.removable f.stage ≡ part → file_last.SyncAnswers f part last.left log after → IsTold (part_at f.stage) last folder log after
    by None none s = absurd (no_more f.stage can.0 can.1 none)
    by (Some part) stands (e, mid, removal, sync) =
        folder_told (part_at f.stage) log mid last folder after (inr (part, e, sym (file_removable f.stage can.0 can.1) ∙ stands, removal)) is
        (subst (λ x. Performs {A = Unit {0}} mid (SyncFolder x) (sync_answer last.left) after) (sym there) sync)
file_told ending f m last (Ended how part) folder log after is w called synced can there = absurd (no_more f.stage can.0 can.1 w.0)
file_told ending f m last (Began part) folder log after is w called synced can there = absurd w
file_told ending f m last (Chunk count) folder log after is w called synced can there = absurd w
file_told ending f m last (Placed path) folder log after is w called synced can there = absurd w
file_told ending f m last (Removed path) folder log after is w called synced can there = absurd w
file_told ending f m last (Made path) folder log after is w called synced can there = absurd w
file_told ending f m last (Set path) folder log after is w called synced can there = absurd w
file_told ending f m last (Kept path) folder log after is w called synced can there = absurd w
file_told ending f m last (Asked question) folder log after is w called synced can there = absurd w
file_told ending f m last (Merges transfer pair names) folder log after is w called synced can there = absurd w
file_told ending f m last (Moved pair) folder log after is w called synced can there = absurd w
file_told ending f m last (Skipped path cause) folder log after is w called synced can there = absurd w
file_told ending f m last (Troubled trouble) folder log after is w called synced can there = absurd w

-- a removal that was done
gone_told : (log : CallLog) (path : Route) (after : Option CallLog) → Performs {A = Unit {0}} log (RemoveFile path) (Ok tt) after → AllDone log (RemoveFile path ∷ []) after
gone_told log path after done =
    let now = performs_tells log (RemoveFile path) (Ok tt) after done in
    (now.0, subst (λ a. Performs {A = Unit {0}} log (RemoveFile path) (Ok tt) a) now.1 done, now.1)

pub winds_told : (item : ItemAtWork) (ending : Ending) (old new : Seen) (last : LastStepResult) (log : CallLog) (after : Option CallLog) (f0 f1 : ℕ) → WindsAt item ending old new last (Some log) after f0 f1 → IsWindable item
    → ItemIn old.levels.inner.copy.target item → IsTold (part_of item) last new.levels.inner.copy.target log after
winds_told Next ending old new last log after f0 f1 w can there = folders_told ending None None old new last last log log after f0 f1 w (inl refl) refl refl
winds_told (File f) ending old new last log after f0 f1 w can there =
    let m = w.moved in
    let on = w.winds in
    let here : new.levels.inner.copy.target ≡ old.levels.inner.copy.target =
    ap (λ (c : Seen). c.levels.inner.copy.target) w.stands ∙ dirtied_there (file.is_dirty m.folder) (with_copy (record old.levels.inner.copy { names = Synced }) old.levels) in
    file_told ending f m last last.did new.levels.inner.copy.target log after refl on.tells (on.called log refl) (on.synced log refl) can (here ∙ sym there)
winds_told (Link l) ending old new last log after f0 f1 (inl c) can there =
    let r = c.removed in
    let done : Performs {A = Unit {0}} log (RemoveFile l.part) (Ok tt) after = subst (λ x. Performs {A = Unit {0}} log (RemoveFile l.part) x after) (ap answer_in c.gone) (r.answered log refl) in
    let is : last.did ≡ Cleaned l.part = ap (λ (x : LastStepResult). x.did) c.says in record {
      called = subst (λ d. LastCalls (part_of (Link l)) d log after) (sym is) (gone_told log l.part after done);
      told = subst (λ d. TellsTried (part_of (Link l)) d last.left new.levels.inner.copy.target log after) (sym is) (ap (λ (x : LastStepResult). x.left) c.says);
    }
winds_told (Link l) ending old new last log after f0 f1 (inr s) can there = by s.mid refl
  where
    stands : part_of (Link l) ≡ Some l.part
    stands = ap (λ b. if b then Some l.part else None) (removable_part l.stage can)

    refused_so : (mid : Option CallLog) → s.mid ≡ mid → Performs {A = Unit {0}} log (RemoveFile l.part) (Err (let e = s.refused in e.0)) mid
    refused_so mid is =
        let r = s.removed in
        let e = s.refused in
        subst (λ a. Performs {A = Unit {0}} log (RemoveFile l.part) (Err e.0) a) is (subst (λ x. Performs {A = Unit {0}} log (RemoveFile l.part) x s.mid) (ap answer_in e.1) (r.answered log refl))

    by : (mid : Option CallLog) → s.mid ≡ mid → IsTold (part_of (Link l)) last new.levels.inner.copy.target log after
    by mid is =
        let done = refused_so mid is in
        let now = performs_tells log (RemoveFile l.part) (Err (let e = s.refused in e.0)) mid done in
        let later = s.winds in
        let known : s.mid ≡ Some now.0 = is ∙ now.1 in
        folders_told ending (part_of (Link l)) (Some l.part) (idle old) new later.next last log now.0 after s.since f1
        (subst (λ b. FoldersWind ending (Some l.part) (idle old) new later.next b after s.since f1) known later.winds)
        (inr (l.part, (let e = s.refused in e.0), stands, subst (λ a. Performs {A = Unit {0}} log (RemoveFile l.part) (Err (let e = s.refused in e.0)) a) now.1 done))
        (ap (λ (x : LastStepResult). x.did) later.says) (ap (λ (x : LastStepResult). x.left) later.says)
winds_told (Stays part) ending old new last log after f0 f1 w can there = folders_told ending (Some part) (Some part) (idle old) new last last log log after f0 f1 w (inl refl) refl refl
