-- The step that finishes a copy makes no call, and leaves the list of dirty folders as it is.
use Rattle.std.specs.Prelude.{if◌then◌else◌}
use Rattle.std.proofs.Common.{◌≡◌, ℕ, Bool, true, false, refl, sym, ◌∙◌, ap, subst, inl, inr, List, [], ◌∷◌, Option, Some, None}
use Rattle.mc_text.specs.Routes.{Route}
use Rattle.tree_trait.specs.Change.{CallLog}
use Rattle.job_answers.specs.declared.replies.Replies.{Replies}
use Rattle.job_reports.specs.declared.report.Cause.{Cause}
use Rattle.job_reports.specs.declared.report.Did.{Did}
use Rattle.job_reports.specs.declared.report.Did.TheVariants as common
use Rattle.job_reports.specs.declared.report.Did.TheVariants.{Ended}
use Rattle.job_reports.specs.declared.report.Ending.TheVariants.{Finished}
use Rattle.job_reports.specs.declared.report.StepResult.{StepResult}
use Rattle.job_reports.specs.declared.report.Transfer.TheVariants.{ByCopy}
use Rattle.copy_file.specs.Copying as file
use Rattle.copy_file.specs.Copying.{Copying}
use Rattle.copy_file.specs.declared.stage.Stage.TheVariants as at
use Rattle.copy_file.specs.declared.stage.FolderState.TheVariants as names_state
use Rattle.copy_folders.specs.Levels.{is_around_dirty}
use Rattle.copy_folders.specs.FolderCopying.{FolderCopying, is_dirty}
use Rattle.copy_folders.specs.FolderSteps as folder
use Rattle.copy_folders.specs.declared.stage.FolderDid.{FolderDid}
use Rattle.copy_folders.specs.declared.stage.FolderDid.TheVariants as folder_did
use Rattle.copy_tree.specs.Parts.{IsPartPlace}
use Rattle.copy_tree.specs.Progress.{progress}
use Rattle.copy_tree.specs.Reports.{IsToldAs}
use Rattle.copy_tree.specs.Skipping.{SkipsAt, SkipsNamed}
use Rattle.copy_tree.specs.Standing.{Seen}
use Rattle.copy_tree.specs.TreeCopySteps.{FileWorks, TakesNext, WorksOn, after_file, idle, noted_copy, copy_after_progress}
use Rattle.copy_tree.specs.declared.item.ItemAtWork.{ItemAtWork}
use Rattle.copy_tree.specs.declared.item.ItemAtWork.TheVariants.{Next, File, Link, Stays}
use Rattle.job_unsynced.specs.Folders.{with_change}
use Rattle.copy_job.specs.Marks.{brings_in, folder_worked, is_dirty_after, was_dirty}
use Rattle.copy_job.specs.Passing.{OrPassedOver}
use Rattle.copy_job.specs.Standing.{SubtreeCopying}
use Rattle.copy_job.specs.SubtreeSteps.{ListSteps, SubtreeSteps, step_result}
use Rattle.copy_job.proofs.Targets.{works_at_once}

-- a folder reports no end of the job, and what is passed over is none
told_no_end : {A : Type 0} (report : FolderDid) (part : Option Route) → IsToldAs report (Ended Finished part) → A
told_no_end (folder_did.Made path) part is = absurd (let e : Ended Finished part ≡ common.Made path = is in let f : ⊥ = cc in f)
told_no_end (folder_did.Set path) part is = absurd (let e : Ended Finished part ≡ common.Set path = is in let f : ⊥ = cc in f)
told_no_end folder_did.Barrier part is = absurd (let e : Ended Finished part ≡ common.Barrier = is in let f : ⊥ = cc in f)
told_no_end folder_did.Closed part is = absurd is
told_no_end (folder_did.Troubled trouble) part is = absurd (let e : Ended Finished part ≡ common.Troubled trouble = is in let f : ⊥ = cc in f)

folder_no_end : {A : Type 0} (cause : Cause) (c moved : FolderCopying) (part : Option Route) → folder.Skips cause c (Ended Finished part) moved → A
folder_no_end cause c moved part (inl s) = absurd (let e = s.0 in let f : ⊥ = cc in f)
folder_no_end cause c moved part (inr s) = absurd (let e = s.0 in let f : ⊥ = cc in f)

named_no_end : {A : Type 0} (names : List (List ℕ)) (cause : Cause) (old new : Seen) (part : Option Route) → SkipsNamed names cause old (Ended Finished part) new → A
named_no_end [] cause old new part s = folder_no_end cause old.levels.inner.copy s.0 part s.1
named_no_end (first ∷ names) cause old new part (inl s) = absurd (let e = s.0 in let f : ⊥ = cc in f)
named_no_end (first ∷ names) cause old new part (inr (inl (long, inl s))) = absurd (let e = s.0 in let f : ⊥ = cc in f)
named_no_end (first ∷ names) cause old new part (inr (inl (long, inr s))) = absurd (let e = s.0 in let f : ⊥ = cc in f)
named_no_end (first ∷ names) cause old new part (inr (inr s)) = absurd (let e = s.0 in let f : ⊥ = cc in f)

pub skips_no_end : {A : Type 0} (item : ItemAtWork) (cause : Cause) (old new : Seen) (part : Option Route) → SkipsAt item cause old (Ended Finished part) new → A
skips_no_end Next cause old new part s = named_no_end old.levels.inner.names.names cause old new part s
skips_no_end (File f) cause old new part (moved, inl s, stands) = absurd (let e = s.0 in let f : ⊥ = cc in f)
skips_no_end (File f) cause old new part (moved, inr s, stands) = absurd (let e = s.0 in let f : ⊥ = cc in f)
skips_no_end (Link l) cause old new part (moved, inl s, stands) = absurd (let e = s.0 in let f : ⊥ = cc in f)
skips_no_end (Link l) cause old new part (moved, inr s, stands) = absurd (let e = s.0 in let f : ⊥ = cc in f)
skips_no_end (Stays left) cause old new part s = absurd s

-- nothing is called, the folder around was synced, and the one that is worked is as dirty as it was
record StaysSo (item : ItemAtWork) (old new : Seen) (before after : Option CallLog) : Type 0 where
  pub around : brings_in item old.levels ≡ false
  pub names : is_dirty new.levels.inner.copy.names ≡ is_dirty old.levels.inner.copy.names
  pub log : (log : CallLog) → before ≡ Some log → after ≡ Some log

same_log : (before after : Option CallLog) → after ≡ before → (log : CallLog) → before ≡ Some log → after ≡ Some log
same_log before after same log known = same ∙ known

takes_stays : (unclaimed : Route → Type 0) (replies : Replies) (old new : Seen) (part : Option Route) (before after : Option CallLog) → TakesNext unclaimed replies old new (Ended Finished part) before after → brings_in Next old.levels ≡ false
    → StaysSo Next old new before after
takes_stays unclaimed replies old new part before after (inl s) around = absurd (let e : Ended Finished part ≡ common.Troubled s.trouble = s.says in let f : ⊥ = cc in f)
takes_stays unclaimed replies old new part before after (inr (inl t)) around = (let w = t.works in absurd w.tells)
takes_stays unclaimed replies old new part before after (inr (inr (inl t))) around = (let w = t.works in absurd w.tells)
takes_stays unclaimed replies old new part before after (inr (inr (inr (inl t)))) around = (let w = t.works in told_no_end w.report part w.says)
takes_stays unclaimed replies old new part before after (inr (inr (inr (inr (inl t))))) around = absurd (let e : Ended Finished part ≡ common.Merges ByCopy t.pair t.names = t.says in let f : ⊥ = cc in f)
takes_stays unclaimed replies old new part before after (inr (inr (inr (inr (inr (inl t)))))) around = absurd (let e : Ended Finished part ≡ common.Kept t.pair.target = t.says in let f : ⊥ = cc in f)
takes_stays unclaimed replies old new part before after (inr (inr (inr (inr (inr (inr (inl t))))))) around = absurd (let e : Ended Finished part ≡ common.Asked t.question = t.says in let f : ⊥ = cc in f)
takes_stays unclaimed replies old new part before after (inr (inr (inr (inr (inr (inr (inr (due, inl (debt, e))))))))) around = told_no_end e.report part e.says
takes_stays unclaimed replies old new part before after (inr (inr (inr (inr (inr (inr (inr (due, inr (debt, f, same))))))))) around =
    record { around = around; names = ap (λ (c : Seen). is_dirty c.levels.inner.copy.names) f.stands; log = same_log before after same }

-- a file's copy that is finished has nothing owed
file_names : (did : Did) (moved : Copying) (old new : Seen) → new ≡ after_file did moved (idle old) → moved.stage ≡ at.Decided → moved.folder ≡ names_state.Synced → is_dirty new.levels.inner.copy.names ≡ is_dirty old.levels.inner.copy.names
file_names did moved old new stands stage names =
    ap (λ (c : Seen). is_dirty c.levels.inner.copy.names) stands
    ∙ (ap (λ s. let c : Seen = copy_after_progress (progress s) (File moved) (noted_copy did (file.is_dirty moved.folder) (idle old)) in is_dirty c.levels.inner.copy.names) stage
    ∙ ap (λ n. let c : Seen = copy_after_progress (progress at.Decided) (File moved) (noted_copy did (file.is_dirty n) (idle old)) in is_dirty c.levels.inner.copy.names) names)

file_stays : (unclaimed : Route → Type 0) (f : Copying) (old new : Seen) (part : Option Route) (before after : Option CallLog) → FileWorks unclaimed f old new (Ended Finished part) before after → StaysSo (File f) old new before after
file_stays unclaimed f old new part before after w =
    let tells = w.tells in
    let is = tells.3 in
    record {
      around = refl;
      names = file_names (Ended Finished part) w.moved old new w.stands (ap (λ (c : Copying). c.stage) is ∙ tells.0) (ap (λ (c : Copying). c.folder) is ∙ tells.1);
      log = λ log known. w.called log known;
    }

works_stays : (unclaimed : Route → Type 0) (replies : Replies) (item : ItemAtWork) (old new : Seen) (part : Option Route) (before after : Option CallLog) → WorksOn item unclaimed replies old new (Ended Finished part) before after → StaysSo item old new before after
works_stays unclaimed replies Next old new part before after (inl s) = told_no_end s.report part s.says
works_stays unclaimed replies Next old new part before after (inr (clean, takes)) = takes_stays unclaimed replies old new part before after takes clean
works_stays unclaimed replies (File f) old new part before after w = file_stays unclaimed f old new part before after w
works_stays unclaimed replies (Link l) old new part before after w = absurd w.tells
works_stays unclaimed replies (Stays left) old new part before after w = absurd w

no_change : (b : Bool) (folder : Route) (dirty : List Route) → with_change b b folder dirty ≡ dirty
no_change true folder dirty = refl
no_change false folder dirty = refl

module _ (free : Route → Bool) (replies : Replies) (old new : SubtreeCopying) (part : Option Route) (calls : ℕ) (dirty dirty_after : List Route) (before after : Option CallLog) (f0 f1 : ℕ)
    (s : SubtreeSteps free replies old new (Ended Finished part) calls dirty dirty_after before after f0 f1) where
  -- the list, and the tree's log
  abbrev pub IsStill : Type 0
  IsStill = (dirty_after ≡ dirty) × ((log : CallLog) → before ≡ Some log → after ≡ Some log)

  worked : ListSteps free replies s.mid s.moved s.worked dirty dirty_after before after f0 f1 → (let w = s.worked in w.did) ≡ Ended Finished part → IsStill
  worked (inl short) is = absurd (let e = sym is ∙ ap (λ (r : StepResult). r.did) short.says in let f : ⊥ = cc in f)
  worked (inr m) is =
      let mid : Seen = s.mid in
      let moved : Seen = s.moved in
      let here = subst (λ d. WorksOn mid.item (IsPartPlace free mid) replies mid moved d before after) is (works_at_once free replies s.mid s.moved _ _ before after f0 f1 m.steps s.settled) in
      let stays = works_stays (IsPartPlace free mid) replies mid.item mid moved part before after here in
      let was : was_dirty mid ≡ is_dirty mid.levels.inner.copy.names = ap (λ b. if b then true else is_dirty mid.levels.inner.copy.names) stays.around in
      let now : is_dirty_after mid (Ended Finished part) moved ≡ is_dirty mid.levels.inner.copy.names =
      ap (λ b. if b then is_around_dirty moved.levels.around else is_dirty moved.levels.inner.copy.names) stays.around ∙ stays.names in (
        m.list ∙ (ap (λ d. with_change (was_dirty mid) (is_dirty_after mid d moved) (folder_worked mid) dirty) is
            ∙ (ap (λ b. with_change b (is_dirty_after mid (Ended Finished part) moved) (folder_worked mid) dirty) was
            ∙ (ap (λ b. with_change (is_dirty mid.levels.inner.copy.names) b (folder_worked mid) dirty) now ∙ no_change (is_dirty mid.levels.inner.copy.names) (folder_worked mid) dirty))),
        stays.log,
      )

  pub finish_is_still : IsStill
  finish_is_still = by s.passes
    where
      by : OrPassedOver replies.skips s.worked s.moved new.at (step_result (Ended Finished part) calls) → IsStill
      by (inl (none, same, stays)) = worked s.works (ap (λ (r : StepResult). r.did) (sym same))
      by (inr p) = (let m : Seen = s.moved in skips_no_end m.item p.0 m new.at part p.3)
