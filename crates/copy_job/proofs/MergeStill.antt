-- The step that merges makes no call, and leaves the list of dirty folders as it is.
use Rattle.std.specs.Prelude.{if◌then◌else◌}
use Rattle.std.proofs.Common.{◌≡◌, ℕ, Bool, true, false, refl, sym, ◌∙◌, ap, subst, inl, inr, List, Option, Some}
use Rattle.std.proofs.lemmas.Bool.{false≢true}
use Rattle.mc_text.specs.Routes.{Route}
use Rattle.tree_trait.specs.Change.{CallLog}
use Rattle.job_answers.specs.declared.replies.Replies.{Replies}
use Rattle.job_reports.specs.declared.job.Pair.{Pair}
use Rattle.job_reports.specs.declared.report.Did.{Did}
use Rattle.job_reports.specs.declared.report.Did.TheVariants.{Merges}
use Rattle.job_reports.specs.declared.report.StepResult.{StepResult}
use Rattle.job_reports.specs.declared.report.Transfer.TheVariants.{ByCopy}
use Rattle.copy_folders.specs.FolderCopying.{is_dirty}
use Rattle.copy_folders.specs.Levels.{Levels, is_around_dirty}
use Rattle.copy_tree.specs.Standing.{Seen}
use Rattle.copy_tree.specs.TreeCopySteps.{TakesMerged}
use Rattle.copy_tree.specs.declared.item.ItemAtWork.{ItemAtWork}
use Rattle.copy_tree.specs.declared.item.ItemAtWork.TheVariants.{Next, File, Link, Stays}
use Rattle.job_unsynced.specs.Folders.{with_change}
use Rattle.copy_job.specs.Marks.{brings_in, brings_made, folder_worked, is_dirty_after, was_dirty}
use Rattle.copy_job.specs.Passing.{OrPassedOver}
use Rattle.copy_job.specs.Standing.{SubtreeCopying}
use Rattle.copy_job.specs.SubtreeSteps.{ListSteps, SubtreeSteps, step_result}
use Rattle.copy_job.proofs.MergedOnes.{list_merged, skip_no_merge}

no_change : (b : Bool) (folder : Route) (dirty : List Route) → with_change b b folder dirty ≡ dirty
no_change true folder dirty = refl
no_change false folder dirty = refl

same_mark : (brings around inner : Bool) → (brings ≡ true → around ≡ true) → (if brings then around else inner) ≡ (if brings then true else inner)
same_mark true around inner h = h refl
same_mark false around inner h = refl

brings_dirty : (item : ItemAtWork) (l : Levels) → brings_in item l ≡ true → is_around_dirty l.around ≡ true
brings_dirty Next l h = h
brings_dirty (File f) l h = absurd (false≢true h)
brings_dirty (Link k) l h = absurd (false≢true h)
brings_dirty (Stays part) l h = absurd (false≢true h)

module _ (free : Route → Bool) (replies : Replies) (old new : SubtreeCopying) (pair : Pair) (names : List (List ℕ)) (calls : ℕ) (dirty dirty_after : List Route) (before after : Option CallLog) (f0 f1 : ℕ)
    (s : SubtreeSteps free replies old new (Merges ByCopy pair names) calls dirty dirty_after before after f0 f1) where
  -- the list, and the tree's log
  abbrev pub IsStill : Type 0
  IsStill = (dirty_after ≡ dirty) × ((log : CallLog) → before ≡ Some log → after ≡ Some log)

  list_is : ListSteps free replies s.mid s.moved s.worked dirty dirty_after before after f0 f1 → (let w = s.worked in w.did) ≡ Merges ByCopy pair names
      → dirty_after ≡ with_change (was_dirty s.mid) (is_dirty_after s.mid (Merges ByCopy pair names) s.moved) (folder_worked s.mid) dirty
  list_is (inl short) is = absurd (let e = sym is ∙ ap (λ (r : StepResult). r.did) short.says in let f : ⊥ = cc in f)
  list_is (inr m) is = m.list ∙ ap (λ d. with_change (was_dirty s.mid) (is_dirty_after s.mid d s.moved) (folder_worked s.mid) dirty) is

  worked : (let w = s.worked in w.did) ≡ Merges ByCopy pair names → IsStill
  worked is =
      let mid : Seen = s.mid in
      let moved : Seen = s.moved in
      let t = list_merged free replies mid moved s.worked pair names dirty dirty_after before after f0 f1 s.works s.settled is in
      let around : is_around_dirty moved.levels.around ≡ is_around_dirty mid.levels.around = ap (λ (c : Seen). is_around_dirty c.levels.around) t.stands in
      let inner : is_dirty moved.levels.inner.copy.names ≡ is_dirty mid.levels.inner.copy.names = ap (λ (c : Seen). is_dirty c.levels.inner.copy.names) t.stands in
      let now : is_dirty_after mid (Merges ByCopy pair names) moved ≡ was_dirty mid =
      ap (λ d. if brings_made mid then is_around_dirty moved.levels.around else d) inner
      ∙ same_mark (brings_made mid) (is_around_dirty moved.levels.around) (is_dirty mid.levels.inner.copy.names) (λ brings. around ∙ brings_dirty mid.item mid.levels brings) in (
        list_is s.works is ∙ (ap (λ b. with_change (was_dirty mid) b (folder_worked mid) dirty) now ∙ no_change (was_dirty mid) (folder_worked mid) dirty),
        λ log known. t.same ∙ known,
      )

  pub merge_is_still : IsStill
  merge_is_still = by s.passes
    where
      by : OrPassedOver replies.skips s.worked s.moved new.at (step_result (Merges ByCopy pair names) calls) → IsStill
      by (inl p) = worked (ap (λ (r : StepResult). r.did) (sym p.1))
      by (inr p) = (let m : Seen = s.moved in absurd (skip_no_merge m.item p.0 m new.at pair names p.3))
