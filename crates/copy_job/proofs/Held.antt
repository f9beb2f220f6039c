-- A copy keeps to its place, what is at work lies in the folder that is worked, and a last step can be made.
use Rattle.std.specs.Prelude.{◌⊎◌}
use Rattle.std.proofs.Common.{◌≡◌, ℕ, zero, suc, sym, ◌∙◌, ap, subst, inl, inr, Bool, List, Option, Some, None}
use Rattle.mc_text.specs.Routes.{Route}
use Rattle.tree_trait.specs.Change.{CallLog}
use Rattle.job_answers.specs.declared.skips.Skips.{Skips}
use Rattle.job_answers.specs.declared.replies.Replies.{Replies}
use Rattle.job_reports.specs.declared.job.Pair.{Pair}
use Rattle.job_reports.specs.declared.report.Cause.{Cause}
use Rattle.job_reports.specs.declared.report.Did.{Did}
use Rattle.job_reports.specs.declared.report.Ending.{Ending}
use Rattle.job_reports.specs.declared.report.LastStepResult.{LastStepResult}
use Rattle.job_reports.specs.declared.report.StepResult.{StepResult}
use Rattle.copy_file.specs.Copying.{part_at}
use Rattle.copy_tree.specs.declared.item.ItemAtWork.{ItemAtWork}
use Rattle.copy_tree.specs.declared.item.ItemAtWork.TheVariants.{Next, File, Link, Stays}
use Rattle.copy_tree.specs.Ending.{EndsAll, FoldersWind, IsWindable, TriesFolder, WindsAt, stays_if}
use Rattle.copy_tree.specs.InPlace.{IsInPlace}
use Rattle.copy_tree.specs.Skipping.{retried_copy}
use Rattle.copy_tree.specs.Skipping as machine
use Rattle.copy_tree.specs.Standing.{Seen}
use Rattle.copy_tree.specs.TreeCopySteps.{IsWorkable, LeavesAll, idle}
use Rattle.copy_tree.specs.WorkedFolder.{IsInWorked, ItemIn}
use Rattle.copy_tree.proofs.InPlaces.{leaves_all, place_law}
use Rattle.copy_tree.proofs.Staying.{staying_law}
use Rattle.copy_tree.proofs.Windable.{windable}
use Rattle.copy_tree.proofs.Worked.{worked_folder_law}
use Rattle.copy_job.specs.Leaving.{LeavesSettled}
use Rattle.copy_job.specs.Passing.{OrPassedOver}
use Rattle.copy_job.specs.Standing.{IsHeld}
use Rattle.copy_job.specs.SubtreeSteps.{ListSteps}

-- nothing is at work
free_in : (c : Seen) → c.item ≡ Next → IsInWorked c
free_in c free = subst (λ (i : ItemAtWork). ItemIn c.levels.inner.copy.target i) (sym free) tt

left_in : (n : ℕ) (old new : Seen) → LeavesAll n old new → IsInWorked old → IsInWorked new
left_in zero old new is here = subst IsInWorked (sym is) here
left_in (suc n) old new l here = let left = l.3 in let r = left.returns in free_in new (ap (λ (c : Seen). c.item) r.stands ∙ l.2)

module _ (top : Pair) (folder : Route) where
  pub left_held : (old mid : Seen) → IsHeld top folder old → LeavesSettled old mid → IsWorkable mid.item → IsHeld top folder mid
  left_held old mid h l w = record {
    holds = h.holds;
    in_place = leaves_all top l.0 old mid l.1 h.in_place;
    in_worked = left_in l.0 old mid l.1 h.in_worked;
    windable = windable mid.item w;
  }

  pub worked_held : (free : Route → Bool) (replies : Replies) (old new : Seen) (result : StepResult) (dirty dirty_after : List Route) (before after : Option CallLog) (f0 f1 : ℕ)
      → ListSteps free replies old new result dirty dirty_after before after f0 f1 → IsHeld top folder old → IsWorkable new.item → IsHeld top folder new
  worked_held free replies old new result dirty dirty_after before after f0 f1 (inl s) h w = subst (IsHeld top folder) (sym s.stays) h
  worked_held free replies old new result dirty dirty_after before after f0 f1 (inr s) h w = record {
    holds = h.holds;
    in_place = (let p = place_law free replies top old new result.did result.calls before after f0 f1 s.steps h.in_place in p.0);
    in_worked = (let law = worked_folder_law in law.step free replies old new result.did result.calls before after f0 f1 s.steps h.in_worked);
    windable = windable new.item w;
  }

  pub skipped_held : (cause : Cause) (old new : Seen) (did : Did) → machine.Skips cause old did new → IsHeld top folder old → IsWorkable new.item → IsHeld top folder new
  skipped_held cause old new did s h w = record {
    holds = h.holds;
    in_place = (let law = staying_law in law.skip top cause old new did s h.in_place);
    in_worked = (let law = worked_folder_law in law.skip cause old new did s h.in_worked);
    windable = windable new.item w;
  }

  pub passed_held : (skips : Skips) (worked : StepResult) (old new : Seen) (result : StepResult) → OrPassedOver skips worked old new result → IsHeld top folder old → IsWorkable new.item → IsHeld top folder new
  passed_held skips worked old new result (inl s) h w = subst (IsHeld top folder) (sym s.2) h
  passed_held skips worked old new result (inr s) h w = skipped_held s.0 old new result.did s.3 h w

  pub retried_held : (old new : Seen) → new ≡ retried_copy old → IsHeld top folder old → IsWorkable new.item → IsHeld top folder new
  retried_held old new is h w = record {
    holds = h.holds;
    in_place = subst (IsInPlace top) (sym is) (let law = staying_law in law.retry top old h.in_place);
    in_worked = subst IsInWorked (sym is) (let law = worked_folder_law in law.retry old h.in_worked);
    windable = windable new.item w;
  }

-- a last step leaves nothing at work but a part that stays
stays_in : (folder : Route) (part : Option Route) → ItemIn folder (stays_if part)
stays_in folder (Some part) = tt
stays_in folder None = tt

kept_in : (c : Seen) (part : Option Route) → c.item ≡ stays_if part → IsInWorked c
kept_in c part is = subst (λ (i : ItemAtWork). ItemIn c.levels.inner.copy.target i) (sym is) (stays_in c.levels.inner.copy.target part)

folders_in : (ending : Ending) (part : Option Route) (old new : Seen) (last : LastStepResult) (before after : Option CallLog) (f0 f1 : ℕ) → FoldersWind ending part old new last before after f0 f1 → IsInWorked new
folders_in ending part old new last before after f0 f1 w = go w.winds
  where
    go : TriesFolder part w.mid old new last before after f0 f1 ⊎ EndsAll ending part w.mid old new last before after f0 f1 → IsInWorked new
    go (inl t) = kept_in new part (ap (λ (c : Seen). c.item) t.stands)
    go (inr e) = free_in new (ap (λ (c : Seen). c.item) e.stands)

winds_in : (item : ItemAtWork) (ending : Ending) (old new : Seen) (last : LastStepResult) (before after : Option CallLog) (f0 f1 : ℕ) → WindsAt item ending old new last before after f0 f1 → IsInWorked new
winds_in Next ending old new last before after f0 f1 w = folders_in ending None old new last before after f0 f1 w
winds_in (File f) ending old new last before after f0 f1 w = let m = w.moved in kept_in new (part_at m.stage) (ap (λ (c : Seen). c.item) w.stands)
winds_in (Link l) ending old new last before after f0 f1 (inl c) = free_in new (ap (λ (s : Seen). s.item) c.stands)
winds_in (Link l) ending old new last before after f0 f1 (inr s) = let later = s.winds in folders_in ending (Some l.part) (idle old) new later.next s.mid after s.since f1 later.winds
winds_in (Stays part) ending old new last before after f0 f1 w = folders_in ending (Some part) (idle old) new last before after f0 f1 w

pub wound_held : (top : Pair) (folder : Route) (ending : Ending) (old new : Seen) (last : LastStepResult) (before after : Option CallLog) (f0 f1 : ℕ) → WindsAt old.item ending old new last before after f0 f1
    → IsWindable new.item → IsHeld top folder old → IsHeld top folder new
wound_held top folder ending old new last before after f0 f1 w can h = record {
  holds = h.holds;
  in_place = (let law = staying_law in law.last_step top ending old new last before after f0 f1 w h.in_place);
  in_worked = winds_in old.item ending old new last before after f0 f1 w;
  windable = can;
}
