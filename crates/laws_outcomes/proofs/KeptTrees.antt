-- A copy of a thing with all that lies in it has changed nothing as long as the thing itself is before it, and nothing at all where it kept what stood at its target, or merged it.
use Rattle.std.proofs.Common.{◌≡◌, ℕ, Bool, true, false, List, refl, sym, ap, subst, inl, inr, Option}
use Rattle.std.specs.Prelude.{is_some}
use Rattle.std.proofs.lemmas.Bool.{false≢true}
use Rattle.mc_text.specs.Routes.{Route, parent_of}
use Rattle.tree_trait.specs.Change.{CallLog}
use Rattle.tree_trait.specs.FileSystem.{View}
use Rattle.job_answers.specs.declared.replies.Replies.{Replies}
use Rattle.job_reports.specs.Jobs.{ItemOfJob}
use Rattle.job_reports.specs.declared.job.Pair.{Pair}
use Rattle.job_reports.specs.declared.report.Cause.{Cause}
use Rattle.job_reports.specs.declared.report.Did.{Did}
use Rattle.job_reports.specs.declared.report.Did.TheVariants.{Began, Chunk, Placed, Removed, Made, Set, Kept, Skipped, Cleaned, Barrier, Asked, Merges, Moved, Troubled, Ended}
use Rattle.job_reports.specs.declared.report.StepResult.{StepResult}
use Rattle.copy_tree.specs.InPlace.{IsInPlace}
use Rattle.copy_tree.specs.Standing.{Seen}
use Rattle.copy_tree.proofs.InPlaces.{leaves_all, place_law}
use Rattle.copy_tree.proofs.Staying.{staying_law}
use Rattle.copy_job.specs.Passing.{OrPassedOver}
use Rattle.copy_job.specs.Standing.{SubtreeCopying, retries, begun_subtree_copy}
use Rattle.copy_job.specs.SubtreeSteps.{ListSteps, SubtreeSkips, SubtreeSteps, step_result}
use Rattle.copy_job.proofs.Begun.{begins_held}
use Rattle.laws_sessions.specs.Replayed.{replayed_step}
use Rattle.laws_sessions.proofs.TreeMachine.{passed_trouble, skip_says}
use Rattle.laws_outcomes.specs.Keeps.{keeps_by}
use Rattle.laws_outcomes.proofs.MadeThings.{Unless}
use Rattle.laws_outcomes.proofs.TopSteps.{After, Spared, copy_spared, leaves_spared, retries_spared, says_plain, skips_spared, told}

-- it is in its place
pub record TreeSpares (v was : View) (kept : Bool) (c : SubtreeCopying) : Type 0 where
  pub in_place : IsInPlace c.top c.at
  pub spared : Spared v was kept c.at

-- a report that isn't the end
unless_both : {A : Type 0} (did : Did) (P : Type 0) → Unless did P → (P → A) → Unless did A
unless_both (Ended ending part) P h f = tt
unless_both did P h f = f h

-- a step
module _ (now : CallLog) (work : Option ItemOfJob) (v was : View) (kept : Bool) (c new : SubtreeCopying) (did : Did) (free : Route → Bool) (replies : Replies) (count : ℕ) (dirty dirty_after : List Route) (before after : Option CallLog) (f0 f1 : ℕ)
    (s : SubtreeSteps free replies c new did count dirty dirty_after before after f0 f1) (h : TreeSpares v was kept c) where
  abbrev Here : Did → Seen → Type 0
  Here d x = After now v was kept work c.top d x

  abbrev r : StepResult
  r = s.worked

  place_before : IsInPlace c.top s.mid
  place_before = (let l = s.leaves in leaves_all c.top l.0 c.at s.mid l.1 h.in_place)

  worked : Here r.did s.moved × IsInPlace c.top s.moved
  worked = by s.works
    where
      before_it : Spared v was kept s.mid
      before_it = (let l = s.leaves in leaves_spared now v was kept work c.top l.0 c.at s.mid l.1 h.in_place h.spared)

      by : ListSteps free replies s.mid s.moved r dirty dirty_after before after f0 f1 → Here r.did s.moved × IsInPlace c.top s.moved
      by (inl out) = (
        subst (λ d. Here d s.moved) (sym (ap (λ (x : StepResult). x.did) out.says)) (subst (Spared v was kept) (sym out.stays) before_it),
        subst (IsInPlace c.top) (sym out.stays) place_before,
      )
      by (inr m) = (
        copy_spared now v was kept work c.top free replies s.mid s.moved r.did r.calls before after f0 f1 m.steps place_before before_it,
        (place_law free replies c.top s.mid s.moved r.did r.calls before after f0 f1 m.steps place_before).0,
      )

  reported : Here did new.at × IsInPlace c.top new.at
  reported = by s.passes
    where
      by : OrPassedOver replies.skips r s.moved new.at (step_result did count) → Here did new.at × IsInPlace c.top new.at
      by (inl (none, same, at)) = (
        subst (λ d. Here d new.at) (sym (ap (λ (x : StepResult). x.did) same)) (subst (Here r.did) (sym at) worked.0),
        subst (IsInPlace c.top) (sym at) worked.1,
      )
      by (inr (cause, is, calls, skips)) =
          let t = passed_trouble replies.skips r.did cause is in
          let moved = s.moved in
          let here : Spared v was kept moved = subst (λ d. Here d s.moved) t.1 worked.0 in (
            told now v was kept work c.top did new.at (says_plain did (skip_says moved.item cause moved new.at did skips)) (skips_spared v was kept moved new.at here cause did moved.item refl skips),
            (let law = staying_law in law.skip c.top cause moved new.at did skips worked.1),
          )

  top_is : new.top ≡ c.top
  top_is = ap (λ (x : SubtreeCopying). x.top) s.stands

  pub tree_spares : Unless did (TreeSpares (replayed_step now did work v) was (keeps_by did kept) new)
  tree_spares = unless_both did (Spared (replayed_step now did work v) was (keeps_by did kept) new.at) reported.0 (λ spared. record { in_place = subst (λ (top : Pair). IsInPlace top new.at) (sym top_is) reported.1; spared = spared })

-- something is passed over once that was answered
pub tree_passes : (v was : View) (kept : Bool) (c new : SubtreeCopying) (cause : Cause) (did : Did) → SubtreeSkips cause c did new → TreeSpares v was kept c → TreeSpares v was kept new
tree_passes v was kept c new cause did skips h =
    subst (TreeSpares v was kept) (sym skips.stands) (record {
      in_place = (let law = staying_law in law.skip c.top cause c.at new.at did skips.skips h.in_place);
      spared = (let at = c.at in skips_spared v was kept at new.at h.spared cause did at.item refl skips.skips);
    })

-- and what was refused is taken up anew
pub tree_retries : (v was : View) (kept : Bool) (c : SubtreeCopying) → TreeSpares v was kept c → TreeSpares v was kept (retries c)
tree_retries v was kept c h = record {
  in_place = (let law = staying_law in law.retry c.top c.at h.in_place);
  spared = (let at = c.at in retries_spared v was kept at (let again : SubtreeCopying = retries c in again.at) h.spared at.item refl refl);
}

-- a copy that begins
pub tree_begins : (id : ℕ) (top : Pair) (v : View) → is_some (parent_of top.source) ≡ true → is_some (parent_of top.target) ≡ true → TreeSpares v v false (begun_subtree_copy id top)
tree_begins id top v from to = record {
  in_place = (let held = begins_held id top from to in held.in_place);
  spared = record {
    begun = λ fresh. refl;
    ahead = λ a. (refl, λ path. refl);
    over = λ kept. absurd (false≢true kept);
  };
}
