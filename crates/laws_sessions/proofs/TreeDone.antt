-- What a copy of folders that is finished has left: nothing at or below its target waits, but of a file or a link that stood there before, nor anything in the folder that holds it.
use Rattle.std.proofs.Common.{◌≡◌, ◌⊎◌, ℕ, Bool, true, false, List, [], ◌∷◌, ◌++◌, refl, sym, ◌∙◌, ap, subst, inl, inr, Option, Some}
use Rattle.mc_text.specs.Routes.{Route}
use Rattle.tree_trait.specs.FileSystem.{find, node}
use Rattle.tree_trait.specs.Change.{CallLog, current}
use Rattle.tree_trait.specs.CrashImages.{is_clean}
use Rattle.laws_crash.specs.Guarded.{Marks}
use Rattle.job_answers.specs.declared.replies.Replies.{Replies}
use Rattle.job_reports.specs.declared.report.Cause.{Cause}
use Rattle.job_reports.specs.declared.report.Did.{Did}
use Rattle.job_reports.specs.declared.report.Did.TheVariants.{Ended}
use Rattle.job_reports.specs.declared.report.Ending.TheVariants.{Finished}
use Rattle.job_reports.specs.declared.report.StepResult.{StepResult}
use Rattle.copy_folders.specs.FolderCopying.{FolderCopying}
use Rattle.copy_folders.specs.FolderSteps as folder
use Rattle.copy_job.specs.Passing.{OrPassedOver}
use Rattle.copy_job.specs.Standing.{SubtreeCopying}
use Rattle.copy_job.specs.SubtreeSteps.{ListSteps, SubtreeSteps, step_result}
use Rattle.copy_tree.specs.Parts.{IsPartPlace}
use Rattle.copy_tree.specs.Skipping.{SkipsAt, SkipsNamed}
use Rattle.copy_tree.specs.Standing.{Seen, is_fresh}
use Rattle.copy_tree.specs.TreeCopySteps.{WorksOn}
use Rattle.copy_tree.specs.declared.item.ItemAtWork.{ItemAtWork}
use Rattle.copy_tree.specs.declared.item.ItemAtWork.TheVariants.{Next, File, Link, Stays}
use Rattle.copy_move.specs.declared.run.Course.TheVariants.{GoesOn}
use Rattle.laws_sessions.specs.Doubt.{name_waits}
use Rattle.tree_trait.specs.Refusals.{is_folder}
use Rattle.laws_sessions.proofs.Knowing.{HistoryFacts}
use Rattle.laws_sessions.proofs.OwnNames.{IsOwnName}
use Rattle.laws_sessions.proofs.TreeEnds.{IsAtEnd, ended_calm, ended_names, ends_here}
use Rattle.laws_sessions.proofs.TreeGoing.{LogHas, leaves_has}
use Rattle.laws_sessions.proofs.TreeKnown.{TargetKnows, TreeKnown}
use Rattle.laws_sessions.proofs.TreeLeads.{log_has}

pub record TreeLeft (told : HistoryFacts) (marks : Marks) (log : CallLog) (c : SubtreeCopying) : Type 0 where
  pub names : (name : List ℕ) (up : Route) → IsOwnName c.at.job c.top (name ∷ up) → name_waits log (name ∷ up) ≡ false
  pub calm : (rest : Route) (i : ℕ) → find (current log) (rest ++ c.top.target) ≡ Some i → (is_clean i log.changes ≡ true) ⊎ ((rest ≡ []) × (is_folder (node (current log) i) ≡ false))
  pub around : TargetKnows told marks (current log) c

-- what is passed over is no end
folder_no_end : {A : Type 0} (cause : Cause) (c moved : FolderCopying) (part : Option Route) → folder.Skips cause c (Ended Finished part) moved → A
folder_no_end cause c moved part (inl s) = absurd (let e = s.0 in let f : ⊥ = cc in f)
folder_no_end cause c moved part (inr s) = absurd (let e = s.0 in let f : ⊥ = cc in f)

named_no_end : {A : Type 0} (names : List (List ℕ)) (cause : Cause) (old new : Seen) (part : Option Route) → SkipsNamed names cause old (Ended Finished part) new → A
named_no_end [] cause old new part s = folder_no_end cause old.levels.inner.copy s.0 part s.1
named_no_end (first ∷ names) cause old new part (inl s) = absurd (let e = s.0 in let f : ⊥ = cc in f)
named_no_end (first ∷ names) cause old new part (inr (inl (long, inl s))) = absurd (let e = s.0 in let f : ⊥ = cc in f)
named_no_end (first ∷ names) cause old new part (inr (inl (long, inr s))) = absurd (let e = s.0 in let f : ⊥ = cc in f)
named_no_end (first ∷ names) cause old new part (inr (inr s)) = absurd (let e = s.0 in let f : ⊥ = cc in f)

skips_no_end : {A : Type 0} (item : ItemAtWork) (cause : Cause) (old new : Seen) (part : Option Route) → SkipsAt item cause old (Ended Finished part) new → A
skips_no_end Next cause old new part s = named_no_end old.levels.inner.names.names cause old new part s
skips_no_end (File f) cause old new part (moved, inl s, stands) = absurd (let e = s.0 in let f : ⊥ = cc in f)
skips_no_end (File f) cause old new part (moved, inr s, stands) = absurd (let e = s.0 in let f : ⊥ = cc in f)
skips_no_end (Link l) cause old new part (moved, inl s, stands) = absurd (let e = s.0 in let f : ⊥ = cc in f)
skips_no_end (Link l) cause old new part (moved, inr s, stands) = absurd (let e = s.0 in let f : ⊥ = cc in f)
skips_no_end (Stays left) cause old new part s = absurd s

module _ (told : HistoryFacts) (dirty dirty_after : List Route) (marks : Marks) (log now : CallLog) (c new : SubtreeCopying) (part : Option Route) (known : TreeKnown told dirty marks log GoesOn c) (begun : is_fresh c.at.stage ≡ false)
    (free : Route → Bool) (replies : Replies) (calls f0 f1 : ℕ) (s : SubtreeSteps free replies c new (Ended Finished part) calls dirty dirty_after (Some log) (Some now) f0 f1) where
  -- folders that owe nothing are left, and the machine is at its end
  record Ends : Type 0 where
    pub last : Seen
    pub has : LogHas c.top c.at.job log last
    pub end : IsAtEnd last

  stands : LogHas c.top c.at.job log c.at
  stands = (let g = known.goes refl in log_has told dirty marks log c g.stands (g.begun begun))

  here : LogHas c.top c.at.job log s.mid
  here = (let l = s.leaves in leaves_has c.top c.at.job log l.0 c.at s.mid l.1 stands)

  worked : (did : Did) → did ≡ Ended Finished part → ListSteps free replies s.mid s.moved s.worked dirty dirty_after (Some log) (Some now) f0 f1 → (let w = s.worked in w.did) ≡ did → Ends
  worked did is (inl short) told_is = absurd (let e = sym is ∙ (sym told_is ∙ ap (λ (r : StepResult). r.did) short.says) in let f : ⊥ = cc in f)
  worked did is (inr m) told_is =
      let steps = m.steps in
      let at_last = leaves_has c.top c.at.job log steps.folders s.mid steps.mid steps.leaves here in
      record {
        last = steps.mid;
        has = at_last;
        end = ends_here c.top c.at.job log steps.mid at_last (IsPartPlace free steps.mid) replies s.moved part (Some log) (Some now) (let l : Seen = steps.mid in l.item) refl
            (subst (λ d. WorksOn (let l : Seen = steps.mid in l.item) (IsPartPlace free steps.mid) replies steps.mid s.moved d (Some log) (Some now)) (told_is ∙ is) steps.works);
      }

  ends : Ends
  ends = by s.passes
    where
      by : OrPassedOver replies.skips s.worked s.moved new.at (step_result (Ended Finished part) calls) → Ends
      by (inl (none, same, stays)) = worked (Ended Finished part) refl s.works (ap (λ (r : StepResult). r.did) (sym same))
      by (inr p) = (let m : Seen = s.moved in skips_no_end m.item p.0 m new.at part p.3)

  pub tree_done : TreeLeft told marks log c
  tree_done =
      let e = ends in
      let g = known.goes refl in
      let has = g.begun begun in
      record {
        names = λ name up own. ended_names c.top c.at.job log e.last e.has e.end name up own;
        calm = λ rest i leads. ended_calm c.top c.at.job log e.last e.has e.end rest i leads;
        around = has.around;
      }
