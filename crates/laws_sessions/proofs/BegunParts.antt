-- A part that a step of a copy reports as begun is named by its job, beside the target of what is taken up.
use Rattle.std.proofs.Common.{◌≡◌, refl, sym, ◌∙◌, ap, subst, inl, inr, Some}
use Rattle.mc_text.specs.Routes.{Route}
use Rattle.tree_trait.specs.Change.{CallLog}
use Rattle.job_answers.specs.declared.replies.Replies.{Replies}
use Rattle.job_reports.specs.declared.job.Pair.{Pair}
use Rattle.job_reports.specs.declared.report.Did.{Did}
use Rattle.job_reports.specs.declared.report.Did.TheVariants.{Began}
use Rattle.copy_file.specs.Copying as file
use Rattle.copy_file.specs.Copying.{Copying}
use Rattle.copy_file.specs.declared.stage.Stage.{Stage as FileStage}
use Rattle.copy_file.specs.declared.stage.Stage.TheVariants as file_stage
use Rattle.copy_folders.specs.declared.stage.FolderDid.{FolderDid}
use Rattle.copy_folders.specs.declared.stage.FolderDid.TheVariants as folder_did
use Rattle.copy_link.specs.LinkCopying as link
use Rattle.copy_tree.specs.InPlace.{IsInPlace}
use Rattle.copy_tree.specs.MadeCalls.{IsPartFor}
use Rattle.copy_tree.specs.Progress.{link_progress, progress}
use Rattle.copy_tree.specs.Reports.{IsToldAs}
use Rattle.copy_tree.specs.Standing.{Seen}
use Rattle.copy_tree.specs.TreeCopySteps.{TakesNext, WorksOn, link_begun}
use Rattle.copy_tree.specs.declared.item.ItemAtWork.{ItemAtWork}
use Rattle.copy_tree.specs.declared.item.ItemAtWork.TheVariants.{Next, File, Link, Stays}
use Rattle.copy_tree.specs.declared.progress.Progress.TheVariants.{UnderWay, Anew}
use Rattle.copy_tree.proofs.InPlaces.{pair_moved}
use Rattle.laws_sessions.proofs.AtWork.{ItemKnown}
use Rattle.laws_sessions.proofs.FileMoves.{FileMoves, MoveCalls, taken_moves}
use Rattle.laws_sessions.proofs.OwnNames.{IsOwnName, own_part}

-- no report of a folder is
told_no : {A : Type 0} (part : Route) (report : FolderDid) (did : Did) → IsToldAs report did → did ≡ Began part → A
told_no part (folder_did.Made path) did is begun = absurd (let e = sym is ∙ begun in let f : ⊥ = cc in f)
told_no part (folder_did.Set path) did is begun = absurd (let e = sym is ∙ begun in let f : ⊥ = cc in f)
told_no part folder_did.Barrier did is begun = absurd (let e = sym is ∙ begun in let f : ⊥ = cc in f)
told_no part folder_did.Closed did is begun = absurd is
told_no part (folder_did.Troubled trouble) did is begun = absurd (let e = sym is ∙ begun in let f : ⊥ = cc in f)

module _ (unclaimed : Route → Type 0) (replies : Replies) (top : Pair) (mid new : Seen) (did : Did) (log now : CallLog) (part : Route) (begun : did ≡ Began part) (place : IsInPlace top mid) where
  of_file : (f : Copying) → FileMoves unclaimed f mid new did (Some log) (Some now) → IsPartFor f.job f.target part
  of_file f w = let calls : MoveCalls unclaimed f (Began part) w.moved log (Some now) = subst (λ d. MoveCalls unclaimed f d w.moved log (Some now)) begun (w.called log refl) in (calls.2.0, calls.2.1)

  takes_named : TakesNext unclaimed replies mid new did (Some log) (Some now) → IsOwnName mid.job top part
  takes_named (inl s) = absurd (let e = sym s.says ∙ begun in let f : ⊥ = cc in f)
  takes_named (inr (inl t)) =
      own_part mid.job top t.pair.source t.pair.target part (pair_moved top mid.levels.inner.names.names mid t.pair refl t.next place)
      (of_file (file.begun_copy mid.job t.pair.source t.pair.target) (taken_moves unclaimed replies mid new did (Some log) (Some now) t))
  takes_named (inr (inr (inl t))) =
      let w = t.works in
      let tells : link.Tells (link_begun t.pair t.part) (Began part) w.moved = subst (λ d. link.Tells (link_begun t.pair t.part) d w.moved) begun w.tells in
      let chosen = t.chosen log refl in
      own_part mid.job top t.pair.source t.pair.target part (pair_moved top mid.levels.inner.names.names mid t.pair refl t.next place) (chosen.0, tells.1 ∙ chosen.1)
  takes_named (inr (inr (inr (inl t)))) = let w = t.works in told_no part w.report did w.says begun
  takes_named (inr (inr (inr (inr (inl t))))) = absurd (let e = sym t.says ∙ begun in let f : ⊥ = cc in f)
  takes_named (inr (inr (inr (inr (inr (inl t)))))) = absurd (let e = sym t.says ∙ begun in let f : ⊥ = cc in f)
  takes_named (inr (inr (inr (inr (inr (inr (inl t))))))) = absurd (let e = sym t.says ∙ begun in let f : ⊥ = cc in f)
  takes_named (inr (inr (inr (inr (inr (inr (inr (next, inl (debt, ends))))))))) = told_no part ends.report did ends.says begun
  takes_named (inr (inr (inr (inr (inr (inr (inr (next, inr (debt, f, same))))))))) = absurd (let e = sym f.says ∙ begun in let x : ⊥ = cc in x)

  not_file : {A : Type 0} (stage : FileStage) → progress stage ≡ UnderWay → stage ≡ file_stage.Begin → A
  not_file stage going is = absurd (let e : Anew ≡ UnderWay = sym (ap progress is) ∙ going in let f : ⊥ = cc in f)

  pub begun_named : (item : ItemAtWork) → ItemKnown log mid item → WorksOn item unclaimed replies mid new did (Some log) (Some now) → IsOwnName mid.job top part
  begun_named Next known (inl s) = told_no part s.report did s.says begun
  begun_named Next known (inr takes) = takes_named takes.1
  begun_named (File f) (clean, going, within, has) w =
      let tells : file.Tells f (Began part) w.moved = subst (λ d. file.Tells f d w.moved) begun w.tells in not_file f.stage going tells.0
  begun_named (Link l) (clean, going, within, has) w =
      let tells : link.Tells l (Began part) w.moved = subst (λ d. link.Tells l d w.moved) begun w.tells in
      absurd (let e : Anew ≡ UnderWay = sym (ap link_progress tells.0) ∙ going in let f : ⊥ = cc in f)
  begun_named (Stays left) known w = absurd w
