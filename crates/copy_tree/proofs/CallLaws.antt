-- Each changing call of a step, and of a last step, is one that a copy may make; and its part stays beside its target.
use Rattle.std.specs.Prelude.{◌⊎◌}
use Rattle.std.proofs.Common.{◌≡◌, ℕ, zero, suc, refl, sym, ◌∙◌, ap, subst, inl, inr, Bool, true, List, [], ◌∷◌, length, arith, Option, Some, None, Err}
use Rattle.mc_text.specs.Routes.{Route}
use Rattle.tree_trait.specs.declared.calls.TreeError.{TreeError}
use Rattle.tree_trait.specs.Calls.{RemoveFile, SyncFolder}
use Rattle.tree_trait.specs.Change.{CallLog}
use Rattle.job_answers.specs.declared.replies.Replies.{Replies}
use Rattle.tree_trait.specs.Answers.{IfKnown, Performs}
use Rattle.job_reports.specs.declared.job.Pair.{Pair}
use Rattle.job_reports.specs.declared.report.Cause.{Cause}
use Rattle.job_reports.specs.declared.report.Did.{Did}
use Rattle.job_reports.specs.declared.report.Ending.{Ending}
use Rattle.job_reports.specs.declared.report.LastStepResult.{LastStepResult}
use Rattle.copy_file.specs.Copying as file
use Rattle.copy_file.specs.Copying.{Copying, part_at}
use Rattle.copy_file.specs.CopySteps as file_steps
use Rattle.copy_file.specs.declared.stage.SourceFacts.{SourceFacts}
use Rattle.copy_file.specs.declared.stage.Stage.{Stage as FileStage}
use Rattle.copy_file.specs.declared.stage.Stage.TheVariants as file_stage
use Rattle.copy_folders.specs.FolderCopying.{FolderCopying}
use Rattle.copy_folders.specs.FolderSteps.{at_sync}
use Rattle.copy_link.specs.LinkCopying as link
use Rattle.copy_link.specs.LastTries.{answer_in}
use Rattle.copy_link.specs.LinkSteps as link_steps
use Rattle.copy_link.specs.LinkCopying.{LinkCopying}
use Rattle.copy_tree.specs.declared.due.Due.TheVariants.{Thing}
use Rattle.copy_tree.specs.declared.item.ItemAtWork.{ItemAtWork}
use Rattle.copy_folders.specs.declared.level.Level.{Level}
use Rattle.copy_tree.specs.declared.item.ItemAtWork.TheVariants.{Next, File, Link, Stays}
use Rattle.copy_tree.specs.declared.progress.Progress.{Progress}
use Rattle.copy_tree.specs.declared.progress.Progress.TheVariants.{UnderWay, Decided, Anew}
use Rattle.copy_tree.specs.Ending.{EndsAll, FileWinds, FoldersWind, LinkCleaned, LinkStays, LinkWinds, TriesFolder, WindsAfter, WindsAt, stays_if}
use Rattle.copy_tree.specs.InPlace.{AreMoved, IsInPlace, IsMoved, ItemMoved}
use Rattle.copy_folders.specs.Levels.{LeftAll, Levels, level, with_copy}
use Rattle.copy_tree.specs.MadeCalls.{CallLaw, HasPart, IsBeside, IsPartFor, ItemBeside, MakesOnly, MayCall}
use Rattle.copy_tree.specs.Parts.{IsPartPlace}
use Rattle.copy_tree.specs.Progress.{link_progress, progress}
use Rattle.copy_tree.specs.Skipping.{SkipsAt, SkipsFile, SkipsLink, SkipsName, SkipsNamed, SkipsRest, retried_at}
use Rattle.copy_tree.specs.Standing.{Seen}
use Rattle.copy_tree.specs.TreeCopySteps.{FileBegins, FileWorks, GoesOn, Leaves, LeavesAll, LinkWorks, SyncsAround, TakesNext, WorksOn, at_end, idle, link_begun, noted_copy, copy_after_progress}
use Rattle.copy_tree.proofs.Callings.{followed, none, one, told_after}
use Rattle.copy_tree.proofs.CallsMade.{KeepsFile, file_makes, file_winds, folder_sync, level_makes, link_makes, make_makes, part_makes, part_of}
use Rattle.copy_tree.proofs.InPlaces.{closed_in_place, leaves_all, levels_keep, pair_moved}
use Rattle.copy_tree.proofs.Staying.{left_moved}

-- what goes on keeps its part
settled_part : (job : ℕ) (p : Progress) (item : ItemAtWork) (c : Seen) → ItemBeside job item → HasPart job c → HasPart job (copy_after_progress p item c)
settled_part job UnderWay item c is h = record { by = h.by; beside = is }
settled_part job Decided item c is h = record { by = h.by; beside = h.beside }
settled_part job Anew item c is h = h

idle_part : (job : ℕ) (c : Seen) → HasPart job c → HasPart job (idle c)
idle_part job c h = record { by = h.by; beside = tt }

noted_part : (job : ℕ) (did : Did) (changed : Bool) (c : Seen) → HasPart job c → HasPart job (noted_copy did changed c)
noted_part job did changed c h = record { by = h.by; beside = h.beside }

leaves_part : (job : ℕ) (old new : Seen) → Leaves old new → HasPart job old → HasPart job new
leaves_part job old new l h = let r = l.returns in subst (HasPart job) (sym r.stands) record { by = h.by; beside = h.beside }

all_leave : (job : ℕ) (n : ℕ) (old new : Seen) → LeavesAll n old new → HasPart job old → HasPart job new
all_leave job zero old new is h = subst (HasPart job) (sym is) h
all_leave job (suc n) old new l h = leaves_part job l.0 new l.3 (all_leave job n old l.0 l.1 h)

module _ (top : Pair) (job : ℕ) where
  abbrev Makes : Option CallLog → Option CallLog → Seen → Type 0
  Makes before after new = IfKnown before (λ log. HasPart job new × MakesOnly (MayCall top job) log after)

  kept : (new : Seen) (log : CallLog) (after : Option CallLog) → HasPart job new → MakesOnly (MayCall top job) log after → HasPart job new × MakesOnly (MayCall top job) log after
  kept new log after h m = (h, m)

  file_step : (unclaimed : Route → Type 0) (f : Copying) (old new : Seen) (did : Did) (before after : Option CallLog) → FileWorks unclaimed f old new did before after → IsMoved top f.source f.target
      → f.job ≡ job → IsBeside job f.target (part_at f.stage) → HasPart job old → Makes before after new
  file_step unclaimed f old new did before after w m by beside h log known =
      let makes = file_makes top job unclaimed f w.moved did log after by (f.source, m) beside w.tells (w.called log known) in
      let k : KeepsFile top job f w.moved = makes.0 in
      kept new log after
      (subst (HasPart job) (sym w.stands)
      (settled_part job (progress w.moved.stage) (File w.moved) (noted_copy did (file.is_dirty w.moved.folder) (idle old)) (k.0 ∙ by, k.2) (noted_part job did (file.is_dirty w.moved.folder) (idle old) (idle_part job old h))))
      makes.1

  -- the part of a file is made
  file_begins : (unclaimed : Route → Type 0) (facts : SourceFacts) (f : Copying) (old new : Seen) (did : Did) (before after : Option CallLog) → FileBegins unclaimed facts f old new did before after
      → IsMoved top f.source f.target → f.job ≡ job → IsBeside job f.target (part_at f.stage) → HasPart job old → Makes before after new
  file_begins unclaimed facts f old new did before after w m by beside h log known =
      let makes = part_makes top job unclaimed facts f w.moved did log after by (f.source, m) beside w.tells (w.called log known) in
      let k : KeepsFile top job f w.moved = makes.0 in
      kept new log after
      (subst (HasPart job) (sym w.stands)
      (settled_part job (progress w.moved.stage) (File w.moved) (noted_copy did (file.is_dirty w.moved.folder) (idle old)) (k.0 ∙ by, k.2) (noted_part job did (file.is_dirty w.moved.folder) (idle old) (idle_part job old h))))
      makes.1

  link_step : (l : LinkCopying) (old new : Seen) (did : Did) (before after : Option CallLog) → LinkWorks l old new did before after → IsMoved top l.source l.target
      → IfKnown before (λ log. IsPartFor job l.target l.part) → HasPart job old → Makes before after new
  link_step l old new did before after w m beside h log known =
      let makes = link_makes top job l w.moved did log after (l.source, m) (beside log known) w.tells (w.called log known) in
      kept new log after
      (subst (HasPart job) (sym w.stands)
      (settled_part job (link_progress w.moved.stage) (Link w.moved) (noted_copy did (link.is_dirty w.moved.folder) (idle old)) makes.0 (noted_part job did (link.is_dirty w.moved.folder) (idle old) (idle_part job old h))))
      makes.1

  no_call : (old new : Seen) (before after : Option CallLog) → after ≡ before → new ≡ old → HasPart job old → Makes before after new
  no_call old new before after same stays h log known = (subst (HasPart job) (sym stays) h, none (MayCall top job) log after (same ∙ known))

  takes : (unclaimed : Route → Type 0) (replies : Replies) (old new : Seen) (did : Did) (before after : Option CallLog) → TakesNext unclaimed replies old new did before after → IsInPlace top old → HasPart job old → Makes before after new
  takes unclaimed replies old new did before after (inl s) p h = no_call old new before after s.same s.stands h
  takes unclaimed replies old new did before after (inr (inl t)) p h =
      file_begins unclaimed t.facts (file.begun_copy old.job t.pair.source t.pair.target) old new did before after t.works (pair_moved top old.levels.inner.names.names old t.pair refl t.next p) h.by tt h
  takes unclaimed replies old new did before after (inr (inr (inl t))) p h =
      link_step (link_begun t.pair t.part) old new did before after t.works (pair_moved top old.levels.inner.names.names old t.pair refl t.next p)
      (λ log known. let chosen = t.chosen log known in subst (λ n. IsPartFor n t.pair.target t.part) h.by (chosen.0, chosen.1)) h
  takes unclaimed replies old new did before after (inr (inr (inr (inl t)))) p h = λ log known.
      let w = t.works in (
        subst (HasPart job) (sym w.stands) record { by = h.by; beside = h.beside },
        make_makes top job t.pair t.mode w.report log after (pair_moved top old.levels.inner.names.names old t.pair refl t.next p) (w.called log known),
      )
  takes unclaimed replies old new did before after (inr (inr (inr (inr (inl t))))) p h = λ log known.
      (subst (HasPart job) (sym t.stands) record { by = h.by; beside = h.beside }, none (MayCall top job) log after (t.same ∙ known))
  takes unclaimed replies old new did before after (inr (inr (inr (inr (inr (inl t)))))) p h = λ log known.
      (subst (HasPart job) (sym t.stands) record { by = h.by; beside = h.beside }, none (MayCall top job) log after (t.same ∙ known))
  takes unclaimed replies old new did before after (inr (inr (inr (inr (inr (inr (inl t))))))) p h = no_call old new before after t.same t.stands h
  takes unclaimed replies old new did before after (inr (inr (inr (inr (inr (inr (inr (next, inl (debt, e))))))))) p h = λ log known.
      let at = closed_in_place top old p in (
        subst (HasPart job) (sym e.stands) record { by = h.by; beside = h.beside },
        level_makes top job old.levels.around (let c = at_end old in c.levels.inner) e.report log after at.levels (e.called log known),
      )
  takes unclaimed replies old new did before after (inr (inr (inr (inr (inr (inr (inr (next, inr (debt, f, same))))))))) p h = no_call (at_end old) new before after same f.stands record { by = h.by; beside = h.beside }

  syncs : (old new : Seen) (did : Did) (before after : Option CallLog) → SyncsAround old new did before after → IsInPlace top old → HasPart job old → Makes before after new
  syncs old new did before after s p h = λ log known.
      let k = subst (λ (xs : List Level). AreMoved top old.levels.inner xs) s.was p.levels in (
        subst (HasPart job) (sym s.stands) record { by = h.by; beside = h.beside },
        level_makes top job s.around (level s.outer.names (at_sync s.outer.copy)) s.report log after
            (levels_keep top s.outer (level s.outer.names (at_sync s.outer.copy)) s.around refl refl (λ o. refl) (λ name n. n) (omega arith) k.1) (s.called log known),
      )

  goes : (unclaimed : Route → Type 0) (replies : Replies) (old new : Seen) (did : Did) (before after : Option CallLog) → GoesOn unclaimed replies old new did before after → IsInPlace top old → HasPart job old → Makes before after new
  goes unclaimed replies old new did before after (inl s) p h = syncs old new did before after s p h
  goes unclaimed replies old new did before after (inr s) p h = takes unclaimed replies old new did before after s.1 p h

  works : (unclaimed : Route → Type 0) (replies : Replies) (item : ItemAtWork) (old new : Seen) (did : Did) (before after : Option CallLog) → WorksOn item unclaimed replies old new did before after → ItemMoved top item → ItemBeside job item
      → IsInPlace top old → HasPart job old → Makes before after new
  works unclaimed replies Next old new did before after w m b p h = goes unclaimed replies old new did before after w p h
  works unclaimed replies (File f) old new did before after w m b p h = file_step unclaimed f old new did before after w m b.0 b.1 h
  works unclaimed replies (Link l) old new did before after w m b p h = link_step l old new did before after w m (λ log known. b) h
  works unclaimed replies (Stays part) old new did before after w m b p h = absurd w

  -- the last steps
  stays_beside : (part : Option Route) → ItemBeside job (stays_if part)
  stays_beside (Some part) = tt
  stays_beside None = tt

  abbrev Ends : Seen → Option CallLog → Option CallLog → Type 0
  Ends new before after = HasPart job new × IfKnown before (λ log. MakesOnly (MayCall top job) log after)

  folders_wind : (ending : Ending) (part : Option Route) (old new : Seen) (last : LastStepResult) (before after : Option CallLog) (faults faults_after : ℕ)
      → FoldersWind ending part old new last before after faults faults_after → AreMoved top old.levels.inner old.levels.around → HasPart job old → Ends new before after
  folders_wind ending part old new last before after faults faults_after w p h = by_case w.winds
    where
      by_case : TriesFolder part w.mid old new last before after faults faults_after ⊎ EndsAll ending part w.mid old new last before after faults faults_after → Ends new before after
      by_case (inl t) =
          let s = t.tried in
          let a = s.answered in (
            subst (HasPart job) (sym t.stands) record { by = h.by; beside = stays_beside part },
            λ log known. one (MayCall top job) (SyncFolder w.mid.inner.copy.target) a.0 log after (folder_sync top job w.mid.around w.mid.inner (left_moved top w.count old.levels w.mid w.left p)) (a.3 log known),
          )
      by_case (inr e) = (subst (HasPart job) (sym e.stands) record { by = h.by; beside = tt }, λ log known. none (MayCall top job) log after (e.same ∙ known))

  file_ends : (ending : Ending) (f : Copying) (old new : Seen) (last : LastStepResult) (before after : Option CallLog) (faults faults_after : ℕ)
      → FileWinds ending f old new last before after faults faults_after → IsMoved top f.source f.target → IsBeside job f.target (part_at f.stage) → HasPart job old → Ends new before after
  file_ends ending f old new last before after faults faults_after w m beside h =
      let s = w.winds in (
        subst (HasPart job) (sym w.stands) record { by = h.by; beside = stays_beside (part_at w.moved.stage) },
        λ log known. file_winds top job ending f w.moved last.did log after (f.source, m) beside s.tells (s.called log known),
      )

  link_ends : (ending : Ending) (l : LinkCopying) (old new : Seen) (last : LastStepResult) (before after : Option CallLog) (faults faults_after : ℕ)
      → LinkWinds ending l old new last before after faults faults_after → IsMoved top l.source l.target → IsPartFor job l.target l.part → AreMoved top old.levels.inner old.levels.around → HasPart job old
      → Ends new before after
  link_ends ending l old new last before after faults faults_after (inl c) m beside p h =
      let r = c.removed in (
        subst (HasPart job) (sym c.stands) record { by = h.by; beside = h.beside },
        λ log known. one (MayCall top job) (RemoveFile l.part) (answer_in c.tried.removal) log after (part_of top job l.target l.part (l.source, m) beside) (r.answered log known),
      )
  link_ends ending l old new last before after faults faults_after (inr s) m beside p h =
      let r = s.removed in
      let later = s.winds in
      let ends = folders_wind ending (Some l.part) old new later.next s.mid after s.since faults_after later.winds p h in (
        ends.0,
        λ log known.
            let called = r.answered log known in
            let mid = told_after log (RemoveFile l.part) (answer_in s.tried.removal) s.mid called in
            followed (MayCall top job) (RemoveFile l.part) (answer_in s.tried.removal) log mid.0 after (part_of top job l.target l.part (l.source, m) beside)
            (subst (λ (x : Option CallLog). Performs {A = Unit {0}} log (RemoveFile l.part) (answer_in s.tried.removal) x) mid.1 called) (ends.1 mid.0 mid.1),
      )

  winds : (item : ItemAtWork) (ending : Ending) (old new : Seen) (last : LastStepResult) (before after : Option CallLog) (faults faults_after : ℕ)
      → WindsAt item ending old new last before after faults faults_after → ItemMoved top item → ItemBeside job item → IsInPlace top old → HasPart job old → Ends new before after
  winds Next ending old new last before after faults faults_after w m b p h = folders_wind ending None old new last before after faults faults_after w p.levels h
  winds (File f) ending old new last before after faults faults_after w m b p h = file_ends ending f (idle old) new last before after faults faults_after w m b.1 (idle_part job old h)
  winds (Link l) ending old new last before after faults faults_after w m b p h = link_ends ending l (idle old) new last before after faults faults_after w m b p.levels (idle_part job old h)
  winds (Stays part) ending old new last before after faults faults_after w m b p h = folders_wind ending (Some part) (idle old) new last before after faults faults_after w p.levels (idle_part job old h)

-- skips and retries
skipped_beside : (job : ℕ) (target : Route) (stage : FileStage) → IsBeside job target (part_at stage) → IsBeside job target (part_at (file.skipped_stage stage))
skipped_beside job target file_stage.Begin h = tt
skipped_beside job target (file_stage.Fill part facts done) h = h
skipped_beside job target (file_stage.Clean part follows) h = h
skipped_beside job target (file_stage.Left part) h = h
skipped_beside job target file_stage.Decided h = tt

anew_beside : (job : ℕ) (target : Route) (stage : FileStage) → IsBeside job target (part_at stage) → IsBeside job target (part_at (file.taken_anew stage))
anew_beside job target file_stage.Begin h = tt
anew_beside job target (file_stage.Fill part facts done) h = h
anew_beside job target (file_stage.Clean part follows) h = h
anew_beside job target (file_stage.Left part) h = h
anew_beside job target file_stage.Decided h = tt

rest_part : (job : ℕ) (cause : Cause) (old new : Seen) (did : Did) → SkipsRest cause old did new → HasPart job old → HasPart job new
rest_part job cause old new did (inl s) h = subst (HasPart job) (sym s.1) record { by = h.by; beside = h.beside }
rest_part job cause old new did (inr s) h = subst (HasPart job) (sym s.1) h

name_part : (job : ℕ) (name : List ℕ) (cause : Cause) (old new : Seen) (did : Did) → SkipsName name cause old did new → HasPart job old → HasPart job new
name_part job name cause old new did (inl s) h = subst (HasPart job) (sym s.1) record { by = h.by; beside = h.beside }
name_part job name cause old new did (inr (inl s)) h = rest_part job cause old new did s.1 h
name_part job name cause old new did (inr (inr s)) h = subst (HasPart job) (sym s.1) h

named_part : (job : ℕ) (names : List (List ℕ)) (cause : Cause) (old new : Seen) (did : Did) → SkipsNamed names cause old did new → HasPart job old → HasPart job new
named_part job [] cause old new did s h = subst (HasPart job) (sym s.2) record { by = h.by; beside = h.beside }
named_part job (name ∷ names) cause old new did s h = name_part job name cause old new did s h

file_skipped : (job : ℕ) (cause : Cause) (f : Copying) (old new : Seen) (did : Did) → SkipsFile cause f old did new → f.job ≡ job → IsBeside job f.target (part_at f.stage) → HasPart job old → HasPart job new
file_skipped job cause f old new did s by beside h =
    subst (HasPart job) (sym s.2) (settled_part job (progress s.0.stage) (File s.0) old (same s.1) h)
  where
    same : file_steps.Skips cause f did s.0 → ItemBeside job (File s.0)
    same (inl k) = subst (λ (x : Copying). ItemBeside job (File x)) (sym k.1) (by, skipped_beside job f.target f.stage beside)
    same (inr k) = subst (λ (x : Copying). ItemBeside job (File x)) (sym k.1) (by, beside)

link_skipped : (job : ℕ) (cause : Cause) (l : LinkCopying) (old new : Seen) (did : Did) → SkipsLink cause l old did new → IsPartFor job l.target l.part → HasPart job old → HasPart job new
link_skipped job cause l old new did s beside h =
    subst (HasPart job) (sym s.2) (settled_part job (link_progress s.0.stage) (Link s.0) old (same s.1) h)
  where
    same : link_steps.Skips cause l did s.0 → ItemBeside job (Link s.0)
    same (inl k) = subst (λ (x : LinkCopying). ItemBeside job (Link x)) (sym k.1) beside
    same (inr k) = subst (λ (x : LinkCopying). ItemBeside job (Link x)) (sym k.1) beside

skips_at : (job : ℕ) (item : ItemAtWork) (cause : Cause) (old new : Seen) (did : Did) → SkipsAt item cause old did new → ItemBeside job item → HasPart job old → HasPart job new
skips_at job Next cause old new did s b h = named_part job old.levels.inner.names.names cause old new did s h
skips_at job (File f) cause old new did s b h = file_skipped job cause f (idle old) new did s b.0 b.1 (idle_part job old h)
skips_at job (Link l) cause old new did s b h = link_skipped job cause l (idle old) new did s b (idle_part job old h)
skips_at job (Stays part) cause old new did s b h = absurd s

retries_at : (job : ℕ) (item : ItemAtWork) (c : Seen) → ItemBeside job item → HasPart job c → HasPart job (retried_at item c)
retries_at job Next c b h = h
retries_at job (File f) c b h = settled_part job (progress (file.taken_anew f.stage)) (File (record f { stage = file.taken_anew f.stage })) (idle c) (b.0, anew_beside job f.target f.stage b.1) (idle_part job c h)
retries_at job (Link l) c b h = settled_part job (link_progress (link.taken_anew l.stage)) (Link (record l { stage = link.taken_anew l.stage })) (idle c) b (idle_part job c h)
retries_at job (Stays part) c b h = h

pub call_law : CallLaw
call_law = record {
  step = λ free replies top job old new did calls before after f0 f1 s p h.
      let mid = all_leave job s.folders old s.mid s.leaves h in
      let at = leaves_all top s.folders old s.mid s.leaves p in
      works top job (IsPartPlace free s.mid) replies s.mid.item s.mid new did before after s.works at.item mid.beside at mid;
  last_step = λ top job ending old new last before after f0 f1 w p h. winds top job old.item ending old new last before after f0 f1 w p.item h.beside p h;
  skip = λ job cause old new did s h. skips_at job old.item cause old new did s h.beside h;
  retry = λ job old h. retries_at job old.item old h.beside h;
}
