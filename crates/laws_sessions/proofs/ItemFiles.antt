-- The part of a file at work, after a step of the file's copy.
use Rattle.std.proofs.Common.{◌≡◌, ◌⊎◌, ℕ, List, [], ◌∷◌, refl, sym, ◌∙◌, ap, subst, inl, inr, Option, Some, None}
use Rattle.mc_text.specs.Routes.{Route}
use Rattle.mc_text.specs.declared.kind.Kind.TheVariants as kind
use Rattle.tree_trait.specs.declared.file_system.Node.{Node}
use Rattle.tree_trait.specs.Calls.{RemoveFile}
use Rattle.tree_trait.specs.Change.{Change, Makes, CallLog, current, found_node, with_change}
use Rattle.tree_trait.specs.CrashImages.{says}
use Rattle.tree_trait.specs.FileSystem.{node, find}
use Rattle.tree_trait.specs.Shape.{IsTree}
use Rattle.job_reports.specs.Paths.{folder_of}
use Rattle.job_reports.specs.declared.report.Cause.{Cause}
use Rattle.job_reports.specs.declared.report.Did.{Did}
use Rattle.job_reports.specs.declared.report.Did.TheVariants.{Began, Chunk, Placed, Removed, Made, Set, Kept, Skipped, Cleaned, Barrier, Asked, Merges, Moved, Troubled, Ended}
use Rattle.job_reports.specs.declared.report.Ending.TheVariants.{Finished, Aborted, Killed, NoMemory}
use Rattle.job_reports.proofs.CallAnswers.{done_call, some_log}
use Rattle.job_reports.proofs.PermittedCalls.{IsMaking, making_passes}
use Rattle.copy_file.specs.CopyCalls.{making, part_mode, writing}
use Rattle.copy_file.specs.Copying.{Copying, Tells, after_clean, part_at, places_of}
use Rattle.copy_file.specs.PartNames.{IsShort, part_name}
use Rattle.copy_file.specs.declared.stage.Next.{Next as Follows}
use Rattle.copy_file.specs.declared.stage.Next.TheVariants as follows
use Rattle.copy_file.specs.declared.stage.Stage.{Stage}
use Rattle.copy_file.specs.declared.stage.Stage.TheVariants as at
use Rattle.copy_folders.specs.Levels.{Levels}
use Rattle.copy_tree.specs.Parts.{IsShortPart}
use Rattle.copy_tree.specs.Progress.{progress}
use Rattle.copy_tree.specs.declared.progress.Progress.TheVariants.{UnderWay, Decided}
use Rattle.laws_sessions.proofs.FileMoves.{MoveCalls, MoveStops}
use Rattle.laws_sessions.proofs.AtWork.{HasItem}
use Rattle.laws_sessions.proofs.ItemParts.{IsMetNext, has_made}
use Rattle.laws_sessions.proofs.QuietRuns.{kept_stop, part_stops, row_done}
use Rattle.laws_sessions.proofs.TreeFiles.{FileKnown}
use Rattle.laws_sessions.proofs.TreeRuns.{has_quiet}

not_at_work : (stage : Stage) → progress stage ≡ UnderWay → stage ≡ at.Decided → ⊥
not_at_work stage going is = (let e : Decided ≡ UnderWay = sym (ap progress is) ∙ going in let f : ⊥ = cc in f)

not_cleaned : (next : Follows) → progress (after_clean next) ≡ UnderWay → ⊥
not_cleaned follows.Begin going = (let f : ⊥ = cc in f)
not_cleaned follows.Decided going = (let f : ⊥ = cc in f)

module _ (unclaimed : Route → Type 0) (log now : CallLog) (name : List ℕ) (l : Levels) (f : Copying) (known : FileKnown unclaimed log name l f) where
  abbrev Has : CallLog → Route → Type 0
  Has x part = HasItem x name l part f.target

  quiet_has : (part : Route) (x : CallLog) (c : Change) → IsTree (current x) → ((n g : ℕ) (m : List ℕ) → says c n g m ≡ None) → Has x part → Has (with_change x c) part
  quiet_has part x c tree none h = has_quiet name l part f.target x c tree none h

  -- a trouble of a file whose part stands
  stops : (stage : Stage) → f.stage ≡ stage → (why : Cause) (path : Option Route) → MoveStops unclaimed (places_of f) stage why path log (Some now) → progress stage ≡ UnderWay → (part : Route) → part_at stage ≡ Some part → Has now part
  stops at.Begin is why path calls going part stands = absurd (let e : ⊥ = cc in e)
  stops (at.Fill p said done) is why path (inl (less, inl read)) going part stands = subst (λ (x : CallLog). Has x part) (sym (some_log now log read.1)) (known.item part (ap part_at is ∙ stands))
  stops (at.Fill p said done) is why path (inl (less, inr write)) going part stands =
      kept_stop (λ (x : CallLog). Has x part) (quiet_has part) log now known.tree (writing (current log) (places_of f) p said done) why path write (known.item part (ap part_at is ∙ stands))
  stops (at.Fill p said done) is why path (inr (full, run)) going part stands =
      part_stops (λ (x : CallLog). Has x part) (quiet_has part) log now known.tree said.mode p f.target why path run (known.item part (ap part_at is ∙ stands))
  stops (at.Clean p next) is why path run going part stands = kept_stop (λ (x : CallLog). Has x part) (quiet_has part) log now known.tree (RemoveFile p) why path run (known.item part (ap part_at is ∙ stands))
  stops (at.Left p) is why path none going part stands = absurd none
  stops at.Decided is why path run going part stands = absurd (let e : ⊥ = cc in e)

  pub file_item : (moved : Copying) (did : Did) → (f.stage ≡ at.Begin → IsMetNext name l f.target × ((find (current log) f.target ≡ None) ⊎ (l.around ≡ []))) → IsShortPart (part_at moved.stage) → Tells f did moved → MoveCalls unclaimed f did moved log (Some now) → progress moved.stage ≡ UnderWay
      → (part : Route) → part_at moved.stage ≡ Some part → Has now part
  file_item moved (Began part) met short (stage, (facts, new_is)) (looked, began_of, (k, part_is, first, rows)) going p stands =
      let same : Some part ≡ Some p = sym (ap (λ (c : Copying). part_at c.stage) new_is) ∙ stands in
      let p_is : p ≡ part = (let e : part ≡ p = cc in sym e) in
      let begun_short : IsShort (part_name f.job k ∷ folder_of f.target) = subst IsShort part_is (subst (λ (c : Copying). IsShortPart (part_at c.stage)) new_is short) in
      let d = done_call log (making (current log) (places_of f) k) now (row_done log now (making (current log) (places_of f) k) rows) in
      let mode : ℕ = part_mode (node (current log) (found_node (current log) f.source)).mode in
      let made : Node = record { kind = kind.File; bytes = []; mode = mode; mtime = d.time; unnamed = 0 } in
      let passes : IsMaking (current log) (part_name f.job k) (folder_of f.target) = making_passes (current log) (part_name f.job k) (folder_of f.target) mode d.permits in
      let open_to = first.free in
      subst (Has now) (sym (p_is ∙ part_is)) (subst (λ r. Has now (part_name f.job k ∷ r)) (sym known.within)
      (has_made name l log now (part_name f.job k) made f.target known.tree (subst (λ r. IsMaking (current log) (part_name f.job k) r) known.within passes)
      (subst (λ r. now ≡ with_change log (Makes (found_node (current log) r) (part_name f.job k) made)) known.within d.is) refl (known.begins stage k first begun_short) (met stage).0
      (λ same. open_to.apart (ap (λ r. part_name f.job k ∷ r) known.within ∙ same)) looked.bare (met stage).1))
  file_item moved (Chunk count) met short (part, facts, done, stage, least, most, fits, new_is) (part_now, facts_now, done_now, stage_now, count_is, rows) going p stands =
      let call = writing (current log) (places_of f) part_now facts_now done_now in
      let d = done_call log call now (row_done log now call rows) in
      subst (λ (x : CallLog). Has x p) (sym d.is) (quiet_has p log _ known.tree (λ n g m. refl) (known.item p (ap part_at stage ∙ (sym (ap (λ (c : Copying). part_at c.stage) new_is) ∙ stands))))
  file_item moved (Placed path) met short (part, facts, stage, path_is, new_is) calls going p stands = absurd (not_at_work moved.stage going (ap (λ (c : Copying). c.stage) new_is))
  file_item moved (Cleaned part) met short (next, stage, new_is) calls going p stands = absurd (not_cleaned next (sym (ap (λ (c : Copying). progress c.stage) new_is) ∙ going))
  file_item moved Barrier met short (stage, dirty, new_is) calls going p stands = absurd (not_at_work moved.stage going (ap (λ (c : Copying). c.stage) new_is ∙ stage))
  file_item moved (Troubled trouble) met short (barrier, new_is) calls going p stands =
      stops f.stage refl trouble.cause trouble.path calls (sym (ap (λ (c : Copying). progress c.stage) new_is) ∙ going) p (sym (ap (λ (c : Copying). part_at c.stage) new_is) ∙ stands)
  file_item moved (Ended Finished part) met short (stage, clean, none, new_is) calls going p stands = absurd (not_at_work moved.stage going (ap (λ (c : Copying). c.stage) new_is ∙ stage))
  file_item moved did met short tells calls going p stands = absurd tells
