-- What is calm stays so with a step of a file's copy, but for its part.
use Rattle.std.proofs.Common.{◌≡◌, ◌⊎◌, ℕ, List, [], refl, sym, ◌∙◌, ap, subst, inl, inr, Option, Some, None}
use Rattle.mc_text.specs.Routes.{Route}
use Rattle.mc_text.specs.declared.kind.Kind.TheVariants as kind
use Rattle.tree_trait.specs.declared.file_system.Node.{Node}
use Rattle.tree_trait.specs.Calls.{RemoveFile, SyncFolder}
use Rattle.tree_trait.specs.Change.{CallLog, current, found_node}
use Rattle.tree_trait.specs.FileSystem.{node}
use Rattle.job_reports.specs.Paths.{folder_of}
use Rattle.job_reports.specs.declared.report.Cause.{Cause}
use Rattle.job_reports.specs.declared.report.Did.{Did}
use Rattle.job_reports.specs.declared.report.Did.TheVariants.{Began, Chunk, Placed, Removed, Made, Set, Kept, Skipped, Cleaned, Barrier, Asked, Merges, Moved, Troubled, Ended}
use Rattle.job_reports.specs.declared.report.Ending.TheVariants.{Finished, Aborted, Killed, NoMemory}
use Rattle.job_reports.proofs.CallAnswers.{done_call, some_log}
use Rattle.job_reports.proofs.PermittedCalls.{IsMaking, making_passes}
use Rattle.copy_file.specs.CopyCalls.{making, part_mode, writing}
use Rattle.copy_file.specs.Copying.{Copying, Tells, part_at, places_of}
use Rattle.copy_file.specs.PartNames.{part_name}
use Rattle.copy_file.specs.declared.stage.Stage.{Stage}
use Rattle.copy_file.specs.declared.stage.Stage.TheVariants as at
use Rattle.copy_folders.specs.Levels.{Levels}
use Rattle.laws_sessions.proofs.FileMoves.{MoveCalls, MoveStops}
use Rattle.laws_sessions.proofs.Resting.{IsOfFiles}
use Rattle.laws_sessions.proofs.Calm.{IsCalmOr}
use Rattle.laws_sessions.proofs.CalmChanges.{calm_made, calm_map}
use Rattle.laws_sessions.proofs.CalmRuns.{Ready, calm_removing, calm_stop, calm_sync, placed, placing_stops, write_stops, written}
use Rattle.laws_sessions.proofs.QuietRuns.{row_done}
use Rattle.laws_sessions.proofs.TreeFiles.{FileKnown}

-- the path is that of the part, or something else holds
abbrev pub AtPart : Stage → Route → Type 0 → Type 0
AtPart stage p S = (part_at stage ≡ Some p) ⊎ S

some_path : (p q : Route) → (let o : Option Route = Some p in o) ≡ Some q → q ≡ p
some_path p q h = cc

-- what has this part
of_part : (stage : Stage) (part p : Route) (S : Type 0) → part_at stage ≡ Some part → AtPart stage p S → (p ≡ part) ⊎ S
of_part stage part p S is (inl at) = inl (some_path part p (sym is ∙ at))
of_part stage part p S is (inr other) = inr other

to_part : (stage : Stage) (part p : Route) (S : Type 0) → part_at stage ≡ Some part → (p ≡ part) ⊎ S → AtPart stage p S
to_part stage part p S is (inl same) = inl (is ∙ ap (λ q. Some q) (sym same))
to_part stage part p S is (inr other) = inr other

module _ (unclaimed : Route → Type 0) (log now : CallLog) (files : IsOfFiles log) (name : List ℕ) (l : Levels) (f : Copying) (known : FileKnown unclaimed log name l f) (p : Route) (S : Type 0)
    (calm : IsCalmOr p log (AtPart f.stage p S)) where
  same : now ≡ log → IsCalmOr p now (AtPart f.stage p S)
  same is = subst (λ (x : CallLog). IsCalmOr p x (AtPart f.stage p S)) (sym is) calm

  ready : (part : Route) → part_at f.stage ≡ Some part → Ready name l part f.target p S log
  ready part is = record { tree = known.tree; item = known.item part is; calm = calm_map p log (AtPart f.stage p S) ((p ≡ part) ⊎ S) (of_part f.stage part p S is) calm }

  with_part : (part : Route) → part_at f.stage ≡ Some part → IsCalmOr p now ((p ≡ part) ⊎ S) → IsCalmOr p now (AtPart f.stage p S)
  with_part part is so = calm_map p now ((p ≡ part) ⊎ S) (AtPart f.stage p S) (to_part f.stage part p S is) so

  -- a trouble, by where the copy stands
  stops : (stage : Stage) → f.stage ≡ stage → (why : Cause) (path : Option Route) → MoveStops unclaimed (places_of f) stage why path log (Some now) → IsCalmOr p now (AtPart f.stage p S)
  stops at.Begin is why path (inl none) = same (some_log now log none)
  stops at.Begin is why path (inr (k, free, run)) = calm_stop p (AtPart f.stage p S) log now (making (current log) (places_of f) k) why path (λ left. refl) run calm
  stops (at.Fill part said done) is why path (inl (less, inl read)) = same (some_log now log read.1)
  stops (at.Fill part said done) is why path (inl (less, inr write)) = with_part part (ap part_at is) (write_stops name l part f.target p S log now _ _ why path (ready part (ap part_at is)) write)
  stops (at.Fill part said done) is why path (inr (full, run)) = with_part part (ap part_at is) (placing_stops name l part f.target p S now log said.mode why path run (ready part (ap part_at is)))
  stops (at.Clean part follows) is why path run = calm_stop p (AtPart f.stage p S) log now (RemoveFile part) why path (λ left. refl) run calm
  stops (at.Left part) is why path none = absurd none
  stops at.Decided is why path run = calm_stop p (AtPart f.stage p S) log now (SyncFolder (folder_of f.target)) why path (λ left. refl) run calm

  as_stage : (moved : Copying) (stage : Stage) → moved.stage ≡ stage → IsCalmOr p now (AtPart stage p S) → IsCalmOr p now (AtPart moved.stage p S)
  as_stage moved stage is so = subst (λ s. IsCalmOr p now (AtPart s p S)) (sym is) so

  none_left : (stage : Stage) → IsCalmOr p now S → IsCalmOr p now (AtPart stage p S)
  none_left stage so = calm_map p now S (AtPart stage p S) (λ s. inr s) so

  pub file_calm : (moved : Copying) (did : Did) → Tells f did moved → MoveCalls unclaimed f did moved log (Some now) → IsCalmOr p now (AtPart moved.stage p S)
  file_calm moved (Began part) (stage, (facts, new_is)) (looked, began_of, (k, part_is, first, rows)) =
      let d = done_call log (making (current log) (places_of f) k) now (row_done log now (making (current log) (places_of f) k) rows) in
      let mode : ℕ = part_mode (node (current log) (found_node (current log) f.source)).mode in
      let made : Node = record { kind = kind.File; bytes = []; mode = mode; mtime = d.time; unnamed = 0 } in
      let passes : IsMaking (current log) (part_name f.job k) (folder_of f.target) = making_passes (current log) (part_name f.job k) (folder_of f.target) mode d.permits in
      none_left moved.stage (subst (λ (x : CallLog). IsCalmOr p x S) (sym d.is)
      (calm_made log known.tree (part_name f.job k) (folder_of f.target) made passes p files (AtPart f.stage p S) S (no_part stage) calm))
    where
      no_part : f.stage ≡ at.Begin → AtPart f.stage p S → S
      no_part begin (inl has) = absurd (let e : (let o : Option Route = None in o) ≡ Some p = sym (ap part_at begin) ∙ has in let x : ⊥ = cc in x)
      no_part begin (inr s) = s
  file_calm moved (Chunk count) (part, facts, done, stage, least, most, fits, new_is) (part_now, facts_now, done_now, stage_now, count_is, rows) =
      let call = writing (current log) (places_of f) part_now facts_now done_now in
      let d = done_call log call now (row_done log now call rows) in
      let stays : part_at moved.stage ≡ part_at f.stage = ap (λ (c : Copying). part_at c.stage) new_is ∙ sym (ap part_at stage) in
      calm_map p now ((p ≡ part_now) ⊎ S) (AtPart moved.stage p S) (to_part moved.stage part_now p S (stays ∙ ap part_at stage_now))
      (subst (λ (x : CallLog). IsCalmOr p x ((p ≡ part_now) ⊎ S)) (sym d.is) (written name l part_now f.target p S log _ _ (ready part_now (ap part_at stage_now))))
  file_calm moved (Placed path) (part, facts, stage, path_is, new_is) (part_now, facts_now, stage_now, rows) =
      none_left moved.stage (placed name l part_now f.target p S now log facts_now.mode (ready part_now (ap part_at stage_now)) rows)
  file_calm moved (Cleaned part) (follows, stage, new_is) rows =
      none_left moved.stage (calm_removing p log now part (AtPart f.stage p S) S known.tree (of_part f.stage part p S (ap part_at stage)) calm (row_done log now (RemoveFile part) rows))
  file_calm moved Barrier (stage, dirty, new_is) rows =
      let d = done_call log (SyncFolder (folder_of f.target)) now (row_done log now (SyncFolder (folder_of f.target)) rows) in
      as_stage moved f.stage (ap (λ (c : Copying). c.stage) new_is) (subst (λ (x : CallLog). IsCalmOr p x (AtPart f.stage p S)) (sym d.is) (calm_sync p (AtPart f.stage p S) log (found_node (current log) (folder_of f.target)) calm))
  file_calm moved (Troubled trouble) (barrier, new_is) calls = as_stage moved f.stage (ap (λ (c : Copying). c.stage) new_is) (stops f.stage refl trouble.cause trouble.path calls)
  file_calm moved (Ended Finished part) (stage, clean, none, new_is) calls = as_stage moved f.stage (ap (λ (c : Copying). c.stage) new_is) (same (some_log now log calls))
  file_calm moved did tells calls = absurd tells
