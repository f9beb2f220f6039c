-- What is calm stays so with a step of a link's copy, and its part is calm.
use Rattle.std.specs.Prelude.{pos}
use Rattle.std.proofs.Common.{◌≡◌, ◌⊎◌, ℕ, true, List, [], ◌∷◌, refl, sym, ◌∙◌, ap, subst, inl, inr, Option, Some, None}
use Rattle.std.specs.Prelude.{option_and_then}
use Rattle.std.proofs.lemmas.Bool.{false≢true}
use Rattle.mc_text.specs.Routes.{Route}
use Rattle.mc_text.specs.declared.kind.Kind.TheVariants as kind
use Rattle.tree_trait.specs.declared.file_system.Node.{Node}
use Rattle.tree_trait.specs.Calls.{MakeLink, RemoveFile, Rename, SyncFolder}
use Rattle.tree_trait.specs.Change.{Makes, CallLog, change_of, current, found_node, with_change}
use Rattle.tree_trait.specs.CrashImages.{is_clean}
use Rattle.tree_trait.specs.FileSystem.{find, lookup}
use Rattle.tree_trait.specs.Refusals.{refusal_of}
use Rattle.job_reports.specs.CallRuns.{AllDone}
use Rattle.job_reports.specs.Paths.{folder_of}
use Rattle.job_reports.specs.declared.report.Cause.{Cause}
use Rattle.job_reports.specs.declared.report.Did.{Did}
use Rattle.job_reports.specs.declared.report.Did.TheVariants.{Began, Chunk, Placed, Removed, Made, Set, Kept, Skipped, Cleaned, Barrier, Asked, Merges, Moved, Troubled, Ended}
use Rattle.job_reports.proofs.CallAnswers.{done_call, some_log}
use Rattle.job_reports.proofs.PermittedCalls.{IsMaking, making_passes}
use Rattle.copy_link.specs.LinkCopying.{LinkCopying, Tells, after_clean, has_part}
use Rattle.copy_link.specs.LinkSteps.{LinkCalls, LinkStops, link_text, next_call}
use Rattle.copy_link.specs.declared.stage.Next.{Next as Follows}
use Rattle.copy_link.specs.declared.stage.Next.TheVariants as follows
use Rattle.copy_link.specs.declared.stage.Stage.{Stage}
use Rattle.copy_link.specs.declared.stage.Stage.TheVariants as at
use Rattle.copy_folders.specs.Levels.{Levels}
use Rattle.laws_sessions.proofs.Resting.{IsOfFiles}
use Rattle.laws_sessions.proofs.Calm.{IsCalmOr}
use Rattle.laws_sessions.proofs.CalmChanges.{calm_made, calm_map, none_some}
use Rattle.laws_sessions.proofs.CalmRuns.{calm_removing, calm_stop, calm_sync, renamed}
use Rattle.laws_sessions.proofs.ItemLinks.{no_row}
use Rattle.laws_sessions.proofs.QuietRuns.{row_done}
use Rattle.laws_sessions.proofs.TreeLinks.{LinkKnown}

-- where nothing stands all is calm
pub calm_free : (p : Route) (log : CallLog) (E : Type 0) → find (current log) p ≡ None → IsCalmOr p log E
calm_free p log E free i at = none_some i _ free at

no_part : (next : Follows) → has_part (after_clean next) ≡ true → ⊥
no_part follows.Again has = false≢true has
no_part follows.Decided has = false≢true has

module _ (log now : CallLog) (files : IsOfFiles log) (name : List ℕ) (l : Levels) (c : LinkCopying) (known : LinkKnown log name l c) where
  rows_at : (stage : Stage) → c.stage ≡ stage → AllDone log (next_call (current log) c c.stage) (Some now) → AllDone log (next_call (current log) c stage) (Some now)
  rows_at stage is rows = subst (λ x. AllDone log (next_call (current log) c x) (Some now)) is rows

  -- of any path
  module _ (p : Route) (S : Type 0) where
    same : now ≡ log → IsCalmOr p log S → IsCalmOr p now S
    same is calm = subst (λ (x : CallLog). IsCalmOr p x S) (sym is) calm

    -- a trouble, by where the copy stands
    stops : (stage : Stage) (why : Cause) (path : Option Route) → LinkStops c stage why path log (Some now) → IsCalmOr p log S → IsCalmOr p now S
    stops at.Make why path (inl read) calm = same (some_log now log read.1) calm
    stops at.Make why path (inr run) calm = calm_stop p S log now (MakeLink c.part (link_text (current log) c.source)) why path (λ left. refl) run.1 calm
    stops at.Place why path run calm = calm_stop p S log now (Rename c.part c.target) why path (λ left. refl) run calm
    stops (at.Clean next) why path run calm = calm_stop p S log now (RemoveFile c.part) why path (λ left. refl) run calm
    stops at.Left why path run calm = absurd (no_row log now why path run)
    stops at.Decided why path run calm = calm_stop p S log now (SyncFolder (folder_of c.target)) why path (λ left. refl) run calm
    stops at.Again why path run calm = absurd (no_row log now why path run)

    -- the part is made, whole
    begun : (k : List ℕ) (up : Route) → c.part ≡ k ∷ up → AllDone log (MakeLink c.part (link_text (current log) c.source) ∷ []) (Some now) → (find (current log) c.part ≡ None → IsCalmOr p log S) → IsCalmOr p now S
    begun k up is rows calm =
        let text = link_text (current log) c.source in
        let d = done_call log (MakeLink c.part text) now (row_done log now (MakeLink c.part text) rows) in
        let permits : refusal_of (current log) (MakeLink (k ∷ up) text) ≡ None = subst (λ r. refusal_of (current log) (MakeLink r text) ≡ None) is d.permits in
        let made : Node = record { kind = kind.Link; bytes = text; mode = 0; mtime = pos 0; unnamed = 0 } in
        let then : now ≡ with_change log (Makes (found_node (current log) up) k made) = subst (λ r. now ≡ with_change log (change_of (current log) (MakeLink r text) d.time)) is d.is in
        let making : IsMaking (current log) k up = making_passes (current log) k up 0 permits in
        let free : find (current log) c.part ≡ None = ap (find (current log)) is ∙ (ap (option_and_then (λ f. lookup (let s = current log in s.names) f k)) making.folder ∙ making.none) in
        subst (λ (x : CallLog). IsCalmOr p x S) (sym then) (calm_made log known.tree k up made making p files S S (λ s. s) (calm free))

    removed : AllDone log (RemoveFile c.part ∷ []) (Some now) → IsCalmOr p log S → IsCalmOr p now S
    removed rows calm = calm_removing p log now c.part S S known.tree (λ s. inr s) calm (row_done log now (RemoveFile c.part) rows)

    placed : (item : has_part c.stage ≡ true) → ((i : ℕ) → find (current log) c.part ≡ Some i → is_clean i log.changes ≡ true) → AllDone log (Rename c.part c.target ∷ []) (Some now) → IsCalmOr p log S → IsCalmOr p now S
    placed item clean rows calm =
        renamed name l c.part c.target p S now log S (λ e. e) clean (record { tree = known.tree; item = known.item item; calm = calm_map p log S ((p ≡ c.part) ⊎ S) (λ s. inr s) calm })
        (row_done log now (Rename c.part c.target) rows)

    synced : AllDone log (SyncFolder (folder_of c.target) ∷ []) (Some now) → IsCalmOr p log S → IsCalmOr p now S
    synced rows calm =
        let d = done_call log (SyncFolder (folder_of c.target)) now (row_done log now (SyncFolder (folder_of c.target)) rows) in
        subst (λ (x : CallLog). IsCalmOr p x S) (sym d.is) (calm_sync p S log (found_node (current log) (folder_of c.target)) calm)

  -- its own part is calm
  abbrev pub PartIs : CallLog → LinkCopying → Type 0
  PartIs x m = has_part m.stage ≡ true → IsCalmOr m.part x ⊥

  clean_part : PartIs log c → has_part c.stage ≡ true → (i : ℕ) → find (current log) c.part ≡ Some i → is_clean i log.changes ≡ true
  clean_part part has i at = elim (part has i at) [ inl clean ↦ clean | inr never ↦ absurd never ]

  pub link_calm : (p : Route) (S : Type 0) (moved : LinkCopying) (did : Did) → Tells c did moved → LinkCalls c did log (Some now) → PartIs log c → IsCalmOr p log S → IsCalmOr p now S
  link_calm p S moved (Began part) (stage, part_is, new_is) (read, rows) known_part calm = let b = known.begins stage in begun p S b.0 l.inner.copy.target b.1 (rows_at at.Make stage rows) (λ free. calm)
  link_calm p S moved (Placed path) (stage, path_is, new_is) (read, rows) known_part calm = placed p S (ap has_part stage) (clean_part known_part (ap has_part stage)) (rows_at at.Place stage rows) calm
  link_calm p S moved (Cleaned part) (next, stage, part_is, new_is) (read, rows) known_part calm = removed p S (rows_at (at.Clean next) stage rows) calm
  link_calm p S moved Barrier (stage, dirty, new_is) (read, rows) known_part calm = synced p S (rows_at at.Decided stage rows) calm
  link_calm p S moved (Troubled trouble) tells calls known_part calm = stops p S c.stage trouble.cause trouble.path calls calm
  link_calm p S moved did tells calls known_part calm = absurd tells

  as_moved : (moved : LinkCopying) (stage : Stage) → moved.part ≡ c.part → moved.stage ≡ stage → has_part moved.stage ≡ true → (has_part stage ≡ true → IsCalmOr c.part now ⊥) → IsCalmOr moved.part now ⊥
  as_moved moved stage part_is stage_is has calm = subst (λ q. IsCalmOr q now ⊥) (sym part_is) (calm (sym (ap has_part stage_is) ∙ has))

  pub part_calm : (moved : LinkCopying) (did : Did) → Tells c did moved → LinkCalls c did log (Some now) → PartIs log c → PartIs now moved
  part_calm moved (Began part) (stage, part_is, new_is) (read, rows) known_part has =
      let b = known.begins stage in
      as_moved moved at.Place (ap (λ (m : LinkCopying). m.part) new_is) (ap (λ (m : LinkCopying). m.stage) new_is) has
      (λ it. begun c.part ⊥ b.0 l.inner.copy.target b.1 (rows_at at.Make stage rows) (calm_free c.part log ⊥))
  part_calm moved (Placed path) (stage, path_is, new_is) calls known_part has = absurd (false≢true (sym (ap (λ (m : LinkCopying). has_part m.stage) new_is) ∙ has))
  part_calm moved (Cleaned part) (next, stage, part_is, new_is) calls known_part has = absurd (no_part next (sym (ap (λ (m : LinkCopying). has_part m.stage) new_is) ∙ has))
  part_calm moved Barrier (stage, dirty, new_is) calls known_part has = absurd (false≢true (sym (ap (λ (m : LinkCopying). has_part m.stage) new_is ∙ ap has_part stage) ∙ has))
  part_calm moved (Troubled trouble) (barrier, new_is) calls known_part has =
      as_moved moved c.stage (ap (λ (m : LinkCopying). m.part) new_is) (ap (λ (m : LinkCopying). m.stage) new_is) has (λ it. stops c.part ⊥ c.stage trouble.cause trouble.path calls (known_part it))
  part_calm moved did tells calls known_part has = absurd tells
