-- What is calm stays so with a step at a folder itself, but for a folder that is given its mode.
use Rattle.std.proofs.Common.{◌≡◌, ◌⊎◌, ℕ, true, false, List, [], ◌∷◌, refl, sym, subst, inl, inr, Option, Some, None}
use Rattle.std.proofs.lemmas.Bool.{false≢true}
use Rattle.mc_text.specs.Routes.{Route}
use Rattle.tree_trait.specs.Calls.{MakeFolder, SetMode, SyncFolder}
use Rattle.tree_trait.specs.Change.{Sets, CallLog, change_of, current, found_node, with_change}
use Rattle.tree_trait.specs.FileSystem.{find}
use Rattle.tree_trait.specs.Refusals.{refusal_of}
use Rattle.tree_trait.specs.Shape.{IsTree}
use Rattle.job_reports.specs.CallRuns.{AllDone, RunStops}
use Rattle.job_reports.specs.declared.report.Cause.{Cause}
use Rattle.job_reports.proofs.CallAnswers.{done_call}
use Rattle.job_reports.proofs.PermittedCalls.{making_passes, sync_finds}
use Rattle.copy_folders.specs.FolderCopying.{FolderCopying, closing, folder_mode}
use Rattle.copy_folders.specs.FolderSteps.{next_call}
use Rattle.copy_folders.specs.declared.stage.NamesState.{NamesState}
use Rattle.copy_folders.specs.declared.stage.NamesState.TheVariants.{Synced, Dirty}
use Rattle.copy_folders.specs.declared.stage.Stage.{Stage}
use Rattle.copy_folders.specs.declared.stage.Stage.TheVariants as at
use Rattle.tree_walk.specs.Places.{OpenFolder, without_next}
use Rattle.copy_folders.specs.declared.level.Level.{Level}
use Rattle.copy_folders.specs.Levels.{Levels, levels_closed, dirtied_levels, level, made_levels, passed_levels}
use Rattle.laws_sessions.proofs.Resting.{IsOfFiles}
use Rattle.laws_sessions.proofs.Calm.{IsCalmOr, IsSetAt, IsSetIn, was_set}
use Rattle.laws_sessions.proofs.CalmChanges.{calm_made, calm_quiet, calm_synced}
use Rattle.laws_sessions.proofs.CalmRuns.{calm_stop, only_part}
use Rattle.laws_sessions.proofs.ItemLinks.{no_row}
use Rattle.laws_sessions.proofs.QuietRuns.{row_done}

pub dirty_set : (stage : Stage) (names : NamesState) → was_set stage names ≡ true → was_set stage Dirty ≡ true
dirty_set (at.Close None) names is = refl
dirty_set (at.Close (Some mode)) names is = is
dirty_set (at.Make mode) names is = is
dirty_set (at.Fill owed) names is = is
dirty_set at.Done names is = is

closing_set : (stage : Stage) (names : NamesState) → was_set stage names ≡ true → was_set (closing stage) names ≡ true
closing_set (at.Close None) names is = is
closing_set (at.Close (Some mode)) names is = is
closing_set (at.Make mode) names is = is
closing_set (at.Fill owed) names is = absurd (false≢true is)
closing_set at.Done names is = is

module _ (p : Route) where
  abbrev pub SetIn : Levels → Type 0
  SetIn l = IsSetIn p l.inner l.around

  -- it is the innermost, or one of those around it, whatever the innermost is
  pub set_split : (inner : Level) (around : List Level) → IsSetIn p inner around → IsSetAt p inner ⊎ ((new : Level) → IsSetIn p new around)
  set_split inner [] h = inl h
  set_split inner (outer ∷ around) (inl h) = inl h
  set_split inner (outer ∷ around) (inr h) = inr (λ new. inr h)

  pub set_head : (inner : Level) (around : List Level) → IsSetAt p inner → IsSetIn p inner around
  set_head inner [] h = h
  set_head inner (outer ∷ around) h = inl h

  pub set_inner : (old new : Level) (around : List Level) → (IsSetAt p old → IsSetAt p new) → IsSetIn p old around → IsSetIn p new around
  set_inner old new around goes h = elim (set_split old around h) [ inl is ↦ set_head new around (goes is) | inr other ↦ other new ]

  set_dirty : (copy : FolderCopying) (names other : OpenFolder) → IsSetAt p (level names copy) → IsSetAt p (level other (record copy { names = Dirty }))
  set_dirty copy names other (same, is) = (same, dirty_set copy.stage copy.names is)

  pub set_dirtied : (changed : _) (l : Levels) → SetIn l → SetIn (dirtied_levels changed l)
  set_dirtied true l h = set_inner l.inner _ l.around (λ is. set_dirty l.inner.copy l.inner.names l.inner.names is) h
  set_dirtied false l h = set_inner l.inner _ l.around (λ is. is) h

  pub set_passed : (left : _) (l : Levels) → SetIn l → SetIn (passed_levels left l)
  set_passed left l h = set_inner l.inner _ l.around (λ is. is) h

  pub set_closed : (l : Levels) → SetIn l → SetIn (levels_closed l)
  set_closed l h = set_inner l.inner _ l.around (λ is. (is.0, closing_set l.inner.copy.stage l.inner.copy.names is.1)) h

  pub set_made : (stage : Stage) (names : OpenFolder) (copy : FolderCopying) (l : Levels) → SetIn l → SetIn (made_levels stage names copy l)
  set_made (at.Fill owed) names copy l h = inr (set_inner l.inner _ l.around (λ is. set_dirty l.inner.copy l.inner.names (without_next l.inner.names) is) h)
  set_made (at.Make mode) names copy l h = h
  set_made (at.Close owed) names copy l h = h
  set_made at.Done names copy l h = h

  module _ (log now : CallLog) (tree : IsTree (current log)) where
    -- the next call of a folder is refused
    pub next_stops : (E : Type 0) (target : Route) (stage : Stage) (names : NamesState) (why : Cause) (path : Option Route) → RunStops (next_call target stage names) why path log (Some now) → IsCalmOr p log E → IsCalmOr p now E
    next_stops E target (at.Make mode) names why path run calm = calm_stop p E log now (MakeFolder target (folder_mode mode)) why path (λ left. refl) run calm
    next_stops E target (at.Close (Some mode)) names why path run calm = calm_stop p E log now (SetMode target mode) why path (λ left. refl) run calm
    next_stops E target (at.Close None) Dirty why path run calm = calm_stop p E log now (SyncFolder target) why path (λ left. refl) run calm
    next_stops E target (at.Close None) Synced why path run calm = absurd (no_row log now why path run)
    next_stops E target (at.Fill owed) names why path run calm = absurd (no_row log now why path run)
    next_stops E target at.Done names why path run calm = absurd (no_row log now why path run)

    -- a folder is synced
    pub folder_synced : (E F : Type 0) (target : Route) → AllDone log (SyncFolder target ∷ []) (Some now) → (E → (p ≡ target) ⊎ F) → IsCalmOr p log E → IsCalmOr p now F
    folder_synced E F target rows f calm =
        let d = done_call log (SyncFolder target) now (row_done log now (SyncFolder target) rows) in
        subst (λ (x : CallLog). IsCalmOr p x F) (sym d.is) (calm_synced p log target (found_node (current log) target) E F (sync_finds (current log) target d.permits) f calm)

    -- a folder that stands is given its mode
    pub folder_set : (E F : Type 0) (target : Route) (mode i : ℕ) → find (current log) target ≡ Some i → AllDone log (SetMode target mode ∷ []) (Some now) → (p ≡ target → F) → (E → F) → IsCalmOr p log E → IsCalmOr p now F
    folder_set E F target mode i leads rows here f calm =
        let d = done_call log (SetMode target mode) now (row_done log now (SetMode target mode) rows) in
        subst (λ (x : CallLog). IsCalmOr p x F) (sym d.is)
        (calm_quiet p log (Sets (found_node (current log) target) mode) E F calm (λ n g m. refl) (λ j at is. here (only_part log tree p target i j leads at is)) f)

    -- a folder is made
    pub folder_made : (files : IsOfFiles log) (E F : Type 0) (k : List ℕ) (up target : Route) (mode : ℕ) → target ≡ k ∷ up → AllDone log (MakeFolder target mode ∷ []) (Some now) → (E → F) → IsCalmOr p log E → IsCalmOr p now F
    folder_made files E F k up target mode is rows f calm =
        let d = done_call log (MakeFolder target mode) now (row_done log now (MakeFolder target mode) rows) in
        let permits : refusal_of (current log) (MakeFolder (k ∷ up) mode) ≡ None = subst (λ r. refusal_of (current log) (MakeFolder r mode) ≡ None) is d.permits in
        let then = subst (λ r. now ≡ with_change log (change_of (current log) (MakeFolder r mode) d.time)) is d.is in
        subst (λ (x : CallLog). IsCalmOr p x F) (sym then) (calm_made log tree k up _ (making_passes (current log) k up mode permits) p files E F f calm)
