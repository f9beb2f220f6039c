-- Which names wait after a step of the copy of a file or a link.
use Rattle.std.specs.Prelude.{pos}
use Rattle.std.proofs.Common.{◌≡◌, ℕ, true, false, List, [], ◌∷◌, refl, sym, ◌∙◌, ap, subst, inl, inr, Option, Some, None}
use Rattle.mc_text.specs.Routes.{Route}
use Rattle.mc_text.specs.declared.kind.Kind.TheVariants as kind
use Rattle.tree_trait.specs.declared.file_system.Node.{Node}
use Rattle.tree_trait.specs.Calls.{MakeLink, RemoveFile, Rename, SyncFolder}
use Rattle.tree_trait.specs.Change.{Makes, CallLog, change_of, current, found_node, with_change}
use Rattle.tree_trait.specs.FileSystem.{node}
use Rattle.tree_trait.specs.Refusals.{refusal_of}
use Rattle.tree_trait.specs.Shape.{IsTree}
use Rattle.laws_sessions.specs.Doubt.{is_pending}
use Rattle.job_reports.specs.CallRuns.{AllDone}
use Rattle.job_reports.specs.Paths.{folder_of}
use Rattle.job_reports.specs.declared.report.Cause.{Cause}
use Rattle.job_reports.specs.declared.report.Did.{Did}
use Rattle.job_reports.specs.declared.report.Did.TheVariants.{Began, Chunk, Placed, Removed, Made, Set, Kept, Skipped, Cleaned, Barrier, Asked, Merges, Moved, Troubled, Ended}
use Rattle.job_reports.specs.declared.report.Ending.TheVariants.{Finished, Aborted, Killed, NoMemory}
use Rattle.job_reports.proofs.CallAnswers.{done_call, some_log}
use Rattle.job_reports.proofs.PermittedCalls.{IsMaking, making_passes}
use Rattle.copy_file.specs.CopyCalls.{making, part_mode, writing}
use Rattle.copy_file.specs.Copying as file
use Rattle.copy_file.specs.Copying.{Copying, part_at, places_of}
use Rattle.copy_file.specs.PartNames.{part_name}
use Rattle.copy_file.specs.declared.stage.Stage.{Stage as FileStage}
use Rattle.copy_file.specs.declared.stage.Stage.TheVariants as file_stage
use Rattle.copy_link.specs.LinkCopying as link
use Rattle.copy_link.specs.LinkCopying.{LinkCopying, has_part}
use Rattle.copy_link.specs.LinkSteps.{LinkCalls, LinkStops, link_text, next_call}
use Rattle.copy_link.specs.declared.stage.Stage.{Stage as LinkStage}
use Rattle.copy_link.specs.declared.stage.Stage.TheVariants as link_stage
use Rattle.copy_folders.specs.FolderCopying.{is_dirty}
use Rattle.copy_folders.specs.Levels.{Levels, dirtied_levels}
use Rattle.laws_sessions.proofs.FileMoves.{MoveCalls, MoveStops}
use Rattle.laws_sessions.proofs.Resting.{IsOfFiles}
use Rattle.laws_sessions.proofs.AtWork.{HasItem}
use Rattle.laws_sessions.proofs.CalmChanges.{some_same}
use Rattle.laws_sessions.proofs.ItemLinks.{no_row}
use Rattle.laws_sessions.proofs.NameChanges.{WaitsIf, waits_made, waits_map}
use Rattle.laws_sessions.proofs.NameMarks.{Marked, dirtied_here, marked_dirtied, worked_here}
use Rattle.laws_sessions.proofs.NameRuns.{Ready, placed, placing_stop, quiet_waits, removed, renamed, stop_waits}
use Rattle.laws_sessions.proofs.QuietRuns.{row_done}
use Rattle.laws_sessions.proofs.TreeFiles.{FileKnown}
use Rattle.laws_sessions.proofs.TreeLinks.{LinkKnown}

module _ (name : List ℕ) (up : Route) (log now : CallLog) (files : IsOfFiles log) (top : List ℕ) (l : Levels) (h : WaitsIf name up log (Marked up l)) where
  abbrev E : Type 0
  E = Marked up l

  abbrev Then : Type 0 → Type 0
  Then F = WaitsIf name up now F

  same : now ≡ log → Then E
  same is = subst (λ (x : CallLog). WaitsIf name up x E) (sym is) h

  -- a part at work, which holds no names
  ready : (part target : Route) (F : Type 0) (here : up ≡ l.inner.copy.target → F) (f : E → F) → IsTree (current log) → HasItem log top l part target → Ready name up top l part target E F here f log
  ready part target F here f tree item = record {
    tree = tree;
    item = item;
    waits = h;
    bare = λ i at. (let w = item.work in subst (λ j. is_pending j name log.changes ≡ false) (sym (some_same w.i i (sym w.leads ∙ at))) (files.bare w.i name w.file));
  }

  -- a file
  module _ (unclaimed : Route → Type 0) (f : Copying) (known : FileKnown unclaimed log top l f) (marked : (part : Route) → part_at f.stage ≡ Some part → is_dirty l.inner.copy.names ≡ true) where
    abbrev after : Copying → Type 0
    after moved = Marked up (dirtied_levels (file.is_dirty moved.folder) l)

    kept : (moved : Copying) → Then E → Then (after moved)
    kept moved so = waits_map name up now E (after moved) (marked_dirtied up (file.is_dirty moved.folder) l) so

    work_at : (moved : Copying) (part : Route) (is_at : part_at f.stage ≡ Some part) → Ready name up top l part f.target E (after moved) (worked_here up (file.is_dirty moved.folder) l (marked part is_at)) (marked_dirtied up (file.is_dirty moved.folder) l) log
    work_at moved part is_at = ready part f.target (after moved) (worked_here up (file.is_dirty moved.folder) l (marked part is_at)) (marked_dirtied up (file.is_dirty moved.folder) l) known.tree (known.item part is_at)

    stops : (stage : FileStage) → f.stage ≡ stage → (why : Cause) (path : Option Route) → MoveStops unclaimed (places_of f) stage why path log (Some now) → Then E
    stops file_stage.Begin is why path (inl none) = same (some_log now log none)
    stops file_stage.Begin is why path (inr (k, free, run)) = stop_waits name up E log now (making (current log) (places_of f) k) why path known.tree run h
    stops (file_stage.Fill part said done) is why path (inl (less, inl read)) = same (some_log now log read.1)
    stops (file_stage.Fill part said done) is why path (inl (less, inr write)) = stop_waits name up E log now (writing (current log) (places_of f) part said done) why path known.tree write h
    stops (file_stage.Fill part said done) is why path (inr (full, run)) = placing_stop name up E log now said.mode part f.target why path known.tree run h
    stops (file_stage.Clean part follows) is why path run = stop_waits name up E log now (RemoveFile part) why path known.tree run h
    stops (file_stage.Left part) is why path none = absurd none
    stops file_stage.Decided is why path run = stop_waits name up E log now (SyncFolder (folder_of f.target)) why path known.tree run h

    pub file_names : (moved : Copying) (did : Did) → file.Tells f did moved → MoveCalls unclaimed f did moved log (Some now) → Then (after moved)
    file_names moved (Began part) (stage, (facts, new_is)) (looked, began_of, (k, part_is, first, rows)) =
        let d = done_call log (making (current log) (places_of f) k) now (row_done log now (making (current log) (places_of f) k) rows) in
        let mode : ℕ = part_mode (node (current log) (found_node (current log) f.source)).mode in
        let made : Node = record { kind = kind.File; bytes = []; mode = mode; mtime = d.time; unnamed = 0 } in
        let passes : IsMaking (current log) (part_name f.job k) (folder_of f.target) = making_passes (current log) (part_name f.job k) (folder_of f.target) mode d.permits in
        let here : up ≡ folder_of f.target → after moved = λ is. subst (λ b. Marked up (dirtied_levels b l)) (sym (ap (λ (c : Copying). file.is_dirty c.folder) new_is)) (dirtied_here up l (is ∙ known.within)) in
        subst (λ (x : CallLog). WaitsIf name up x (after moved)) (sym d.is)
        (waits_made name up log known.tree files (part_name f.job k) (folder_of f.target) made passes E (after moved) here (marked_dirtied up (file.is_dirty moved.folder) l) h)
    file_names moved (Chunk count) (part, facts, done, stage, least, most, fits, new_is) (part_now, facts_now, done_now, stage_now, count_is, rows) =
        let call = writing (current log) (places_of f) part_now facts_now done_now in
        let d = done_call log call now (row_done log now call rows) in
        kept moved (subst (λ (x : CallLog). WaitsIf name up x E) (sym d.is) (quiet_waits name up E log _ known.tree (λ n g m. refl) h))
    file_names moved (Placed path) (part, facts, stage, path_is, new_is) (part_now, facts_now, stage_now, rows) =
        let is_at = ap part_at stage_now in
        placed name up top l part_now f.target E (after moved) (worked_here up (file.is_dirty moved.folder) l (marked part_now is_at)) (marked_dirtied up (file.is_dirty moved.folder) l) log now facts_now.mode (work_at moved part_now is_at) rows
    file_names moved (Cleaned part) (follows, stage, new_is) rows =
        let is_at = ap part_at stage in
        removed name up top l part f.target E (after moved) (worked_here up (file.is_dirty moved.folder) l (marked part is_at)) (marked_dirtied up (file.is_dirty moved.folder) l) log now files (work_at moved part is_at)
        (row_done log now (RemoveFile part) rows)
    file_names moved Barrier (stage, dirty, new_is) rows =
        let d = done_call log (SyncFolder (folder_of f.target)) now (row_done log now (SyncFolder (folder_of f.target)) rows) in
        kept moved (subst (λ (x : CallLog). WaitsIf name up x E) (sym d.is) (quiet_waits name up E log _ known.tree (λ n g m. refl) h))
    file_names moved (Troubled trouble) (barrier, new_is) calls = kept moved (stops f.stage refl trouble.cause trouble.path calls)
    file_names moved (Ended Finished part) tells calls = kept moved (same (some_log now log calls))
    file_names moved did tells calls = absurd tells

  -- a link
  module _ (c : LinkCopying) (known : LinkKnown log top l c) where
    abbrev link_after : LinkCopying → Type 0
    link_after moved = Marked up (dirtied_levels (link.is_dirty moved.folder) l)

    link_kept : (moved : LinkCopying) → Then E → Then (link_after moved)
    link_kept moved so = waits_map name up now E (link_after moved) (marked_dirtied up (link.is_dirty moved.folder) l) so

    -- a name was changed, and the folder is marked
    link_here : (moved : LinkCopying) → link.is_dirty moved.folder ≡ true → up ≡ l.inner.copy.target → link_after moved
    link_here moved dirty is = subst (λ b. Marked up (dirtied_levels b l)) (sym dirty) (dirtied_here up l is)

    rows_at : (stage : LinkStage) → c.stage ≡ stage → AllDone log (next_call (current log) c c.stage) (Some now) → AllDone log (next_call (current log) c stage) (Some now)
    rows_at stage is rows = subst (λ x. AllDone log (next_call (current log) c x) (Some now)) is rows

    link_stops : (stage : LinkStage) (why : Cause) (path : Option Route) → LinkStops c stage why path log (Some now) → Then E
    link_stops link_stage.Make why path (inl read) = same (some_log now log read.1)
    link_stops link_stage.Make why path (inr run) = stop_waits name up E log now (MakeLink c.part (link_text (current log) c.source)) why path known.tree run.1 h
    link_stops link_stage.Place why path run = stop_waits name up E log now (Rename c.part c.target) why path known.tree run h
    link_stops (link_stage.Clean next) why path run = stop_waits name up E log now (RemoveFile c.part) why path known.tree run h
    link_stops link_stage.Left why path run = absurd (no_row log now why path run)
    link_stops link_stage.Decided why path run = stop_waits name up E log now (SyncFolder (folder_of c.target)) why path known.tree run h
    link_stops link_stage.Again why path run = absurd (no_row log now why path run)

    pub link_names : (moved : LinkCopying) (did : Did) → link.Tells c did moved → LinkCalls c did log (Some now) → Then (link_after moved)
    link_names moved (Began part) (stage, part_is, new_is) (read, rows_all) =
        let rows = rows_at link_stage.Make stage rows_all in
        let b = known.begins stage in
        let text = link_text (current log) c.source in
        let d = done_call log (MakeLink c.part text) now (row_done log now (MakeLink c.part text) rows) in
        let permits : refusal_of (current log) (MakeLink (b.0 ∷ l.inner.copy.target) text) ≡ None = subst (λ r. refusal_of (current log) (MakeLink r text) ≡ None) b.1 d.permits in
        let made : Node = record { kind = kind.Link; bytes = text; mode = 0; mtime = pos 0; unnamed = 0 } in
        let then : now ≡ with_change log (Makes (found_node (current log) l.inner.copy.target) b.0 made) = subst (λ r. now ≡ with_change log (change_of (current log) (MakeLink r text) d.time)) b.1 d.is in
        subst (λ (x : CallLog). WaitsIf name up x (link_after moved)) (sym then)
        (waits_made name up log known.tree files b.0 l.inner.copy.target made (making_passes (current log) b.0 l.inner.copy.target 0 permits) E (link_after moved)
        (link_here moved (ap (λ (m : LinkCopying). link.is_dirty m.folder) new_is)) (marked_dirtied up (link.is_dirty moved.folder) l) h)
    link_names moved (Placed path) (stage, path_is, new_is) (read, rows) =
        let here = link_here moved (ap (λ (m : LinkCopying). link.is_dirty m.folder) new_is) in
        let f = marked_dirtied up (link.is_dirty moved.folder) l in
        renamed name up top l c.part c.target E (link_after moved) here f log now (ready c.part c.target (link_after moved) here f known.tree (known.item (ap has_part stage)))
        (row_done log now (Rename c.part c.target) (rows_at link_stage.Place stage rows))
    link_names moved (Cleaned part) (next, stage, part_is, new_is) (read, rows) =
        let here = link_here moved (ap (λ (m : LinkCopying). link.is_dirty m.folder) new_is) in
        let f = marked_dirtied up (link.is_dirty moved.folder) l in
        removed name up top l c.part c.target E (link_after moved) here f log now files (ready c.part c.target (link_after moved) here f known.tree (known.item (ap has_part stage)))
        (row_done log now (RemoveFile c.part) (rows_at (link_stage.Clean next) stage rows))
    link_names moved Barrier (stage, dirty, new_is) (read, rows) =
        let d = done_call log (SyncFolder (folder_of c.target)) now (row_done log now (SyncFolder (folder_of c.target)) (rows_at link_stage.Decided stage rows)) in
        link_kept moved (subst (λ (x : CallLog). WaitsIf name up x E) (sym d.is) (quiet_waits name up E log _ known.tree (λ n g m. refl) h))
    link_names moved (Troubled trouble) tells calls = link_kept moved (link_stops c.stage trouble.cause trouble.path calls)
    link_names moved did tells calls = absurd tells
