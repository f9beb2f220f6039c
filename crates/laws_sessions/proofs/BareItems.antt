-- A file or a link that stands at a target stays, or is replaced by one, in a step of the copy of a file or a link.
use Rattle.std.specs.Prelude.{pos}
use Rattle.std.proofs.Common.{◌≡◌, ℕ, true, false, List, [], ◌∷◌, refl, sym, ◌∙◌, ap, subst, inl, inr, Option, Some, None}
use Rattle.std.proofs.lemmas.Bool.{false≢true}
use Rattle.mc_text.specs.Routes.{Route}
use Rattle.mc_text.specs.declared.kind.Kind.TheVariants as kind
use Rattle.tree_trait.specs.declared.file_system.Node.{Node}
use Rattle.tree_trait.specs.Calls.{MakeLink, RemoveFile, Rename, SyncFolder}
use Rattle.tree_trait.specs.Change.{Change, Makes, CallLog, change_of, current, found_node, with_change}
use Rattle.tree_trait.specs.CrashImages.{says}
use Rattle.tree_trait.specs.FileSystem.{node}
use Rattle.tree_trait.specs.Refusals.{refusal_of}
use Rattle.tree_trait.specs.Shape.{IsTree}
use Rattle.job_reports.specs.CallRuns.{AllDone}
use Rattle.job_reports.specs.Paths.{folder_of}
use Rattle.job_reports.specs.declared.report.Cause.{Cause}
use Rattle.job_reports.specs.declared.report.Did.{Did}
use Rattle.job_reports.specs.declared.report.Did.TheVariants.{Began, Chunk, Placed, Removed, Made, Set, Kept, Skipped, Cleaned, Barrier, Asked, Merges, Moved, Troubled, Ended}
use Rattle.job_reports.specs.declared.report.Ending.TheVariants.{Finished, Aborted, Killed, NoMemory}
use Rattle.job_reports.proofs.CallAnswers.{done_call, some_log}
use Rattle.job_reports.proofs.PermittedCalls.{IsMaking, making_passes}
use Rattle.copy_file.specs.CopyCalls.{making, part_mode, writing}
use Rattle.copy_file.specs.Copying.{Copying, Tells, after_clean, part_at, places_of}
use Rattle.copy_file.specs.PartNames.{part_name}
use Rattle.copy_file.specs.declared.stage.Next.{Next as Follows}
use Rattle.copy_file.specs.declared.stage.Next.TheVariants as follows
use Rattle.copy_file.specs.declared.stage.Stage.{Stage}
use Rattle.copy_file.specs.declared.stage.Stage.TheVariants as at
use Rattle.copy_link.specs.LinkCopying as link
use Rattle.copy_link.specs.LinkCopying.{LinkCopying, has_part}
use Rattle.copy_link.specs.LinkSteps.{LinkCalls, LinkStops, link_text, next_call}
use Rattle.copy_link.specs.declared.stage.Next.{Next as LinkFollows}
use Rattle.copy_link.specs.declared.stage.Next.TheVariants as link_follows
use Rattle.copy_link.specs.declared.stage.Stage.{Stage as LinkStage}
use Rattle.copy_link.specs.declared.stage.Stage.TheVariants as link_stage
use Rattle.copy_folders.specs.Levels.{Levels}
use Rattle.laws_sessions.proofs.BareTargets.{StandsBare, bare_apart, bare_made, bare_placed, bare_quiet, bare_removed, bare_renamed}
use Rattle.laws_sessions.proofs.FileMoves.{MoveCalls, MoveStops}
use Rattle.laws_sessions.proofs.ItemLinks.{no_row}
use Rattle.laws_sessions.proofs.QuietRuns.{kept_stop, part_stops, row_done}
use Rattle.laws_sessions.proofs.TreeFiles.{FileKnown}
use Rattle.laws_sessions.proofs.TreeLinks.{LinkKnown}

none_at : {A : Type 0} (stage : Stage) (part : Route) → part_at stage ≡ None → part_at stage ≡ Some part → A
none_at stage part none is = absurd (let e : (let o : Option Route = None in o) ≡ Some part = sym none ∙ is in let f : ⊥ = cc in f)

cleaned_none : (next : Follows) → part_at (after_clean next) ≡ None
cleaned_none follows.Begin = refl
cleaned_none follows.Decided = refl

link_cleaned : (next : LinkFollows) → has_part (link.after_clean next) ≡ false
link_cleaned link_follows.Again = refl
link_cleaned link_follows.Decided = refl

some_part : (p q : Route) → (let o : Option Route = Some p in o) ≡ Some q → q ≡ p
some_part p q is = cc

module _ (log now : CallLog) (name : List ℕ) (l : Levels) (p : Route) (h : StandsBare (current log) p) where
  abbrev Bare : CallLog → Type 0
  Bare x = StandsBare (current x) p

  same : now ≡ log → Bare now
  same is = subst Bare (sym is) h

  quiet : (x : CallLog) (c : Change) → IsTree (current x) → ((n g : ℕ) (m : List ℕ) → says c n g m ≡ None) → Bare x → Bare (with_change x c)
  quiet x c tree none k = bare_quiet p x c tree none k

  module _ (unclaimed : Route → Type 0) (f : Copying) (known : FileKnown unclaimed log name l f) (off : (part : Route) → part_at f.stage ≡ Some part → part ≡ p → ⊥) where
    stops : (stage : Stage) → f.stage ≡ stage → (why : Cause) (path : Option Route) → MoveStops unclaimed (places_of f) stage why path log (Some now) → Bare now
    stops at.Begin is why path (inl none) = same (some_log now log none)
    stops at.Begin is why path (inr (k, free, run)) = kept_stop Bare quiet log now known.tree (making (current log) (places_of f) k) why path run h
    stops (at.Fill part said done) is why path (inl (less, inl read)) = same (some_log now log read.1)
    stops (at.Fill part said done) is why path (inl (less, inr write)) = kept_stop Bare quiet log now known.tree (writing (current log) (places_of f) part said done) why path write h
    stops (at.Fill part said done) is why path (inr (full, run)) = part_stops Bare quiet log now known.tree said.mode part f.target why path run h
    stops (at.Clean part next) is why path run = kept_stop Bare quiet log now known.tree (RemoveFile part) why path run h
    stops (at.Left part) is why path none = absurd none
    stops at.Decided is why path run = kept_stop Bare quiet log now known.tree (SyncFolder (folder_of f.target)) why path run h

    abbrev Then : Copying → Type 0
    Then moved = Bare now × ((part : Route) → part_at moved.stage ≡ Some part → part ≡ p → ⊥)

    -- a copy with the part that it had
    still : (moved : Copying) → part_at moved.stage ≡ part_at f.stage → Bare now → Then moved
    still moved part_same bare = (bare, λ part is. off part (sym part_same ∙ is))

    pub file_bare : (moved : Copying) (did : Did) → Tells f did moved → MoveCalls unclaimed f did moved log (Some now) → Then moved
    file_bare moved (Began part) (stage, (facts, new_is)) (looked, began_of, (k, part_is, first, rows)) =
        let d = done_call log (making (current log) (places_of f) k) now (row_done log now (making (current log) (places_of f) k) rows) in
        let mode : ℕ = part_mode (node (current log) (found_node (current log) f.source)).mode in
        let made : Node = record { kind = kind.File; bytes = []; mode = mode; mtime = d.time; unnamed = 0 } in
        let passes : IsMaking (current log) (part_name f.job k) (folder_of f.target) = making_passes (current log) (part_name f.job k) (folder_of f.target) mode d.permits in (
          subst Bare (sym d.is) (bare_made p log known.tree h (part_name f.job k) (folder_of f.target) made passes),
          λ q is same_p. bare_apart p log known.tree h (part_name f.job k) (folder_of f.target) made passes (sym part_is ∙ (sym (some_part part q (sym (ap (λ (c : Copying). part_at c.stage) new_is) ∙ is)) ∙ same_p)),
        )
    file_bare moved (Chunk count) (part, facts, done, stage, least, most, fits, new_is) (part_now, facts_now, done_now, stage_now, count_is, rows) =
        let call = writing (current log) (places_of f) part_now facts_now done_now in
        let d = done_call log call now (row_done log now call rows) in
        still moved (ap (λ (c : Copying). part_at c.stage) new_is ∙ sym (ap part_at stage)) (subst Bare (sym d.is) (quiet log _ known.tree (λ n g m. refl) h))
    file_bare moved (Placed path) (part, facts, stage, path_is, new_is) (part_now, facts_now, stage_now, rows) = (
      bare_placed p name l part_now f.target (off part_now (ap part_at stage_now)) log now facts_now.mode (record { tree = known.tree; item = known.item part_now (ap part_at stage_now); stands = h }) rows,
      λ q is. none_at moved.stage q (ap (λ (c : Copying). part_at c.stage) new_is) is,
    )
    file_bare moved (Cleaned part) (next, stage, new_is) rows = (
      bare_removed p log now known.tree h part (off part (ap part_at stage)) (row_done log now (RemoveFile part) rows),
      λ q is. none_at moved.stage q (ap (λ (c : Copying). part_at c.stage) new_is ∙ cleaned_none next) is,
    )
    file_bare moved Barrier (stage, dirty, new_is) rows =
        let d = done_call log (SyncFolder (folder_of f.target)) now (row_done log now (SyncFolder (folder_of f.target)) rows) in
        still moved (ap (λ (c : Copying). part_at c.stage) new_is) (subst Bare (sym d.is) (quiet log _ known.tree (λ n g m. refl) h))
    file_bare moved (Troubled trouble) (barrier, new_is) calls = still moved (ap (λ (c : Copying). part_at c.stage) new_is) (stops f.stage refl trouble.cause trouble.path calls)
    file_bare moved (Ended Finished part) (stage, clean, none, new_is) calls = still moved (ap (λ (c : Copying). part_at c.stage) new_is) (same (some_log now log calls))
    file_bare moved did tells calls = absurd tells

  module _ (c : LinkCopying) (known : LinkKnown log name l c) (off : has_part c.stage ≡ true → c.part ≡ p → ⊥) where
    rows_at : (stage : LinkStage) → c.stage ≡ stage → AllDone log (next_call (current log) c c.stage) (Some now) → AllDone log (next_call (current log) c stage) (Some now)
    rows_at stage is rows = subst (λ x. AllDone log (next_call (current log) c x) (Some now)) is rows

    link_stops : (stage : LinkStage) (why : Cause) (path : Option Route) → LinkStops c stage why path log (Some now) → Bare now
    link_stops link_stage.Make why path (inl read) = same (some_log now log read.1)
    link_stops link_stage.Make why path (inr run) = kept_stop Bare quiet log now known.tree (MakeLink c.part (link_text (current log) c.source)) why path run.1 h
    link_stops link_stage.Place why path run = kept_stop Bare quiet log now known.tree (Rename c.part c.target) why path run h
    link_stops (link_stage.Clean next) why path run = kept_stop Bare quiet log now known.tree (RemoveFile c.part) why path run h
    link_stops link_stage.Left why path run = absurd (no_row log now why path run)
    link_stops link_stage.Decided why path run = kept_stop Bare quiet log now known.tree (SyncFolder (folder_of c.target)) why path run h
    link_stops link_stage.Again why path run = absurd (no_row log now why path run)

    abbrev LinkThen : LinkCopying → Type 0
    LinkThen moved = Bare now × (has_part moved.stage ≡ true → moved.part ≡ p → ⊥)

    -- it has the part that it had, or none
    link_still : (moved : LinkCopying) → moved.part ≡ c.part → has_part moved.stage ≡ has_part c.stage → Bare now → LinkThen moved
    link_still moved part_same stage_same bare = (bare, λ has is. off (sym stage_same ∙ has) (sym part_same ∙ is))

    link_none : (moved : LinkCopying) → has_part moved.stage ≡ false → Bare now → LinkThen moved
    link_none moved none bare = (bare, λ has is. false≢true (sym none ∙ has))

    pub link_bare : (moved : LinkCopying) (did : Did) → link.Tells c did moved → LinkCalls c did log (Some now) → LinkThen moved
    link_bare moved (Began part) (stage, part_is, new_is) (read, rows_all) =
        let rows = rows_at link_stage.Make stage rows_all in
        let b = known.begins stage in
        let text = link_text (current log) c.source in
        let d = done_call log (MakeLink c.part text) now (row_done log now (MakeLink c.part text) rows) in
        let permits : refusal_of (current log) (MakeLink (b.0 ∷ l.inner.copy.target) text) ≡ None = subst (λ r. refusal_of (current log) (MakeLink r text) ≡ None) b.1 d.permits in
        let made : Node = record { kind = kind.Link; bytes = text; mode = 0; mtime = pos 0; unnamed = 0 } in
        let then : now ≡ with_change log (Makes (found_node (current log) l.inner.copy.target) b.0 made) = subst (λ r. now ≡ with_change log (change_of (current log) (MakeLink r text) d.time)) b.1 d.is in
        let passes : IsMaking (current log) b.0 l.inner.copy.target = making_passes (current log) b.0 l.inner.copy.target 0 permits in (
          subst Bare (sym then) (bare_made p log known.tree h b.0 l.inner.copy.target made passes),
          λ has is. bare_apart p log known.tree h b.0 l.inner.copy.target made passes (sym b.1 ∙ (sym (ap (λ (m : LinkCopying). m.part) new_is) ∙ is)),
        )
    link_bare moved (Placed path) (stage, path_is, new_is) (read, rows) =
        link_none moved (ap (λ (m : LinkCopying). has_part m.stage) new_is)
        (bare_renamed p name l c.part c.target (off (ap has_part stage)) log now (record { tree = known.tree; item = known.item (ap has_part stage); stands = h }) (row_done log now (Rename c.part c.target) (rows_at link_stage.Place stage rows)))
    link_bare moved (Cleaned part) (next, stage, part_is, new_is) (read, rows) =
        link_none moved (ap (λ (m : LinkCopying). has_part m.stage) new_is ∙ link_cleaned next)
        (bare_removed p log now known.tree h c.part (off (ap has_part stage)) (row_done log now (RemoveFile c.part) (rows_at (link_stage.Clean next) stage rows)))
    link_bare moved Barrier (stage, dirty, new_is) (read, rows) =
        let d = done_call log (SyncFolder (folder_of c.target)) now (row_done log now (SyncFolder (folder_of c.target)) (rows_at link_stage.Decided stage rows)) in
        link_still moved (ap (λ (m : LinkCopying). m.part) new_is) (ap (λ (m : LinkCopying). has_part m.stage) new_is) (subst Bare (sym d.is) (quiet log _ known.tree (λ n g m. refl) h))
    link_bare moved (Troubled trouble) (barrier, new_is) calls =
        link_still moved (ap (λ (m : LinkCopying). m.part) new_is) (ap (λ (m : LinkCopying). has_part m.stage) new_is) (link_stops c.stage trouble.cause trouble.path calls)
    link_bare moved did tells calls = absurd tells
