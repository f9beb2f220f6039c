-- A file or a link that stands at a target stays, or is replaced by one, with each step, skip and retry of a tree's copy.
use Rattle.std.proofs.Common.{◌≡◌, ℕ, suc, zero, Bool, true, false, List, [], ◌∷◌, refl, sym, ◌∙◌, ap, subst, inl, inr, Option, Some, None}
use Rattle.mc_text.specs.Routes.{Route}
use Rattle.tree_trait.specs.Calls.{MakeFolder, SetMode, SyncFolder}
use Rattle.tree_trait.specs.Change.{Change, CallLog, change_of, current, with_change}
use Rattle.tree_trait.specs.CrashImages.{says}
use Rattle.tree_trait.specs.Refusals.{refusal_of}
use Rattle.tree_trait.specs.Shape.{IsTree}
use Rattle.job_answers.specs.declared.replies.Replies.{Replies}
use Rattle.job_reports.specs.CallRuns.{AllDone, RunStops}
use Rattle.job_reports.specs.declared.job.Pair.{Pair}
use Rattle.job_reports.specs.declared.report.Cause.{Cause}
use Rattle.job_reports.specs.declared.report.Did.{Did}
use Rattle.job_reports.proofs.CallAnswers.{done_call, some_log}
use Rattle.job_reports.proofs.PermittedCalls.{making_passes}
use Rattle.copy_file.specs.Copying as file
use Rattle.copy_file.specs.Copying.{Copying, part_at, skipped_stage as file_skipped, taken_anew as file_anew}
use Rattle.copy_file.specs.declared.stage.Stage.{Stage as FileStage}
use Rattle.copy_file.specs.declared.stage.Stage.TheVariants as file_stage
use Rattle.copy_file.specs.CopySteps.{Skips as FileSkips}
use Rattle.copy_link.specs.LinkCopying as link
use Rattle.copy_link.specs.LinkCopying.{LinkCopying, has_part, skipped_stage as link_skipped, taken_anew as link_anew}
use Rattle.copy_link.specs.LinkSteps.{Skips as LinkSkips}
use Rattle.copy_link.specs.declared.stage.Stage.{Stage as LinkStage}
use Rattle.copy_link.specs.declared.stage.Stage.TheVariants as link_stage
use Rattle.copy_folders.specs.FolderCopying.{FolderCopying, Tells, copying, folder_mode}
use Rattle.copy_folders.specs.FolderSteps.{FolderCalls, at_sync, next_call}
use Rattle.copy_folders.specs.declared.stage.FolderDid.{FolderDid}
use Rattle.copy_folders.specs.declared.stage.FolderDid.TheVariants as folder_did
use Rattle.copy_folders.specs.declared.stage.NamesState.{NamesState}
use Rattle.copy_folders.specs.declared.stage.NamesState.TheVariants.{Synced, Dirty}
use Rattle.copy_folders.specs.declared.stage.Stage.{Stage}
use Rattle.copy_folders.specs.declared.stage.Stage.TheVariants as at
use Rattle.copy_folders.specs.Levels.{is_around_dirty}
use Rattle.copy_tree.specs.declared.item.ItemAtWork.{ItemAtWork}
use Rattle.copy_tree.specs.declared.item.ItemAtWork.TheVariants.{Next, File, Link, Stays}
use Rattle.copy_tree.specs.declared.progress.Progress.{Progress}
use Rattle.copy_tree.specs.declared.progress.Progress.TheVariants.{UnderWay, Decided, Anew}
use Rattle.copy_tree.specs.Parts.{IsPartPlace}
use Rattle.copy_tree.specs.Progress.{link_progress, progress}
use Rattle.copy_tree.specs.Reports.{IsToldAs}
use Rattle.copy_tree.specs.Skipping.{Skips, SkipsAt, SkipsNamed, SkipsRest, retried_copy, retried_at}
use Rattle.copy_tree.specs.Standing.{Seen, target_name}
use Rattle.copy_tree.specs.TreeCopySteps.{CopySteps, LeavesAll, LinkWorks, TakesNext, WorksOn, at_end, idle, link_begun, noted_copy, copy_after_progress}
use Rattle.laws_sessions.proofs.AtWork.{ItemKnown}
use Rattle.laws_sessions.proofs.BareItems.{file_bare, link_bare}
use Rattle.laws_sessions.proofs.BareTargets.{IsApart, StandsBare, bare_made, bare_quiet}
use Rattle.laws_sessions.proofs.CopyLaws.{CopyKnown}
use Rattle.laws_sessions.proofs.FileMoves.{FileMoves, taken_moves, worked_moves}
use Rattle.laws_sessions.proofs.ItemLinks.{no_row}
use Rattle.laws_sessions.proofs.QuietRuns.{kept_stop, row_done}
use Rattle.laws_sessions.proofs.Resting.{IsOfFiles}
use Rattle.laws_sessions.proofs.StepsKnown.{step_begins}
use Rattle.laws_sessions.proofs.TreeFiles.{FileKnown}
use Rattle.laws_sessions.proofs.TreeLinks.{LinkKnown}
use Rattle.laws_sessions.proofs.TreeSteps.{StepKnown, closing_not, next_of, taken_file, taken_link, worked_file, worked_link}

none_apart : (item : ItemAtWork) (p : Route) → item ≡ Next → IsApart item p
none_apart item p is = subst (λ i. IsApart i p) (sym is) tt

settled_apart : (pr : Progress) (item : ItemAtWork) (c : Seen) (p : Route) → c.item ≡ Next → IsApart item p → (let s : Seen = copy_after_progress pr item c in IsApart s.item p)
settled_apart UnderWay item c p none apart = apart
settled_apart Decided item c p none apart = none_apart c.item p none
settled_apart Anew item c p none apart = none_apart c.item p none

pub left_apart : (n : ℕ) (old mid : Seen) (p : Route) → LeavesAll n old mid → IsApart old.item p → IsApart mid.item p
left_apart zero old mid p is apart = subst (λ (c : Seen). IsApart c.item p) (sym is) apart
left_apart (suc n) old mid p (last, all, none, one) apart = let r = one.returns in none_apart mid.item p (ap (λ (c : Seen). c.item) r.stands ∙ none)

module _ (p : Route) (free : Route → Bool) (replies : Replies) (old new : Seen) (did : Did) (log now : CallLog) (known : StepKnown log old) (h : StandsBare (current log) p) where
  abbrev Unclaimed : Route → Type 0
  Unclaimed = IsPartPlace free old

  abbrev Bare : CallLog → Type 0
  Bare x = StandsBare (current x) p

  abbrev Then : Type 0
  Then = Bare now × IsApart new.item p

  same_log : now ≡ log → Bare now
  same_log is = subst Bare (sym is) h

  quiet : (x : CallLog) (c : Change) → IsTree (current x) → ((n g : ℕ) (m : List ℕ) → says c n g m ≡ None) → Bare x → Bare (with_change x c)
  quiet x c tree none k = bare_quiet p x c tree none k

  alone : old.item ≡ Next → new.item ≡ old.item → Bare now → Then
  alone none is bare = (bare, none_apart new.item p (is ∙ none))

  file_after : (f : Copying) → FileKnown Unclaimed log old.name old.levels f → ((part : Route) → part_at f.stage ≡ Some part → part ≡ p → ⊥) → FileMoves Unclaimed f old new did (Some log) (Some now) → Then
  file_after f about off w =
      let m = w.moved in
      let b = file_bare log now old.name old.levels p h Unclaimed f about off m did w.tells (w.called log refl) in
      (b.0, subst (λ (c : Seen). IsApart c.item p) (sym w.stands) (settled_apart (progress m.stage) (File m) (noted_copy did (file.is_dirty m.folder) (idle old)) p refl b.1))

  link_after : (l : LinkCopying) → LinkKnown log old.name old.levels l → (has_part l.stage ≡ true → l.part ≡ p → ⊥) → LinkWorks l old new did (Some log) (Some now) → Then
  link_after l about off w =
      let m = w.moved in
      let b = link_bare log now old.name old.levels p h l about off m did w.tells (w.called log refl) in
      (b.0, subst (λ (c : Seen). IsApart c.item p) (sym w.stands) (settled_apart (link_progress m.stage) (Link m) (noted_copy did (link.is_dirty m.folder) (idle old)) p refl b.1))

  -- the next call of a folder is refused
  next_stops : (target : Route) (stage : Stage) (names : NamesState) (why : Cause) (path : Option Route) → RunStops (next_call target stage names) why path log (Some now) → Bare now
  next_stops target (at.Make mode) names why path run = kept_stop Bare quiet log now known.tree (MakeFolder target (folder_mode mode)) why path run h
  next_stops target (at.Close (Some mode)) names why path run = kept_stop Bare quiet log now known.tree (SetMode target mode) why path run h
  next_stops target (at.Close None) Dirty why path run = kept_stop Bare quiet log now known.tree (SyncFolder target) why path run h
  next_stops target (at.Close None) Synced why path run = absurd (no_row log now why path run)
  next_stops target (at.Fill owed) names why path run = absurd (no_row log now why path run)
  next_stops target at.Done names why path run = absurd (no_row log now why path run)

  folder_synced : (target : Route) → AllDone log (SyncFolder target ∷ []) (Some now) → Bare now
  folder_synced target rows =
      let d = done_call log (SyncFolder target) now (row_done log now (SyncFolder target) rows) in
      subst Bare (sym d.is) (quiet log _ known.tree (λ n g m. refl) h)

  -- a folder is made, or that is refused
  made_by : (pair : Pair) (mode : ℕ) (n : List ℕ) → pair.target ≡ n ∷ old.levels.inner.copy.target → (moved : FolderCopying) (report : FolderDid) → Tells (copying pair.source pair.target (at.Make mode) Synced) report moved
      → FolderCalls (copying pair.source pair.target (at.Make mode) Synced) report log (Some now) → Bare now
  made_by pair mode n target_is moved (folder_did.Made path) (mode_now, stage, path_is, new_is) rows =
      let call = MakeFolder pair.target (folder_mode mode) in
      let d = done_call log call now (row_done log now call rows) in
      let permits : refusal_of (current log) (MakeFolder (n ∷ old.levels.inner.copy.target) (folder_mode mode)) ≡ None = subst (λ r. refusal_of (current log) (MakeFolder r (folder_mode mode)) ≡ None) target_is d.permits in
      let then = subst (λ r. now ≡ with_change log (change_of (current log) (MakeFolder r (folder_mode mode)) d.time)) target_is d.is in
      subst Bare (sym then) (bare_made p log known.tree h n old.levels.inner.copy.target _ (making_passes (current log) n old.levels.inner.copy.target (folder_mode mode) permits))
  made_by pair mode n target_is moved (folder_did.Troubled trouble) tells run = next_stops pair.target (at.Make mode) Synced trouble.cause trouble.path run
  made_by pair mode n target_is moved (folder_did.Set path) (mode_now, stage, path_is, new_is) rows = absurd (let f : ⊥ = cc in f)
  made_by pair mode n target_is moved folder_did.Barrier (stage, dirty, new_is) rows = absurd (let f : ⊥ = cc in f)
  made_by pair mode n target_is moved folder_did.Closed (stage, clean, new_is) rows = absurd (let f : ⊥ = cc in f)

  -- the innermost folder is given its mode, or synced
  abbrev c : FolderCopying
  c = let e : Seen = at_end old in e.levels.inner.copy

  rows_at : (stage : Stage) (names : NamesState) → c.stage ≡ stage → c.names ≡ names → AllDone log (next_call c.target c.stage c.names) (Some now) → AllDone log (next_call c.target stage names) (Some now)
  rows_at stage names stage_is names_is rows =
      subst (λ x. AllDone log (next_call c.target stage x) (Some now)) names_is (subst (λ x. AllDone log (next_call c.target x c.names) (Some now)) stage_is rows)

  ends_by : (moved : FolderCopying) (report : FolderDid) → IsToldAs report did → Tells c report moved → FolderCalls c report log (Some now) → Bare now
  ends_by moved (folder_did.Made path) says_so (mode, stage, path_is, new_is) rows = absurd (closing_not old.levels.inner.copy.stage known.made mode stage)
  ends_by moved (folder_did.Set path) says_so (mode, stage, path_is, new_is) rows =
      let call = SetMode c.target mode in
      let d = done_call log call now (row_done log now call (rows_at (at.Close (Some mode)) c.names stage refl rows)) in
      subst Bare (sym d.is) (quiet log _ known.tree (λ n g m. refl) h)
  ends_by moved folder_did.Barrier says_so (stage, dirty, new_is) rows = folder_synced c.target (rows_at (at.Close None) Dirty stage dirty rows)
  ends_by moved folder_did.Closed says_so tells is = absurd says_so
  ends_by moved (folder_did.Troubled trouble) says_so (barrier, new_is) run = next_stops c.target c.stage c.names trouble.cause trouble.path run

  -- the nearest folder around is synced
  around_by : (outer : FolderCopying) (names : NamesState) (report : FolderDid) → Tells (at_sync outer) report (record (at_sync outer) { names = names }) → FolderCalls (at_sync outer) report log (Some now) → Bare now
  around_by outer names folder_did.Barrier tells rows = folder_synced outer.target rows
  around_by outer names (folder_did.Troubled trouble) tells run = next_stops outer.target (at.Close None) Dirty trouble.cause trouble.path run
  around_by outer names (folder_did.Made path) (mode, stage, path_is, new_is) rows = absurd (let f : ⊥ = cc in f)
  around_by outer names (folder_did.Set path) (mode, stage, path_is, new_is) rows = absurd (let f : ⊥ = cc in f)
  around_by outer names folder_did.Closed (stage, synced, new_is) is = absurd (let f : ⊥ = cc in f)

  takes : old.item ≡ Next → is_around_dirty old.levels.around ≡ false → TakesNext Unclaimed replies old new did (Some log) (Some now) → Then
  takes none clean (inl s) = alone none (ap (λ (x : Seen). x.item) s.stands) (same_log (some_log now log s.same))
  takes none clean (inr (inl t)) =
      file_after (file.begun_copy old.job t.pair.source t.pair.target) (taken_file free replies old new did log now known clean t) (λ part is. absurd (let f : ⊥ = cc in f)) (taken_moves Unclaimed replies old new did (Some log) (Some now) t)
  takes none clean (inr (inr (inl t))) = link_after (link_begun t.pair t.part) (taken_link free replies old new did log now known clean t) (λ has. absurd (let f : ⊥ = cc in f)) t.works
  takes none clean (inr (inr (inr (inl t)))) =
      let n = next_of old old.levels.inner.names.names t.pair t.next in
      let w = t.works in
      alone none (ap (λ (x : Seen). x.item) w.stands) (made_by t.pair t.mode (target_name old n.name) n.target_is w.moved w.report w.tells (w.called log refl))
  takes none clean (inr (inr (inr (inr (inl t))))) = alone none (ap (λ (x : Seen). x.item) t.stands) (same_log (some_log now log t.same))
  takes none clean (inr (inr (inr (inr (inr (inl t)))))) = alone none (ap (λ (x : Seen). x.item) t.stands) (same_log (some_log now log t.same))
  takes none clean (inr (inr (inr (inr (inr (inr (inl t))))))) = alone none (ap (λ (x : Seen). x.item) t.stands) (same_log (some_log now log t.same))
  takes none clean (inr (inr (inr (inr (inr (inr (inr (next, inl (debt, e))))))))) = alone none (ap (λ (x : Seen). x.item) e.stands) (ends_by e.moved e.report e.says e.tells (e.called log refl))
  takes none clean (inr (inr (inr (inr (inr (inr (inr (next, inr (debt, f, same))))))))) = alone none (ap (λ (x : Seen). x.item) f.stands) (same_log (some_log now log same))

  works_bare : (item : ItemAtWork) → old.item ≡ item → ItemKnown log old item → IsApart item p → WorksOn item Unclaimed replies old new did (Some log) (Some now) → Then
  works_bare Next is item apart (inl s) = alone is (ap (λ (x : Seen). x.item) s.stands) (let outer = s.outer in around_by outer.copy s.names s.report s.tells (s.called log refl))
  works_bare Next is item apart (inr (clean, t)) = takes is clean t
  works_bare (File f) is item apart w = file_after f (worked_file free replies old new did log now known f item) apart (worked_moves Unclaimed f old new did (Some log) (Some now) w)
  works_bare (Link l) is item apart w = link_after l (worked_link free replies old new did log now known l item) apart w
  works_bare (Stays part) is item apart w = absurd w

-- so it stays with each step
pub step_bare : (free : Route → Bool) (replies : Replies) (old new : Seen) (did : Did) (calls : ℕ) (log now : CallLog) (faults faults_after : ℕ) → CopySteps free replies old new did calls (Some log) (Some now) faults faults_after
    → IsTree (current log) → IsOfFiles log → CopyKnown log old → (p : Route) → StandsBare (current log) p → IsApart old.item p → StandsBare (current now) p × IsApart new.item p
step_bare free replies old new did calls log now f0 f1 s tree files known p h apart =
    let b = step_begins free replies old new did calls log now f0 f1 s tree files known in
    let mid = s.mid in
    works_bare p free replies mid new did log now b.0 h mid.item refl b.1 (left_apart s.folders old mid p s.leaves apart) s.works

-- what is left, or taken anew, has the part that it had
skipped_part : (stage : FileStage) → part_at (file_skipped stage) ≡ part_at stage
skipped_part file_stage.Begin = refl
skipped_part (file_stage.Fill part facts done) = refl
skipped_part (file_stage.Clean part next) = refl
skipped_part (file_stage.Left part) = refl
skipped_part file_stage.Decided = refl

anew_part : (stage : FileStage) → part_at (file_anew stage) ≡ part_at stage
anew_part file_stage.Begin = refl
anew_part (file_stage.Fill part facts done) = refl
anew_part (file_stage.Clean part next) = refl
anew_part (file_stage.Left part) = refl
anew_part file_stage.Decided = refl

skipped_has : (stage : LinkStage) → has_part (link_skipped stage) ≡ true → has_part stage ≡ true
skipped_has link_stage.Make is = is
skipped_has link_stage.Place is = refl
skipped_has (link_stage.Clean next) is = refl
skipped_has link_stage.Left is = refl
skipped_has link_stage.Again is = is
skipped_has link_stage.Decided is = is

anew_has : (stage : LinkStage) → has_part (link_anew stage) ≡ true → has_part stage ≡ true
anew_has link_stage.Make is = is
anew_has link_stage.Place is = refl
anew_has (link_stage.Clean next) is = refl
anew_has link_stage.Left is = refl
anew_has link_stage.Again is = is
anew_has link_stage.Decided is = is

module _ (p : Route) where
  file_skip : (cause : Cause) (f moved : Copying) (did : Did) → FileSkips cause f did moved → IsApart (File f) p → IsApart (File moved) p
  file_skip cause f moved did (inl done) apart = λ part is. apart part (sym (ap (λ (x : Copying). part_at x.stage) done.1 ∙ skipped_part f.stage) ∙ is)
  file_skip cause f moved did (inr room) apart = λ part is. apart part (sym (ap (λ (x : Copying). part_at x.stage) room.1) ∙ is)

  link_skip : (cause : Cause) (l moved : LinkCopying) (did : Did) → LinkSkips cause l did moved → IsApart (Link l) p → IsApart (Link moved) p
  link_skip cause l moved did (inl done) apart = subst (λ (m : LinkCopying). IsApart (Link m) p) (sym done.1) (λ has. apart (skipped_has l.stage has))
  link_skip cause l moved did (inr room) apart = subst (λ (m : LinkCopying). IsApart (Link m) p) (sym room.1) apart

  rest_same : (cause : Cause) (old new : Seen) (did : Did) → SkipsRest cause old did new → new.item ≡ old.item
  rest_same cause old new did (inl done) = ap (λ (c : Seen). c.item) done.1
  rest_same cause old new did (inr room) = ap (λ (c : Seen). c.item) room.1

  named_same : (names : List (List ℕ)) (cause : Cause) (old new : Seen) (did : Did) → SkipsNamed names cause old did new → new.item ≡ old.item
  named_same [] cause old new did (moved, skips, stands) = ap (λ (c : Seen). c.item) stands
  named_same (first ∷ names) cause old new did (inl done) = ap (λ (c : Seen). c.item) done.1
  named_same (first ∷ names) cause old new did (inr (inl rest)) = rest_same cause old new did rest.1
  named_same (first ∷ names) cause old new did (inr (inr room)) = ap (λ (c : Seen). c.item) room.1

  skips_apart : (item : ItemAtWork) (cause : Cause) (old new : Seen) (did : Did) → old.item ≡ item → SkipsAt item cause old did new → IsApart item p → IsApart new.item p
  skips_apart Next cause old new did is s apart = none_apart new.item p (named_same old.levels.inner.names.names cause old new did s ∙ is)
  skips_apart (File f) cause old new did is (moved, skips, stands) apart =
      subst (λ (c : Seen). IsApart c.item p) (sym stands) (settled_apart (progress moved.stage) (File moved) (idle old) p refl (file_skip cause f moved did skips apart))
  skips_apart (Link l) cause old new did is (moved, skips, stands) apart =
      subst (λ (c : Seen). IsApart c.item p) (sym stands) (settled_apart (link_progress moved.stage) (Link moved) (idle old) p refl (link_skip cause l moved did skips apart))
  skips_apart (Stays part) cause old new did is s apart = absurd s

  pub skip_bare : (cause : Cause) (old new : Seen) (did : Did) → Skips cause old did new → IsApart old.item p → IsApart new.item p
  skip_bare cause old new did s apart = skips_apart old.item cause old new did refl s apart

  retries_apart : (item : ItemAtWork) (c : Seen) → c.item ≡ item → IsApart item p → (let r : Seen = retried_at item c in IsApart r.item p)
  retries_apart Next c is apart = none_apart c.item p is
  retries_apart (File f) c is apart =
      settled_apart (progress (file_anew f.stage)) (File (record f { stage = file_anew f.stage })) (idle c) p refl (λ part at_part. apart part (sym (anew_part f.stage) ∙ at_part))
  retries_apart (Link l) c is apart =
      settled_apart (link_progress (link_anew l.stage)) (Link (record l { stage = link_anew l.stage })) (idle c) p refl (λ has. apart (anew_has l.stage has))
  retries_apart (Stays part) c is apart = subst (λ i. IsApart i p) (sym is) tt

  pub retry_bare : (c : Seen) → IsApart c.item p → (let r : Seen = retried_copy c in IsApart r.item p)
  retry_bare c apart = retries_apart c.item c refl apart
