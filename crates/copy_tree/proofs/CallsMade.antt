-- Each call that a step makes is one that a copy may make, and its part stays beside its target.
use Rattle.std.proofs.Common.{◌≡◌, ℕ, zero, suc, refl, sym, ◌∙◌, ap, subst, inl, inr, Bool, true, false, List, [], ◌∷◌, ◌++◌, Option, Some, None, Result, Ok, Err}
use Rattle.std.specs.Prelude.{◌⊎◌, ◌==◌, if◌then◌else◌, ⊤}
use Rattle.mc_text.specs.Routes.{Route}
use Rattle.tree_trait.specs.declared.file_system.FileSystem.{FileSystem}
use Rattle.tree_trait.specs.declared.calls.TreeError.{TreeError}
use Rattle.tree_trait.specs.Calls.{Call, SetMode, SyncFile, Rename, RemoveFile, SyncFolder}
use Rattle.copy_file.specs.PartNames.{part_path}
use Rattle.tree_trait.specs.Change.{CallLog, current}
use Rattle.tree_trait.specs.Answers.{IfKnown, Performs}
use Rattle.job_reports.specs.declared.job.Pair.{Pair}
use Rattle.job_reports.specs.declared.report.Cause.{Cause}
use Rattle.job_reports.specs.declared.report.Did.{Did}
use Rattle.job_reports.specs.declared.report.Did.TheVariants.{Began, Chunk, Placed, Removed, Made, Set, Kept, Skipped, Cleaned, Barrier, Asked, Merges, Moved, Troubled, Ended}
use Rattle.job_reports.specs.declared.report.Ending.{Ending}
use Rattle.job_reports.specs.declared.report.Ending.TheVariants.{Finished, Aborted, Killed, NoMemory}
use Rattle.job_reports.specs.declared.report.LastStepResult.{LastStepResult}
use Rattle.job_reports.specs.CallRuns.{AllDone}
use Rattle.job_reports.specs.Paths.{folder_of}
use Rattle.copy_file.specs.Copying as file
use Rattle.copy_file.specs.Copying.{Copying, part_at, places_of}
use Rattle.copy_file.specs.CopyCalls.{CopyCalls, CopyStops, PartStops, making, making_with, part_mode, placing, writing}
use Rattle.copy_file.specs.CopySteps as file_steps
use Rattle.copy_file.specs.PartSteps.{MadeCalls, TellsMade}
use Rattle.copy_file.specs.LastSteps as file_last
use Rattle.copy_file.specs.declared.stage.Next.{Next as FileNext}
use Rattle.copy_file.specs.declared.stage.Next.TheVariants as file_next
use Rattle.copy_file.specs.declared.stage.SourceFacts.{SourceFacts}
use Rattle.copy_file.specs.declared.stage.Stage.{Stage as FileStage}
use Rattle.copy_file.specs.declared.stage.Stage.TheVariants as file_stage
use Rattle.copy_folders.specs.FolderCopying as folder
use Rattle.copy_folders.specs.FolderCopying.{FolderCopying}
use Rattle.copy_folders.specs.FolderSteps.{FolderCalls, next_call as folder_call}
use Rattle.copy_folders.specs.declared.stage.FolderDid.{FolderDid}
use Rattle.copy_folders.specs.declared.stage.FolderDid.TheVariants as folder_did
use Rattle.copy_folders.specs.declared.stage.NamesState.{NamesState}
use Rattle.copy_folders.specs.declared.stage.NamesState.TheVariants.{Synced, Dirty}
use Rattle.copy_folders.specs.declared.stage.Stage.{Stage as FolderStage}
use Rattle.copy_folders.specs.declared.stage.Stage.TheVariants as folder_stage
use Rattle.copy_link.specs.LinkCopying as link
use Rattle.copy_link.specs.LinkCopying.{LinkCopying}
use Rattle.copy_link.specs.LinkSteps.{LinkCalls, LinkStops, next_call as link_call}
use Rattle.copy_link.specs.declared.stage.Stage.{Stage as LinkStage}
use Rattle.copy_link.specs.declared.stage.Stage.TheVariants as link_stage
use Rattle.copy_folders.specs.declared.level.Level.{Level}
use Rattle.copy_tree.specs.InPlace.{AreMoved, IsMoved, IsTargetOf, owed_of}
use Rattle.copy_tree.specs.MadeCalls.{IsBeside, IsPart, IsPartFor, MakesOnly, MayCall}
use Rattle.copy_tree.proofs.Callings.{AllMay, all_done, none, stopped, tried, followed}

module _ (top : Pair) (job : ℕ) where
  -- the calls that a copy may make
  abbrev May : Call → Type 0
  May = MayCall top job

  target_of : (source target : Route) → IsMoved top source target → IsTargetOf top target
  target_of source target m = (source, m)

  pub part_of : (target part : Route) → IsTargetOf top target → IsPartFor job target part → IsPart top job part
  part_of target part is by = (target, is, by)

  -- the folder that holds a target is the one that holds the outermost, or a target itself
  folder_below : (rest source target : Route) → source ≡ rest ++ top.source → target ≡ rest ++ top.target → (folder_of target ≡ folder_of top.target) ⊎ IsTargetOf top (folder_of target)
  folder_below [] source target from to = inl (ap folder_of to)
  folder_below (name ∷ rest) source target from to = inr ((rest ++ top.source), record { rest = rest; from = refl; to = ap folder_of to })

  holder : (target : Route) → IsTargetOf top target → (folder_of target ≡ folder_of top.target) ⊎ IsTargetOf top (folder_of target)
  holder target is = let m = is.1 in folder_below m.rest is.0 target m.from m.to

  -- a full part is given its mode, is synced and renamed
  may_place : (same : Bool) (part target : Route) (mode : ℕ) → IsTargetOf top target → IsPartFor job target part
      → AllMay May ((if same then [] else SetMode part mode ∷ []) ++ SyncFile part ∷ Rename part target ∷ [])
  may_place true part target mode is by = (part_of target part is by, ((is, by), tt))
  may_place false part target mode is by = (inr (part_of target part is by), (part_of target part is by, ((is, by), tt)))

  may_sync : (target : Route) → IsTargetOf top target → AllMay May (SyncFolder (folder_of target) ∷ [])
  may_sync target is = (holder target is, tt)

  -- the path of a part that is chosen
  chosen : (f : Copying) (k : ℕ) → f.job ≡ job → IsPartFor job f.target (part_path (places_of f) k)
  chosen f k by = subst (λ n. IsPartFor n f.target (part_path (places_of f) k)) by (k, refl)

  -- what stops the copy of a file
  file_stops : (unclaimed : Route → Type 0) (f : Copying) (stage : FileStage) (cause : Cause) (path : Option Route) (log : CallLog) (after : Option CallLog) → f.job ≡ job → IsTargetOf top f.target
      → IsBeside job f.target (part_at stage) → CopyStops unclaimed (places_of f) stage cause path log after → MakesOnly May log after
  file_stops unclaimed f file_stage.Begin cause path log after by is beside (inl s) = none May log after s.1
  file_stops unclaimed f file_stage.Begin cause path log after by is beside (inr (inl s)) = none May log after s.2
  file_stops unclaimed f file_stage.Begin cause path log after by is beside (inr (inr s)) =
      stopped May (making (current log) (places_of f) s.0 ∷ []) cause path log after (part_of f.target (part_path (places_of f) s.0) is (chosen f s.0 by), tt) s.3
  file_stops unclaimed f (file_stage.Fill part facts done) cause path log after by is beside (inl (few, inl s)) = none May log after s.1
  file_stops unclaimed f (file_stage.Fill part facts done) cause path log after by is beside (inl (few, inr s)) =
      stopped May (writing (current log) (places_of f) part facts done ∷ []) cause path log after (part_of f.target part is beside, tt) s
  file_stops unclaimed f (file_stage.Fill part facts done) cause path log after by is beside (inr (full, s)) =
      stopped May (placing facts.mode part f.target) cause path log after (may_place (part_mode facts.mode == facts.mode) part f.target facts.mode is beside) s
  file_stops unclaimed f (file_stage.Clean part follows) cause path log after by is beside s = stopped May (RemoveFile part ∷ []) cause path log after (part_of f.target part is beside, tt) s
  file_stops unclaimed f (file_stage.Left part) cause path log after by is beside s = absurd s
  file_stops unclaimed f file_stage.Decided cause path log after by is beside s = stopped May (SyncFolder (folder_of f.target) ∷ []) cause path log after (may_sync f.target is) s

  cleaned_beside : (target : Route) (follows : FileNext) → IsBeside job target (part_at (file.after_clean follows))
  cleaned_beside target file_next.Begin = tt
  cleaned_beside target file_next.Decided = tt

  beside_at : (target : Route) (stage is : FileStage) → stage ≡ is → IsBeside job target (part_at stage) → IsBeside job target (part_at is)
  beside_at target stage is same h = subst (λ (s : FileStage). IsBeside job target (part_at s)) same h

  -- the same file, whose part is beside its target
  abbrev pub KeepsFile : Copying → Copying → Type 0
  KeepsFile f new = (new.job ≡ f.job) × (new.target ≡ f.target) × IsBeside job new.target (part_at new.stage)

  keeps_file : (f is new : Copying) → new ≡ is → is.job ≡ f.job → is.target ≡ f.target → IsBeside job is.target (part_at is.stage) → KeepsFile f new
  keeps_file f is new same a b h = subst (KeepsFile f) (sym same) (a, b, h)

  pub file_makes : (unclaimed : Route → Type 0) (f new : Copying) (did : Did) (log : CallLog) (after : Option CallLog) → f.job ≡ job → IsTargetOf top f.target → IsBeside job f.target (part_at f.stage)
      → file.Tells f did new → CopyCalls unclaimed f did new log after → KeepsFile f new × MakesOnly May log after
  file_makes unclaimed f new (Began part) log after by is beside t c =
      let part_is : IsPartFor job f.target part = subst (λ n. IsPartFor n f.target part) by (c.2.0, c.2.1) in (
        keeps_file f _ new t.1.1 refl refl part_is,
        all_done May (making (current log) (places_of f) c.2.0 ∷ []) log after (part_of f.target (part_path (places_of f) c.2.0) is (chosen f c.2.0 by), tt) c.2.3,
      )
  file_makes unclaimed f new (Chunk count) log after by is beside t c =
      (keeps_file f _ new t.7 refl refl (beside_at f.target f.stage (file_stage.Fill t.0 t.1 t.2) t.3 beside), all_done May (writing (current log) (places_of f) c.0 c.1 c.2 ∷ []) log after (part_of f.target c.0 is (beside_at f.target f.stage (file_stage.Fill c.0 c.1 c.2) c.3 beside), tt) c.5)
  file_makes unclaimed f new (Set path) log after by is beside t c = absurd t
  file_makes unclaimed f new (Placed path) log after by is beside t c =
      (keeps_file f _ new t.4 refl refl tt, all_done May (placing c.1.mode c.0 f.target) log after (may_place (part_mode c.1.mode == c.1.mode) c.0 f.target c.1.mode is (beside_at f.target f.stage (file_stage.Fill c.0 c.1 c.1.size) c.2 beside)) c.3)
  file_makes unclaimed f new (Cleaned part) log after by is beside t c =
      (keeps_file f _ new t.2 refl refl (cleaned_beside f.target t.0), all_done May (RemoveFile part ∷ []) log after (part_of f.target part is (beside_at f.target f.stage (file_stage.Clean part t.0) t.1 beside), tt) c)
  file_makes unclaimed f new Barrier log after by is beside t c = (keeps_file f _ new t.2 refl refl beside, all_done May (SyncFolder (folder_of f.target) ∷ []) log after (may_sync f.target is) c)
  file_makes unclaimed f new (Troubled trouble) log after by is beside t c = (keeps_file f f new t.1 refl refl beside, file_stops unclaimed f f.stage trouble.cause trouble.path log after by is beside c)
  file_makes unclaimed f new (Ended Finished part) log after by is beside t c = (keeps_file f f new t.3 refl refl beside, none May log after c)
  file_makes unclaimed f new (Ended Aborted part) log after by is beside t c = absurd t
  file_makes unclaimed f new (Ended Killed part) log after by is beside t c = absurd t
  file_makes unclaimed f new (Ended NoMemory part) log after by is beside t c = absurd t
  file_makes unclaimed f new (Removed path) log after by is beside t c = absurd t
  file_makes unclaimed f new (Made made) log after by is beside t c = absurd t
  file_makes unclaimed f new (Kept path) log after by is beside t c = absurd t
  file_makes unclaimed f new (Asked question) log after by is beside t c = absurd t
  file_makes unclaimed f new (Merges transfer pair names) log after by is beside t c = absurd t
  file_makes unclaimed f new (Moved pair) log after by is beside t c = absurd t
  file_makes unclaimed f new (Skipped path cause) log after by is beside t c = absurd t

  -- what stops the making of a part
  part_stops : (unclaimed : Route → Type 0) (mode : ℕ) (f : Copying) (cause : Cause) (path : Option Route) (log : CallLog) (after : Option CallLog) → f.job ≡ job → IsTargetOf top f.target
      → PartStops unclaimed (places_of f) mode cause path log after → MakesOnly May log after
  part_stops unclaimed mode f cause path log after by is (inl s) = none May log after s.1
  part_stops unclaimed mode f cause path log after by is (inr s) =
      stopped May (making_with mode (places_of f) s.0 ∷ []) cause path log after (part_of f.target (part_path (places_of f) s.0) is (chosen f s.0 by), tt) s.2

  pub part_makes : (unclaimed : Route → Type 0) (facts : SourceFacts) (f new : Copying) (did : Did) (log : CallLog) (after : Option CallLog) → f.job ≡ job → IsTargetOf top f.target
      → IsBeside job f.target (part_at f.stage) → TellsMade facts f did new → MadeCalls unclaimed facts f did log after → KeepsFile f new × MakesOnly May log after
  part_makes unclaimed facts f new (Began part) log after by is beside t c =
      let part_is : IsPartFor job f.target part = subst (λ n. IsPartFor n f.target part) by (c.0, c.1) in (
        keeps_file f _ new t refl refl part_is,
        all_done May (making_with facts.mode (places_of f) c.0 ∷ []) log after (part_of f.target (part_path (places_of f) c.0) is (chosen f c.0 by), tt) c.3,
      )
  part_makes unclaimed facts f new (Troubled trouble) log after by is beside t c = (keeps_file f f new t.1 refl refl beside, part_stops unclaimed facts.mode f trouble.cause trouble.path log after by is c)
  part_makes unclaimed facts f new (Chunk count) log after by is beside t c = absurd t
  part_makes unclaimed facts f new (Placed path) log after by is beside t c = absurd t
  part_makes unclaimed facts f new (Removed path) log after by is beside t c = absurd t
  part_makes unclaimed facts f new (Made path) log after by is beside t c = absurd t
  part_makes unclaimed facts f new (Set path) log after by is beside t c = absurd t
  part_makes unclaimed facts f new (Kept path) log after by is beside t c = absurd t
  part_makes unclaimed facts f new (Skipped path cause) log after by is beside t c = absurd t
  part_makes unclaimed facts f new (Cleaned part) log after by is beside t c = absurd t
  part_makes unclaimed facts f new Barrier log after by is beside t c = absurd t
  part_makes unclaimed facts f new (Asked question) log after by is beside t c = absurd t
  part_makes unclaimed facts f new (Merges transfer pair names) log after by is beside t c = absurd t
  part_makes unclaimed facts f new (Moved pair) log after by is beside t c = absurd t
  part_makes unclaimed facts f new (Ended ending part) log after by is beside t c = absurd t

  -- a link's calls, by its stage
  link_may : (s : FileSystem) (l : LinkCopying) (stage : LinkStage) → IsTargetOf top l.target → IsPartFor job l.target l.part → AllMay May (link_call s l stage)
  link_may s l link_stage.Make is beside = (part_of l.target l.part is beside, tt)
  link_may s l link_stage.Place is beside = ((is, beside), tt)
  link_may s l (link_stage.Clean follows) is beside = (part_of l.target l.part is beside, tt)
  link_may s l link_stage.Decided is beside = may_sync l.target is
  link_may s l link_stage.Left is beside = tt
  link_may s l link_stage.Again is beside = tt

  link_stops : (l : LinkCopying) (stage : LinkStage) (cause : Cause) (path : Option Route) (log : CallLog) (after : Option CallLog) → IsTargetOf top l.target → IsPartFor job l.target l.part
      → LinkStops l stage cause path log after → MakesOnly May log after
  link_stops l link_stage.Make cause path log after is beside (inl s) = none May log after s.1
  link_stops l link_stage.Make cause path log after is beside (inr s) = stopped May (link_call (current log) l link_stage.Make) cause path log after (link_may (current log) l link_stage.Make is beside) s.1
  link_stops l link_stage.Place cause path log after is beside s = stopped May (link_call (current log) l link_stage.Place) cause path log after (link_may (current log) l link_stage.Place is beside) s
  link_stops l (link_stage.Clean follows) cause path log after is beside s = stopped May (link_call (current log) l (link_stage.Clean follows)) cause path log after (link_may (current log) l (link_stage.Clean follows) is beside) s
  link_stops l link_stage.Decided cause path log after is beside s = stopped May (link_call (current log) l link_stage.Decided) cause path log after (link_may (current log) l link_stage.Decided is beside) s
  link_stops l link_stage.Left cause path log after is beside s = stopped May (link_call (current log) l link_stage.Left) cause path log after (link_may (current log) l link_stage.Left is beside) s
  link_stops l link_stage.Again cause path log after is beside s = stopped May (link_call (current log) l link_stage.Again) cause path log after (link_may (current log) l link_stage.Again is beside) s

  abbrev pub KeepsLink : LinkCopying → LinkCopying → Type 0
  KeepsLink l new = IsPartFor job new.target new.part

  keeps_link : (l is new : LinkCopying) → new ≡ is → IsPartFor job is.target is.part → KeepsLink l new
  keeps_link l is new same h = subst (KeepsLink l) (sym same) h

  pub link_makes : (l new : LinkCopying) (did : Did) (log : CallLog) (after : Option CallLog) → IsTargetOf top l.target → IsPartFor job l.target l.part
      → link.Tells l did new → LinkCalls l did log after → KeepsLink l new × MakesOnly May log after
  link_makes l new (Began part) log after is beside t c = (keeps_link l _ new t.2 beside, all_done May (link_call (current log) l l.stage) log after (link_may (current log) l l.stage is beside) c.1)
  link_makes l new (Placed path) log after is beside t c = (keeps_link l _ new t.2 beside, all_done May (link_call (current log) l l.stage) log after (link_may (current log) l l.stage is beside) c.1)
  link_makes l new (Cleaned part) log after is beside t c = (keeps_link l _ new t.3 beside, all_done May (link_call (current log) l l.stage) log after (link_may (current log) l l.stage is beside) c.1)
  link_makes l new Barrier log after is beside t c = (keeps_link l _ new t.2 beside, all_done May (link_call (current log) l l.stage) log after (link_may (current log) l l.stage is beside) c.1)
  link_makes l new (Troubled trouble) log after is beside t c = (keeps_link l l new t.1 beside, link_stops l l.stage trouble.cause trouble.path log after is beside c)
  link_makes l new (Chunk count) log after is beside t c = absurd t
  link_makes l new (Set path) log after is beside t c = absurd t
  link_makes l new (Removed path) log after is beside t c = absurd t
  link_makes l new (Made made) log after is beside t c = absurd t
  link_makes l new (Kept path) log after is beside t c = absurd t
  link_makes l new (Asked question) log after is beside t c = absurd t
  link_makes l new (Merges transfer pair names) log after is beside t c = absurd t
  link_makes l new (Moved pair) log after is beside t c = absurd t
  link_makes l new (Skipped path cause) log after is beside t c = absurd t
  link_makes l new (Ended ending part) log after is beside t c = absurd t

  -- a folder's calls, by its stage. The outermost owes no mode.
  folder_may : (around : List Level) (inner : Level) (stage : FolderStage) (names : NamesState) → stage ≡ inner.copy.stage → AreMoved top inner around → AllMay May (folder_call inner.copy.target stage names)
  folder_may [] inner (folder_stage.Make mode) names is h = absurd (let e = ap owed_of is ∙ h.keeps in let f : ⊥ = cc in f)
  folder_may [] inner (folder_stage.Close (Some mode)) names is h = absurd (let e = ap owed_of is ∙ h.keeps in let f : ⊥ = cc in f)
  folder_may [] inner (folder_stage.Close None) Dirty is h = (inl h.to, tt)
  folder_may [] inner (folder_stage.Close None) Synced is h = tt
  folder_may [] inner (folder_stage.Fill owed) names is h = tt
  folder_may [] inner folder_stage.Done names is h = tt
  folder_may (outer ∷ around) inner (folder_stage.Make mode) names is h = (target_of inner.copy.source inner.copy.target h.0, tt)
  folder_may (outer ∷ around) inner (folder_stage.Close (Some mode)) names is h = (inl (target_of inner.copy.source inner.copy.target h.0), tt)
  folder_may (outer ∷ around) inner (folder_stage.Close None) Dirty is h = (inr (target_of inner.copy.source inner.copy.target h.0), tt)
  folder_may (outer ∷ around) inner (folder_stage.Close None) Synced is h = tt
  folder_may (outer ∷ around) inner (folder_stage.Fill owed) names is h = tt
  folder_may (outer ∷ around) inner folder_stage.Done names is h = tt

  -- the sync of an open folder
  pub folder_sync : (around : List Level) (inner : Level) → AreMoved top inner around → May (SyncFolder inner.copy.target)
  folder_sync [] inner h = inl h.to
  folder_sync (outer ∷ around) inner h = inr (target_of inner.copy.source inner.copy.target h.0)

  pub folder_makes : (c : FolderCopying) (did : FolderDid) (log : CallLog) (after : Option CallLog) → AllMay May (folder_call c.target c.stage c.names) → FolderCalls c did log after → MakesOnly May log after
  folder_makes c (folder_did.Made path) log after may d = all_done May (folder_call c.target c.stage c.names) log after may d
  folder_makes c (folder_did.Set path) log after may d = all_done May (folder_call c.target c.stage c.names) log after may d
  folder_makes c folder_did.Barrier log after may d = all_done May (folder_call c.target c.stage c.names) log after may d
  folder_makes c folder_did.Closed log after may d = none May log after d
  folder_makes c (folder_did.Troubled trouble) log after may d = stopped May (folder_call c.target c.stage c.names) trouble.cause trouble.path log after may d

  -- an open folder's own step
  pub level_makes : (around : List Level) (inner : Level) (did : FolderDid) (log : CallLog) (after : Option CallLog) → AreMoved top inner around → FolderCalls inner.copy did log after → MakesOnly May log after
  level_makes around inner did log after h c = folder_makes inner.copy did log after (folder_may around inner inner.copy.stage inner.copy.names refl h) c

  -- a folder that is made
  pub make_makes : (pair : Pair) (mode : ℕ) (did : FolderDid) (log : CallLog) (after : Option CallLog) → IsMoved top pair.source pair.target
      → FolderCalls (folder.copying pair.source pair.target (folder_stage.Make mode) Synced) did log after → MakesOnly May log after
  make_makes pair mode did log after m c = folder_makes (folder.copying pair.source pair.target (folder_stage.Make mode) Synced) did log after (target_of pair.source pair.target m, tt) c

  -- the last steps of a file's copy
  removed_beside : (target : Route) (stage : FileStage) (part : Route) → file_last.removable stage ≡ Some part → IsBeside job target (part_at stage) → IsPartFor job target part
  removed_beside target (file_stage.Fill at facts done) part is h = subst (λ (p : Route). IsPartFor job target p) (let e : at ≡ part = cc in e) h
  removed_beside target (file_stage.Clean at follows) part is h = subst (λ (p : Route). IsPartFor job target p) (let e : at ≡ part = cc in e) h
  removed_beside target file_stage.Begin part is h = absurd (let f : ⊥ = cc in f)
  removed_beside target (file_stage.Left at) part is h = absurd (let f : ⊥ = cc in f)
  removed_beside target file_stage.Decided part is h = absurd (let f : ⊥ = cc in f)

  sync_tried : (f : Copying) (part : Option Route) (log : CallLog) (after : Option CallLog) → file_last.removable f.stage ≡ part → IsTargetOf top f.target → IsBeside job f.target (part_at f.stage)
      → file_last.SyncTried f part log after → MakesOnly May log after
  sync_tried f None log after none_is is beside s = tried May (SyncFolder (folder_of f.target)) log after (holder f.target is) s
  sync_tried f (Some part) log after part_is is beside s =
      followed May (RemoveFile part) (Err s.0) log s.1 after (part_of f.target part is (removed_beside f.target f.stage part part_is beside)) s.2 (tried May (SyncFolder (folder_of f.target)) s.1 after (holder f.target is) s.3)

  pub file_winds : (ending : Ending) (f new : Copying) (did : Did) (log : CallLog) (after : Option CallLog) → IsTargetOf top f.target → IsBeside job f.target (part_at f.stage)
      → file_last.Winds ending f did new → file_last.WindCalls f did log after → MakesOnly May log after
  file_winds ending f new (Cleaned part) log after is beside t c = all_done May (RemoveFile part ∷ []) log after (part_of f.target part is (removed_beside f.target f.stage part t.0 beside), tt) c
  file_winds ending f new Barrier log after is beside t c = sync_tried f (file_last.removable f.stage) log after refl is beside c
  file_winds ending f new (Ended how part) log after is beside t c = none May log after c
  file_winds ending f new (Began part) log after is beside t c = absurd t
  file_winds ending f new (Chunk count) log after is beside t c = absurd t
  file_winds ending f new (Set path) log after is beside t c = absurd t
  file_winds ending f new (Placed path) log after is beside t c = absurd t
  file_winds ending f new (Removed path) log after is beside t c = absurd t
  file_winds ending f new (Made made) log after is beside t c = absurd t
  file_winds ending f new (Kept kept) log after is beside t c = absurd t
  file_winds ending f new (Asked question) log after is beside t c = absurd t
  file_winds ending f new (Merges transfer pair names) log after is beside t c = absurd t
  file_winds ending f new (Moved pair) log after is beside t c = absurd t
  file_winds ending f new (Skipped path cause) log after is beside t c = absurd t
  file_winds ending f new (Troubled trouble) log after is beside t c = absurd t
