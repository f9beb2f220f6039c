-- What a step of a move makes of the dirty folders.
use Rattle.std.proofs.Common.{◌≡◌, ◌⊎◌, Bool, true, false, List, [], ◌∷◌, refl, sym, ◌∙◌, ap, inl, inr}
use Rattle.std.specs.Prelude.{filter, if◌then◌else◌, not}
use Rattle.std.proofs.lemmas.Bool.{false≢true}
use Rattle.mc_text.specs.Routes.{Route, same_path}
use Rattle.tree_trait.proofs.Visible.{same_path-true}
use Rattle.job_answers.specs.declared.replies.Replies.{Replies}
use Rattle.job_reports.specs.declared.job.Pair.{Pair}
use Rattle.job_reports.specs.declared.report.Ending.TheVariants.{Finished, Aborted, Killed, NoMemory}
use Rattle.job_reports.specs.declared.report.Did.{Did}
use Rattle.job_reports.specs.declared.report.Did.TheVariants.{Began, Chunk, Placed, Removed, Made, Set, Kept, Skipped, Cleaned, Barrier, Asked, Merges, Moved, Troubled, Ended}
use Rattle.job_reports.specs.Paths.{folder_of, without}
use Rattle.job_unsynced.specs.Folders.{joined_folders, with_change}
use Rattle.move_job.specs.declared.moving.MovingStage.{MovingStage}
use Rattle.move_job.specs.declared.moving.MovingStage.TheVariants.{Take, SyncTarget, SyncSource, Finish, PassedOver}
use Rattle.move_job.specs.Movings.{Moving, Tells, after_sync, is_dirty, owes_target, with_moves}

-- nothing, or both folders join, or one leaves
abbrev pub FoldersMove : Did → Pair → List Route → List Route → Type 0
FoldersMove did pair dirty dirty_after =
    (dirty_after ≡ dirty)
    ⊎ (((did ≡ Moved pair) × (dirty_after ≡ joined_folders (folder_of pair.source) (joined_folders (folder_of pair.target) dirty)))
    ⊎ ((folder : Route) × (did ≡ Barrier) × (dirty_after ≡ without folder dirty)))

-- what is left out twice is left out
twice : (keeps : Route → Bool) (routes : List Route) → filter keeps (filter keeps routes) ≡ filter keeps routes
twice keeps [] = refl
twice keeps (first ∷ routes) = by (keeps first) refl (twice keeps routes)
  where
    by : (b : Bool) → keeps first ≡ b → filter keeps (filter keeps routes) ≡ filter keeps routes → filter keeps (if b then first ∷ filter keeps routes else filter keeps routes) ≡ (if b then first ∷ filter keeps routes else filter keeps routes)
    by true is rest = ap (λ b. if b then first ∷ filter keeps (filter keeps routes) else filter keeps (filter keeps routes)) is ∙ ap (λ xs. first ∷ xs) rest
    by false is rest = rest

same_change : (b : Bool) (folder : Route) (dirty : List Route) → with_change b b folder dirty ≡ dirty
same_change true folder dirty = refl
same_change false folder dirty = refl

same_moves : (stage : MovingStage) (pair : Pair) (dirty : List Route) → with_moves stage stage pair dirty ≡ dirty
same_moves stage pair dirty = same_change (is_dirty stage) (folder_of pair.source) (with_change (owes_target stage) (owes_target stage) (folder_of pair.target) dirty) ∙ same_change (owes_target stage) (folder_of pair.target) dirty

module _ (m w : Moving) (dirty dirty_after : List Route) where
  -- the stages before and after
  between : (old new : MovingStage) → m.stage ≡ old → w.stage ≡ new → dirty_after ≡ with_moves m.stage w.stage m.pair dirty → dirty_after ≡ with_moves old new m.pair dirty
  between old new was is left = left ∙ (ap (λ s. with_moves s w.stage m.pair dirty) was ∙ ap (λ s. with_moves old s m.pair dirty) is)

  still : w ≡ m → dirty_after ≡ with_moves m.stage w.stage m.pair dirty → dirty_after ≡ dirty
  still same left = left ∙ (ap (λ (k : Moving). with_moves m.stage k.stage m.pair dirty) same ∙ same_moves m.stage m.pair dirty)

  abbrev Leaves : Type 0
  Leaves = (folder : Route) × (dirty_after ≡ without folder dirty)

  -- the target's folder, and where it holds both names that one
  after_target : (b : Bool) → same_path (folder_of m.pair.target) (folder_of m.pair.source) ≡ b → dirty_after ≡ with_moves SyncTarget (if b then Finish else SyncSource) m.pair dirty → Leaves
  after_target false other left = (folder_of m.pair.target, left)
  after_target true same left =
      let folder : folder_of m.pair.target ≡ folder_of m.pair.source = same_path-true (folder_of m.pair.target) (folder_of m.pair.source) same in
      (folder_of m.pair.target, left ∙ (ap (λ q. without q (without (folder_of m.pair.target) dirty)) (sym folder) ∙ twice (λ kept. not (same_path kept (folder_of m.pair.target))) dirty))

  synced : (stage : MovingStage) → m.stage ≡ stage → is_dirty stage ≡ true → w ≡ record m { stage = after_sync m.pair m.stage } → dirty_after ≡ with_moves m.stage w.stage m.pair dirty → Leaves
  synced SyncTarget was owes is left =
      after_target (same_path (folder_of m.pair.target) (folder_of m.pair.source)) refl
      (between SyncTarget (after_sync m.pair SyncTarget) was (ap (λ (k : Moving). k.stage) is ∙ ap (after_sync m.pair) was) left)
  synced SyncSource was owes is left = (folder_of m.pair.source, between SyncSource Finish was (ap (λ (k : Moving). k.stage) is ∙ ap (after_sync m.pair) was) left)
  synced Take was owes is left = absurd (false≢true owes)
  synced Finish was owes is left = absurd (false≢true owes)
  synced PassedOver was owes is left = absurd (false≢true owes)

  pub folders_move : (replies : Replies) (did : Did) → Tells replies m did w → dirty_after ≡ with_moves m.stage w.stage m.pair dirty → FoldersMove did m.pair dirty dirty_after
  folders_move replies (Moved pair) (was, pair_is, is) left = inr (inl (ap Moved pair_is, between Take SyncTarget was (ap (λ (k : Moving). k.stage) is) left))
  folders_move replies Barrier (owes, is) left = let s = synced m.stage refl owes is left in inr (inr (s.0, refl, s.1))
  folders_move replies (Kept path) (was, path_is, is) left = inl (between Take PassedOver was (ap (λ (k : Moving). k.stage) is) left)
  folders_move replies (Skipped path cause) (was, path_is, kind, is) left = inl (between Take PassedOver was (ap (λ (k : Moving). k.stage) is) left)
  folders_move replies (Asked question) (was, is) left = inl (still is left)
  folders_move replies (Merges transfer pair names) (was, merge, is) left = inl (between Take PassedOver was (ap (λ (k : Moving). k.stage) is) left)
  folders_move replies (Troubled trouble) (barrier, goes, told, is) left = inl (still is left)
  folders_move replies (Ended Finished part) (over, none, is) left = inl (still is left)
  folders_move replies (Ended Aborted part) t left = absurd t
  folders_move replies (Ended Killed part) t left = absurd t
  folders_move replies (Ended NoMemory part) t left = absurd t
  folders_move replies (Began part) t left = absurd t
  folders_move replies (Chunk count) t left = absurd t
  folders_move replies (Placed path) t left = absurd t
  folders_move replies (Removed path) t left = absurd t
  folders_move replies (Made made) t left = absurd t
  folders_move replies (Set path) t left = absurd t
  folders_move replies (Cleaned part) t left = absurd t
