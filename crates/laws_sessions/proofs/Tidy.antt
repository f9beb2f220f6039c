-- Which dirty paths a step of a job leaves: a job that has changed something, and owes no sync, has none of its own.
use Rattle.std.proofs.Common.{◌≡◌, ◌⊎◌, Bool, true, false, List, [], ◌∷◌, refl, sym, ◌∙◌, ap, subst, inl, inr, Option, Some}
use Rattle.std.specs.Prelude.{◌||◌, if◌then◌else◌}
use Rattle.std.proofs.lemmas.Bool.{true≢false, false≢true, both_ways}
use Rattle.mc_text.specs.Routes.{Route, same_path}
use Rattle.tree_trait.specs.Change.{CallLog}
use Rattle.tree_trait.specs.CrashImages.{Among}
use Rattle.tree_trait.proofs.Visible.{same_path-self}
use Rattle.job_answers.specs.declared.replies.Replies.{Replies}
use Rattle.job_reports.specs.declared.job.Pair.{Pair}
use Rattle.job_reports.specs.declared.report.Ending.TheVariants.{Finished, Aborted, Killed, NoMemory}
use Rattle.job_reports.specs.declared.report.Did.{Did}
use Rattle.job_reports.specs.declared.report.Did.TheVariants.{Began, Chunk, Placed, Removed, Made, Set, Kept, Skipped, Cleaned, Barrier, Asked, Merges, Moved, Troubled, Ended}
use Rattle.copy_move.specs.declared.run.Course.{Course}
use Rattle.copy_move.specs.declared.run.Course.TheVariants.{GoesOn, Asking, InTrouble, OwedSyncFailed, Skips, Ends}
use Rattle.copy_move.specs.declared.work.Work.{Work}
use Rattle.make_job.specs.declared.making.MakingStage.{MakingStage}
use Rattle.make_job.specs.declared.making.MakingStage.TheVariants as making
use Rattle.copy_move.specs.declared.work.Work.TheVariants.{Copy, Delete, Make, Move, SetMode, RemoveEmptied}
use Rattle.make_job.specs.Makings.{Making}
use Rattle.make_job.specs.Makings as makings
use Rattle.move_job.specs.declared.moving.MovingStage.{MovingStage}
use Rattle.move_job.specs.declared.moving.MovingStage.TheVariants as moving
use Rattle.move_job.specs.Movings.{Moving}
use Rattle.move_job.specs.Movings as movings
use Rattle.emptied_job.specs.declared.removal.RemovalStage.{RemovalStage}
use Rattle.emptied_job.specs.declared.removal.RemovalStage.TheVariants as removal
use Rattle.emptied_job.specs.Removals.{Removing}
use Rattle.emptied_job.specs.Removals as removals
use Rattle.mode_job.specs.Settings.{Setting}
use Rattle.mode_job.specs.Settings as settings
use Rattle.copy_tree.specs.Reports.{changes}
use Rattle.copy_tree.specs.Standing.{after_report, is_fresh as is_fresh_tree}
use Rattle.copy_tree.specs.declared.copy.Stage.{Stage as TreeStage}
use Rattle.copy_tree.specs.declared.copy.Stage.TheVariants.{Going as TreeGoing}
use Rattle.copy_move.specs.Jobs.{PassesOver, Running, TellsOn, WorkTells}
use Rattle.copy_move.specs.Settling.{WorkLeaves, with_change}
use Rattle.mode_job.proofs.DirtySettings.{setting_stays}
use Rattle.make_job.proofs.MakingFolders.{making_stays}
use Rattle.job_reports.specs.Paths.{folder_of, without}
use Rattle.copy_move.specs.JobStepReports.{LeavesDirty}
use Rattle.session_entries.specs.Named.{begins_change}
use Rattle.laws_sessions.specs.Traces.{WorkLeads}
use Rattle.laws_sessions.proofs.MoveKnown.{is_moved}
use Rattle.laws_sessions.proofs.Sources.{removal_stays}
use Rattle.laws_sessions.proofs.Unchanged.{skip_setting}

-- the making of a thing that begins a change is dirty then
making_dirty : (m new : Making) (did : Did) → makings.Tells m did new → begins_change did ≡ true → makings.is_dirty new.stage ≡ true
making_dirty m new (Made path) (stage, path_is, new_is) h = ap (λ (x : Making). makings.is_dirty x.stage) new_is
making_dirty m new (Began part) t h = absurd t
making_dirty m new (Removed path) t h = absurd t
making_dirty m new (Set path) t h = absurd t
making_dirty m new (Moved pair) t h = absurd t
making_dirty m new did t h = absurd (false≢true h)

-- so is a mode that is given
setting_dirty : (replies : Replies) (s new : Setting) (did : Did) → settings.Tells replies s did new → begins_change did ≡ true → settings.is_dirty new.stage ≡ true
setting_dirty replies s new (Set path) (stage, path_is, new_is) h = ap (λ (x : Setting). settings.is_dirty x.stage) new_is
setting_dirty replies s new (Began part) t h = absurd t
setting_dirty replies s new (Removed path) t h = absurd t
setting_dirty replies s new (Made path) t h = absurd t
setting_dirty replies s new (Moved pair) t h = absurd t
setting_dirty replies s new did t h = absurd (false≢true h)

-- and the removal of an emptied folder
removal_dirty : (replies : Replies) (r new : Removing) (did : Did) → removals.Tells replies r did new → begins_change did ≡ true → removals.is_dirty new.stage ≡ true
removal_dirty replies r new (Removed path) (stage, path_is, new_is) h = ap (λ (x : Removing). removals.is_dirty x.stage) new_is
removal_dirty replies r new (Began part) t h = absurd t
removal_dirty replies r new (Made path) t h = absurd t
removal_dirty replies r new (Set path) t h = absurd t
removal_dirty replies r new (Moved pair) t h = absurd t
removal_dirty replies r new did t h = absurd (false≢true h)

skipped_moved : (stage : MovingStage) → is_moved (movings.skipped_stage stage) ≡ is_moved stage
skipped_moved moving.Take = refl
skipped_moved moving.SyncTarget = refl
skipped_moved moving.SyncSource = refl
skipped_moved moving.Finish = refl
skipped_moved moving.PassedOver = refl

synced_moved : (pair : Pair) (stage : MovingStage) → is_moved stage ≡ true → is_moved (movings.after_sync pair stage) ≡ true
synced_moved pair moving.Take h = h
synced_moved pair moving.SyncTarget h = by (same_path (folder_of pair.target) (folder_of pair.source))
  where
    by : (b : Bool) → is_moved (if◌then◌else◌ b moving.Finish moving.SyncSource) ≡ true
    by true = refl
    by false = refl
synced_moved pair moving.SyncSource h = refl
synced_moved pair moving.Finish h = refl
synced_moved pair moving.PassedOver h = h

-- a thing that was renamed, or is so now
moving_moved : (replies : Replies) (m new : Moving) (did : Did) → movings.Tells replies m did new → ((begins_change did ≡ true → ⊥) → is_moved m.stage ≡ true) → is_moved new.stage ≡ true
moving_moved replies m new (Moved pair) (stage, pair_is, new_is) old = ap (λ (x : Moving). is_moved x.stage) new_is
moving_moved replies m new Barrier (dirty, new_is) old = ap (λ (x : Moving). is_moved x.stage) new_is ∙ synced_moved m.pair m.stage (old (λ h. false≢true h))
moving_moved replies m new (Kept path) (stage, path_is, new_is) old = absurd (both_ways _ (ap is_moved stage) (old (λ h. false≢true h)))
moving_moved replies m new (Skipped path why) (stage, path_is, passes, new_is) old = absurd (both_ways _ (ap is_moved stage) (old (λ h. false≢true h)))
moving_moved replies m new (Merges transfer pair names) (stage, merges, new_is) old = absurd (both_ways _ (ap is_moved stage) (old (λ h. false≢true h)))
moving_moved replies m new (Asked question) (stage, new_is) old = ap (λ (x : Moving). is_moved x.stage) new_is ∙ old (λ h. false≢true h)
moving_moved replies m new (Troubled trouble) (barrier, off, told, new_is) old = ap (λ (x : Moving). is_moved x.stage) new_is ∙ old (λ h. false≢true h)
moving_moved replies m new (Ended Finished part) (is_done, part_is, new_is) old = ap (λ (x : Moving). is_moved x.stage) new_is ∙ old (λ h. false≢true h)
moving_moved replies m new did t old = absurd t

-- a folder that was synced is no longer listed
pub not_listed : (up : Route) (routes : List Route) → Among (without up routes) up → ⊥
not_listed up [] among = among
not_listed up (first ∷ routes) among = by (same_path first up) refl among (not_listed up routes)
  where
    by : (b : Bool) → same_path first up ≡ b → Among (without up (first ∷ routes)) up → (Among (without up routes) up → ⊥) → ⊥
    by true is among rest = rest (rw is at among)
    by false is among rest = elim (rw is at among) [ inl same ↦ both_ways _ is (subst (λ q. same_path q up ≡ true) same (same_path-self up)) | inr later ↦ rest later ]

pub neither : (a b : Bool) → (a || b) ≡ false → (a ≡ false) × (b ≡ false)
neither true b h = absurd (true≢false h)
neither false b h = (refl, h)

-- a job that is to end early is aborted
abbrev pub IsGoing : Course → Type 0
IsGoing (Ends ending) = ⊥
IsGoing GoesOn = Unit {0}
IsGoing (InTrouble halt) = Unit {0}
IsGoing (OwedSyncFailed why) = Unit {0}
IsGoing Asking = Unit {0}
IsGoing (Skips why) = Unit {0}

-- where the folder of a new thing isn't dirty, it isn't listed; nor that of an emptied folder, nor a thing that was given a mode; a copy has begun, and a moved thing was
-- renamed
abbrev pub TidyFolder : Work → List Route → Type 0
TidyFolder (Copy c) dirty = is_fresh_tree c.at.stage ≡ false
TidyFolder (Delete d) dirty = Unit {0}
TidyFolder (Make m) dirty = makings.is_dirty m.stage ≡ false → Among dirty (folder_of m.path) → ⊥
TidyFolder (Move m) dirty = is_moved m.stage ≡ true
TidyFolder (SetMode s) dirty = settings.is_dirty s.stage ≡ false → Among dirty s.path → ⊥
TidyFolder (RemoveEmptied r) dirty = removals.is_dirty r.stage ≡ false → Among dirty (folder_of r.path) → ⊥

-- what is known of a job that has changed something
abbrev pub IsTidy : Bool → List Route → Running → Type 0
IsTidy changed dirty job = changed ≡ true → IsGoing job.course → TidyFolder job.work dirty

pub changed_by : (before begins : Bool) → (before || begins) ≡ true → (before ≡ true) ⊎ (begins ≡ true)
changed_by true begins h = inl refl
changed_by false begins h = inr h

-- by whether the folder was dirty before
tidy_by : (was now : Bool) (folder up : Route) (dirty dirty_after : List Route) → dirty_after ≡ with_change was now folder dirty → up ≡ folder → (was ≡ false → Among dirty folder → ⊥) → now ≡ false → Among dirty_after up → ⊥
tidy_by true now folder up dirty dirty_after leaves same old clean among =
    not_listed folder dirty (subst (λ q. Among (without folder dirty) q) same (subst (λ xs. Among xs up) (leaves ∙ ap (λ b. with_change true b folder dirty) clean) among))
tidy_by false now folder up dirty dirty_after leaves same old clean among =
    old refl (subst (λ q. Among dirty q) same (subst (λ xs. Among xs up) (leaves ∙ ap (λ b. with_change false b folder dirty) clean) among))

-- a copy has changed something then
going_then : (did : Did) (stage : TreeStage) → begins_change did ≡ true → is_fresh_tree (after_report did stage) ≡ false
going_then (Began part) stage h = refl
going_then (Removed path) stage h = refl
going_then (Made path) stage h = refl
going_then (Set path) stage h = refl
going_then (Moved pair) stage h = refl
going_then did stage h = absurd (false≢true h)

going_still : (did : Did) (stage : TreeStage) → is_fresh_tree stage ≡ false → is_fresh_tree (after_report did stage) ≡ false
going_still did stage going = by (changes did)
  where
    by : (b : Bool) → is_fresh_tree (if◌then◌else◌ b TreeGoing stage) ≡ false
    by true = refl
    by false = going

tree_begun : (did : Did) (stage new : TreeStage) → new ≡ after_report did stage → ((begins_change did ≡ true → ⊥) → is_fresh_tree stage ≡ false) → is_fresh_tree new ≡ false
tree_begun did stage new is old = ap is_fresh_tree is ∙ by (begins_change did) refl
  where
    by : (b : Bool) → begins_change did ≡ b → is_fresh_tree (after_report did stage) ≡ false
    by true h = going_then did stage h
    by false h = going_still did stage (old (λ begins. both_ways _ h begins))

tidy_work : (replies : Replies) (old new : Work) (did : Did) (dirty dirty_after : List Route) (before after : Option CallLog) → WorkTells replies old did new → WorkLeaves old did new dirty dirty_after before after
    → ((begins_change did ≡ true → ⊥) → TidyFolder old dirty) → TidyFolder new dirty_after
tidy_work replies (Copy c) (Copy new) did dirty dirty_after before after tells leaves old = let a = tells.after in tree_begun did c.at.stage new.at.stage a.stage old
tidy_work replies (Delete d) (Delete new) did dirty dirty_after before after tells leaves old = tt
tidy_work replies (SetMode s) (SetMode new) did dirty dirty_after before after tells leaves old = λ clean among.
    tidy_by (settings.is_dirty s.stage) (settings.is_dirty new.stage) s.path new.path dirty dirty_after leaves (setting_stays replies s new did tells) (old (λ h. both_ways _ clean (setting_dirty replies s new did tells h))) clean among
tidy_work replies (Make m) (Make new) did dirty dirty_after before after tells leaves old = λ clean among.
    tidy_by (makings.is_dirty m.stage) (makings.is_dirty new.stage) (folder_of m.path) (folder_of new.path) dirty dirty_after leaves (ap folder_of (making_stays m new did tells)) (old (λ h. both_ways _ clean (making_dirty m new did tells h))) clean among
tidy_work replies (Move m) (Move new) did dirty dirty_after before after tells leaves old = moving_moved replies m new did tells old
tidy_work replies (RemoveEmptied r) (RemoveEmptied new) did dirty dirty_after before after tells leaves old = λ clean among.
    tidy_by (removals.is_dirty r.stage) (removals.is_dirty new.stage) (folder_of r.path) (folder_of new.path) dirty dirty_after leaves (ap folder_of (removal_stays replies r new did tells)) (old (λ h. both_ways _ clean (removal_dirty replies r new did tells h))) clean among
tidy_work replies work new did dirty dirty_after before after tells leaves old = absurd tells

skipped_clean : (stage : MakingStage) → makings.is_dirty (makings.skipped_stage stage) ≡ makings.is_dirty stage
skipped_clean making.Make = refl
skipped_clean making.Sync = refl
skipped_clean making.Finish = refl
skipped_clean making.PassedOver = refl

skip_removal : (stage : RemovalStage) → removals.is_dirty (removals.skipped_stage stage) ≡ removals.is_dirty stage
skip_removal removal.Remove = refl
skip_removal removal.Sync = refl
skip_removal removal.Finish = refl
skip_removal removal.PassedOver = refl

tidy_passes : (old new : Work) (path : Route) (dirty : List Route) → PassesOver old path new → TidyFolder old dirty → TidyFolder new dirty
tidy_passes (Copy c) (Copy new) path dirty (cause, after) old = ap is_fresh_tree after.stage ∙ old
tidy_passes (Delete d) (Delete new) path dirty h old = tt
tidy_passes (Make m) (Make new) path dirty (path_is, new_is) old = subst (λ (n : Making). TidyFolder (Make n) dirty) (sym new_is) (λ clean among. old (sym (skipped_clean m.stage) ∙ clean) among)
tidy_passes (Move m) (Move new) path dirty (path_is, new_is) old = ap (λ (x : Moving). is_moved x.stage) new_is ∙ (skipped_moved m.stage ∙ old)
tidy_passes (SetMode s) (SetMode new) path dirty (path_is, new_is) old =
    subst (λ (n : Setting). TidyFolder (SetMode n) dirty) (sym new_is) (λ clean among. old (sym (skip_setting s.stage) ∙ clean) among)
tidy_passes (RemoveEmptied r) (RemoveEmptied new) path dirty (path_is, new_is) old =
    subst (λ (n : Removing). TidyFolder (RemoveEmptied n) dirty) (sym new_is) (λ clean among. old (sym (skip_removal r.stage) ∙ clean) among)
tidy_passes work new path dirty h old = absurd h

module _ (job new : Running) (did : Did) (dirty dirty_after : List Route) (log now : CallLog) (before : Bool) where
  tidy_on : (course : Course) → job.course ≡ course → TellsOn course job did new → LeavesDirty course job.work did new.work dirty dirty_after (Some log) (Some now) → IsTidy before dirty job → IsTidy (before || begins_change did) dirty_after new
  tidy_on GoesOn is (work, tells, new_is) leaves old changed going =
      subst (λ (x : Running). TidyFolder x.work dirty_after) (sym new_is)
      (tidy_work job.replies job.work work did dirty dirty_after (Some log) (Some now) tells (subst (λ (x : Running). WorkLeaves job.work did x.work dirty dirty_after (Some log) (Some now)) new_is leaves)
      (λ none. elim (changed_by before (begins_change did) changed) [ inl b ↦ old b (subst IsGoing (sym is) tt) | inr h ↦ absurd (none h) ]))
  tidy_on (InTrouble halt) is t leaves old changed going = absurd t
  tidy_on (OwedSyncFailed why) is t leaves old changed going = absurd t
  tidy_on Asking is t leaves old changed going = absurd t
  tidy_on (Skips why) is (inl (path, work, did_is, passes, new_is)) leaves old changed going =
      subst (λ (x : Running). TidyFolder x.work dirty_after) (sym new_is) (subst (λ xs. TidyFolder work xs) (sym leaves) (tidy_passes job.work work path dirty passes
      (elim (changed_by before (begins_change did) changed) [ inl b ↦ old b (subst IsGoing (sym is) tt) | inr h ↦ absurd (false≢true (sym (ap begins_change did_is) ∙ h)) ])))
  tidy_on (Skips why) is (inr (off, did_is, new_is)) leaves old changed going =
      subst (λ (x : Running). TidyFolder x.work dirty_after) (sym new_is) (subst (λ xs. TidyFolder job.work xs) (sym leaves)
      (elim (changed_by before (begins_change did) changed) [ inl b ↦ old b (subst IsGoing (sym is) tt) | inr h ↦ absurd (false≢true (sym (ap begins_change did_is) ∙ h)) ]))
  tidy_on (Ends ending) is (work, winds, new_is) leaves old changed going = absurd (subst IsGoing (ap (λ (x : Running). x.course) new_is ∙ is) going)

  pub tidy_works : WorkLeads job did new dirty dirty_after log now → IsTidy before dirty job → IsTidy (before || begins_change did) dirty_after new
  tidy_works w old = tidy_on job.course refl w.tells w.leaves old
