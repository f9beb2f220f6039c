-- A plan that is carried out, or not, ends the call as the tree's contract says, and keeps what a tree in memory keeps.
use Rattle.std.proofs.Common.{◌≡◌, ℤ, Bool, true, false, List, [], ◌∷◌, ◌++◌, refl, sym, ◌∙◌, ap, subst, Some, None, Result, Ok, Err}
use Rattle.std.specs.Prelude.{pos, IfOk}
use Rattle.tree_trait.specs.declared.file_system.NameEdit.{NameEdit}
use Rattle.tree_trait.specs.declared.file_system.FileSystem.{FileSystem}
use Rattle.tree_trait.specs.Calls.{Call, Stat, ListFolder, ReadAt, ReadLink, MakeFile, WriteAt, SetMode, MakeFolder, MakeLink, Rename, RemoveFile, RemoveFolder, SyncFile, SyncFolder}
use Rattle.tree_trait.specs.declared.calls.TreeError.{TreeError}
use Rattle.tree_trait.specs.declared.calls.TreeError.TheVariants.{Fault, Memory}
use Rattle.tree_trait.specs.Refusals.{refusal_of}
use Rattle.tree_trait.specs.Change.{Change, Nothing, CallLog, current, change_of, torn_write, with_change, after_change, after_changes}
use Rattle.tree_trait.specs.Answers.{Performs}
use Rattle.tree_trait.proofs.Settled.{after_changes-append}
use Rattle.mem_tree.specs.declared.record.Record.{Record}
use Rattle.mem_tree.specs.declared.step.Step.{Step}
use Rattle.mem_tree.specs.Records.{change_by, changes_by, after}
use Rattle.mem_tree.specs.Live.{standing, IsOnce}
use Rattle.mem_tree.specs.CallSteps.{step_change, torn_step, standing_after, IsPlaced, Plans, PlansTo, IsDone, Concludes}
use Rattle.mem_tree.specs.Held.{log_of, IsKept}
use Rattle.tree_trait.specs.Shape.{IsTree}
use Rattle.mem_tree.specs.Sound.{AllFit}
use Rattle.mem_tree.proofs.Leading.{once_leading}
use Rattle.mem_tree.proofs.Agree.{refusal_standing, change_standing, found_standing}
use Rattle.mem_tree.proofs.Standing.{IsNew, standing_change}
use Rattle.mem_tree.proofs.Sounds.{sound_after, fit_last}
use Rattle.mem_tree.proofs.Validity.{FitsCall, IsValid, valid_call, valid_torn}

changes_by-last : (old : List Record) (r : Record) → changes_by (old ++ r ∷ []) ≡ changes_by old ++ change_by r ∷ []
changes_by-last [] r = refl
changes_by-last (x ∷ old) r = ap (λ cs. change_by x ∷ cs) (changes_by-last old r)

-- a record more is a change more
grown : (old new : List Record) (r : Record) (c : Change) → new ≡ old ++ r ∷ [] → change_by r ≡ c → changes_by new ≡ changes_by old ++ c ∷ []
grown old new r c e f = ap changes_by e ∙ (changes_by-last old r ∙ ap (λ d. changes_by old ++ d ∷ []) f)

torn_standing : (s : FileSystem) (call : Call) → torn_write (standing s) call [] ≡ torn_write s call []
torn_standing s (WriteAt path offset bytes) = rw (found_standing s path) refl
torn_standing s (Stat path) = refl
torn_standing s (ListFolder path) = refl
torn_standing s (ReadAt path offset count) = refl
torn_standing s (ReadLink path) = refl
torn_standing s (MakeFile path mode) = refl
torn_standing s (SetMode path mode) = refl
torn_standing s (MakeFolder path mode) = refl
torn_standing s (MakeLink path text) = refl
torn_standing s (Rename from to) = refl
torn_standing s (RemoveFile path) = refl
torn_standing s (RemoveFolder path) = refl
torn_standing s (SyncFile path) = refl
torn_standing s (SyncFolder path) = refl

pub kept_done : (s : FileSystem) (old new : List Record) (stands stands' : FileSystem) (c : Change) → IsKept s old stands → IsValid (after s old) c → IsDone stands old c stands' new → IsKept s new stands'
kept_done s old new stands stands' c kept valid done =
    let cs : changes_by new ≡ changes_by old ++ c ∷ [] = grown old new done.done c done.recorded done.change in
    let now : after s new ≡ after_change (after s old) c = ap (after_changes s) cs ∙ after_changes-append s (changes_by old) (c ∷ []) in
    record {
      stands_is = done.stands ∙ (ap (λ (t : FileSystem). standing_after t c) kept.stands_is ∙ (standing_change (after s old) c valid.new ∙ ap (λ (t : FileSystem). standing t) (sym now)));
      sound = kept.sound;
      fits = subst (λ ds. AllFit s ds) (sym cs) (fit_last s (changes_by old) c kept.fits valid.fits);
      tree = λ t. subst IsTree (sym now) (valid.tree (kept.tree t));
    }

-- what a plan says of what stands it says of the tree
module _ (s : FileSystem) (old : List Record) (stands : FileSystem) (kept : IsKept s old stands) (call : Call) where
  refusal_now : refusal_of stands call ≡ refusal_of (after s old) call
  refusal_now = ap (λ t. refusal_of t call) kept.stands_is ∙ refusal_standing (after s old) call

  change_now : (time : ℤ) → change_of stands call time ≡ change_of (after s old) call time
  change_now time = ap (λ t. change_of t call time) kept.stands_is ∙ change_standing (after s old) call time

  torn_now : torn_write stands call [] ≡ torn_write (after s old) call []
  torn_now = ap (λ t. torn_write t call []) kept.stands_is ∙ torn_standing (after s old) call

  module _ (time : ℤ) (due : Bool) (plan : Result Step TreeError) (plans : Plans stands call time plan) (new : List Record) (stands' : FileSystem) where
    change_is : (step : Step) → plan ≡ Ok step → step_change stands step ≡ change_of (after s old) call time
    change_is step is = (subst (Plans stands call time) is plans).1.does ∙ change_now time

    torn_is : (step : Step) → plan ≡ Ok step → torn_step step ≡ torn_write (after s old) call []
    torn_is step is = (subst (Plans stands call time) is plans).1.fails ∙ torn_now

    allowed : (step : Step) → plan ≡ Ok step → refusal_of (after s old) call ≡ None
    allowed step is = sym refusal_now ∙ (subst (Plans stands call time) is plans).0

    pub kept_concluded : (A : Type 0) (result : Result A TreeError) → FitsCall call → Concludes stands old due plan result stands' new → IsKept s new stands'
    kept_concluded A (Ok x) fits h =
        let p = h.1 in
        kept_done s old new stands stands' (step_change stands p.0) kept
        (subst (IsValid (after s old)) (sym (change_is p.0 p.1)) (valid_call (after s old) call time (sound_after s (changes_by old) kept.sound kept.fits).nodes fits (allowed p.0 p.1))) p.2
    kept_concluded A (Err Fault) fits h =
        let p = h.1 in
        kept_done s old new stands stands' (torn_step p.0) kept
        (subst (IsValid (after s old)) (sym (torn_is p.0 p.1)) (valid_torn (after s old) call (allowed p.0 p.1))) p.2
    kept_concluded A (Err Memory) fits h = subst (λ rs. IsKept s rs stands') (sym h.1) (subst (IsKept s old) (sym h.0) kept)
    kept_concluded A (Err e) fits h = kept_done s old new stands stands' Nothing kept (record { fits = tt; new = tt; tree = λ t. t }) h.1

    logged : (c d : Change) → IsDone stands old c stands' new → c ≡ d → Some (log_of s new) ≡ Some (with_change (log_of s old) d)
    logged c d done is = ap (λ (cs : List Change). Some (let t : CallLog = record { opening = s; changes = cs } in t)) (grown old new done.done c done.recorded done.change ∙ ap (λ e. changes_by old ++ e ∷ []) is)

    pub Performs-concluded : (A : Type 0) (result : Result A TreeError) → Concludes stands old due plan result stands' new → Performs (log_of s old) call result (Some (log_of s new))
    Performs-concluded A (Ok x) h = let p = h.1 in (allowed p.0 p.1, (time, logged _ _ p.2 (change_is p.0 p.1)))
    Performs-concluded A (Err Fault) h = let p = h.1 in (allowed p.0 p.1, ([], logged _ _ p.2 (torn_is p.0 p.1)))
    Performs-concluded A (Err Memory) h = ap (λ rs. Some (log_of s rs)) h.1
    Performs-concluded A (Err e) h = (sym refusal_now ∙ subst (Plans stands call time) h.0 plans, logged Nothing Nothing h.1 refl)

pub once_kept : (s : FileSystem) (old : List Record) (stands : FileSystem) → IsKept s old stands → IsOnce stands.names
once_kept s old stands kept = subst (λ (t : FileSystem). IsOnce t.names) (sym kept.stands_is) (once_leading (after s old).names)

pub plan_placed : (s : FileSystem) (call : Call) (time : ℤ) (plan : Result Step TreeError) → Plans s call time plan → IfOk plan (IsPlaced s)
plan_placed s call time (Ok step) h = h.1.placed
plan_placed s call time (Err e) h = tt
