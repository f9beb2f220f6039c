-- A step at a folder, where it stands so; and the bits of the mode with which it is made.
use Rattle.std.proofs.Common.{◌≡◌, ℕ, ◌≤◌, sym, subst, Option, None, arith}
use Rattle.std.proofs.lemmas.Nat.{or_lt}
use Rattle.mc_text.specs.Routes.{Route}
use Rattle.tree_trait.specs.Change.{CallLog}
use Rattle.copy_folders.specs.declared.stage.Stage.{Stage}
use Rattle.copy_folders.specs.declared.stage.Stage.TheVariants.{Close}
use Rattle.copy_folders.specs.declared.stage.NamesState.{NamesState}
use Rattle.copy_folders.specs.declared.stage.NamesState.TheVariants.{Dirty}
use Rattle.copy_folders.specs.declared.work.AfterStep.{AfterStep}
use Rattle.copy_folders.specs.FolderCopying.{FolderCopying, copying, folder_mode}
use Rattle.copy_folders.specs.FolderSteps.{MovesOn, StepsOn, at_sync}

-- a folder's mode has twelve bits
pub folder_mode-bits : (mode : ℕ) → mode ≤ 0o7777 → folder_mode mode ≤ 0o7777
folder_mode-bits mode h = let e = or_lt 12 mode 448 (omega (arith, h)) (omega arith) in omega (arith, e)

-- where the folder stands at this stage
pub moves_at : (target : Route) (stage at : Stage) (names : NamesState) (moved : AfterStep) (before after : Option CallLog) (f0 f1 : ℕ)
    → stage ≡ at → ((source : Route) → MovesOn (copying source target at names) moved before after f0 f1) → (source : Route) → MovesOn (copying source target stage names) moved before after f0 f1
moves_at target stage at names moved before after f0 f1 is m = λ source.
    subst (λ s. MovesOn (copying source target s names) moved before after f0 f1) (sym is) (m source)

-- where its names are so
pub moves_with : (target : Route) (stage : Stage) (names with_names : NamesState) (moved : AfterStep) (before after : Option CallLog) (f0 f1 : ℕ)
    → names ≡ with_names → ((source : Route) → MovesOn (copying source target stage with_names) moved before after f0 f1) → (source : Route) → MovesOn (copying source target stage names) moved before after f0 f1
moves_with target stage names with_names moved before after f0 f1 is m = λ source.
    subst (λ n. MovesOn (copying source target stage n) moved before after f0 f1) (sym is) (m source)

-- the step of a folder that is seen so
pub steps_from : (old : FolderCopying) (source target : Route) (stage : Stage) (names : NamesState) (moved : AfterStep) (before after : Option CallLog) (f0 f1 : ℕ)
    → copying source target stage names ≡ old → StepsOn (copying source target stage names) (copying source target moved.stage moved.names) moved.did moved.calls before after f0 f1
    → StepsOn old (copying source target moved.stage moved.names) moved.did moved.calls before after f0 f1
steps_from old source target stage names moved before after f0 f1 view s =
    subst (λ (c : FolderCopying). StepsOn c (copying source target moved.stage moved.names) moved.did moved.calls before after f0 f1) view s

-- the sync of a folder that is seen so
pub syncs_from : (old : FolderCopying) (source target : Route) (stage : Stage) (names : NamesState) (moved : AfterStep) (before after : Option CallLog) (f0 f1 : ℕ)
    → copying source target stage names ≡ old → moved.stage ≡ Close None
    → StepsOn (copying source target (Close None) Dirty) (copying source target moved.stage moved.names) moved.did moved.calls before after f0 f1
    → StepsOn (at_sync old) (record (at_sync old) { names = moved.names }) moved.did moved.calls before after f0 f1
syncs_from old source target stage names moved before after f0 f1 view stays s =
    subst (λ (c : FolderCopying). StepsOn (at_sync c) (record (at_sync c) { names = moved.names }) moved.did moved.calls before after f0 f1) view
    (subst (λ (at : Stage). StepsOn (copying source target (Close None) Dirty) (copying source target at moved.names) moved.did moved.calls before after f0 f1) stays s)
