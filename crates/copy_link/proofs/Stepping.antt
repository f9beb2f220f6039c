-- A link that can't be read; and a step of a copy, where it stands so.
use Rattle.std.proofs.Common.{◌≡◌, ℕ, refl, sym, subst, Option, Err}
use Rattle.mc_text.specs.Routes.{Route}
use Rattle.tree_trait.specs.declared.calls.TreeError.{TreeError}
use Rattle.tree_trait.specs.declared.calls.TreeError.TheVariants as refused
use Rattle.tree_trait.specs.Calls.{ReadLink}
use Rattle.tree_trait.specs.Change.{CallLog, current}
use Rattle.tree_trait.specs.Answers.{Reads}
use Rattle.job_reports.specs.declared.report.Cause.TheVariants.{Tree}
use Rattle.job_reports.specs.declared.report.Trouble.{Trouble}
use Rattle.job_reports.specs.Stops.{IsReadingTrouble}
use Rattle.job_reports.proofs.Reading.{told}
use Rattle.copy_file.specs.declared.stage.FolderState.{FolderState}
use Rattle.copy_link.specs.declared.stage.Stage.{Stage}
use Rattle.copy_link.specs.declared.work.AfterStep.{AfterStep}
use Rattle.copy_link.specs.LinkCopying.{LinkCopying, LinkPlaces, copying}
use Rattle.copy_link.specs.LinkSteps.{MovesOn, ReadStops, StepsOn}

-- the refusal of a reading
pub read_stops : {A : Type 0} (P : A → Type 0) (log : CallLog) (source : Route) (e : TreeError) (t : Trouble)
    → Reads {A = A} log (ReadLink source) (Err e) P → IsReadingTrouble e source t → ReadStops (current log) source t.cause t.path
read_stops P log source refused.Memory t h is = subst (λ (u : Trouble). ReadStops (current log) source u.cause u.path) (sym is) refl
read_stops P log source e t h is = told (λ u. ReadStops (current log) source u.cause u.path) (Tree e) source t is (refl, h) refl

-- where the copy stands at this stage
pub moves_at : (p : LinkPlaces) (stage at : Stage) (folder : FolderState) (moved : AfterStep) (before after : Option CallLog) (f0 f1 : ℕ)
    → stage ≡ at → MovesOn (copying p at folder) moved before after f0 f1 → MovesOn (copying p stage folder) moved before after f0 f1
moves_at p stage at folder moved before after f0 f1 is m = subst (λ s. MovesOn (copying p s folder) moved before after f0 f1) (sym is) m

-- the step of a copy that is seen so
pub steps_from : (old : LinkCopying) (p : LinkPlaces) (stage : Stage) (folder : FolderState) (moved : AfterStep) (before after : Option CallLog) (f0 f1 : ℕ)
    → copying p stage folder ≡ old → MovesOn (copying p stage folder) moved before after f0 f1
    → StepsOn old (copying p moved.stage moved.folder) moved.did moved.calls before after f0 f1
steps_from old p stage folder moved before after f0 f1 view s =
    subst (λ (c : LinkCopying). StepsOn c (copying p moved.stage moved.folder) moved.did moved.calls before after f0 f1) view s
