-- The trouble that a refused reading comes to.
use Rattle.std.proofs.Common.{◌≡◌, ℕ, refl, sym, subst, Err}
use Rattle.mc_text.specs.Routes.{Route}
use Rattle.tree_trait.specs.declared.calls.TreeError.{TreeError}
use Rattle.tree_trait.specs.declared.calls.TreeError.TheVariants as refused
use Rattle.tree_trait.specs.Calls.{ReadAt}
use Rattle.tree_trait.specs.Change.{CallLog, current}
use Rattle.tree_trait.specs.Answers.{Reads}
use Rattle.job_reports.specs.declared.report.Cause.TheVariants.{Tree}
use Rattle.job_reports.specs.declared.report.Trouble.{Trouble}
use Rattle.job_reports.specs.Stops.{IsReadingTrouble}
use Rattle.job_reports.proofs.Reading.{told}
use Rattle.copy_file.specs.declared.stage.SourceFacts.{SourceFacts}
use Rattle.copy_file.specs.CopyCalls.{ReadStops, room_for}

-- the refusal of a reading
read_told : {A : Type 0} (P : A → Type 0) (log : CallLog) (source : Route) (facts : SourceFacts) (done : ℕ) (e : TreeError) (t : Trouble)
    → Reads {A = A} log (ReadAt source done (room_for facts done)) (Err e) P → IsReadingTrouble e source t → ReadStops (current log) source facts done t.cause t.path
read_told P log source facts done refused.Memory t h is = subst (λ (u : Trouble). ReadStops (current log) source facts done u.cause u.path) (sym is) refl
read_told P log source facts done e t h is = told (λ u. ReadStops (current log) source facts done u.cause u.path) (Tree e) source t is (refl, h) refl

pub read_stops : {A : Type 0} (P : A → Type 0) (log : CallLog) (from of source : Route) (facts : SourceFacts) (done count : ℕ) (e : TreeError) (t : Trouble)
    → from ≡ source → of ≡ source → count ≡ room_for facts done
    → Reads {A = A} log (ReadAt from done count) (Err e) P → IsReadingTrouble e of t → ReadStops (current log) source facts done t.cause t.path
read_stops {A = A} P log from of source facts done count e t from_is of_is count_is h is =
    read_told P log source facts done e t
    (subst (λ n. Reads {A = A} log (ReadAt source done n) (Err e) P) count_is (subst (λ q. Reads {A = A} log (ReadAt q done count) (Err e) P) from_is h))
    (subst (λ q. IsReadingTrouble e q t) of_is is)
