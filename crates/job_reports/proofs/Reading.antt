-- The trouble that a refused look comes to.
use Rattle.std.proofs.Common.{◌≡◌, ℕ, false, refl, sym, subst, inl, inr, Option, Some, None, Ok, Err}
use Rattle.mc_text.specs.Routes.{Route}
use Rattle.tree_trait.specs.declared.calls.TreeError.{TreeError}
use Rattle.tree_trait.specs.declared.calls.TreeError.TheVariants as refused
use Rattle.tree_trait.specs.Calls.{Stat}
use Rattle.tree_trait.specs.Change.{CallLog, current}
use Rattle.tree_trait.specs.Refusals.{refusal_of}
use Rattle.tree_trait.specs.Answers.{HasCause, Reads}
use Rattle.job_reports.specs.declared.report.Cause.{Cause}
use Rattle.job_reports.specs.declared.report.Cause.TheVariants.{Tree, Memory}
use Rattle.job_reports.specs.declared.report.Trouble.{Trouble}
use Rattle.job_reports.specs.Reading.{Peeks, StatStops, TargetStops}
use Rattle.job_reports.specs.Stops.{IsMissingOrTrouble, IsTroubleWithPath, IsReadingTrouble}

-- a trouble that is told has one of two forms
pub told : (P : Trouble → Type 0) (cause : Cause) (path : Route) (t : Trouble) → IsTroubleWithPath cause path t
    → P (record { cause = cause; path = Some path; barrier = false }) → P (record { cause = Memory; path = None; barrier = false }) → P t
told P cause path t (inl is) named none = subst P (sym is) named
told P cause path t (inr is) named none = subst P (sym is) none

-- the refusal of a look
pub stat_stops : {A : Type 0} (P : A → Type 0) (log : CallLog) (look : Route) (e : TreeError) (t : Trouble)
    → Reads {A = A} log (Stat look) (Err e) P → IsReadingTrouble e look t → StatStops (current log) look t.cause t.path
stat_stops P log look refused.Memory t h is = subst (λ (u : Trouble). StatStops (current log) look u.cause u.path) (sym is) refl
stat_stops P log look e t h is = told (λ u. StatStops (current log) look u.cause u.path) (Tree e) look t is (refl, h) refl

-- a refusal with another error than that nothing is there
pub not_missing : (look : Route) (e : TreeError) (t : Trouble) → (e ≡ refused.Missing → ⊥) → IsReadingTrouble e look t → t.cause ≡ Tree refused.Missing → ⊥
not_missing look refused.Memory t other is = subst (λ (u : Trouble). u.cause ≡ Tree refused.Missing → ⊥) (sym is) (λ h. cc)
not_missing look e t other is = told (λ u. u.cause ≡ Tree refused.Missing → ⊥) (Tree e) look t is (λ h. other cc) (λ h. cc)

-- a fault that is told was answered
pub fault_told : (look : Route) (e : TreeError) (t : Trouble) → IsReadingTrouble e look t → t.cause ≡ Tree refused.Fault → e ≡ refused.Fault
fault_told look refused.Memory t is = subst (λ (u : Trouble). u.cause ≡ Tree refused.Fault → refused.Memory ≡ refused.Fault) (sym is) (λ h. absurd cc)
fault_told look e t is = told (λ u. u.cause ≡ Tree refused.Fault → e ≡ refused.Fault) (Tree e) look t is (λ h. cc) (λ h. absurd cc)

-- what is told is no trouble at a barrier
pub told_apart : (look : Route) (e : TreeError) (t : Trouble) → IsReadingTrouble e look t → t.barrier ≡ false
told_apart look refused.Memory t is = subst (λ (u : Trouble). u.barrier ≡ false) (sym is) refl
told_apart look e t is = told (λ u. u.barrier ≡ false) (Tree e) look t is refl refl

-- a refused look at a thing
pub peeks_told : {A B : Type 0} (look : Route) (e : TreeError) (t : Trouble) (before after : Option CallLog) (f0 f1 : ℕ)
    → IsReadingTrouble e look t → after ≡ before → HasCause {T = B} refused.Fault f0 f1 (Err e) → Peeks {A = A} (Err t) before after f0 f1
peeks_told look e t before after f0 f1 is same cause = record {
  same = same;
  later = cause.later;
  fault = λ h. cause.risen (let f = fault_told look e t is h in cc);
  apart = told_apart look e t is;
}

-- a look at what may be missing was refused otherwise
pub absent_told : (look : Route) (e : TreeError) (t : Trouble) → IsMissingOrTrouble e look (Err t) → (e ≡ refused.Missing → ⊥) × IsReadingTrouble e look t
absent_told look refused.Missing t h = absurd h
absent_told look e t h = ((λ is. cc), h)

pub absent_stops : {A : Type 0} (P : A → Type 0) (log : CallLog) (look : Route) (e : TreeError) (t : Trouble)
    → Reads {A = A} log (Stat look) (Err e) P → IsMissingOrTrouble e look (Err t) → TargetStops (current log) look t.cause t.path
absent_stops P log look e t h is =
    let split = absent_told look e t is in
    (stat_stops P log look e t h split.1, not_missing look e t split.0 split.1)

pub peeks_absent : {A B : Type 0} (look : Route) (e : TreeError) (t : Trouble) (before after : Option CallLog) (f0 f1 : ℕ)
    → IsMissingOrTrouble e look (Err t) → after ≡ before → HasCause {T = B} refused.Fault f0 f1 (Err e) → Peeks {A = A} (Err t) before after f0 f1
peeks_absent look e t before after f0 f1 is = peeks_told look e t before after f0 f1 (absent_told look e t is).1

-- nothing is there
pub absent_missing : {A : Type 0} (P : A → Type 0) (log : CallLog) (look : Route) (e : TreeError) (done : Unit {0})
    → Reads {A = A} log (Stat look) (Err e) P → IsMissingOrTrouble e look (Ok done) → refusal_of (current log) (Stat look) ≡ Some refused.Missing
absent_missing P log look refused.Missing done h is = h
absent_missing P log look e done h is = absurd is
