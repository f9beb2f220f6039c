-- The last try of a sync, behind a look at what stands at the path.
use Rattle.std.proofs.Common.{◌≡◌, ◌⊎◌, ℕ, ◌≤◌, refl, sym, ◌∙◌, ap, subst, inl, inr, Option, Some, None, Result, Ok, Err, arith}
use Rattle.mc_text.specs.Routes.{Route}
use Rattle.mc_text.specs.declared.kind.Kind.{Kind}
use Rattle.tree_trait.specs.FileSystem.{node}
use Rattle.tree_trait.specs.Change.{CallLog, current, found_node}
use Rattle.tree_trait.specs.Answers.{HasCause, IfKnown, Performs, Reads}
use Rattle.tree_trait.specs.declared.calls.TreeError.{TreeError}
use Rattle.tree_trait.specs.declared.calls.TreeError.TheVariants.{Fault, Memory}
use Rattle.tree_trait.specs.Calls.{Stat}
use Rattle.job_reports.specs.declared.report.Did.TheVariants.{Barrier}
use Rattle.job_reports.specs.declared.report.LastStepResult.{LastStepResult}
use Rattle.job_reports.specs.CallRuns.{HasMore}
use Rattle.job_reports.specs.Reading.{IsRefusedWith}
use Rattle.job_reports.specs.Stops.{refusal_in}
use Rattle.job_reports.proofs.Runs.{no_more, risen_before}
use Rattle.job_reports.proofs.Tried.{counts_try, fault_tried, tries_few}
use Rattle.mode_job.specs.SettingSteps.{SyncTried, TellsTried, TriedSync, sync_by, sync_of}

-- the look told what stands there, and the sync was tried
pub tried_behind : (path : Route) (kind : Kind) (answer : Result (Unit {0}) TreeError) (last : LastStepResult) (before mid after : Option CallLog) (f0 f1 f2 : ℕ)
    → IfKnown before (λ log. kind ≡ (node (current log) (found_node (current log) path)).kind) → mid ≡ before → f0 ≤ f1
    → IfKnown mid (λ log. Performs {A = Unit {0}} log (sync_by kind path) answer after) → (mid ≡ None → after ≡ None) → HasCause Fault f1 f2 answer → TriedSync answer last
    → SyncTried path last before after f0 f2
tried_behind path kind answer last before mid after f0 f1 f2 is same least performs unknown cause told = record {
  did = told.did;
  told = λ log known.
      subst (λ l. TellsTried path l log after) (sym told.left)
      (tells answer log (subst (λ k. Performs {A = Unit {0}} log (sync_by k path) answer after) (is log known) (performs log (same ∙ known))));
  counted = λ log known now at. subst (λ n. HasMore log n now) (sym told.calls) (counts_try (sync_by kind path) answer log now after (performs log (same ∙ known)) at);
  few = let most = tries_few answer in let calls = told.calls in omega (arith, most, calls);
  unknown = λ none. unknown (same ∙ none);
  later = let most = cause.later in omega (arith, least, most);
  fault = λ h. risen_before f0 f1 f2 least (fault_tried answer last.left f1 f2 told.left cause h);
}
  where
    tells : (a : Result (Unit {0}) TreeError) (log : CallLog) → Performs {A = Unit {0}} log (sync_of (current log) path) a after → TellsTried path (refusal_in a) log after
    tells (Ok done) log h = h
    tells (Err e) log h = inr h

-- the look was refused, or found no memory
refused_so : {A : Type 0} (P : A → Type 0) (log : CallLog) (path : Route) (e : TreeError) → Reads {A = A} log (Stat path) (Err e) P → IsRefusedWith (current log) (Stat path) e ⊎ (e ≡ Memory)
refused_so P log path Memory h = inr refl
refused_so P log path e h = inl h

pub look_refused : {A : Type 0} (P : CallLog → A → Type 0) (path : Route) (e : TreeError) (before after : Option CallLog) (f0 f1 : ℕ) → IfKnown before (λ log. Reads {A = A} log (Stat path) (Err e) (P log)) → after ≡ before
    → HasCause {T = A} Fault f0 f1 (Err e) → SyncTried path (record { did = Barrier; calls = 0; left = Some e }) before after f0 f1
look_refused P path e before after f0 f1 reads same cause = record {
  did = refl;
  told = λ log known. inl (same ∙ known, refused_so (P log) log path e (reads log known));
  counted = λ log known now is. no_more log now (sym known ∙ (sym same ∙ is));
  few = omega arith;
  unknown = λ none. same ∙ none;
  later = cause.later;
  fault = λ h. cause.risen (let is : e ≡ Fault = cc in ap Err is);
}
