-- The last try to remove a part: it is gone, or it stays.
use Rattle.std.proofs.Common.{◌≡◌, ℕ, refl, sym, ◌∙◌, ap, subst, Option, None, Result, Ok, Err}
use Rattle.mc_text.specs.Routes.{Route}
use Rattle.tree_trait.specs.declared.calls.TreeError.{TreeError}
use Rattle.tree_trait.specs.declared.calls.TreeError.TheVariants as refused
use Rattle.tree_trait.specs.Calls.{RemoveFile}
use Rattle.tree_trait.specs.Change.{CallLog}
use Rattle.tree_trait.specs.Answers.{IfKnown, HasCause, Performs}
use Rattle.job_reports.specs.Stops.{calls_made_for}
use Rattle.copy_file.specs.declared.stage.FolderState.{FolderState}
use Rattle.copy_file.specs.declared.stage.FolderState.TheVariants.{Dirty}
use Rattle.copy_link.specs.declared.removal.Removal.TheVariants.{Cleaned, Stays}
use Rattle.copy_link.specs.declared.stage.Stage.{Stage}
use Rattle.copy_link.specs.declared.stage.Stage.TheVariants.{Left, Decided}
use Rattle.copy_link.specs.LastTries.{RemovalTried, after_try, answer_in}
use Rattle.copy_link.specs.LinkCopying.{LinkCopying, LinkPlaces, copying}

module _ (old : LinkCopying) (p : LinkPlaces) (stage : Stage) (folder : FolderState) (at : Route) (before after : Option CallLog) (f0 f1 : ℕ) (view : copying p stage folder ≡ old) (at_is : at ≡ p.part) where
  part_is : at ≡ old.part
  part_is = at_is ∙ ap (λ (c : LinkCopying). c.part) view

  pub removal_cleaned : (done : Unit {0}) → IfKnown before (λ log. Performs {A = Unit {0}} log (RemoveFile at) (Ok done) after) → (before ≡ None → after ≡ None)
      → HasCause refused.Fault f0 f1 (let r : Result (Unit {0}) TreeError = Ok done in r)
      → RemovalTried old (record { removal = Cleaned; calls = 1 }) (copying p Decided Dirty) before after f0 f1
  removal_cleaned done called unknown cause = record {
    stands = ap (after_try Cleaned) view;
    counted = refl;
    answered = λ log known. subst (λ q. Performs {A = Unit {0}} log (RemoveFile q) (answer_in Cleaned) after) part_is (called log known);
    unknown = unknown;
    later = cause.later;
    fault = λ h. absurd cc;
  }

  pub removal_stays : (e : TreeError) (calls : ℕ) → calls ≡ calls_made_for (Err e) → IfKnown before (λ log. Performs {A = Unit {0}} log (RemoveFile at) (Err e) after) → (before ≡ None → after ≡ None)
      → HasCause refused.Fault f0 f1 (let r : Result (Unit {0}) TreeError = Err e in r)
      → RemovalTried old (record { removal = Stays e; calls = calls }) (copying p Left folder) before after f0 f1
  removal_stays e calls calls_is called unknown cause = record {
    stands = ap (after_try (Stays e)) view;
    counted = calls_is;
    answered = λ log known. subst (λ q. Performs {A = Unit {0}} log (RemoveFile q) (answer_in (Stays e)) after) part_is (called log known);
    unknown = unknown;
    later = cause.later;
    fault = λ h. cause.risen h;
  }
