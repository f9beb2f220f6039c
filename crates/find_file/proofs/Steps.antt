-- What a step of the walk says is what a step of the search says.
use Rattle.std.proofs.Common.{◌≡◌, ◌≢◌, ◌<◌, ℕ, Option, Some, None, Result, Ok, Err, IfOk, IsOk, OnErr, refl, sym}
use Rattle.mc_text.specs.declared.error.NoMemory.{NoMemory}
use Rattle.tree_trait.specs.Change.{CallLog, current}
use Rattle.tree_trait.specs.Answers.{IfKnown}
use Rattle.find_file.specs.declared.found.Found.{Found}
use Rattle.find_file.specs.declared.found.Found.TheVariants.{End}
use Rattle.find_file.specs.declared.finder.Finder.{Finder}
use Rattle.find_file.specs.Walks.{rank, yet_to_come, yet_to_find}
use Rattle.find_file.specs.declared.walk.Task.{Task}
use Rattle.find_file.specs.Telling.{Advances, HasReason, IsOver, IsStep, Leaves, cause_at}
use Rattle.find_file.proofs.Leading.{next-of, told-leads}

module _ (contents : Option CallLog) (faults faults_after : ℕ) (finder left : Finder) where
  pub step_is : (r : Result (Option Found) NoMemory)
      → IfKnown contents (λ log. Advances (current log) finder.search (yet_to_come (current log) finder) r (yet_to_come (current log) left))
      → (IsOk r → r ≢ Ok (Some End) → rank left.walk < rank finder.walk) → (r ≡ Ok (Some End) → IsOver left.walk)
      → ((task : Task) → finder.walk.task ≡ Some task → Leaves finder.walk task r left.walk) → (finder.walk.task ≡ None → faults_after ≡ faults)
      → HasReason faults faults_after (cause_at r)
      → IfOk r (λ told. IsStep contents faults faults_after finder told left)
  step_is (Ok told) answer falls ended leaves apart reason = record {
    next = λ log tells. next-of (current log) finder.search (yet_to_come (current log) finder) (yet_to_come (current log) left) told (answer log tells);
    answer = answer;
    falls = λ more. falls refl (λ is. more (cc));
    leaves = leaves;
    apart = apart;
    ended = λ end. ended (cc);
    reason = reason;
  }
  step_is (Err e) answer falls ended leaves apart reason = tt

  pub step_waits : (r : Result (Option Found) NoMemory)
      → IfKnown contents (λ log. Advances (current log) finder.search (yet_to_come (current log) finder) r (yet_to_come (current log) left))
      → OnErr r (IfKnown contents (λ log. yet_to_find (current log) left ≡ yet_to_find (current log) finder))
  step_waits (Ok told) answer = tt
  step_waits (Err e) answer = λ log tells. sym (told-leads (yet_to_come (current log) finder) (yet_to_come (current log) left) (answer log tells))
