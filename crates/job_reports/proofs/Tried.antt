-- A call that was tried: how many calls that is, and its refusal.
use Rattle.std.proofs.Common.{◌≡◌, ℕ, ◌≤◌, refl, sym, ◌∙◌, ap, subst, Option, Some, Result, Ok, Err, arith}
use Rattle.tree_trait.specs.declared.calls.TreeError.{TreeError}
use Rattle.tree_trait.specs.declared.calls.TreeError.TheVariants as refused
use Rattle.tree_trait.specs.Calls.{Call}
use Rattle.tree_trait.specs.Change.{CallLog}
use Rattle.tree_trait.specs.Answers.{HasCause, HasRisen, Performs}
use Rattle.job_reports.specs.CallRuns.{HasMore}
use Rattle.job_reports.specs.Stops.{refusal_in, sync_answer, calls_made_for}
use Rattle.job_reports.proofs.Runs.{one_more, no_more}

-- a call that was tried counts
pub counts_try : (call : Call) (answer : Result (Unit {0}) TreeError) (log now : CallLog) (after : Option CallLog)
    → Performs {A = Unit {0}} log call answer after → after ≡ Some now → HasMore log (calls_made_for answer) now
counts_try call (Ok done) log now after h is = one_more log _ now (sym h.1.1 ∙ is)
counts_try call (Err refused.Memory) log now after h is = no_more log now (sym h ∙ is)
counts_try call (Err refused.Fault) log now after h is = one_more log _ now (sym h.1.1 ∙ is)
counts_try call (Err e) log now after h is = one_more log _ now (sym h.1 ∙ is)

pub tries_few : (answer : Result (Unit {0}) TreeError) → calls_made_for answer ≤ 1
tries_few (Ok done) = omega arith
tries_few (Err refused.Memory) = omega arith
tries_few (Err e) = omega arith

-- an answer, by its refusal
pub answered : (answer : Result (Unit {0}) TreeError) (left : Option TreeError) → left ≡ refusal_in answer → answer ≡ sync_answer left
answered (Ok done) left is = subst (λ l. Ok done ≡ sync_answer l) (sym is) refl
answered (Err e) left is = subst (λ l. Err e ≡ sync_answer l) (sym is) refl

-- a refusal is a fault only where the count has risen
pub fault_tried : (answer : Result (Unit {0}) TreeError) (left : Option TreeError) (f0 f1 : ℕ) → left ≡ refusal_in answer → HasCause refused.Fault f0 f1 answer
    → left ≡ Some refused.Fault → HasRisen f0 f1
fault_tried (Ok done) left f0 f1 is cause h = absurd cc
fault_tried (Err e) left f0 f1 is cause h = let same : e ≡ refused.Fault = cc in cause.risen (ap Err same)
