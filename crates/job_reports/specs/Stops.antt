-- What changing calls come to: how many were made, or the trouble that stopped them.
use Rattle.std.specs.Prelude.{◌≡◌, ◌⊎◌, ℕ, ◌+◌, ◌≤◌, ⊤, Bool, false, List, length}
use Rattle.std.specs.Prelude.{Option, Some, None, Result, Ok, Err, IfOk, IfErr}
use Rattle.mc_text.specs.Routes.{Route}
use Rattle.tree_trait.specs.Calls.{Call}
use Rattle.tree_trait.specs.Change.{CallLog}
use Rattle.tree_trait.specs.Answers.{IfKnown, HasRisen, Performs}
use Rattle.tree_trait.specs.declared.calls.TreeError.{TreeError}
use Rattle.tree_trait.specs.declared.calls.TreeError.TheVariants as refused
use Rattle.job_reports.specs.declared.report.Cause.{Cause}
use Rattle.job_reports.specs.declared.report.Cause.TheVariants.{Tree, Memory}
use Rattle.job_reports.specs.declared.report.Trouble.{Trouble}
use Rattle.job_reports.specs.declared.stop.Stop.{Stop}
use Rattle.job_reports.specs.CallRuns.{AllDone, RunStops, HasMore}

-- the trouble of a job that is out of memory
abbrev pub out_of_memory_at : Bool → Trouble
out_of_memory_at barrier = record { cause = Memory; path = None; barrier = barrier }

-- a trouble before any call was made
abbrev pub stopped_before_of : Trouble → Stop
stopped_before_of trouble = record { trouble = trouble; calls = 0 }

-- away from a barrier a trouble with this cause names this path, or there was no memory for it
abbrev pub IsTroubleWithPath : Cause → Route → Trouble → Type 0
IsTroubleWithPath cause path trouble =
    (trouble ≡ record { cause = cause; path = Some path; barrier = false })
    ⊎ (trouble ≡ out_of_memory_at false)

-- the trouble of a reading call that was refused with this error at this path
abbrev pub IsReadingTrouble : TreeError → Route → Trouble → Type 0
IsReadingTrouble refused.Memory path trouble = trouble ≡ out_of_memory_at false
IsReadingTrouble e path trouble = IsTroubleWithPath (Tree e) path trouble

-- a look that was refused with this error found nothing there, or is a trouble
abbrev pub IsMissingOrTrouble : TreeError → Route → Result (Unit {0}) Trouble → Type 0
IsMissingOrTrouble refused.Missing path (Ok done) = ⊤
IsMissingOrTrouble refused.Missing path (Err trouble) = ⊥
IsMissingOrTrouble e path (Ok done) = ⊥
IsMissingOrTrouble e path (Err trouble) = IsReadingTrouble e path trouble

-- what the answer of one call comes to; one that found no memory was not made
abbrev pub made_or_stopped_of : Result (Unit {0}) TreeError → Route → Bool → Result ℕ Stop
made_or_stopped_of (Ok done) path barrier = Ok 1
made_or_stopped_of (Err refused.Memory) path barrier = Err (stopped_before_of (out_of_memory_at barrier))
made_or_stopped_of (Err e) path barrier =
    Err (record { trouble = record { cause = Tree e; path = Some path; barrier = barrier }; calls = 1 })

-- how many calls were made
abbrev pub calls_of : Result ℕ Stop → ℕ
calls_of (Ok calls) = calls
calls_of (Err stop) = stop.calls

-- what calls come to before which so many were made
abbrev pub after_calls_of : ℕ → Result ℕ Stop → Result ℕ Stop
after_calls_of calls (Ok more) = Ok (calls + more)
after_calls_of calls (Err stop) = Err (record stop { calls = calls + stop.calls })

-- What calls in a row come to, on a tree that may tell what it holds: all were done, or the
-- trouble says which one was not. It counts those that were made, and reports a fault only where
-- the tree's count has risen.
pub record Ran (calls : List Call) (at_barrier : Bool) (result : Result ℕ Stop)
    (before after : Option CallLog) (faults faults_after : ℕ) : Type 0 where
  pub done : IfOk result (λ _. IfKnown before (λ log. AllDone log calls after))
  pub stopped : IfErr result (λ stop.
      IfKnown before (λ log. RunStops calls stop.trouble.cause stop.trouble.path log after))
  pub barrier : IfErr result (λ stop. stop.trouble.barrier ≡ at_barrier)
  pub counted : IfKnown before (λ log. IfKnown after (HasMore log (calls_of result)))
  pub few : calls_of result ≤ length calls
  pub unknown : before ≡ None → after ≡ None
  pub later : faults ≤ faults_after
  pub fault : IfErr result (λ stop. stop.trouble.cause ≡ Tree refused.Fault → HasRisen faults faults_after)

-- The same, as a word that stays closed: so the prover goes by lemmas from the calls of a row to the row.
unfoldable pub RanFolded : List Call → Bool → Result ℕ Stop → Option CallLog → Option CallLog → ℕ → ℕ → Type 0
RanFolded calls at_barrier result before after faults faults_after =
    Ran calls at_barrier result before after faults faults_after

-- the cause of a trouble where a call was refused
abbrev pub cause_of : TreeError → Cause
cause_of refused.Memory = Memory
cause_of e = Tree e

-- the path that a trouble names; out of memory it names none
abbrev pub named_path : TreeError → Route → Option Route
named_path refused.Memory path = None
named_path e path = Some path

-- trouble at a path: a call on it was refused, or there was no memory
abbrev pub trouble_at : TreeError → Route → Bool → Trouble
trouble_at e path barrier = record { cause = cause_of e; path = named_path e path; barrier = barrier }

-- a call that may be refused, or find no memory
abbrev pub IsTried : CallLog → Call → Option CallLog → Type 0
IsTried log call after =
    (answer : Result (Unit {0}) TreeError) × Performs {A = Unit {0}} log call answer after

-- what a sync answered: it was done, or it was refused so
abbrev pub sync_answer : Option TreeError → Result (Unit {0}) TreeError
sync_answer None = Ok tt
sync_answer (Some e) = Err e

-- the refusal that an answer is
abbrev pub refusal_in : Result (Unit {0}) TreeError → Option TreeError
refusal_in (Ok done) = None
refusal_in (Err e) = Some e

-- how many calls were made for an answer: none where there was no memory
abbrev pub calls_made_for : Result (Unit {0}) TreeError → ℕ
calls_made_for (Ok done) = 1
calls_made_for (Err refused.Memory) = 0
calls_made_for (Err e) = 1
