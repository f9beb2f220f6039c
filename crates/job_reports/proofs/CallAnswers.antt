-- What the answers of a copy's calls make of its log.
use Rattle.std.proofs.Common.{◌≡◌, ℕ, ℤ, zero, suc, List, [], ◌∷◌, refl, ◌∙◌, inl, inr, Option, Some, None, Ok, arith}
use Rattle.mc_text.specs.Routes.{Route}
use Rattle.tree_trait.specs.declared.file_system.FileSystem.{FileSystem}
use Rattle.tree_trait.specs.Calls.{Call}
use Rattle.tree_trait.specs.Refusals.{refusal_of}
use Rattle.tree_trait.specs.Change.{Nothing, CallLog, current, with_change, change_of, torn_write}
use Rattle.tree_trait.specs.Answers.{Performs}
use Rattle.tree_trait.proofs.Ending.{IsQuiet, Performs-err}
use Rattle.job_reports.specs.declared.report.Cause.{Cause}
use Rattle.job_reports.specs.declared.report.Cause.TheVariants as cause
use Rattle.job_reports.specs.CallRuns.{AllDone, RunStops}

pub some_log : (x y : CallLog) → (let o : Option CallLog = Some x in o) ≡ Some y → x ≡ y
some_log x y h = cc

-- a call that was done: no check refuses it, and the log has its change
pub record IsDoneCall (log : CallLog) (call : Call) (after : CallLog) : Type 0 where
  pub permits : refusal_of (current log) call ≡ None
  pub time : ℤ
  pub is : after ≡ with_change log (change_of (current log) call time)

pub done_call : (log : CallLog) (call : Call) (after : CallLog) → Performs {A = Unit {0}} log call (Ok tt) (Some after) → IsDoneCall log call after
done_call log call after h = record { permits = h.0; time = h.1.0; is = some_log after _ h.1.1 }

pub one_done : (log : CallLog) (call : Call) (after : CallLog) → AllDone log (call ∷ []) (Some after) → IsDoneCall log call after
one_done log call after h =
    let d = done_call log call h.0 h.1 in
    record { permits = d.permits; time = d.time; is = some_log after h.0 h.2 ∙ d.is }

-- a call that is no write, and was refused or found no memory
abbrev pub IsCalm : Call → Type 0
IsCalm call = (x : FileSystem) (left : List ℕ) → torn_write x call left ≡ Nothing

pub same_log : (log after : CallLog) → (let o : Option CallLog = Some after in o) ≡ Some log → IsQuiet log (Some after)
same_log log after h = record { after = log; tells = h; how = inl refl }

pub calm_stops : (call : Call) (cause_is : Cause) (path : Option Route) (log after : CallLog) → IsCalm call → RunStops (call ∷ []) cause_is path log (Some after) → IsQuiet log (Some after)
calm_stops call (cause.Tree e) path log after calm (which, named, inl stop) = Performs-err (Unit {0}) log call (Some after) calm e stop.1
calm_stops call (cause.Tree e) path log after calm (which, named, inr later) = absurd later.2
calm_stops call cause.Memory path log after calm (none, (zero, few, done)) = same_log log after done
calm_stops call cause.Memory path log after calm (none, (suc count, few, done)) = absurd (omega (arith, few))
calm_stops call (cause.TargetKind kind) path log after calm h = absurd h
calm_stops call cause.SpecialSource path log after calm h = absurd h
calm_stops call cause.TooDeep path log after calm h = absurd h
calm_stops call (cause.Unnamed count) path log after calm h = absurd h
calm_stops call cause.PartTaken path log after calm h = absurd h
calm_stops call cause.TooLong path log after calm h = absurd h
calm_stops call (cause.Changed said got) path log after calm h = absurd h
