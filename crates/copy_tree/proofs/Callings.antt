-- Calls in a row, each of which may be made.
use Rattle.std.proofs.Common.{◌≡◌, ℕ, zero, suc, refl, inl, inr, List, [], ◌∷◌, take, Option, Some, Result, Ok, Err}
use Rattle.std.specs.Prelude.{⊤}
use Rattle.mc_text.specs.Routes.{Route}
use Rattle.tree_trait.specs.declared.calls.TreeError.{TreeError}
use Rattle.tree_trait.specs.declared.calls.TreeError.TheVariants as refused
use Rattle.tree_trait.specs.Calls.{Call}
use Rattle.tree_trait.specs.Change.{CallLog, Nothing, change_of, current, torn_write, with_change}
use Rattle.tree_trait.specs.Answers.{Performs}
use Rattle.job_reports.specs.declared.report.Cause.{Cause}
use Rattle.job_reports.specs.declared.report.Cause.TheVariants.{Tree, TargetKind, SpecialSource, TooDeep, PartTaken, TooLong, Unnamed, Changed, Memory}
use Rattle.job_reports.specs.CallRuns.{AllDone, RunStops, StopsAt}
use Rattle.job_reports.specs.Stops.{IsTried}
use Rattle.copy_tree.specs.MadeCalls.{MakesOnly}

-- the tree tells what it holds after a call, too
pub told_after : (log : CallLog) (call : Call) (answer : Result (Unit {0}) TreeError) (after : Option CallLog) → Performs {A = Unit {0}} log call answer after → (new : CallLog) × (after ≡ Some new)
told_after log call (Ok done) after p = (with_change log (change_of (current log) call p.1.0), p.1.1)
told_after log call (Err refused.Fault) after p = (with_change log (torn_write (current log) call p.1.0), p.1.1)
told_after log call (Err refused.Memory) after p = (log, p)
told_after log call (Err e) after p = (with_change log Nothing, p.1)

module _ (May : Call → Type 0) where
  -- each of these may be made
  abbrev pub AllMay : List Call → Type 0
  AllMay [] = ⊤
  AllMay (call ∷ more) = May call × AllMay more

  pub none : (log : CallLog) (after : Option CallLog) → after ≡ Some log → MakesOnly May log after
  none log after is = (0, is)

  pub one : (call : Call) (answer : Result (Unit {0}) TreeError) (log : CallLog) (after : Option CallLog) → May call → Performs {A = Unit {0}} log call answer after → MakesOnly May log after
  one call answer log after may p = (1, (call, may, answer, inl p))

  pub tried : (call : Call) (log : CallLog) (after : Option CallLog) → May call → IsTried log call after → MakesOnly May log after
  tried call log after may t = one call t.0 log after may t.1

  pub followed : (call : Call) (answer : Result (Unit {0}) TreeError) (log mid : CallLog) (after : Option CallLog) → May call → Performs {A = Unit {0}} log call answer (Some mid) → MakesOnly May mid after
      → MakesOnly May log after
  followed call answer log mid after may p m = (suc m.0, (call, may, answer, inr (mid, p, m.1)))

  pub all_done : (calls : List Call) (log : CallLog) (after : Option CallLog) → AllMay calls → AllDone log calls after → MakesOnly May log after
  all_done [] log after may d = (0, d)
  all_done (call ∷ more) log after may d = followed call (Ok tt) log d.0 after may.0 d.1 (all_done more d.0 after may.1 d.2)

  stops_at : (calls : List Call) (log : CallLog) (call : Call) (e : TreeError) (after : Option CallLog) → AllMay calls → StopsAt log calls call e after → MakesOnly May log after
  stops_at [] log call e after may s = absurd s
  stops_at (first ∷ more) log call e after may (inl s) = one first (Err e) log after may.0 s.1
  stops_at (first ∷ more) log call e after may (inr s) = followed first (Ok tt) log s.0 after may.0 s.1 (stops_at more s.0 call e after may.1 s.2)

  some_may : (calls : List Call) (count : ℕ) → AllMay calls → AllMay (take count calls)
  some_may [] zero may = tt
  some_may [] (suc count) may = tt
  some_may (call ∷ more) zero may = tt
  some_may (call ∷ more) (suc count) may = (may.0, some_may more count may.1)

  pub stopped : (calls : List Call) (cause : Cause) (path : Option Route) (log : CallLog) (after : Option CallLog) → AllMay calls → RunStops calls cause path log after → MakesOnly May log after
  stopped calls (Tree e) path log after may s = stops_at calls log s.0 e after may s.2
  stopped calls Memory path log after may s = all_done (take s.1.0 calls) log after (some_may calls s.1.0 may) s.1.2
  stopped calls (TargetKind kind) path log after may s = absurd s
  stopped calls SpecialSource path log after may s = absurd s
  stopped calls TooDeep path log after may s = absurd s
  stopped calls (Unnamed count) path log after may s = absurd s
  stopped calls PartTaken path log after may s = absurd s
  stopped calls TooLong path log after may s = absurd s
  stopped calls (Changed said got) path log after may s = absurd s
