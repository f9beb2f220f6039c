-- What the other devices in memory hold, and which of their calls fail.
use Rattle.std.specs.Prelude.{ℕ, List, [], ◌∷◌, take, Option, Some, None, Result, Ok, Err}
use Rattle.tree_trait.specs.declared.devices.Command.{Command}
use Rattle.tree_trait.specs.declared.devices.RunOutcome.{RunOutcome}
use Rattle.tree_trait.specs.declared.devices.SpawnError.{SpawnError}
use Rattle.tree_trait.specs.declared.devices.SpawnError.TheVariants.{Fault}

-- keys that come: the bytes that are left, the number of the call that fails, and how many
-- calls and faults there were
pub record Keys : Type 0 where
  pub left : List ℕ
  pub fail_at : Option ℕ
  pub called : ℕ
  pub faults : ℕ

-- a screen: the bytes that it was given, the number of the call that fails, and how many
-- calls and faults there were
pub record Screen : Type 0 where
  pub given : List ℕ
  pub fail_at : Option ℕ
  pub called : ℕ
  pub faults : ℕ

-- a shell: the outcomes of the runs to come, the commands that ran, and how many faults there were
pub record Shell : Type 0 where
  pub outcomes : List (Option RunOutcome)
  pub ran : List Command
  pub faults : ℕ

-- an outcome of which only so much output is kept
abbrev pub kept_outcome : RunOutcome → RunOutcome
kept_outcome outcome = record outcome { output = take 1048576 outcome.output }

-- what a run answers that finds memory: the first outcome, or a fault where there is none
abbrev pub first_outcome : List (Option RunOutcome) → Result RunOutcome SpawnError
first_outcome [] = Err Fault
first_outcome (None ∷ later) = Err Fault
first_outcome (Some outcome ∷ later) = Ok (kept_outcome outcome)
