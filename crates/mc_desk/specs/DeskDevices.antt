-- What a session gave its devices: the bytes that it put on its screen, and that it ran no command.
use Rattle.std.specs.Prelude.{◌≡◌, ℕ, Bool, false, List, [], ◌++◌, length, drop, Option, Some, None}
use Rattle.tree_trait.specs.Answers.{IfKnown}
use Rattle.tree_trait.specs.declared.devices.Command.{Command}

-- what a session has put since its opening, where the sink tells, and whether its last drawing was cut short
pub record Put : Type 0 where
  pub bytes : Option (List ℕ)
  pub is_cut : Bool

-- nothing was put yet
pub record HasPutNothing (put : Put) : Type 0 where
  pub bytes : IfKnown put.bytes (λ bytes. bytes ≡ [])
  pub uncut : put.is_cut ≡ false

-- what was put behind these bytes
abbrev pub put_since : Option (List ℕ) → Option (List ℕ) → Option (List ℕ)
put_since None now = None
put_since (Some given) None = None
put_since (Some given) (Some now) = Some (drop (length given) now)

-- a sink that was given these bytes before has been given those that were put behind them
pub record HasGiven (given put now : Option (List ℕ)) : Type 0 where
  pub told : IfKnown given (λ before. (bytes : List ℕ) × (put ≡ Some bytes) × (now ≡ Some (before ++ bytes)))
  pub untold : given ≡ None → (put ≡ None) × (now ≡ None)

-- no command ran, and none failed
pub record RanNothing (runs runs_now : Option (List Command)) (faults faults_now : ℕ) : Type 0 where
  pub ran : runs_now ≡ runs
  pub failed : faults_now ≡ faults
