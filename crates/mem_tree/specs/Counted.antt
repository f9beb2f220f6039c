-- How the calls of a tree in memory are counted, and which of them fail.
use Rattle.std.specs.Prelude.{◌≡◌, ℕ, ◌+◌, ◌-◌, ◌^◌, ◌<◌, ◌≤◌, min, Bool, true}
use Rattle.std.specs.Prelude.{false, if◌then◌else◌, ◌==◌, List, Result, Ok, Err}
use Rattle.std.specs.List.{list_any}
use Rattle.tree_trait.specs.declared.calls.TreeError.{TreeError}
use Rattle.tree_trait.specs.declared.calls.TreeError.TheVariants.{Fault, Memory}
use Rattle.tree_trait.specs.Answers.{one_more}
use Rattle.mem_tree.specs.Held.{Held}

-- after so many calls the next one is named to fail
abbrev pub is_due : List ℕ → ℕ → Bool
is_due fails called = list_any (λ number. number == one_more called) fails

-- a reading call's answer, which is a fault in place of a value where the call is named to fail
abbrev pub failed_if : {A : Type 0} → Bool → Result A TreeError → Result A TreeError
failed_if due (Ok x) = if due then Err Fault else Ok x
failed_if due (Err e) = Err e

-- A call is counted. It has a fault only if it is named to fail, and is done only if it isn't.
pub record IsCounted {A : Type 0} (old new : Held) (result : Result A TreeError) : Type 0 where
  pub called : new.called ≡ one_more old.called
  pub fails : new.fails ≡ old.fails
  pub time : new.time ≡ old.time
  pub due : result ≡ Err Fault → is_due old.fails old.called ≡ true
  pub done : (x : A) → result ≡ Ok x → is_due old.fails old.called ≡ false

-- a change takes at most one place, and where there was one it has memory
pub record TakesOnePlace {A : Type 0} (old new : Held) (result : Result A TreeError) : Type 0 where
  pub room : 0 < old.spare → result ≡ Err Memory → ⊥
  pub spare : old.spare ≤ new.spare + 1
