-- The changing calls that were made on a tree, and what each answered.
use Rattle.std.specs.Prelude.{List, ◌∷◌, Result, Ok, Err}
use Rattle.tree_trait.specs.Calls.{Call}
use Rattle.tree_trait.specs.declared.calls.TreeError.{TreeError}
use Rattle.tree_trait.specs.declared.calls.TreeError.TheVariants.{Memory}

-- a changing call that was made, and its answer
pub record Answered : Type 0 where
  pub call : Call
  pub answer : Result (Unit {0}) TreeError

-- the calls, the newest first, with one that was answered so; one that found no memory was not made
abbrev pub with_answer : Call → Result (Unit {0}) TreeError → List Answered → List Answered
with_answer call (Err Memory) calls = calls
with_answer call answer calls = record { call = call; answer = answer } ∷ calls
