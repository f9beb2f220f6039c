-- What a contract sees of the tree of the machine's files.
use Rattle.std.specs.Prelude.{ℕ, List}
use Rattle.tree_trait.specs.Answered.{Answered}

-- how often a call has failed, and the changing calls with their answers, the newest first
pub record Told : Type 0 where
  pub faults : ℕ
  pub answered : List Answered
