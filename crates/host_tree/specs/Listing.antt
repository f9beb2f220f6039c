-- What a name that the system gives adds to the children of a folder (own).
use Rattle.std.specs.Prelude.{◌≡◌, ℕ, ◌+◌, ◌-◌, ◌^◌, min, List, [], ◌∷◌, ◌++◌}
use Rattle.tree_trait.specs.declared.calls.Children.{Children}

-- it is one more of the names
pub record IsNamed (name : List ℕ) (before after : Children) : Type 0 where
  pub names : after.names ≡ before.names ++ name ∷ []
  pub unnamed : after.unnamed ≡ before.unnamed

-- it is counted alone
pub record IsCounted (before after : Children) : Type 0 where
  pub names : after.names ≡ before.names
  pub unnamed : after.unnamed ≡ min (before.unnamed + 1) (2 ^ 64 - 1)
