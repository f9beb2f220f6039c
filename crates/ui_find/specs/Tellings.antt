-- What a search has told so far: the paths that are listed, how many were skipped, and
-- whether there are more. Own.
use Rattle.std.specs.Prelude.{ℕ, Bool, List}
use Rattle.mc_text.specs.Routes.{Route}

pub record FindingsState : Type 0 where
  pub found : List Route
  pub skipped : ℕ
  pub has_more : Bool
