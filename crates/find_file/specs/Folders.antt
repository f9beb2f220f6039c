-- Folders that are open, and their children.
use Rattle.std.specs.Prelude.{ℕ, List}
use Rattle.mc_text.specs.Routes.{Route}
use Rattle.tagging.specs.Patterns.{PatternText, is_found}
use Rattle.find_file.specs.declared.opened.Child.{Child}

-- the child with this name
abbrev pub child_of : PatternText → List ℕ → Child
child_of pattern name = record { name = name; is_named = is_found pattern name }

-- a folder that is open, and the children that are yet to be met
pub record OpenFolder : Type 0 where
  pub path : Route
  pub children : List Child
