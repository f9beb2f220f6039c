-- The names so far, and those that are left, each behind a blank.
use Rattle.std.proofs.Common.{◌≡◌, ◌++◌, ◌∷◌, drop}
use Rattle.std.specs.List.{flat_map}
use Rattle.std.specs.String.{string_bytes}
use Rattle.percent_macros.specs.Inserted.{joined_names}
use Rattle.percent_macros.specs.Quoting.{name_in_quotes}
use Rattle.percent_macros.proofs.inserted.joined.Given as goal

abbrev pub invariant-loop-name : goal.invariant-loop-name
invariant-loop-name l = string_bytes l.text ++ flat_map (λ name. 32 ∷ name_in_quotes name) (drop l.name-index l.others) ≡ joined_names l.fn.names
