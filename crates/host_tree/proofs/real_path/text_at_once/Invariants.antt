-- The text of the names so far.
use Rattle.std.proofs.Common.{◌≡◌, take, reverse}
use Rattle.std.specs.String.{string_bytes}
use Rattle.mc_text.specs.Routes.{spelled_route}
use Rattle.host_tree.proofs.real_path.text_at_once.Given as goal

abbrev pub invariant-loop-name : goal.invariant-loop-name
invariant-loop-name l = string_bytes l.text ≡ spelled_route (reverse (take l.name-index l.names))
