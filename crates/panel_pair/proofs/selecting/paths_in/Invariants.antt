-- the paths of the names so far
use Rattle.std.proofs.Common.{◌≡◌, take}
use Rattle.panel_pair.specs.Selected.{paths_in}
use Rattle.panel_pair.proofs.selecting.paths_in.Given as goal

abbrev pub invariant-loop-name : goal.invariant-loop-name
invariant-loop-name l = l.paths ≡ paths_in l.folder (take l.name-index l.names)
