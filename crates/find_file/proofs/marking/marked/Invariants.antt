-- What is found is left of the names that are left, and the others are marked.
use Rattle.std.proofs.Common.{◌≡◌, ◌++◌, map, filter, reverse}
use Rattle.std.specs.Prelude.{vec_len}
use Rattle.tagging.specs.Patterns.{is_found}
use Rattle.find_file.specs.Folders.{child_of}
use Rattle.find_file.proofs.marking.marked.Given as goal

abbrev pub invariant-loop-name : goal.invariant-loop-name
invariant-loop-name l = record {
  found : l.found.items ≡ filter (is_found l.pattern) l.names.items;
  marks : map (child_of l.pattern) l.names.items ++ reverse l.children.items ≡ map (child_of l.pattern) l.fn.names;
}

abbrev pub decreases-loop-name : goal.decreases-loop-name
decreases-loop-name l = vec_len l.names
