use Rattle.std.proofs.Common.{◌≡◌, ◌++◌, []}
use Rattle.std.specs.String.{string_bytes}
use Rattle.hotlist.specs.Printed.{indent}
use Rattle.hotlist.proofs.print.push_indent.Given as goal

abbrev pub invariant-loop : goal.invariant-loop
invariant-loop l = string_bytes l.text ≡ string_bytes l.initial.text ++ indent l.counter []
