use Rattle.std.proofs.Common.{◌≡◌, take, filter}
use Rattle.std.specs.Str.{chars}
use Rattle.tagging.specs.Globs.{is_match}
use Rattle.tagging.proofs.glob.ShellPattern.found_among.Given as goal

abbrev pub invariant-loop-name : goal.invariant-loop-name
invariant-loop-name l = l.found ≡ filter (λ name. is_match l.self (chars name)) (take l.name-index l.name-items)
