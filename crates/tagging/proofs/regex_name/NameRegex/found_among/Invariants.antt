use Rattle.std.proofs.Common.{◌≡◌, take, filter}
use Rattle.regex.specs.Strings.{matcher_pattern}
use Rattle.tagging.specs.Regexes.{found_in, IsMeantBy}
use Rattle.tagging.proofs.regex_name.NameRegex.found_among.Given as goal

abbrev pub invariant-loop-name : goal.invariant-loop-name
invariant-loop-name l = record {
  meant : IsMeantBy l.fn.self (matcher_pattern l.matcher);
  kept : l.found ≡ filter (found_in l.fn.self) (take l.name-index l.name-items);
}
