-- What the rules so far and the lines that are left say, and the first fault from there on, are those of the whole text.
use Rattle.std.proofs.Common.{◌≡◌, ◌+◌, ◌≤◌, false, length}
use denote.Text.{Utf8}
use denote.Shadow.{shadow}
use Rattle.ext_rules.specs.ExtFiles.{fault_from, readings, rules_said}
use Rattle.ext_rules.specs.Drafts.{has_rule, continued_rules}
use Rattle.ext_rules.proofs.file.parse_text.Given as goal

abbrev pub invariant-loop-line : goal.invariant-loop-line
invariant-loop-line l = record {
  utf8 : shadow (Utf8 l.rest);
  faults : fault_from l.at (has_rule l.rules.items) (readings l.rest) ≡ fault_from 1 false (readings l.text);
  said : continued_rules l.rules.items (readings l.rest) ≡ rules_said (readings l.text);
  counted : l.at + length l.rest ≤ length l.text + 1;
}

abbrev pub decreases-loop-line : goal.decreases-loop-line
decreases-loop-line l = length l.rest
