-- What is read so far and the lines that are left say, and the first fault from there on, are those of the whole text.
use Rattle.std.proofs.Common.{◌≡◌, ◌+◌, ◌≤◌, false, length}
use denote.Text.{Utf8}
use denote.Shadow.{shadow}
use Rattle.user_menu.specs.MenuFiles.{fault_from, readings, entries_of}
use Rattle.user_menu.specs.Drafts.{has_entry, continued_entries}
use Rattle.user_menu.proofs.file.parse_text.Given as goal

abbrev pub invariant-loop-line : goal.invariant-loop-line
invariant-loop-line l = record {
  utf8 : shadow (Utf8 l.rest);
  faults : fault_from l.at (has_entry l.draft) (readings l.kind l.rest) ≡ fault_from 1 false (readings l.fn.first l.text);
  said : continued_entries l.draft (readings l.kind l.rest) ≡ entries_of (readings l.fn.first l.text);
  counted : l.at + length l.rest ≤ length l.text + 1;
}

abbrev pub decreases-loop-line : goal.decreases-loop-line
decreases-loop-line l = length l.rest
