-- What the draft and the lines that are left say, and the first fault from there on, are those of the whole text.
use Rattle.std.proofs.Common.{◌≡◌, ◌+◌, ◌≤◌, [], length, vec_len}
use denote.Text.{Utf8}
use denote.Shadow.{shadow}
use Rattle.text_scan.specs.Lines.{lines_of}
use Rattle.hotlist.specs.HotFiles.{fault_from, said_by}
use Rattle.hotlist.specs.Drafts.{said_so_far, room_in, unclosed_in, with_said}
use Rattle.hotlist.proofs.file.parse_text.Given as goal

abbrev pub invariant-loop-line : goal.invariant-loop-line
invariant-loop-line l = record {
  utf8 : shadow (Utf8 l.rest);
  faults : fault_from l.at (lines_of l.rest) (room_in l.draft) (unclosed_in l.draft) ≡ fault_from 1 (lines_of l.text) 32 [];
  said : with_said (said_so_far l.draft) (said_by (lines_of l.rest)) ≡ said_by (lines_of l.text);
  limited : vec_len l.draft.groups ≤ 32;
  counted : l.at + length l.rest ≤ length l.text + 1;
}

abbrev pub decreases-loop-line : goal.decreases-loop-line
decreases-loop-line l = length l.rest
