-- What a draft says so far.
use Rattle.std.specs.Prelude.{◌++◌, map, string_bytes}
use Rattle.std.specs.List.{flat_map}
use Rattle.percent_macros.specs.declared.draft.Draft.{Draft}
use Rattle.percent_macros.specs.declared.pieces.Expanded.{Expanded}
use Rattle.percent_macros.specs.Commands.{parts_of_piece, Typed}

abbrev pub draft_of : Draft → Expanded
draft_of draft = record {
  pieces = flat_map parts_of_piece draft.pieces.items ++ map Typed (string_bytes draft.text);
  untag_here = draft.untag_here;
  untag_other = draft.untag_other;
}
