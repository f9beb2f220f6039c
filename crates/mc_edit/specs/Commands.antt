-- What each command makes of a text that is edited, or why it is refused. Own; mcedit(1) has the
-- keys without their rules.
use Rattle.std.specs.Prelude.{ℕ, List, [], ◌∷◌, ◌++◌, ◌==◌, drop, ◌+◌, ◌-◌, nat_lt, length, slice_range}
use Rattle.std.specs.Prelude.{encode_utf8, Option, Some, None, Result, Ok, Err, if◌then◌else◌}
use Rattle.mc_edit.specs.declared.command.EditCmd.{EditCmd}
use Rattle.mc_edit.specs.declared.command.EditCmd.TheVariants as Cmd
use Rattle.mc_edit.specs.declared.error.EditError.{EditError}
use Rattle.mc_edit.specs.declared.error.EditError.TheVariants.{NoBlock, NotFound}
use Rattle.gap_text.specs.Places.{first_place}
use Rattle.mc_edit.specs.Edits.{EditedText, spliced_bytes, requested_text}
use Rattle.mc_edit.specs.Edits.{undone_by, redone_by, marked_at, block_span}
use Rattle.mc_edit.specs.Lines.{line_start, line_end, line_past, start_of_line}
use Rattle.memchr.specs.Find.{matches}
use Rattle.mc_edit.specs.Replacing.{replaced_run, last_end}
use Rattle.mc_edit.specs.Brackets.{partner_of}
use Rattle.mc_edit.specs.Moves.{left_of, right_of, up_of, down_of, repeated_move}

-- the point goes to a place
abbrev pub moved_point : EditedText → ℕ → Result EditedText EditError
moved_point edited at = Ok (record edited { text = record { bytes = edited.text.bytes; point = at } })

-- the bytes from one place up to another give way to new ones, and the point stands at `point`
abbrev pub replaced_text : EditedText → ℕ → ℕ → List ℕ → ℕ → Result EditedText EditError
replaced_text edited from to new point =
    requested_text (record { bytes = spliced_bytes edited.text.bytes from to new; point = point }) edited

-- new bytes are put before the point
abbrev pub text_with_typed : EditedText → List ℕ → Result EditedText EditError
text_with_typed edited new =
    replaced_text edited edited.text.point edited.text.point new (edited.text.point + length new)

-- the bytes from one place up to another are taken out, and the point stands there
abbrev pub removed_text : EditedText → ℕ → ℕ → Result EditedText EditError
removed_text edited from to = replaced_text edited from to [] from

-- the point goes to what was found
abbrev pub text_at_found : Option ℕ → EditedText → Result EditedText EditError
text_at_found None edited = Err NotFound
text_at_found (Some at) edited = moved_point edited at

-- the block's bytes are put at the point, which stays before them
abbrev pub block_copied : Option (ℕ × ℕ) → EditedText → Result EditedText EditError
block_copied None edited = Err NoBlock
block_copied (Some (start, end)) edited =
    replaced_text edited edited.text.point edited.text.point (slice_range edited.text.bytes start end)
    edited.text.point

-- the block and the bytes between it and the point change places, and the point stands before the block;
-- with the point in the block or at one of its ends nothing changes
abbrev pub block_moved : Option (ℕ × ℕ) → EditedText → Result EditedText EditError
block_moved None edited = Err NoBlock
block_moved (Some (start, end)) edited =
    let bytes = edited.text.bytes in
    let point = edited.text.point in
    if nat_lt point start
    then replaced_text edited point end (slice_range bytes start end ++ slice_range bytes point start) point
    else if nat_lt end point
    then replaced_text edited start point (slice_range bytes end point ++ slice_range bytes start end)
    (start + (point - end))
    else Ok edited

-- the block is taken out, and the point stands where it began
abbrev pub block_deleted : Option (ℕ × ℕ) → EditedText → Result EditedText EditError
block_deleted None edited = Err NoBlock
block_deleted (Some (start, end)) edited = removed_text edited start end

-- each of these places behind the point gives way, and the point stands behind the last of them
abbrev pub places_replaced : List ℕ → List ℕ → List ℕ → EditedText → Result EditedText EditError
places_replaced [] what new edited = Err NotFound
places_replaced (place ∷ places) what new edited =
    let bytes = edited.text.bytes in
    let point = edited.text.point in
    let run = replaced_run (drop point bytes) what new 0 (place ∷ places) in
    replaced_text edited point (point + last_end what 0 (place ∷ places)) run (point + length run)

-- all places of some bytes, from the point on; no bytes have none
abbrev pub all_replaced : List ℕ → List ℕ → EditedText → Result EditedText EditError
all_replaced what new edited =
    if length what == 0 then Err NotFound
    else places_replaced (matches (drop edited.text.point edited.text.bytes) what 0) what new edited

-- what a command leaves
abbrev pub after_command : EditCmd → EditedText → Result EditedText EditError
after_command (Cmd.Insert character) edited = text_with_typed edited (encode_utf8 character)
after_command Cmd.NewLine edited = text_with_typed edited (10 ∷ [])
after_command Cmd.Backspace edited =
    removed_text edited (left_of edited.text.bytes edited.text.point) edited.text.point
after_command Cmd.DeleteUnder edited =
    removed_text edited edited.text.point (right_of edited.text.bytes edited.text.point)
after_command Cmd.Left edited = moved_point edited (left_of edited.text.bytes edited.text.point)
after_command Cmd.Right edited = moved_point edited (right_of edited.text.bytes edited.text.point)
after_command Cmd.Up edited = moved_point edited (up_of edited.text.bytes edited.text.point)
after_command Cmd.Down edited = moved_point edited (down_of edited.text.bytes edited.text.point)
after_command Cmd.LineStart edited = moved_point edited (line_start edited.text.bytes edited.text.point)
after_command Cmd.LineEnd edited = moved_point edited (line_end edited.text.bytes edited.text.point)
after_command (Cmd.PageUp count) edited =
    moved_point edited (repeated_move (up_of edited.text.bytes) count edited.text.point)
after_command (Cmd.PageDown count) edited =
    moved_point edited (repeated_move (down_of edited.text.bytes) count edited.text.point)
after_command Cmd.TextStart edited = moved_point edited 0
after_command Cmd.TextEnd edited = moved_point edited (length edited.text.bytes)
after_command Cmd.Mark edited = Ok (record edited { block = marked_at edited.text.point edited.block })
after_command Cmd.CopyBlock edited = block_copied (block_span edited.block edited.text.point) edited
after_command Cmd.MoveBlock edited = block_moved (block_span edited.block edited.text.point) edited
after_command Cmd.DeleteBlock edited = block_deleted (block_span edited.block edited.text.point) edited
after_command Cmd.DeleteLine edited =
    removed_text edited (line_start edited.text.bytes edited.text.point)
    (line_past edited.text.bytes edited.text.point)
after_command Cmd.DeleteToEnd edited =
    removed_text edited edited.text.point (line_end edited.text.bytes edited.text.point)
after_command Cmd.Undo edited = undone_by edited.past edited
after_command Cmd.Redo edited = redone_by edited.future edited
after_command (Cmd.Find what) edited =
    text_at_found (first_place edited.text.bytes what (edited.text.point + 1)) edited
after_command (Cmd.ReplaceAll what new) edited = all_replaced what new edited
after_command (Cmd.GoLine line) edited = moved_point edited (start_of_line (line - 1) edited.text.bytes)
after_command Cmd.Bracket edited = text_at_found (partner_of edited.text.bytes edited.text.point) edited
