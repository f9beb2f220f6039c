-- A text that is edited: its point, its block, its past and its future. Own; mcedit(1)
-- has undo without its rules.
use Rattle.std.specs.Prelude.{ℕ, Bool, true, false, ◌==◌, min, max, nat_lt, Option, Some, None, List}
use Rattle.std.specs.Prelude.{[], ◌∷◌, ◌++◌, take, drop, length, Result, Ok, Err, if◌then◌else◌}
use Rattle.std.specs.Str.{bytes_eq}
use Rattle.gap_text.specs.PointedText.{PointedText, opened_text}
use Rattle.mc_edit.specs.declared.block.Block.{Block}
use Rattle.mc_edit.specs.declared.block.Block.TheVariants.{Absent, Open, Fixed}
use Rattle.mc_edit.specs.declared.error.EditError.{EditError}
use Rattle.mc_edit.specs.declared.error.EditError.TheVariants.{TooLarge, NothingToUndo, NothingToRedo}

-- a change that was made: text and point from before it, and from after it
pub record Edit : Type 0 where
  pub before : PointedText
  pub after : PointedText

-- The newest change stands first in the past, the next to be redone first in the future. It is changed once
-- its bytes were, also by an undo, until that is forgotten.
pub record EditedText : Type 0 where
  pub text : PointedText
  pub block : Block
  pub past : List Edit
  pub future : List Edit
  pub is_changed : Bool

-- so many bytes a text may have
unfoldable pub largest_text : ℕ
largest_text = 16777216

-- so many changes are kept
unfoldable pub undo_depth : ℕ
undo_depth = 32768

-- these bytes, with the point before the first
abbrev pub begun_text : List ℕ → EditedText
begun_text bytes =
    record { text = opened_text bytes; block = Absent; past = []; future = []; is_changed = false }

-- the bytes from one place up to another give way to new ones
abbrev pub spliced_bytes : List ℕ → ℕ → ℕ → List ℕ → List ℕ
spliced_bytes bytes from to new = take from bytes ++ (new ++ drop to bytes)

-- a change puts what was before the past, the oldest past the depth is dropped, and so is all that
-- was undone; no block stays
abbrev pub after_edit : PointedText → EditedText → EditedText
after_edit new edited =
    record {
      text = new;
      block = Absent;
      past = take undo_depth (record { before = edited.text; after = new } ∷ edited.past);
      future = [];
      is_changed = true;
    }

-- a text that is asked for: where the bytes stay as they are the point alone moves, and nothing is noted
abbrev pub requested_text : PointedText → EditedText → Result EditedText EditError
requested_text new edited =
    if bytes_eq new.bytes edited.text.bytes then Ok (record edited { text = new })
    else if nat_lt largest_text (length new.bytes) then Err (TooLarge (length new.bytes))
    else Ok (after_edit new edited)

-- the newest change is taken back
abbrev pub undone_by : List Edit → EditedText → Result EditedText EditError
undone_by [] edited = Err NothingToUndo
undone_by (edit ∷ older) edited =
    Ok (record {
      text = edit.before;
      block = Absent;
      past = older;
      future = edit ∷ edited.future;
      is_changed = true;
    })

-- the change that was taken back last is made again
abbrev pub redone_by : List Edit → EditedText → Result EditedText EditError
redone_by [] edited = Err NothingToRedo
redone_by (edit ∷ later) edited =
    Ok (record {
      text = edit.after;
      block = Absent;
      past = edit ∷ edited.past;
      future = later;
      is_changed = true;
    })

-- a mark begins a block at the point, the next one fixes it, and the third begins a new one
abbrev pub marked_at : ℕ → Block → Block
marked_at point (Open start) = Fixed start point
marked_at point _ = Open point

-- what lies between two places, in their order; where they are one there is nothing
abbrev pub span_between : ℕ → ℕ → Option (ℕ × ℕ)
span_between one other = if one == other then None else Some (min one other, max one other)

-- the places between which the block lies; an open one ends at the point, and an empty one counts as none
abbrev pub block_span : Block → ℕ → Option (ℕ × ℕ)
block_span Absent point = None
block_span (Open start) point = span_between start point
block_span (Fixed start end) point = span_between start end
