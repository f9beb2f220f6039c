-- A text with a point, and what the edits make of it. Own; mcedit(1) speaks of the cursor where we say point.
use Rattle.std.specs.Prelude.{ℕ, ◌+◌, List, ◌++◌, length, take, drop}

-- the bytes of a text, and how many of them stand before the point
pub record PointedText : Type 0 where
  pub bytes : List ℕ
  pub point : ℕ

-- these bytes, with the point before the first
abbrev pub opened_text : List ℕ → PointedText
opened_text bytes = record { bytes = bytes; point = 0 }

-- the same bytes, with the point at another place
abbrev pub moved_to : PointedText → ℕ → PointedText
moved_to text at = record { bytes = text.bytes; point = at }

-- new bytes are put before the point
abbrev pub inserted_text : PointedText → List ℕ → PointedText
inserted_text text new =
    record {
      bytes = take text.point text.bytes ++ (new ++ drop text.point text.bytes);
      point = text.point + length new;
    }

-- the next bytes after the point are taken out
abbrev pub deleted_text : PointedText → ℕ → PointedText
deleted_text text count =
    record { bytes = take text.point text.bytes ++ drop (text.point + count) text.bytes; point = text.point }
