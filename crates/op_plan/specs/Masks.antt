-- Masks of destinations (mc(1), "Copy, Rename, ..": masks). Texts of masks are lists of characters, and
-- filled ones bytes. `*` is 42, a backslash 92, and the digits are from 48 to 57.
use Rattle.std.specs.Prelude.{ℕ, ◌+◌, ◌-◌, ◌&&◌, Bool, true, false, ◌==◌, nat_le}
use Rattle.std.specs.Prelude.{if◌then◌else◌, List, [], ◌∷◌, ◌++◌, Option, Some, None}
use Rattle.std.specs.Prelude.{option_map, option_and_then, encode_utf8, slice_get}
use Rattle.std.specs.List.{list_any}
use Rattle.op_plan.specs.declared.mask.MaskPiece.{MaskPiece}
use Rattle.op_plan.specs.declared.mask.MaskPiece.TheVariants.{Plain, Star, WholeName, Capture, OpenBackslash}

-- what a character is that no backslash quotes
abbrev pub plain_piece : ℕ → MaskPiece
plain_piece c = if c == 42 then Star else Plain c

-- what a character is behind a backslash
abbrev pub quoted_piece : ℕ → MaskPiece
quoted_piece c =
    if c == 48 then WholeName else if nat_le 49 c && nat_le c 57 then Capture (c - 49) else Plain c

-- the pieces of a mask's end; `quoted` says that a backslash stands before it
abbrev pub pieces_behind : (quoted : Bool) → List ℕ → List MaskPiece
pieces_behind true [] = OpenBackslash ∷ []
pieces_behind true (c ∷ text) = quoted_piece c ∷ pieces_behind false text
pieces_behind false [] = []
pieces_behind false (c ∷ text) =
    if c == 92 then pieces_behind true text else plain_piece c ∷ pieces_behind false text

abbrev pub pieces_of : List ℕ → List MaskPiece
pieces_of = pieces_behind false

-- a piece that asks for the source's name or a part of it
abbrev pub is_asking : MaskPiece → Bool
is_asking (Plain c) = false
is_asking Star = true
is_asking WholeName = true
is_asking (Capture place) = true
is_asking OpenBackslash = false

abbrev pub asks : List MaskPiece → Bool
asks pieces = list_any is_asking pieces

-- a star alone leaves each name as it is
abbrev pub keeps_name : List MaskPiece → Bool
keeps_name [] = false
keeps_name (Star ∷ []) = true
keeps_name (piece ∷ pieces) = false

-- Stars get numbers, from n on: the star of a number stands for what the wildcard of this number took, as
-- `\1` to `\9` do by theirs. A capture's place counts from 0.
abbrev pub numbered_pieces : ℕ → List MaskPiece → List MaskPiece
numbered_pieces n [] = []
numbered_pieces n (Plain c ∷ pieces) = Plain c ∷ numbered_pieces n pieces
numbered_pieces n (Star ∷ pieces) = Capture n ∷ numbered_pieces (n + 1) pieces
numbered_pieces n (WholeName ∷ pieces) = WholeName ∷ numbered_pieces n pieces
numbered_pieces n (Capture place ∷ pieces) = Capture place ∷ numbered_pieces n pieces
numbered_pieces n (OpenBackslash ∷ pieces) = OpenBackslash ∷ numbered_pieces n pieces

-- What a piece stands for, by the name and what the wildcards of the sources' mask took of it. Nothing
-- where it asks for one past the last, has no number, or is a backslash that ends the mask.
abbrev pub piece_text : (name : List ℕ) (captures : List (List ℕ)) → MaskPiece → Option (List ℕ)
piece_text name captures (Plain c) = Some (encode_utf8 c)
piece_text name captures Star = None
piece_text name captures WholeName = Some name
piece_text name captures (Capture place) = slice_get captures place
piece_text name captures OpenBackslash = None

-- a text before one that may be missing
abbrev pub before : List ℕ → Option (List ℕ) → Option (List ℕ)
before text = option_map (λ rest. text ++ rest)

-- what pieces stand for, one behind the other, if each stands for something
abbrev pub pieces_text : (name : List ℕ) (captures : List (List ℕ)) → List MaskPiece → Option (List ℕ)
pieces_text name captures [] = Some []
pieces_text name captures (piece ∷ pieces) =
    option_and_then (λ text. before text (pieces_text name captures pieces)) (piece_text name captures piece)

-- the text that a mask makes of a name and of the captures
abbrev pub filled_mask : (name : List ℕ) (captures : List (List ℕ)) → List MaskPiece → Option (List ℕ)
filled_mask name captures pieces = pieces_text name captures (numbered_pieces 0 pieces)
