-- How a mask is filled, piece by piece: each star takes the first capture that no star has taken yet.
use Rattle.std.specs.Prelude.{ℕ, List, [], ◌∷◌, Option, Some, None, encode_utf8, slice_get}
use Rattle.std.specs.Option.{option_map_or}
use Rattle.op_plan.specs.declared.mask.MaskPiece.{MaskPiece}
use Rattle.op_plan.specs.declared.mask.MaskPiece.TheVariants.{Plain, Star, WholeName, Capture, OpenBackslash}
use Rattle.op_plan.specs.Masks.{before}

-- a text of a piece, if it has one, with the captures that are left for later stars
abbrev pub leaving : List (List ℕ) → Option (List ℕ) → Option (List ℕ × List (List ℕ))
leaving stars None = None
leaving stars (Some text) = Some (text, stars)

-- What a piece stands for, by the name, the captures, and those of them that no star has taken yet;
-- and those that are left for later stars. Nothing where it asks for one past the last, or is a
-- backslash that ends the mask.
abbrev pub taken_text : (name : List ℕ) (captures stars : List (List ℕ)) → MaskPiece
    → Option (List ℕ × List (List ℕ))
taken_text name captures stars (Plain c) = Some (encode_utf8 c, stars)
taken_text name captures stars WholeName = Some (name, stars)
taken_text name captures stars (Capture place) = leaving stars (slice_get captures place)
taken_text name captures [] Star = None
taken_text name captures (capture ∷ stars) Star = Some (capture, stars)
taken_text name captures stars OpenBackslash = None

-- the text that it adds
abbrev pub added_text : (name : List ℕ) (captures stars : List (List ℕ)) → MaskPiece → List ℕ
added_text name captures stars piece =
    option_map_or (λ (text, left). text) (taken_text name captures stars piece) []

-- the text of a piece before that of the others, which is made with the captures that it leaves
abbrev pub with_rest : Option (List ℕ × List (List ℕ)) → (List (List ℕ) → Option (List ℕ)) → Option (List ℕ)
with_rest None rest = None
with_rest (Some (text, left)) rest = before text (rest left)

-- the text that pieces make of a name and of the captures, if each stands for one
abbrev pub filled_with : (name : List ℕ) (captures stars : List (List ℕ)) → List MaskPiece → Option (List ℕ)
filled_with name captures stars [] = Some []
filled_with name captures stars (piece ∷ pieces) =
    with_rest (taken_text name captures stars piece) (λ left. filled_with name captures left pieces)
