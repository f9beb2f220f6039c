-- Which sources a mask leaves in, and how their targets are named (mc(1), "Copy, Rename, ..": masks).
use Rattle.std.specs.Prelude.{ℕ, Bool, false, if◌then◌else◌, List, [], ◌∷◌, Option, Some}
use Rattle.std.specs.Prelude.{None, option_map, option_and_then, is_none, filter, chars}
use Rattle.std.specs.Result.{result_ok}
use Rattle.std.specs.Option.{option_map_or}
use Rattle.mc_text.specs.Names.{name_fault}
use Rattle.mc_text.specs.Routes.{Route, last_of}
use Rattle.tagging.specs.declared.glob.GlobPart.{GlobPart}
use Rattle.tagging.specs.Globs.{is_match, captures_of}
use Rattle.tagging.specs.GlobText.{pattern_of}
use Rattle.op_plan.specs.declared.mask.MaskPiece.{MaskPiece}
use Rattle.op_plan.specs.Masks.{keeps_name, filled_mask}

-- the pattern that a mask of sources is, if it is one
abbrev pub pattern_in : List ℕ → Option (List GlobPart)
pattern_in mask = result_ok (pattern_of mask)

-- the last name matches; the root has none
abbrev pub has_match : List GlobPart → Route → Bool
has_match pattern source = option_map_or (λ name. is_match pattern (chars name)) (last_of source) false

-- the sources that match, or all where the mask is no pattern
abbrev pub chosen_sources : Option (List GlobPart) → List Route → List Route
chosen_sources None sources = sources
chosen_sources (Some pattern) sources = filter (has_match pattern) sources

-- a text, if it is a name
abbrev pub checked_name : List ℕ → Option (List ℕ)
checked_name text = if is_none (name_fault text) then Some text else None

-- what the mask makes of a name; a star alone leaves it as it is
abbrev pub target_text : List GlobPart → List MaskPiece → List ℕ → Option (List ℕ)
target_text pattern mask name =
    if keeps_name mask then Some name else
    option_and_then (λ captures. filled_mask name captures mask) (captures_of pattern (chars name))

-- the name of a source's target
abbrev pub target_name : List GlobPart → List MaskPiece → Route → Option (List ℕ)
target_name pattern mask source =
    option_and_then (λ name. option_and_then checked_name (target_text pattern mask name)) (last_of source)

-- what comes of each, where something comes of all
abbrev pub all_of : {X Y : Type 0} → (X → Option Y) → List X → Option (List Y)
all_of f [] = Some []
all_of f (x ∷ xs) = option_and_then (λ y. option_map (λ ys. y ∷ ys) (all_of f xs)) (f x)

-- the names of the targets; none where the sources' mask is no pattern
abbrev pub names_for : Option (List GlobPart) → List MaskPiece → List Route → Option (List (List ℕ))
names_for pattern mask sources = option_and_then (λ parts. all_of (target_name parts mask) sources) pattern
