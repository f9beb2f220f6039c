-- Bytes that give way to new ones: how long the text becomes, and what takes it back.
use Rattle.std.proofs.Common.{◌≡◌, ℕ, ◌+◌, ◌-◌, ◌≤◌, Bool, true, false, List, ◌++◌, length, take, drop, refl, sym, ap, ◌∙◌, arith}
use Rattle.std.proofs.Common.{append_assoc, length-append, length-drop, take-append-drop, drop-drop, length-take-le, slice_range}
use Rattle.std.proofs.lemmas.Bool.{false_from_ne_true, false≢true}
use Rattle.std.proofs.lemmas.List.{take_at, drop_at, append_cancel_left, append_cancel_right}
use Rattle.std.proofs.lemmas.Slice.Eq.{bytes_eq-Decides}
use Rattle.std.specs.Str.{bytes_eq}
use Rattle.gap_text.specs.PointedText.{moved_to, inserted_text, deleted_text}
use Rattle.mc_edit.specs.Edits.{spliced_bytes}

-- two tests that say the same
same_answers : (a b : Bool) → (a ≡ true → b ≡ true) → (b ≡ true → a ≡ true) → a ≡ b
same_answers true b forth back = sym (forth refl)
same_answers false b forth back = sym (false_from_ne_true b (λ b_true. false≢true (back b_true)))

module _ (bytes : List ℕ) (from to : ℕ) (ordered : from ≤ to) (within : to ≤ length bytes) where
  -- a text is what stands before, between and behind two places
  pub three_parts : take from bytes ++ (slice_range bytes from to ++ drop to bytes) ≡ bytes
  three_parts =
      let place : from + (to - from) ≡ to = omega arith in
      let back : drop to bytes ≡ drop (to - from) (drop from bytes) =
      ap (λ n. drop n bytes) (sym place) ∙ sym (drop-drop (to - from) from bytes) in
      ap (λ l. take from bytes ++ (slice_range bytes from to ++ l)) back
      ∙ ap (λ l. take from bytes ++ l) (take-append-drop (to - from) (drop from bytes))
      ∙ take-append-drop from bytes

  pub length-between : length (slice_range bytes from to) ≡ to - from
  length-between = length-take-le (to - from) (drop from bytes) (omega (arith, length-drop from bytes))

  module _ (new : List ℕ) where
    front_length : length (take from bytes) ≡ from
    front_length = length-take-le from bytes (omega arith)

    pub length-spliced : length (spliced_bytes bytes from to new) ≡ from + (length new + (length bytes - to))
    length-spliced =
        length-append (take from bytes) (new ++ drop to bytes)
        ∙ omega (arith, front_length, length-append new (drop to bytes), length-drop to bytes)

    -- what was put in gives way to what was taken out
    pub spliced-back : spliced_bytes (spliced_bytes bytes from to new) from (from + length new) (slice_range bytes from to) ≡ bytes
    spliced-back =
        let whole = spliced_bytes bytes from to new in
        let front : take from whole ≡ take from bytes = take_at (take from bytes) (new ++ drop to bytes) from front_length in
        let regrouped : whole ≡ (take from bytes ++ new) ++ drop to bytes = sym (append_assoc (take from bytes) new (drop to bytes)) in
        let head_length : length (take from bytes ++ new) ≡ from + length new =
        length-append (take from bytes) new ∙ ap (λ n. n + length new) front_length in
        let back : drop (from + length new) whole ≡ drop to bytes =
        ap (drop (from + length new)) regrouped ∙ drop_at (take from bytes ++ new) (drop to bytes) (from + length new) head_length in
        ap (λ l. l ++ (slice_range bytes from to ++ drop (from + length new) whole)) front
        ∙ ap (λ l. take from bytes ++ (slice_range bytes from to ++ l)) back
        ∙ three_parts

    -- the text stays as it was exactly where the new bytes are those that they replace
    pub bytes_eq-spliced : bytes_eq new (slice_range bytes from to) ≡ bytes_eq (spliced_bytes bytes from to new) bytes
    bytes_eq-spliced =
        let between = bytes_eq-Decides new (slice_range bytes from to) in
        let whole = bytes_eq-Decides (spliced_bytes bytes from to new) bytes in
        same_answers _ _
        (λ is_same. whole.1 (ap (λ l. spliced_bytes bytes from to l) (between.0 is_same) ∙ three_parts))
        (λ stays. between.1 (append_cancel_right new (slice_range bytes from to) (drop to bytes)
        (append_cancel_left (take from bytes) (new ++ drop to bytes) (slice_range bytes from to ++ drop to bytes) (whole.0 stays ∙ sym three_parts))))

    -- a move, a deletion and an insertion splice
    pub replaced-spliced : (point : ℕ)
        → (inserted_text (deleted_text (moved_to (record { bytes = bytes; point = point }) from) (to - from)) new).bytes ≡ spliced_bytes bytes from to new
    replaced-spliced point =
        let place : from + (to - from) ≡ to = omega arith in
        let rest = drop (from + (to - from)) bytes in
        let front : take from (take from bytes ++ rest) ≡ take from bytes = take_at (take from bytes) rest from front_length in
        let back : drop from (take from bytes ++ rest) ≡ rest = drop_at (take from bytes) rest from front_length in
        ap (λ l. l ++ (new ++ drop from (take from bytes ++ rest))) front
        ∙ ap (λ l. take from bytes ++ (new ++ l)) back
        ∙ ap (λ n. take from bytes ++ (new ++ drop n bytes)) place
