-- A block with a gap from `start` to `end` holds the bytes before the gap and those after it.
use Rattle.std.proofs.Common.{◌≡◌, ℕ, ◌+◌, ◌-◌, ◌≤◌, List, ◌++◌, length, take, drop, refl, sym, ap, ◌∙◌, arith}
use Rattle.std.proofs.Common.{append_assoc, length-append, length-drop, take-append-drop, drop-drop, length-take-le}
use Rattle.std.proofs.lemmas.List.{take_at, drop_at, take-append-le, take-take}
use Rattle.std.proofs.lemmas.List.Edits.{take-paste, drop-paste}
use Rattle.std.proofs.Math.Seq.{take-add}
use lib.Seq.{paste}
use Rattle.gap_text.specs.PointedText.{PointedText, inserted_text, deleted_text}

-- the text in a block: what stands before the gap, and what stands after it
abbrev pub text_around : List ℕ → ℕ → ℕ → List ℕ
text_around room start end = take start room ++ drop end room

-- a text with a point
abbrev pub text_with : List ℕ → ℕ → PointedText
text_with bytes point = record { bytes = bytes; point = point }

-- two texts with the same bytes and point
pub same_text : {a b : List ℕ} {p q : ℕ} → a ≡ b → p ≡ q → text_with a p ≡ text_with b q
same_text same_bytes same_point = cc

-- two halves that are the same
same_halves : {a b c d : List ℕ} → a ≡ b → c ≡ d → a ++ c ≡ b ++ d
same_halves same_front same_back = cc

-- `drop` in two steps
drop_further : (xs : List ℕ) (less more : ℕ) → less ≤ more → drop more xs ≡ drop (more - less) (drop less xs)
drop_further xs less more further =
    let steps : more ≡ less + (more - less) = omega arith in
    ap (λ n. drop n xs) steps ∙ sym (drop-drop (more - less) less xs)

-- bytes that agree from one place on agree from each later place on
drop_same : (xs ys : List ℕ) (less more : ℕ) → less ≤ more → drop less xs ≡ drop less ys → drop more xs ≡ drop more ys
drop_same xs ys less more further same =
    drop_further xs less more further ∙ ap (drop (more - less)) same ∙ sym (drop_further ys less more further)

module _ (room : List ℕ) (start end : ℕ) (within : start ≤ length room) where
  before_gap : length (take start room) ≡ start
  before_gap = length-take-le start room within

  pub take-text_around : take start (text_around room start end) ≡ take start room
  take-text_around = take_at (take start room) (drop end room) start before_gap

  pub drop-text_around : drop start (text_around room start end) ≡ drop end room
  drop-text_around = drop_at (take start room) (drop end room) start before_gap

  pub length-text_around : length (text_around room start end) ≡ start + (length room - end)
  length-text_around = length-append (take start room) (drop end room) ∙ omega (arith, before_gap, length-drop end room)

  -- a longer gap takes out the bytes that it covers
  pub deleted-around : (count : ℕ)
      → text_with (text_around room start (end + count)) start ≡ deleted_text (text_with (text_around room start end) start) count
  deleted-around count =
      let around = text_around room start end in
      let rest = sym (drop-drop count start around) ∙ ap (drop count) drop-text_around ∙ drop-drop count end room in
      same_text (sym (same_halves take-text_around rest)) refl

-- the bytes between the new point `at` and the old one are moved up to the end of the gap
module _ (room new : List ℕ) (start end at to count : ℕ) (pasted : new ≡ paste room to (drop at room) count) where
  pub moved_back-around : at + count ≡ start → to + count ≡ end → start ≤ end → end ≤ length room
      → text_around new at to ≡ text_around room start end
  moved_back-around before after ordered within =
      let moved = take count (drop at room) in
      let kept : length (take to room) ≡ to = length-take-le to room (omega arith) in
      let whole = pasted ∙ append_assoc (take to room) moved (drop (to + count) room) in
      let rest = moved ++ drop (to + count) room in
      let front = ap (take at) whole ∙ take-append-le at (take to room) rest (omega arith)
      ∙ take-take at to room (omega arith) in
      let back = ap (drop to) whole ∙ drop_at (take to room) rest to kept in
      same_halves front back
      ∙ sym (append_assoc (take at room) moved (drop (to + count) room))
      ∙ same_halves (sym (take-add at count room) ∙ ap (λ n. take n room) before) (ap (λ n. drop n room) after)

-- the bytes between the old point and the new one `at` are moved down to the start of the gap
module _ (room new : List ℕ) (start end at to count : ℕ) (pasted : new ≡ paste room start (drop end room) count) where
  pub moved_on-around : start + count ≡ at → end + count ≡ to → start ≤ end → to ≤ length room
      → text_around new at to ≡ text_around room start end
  moved_on-around before after ordered within =
      let moved = take count (drop end room) in
      let enough : count ≤ length (drop end room) = omega (arith, length-drop end room) in
      let pasted_front = ap (take (start + count)) pasted
      ∙ take-paste room start (drop end room) count (omega arith) enough in
      let pasted_back = ap (drop (start + count)) pasted
      ∙ drop-paste room start (drop end room) count (omega arith) enough in
      let front = ap (λ n. take n new) (sym before) ∙ pasted_front in
      let back = drop_same new room (start + count) to (omega arith) pasted_back ∙ ap (λ n. drop n room) (sym after)
      ∙ sym (drop-drop count end room) in
      same_halves front back
      ∙ append_assoc (take start room) moved (drop count (drop end room))
      ∙ ap (λ l. take start room ++ l) (take-append-drop count (drop end room))

-- bytes are written at the start of a gap that is long enough for them
module _ (room new bytes : List ℕ) (start end to : ℕ) (written : new ≡ take start room ++ (bytes ++ drop to room)) where
  pub inserted-around : start + length bytes ≡ to → to ≤ end → end ≤ length room
      → text_with (text_around new to end) to ≡ inserted_text (text_with (text_around room start end) start) bytes
  inserted-around after long within =
      let kept : length (take start room) ≡ start = length-take-le start room (omega arith) in
      let front_length : length (take start room ++ bytes) ≡ to = omega (arith, length-append (take start room) bytes) in
      let whole = written ∙ sym (append_assoc (take start room) bytes (drop to room)) in
      let front = ap (take to) whole ∙ take_at (take start room ++ bytes) (drop to room) to front_length in
      let behind = ap (drop to) whole ∙ drop_at (take start room ++ bytes) (drop to room) to front_length in
      let back = drop_same new room to end long behind in
      let old_front = take-text_around room start end (omega arith) in
      let old_back = drop-text_around room start end (omega arith) in
      same_text (same_halves front back ∙ append_assoc (take start room) bytes (drop end room) ∙ sym (same_halves old_front (ap (λ l. bytes ++ l) old_back))) (sym after)
