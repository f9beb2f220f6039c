-- The counts of both halves stay true where the point moves and bytes change.
use Rattle.std.proofs.Common.{◌≡◌, ℕ, ◌+◌, ◌-◌, ◌*◌, ◌≤◌, List, ◌++◌, length, take, drop, reverse, sym, ap, subst, ◌∙◌, arith, append_assoc, length-append, length-drop, length-take-le, drop-drop}
use Rattle.std.proofs.lemmas.List.{take-take, take_at, drop_at, length-reverse}
use Rattle.gap_text.specs.PointedText.{PointedText, inserted_text, deleted_text}
use Rattle.gap_text.specs.LineCounts.{AreCounts}
use Rattle.gap_text.proofs.LineCountLemmas.{AreCounts-cut, AreCounts-longer, take-reverse}

-- the last bytes of a text are the last ones of each rest that has them
last_bytes : (bytes : List ℕ) (from n : ℕ) → from ≤ length bytes → n ≤ length bytes - from
    → take n (reverse (drop from bytes)) ≡ reverse (drop (length bytes - n) bytes)
last_bytes bytes from n inside few =
    let place : from + (length (drop from bytes) - n) ≡ length bytes - n = omega (arith, length-drop from bytes) in
    take-reverse (drop from bytes) n (omega (arith, length-drop from bytes))
    ∙ ap reverse (drop-drop (length (drop from bytes) - n) from bytes)
    ∙ ap (λ m. reverse (drop m bytes)) place

pub front-moved : (counts bytes : List ℕ) (from to k : ℕ) → to ≤ length bytes → 65536 * k ≤ from → 65536 * k ≤ to
    → AreCounts counts (take from bytes) → AreCounts (take k counts) (take to bytes)
front-moved counts bytes from to k inside old new are =
    let few : 65536 * k ≤ length (take to bytes) = omega (arith, length-take-le to bytes inside) in
    AreCounts-cut counts (take from bytes) (take to bytes) k are few
    (take-take (65536 * k) from bytes old ∙ sym (take-take (65536 * k) to bytes new))

pub back-moved : (counts bytes : List ℕ) (from to k : ℕ) → from ≤ length bytes → to ≤ length bytes
    → 65536 * k ≤ length bytes - from → 65536 * k ≤ length bytes - to
    → AreCounts counts (reverse (drop from bytes)) → AreCounts (take k counts) (reverse (drop to bytes))
back-moved counts bytes from to k inside inside_to old new are =
    let few : 65536 * k ≤ length (reverse (drop to bytes)) =
    omega (arith, length-reverse (drop to bytes), length-drop to bytes) in
    AreCounts-cut counts (reverse (drop from bytes)) (reverse (drop to bytes)) k are few
    (last_bytes bytes from (65536 * k) inside old ∙ sym (last_bytes bytes to (65536 * k) inside_to new))

module _ (text : PointedText) (within : text.point ≤ length text.bytes) where
  fits : length (take text.point text.bytes) ≡ text.point
  fits = length-take-le text.point text.bytes within

  pub front-deleted : (count : ℕ) → take text.point (deleted_text text count).bytes ≡ take text.point text.bytes
  front-deleted count = take_at (take text.point text.bytes) (drop (text.point + count) text.bytes) text.point fits

  pub back-deleted : (count : ℕ) → drop text.point (deleted_text text count).bytes ≡ drop (text.point + count) text.bytes
  back-deleted count = drop_at (take text.point text.bytes) (drop (text.point + count) text.bytes) text.point fits

  module _ (new : List ℕ) where
    begin : List ℕ
    begin = take text.point text.bytes ++ new

    whole : (inserted_text text new).bytes ≡ (take text.point text.bytes ++ new) ++ drop text.point text.bytes
    whole = sym (append_assoc (take text.point text.bytes) new (drop text.point text.bytes))

    begin_fits : length (take text.point text.bytes ++ new) ≡ text.point + length new
    begin_fits = omega (arith, fits, length-append (take text.point text.bytes) new)

    pub front-inserted : take (text.point + length new) (inserted_text text new).bytes ≡ take text.point text.bytes ++ new
    front-inserted =
        ap (take (text.point + length new)) whole
        ∙ take_at (take text.point text.bytes ++ new) (drop text.point text.bytes) (text.point + length new) begin_fits

    pub back-inserted : drop (text.point + length new) (inserted_text text new).bytes ≡ drop text.point text.bytes
    back-inserted =
        ap (drop (text.point + length new)) whole
        ∙ drop_at (take text.point text.bytes ++ new) (drop text.point text.bytes) (text.point + length new) begin_fits

-- the counts once bytes were put in
pub counts-inserted : (before behind new : List ℕ) (text : PointedText) → text.point ≤ length text.bytes
    → AreCounts before (take text.point text.bytes) → AreCounts behind (reverse (drop text.point text.bytes))
    → AreCounts before (take (inserted_text text new).point (inserted_text text new).bytes)
    × AreCounts behind (reverse (drop (inserted_text text new).point (inserted_text text new).bytes))
counts-inserted before behind new text within front back = (
  subst (λ (l : List ℕ). AreCounts before l) (sym (front-inserted text within new)) (AreCounts-longer before _ new front),
  subst (λ (l : List ℕ). AreCounts behind (reverse l)) (sym (back-inserted text within new)) back,
)

-- the counts once bytes were taken out
pub counts-deleted : (before behind : List ℕ) (text : PointedText) (count k : ℕ) → text.point + count ≤ length text.bytes
    → 65536 * k ≤ length text.bytes - text.point - count
    → AreCounts before (take text.point text.bytes) → AreCounts behind (reverse (drop text.point text.bytes))
    → AreCounts before (take (deleted_text text count).point (deleted_text text count).bytes)
    × AreCounts (take k behind) (reverse (drop (deleted_text text count).point (deleted_text text count).bytes))
counts-deleted before behind text count k within few front back =
    let inside : text.point ≤ length text.bytes = omega (arith, within) in (
      subst (λ (l : List ℕ). AreCounts before l) (sym (front-deleted text inside count)) front,
      subst (λ (l : List ℕ). AreCounts (take k behind) (reverse l)) (sym (back-deleted text inside count))
          (back-moved behind text.bytes text.point (text.point + count) k inside within (omega arith) (omega arith) back),
    )
