-- Where a line begins and ends, byte by byte.
use Rattle.std.proofs.Common.{◌≡◌, ℕ, zero, suc, ◌+◌, ◌-◌, ◌<◌, ◌≤◌, Bool, true, false, not, List, [], ◌∷◌, ◌++◌, length, take, drop, get_or, refl, ap, ◌∙◌, arith, cond, length-drop, drop-drop, add-one}
use Rattle.std.specs.List.{prefix_len, suffix_len, position_or_len}
use Rattle.std.proofs.Math.ListN.{drop_of_length-le}
use Rattle.std.proofs.lemmas.Bool.{cond-true, cond-false, eq-eqb, ne_eqb}
use Rattle.std.proofs.Math.Seq.{take-suc, drop-cons}
use Rattle.std.proofs.lemmas.List.{reverse-append}
use Rattle.memchr.specs.Find.{IsFirst, IsLast, Passes, is_byte}
use Rattle.std.proofs.Common.{Some, None, sym}
use Rattle.std.proofs.lemmas.Bool.{false_from_ne_true}
use Rattle.std.proofs.lemmas.List.Sums.{count_by_more_yes, count_by_more_no}
use Rattle.gap_text.specs.LineCounts.{newlines}
use Rattle.mc_edit.specs.Lines.{is_newline, line_start, line_end, start_of_line}

abbrev pub in_line : ℕ → Bool
in_line byte = not (is_newline byte)

suffix_len-push : (bytes : List ℕ) (byte : ℕ) → suffix_len in_line (bytes ++ byte ∷ []) ≡ cond (in_line byte) (1 + suffix_len in_line bytes) 0
suffix_len-push bytes byte = ap (prefix_len in_line) (reverse-append bytes (byte ∷ []))

prefix_within : (bytes : List ℕ) → prefix_len in_line bytes ≤ length bytes
prefix_within [] = omega arith
prefix_within (byte ∷ bytes) = by_test (in_line byte) (prefix_within bytes)
  where
    by_test : (test : Bool) → prefix_len in_line bytes ≤ length bytes → cond test (1 + prefix_len in_line bytes) 0 ≤ length (byte ∷ bytes)
    by_test true within = omega (arith, within)
    by_test false within = omega arith

module _ (bytes : List ℕ) (at : ℕ) (inside : at < length bytes) where
  -- a newline ends the line before it
  pub line_start-behind : is_newline (get_or bytes at 0) ≡ true → line_start bytes (at + 1) ≡ at + 1
  line_start-behind newline_here =
      let e : suffix_len in_line (take (at + 1) bytes) ≡ 0 =
      rw (add-one, take-suc bytes at 0 inside) (suffix_len-push (take at bytes) (get_or bytes at 0) ∙ cond-false _ _ _ (ap not newline_here)) in
      omega (arith, e)

  -- another byte is in the line of the place before it
  pub line_start-further : is_newline (get_or bytes at 0) ≡ false → line_start bytes (at + 1) ≡ line_start bytes at
  line_start-further other_here =
      let e : suffix_len in_line (take (at + 1) bytes) ≡ 1 + suffix_len in_line (take at bytes) =
      rw (add-one, take-suc bytes at 0 inside) (suffix_len-push (take at bytes) (get_or bytes at 0) ∙ cond-true _ _ _ (ap not other_here)) in
      omega (arith, e)

  pub line_end-here : is_newline (get_or bytes at 0) ≡ true → line_end bytes at ≡ at
  line_end-here newline_here =
      let e : position_or_len is_newline (drop at bytes) ≡ 0 =
      rw (drop-cons bytes at 0 inside) (cond-false _ _ _ (ap not newline_here)) in
      omega (arith, e)

  pub line_end-further : is_newline (get_or bytes at 0) ≡ false → line_end bytes at ≡ line_end bytes (at + 1)
  line_end-further other_here =
      let e : position_or_len is_newline (drop at bytes) ≡ 1 + position_or_len is_newline (drop (at + 1) bytes) =
      rw (drop-cons bytes at 0 inside, add-one) (cond-true _ _ _ (ap not other_here)) in
      omega (arith, e)

-- at the text's end a line ends
pub line_end-past : (bytes : List ℕ) (at : ℕ) → length bytes ≤ at → line_end bytes at ≡ at
line_end-past bytes at past =
    let e : position_or_len is_newline (drop at bytes) ≡ 0 = ap (position_or_len is_newline) (drop_of_length-le bytes past) in
    omega (arith, e)

-- a line begins at or before each place in it, and ends within the text
pub line_start-below : (bytes : List ℕ) (at : ℕ) → line_start bytes at ≤ at
line_start-below bytes at = omega arith

pub line_end-within : (bytes : List ℕ) (at : ℕ) → at ≤ length bytes → line_end bytes at ≤ length bytes
line_end-within bytes at inside = omega (arith, prefix_within (drop at bytes), length-drop at bytes)

module _ (bytes : List ℕ) (start : ℕ) (inside : start ≤ length bytes) where
  -- from the last line on no line leads further
  pub start_of_line-last : (lines : ℕ) → line_end bytes start ≡ length bytes → start_of_line lines (drop start bytes) ≡ 0
  start_of_line-last zero ends = refl
  start_of_line-last (suc lines) ends =
      let all : position_or_len is_newline (drop start bytes) ≡ length (drop start bytes) = omega (arith, length-drop start bytes) in
      cond-true _ _ _ (eq-eqb _ _ all)

  -- a newline leads to the line behind it
  pub start_of_line-further : (lines : ℕ) → (line_end bytes start ≡ length bytes → ⊥)
      → start + start_of_line (suc lines) (drop start bytes)
      ≡ line_end bytes start + 1 + start_of_line lines (drop (line_end bytes start + 1) bytes)
  start_of_line-further lines goes_on =
      let end = position_or_len is_newline (drop start bytes) in
      let some : end ≡ length (drop start bytes) → ⊥ =
      λ (all : end ≡ length (drop start bytes)). goes_on (omega (arith, length-drop start bytes)) in
      let behind : drop (end + 1) (drop start bytes) ≡ drop (line_end bytes start + 1) bytes =
      let place : start + (end + 1) ≡ line_end bytes start + 1 = omega arith in
      drop-drop (end + 1) start bytes ∙ ap (λ n. drop n bytes) place in
      ap (λ n. start + n) (cond-false _ _ _ (ne_eqb _ _ some))
      ∙ ap (λ l. start + (end + 1 + start_of_line lines l)) behind
      ∙ omega arith

module _ (bytes : List ℕ) where
  -- no newline stands at one of so many places from here on
  abbrev AreInLine : ℕ → ℕ → Type 0
  AreInLine from count = (at : ℕ) → from ≤ at → at < from + count → Passes (is_byte 10) bytes at → ⊥

  line_start-passed : (from count : ℕ) → from + count ≤ length bytes → AreInLine from count
      → line_start bytes (from + count) ≡ line_start bytes from
  line_start-passed from zero inside others = let none : from + 0 ≡ from = omega arith in ap (line_start bytes) none
  line_start-passed from (suc count) inside others =
      let next : from + suc count ≡ from + count + 1 = omega arith in
      let other : is_newline (get_or bytes (from + count) 0) ≡ false =
      false_from_ne_true _ (others (from + count) (omega arith) (omega arith)) in
      ap (line_start bytes) next
      ∙ line_start-further bytes (from + count) (omega arith) other
      ∙ line_start-passed from count (omega arith) (λ at low below. others at low (omega arith))

  line_end-passed : (from count : ℕ) → from + count ≤ length bytes → AreInLine from count
      → line_end bytes from ≡ line_end bytes (from + count)
  line_end-passed from zero inside others = let none : from ≡ from + 0 = omega arith in ap (line_end bytes) none
  line_end-passed from (suc count) inside others =
      let next : from + count + 1 ≡ from + suc count = omega arith in
      let other : is_newline (get_or bytes (from + count) 0) ≡ false =
      false_from_ne_true _ (others (from + count) (omega arith) (omega arith)) in
      line_end-passed from count (omega arith) (λ at low below. others at low (omega arith))
      ∙ line_end-further bytes (from + count) (omega arith) other
      ∙ ap (line_end bytes) next

  line_start-zero : line_start bytes 0 ≡ 0
  line_start-zero = omega arith

  -- the line of a place begins behind the last newline before it
  pub line_start-last : (at newline : ℕ) → at ≤ length bytes → IsLast (Passes (is_byte 10) bytes) 0 at (Some newline)
      → newline + 1 ≡ line_start bytes at
  line_start-last at newline inside last =
      let count = at - (newline + 1) in
      let place : newline + 1 + count ≡ at = omega (arith, last.0.high) in
      sym
      (ap (line_start bytes) (sym place)
      ∙ line_start-passed (newline + 1) count (omega arith) (λ k low below. last.0.after k low (omega arith))
      ∙ line_start-behind bytes newline (omega (arith, last.0.high)) last.1)

  pub line_start-first : (at : ℕ) → at ≤ length bytes → IsLast (Passes (is_byte 10) bytes) 0 at None → 0 ≡ line_start bytes at
  line_start-first at inside nowhere =
      let place : 0 + at ≡ at = omega arith in
      sym
      (ap (line_start bytes) (sym place)
      ∙ line_start-passed 0 at (omega arith) (λ k low below. nowhere k low (omega arith))
      ∙ line_start-zero)

  -- the line of a place ends at the first newline from there on
  pub line_end-first : (at newline : ℕ) → IsFirst (Passes (is_byte 10) bytes) at (length bytes) (Some newline)
      → newline ≡ line_end bytes at
  line_end-first at newline first =
      let count = newline - at in
      let place : at + count ≡ newline = omega (arith, first.0.low) in
      sym
      (line_end-passed at count (omega (arith, first.0.high)) (λ k low below. first.0.before k low (omega arith))
      ∙ ap (line_end bytes) place
      ∙ line_end-here bytes newline first.0.high first.1)

  pub line_end-last : (at : ℕ) → at ≤ length bytes → IsFirst (Passes (is_byte 10) bytes) at (length bytes) None
      → length bytes ≡ line_end bytes at
  line_end-last at inside nowhere =
      let count = length bytes - at in
      let place : at + count ≡ length bytes = omega arith in
      sym
      (line_end-passed at count (omega arith) (λ k low below. nowhere k low (omega arith))
      ∙ ap (line_end bytes) place
      ∙ line_end-past bytes (length bytes) (omega arith))

  -- a line ends where each place in it says
  line_end-start : (at : ℕ) → at ≤ length bytes → line_end bytes (line_start bytes at) ≡ line_end bytes at
  line_end-start zero inside = ap (line_end bytes) line_start-zero
  line_end-start (suc at) inside =
      let next : at + 1 ≡ suc at = omega arith in
      ap (λ n. line_end bytes (line_start bytes n)) (sym next)
      ∙ by_byte (is_newline (get_or bytes at 0)) refl (line_end-start at (omega arith))
      ∙ ap (line_end bytes) next
    where
      by_byte : (test : Bool) → is_newline (get_or bytes at 0) ≡ test → line_end bytes (line_start bytes at) ≡ line_end bytes at
          → line_end bytes (line_start bytes (at + 1)) ≡ line_end bytes (at + 1)
      by_byte true newline_here before = ap (line_end bytes) (line_start-behind bytes at (omega arith) newline_here)
      by_byte false other_here before =
          ap (line_end bytes) (line_start-further bytes at (omega arith) other_here)
          ∙ before ∙ line_end-further bytes at (omega arith) other_here

  -- from the line of a place on, so many lines lead where they and the newlines before the place lead
  pub start_of_line-marked : (at : ℕ) → at ≤ length bytes → (lines : ℕ)
      → line_start bytes at + start_of_line lines (drop (line_start bytes at) bytes)
      ≡ start_of_line (newlines (take at bytes) + lines) bytes
  start_of_line-marked zero inside lines =
      let none : lines ≡ 0 + lines = omega arith in
      let same : 0 + start_of_line lines bytes ≡ start_of_line (0 + lines) bytes =
      omega (arith, ap (λ n. start_of_line n bytes) none) in
      ap (λ n. n + start_of_line lines (drop n bytes)) line_start-zero ∙ same
  start_of_line-marked (suc at) inside lines =
      let next : at + 1 ≡ suc at = omega arith in
      let before : at ≤ length bytes = omega arith in
      ap (λ n. line_start bytes n + start_of_line lines (drop (line_start bytes n) bytes)) (sym next)
      ∙ by_byte (is_newline (get_or bytes at 0)) refl (start_of_line-marked at before lines) (start_of_line-marked at before (suc lines))
      ∙ ap (λ n. start_of_line (newlines (take n bytes) + lines) bytes) next
    where
      by_byte : (test : Bool) → is_newline (get_or bytes at 0) ≡ test
          → line_start bytes at + start_of_line lines (drop (line_start bytes at) bytes)
          ≡ start_of_line (newlines (take at bytes) + lines) bytes
          → line_start bytes at + start_of_line (suc lines) (drop (line_start bytes at) bytes)
          ≡ start_of_line (newlines (take at bytes) + suc lines) bytes
          → line_start bytes (at + 1) + start_of_line lines (drop (line_start bytes (at + 1)) bytes)
          ≡ start_of_line (newlines (take (at + 1) bytes) + lines) bytes
      by_byte true newline_here same further =
          let count : newlines (take at bytes) + suc lines ≡ newlines (take (at + 1) bytes) + lines =
          omega (arith, count_by_more_yes (is_byte 10) bytes at 0 (omega arith) newline_here) in
          let ends : line_end bytes (line_start bytes at) ≡ at =
          line_end-start at (omega arith) ∙ line_end-here bytes at (omega arith) newline_here in
          let goes_on : line_end bytes (line_start bytes at) ≡ length bytes → ⊥ = λ all. omega (arith, ends, all) in
          ap (λ n. n + start_of_line lines (drop n bytes)) (line_start-behind bytes at (omega arith) newline_here)
          ∙ ap (λ n. n + 1 + start_of_line lines (drop (n + 1) bytes)) (sym ends)
          ∙ sym (start_of_line-further bytes (line_start bytes at) (omega (arith, line_start-below bytes at)) lines goes_on)
          ∙ further
          ∙ ap (λ n. start_of_line n bytes) count
      by_byte false other_here same further =
          let count : newlines (take at bytes) + lines ≡ newlines (take (at + 1) bytes) + lines =
          omega (arith, count_by_more_no (is_byte 10) bytes at 0 (omega arith) other_here) in
          ap (λ n. n + start_of_line lines (drop n bytes)) (line_start-further bytes at (omega arith) other_here)
          ∙ same
          ∙ ap (λ n. start_of_line n bytes) count
