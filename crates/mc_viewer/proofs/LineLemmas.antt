-- The first line of some bytes, by its newline.
use Rattle.std.proofs.Common.{◌≡◌, ℕ, zero, suc, ◌+◌, ◌-◌, ◌<◌, ◌≤◌, ◌⊎◌, inl, inr, true, List, [], ◌∷◌, length, take, drop, get_or, refl, sym, ap, ◌∙◌, arith, ⊎_elim, subst, length-take, length-drop, drop-drop, min}
use Rattle.std.proofs.lemmas.Bool.{cases_lt, cond-true, cond-false, false_from_ne_true, eq-eqb, eqb-true, ne_eqb}
use Rattle.std.proofs.lemmas.List.{get_or-take, get_or-drop, drop_all}
use Rattle.memchr.specs.Find.{is_byte}
use Rattle.mc_viewer.specs.Rows.{line_length, IsLineStart}

pub line_length-newline : (byte : ℕ) (rest : List ℕ) → byte ≡ 10 → line_length (byte ∷ rest) ≡ 1
unfolding line_length
line_length-newline byte rest is = cond-true _ _ _ (eq-eqb _ _ is)

pub line_length-other : (byte : ℕ) (rest : List ℕ) → (byte ≡ 10 → ⊥) → line_length (byte ∷ rest) ≡ suc (line_length rest)
unfolding line_length
line_length-other byte rest differs = cond-false _ _ _ (ne_eqb _ _ differs)

pub line_length-at : (bytes : List ℕ) (at : ℕ) → at < length bytes
    → ((k : ℕ) → k < at → is_byte 10 (get_or bytes k 0) ≡ true → ⊥) → is_byte 10 (get_or bytes at 0) ≡ true
    → line_length bytes ≡ at + 1
unfolding line_length
line_length-at [] at inside before here = absurd (omega arith)
line_length-at (byte ∷ rest) zero inside before here = cond-true _ _ _ here
line_length-at (byte ∷ rest) (suc at) inside before here =
    let e : suc (at + 1) ≡ suc at + 1 = omega arith in
    cond-false _ _ _ (false_from_ne_true _ (before 0 (omega arith)))
    ∙ ap suc (line_length-at rest at (omega arith) (λ k low. before (suc k) (omega arith)) here) ∙ e

pub line_length-none : (bytes : List ℕ) → ((k : ℕ) → k < length bytes → is_byte 10 (get_or bytes k 0) ≡ true → ⊥)
    → line_length bytes ≡ length bytes
unfolding line_length
line_length-none [] nowhere = refl
line_length-none (byte ∷ rest) nowhere =
    cond-false _ _ _ (false_from_ne_true _ (nowhere 0 (omega arith)))
    ∙ ap suc (line_length-none rest (λ k low. nowhere (suc k) (omega arith)))

-- a byte is a newline or isn't
pub is_ten : (byte : ℕ) → (byte ≡ 10) ⊎ (byte ≡ 10 → ⊥)
is_ten byte =
    ⊎_elim (λ (low : byte < 10). inr (λ (is : byte ≡ 10). omega arith))
    (λ (high : 10 ≤ byte). ⊎_elim (λ (more : 10 < byte). inr (λ (is : byte ≡ 10). omega arith)) (λ (same : byte ≤ 10). inl (omega arith)) (cases_lt 10 byte))
    (cases_lt byte 10)

-- a line of which so many bytes are no newline goes on behind them
pub line_length-over : (count : ℕ) (bytes : List ℕ) → ((k : ℕ) → k < length (take count bytes) → is_byte 10 (get_or (take count bytes) k 0) ≡ true → ⊥)
    → line_length bytes ≡ length (take count bytes) + line_length (drop (length (take count bytes)) bytes)
line_length-over zero bytes nowhere = omega arith
line_length-over (suc count) [] nowhere = omega arith
line_length-over (suc count) (byte ∷ rest) nowhere =
    let differs = λ (is : byte ≡ 10). nowhere 0 (omega arith) (eq-eqb _ _ is) in
    let other = line_length-other byte rest differs in
    let further = line_length-over count rest (λ k low. nowhere (suc k) (omega arith)) in
    omega arith

-- a newline within the first bytes ends the line
pub line_length-in : (count at : ℕ) (bytes : List ℕ) → at < length (take count bytes)
    → ((k : ℕ) → k < at → is_byte 10 (get_or (take count bytes) k 0) ≡ true → ⊥) → is_byte 10 (get_or (take count bytes) at 0) ≡ true
    → line_length bytes ≡ at + 1
line_length-in count at bytes inside before here =
    let short : length (take count bytes) ≤ count = omega (arith, length-take count bytes) in
    let within : length (take count bytes) ≤ length bytes = omega (arith, length-take count bytes) in
    line_length-at bytes at (omega arith)
    (λ k low there. before k low (ap (is_byte 10) (get_or-take count bytes k 0 (omega arith)) ∙ there))
    (ap (is_byte 10) (sym (get_or-take count bytes at 0 (omega arith))) ∙ here)

pub line_length-within : (bytes : List ℕ) → line_length bytes ≤ length bytes
unfolding line_length
line_length-within [] = omega arith
line_length-within (byte ∷ rest) =
    ⊎_elim (λ (is : byte ≡ 10). rw (line_length-newline byte rest is) (omega arith))
    (λ (differs : byte ≡ 10 → ⊥). rw (line_length-other byte rest differs) (omega (arith, line_length-within rest)))
    (is_ten byte)

module _ (bytes piece : List ℕ) (size count end : ℕ) (piece_is : piece ≡ take count (drop end bytes)) (size_is : length bytes ≡ size) (inside : end < size) where
  piece_fits : length piece ≤ size - end
  piece_fits = omega (arith, ap length piece_is, length-take count (drop end bytes), length-drop end bytes)

  -- a piece without a newline lies within the line
  pub line-goes_on : (next : ℕ) → next ≡ min size (end + length piece)
      → ((k : ℕ) → k < length piece → is_byte 10 (get_or piece k 0) ≡ true → ⊥)
      → end + line_length (drop end bytes) ≡ next + line_length (drop next bytes)
  line-goes_on next is nowhere =
      let len : length (take count (drop end bytes)) ≡ length piece = ap length (sym piece_is) in
      let over = line_length-over count (drop end bytes)
      (λ k low here. nowhere k (omega arith) (ap (λ l. is_byte 10 (get_or l k 0)) piece_is ∙ here)) in
      let there : next ≡ end + length (take count (drop end bytes)) = omega (arith, piece_fits) in
      let rest : line_length (drop (length (take count (drop end bytes))) (drop end bytes)) ≡ line_length (drop next bytes) =
      ap line_length (drop-drop (length (take count (drop end bytes))) end bytes ∙ ap (λ n. drop n bytes) (sym there)) in
      omega arith

  -- a newline in a piece ends the line
  pub line-ends_at : (at next : ℕ) → next ≡ min size (end + at + 1) → at < length piece
      → ((k : ℕ) → k < at → is_byte 10 (get_or piece k 0) ≡ true → ⊥) → is_byte 10 (get_or piece at 0) ≡ true
      → next ≡ end + line_length (drop end bytes)
  line-ends_at at next is low before here =
      let len : length (take count (drop end bytes)) ≡ length piece = ap length (sym piece_is) in
      let line = line_length-in count at (drop end bytes) (omega arith)
      (λ k less there. before k less (ap (λ l. is_byte 10 (get_or l k 0)) piece_is ∙ there))
      (ap (λ l. is_byte 10 (get_or l at 0)) (sym piece_is) ∙ here) in
      omega (arith, piece_fits)

  -- there are bytes up to the end
  pub piece-some : 1 ≤ count → 1 ≤ length piece
  piece-some some = omega (arith, ap length piece_is, length-take count (drop end bytes), length-drop end bytes)

pub line-ends_file : (bytes : List ℕ) (size end : ℕ) → length bytes ≡ size → size ≤ end → end + line_length (drop end bytes) ≡ end
unfolding line_length
line-ends_file bytes size end size_is past =
    let none : drop end bytes ≡ [] = drop_all end bytes (omega arith) in
    let zero_is : line_length (drop end bytes) ≡ 0 = ap line_length none in
    omega arith

-- behind a newline a line begins
pub line-begins : (bytes piece : List ℕ) (count start at : ℕ) → piece ≡ take count (drop start bytes) → at < length piece
    → is_byte 10 (get_or piece at 0) ≡ true → IsLineStart bytes (start + at + 1)
line-begins bytes piece count start at piece_is low here =
    let e : suc (start + at) ≡ start + at + 1 = omega arith in
    let len : length piece ≡ length (take count (drop start bytes)) = ap length piece_is in
    let short : at < count = omega (arith, length-take count (drop start bytes)) in
    let byte : get_or piece at 0 ≡ get_or bytes (start + at) 0 =
    ap (λ l. get_or l at 0) piece_is ∙ get_or-take count (drop start bytes) at 0 short ∙ get_or-drop start bytes at 0 in
    subst (IsLineStart bytes) e
    (omega (arith, length-take count (drop start bytes), length-drop start bytes), sym byte ∙ eqb-true _ _ here)
