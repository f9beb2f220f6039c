-- Lines that are passed in a piece.
use Rattle.std.proofs.Common.{◌≡◌, ℕ, suc, ◌+◌, ◌-◌, ◌<◌, ◌≤◌, true, List, length, take, drop, get_or, min, refl, sym, ap, ◌∙◌, arith, ⊎_elim, length-take, length-drop, drop-drop}
use Rattle.std.proofs.lemmas.Bool.{cases_lt}
use Rattle.std.proofs.lemmas.List.{drop-take}
use Rattle.memchr.specs.Find.{is_byte}
use Rattle.mc_viewer.specs.Rows.{line_length, line_behind}
use Rattle.mc_viewer.proofs.LineLemmas.{line-goes_on, line-ends_at}
use Rattle.mc_viewer.proofs.StepLemmas.{line-further}

module _ (bytes piece : List ℕ) (count at passed : ℕ) (piece_is : piece ≡ take count (drop at bytes)) (within : passed ≤ length piece) where
  short : length piece ≤ count
  short = omega (arith, ap length piece_is, length-take count (drop at bytes))

  -- what is left of the piece
  rest_is : drop passed piece ≡ take (count - passed) (drop (at + passed) bytes)
  rest_is =
      let e : count ≡ passed + (count - passed) = omega (arith, short) in
      ap (drop passed) piece_is ∙ ap (λ n. drop passed (take n (drop at bytes))) e
      ∙ drop-take passed (count - passed) (drop at bytes) ∙ ap (take (count - passed)) (drop-drop passed at bytes)

  -- some of it is left
  left_inside : passed < length piece → at + passed < length bytes
  left_inside some = omega (arith, ap length piece_is, length-take count (drop at bytes), length-drop at bytes)

  -- a newline ends a line
  pub pass-one : (newline left more : ℕ) → more ≡ suc left → newline < length (drop passed piece)
      → ((k : ℕ) → k < newline → is_byte 10 (get_or (drop passed piece) k 0) ≡ true → ⊥)
      → is_byte 10 (get_or (drop passed piece) newline 0) ≡ true
      → line_behind more bytes (at + passed) ≡ line_behind left bytes (at + (passed + (newline + 1)))
  pass-one newline left more one_more low before here =
      let some : passed < length piece = omega (arith, length-drop passed piece) in
      let next : at + (passed + (newline + 1)) ≡ min (length bytes) (at + passed + newline + 1) =
      omega (arith, length-drop passed piece, ap length piece_is, length-take count (drop at bytes), length-drop at bytes) in
      sym (line-further left more one_more bytes (at + passed) (at + (passed + (newline + 1)))
      (line-ends_at bytes (drop passed piece) (length bytes) (count - passed) (at + passed) rest_is refl (left_inside some)
      newline (at + (passed + (newline + 1))) next low before here))

  -- without one the line goes on behind the piece
  pub pass-none : (left more : ℕ) → more ≡ suc left
      → ((k : ℕ) → k < length (drop passed piece) → is_byte 10 (get_or (drop passed piece) k 0) ≡ true → ⊥)
      → line_behind more bytes (at + passed) ≡ line_behind more bytes (at + length piece)
  pass-none left more one_more nowhere =
      ⊎_elim
      (λ (some : passed < length piece).
      let next : at + length piece ≡ min (length bytes) (at + passed + length (drop passed piece)) =
      omega (arith, length-drop passed piece, ap length piece_is, length-take count (drop at bytes), length-drop at bytes) in
      let goes = line-goes_on bytes (drop passed piece) (length bytes) (count - passed) (at + passed) rest_is refl (left_inside some)
      (at + length piece) next nowhere in
      sym (line-further left more one_more bytes (at + passed) (at + passed + line_length (drop (at + passed) bytes)) refl)
      ∙ line-further left more one_more bytes (at + length piece) (at + passed + line_length (drop (at + passed) bytes)) goes)
      (λ (all : length piece ≤ passed). let e : at + passed ≡ at + length piece = omega arith in ap (line_behind more bytes) e)
      (cases_lt passed (length piece))
