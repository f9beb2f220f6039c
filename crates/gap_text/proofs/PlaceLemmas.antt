-- Where bytes stand in a part of a text, they stand in the text; a search of its two halves and the seam misses none.
use Rattle.std.proofs.Common.{◌≡◌, ℕ, ◌+◌, ◌-◌, ◌<◌, ◌≤◌, max, Bool, true, false, nat_eq, List, ◌++◌, length, take, drop}
use Rattle.std.proofs.Common.{refl, sym, ap, ◌∙◌, ⊎_elim, arith, length-drop, drop-drop, take-append-drop, append_assoc}
use Rattle.std.specs.List.{starts_with}
use Rattle.std.proofs.lemmas.Bool.{false_from_ne_true, false≢true, both_ways, cases_lt}
use Rattle.std.proofs.lemmas.Bool.Decides.{Decides-eqb}
use Rattle.std.proofs.lemmas.List.{take-append-le, drop-append-le, take_at, drop_at, append_cancel_left}
use Rattle.std.proofs.lemmas.List.Prefix.{at_reads, front_fits}
use Rattle.std.proofs.lemmas.Slice.Eq.{starts_is}
use Rattle.memchr.specs.Find.{OccursAt, Nowhere}
use Rattle.memchr.proofs.lemmas.MatchLemmas.{OccursAt-split}
use Rattle.gap_text.specs.Places.{stands_at, StandNowhere}

-- two tests that say yes to the same
same_answers : (a b : Bool) → (a ≡ true → b ≡ true) → (b ≡ true → a ≡ true) → a ≡ b
same_answers true b forth back = sym (forth refl)
same_answers false b forth back = sym (false_from_ne_true b (λ yes. false≢true (back yes)))

-- what `starts_with` answers, as an equation
module _ (text bytes : List ℕ) where
  starts-from : (rest : List ℕ) → text ≡ bytes ++ rest → starts_with nat_eq text bytes ≡ true
  starts-from = (starts_is Decides-eqb text bytes (starts_with nat_eq text bytes) refl).1

  starts-split : starts_with nat_eq text bytes ≡ true → text ≡ bytes ++ drop (length bytes) text
  starts-split = (starts_is Decides-eqb text bytes (starts_with nat_eq text bytes) refl).0

-- the places of a text against those that `memchr` finds
module _ (text bytes : List ℕ) (at : ℕ) where
  pub stands_at-from_occurs : OccursAt text bytes at → stands_at text bytes at ≡ true
  stands_at-from_occurs occurs = starts-from (drop at text) bytes _ (OccursAt-split text bytes at occurs)

  -- bytes that stand in a text end within it
  pub stands_at-fits : 0 < length bytes → stands_at text bytes at ≡ true → at + length bytes ≤ length text
  stands_at-fits some stands =
      let fits = front_fits (drop at text) bytes _ (starts-split (drop at text) bytes stands) in
      omega (arith, length-drop at text)

  pub OccursAt-from_stands : 0 < length bytes → stands_at text bytes at ≡ true → OccursAt text bytes at
  OccursAt-from_stands some stands =
      record {
        fits = stands_at-fits some stands;
        reads = at_reads 0 text bytes at _ (starts-split (drop at text) bytes stands);
      }

module _ (text bytes : List ℕ) where
  -- nowhere in two stretches that meet at `mid`
  pub StandNowhere-join : (low mid high : ℕ) → StandNowhere text bytes low mid
      → StandNowhere text bytes (max low mid) high → StandNowhere text bytes low high
  StandNowhere-join low mid high before after at from below =
      ⊎_elim (λ early. before at from early) (λ late. after at (omega arith) below) (cases_lt at mid)

  -- the places in the rest of the text from `from` on
  pub stands_at-drop : (from at : ℕ) → stands_at (drop from text) bytes at ≡ stands_at text bytes (from + at)
  stands_at-drop from at = rw (drop-drop at from text)

  pub StandNowhere-drop : (from high limit : ℕ) → 0 < length bytes → limit ≤ from + high
      → Nowhere (OccursAt (drop from text) bytes) 0 high → StandNowhere text bytes from limit
  StandNowhere-drop from high limit some within nowhere at low below stands =
      let place : from + (at - from) ≡ at = omega arith in
      let there = stands_at-drop from (at - from) ∙ ap (λ n. stands_at text bytes n) place ∙ stands in
      nowhere (at - from) (omega arith) (omega arith) (OccursAt-from_stands (drop from text) bytes (at - from) some there)

-- a text of two halves
module _ (front back bytes : List ℕ) where
  -- the places at which the bytes end within the front
  pub stands_at-append_left : (at : ℕ) → at + length bytes ≤ length front
      → stands_at (front ++ back) bytes at ≡ stands_at front bytes at
  stands_at-append_left at fits =
      let enough : length bytes ≤ length (drop at front) = omega (arith, length-drop at front) in
      let dropped = drop-append-le at front back (omega arith) in
      let taken = ap (take (length bytes)) dropped ∙ take-append-le (length bytes) (drop at front) back enough in
      rw taken

  pub StandNowhere-front : (from high : ℕ) → 0 < length bytes → high ≤ length front + 1 - length bytes
      → StandNowhere front bytes from (length front) → StandNowhere (front ++ back) bytes from high
  StandNowhere-front from high some within nowhere at low below stands =
      nowhere at low (omega arith) (sym (stands_at-append_left at (omega arith)) ∙ stands)

  -- the places in the back
  pub stands_at-append_right : (at : ℕ) → stands_at (front ++ back) bytes (length front + at) ≡ stands_at back bytes at
  stands_at-append_right at =
      let dropped = sym (drop-drop at (length front) (front ++ back))
      ∙ ap (drop at) (drop_at front back (length front) refl) in
      rw dropped

  pub StandNowhere-back : (from high : ℕ) → StandNowhere back bytes (from - length front) high
      → StandNowhere (front ++ back) bytes (max from (length front)) (length front + high)
  StandNowhere-back from high nowhere at low below stands =
      let place : length front + (at - length front) ≡ at = omega arith in
      let there = sym (stands_at-append_right (at - length front)) ∙ ap (λ n. stands_at (front ++ back) bytes n) place
      ∙ stands in
      nowhere (at - length front) (omega arith) (omega arith) there

  -- nowhere in the front, nor on the seam, nor in the back below `high`
  pub StandNowhere-halves : (from high : ℕ) → 0 < length bytes
      → StandNowhere front bytes from (length front)
      → StandNowhere (front ++ back) bytes (max from (length front + 1 - length bytes)) (length front)
      → StandNowhere back bytes (from - length front) high
      → StandNowhere (front ++ back) bytes from (length front + high)
  StandNowhere-halves from high some in_front on_seam in_back =
      let text = front ++ back in
      let seam = length front + 1 - length bytes in
      let before_seam = StandNowhere-front from seam some (omega arith) in_front in
      let before_back = StandNowhere-join text bytes from seam (length front) before_seam on_seam in
      StandNowhere-join text bytes from (length front) (length front + high) before_back (StandNowhere-back from high in_back)

  -- where the bytes begin with the front, what is left of them decides
  pub starts_over-then : starts_with nat_eq bytes front ≡ true
      → starts_with nat_eq back (drop (length front) bytes) ≡ starts_with nat_eq (front ++ back) bytes
  starts_over-then begins =
      let left = drop (length front) bytes in
      let split : bytes ≡ front ++ left = starts-split bytes front begins in
      let past = drop (length left) back in
      let whole = drop (length bytes) (front ++ back) in
      same_answers _ _
      (λ goes_on. starts-from (front ++ back) bytes past
      (ap (λ l. front ++ l) (starts-split back left goes_on) ∙ sym (append_assoc front left past) ∙ ap (λ l. l ++ past) (sym split)))
      (λ stands. starts-from back left whole
      (append_cancel_left front back (left ++ whole)
      (starts-split (front ++ back) bytes stands ∙ ap (λ l. l ++ whole) split ∙ append_assoc front left whole)))

  -- and where they do not, they do not stand there
  pub starts_over-else : length front ≤ length bytes → starts_with nat_eq bytes front ≡ false
      → false ≡ starts_with nat_eq (front ++ back) bytes
  starts_over-else within differs =
      sym (false_from_ne_true _ (λ stands.
      let front_is = sym (take_at front back (length front) refl)
      ∙ ap (take (length front)) (starts-split (front ++ back) bytes stands)
      ∙ take-append-le (length front) bytes (drop (length bytes) (front ++ back)) within in
      let split = sym (take-append-drop (length front) bytes)
      ∙ ap (λ l. l ++ drop (length front) bytes) (sym front_is) in
      both_ways _ differs (starts-from bytes front (drop (length front) bytes) split)))
