-- Counts of newlines stay true where the bytes of their blocks stay.
use Rattle.std.proofs.Common.{◌≡◌, ℕ, ◌+◌, ◌-◌, ◌*◌, ◌<◌, ◌≤◌, Bool, true, false, List, [], ◌∷◌, ◌++◌, length, take, drop, reverse, get_or, refl, sym, ap, ◌∙◌, arith, cond, length-drop, length-append, take-append-drop, drop-drop, take_all}
use Rattle.std.proofs.lemmas.List.{take-append-le, take-take, get_or-take, get_or_append_left, reverse-append, take_at, length-take, length-reverse}
use Rattle.std.proofs.lemmas.Bool.{ltb-true, ltb-false}
use Rattle.std.specs.Prelude.{nat_lt}
use Rattle.std.proofs.lemmas.List.Sums.{count_by-le-length, sum_by-append}
use Rattle.std.proofs.Math.Seq.{get_or-append_seam, take-add}
use Rattle.memchr.specs.Find.{is_byte}
use Rattle.gap_text.specs.LineCounts.{newlines, seen_from, AreCounts}
use Rattle.gap_text.specs.declared.line_counts.Side.{Side}
use Rattle.gap_text.specs.declared.line_counts.Side.TheVariants.{Front, Back}

pub newlines-append : (xs ys : List ℕ) → newlines (xs ++ ys) ≡ newlines xs + newlines ys
newlines-append xs ys = sum_by-append (λ byte. cond (is_byte 10 byte) 1 0) xs ys

pub newlines-reverse : (xs : List ℕ) → newlines (reverse xs) ≡ newlines xs
newlines-reverse [] = refl
newlines-reverse (x ∷ xs) =
    ap newlines (reverse-append (x ∷ []) xs)
    ∙ newlines-append (reverse xs) (x ∷ [])
    ∙ ap (λ n. n + newlines (x ∷ [])) (newlines-reverse xs)
    ∙ omega (arith, sym (newlines-append (x ∷ []) xs))

pub newlines-few : (xs : List ℕ) → newlines xs ≤ length xs
newlines-few xs = count_by-le-length (is_byte 10) xs

pub newlines-take : (xs : List ℕ) (n : ℕ) → newlines (take n xs) + newlines (drop n xs) ≡ newlines xs
newlines-take xs n = sym (newlines-append (take n xs) (drop n xs)) ∙ ap newlines (take-append-drop n xs)

pub newlines-add : (xs : List ℕ) (n m : ℕ) → newlines (take (n + m) xs) ≡ newlines (take n xs) + newlines (take m (drop n xs))
newlines-add xs n m = ap newlines (take-add n m xs) ∙ newlines-append (take n xs) (take m (drop n xs))

-- the first bytes of a list that begins as another does
take_same : (xs ys : List ℕ) (less more : ℕ) → less ≤ more → take more xs ≡ take more ys → take less xs ≡ take less ys
take_same xs ys less more below same =
    sym (take-take less more xs below) ∙ ap (take less) same ∙ take-take less more ys below

pub AreCounts-cut : (counts xs ys : List ℕ) (k : ℕ) → AreCounts counts xs → 65536 * k ≤ length ys
    → take (65536 * k) xs ≡ take (65536 * k) ys → AreCounts (take k counts) ys
AreCounts-cut counts xs ys k are long same =
    record {
      fits = omega (arith, length-take k counts);
      each = λ i below.
          get_or-take k counts i 0 (omega (arith, length-take k counts, below))
          ∙ are.each i (omega (arith, length-take k counts, below))
          ∙ ap newlines (take_same xs ys (65536 * (i + 1)) (65536 * k) (omega (arith, length-take k counts, below)) same);
    }

pub AreCounts-longer : (counts xs more : List ℕ) → AreCounts counts xs → AreCounts counts (xs ++ more)
AreCounts-longer counts xs more are =
    record {
      fits = omega (arith, are.fits, length-append xs more);
      each = λ i below.
          are.each i below
          ∙ ap newlines (sym (take-append-le (65536 * (i + 1)) xs more (omega (arith, are.fits, below))));
    }

pub AreCounts-none : (xs : List ℕ) → AreCounts [] xs
AreCounts-none xs = record { fits = omega arith; each = λ i below. absurd (omega (arith, below)) }

pub AreCounts-push : (counts xs : List ℕ) (all : ℕ) → AreCounts counts xs → 65536 * (length counts + 1) ≤ length xs
    → all ≡ newlines (take (65536 * (length counts + 1)) xs) → AreCounts (counts ++ all ∷ []) xs
AreCounts-push counts xs all are long is =
    record {
      fits = omega (arith, long, length-append counts (all ∷ []));
      each = λ i below. by_place i (omega (arith, below, length-append counts (all ∷ []))) (nat_lt i (length counts)) refl;
    }
  where
    by_place : (i : ℕ) → i ≤ length counts → (test : Bool) → nat_lt i (length counts) ≡ test
        → get_or (counts ++ all ∷ []) i 0 ≡ newlines (take (65536 * (i + 1)) xs)
    by_place i below true inside = get_or_append_left counts (all ∷ []) 0 i (ltb-true i (length counts) inside) ∙ are.each i (ltb-true i (length counts) inside)
    by_place i below false outside =
        let last : i ≡ length counts = omega (arith, below, ltb-false i (length counts) outside) in
        ap (λ n. get_or (counts ++ all ∷ []) n 0) last ∙ get_or-append_seam counts all [] 0 ∙ is
        ∙ ap (λ n. newlines (take (65536 * (n + 1)) xs)) (sym last)

-- all that was counted
pub counted-all : (counts xs : List ℕ) → AreCounts counts xs → get_or counts (length counts - 1) 0 ≡ newlines (take (65536 * length counts) xs)
counted-all [] xs are = refl
counted-all (count ∷ counts) xs are =
    let last : length (count ∷ counts) - 1 + 1 ≡ length (count ∷ counts) = omega arith in
    are.each (length (count ∷ counts) - 1) (omega arith) ∙ ap (λ n. newlines (take (65536 * n) xs)) last

-- the first bytes of a half that is seen from its end
pub take-reverse : (xs : List ℕ) (n : ℕ) → n ≤ length xs → take n (reverse xs) ≡ reverse (drop (length xs - n) xs)
take-reverse xs n inside =
    let at = length xs - n in
    let long : length (reverse (drop at xs)) ≡ n = omega (arith, length-reverse (drop at xs), length-drop at xs) in
    ap (λ l. take n (reverse l)) (sym (take-append-drop at xs))
    ∙ ap (take n) (reverse-append (take at xs) (drop at xs))
    ∙ take_at (reverse (drop at xs)) (reverse (take at xs)) n long

newlines-from_end : (xs : List ℕ) (n : ℕ) → n ≤ length xs → newlines (take n (reverse xs)) ≡ newlines (drop (length xs - n) xs)
newlines-from_end xs n inside = ap newlines (take-reverse xs n inside) ∙ newlines-reverse (drop (length xs - n) xs)

pub newlines-part : (xs : List ℕ) (from to : ℕ) → from ≤ to
    → newlines (take from xs) + newlines (take (to - from) (drop from xs)) ≡ newlines (take to xs)
newlines-part xs from to ordered =
    let steps : from + (to - from) ≡ to = omega arith in
    sym (newlines-append (take from xs) (take (to - from) (drop from xs)))
    ∙ ap newlines (sym (take-add from (to - from) xs))
    ∙ ap (λ n. newlines (take n xs)) steps

pub newlines-part_back : (xs : List ℕ) (from to : ℕ) → from ≤ to → to ≤ length xs
    → newlines (take from (reverse xs))
    + newlines (take (length xs - from - (length xs - to)) (drop (length xs - to) xs))
    ≡ newlines (take to (reverse xs))
newlines-part_back xs from to ordered inside =
    let size = length xs in
    let count = size - from - (size - to) in
    let behind : size - to + count ≡ size - from = omega arith in
    let rest : newlines (drop count (drop (size - to) xs)) ≡ newlines (drop (size - from) xs) =
    ap newlines (drop-drop count (size - to) xs) ∙ ap (λ n. newlines (drop n xs)) behind in
    omega (
      arith,
      newlines-from_end xs from (omega arith),
      newlines-from_end xs to inside,
      newlines-take (drop (size - to) xs) count,
      rest,
    )

-- the newlines on both sides of a counted block's start
pub back-mark : (counts back : List ℕ) → AreCounts counts (reverse back) → (at : ℕ) → at < length counts
    → get_or counts at 0 + newlines (take (length back - 65536 * (at + 1)) back) ≡ newlines back
back-mark counts back are at below =
    let place = length back - 65536 * (at + 1) in
    let long : 65536 * (at + 1) ≤ length back = omega (arith, are.fits, length-reverse back) in
    omega (
      arith,
      are.each at below,
      newlines-from_end back (65536 * (at + 1)) long,
      newlines-take back place,
    )

pub newlines-seen : (side : Side) (half : List ℕ) → newlines (take (length half) (seen_from side half)) ≡ newlines half
newlines-seen Front half = ap newlines (take_all (length half) half (omega arith))
newlines-seen Back half =
    ap newlines (take_all (length half) (reverse half) (omega (arith, length-reverse half))) ∙ newlines-reverse half

pub length-seen : (side : Side) (half : List ℕ) → length (seen_from side half) ≡ length half
length-seen Front half = refl
length-seen Back half = length-reverse half
