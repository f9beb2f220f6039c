-- A run within a room is the longest that fits, and what follows from that for a fitted text.
use Rattle.std.proofs.Common.{◌≡◌, ℕ, ◌-◌, ◌<◌, ◌≤◌, true, zero, suc, List, [], ◌∷◌, ◌++◌, length, take, refl, ap, ◌∙◌, arith, ⊎_elim}
use Rattle.std.specs.List.{sum_by}
use Rattle.std.proofs.lemmas.List.Sums.{sum_by-cons}
use Rattle.std.proofs.lemmas.Bool.Decides.{nat_tests}
use Rattle.unicode_segmentation.specs.Grapheme.{graphemes}
use Rattle.std.proofs.lemmas.Bool.{cases_lt}
use Rattle.mc_text.specs.Fit.{cluster_columns, columns_in, run_within, blanks, cut_short, fitted_text, IsLongestRun}

-- the first cluster fits
pub run_within-fits : (room : ℕ) (p : List ℕ) (ps : List (List ℕ)) → cluster_columns p ≤ room → run_within room (p ∷ ps) ≡ p ∷ run_within (room - cluster_columns p) ps
run_within-fits room p ps h = grind (arith, nat_tests)

-- the first cluster does not fit
pub run_within-stops : (room : ℕ) (p : List ℕ) (ps : List (List ℕ)) → room < cluster_columns p → run_within room (p ∷ ps) ≡ []
run_within-stops room p ps h = grind (arith, nat_tests)

-- a run takes no more than the room
pub run_within-le : (room : ℕ) (ps : List (List ℕ)) → sum_by cluster_columns (run_within room ps) ≤ room
run_within-le room [] = omega arith
run_within-le room (p ∷ ps) =
    let ih = run_within-le (room - cluster_columns p) ps in
    ⊎_elim
    (λ (h : room < cluster_columns p). rw (run_within-stops room p ps h) (omega arith))
    (λ (h : cluster_columns p ≤ room). rw (run_within-fits room p ps h, sum_by-cons cluster_columns p (run_within (room - cluster_columns p) ps)) (omega arith))
    (cases_lt room (cluster_columns p))

-- a run with all clusters where these fit
pub run_within-all : (room : ℕ) (ps : List (List ℕ)) → sum_by cluster_columns ps ≤ room → run_within room ps ≡ ps
run_within-all room [] h = refl
run_within-all room (p ∷ ps) h =
    let e = sum_by-cons cluster_columns p ps in
    let fits : cluster_columns p ≤ room = omega (arith, e) in
    let rest : sum_by cluster_columns ps ≤ room - cluster_columns p = omega (arith, e) in
    run_within-fits room p ps fits ∙ ap (λ t. p ∷ t) (run_within-all (room - cluster_columns p) ps rest)

-- no longer run fits
pub longest_run : (room : ℕ) (ps : List (List ℕ)) → IsLongestRun room ps (run_within room ps)
longest_run room [] = record { front = refl; fits = omega arith; longest = λ k a b. absurd (omega arith) }
longest_run room (p ∷ ps) =
    let ih = longest_run (room - cluster_columns p) ps in
    ⊎_elim
    (λ (h : room < cluster_columns p).
    rw (run_within-stops room p ps h)
    (record { front = refl; fits = omega arith; longest = longer_none room p ps h }))
    (λ (h : cluster_columns p ≤ room).
    rw (run_within-fits room p ps h)
    (record {
      front = ap (λ t. p ∷ t) ih.front;
      fits = rw (sum_by-cons cluster_columns p (run_within (room - cluster_columns p) ps)) (omega (arith, ih.fits));
      longest = longer_one room p ps (length (run_within (room - cluster_columns p) ps)) h ih.longest;
    }))
    (cases_lt room (cluster_columns p))
  where
    longer_none : (room : ℕ) (p : List ℕ) (ps : List (List ℕ)) → room < cluster_columns p → (k : ℕ) → 0 < k → k ≤ length (p ∷ ps) → room < sum_by cluster_columns (take k (p ∷ ps))
    longer_none room p ps h zero a b = absurd (omega arith)
    longer_none room p ps h (suc k) a b = rw (sum_by-cons cluster_columns p (take k ps)) (omega arith)

    longer_one : (room : ℕ) (p : List ℕ) (ps : List (List ℕ)) (n : ℕ) → cluster_columns p ≤ room
        → ((k : ℕ) → n < k → k ≤ length ps → room - cluster_columns p < sum_by cluster_columns (take k ps))
        → (k : ℕ) → suc n < k → k ≤ length (p ∷ ps) → room < sum_by cluster_columns (take k (p ∷ ps))
    longer_one room p ps n h f zero a b = absurd (omega arith)
    longer_one room p ps n h f (suc k) a b = let m = f k (omega arith) (omega arith) in rw (sum_by-cons cluster_columns p (take k ps)) (omega (arith, m))

pub fitted-none : (text : List ℕ) → fitted_text text 0 ≡ []
unfolding fitted_text
fitted-none text = refl

pub fitted-filled : (text : List ℕ) (n : ℕ) → 0 < n → columns_in text ≤ n → fitted_text text n ≡ text ++ blanks (n - columns_in text)
unfolding fitted_text
fitted-filled text n h le = grind (arith, nat_tests)

pub fitted-cut : (text : List ℕ) (n : ℕ) → 0 < n → n < columns_in text → fitted_text text n ≡ cut_short (run_within (n - 1) (graphemes true text)) n
unfolding fitted_text
fitted-cut text n h lt = grind (arith, nat_tests)
