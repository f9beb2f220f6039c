-- The end of a text that has room, cluster by cluster.
use Rattle.std.proofs.Common.{◌≡◌, ℕ, ◌≤◌, ◌+◌, Bool, true, false, List, [], ◌∷◌, ◌++◌, refl, sym, ◌∙◌, ap, subst, append_assoc, sum_by, arith}
use Rattle.std.specs.Prelude.{nat_le, if◌then◌else◌}
use Rattle.std.specs.List.{concat}
use Rattle.std.proofs.lemmas.Bool.{cond-true, le-leb, leb-true}
use Rattle.std.proofs.lemmas.List.{append-nil}
use Rattle.std.proofs.lemmas.List.Sums.{sum_by-cons}
use Rattle.mc_text.specs.Fit.{cluster_columns}
use Rattle.ui_words.specs.PathLines.{end_within}

-- what has room is whole
end_that_fits : (room : ℕ) (clusters : List (List ℕ)) → sum_by cluster_columns clusters ≤ room → end_within room clusters ≡ clusters
end_that_fits room [] fits = refl
end_that_fits room (cluster ∷ rest) fits =
    cond-true (nat_le (sum_by cluster_columns (cluster ∷ rest)) room) (cluster ∷ rest) (end_within room rest) (le-leb (sum_by cluster_columns (cluster ∷ rest)) room fits)

end_by : (room : ℕ) (front cluster : List ℕ) (rest : List (List ℕ)) (fits : Bool) → nat_le (sum_by cluster_columns (cluster ∷ rest)) room ≡ fits
    → (front ++ (if fits then cluster else [])) ++ concat (end_within room rest) ≡ front ++ concat (if fits then cluster ∷ rest else end_within room rest)
end_by room front cluster rest true is =
    let all = sum_by-cons cluster_columns cluster rest in
    let whole = leb-true (sum_by cluster_columns (cluster ∷ rest)) room is in
    let behind : sum_by cluster_columns rest ≤ room = omega (arith, all, whole) in
    ap (λ kept. (front ++ cluster) ++ concat kept) (end_that_fits room rest behind) ∙ append_assoc front cluster (concat rest)
end_by room front cluster rest false is = ap (λ bytes. bytes ++ concat (end_within room rest)) (append-nil front)

-- a cluster is put, or left out, before those behind it
pub next_of_end : (room left : ℕ) (front cluster : List ℕ) (rest : List (List ℕ)) → left ≡ sum_by cluster_columns (cluster ∷ rest)
    → (front ++ (if nat_le left room then cluster else [])) ++ concat (end_within room rest) ≡ front ++ concat (end_within room (cluster ∷ rest))
next_of_end room left front cluster rest is =
    subst (λ n. (front ++ (if nat_le n room then cluster else [])) ++ concat (end_within room rest) ≡ front ++ concat (end_within room (cluster ∷ rest))) (sym is)
    (end_by room front cluster rest (nat_le (sum_by cluster_columns (cluster ∷ rest)) room) refl)
