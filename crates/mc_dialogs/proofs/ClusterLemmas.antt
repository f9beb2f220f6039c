-- one cluster more of those at the front of a text
use Rattle.std.proofs.Common.{◌≡◌, ℕ, ◌+◌, ◌-◌, ◌<◌, zero, suc, List, [], ◌∷◌, ◌++◌, take, append_assoc, arith}
use Rattle.std.specs.List.{concat}

pub take_next : (left : ℕ) (front cluster : List ℕ) (rest : List (List ℕ)) → 0 < left
    → (front ++ cluster) ++ concat (take (left - 1) rest) ≡ front ++ concat (take left (cluster ∷ rest))
take_next zero front cluster rest some = absurd (omega arith)
take_next (suc k) front cluster rest some =
    let e : suc k - 1 ≡ k = omega arith in
    rw e (append_assoc front cluster (concat (take k rest)))
