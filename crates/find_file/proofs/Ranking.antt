-- Fewer steps are left after each, but for those that tell the end.
use Rattle.std.proofs.Common.{◌≡◌, ℕ, zero, suc, ◌+◌, ◌*◌, ◌^◌, ◌<◌, ◌≤◌, Bool, true, false, List, ◌∷◌, length, refl, subst, sym, arith}
use Rattle.std.specs.Prelude.{nat_lt, Some, None}
use Rattle.std.proofs.Math.Nat.{mul-le-mul_right, suc-mul}
use Rattle.std.proofs.lemmas.Bool.{ltb-true, ltb-false}
use Rattle.mc_text.specs.Routes.{Route, spelled_route}
use Rattle.find_file.specs.declared.walk.Task.{Task}
use Rattle.find_file.specs.declared.walk.Task.TheVariants.{Look, List as ListTask}
use Rattle.find_file.specs.Folders.{OpenFolder}
use Rattle.find_file.specs.Walks.{bytes_left, weight, rank_of, rank_of_folder, rank_of_folders}
use Rattle.find_file.proofs.Levels.{longer}

pub weight-some : (left : ℕ) → 1 ≤ weight left
weight-some zero = omega arith
weight-some (suc left) = omega arith

grown : (few less more : ℕ) → 4 + 2 ^ 64 * few ≤ more → 4 + 2 ^ 64 * few ≤ 4 + 2 ^ 64 * more
grown few less more h = omega arith

pub weight-grows : (less more : ℕ) → less < more → 4 + 2 ^ 64 * weight less ≤ weight more
weight-grows less zero h = absurd (omega arith)
weight-grows less (suc more) h = go (nat_lt less more) refl (weight-grows less more)
  where
    go : (b : Bool) → nat_lt less more ≡ b → (less < more → 4 + 2 ^ 64 * weight less ≤ weight more) → 4 + 2 ^ 64 * weight less ≤ 4 + 2 ^ 64 * weight more
    go true is later = grown (weight less) less (weight more) (later (ltb-true less more is))
    go false is later =
        let same : less ≡ more = (let above : more ≤ less = ltb-false less more is in omega arith) in
        subst (λ n. 4 + 2 ^ 64 * weight less ≤ 4 + 2 ^ 64 * weight n) same (omega arith)

-- a child that is taken up
sums : (below one many rest : ℕ) → 4 + 2 ^ 64 * below ≤ one → (3 + 2 ^ 64 * below) + ((1 + many) + rest) < 0 + ((1 + (many + one)) + rest)
sums below one many rest h = omega arith

pub rank-taken : (name : List ℕ) (folder : Route) (n rest : ℕ) → length (spelled_route (name ∷ folder)) ≤ 4096
    → (3 + 2 ^ 64 * weight (bytes_left (name ∷ folder))) + ((1 + n * weight (bytes_left folder)) + rest) < 0 + ((1 + suc n * weight (bytes_left folder)) + rest)
rank-taken name folder n rest short =
    let is : length (spelled_route (name ∷ folder)) ≡ length (spelled_route folder) + suc (length name) = longer name folder in
    let fewer : bytes_left (name ∷ folder) < bytes_left folder = omega arith in
    subst (λ all. (3 + 2 ^ 64 * weight (bytes_left (name ∷ folder))) + ((1 + n * weight (bytes_left folder)) + rest) < 0 + ((1 + all) + rest))
    (sym (suc-mul n (weight (bytes_left folder))))
    (sums (weight (bytes_left (name ∷ folder))) (weight (bytes_left folder)) (n * weight (bytes_left folder)) rest (weight-grows (bytes_left (name ∷ folder)) (bytes_left folder) fewer))

-- a child that is passed over
sums_past : (one many rest : ℕ) → 1 ≤ one → 0 + ((1 + many) + rest) < 0 + ((1 + (many + one)) + rest)
sums_past one many rest h = omega arith

pub rank-past : (folder : Route) (n rest : ℕ) → 0 + ((1 + n * weight (bytes_left folder)) + rest) < 0 + ((1 + suc n * weight (bytes_left folder)) + rest)
rank-past folder n rest =
    subst (λ all. 0 + ((1 + n * weight (bytes_left folder)) + rest) < 0 + ((1 + all) + rest)) (sym (suc-mul n (weight (bytes_left folder))))
    (sums_past (weight (bytes_left folder)) (n * weight (bytes_left folder)) rest (weight-some (bytes_left folder)))

-- a task that is done
sums_done : (some many rest : ℕ) → 0 < some → 0 + rest < (some + many) + rest
sums_done some many rest h = omega (arith, h)

pub rank-done : (task : Task) (inner : OpenFolder) (around : List OpenFolder) → rank_of None inner around < rank_of (Some task) inner around
rank-done (Look path is_named) inner around =
    sums_done 3 (2 ^ 64 * weight (bytes_left path)) (rank_of_folder inner + rank_of_folders around) (omega arith)
rank-done (ListTask folder) inner around =
    sums_done 2 (2 ^ 64 * weight (bytes_left folder)) (rank_of_folder inner + rank_of_folders around) (omega arith)

-- a folder that is gone into
sums_in : (few many rest : ℕ) → few ≤ many → 0 + ((1 + few) + rest) < (2 + many) + rest
sums_in few many rest h = omega arith

pub rank-in : (folder : Route) (n rest : ℕ) → n ≤ 2 ^ 64 → 0 + ((1 + n * weight (bytes_left folder)) + rest) < (2 + 2 ^ 64 * weight (bytes_left folder)) + rest
rank-in folder n rest few =
    sums_in (n * weight (bytes_left folder)) (2 ^ 64 * weight (bytes_left folder)) rest (mul-le-mul_right (weight (bytes_left folder)) few)
