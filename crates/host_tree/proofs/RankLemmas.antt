-- Names whose numbers differ stand in the order of the numbers.
use Rattle.std.proofs.Common.{◌≡◌, ℕ, zero, suc, ◌+◌, ◌*◌, ◌<◌, List, [], ◌∷◌, refl, sym, ap, subst, ◌∙◌, arith}
use Rattle.std.specs.Prelude.{drop, get_or}
use Rattle.std.specs.declared.cmp.Ordering.{Ordering}
use Rattle.std.specs.declared.cmp.Ordering.TheVariants.{Less, Equal, Greater}
use Rattle.std.specs.Ordering.{nat_cmp, ordering_then, ordering_reverse, MatchOrdering}
use Rattle.std.specs.Cmp.{ranks}
use Rattle.std.specs.Cmp.Lexicographic.{slice_cmp, nat_list_cmp_total}
use Rattle.tree_trait.specs.Answers.{name_cmp}
use Rattle.host_tree.specs.Ranks.{AreBytes, rank_from, rank_of}

rest_bytes : (bytes : List ℕ) → AreBytes bytes → AreBytes (drop 1 bytes)
rest_bytes [] small = small
rest_bytes (byte ∷ bytes) small = λ k. small (suc k)

-- a smaller number stays the smaller one, whatever digits follow
apart : (count less more : ℕ) (a b : List ℕ) → AreBytes a → less < more → rank_from less count a < rank_from more count b
apart zero less more a b small h = h
apart (suc count) less more a b small h =
    let digit = small 0 in
    let next : less * 256 + get_or a 0 0 < more * 256 + get_or b 0 0 = omega (arith, h, digit) in
    apart count (less * 256 + get_or a 0 0) (more * 256 + get_or b 0 0) (drop 1 a) (drop 1 b) (rest_bytes a small) next

-- nothing stands behind the empty name
not_behind : (xs : List ℕ) → name_cmp xs [] ≡ Less → ⊥
not_behind [] h = absurd cc
not_behind (x ∷ xs) h = absurd cc

stands : (count rank : ℕ) (a b : List ℕ) → AreBytes a → AreBytes b → rank_from rank count a < rank_from rank count b → name_cmp a b ≡ Less
stands zero rank a b small_a small_b h = absurd (omega (arith, h))
stands (suc count) rank [] [] small_a small_b h = absurd (omega (arith, h))
stands (suc count) rank [] (y ∷ ys) small_a small_b h = refl
stands (suc count) rank (zero ∷ xs) [] small_a small_b h =
    absurd (not_behind xs (stands count (rank * 256 + 0) xs [] (rest_bytes (zero ∷ xs) small_a) small_b h))
stands (suc count) rank (suc x ∷ xs) [] small_a small_b h =
    let more : rank * 256 + 0 < rank * 256 + suc x = omega arith in
    let back = apart count (rank * 256 + 0) (rank * 256 + suc x) [] xs small_b more in
    absurd (omega (arith, h, back))
stands (suc count) rank (x ∷ xs) (y ∷ ys) small_a small_b h =
    go (stands count (rank * 256 + x) xs ys (rest_bytes (x ∷ xs) small_a) (rest_bytes (y ∷ ys) small_b)) (nat_cmp x y) (ranks x y)
  where
    go : (rank_from (rank * 256 + x) count xs < rank_from (rank * 256 + x) count ys → name_cmp xs ys ≡ Less) → (r : Ordering) → MatchOrdering r (x < y) (x ≡ y) (y < x) → ordering_then r (slice_cmp nat_cmp xs ys) ≡ Less
    go rest Less lies = refl
    go rest Equal lies =
        rest (subst (λ (digit : ℕ). rank_from (rank * 256 + x) count xs < rank_from (rank * 256 + digit) count ys) (sym lies) h)
    go rest Greater lies =
        let more : rank * 256 + y < rank * 256 + x = omega (arith, lies) in
        let back = apart count (rank * 256 + y) (rank * 256 + x) ys xs (rest_bytes (y ∷ ys) small_b) more in
        absurd (omega (arith, h, back))

pub less_by_rank : (mine theirs : ℕ) (a b : List ℕ) → mine ≡ rank_of a → theirs ≡ rank_of b → AreBytes a → AreBytes b → mine < theirs → Less ≡ name_cmp a b
less_by_rank mine theirs a b is other small_a small_b h =
    let ranked : rank_of a < rank_of b = subst (λ (m : ℕ). m < rank_of b) is (subst (λ (t : ℕ). mine < t) other h) in
    sym (stands 8 0 a b small_a small_b ranked)

pub greater_by_rank : (mine theirs : ℕ) (a b : List ℕ) → mine ≡ rank_of a → theirs ≡ rank_of b → AreBytes a → AreBytes b → theirs < mine → Greater ≡ name_cmp a b
greater_by_rank mine theirs a b is other small_a small_b h =
    ap ordering_reverse (less_by_rank theirs mine b a other is small_b small_a h) ∙ sym (nat_list_cmp_total.antisymm a b)

-- how two names are ordered, by their ranks
pub ruleset orders_by_rank = (less_by_rank, greater_by_rank)
