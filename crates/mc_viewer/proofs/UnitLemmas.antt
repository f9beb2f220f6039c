-- The first unit of a file.
use Rattle.std.proofs.Common.{◌≡◌, ℕ, suc, ◌<◌, ◌≤◌, true, false, List, length, take, sym, ap, ◌∙◌, arith, ⊎_elim}
use Rattle.std.specs.Str.{IsUtf8, is_utf8}
use Rattle.std.proofs.lemmas.Bool.{cases_Bool, cases_lt, both_ways}
use Rattle.std.proofs.lemmas.List.{take_all, take-take}
use Rattle.std.proofs.lemmas.Bool.Decides.{nat_tests}
use Rattle.std.proofs.lemmas.Str.{IsUtf8-from_is_utf8}
use Rattle.mc_viewer.specs.Units.{unit_length}

pub not_text : (bytes : List ℕ) → ¬ (IsUtf8 bytes) → is_utf8 bytes ≡ false
not_text bytes differs =
    ⊎_elim (λ (e : is_utf8 bytes ≡ true). absurd (differs (IsUtf8-from_is_utf8 bytes e))) (λ (e : is_utf8 bytes ≡ false). e) (cases_Bool (is_utf8 bytes))

-- a list that ends by place `n` has the same fronts of `n` and one more
same_fronts : (n : ℕ) (bytes : List ℕ) → length bytes < suc n → take n bytes ≡ take (suc n) bytes
same_fronts n bytes short = take_all n bytes (omega arith) ∙ sym (take_all (suc n) bytes (omega arith))

-- a longer front that is a text where the shorter one isn't has its last byte
longer : (n : ℕ) (bytes : List ℕ) → is_utf8 (take n bytes) ≡ false → is_utf8 (take (suc n) bytes) ≡ true → suc n ≤ length bytes
longer n bytes differs is =
    ⊎_elim (λ (short : length bytes < suc n). absurd (both_ways _ differs (ap is_utf8 (same_fronts n bytes short) ∙ is)))
    (λ (enough : suc n ≤ length bytes). enough) (cases_lt (length bytes) (suc n))

-- the first unit ends within the bytes
pub unit_fits : (bytes : List ℕ) → 1 ≤ length bytes → unit_length bytes ≤ length bytes
unfolding unit_length
unit_fits bytes some =
    ⊎_elim (λ (is : is_utf8 (take 1 bytes) ≡ true). rw is some) (λ (no1 : is_utf8 (take 1 bytes) ≡ false). rw no1
    (⊎_elim (λ (is : is_utf8 (take 2 bytes) ≡ true). rw is (longer 1 bytes no1 is)) (λ (no2 : is_utf8 (take 2 bytes) ≡ false). rw no2
    (⊎_elim (λ (is : is_utf8 (take 3 bytes) ≡ true). rw is (longer 2 bytes no2 is)) (λ (no3 : is_utf8 (take 3 bytes) ≡ false). rw no3
    (⊎_elim (λ (is : is_utf8 (take 4 bytes) ≡ true). rw is (longer 3 bytes no3 is)) (λ (no4 : is_utf8 (take 4 bytes) ≡ false). rw no4 some)
    (cases_Bool (is_utf8 (take 4 bytes)))))
    (cases_Bool (is_utf8 (take 3 bytes)))))
    (cases_Bool (is_utf8 (take 2 bytes)))))
    (cases_Bool (is_utf8 (take 1 bytes)))

-- no shorter front of the first unit is a text
pub unit_shortest : (bytes : List ℕ) (j : ℕ) → 1 ≤ j → j < unit_length bytes → is_utf8 (take j bytes) ≡ false
unfolding unit_length
unit_shortest bytes j some below =
    ⊎_elim (λ (is : is_utf8 (take 1 bytes) ≡ true). absurd (let b = rw is at below in omega arith)) (λ (no1 : is_utf8 (take 1 bytes) ≡ false). let b1 = rw no1 at below in
    ⊎_elim (λ (is : is_utf8 (take 2 bytes) ≡ true). let b = rw is at b1 in let e : j ≡ 1 = omega arith in rw e no1) (λ (no2 : is_utf8 (take 2 bytes) ≡ false). let b2 = rw no2 at b1 in
    ⊎_elim (λ (is : is_utf8 (take 3 bytes) ≡ true). let b = rw is at b2 in
    ⊎_elim (λ (low : j < 2). let e : j ≡ 1 = omega arith in rw e no1) (λ (high : 2 ≤ j). let e : j ≡ 2 = omega arith in rw e no2) (cases_lt j 2)) (λ (no3 : is_utf8 (take 3 bytes) ≡ false). let b3 = rw no3 at b2 in
    ⊎_elim (λ (is : is_utf8 (take 4 bytes) ≡ true). let b = rw is at b3 in
    ⊎_elim (λ (low : j < 2). let e : j ≡ 1 = omega arith in rw e no1) (λ (high : 2 ≤ j).
    ⊎_elim (λ (low : j < 3). let e : j ≡ 2 = omega arith in rw e no2) (λ (higher : 3 ≤ j). let e : j ≡ 3 = omega arith in rw e no3) (cases_lt j 3)) (cases_lt j 2))
    (λ (no4 : is_utf8 (take 4 bytes) ≡ false). absurd (let b = rw no4 at b3 in omega arith)) (cases_Bool (is_utf8 (take 4 bytes))))
    (cases_Bool (is_utf8 (take 3 bytes))))
    (cases_Bool (is_utf8 (take 2 bytes))))
    (cases_Bool (is_utf8 (take 1 bytes)))

-- four bytes are enough to see the first unit
pub unit_local : (n : ℕ) (bytes : List ℕ) → 4 ≤ n → unit_length (take n bytes) ≡ unit_length bytes
unfolding unit_length
unit_local n bytes enough =
    let one : take 1 (take n bytes) ≡ take 1 bytes = take-take 1 n bytes (omega arith) in
    let two : take 2 (take n bytes) ≡ take 2 bytes = take-take 2 n bytes (omega arith) in
    let three : take 3 (take n bytes) ≡ take 3 bytes = take-take 3 n bytes (omega arith) in
    let four : take 4 (take n bytes) ≡ take 4 bytes = take-take 4 n bytes (omega arith) in
    rw (one, two, three, four)

-- a unit of more than one byte is a text
pub unit_text : (bytes : List ℕ) → 2 ≤ unit_length bytes → is_utf8 (take (unit_length bytes) bytes) ≡ true
unfolding unit_length
unit_text bytes =
    ⊎_elim (λ (is : is_utf8 (take 1 bytes) ≡ true). rw is (λ many. absurd (omega arith))) (λ (no1 : is_utf8 (take 1 bytes) ≡ false). rw no1
    (⊎_elim (λ (is : is_utf8 (take 2 bytes) ≡ true). rw is (λ many. is)) (λ (no2 : is_utf8 (take 2 bytes) ≡ false). rw no2
    (⊎_elim (λ (is : is_utf8 (take 3 bytes) ≡ true). rw is (λ many. is)) (λ (no3 : is_utf8 (take 3 bytes) ≡ false). rw no3
    (⊎_elim (λ (is : is_utf8 (take 4 bytes) ≡ true). rw is (λ many. is)) (λ (no4 : is_utf8 (take 4 bytes) ≡ false). rw no4 (λ many. absurd (omega arith)))
    (cases_Bool (is_utf8 (take 4 bytes)))))
    (cases_Bool (is_utf8 (take 3 bytes)))))
    (cases_Bool (is_utf8 (take 2 bytes)))))
    (cases_Bool (is_utf8 (take 1 bytes)))

-- a unit has one byte to four
pub unit_some : (bytes : List ℕ) → 1 ≤ unit_length bytes
unfolding unit_length
unit_some bytes = grind (arith, nat_tests)

pub unit_short : (bytes : List ℕ) → unit_length bytes ≤ 4
unfolding unit_length
unit_short bytes = grind (arith, nat_tests)
