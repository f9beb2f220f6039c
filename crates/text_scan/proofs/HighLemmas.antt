-- A character from 128 on is two, three or four bytes, each with its top bit set.
use Rattle.std.proofs.Common.{◌≡◌, ℕ, ◌+◌, ◌/◌, ◌≤◌, Bool, true, false, cond, ltb, [], ◌∷◌, refl, arith}
use lib.Utf8.{encode, next}
use Rattle.text_scan.specs.HighBytes.{AreHigh}

pub encode-high : (c : ℕ) → 128 ≤ c → AreHigh (encode c)
unfolding encode
encode-high c high = go (ltb c 128) (ltb c 2048) (ltb c 65536) refl
  where
    go : (one two three : Bool) → ltb c 128 ≡ one
        → AreHigh (cond one (c ∷ []) (cond two ((192 + c / 64) ∷ next c ∷ []) (cond three ((224 + c / 4096) ∷ next (c / 64) ∷ next c ∷ [])
        ((240 + c / 262144) ∷ next (c / 4096) ∷ next (c / 64) ∷ next c ∷ []))))
    go true two three is = (high, tt)
    go false true three is = (omega arith, (omega arith, tt))
    go false false true is = (omega arith, (omega arith, (omega arith, tt)))
    go false false false is = (omega arith, (omega arith, (omega arith, (omega arith, tt))))
