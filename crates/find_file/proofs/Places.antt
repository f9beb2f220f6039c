-- Where a content stands among bytes, piece by piece.
use Rattle.std.proofs.Common.{◌≡◌, ℕ, zero, suc, ◌+◌, ◌-◌, ◌<◌, ◌≤◌, Bool, true, false, List, [], ◌∷◌, ◌++◌, length, take, drop, refl, sym, ap, ◌∙◌, arith, length-append, length-drop}
use Rattle.std.specs.Prelude.{◌||◌, Option, Some, None, is_some}
use Rattle.std.specs.Str.{bytes_eq}
use Rattle.std.proofs.lemmas.Bool.{eqb-true}
use Rattle.std.proofs.lemmas.List.{take-append-le, drop-append-le, length-take}
use Rattle.std.proofs.lemmas.Slice.Eq.{bytes_eq-Decides}
use Rattle.memchr.specs.Find.{FindsNeedle}
use Rattle.memchr.proofs.lemmas.MatchLemmas.{OccursAt-part, OccursAt-from_part}
use Rattle.find_file.specs.FoundList.{holds}

or_right : (a b : Bool) → b ≡ true → (a || b) ≡ true
or_right true b h = refl
or_right false b h = h

or_left : (a b : Bool) → a ≡ true → (a || b) ≡ true
or_left true b h = refl
or_left false b h = cc

no_left : (a b : Bool) → (a || b) ≡ false → a ≡ false
no_left true b h = cc
no_left false b h = refl

no_right : (a b : Bool) → (a || b) ≡ false → b ≡ false
no_right true b h = cc
no_right false b h = h

without_left : (a b : Bool) → a ≡ false → (a || b) ≡ b
without_left true b h = cc
without_left false b h = refl

module _ (content : List ℕ) (some : 1 ≤ length content) where
  -- the content stands at a place
  abbrev Stands : ℕ → List ℕ → Type 0
  Stands at bytes = (at + length content ≤ length bytes) × (take (length content) (drop at bytes) ≡ content)

  pub holds-from : (at : ℕ) (bytes : List ℕ) → Stands at bytes → holds content bytes ≡ true
  holds-from at [] stands = absurd (omega (arith, stands.0))
  holds-from zero (byte ∷ bytes) stands =
      or_left (bytes_eq (take (length content) (byte ∷ bytes)) content) (holds content bytes) ((bytes_eq-Decides (take (length content) (byte ∷ bytes)) content).1 stands.1)
  holds-from (suc at) (byte ∷ bytes) stands =
      or_right (bytes_eq (take (length content) (byte ∷ bytes)) content) (holds content bytes) (holds-from at bytes (omega (arith, stands.0), stands.1))

  long_enough : (bytes : List ℕ) → take (length content) bytes ≡ content → length content ≤ length bytes
  long_enough bytes is = omega (arith, length-take (length content) bytes, ap length is)

  pub holds-at : (bytes : List ℕ) → holds content bytes ≡ true → (at : ℕ) × Stands at bytes
  holds-at [] holds_it = absurd (let none : length content ≡ 0 = eqb-true (length content) 0 holds_it in omega arith)
  holds-at (byte ∷ bytes) holds_it = go (bytes_eq (take (length content) (byte ∷ bytes)) content) refl holds_it (holds-at bytes)
    where
      go : (first : Bool) → bytes_eq (take (length content) (byte ∷ bytes)) content ≡ first → (first || holds content bytes) ≡ true
          → (holds content bytes ≡ true → (at : ℕ) × Stands at bytes) → (at : ℕ) × Stands at (byte ∷ bytes)
      go true is holds_it later =
          let stands : take (length content) (byte ∷ bytes) ≡ content = (bytes_eq-Decides (take (length content) (byte ∷ bytes)) content).0 is in
          (0, (omega (arith, long_enough (byte ∷ bytes) stands), stands))
      go false is holds_it later =
          let there = later holds_it in
          (suc there.0, (omega (arith, there.1.0), there.1.1))

  -- too few bytes don't hold it
  pub holds-short : (bytes : List ℕ) → length bytes < length content → holds content bytes ≡ false
  holds-short bytes short = go (holds content bytes) refl
    where
      go : (b : Bool) → holds content bytes ≡ b → b ≡ false
      go true is = let there = holds-at bytes is in absurd (omega (arith, there.1.0, short))
      go false is = refl

  -- more bytes behind
  pub holds-more : (bytes more : List ℕ) → holds content bytes ≡ true → holds content (bytes ++ more) ≡ true
  holds-more bytes more is =
      let there = holds-at bytes is in
      let within : there.0 ≤ length bytes = omega (arith, there.1.0) in
      let rest : length content ≤ length (drop there.0 bytes) = omega (arith, there.1.0, length-drop there.0 bytes) in
      holds-from there.0 (bytes ++ more) (
        omega (arith, there.1.0, length-append bytes more),
        ap (take (length content)) (drop-append-le there.0 bytes more within) ∙ (take-append-le (length content) (drop there.0 bytes) more rest ∙ there.1.1),
      )

  -- where it doesn't stand it needn't be sought again, but from the last bytes that may begin it
  pub holds-later : (bytes more : List ℕ) (passed : ℕ) → holds content bytes ≡ false → passed + length content ≤ length bytes + 1
      → holds content (bytes ++ more) ≡ holds content (drop passed bytes ++ more)
  holds-later bytes more zero none short = refl
  holds-later [] more (suc passed) none short = refl
  holds-later (byte ∷ bytes) more (suc passed) none short =
      let fits : length content ≤ length (byte ∷ bytes) = omega arith in
      let same : bytes_eq (take (length content) (byte ∷ (bytes ++ more))) content ≡ bytes_eq (take (length content) (byte ∷ bytes)) content =
      ap (λ l. bytes_eq l content) (take-append-le (length content) (byte ∷ bytes) more fits) in
      without_left (bytes_eq (take (length content) (byte ∷ (bytes ++ more))) content) (holds content (bytes ++ more))
      (same ∙ no_left (bytes_eq (take (length content) (byte ∷ bytes)) content) (holds content bytes) none)
      ∙ holds-later bytes more passed (no_right (bytes_eq (take (length content) (byte ∷ bytes)) content) (holds content bytes) none) (omega arith)

  pub holds-kept : (bytes more : List ℕ) → holds content bytes ≡ false
      → holds content (bytes ++ more) ≡ holds content (drop (length bytes - (length content - 1)) bytes ++ more)
  holds-kept bytes more none = kept (length bytes - (length content - 1)) refl
    where
      kept : (passed : ℕ) → length bytes - (length content - 1) ≡ passed → holds content (bytes ++ more) ≡ holds content (drop passed bytes ++ more)
      kept zero is = refl
      kept (suc passed) is = holds-later bytes more (suc passed) none (omega (arith, is, some))

  -- what a search answers
  pub holds-found : (bytes : List ℕ) (place : Option ℕ) → FindsNeedle bytes content 0 place → is_some place ≡ holds content bytes
  holds-found bytes None nowhere = go (holds content bytes) refl
    where
      go : (b : Bool) → holds content bytes ≡ b → false ≡ b
      go true is =
          let there = holds-at bytes is in
          absurd (nowhere there.0 (omega arith) (omega (arith, there.1.0)) (OccursAt-from_part bytes content there.0 there.1.0 there.1.1))
      go false is = refl
  holds-found bytes (Some at) finds =
      sym (holds-from at bytes (finds.1.fits, OccursAt-part bytes content at finds.1))
