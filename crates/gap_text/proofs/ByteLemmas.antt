-- A place of a byte in the rest of a text is a place in the text.
use Rattle.std.proofs.Common.{◌≡◌, ℕ, ◌+◌, ◌-◌, ◌≤◌, Bool, List, length, drop, get_or, sym, ap, ◌∙◌, arith, length-drop, Some, None}
use Rattle.std.proofs.lemmas.List.{get_or-drop}
use Rattle.memchr.specs.Find.{IsFirst, Passes}

module _ (test : ℕ → Bool) (bytes : List ℕ) (from : ℕ) (inside : from ≤ length bytes) where
  passes-rest : (at : ℕ) → from ≤ at → Passes test bytes at → Passes test (drop from bytes) (at - from)
  passes-rest at low passes =
      let place : from + (at - from) ≡ at = omega arith in
      ap test (get_or-drop from bytes (at - from) 0 ∙ ap (λ n. get_or bytes n 0) place) ∙ passes

  pub first-none : IsFirst (Passes test (drop from bytes)) 0 (length (drop from bytes)) None
      → IsFirst (Passes test bytes) from (length bytes) None
  first-none nowhere at low below passes =
      nowhere (at - from) (omega arith) (omega (arith, length-drop from bytes)) (passes-rest at low passes)

  pub first-some : (at : ℕ) → IsFirst (Passes test (drop from bytes)) 0 (length (drop from bytes)) (Some at)
      → IsFirst (Passes test bytes) from (length bytes) (Some (from + at))
  first-some at first = (
    record {
      low = omega arith;
      high = omega (arith, first.0.high, length-drop from bytes);
      before = λ k low below passes. first.0.before (k - from) (omega arith) (omega arith) (passes-rest k low passes);
    },
    sym (ap test (get_or-drop from bytes at 0)) ∙ first.1,
  )
