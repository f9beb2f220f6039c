-- The calls that bring a part to its place.
use Rattle.std.proofs.Common.{◌≡◌, ℕ, ◌==◌, ◌≤◌, Bool, false, [], ◌∷◌, subst, sym, Option, Result, arith}
use Rattle.std.proofs.lemmas.Bool.{cond-false}
use Rattle.std.proofs.lemmas.Bool.Decides.{nat_tests}
use Rattle.std.proofs.lemmas.Nat.{or_lt}
use Rattle.mc_text.specs.Routes.{Route}
use Rattle.tree_trait.specs.Calls.{SetMode}
use Rattle.tree_trait.specs.Change.{CallLog}
use Rattle.job_reports.specs.declared.stop.Stop.{Stop}
use Rattle.copy_file.specs.CopyCalls.{moding, part_mode}
use Rattle.job_reports.specs.Stops.{Ran}

-- a part that was made with another mode is given the source's
moding_other : (part : Route) (mode : ℕ) → (part_mode mode ≡ mode → ⊥) → moding part mode ≡ SetMode part mode ∷ []
moding_other part mode other = let e : (part_mode mode == mode) ≡ false = grind (arith, nat_tests) in cond-false _ _ _ e

pub ran_moding : (part : Route) (mode : ℕ) (b : Bool) (r : Result ℕ Stop) (before after : Option CallLog) (f0 f1 : ℕ) → (part_mode mode ≡ mode → ⊥)
    → Ran (SetMode part mode ∷ []) b r before after f0 f1 → Ran (moding part mode) b r before after f0 f1
ran_moding part mode b r before after f0 f1 other ran = subst (λ xs. Ran xs b r before after f0 f1) (sym (moding_other part mode other)) ran

-- a part's mode has twelve bits
pub part_mode-bits : (mode : ℕ) → mode ≤ 0o7777 → part_mode mode ≤ 0o7777
part_mode-bits mode h = let e = or_lt 12 mode 384 (omega (arith, h)) (omega arith) in omega (arith, e)
