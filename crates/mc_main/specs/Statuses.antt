-- The statuses of a run.
use Rattle.std.specs.Prelude.{◌≡◌, ◌≢◌, ◌⊎◌, ℕ, ◌≤◌, Bool, true, false, Option, IsSome}
use Rattle.main_words.specs.declared.words.Words.{Words}
use Rattle.mc_main.specs.Beginnings.{printed_for}
use Rattle.mc_main.specs.declared.session.SessionEnd.{SessionEnd}
use Rattle.mc_main.specs.declared.session.SessionEnd.TheVariants.{Quit, KeysEnded, KeysFailed}
use Rattle.mc_main.specs.declared.session.SessionEnd.TheVariants.{ScreenFailed, NoMemory}

-- a run that can't be had has one of these statuses: its own, 4 where its line couldn't be printed,
-- or 5 where memory ran out
abbrev pub IsStatusOr : ℕ → ℕ → Type 0
IsStatusOr own status = (status ≡ own) ⊎ (status ≡ 4) ⊎ (status ≡ 5)

-- the statuses of a run in which no session began; 0 only where a text was asked for in its place
abbrev pub BeginsNone : Option Words → ℕ → Type 0
BeginsNone asked status =
    ((status ≡ 0) × IsSome (printed_for asked)) ⊎ ((status ≡ 1) ⊎ (status ≡ 2) ⊎ (status ≡ 4) ⊎ (status ≡ 5))

-- the run ended as the screen failed, or memory ran out
abbrev pub IsCutShort : ℕ → Type 0
IsCutShort status = (status ≡ 4) ⊎ (status ≡ 5)

-- The status of a session. A key that was lost makes it 5. Else it is 3 exactly where the keyboard failed,
-- 4 only where the screen did, and 0 only at the quit key or the end of the keys, where the screen never
-- failed; so it is never 0 where the session failed.
pub record IsStatusOf (end : SessionEnd) (screen_failed key_lost : Bool) (status : ℕ) : Type 0 where
  pub lost : key_lost ≡ true → status ≡ 5
  pub not_usage : status ≢ 1
  pub not_start : status ≢ 2
  pub keyboard : status ≡ 3 → end ≡ KeysFailed
  pub keys : end ≡ KeysFailed → key_lost ≡ false → status ≡ 3
  pub screen : status ≡ 4 → screen_failed ≡ true
  pub told : screen_failed ≡ true → status ≢ 0
  pub done : status ≡ 0 → (end ≡ Quit) ⊎ (end ≡ KeysEnded)
  pub failed : (end ≡ ScreenFailed) ⊎ (end ≡ NoMemory) → IsCutShort status
  pub most : status ≤ 5
