-- A run is a session, and the terminal shows it.
use Rattle.std.specs.Prelude.{◌≡◌, ◌≢◌, ◌⊎◌, ℕ, Bool, true, List, [], Option, IsSome, ◌++◌, ◌∷◌}
use Rattle.tree_trait.specs.Change.{CallLog}
use Rattle.tree_trait.specs.Answers.{IfKnown}
use Rattle.session_entries.specs.declared.history.Entry.{Entry}
use Rattle.mc_desk.specs.declared.starts.Start.{Start}
use Rattle.mc_desk.specs.Sessions.{EndsSession}
use Rattle.mc_desk.specs.DeskDevices.{HasGiven, Put}
use Rattle.mc_desk.specs.ShownEntries.{CutsEntry, ShowsEntry, draws}
use Rattle.main_words.specs.declared.words.Words.{Words}
use Rattle.mc_main.specs.declared.words.Surroundings.{Surroundings}
use Rattle.mc_main.specs.Beginnings.{session_start}
use Rattle.mc_main.specs.Printed.{MayPut}
use Rattle.mc_main.specs.Statuses.{BeginsNone, IsCutShort}

-- A session that starts so, where that is known. At status 0 its end was asked for, or all that the
-- keyboard gives was taken. The screen was given what it put, behind what it was given before; and a
-- drawing was cut short only at status 4 or 5.
pub record RanSession (folders : Option Start) (opening : Option CallLog) (faults status : ℕ)
    (newest : List Entry) (contents : Option CallLog) (all_taken : Type 0)
    (given given_after : Option (List ℕ)) : Type 0 where
  pub asked : Bool
  pub put : Put
  pub session : EndsSession folders opening faults newest contents put asked
  pub puts : HasGiven given put.bytes given_after
  pub uncut : put.is_cut ≡ true → IsCutShort status
  pub ended : status ≡ 0 → (asked ≡ true) ⊎ all_taken
  pub not_usage : status ≢ 1
  pub not_start : status ≢ 2

-- What a run wrote down, the newest first: a session at the paths that the words name; or nothing where
-- none began, and then the screen was given no more than what is printed in its place, or a prefix of that.
abbrev pub IsRun : Surroundings → Option Words → Option CallLog → ℕ → ℕ → List Entry → Option CallLog → Type 0
    → Option (List ℕ) → Option (List ℕ) → Type 0
IsRun around asked opening faults status newest contents all_taken given given_after =
    (IsSome (session_start around asked) × RanSession (session_start around asked) opening faults status
    newest contents all_taken given given_after)
    ⊎ ((newest ≡ []) × BeginsNone asked status
    × IfKnown given (λ before. MayPut opening around asked before given_after))

-- Of each key that was worked, each look and each entry of a search each terminal shows, of the bytes that
-- were put by then, the frame of what the screen then showed, whatever it showed before the run; but at
-- status 4 or 5 perhaps of the last, whose drawing was cut short.
abbrev pub ShowsRun : Option Start → Option CallLog → ℕ → ℕ → List Entry → List ℕ → Type 0
ShowsRun folders opening faults status newest put =
    (later : List Entry) (e : Entry) (older : List Entry) → newest ≡ later ++ e ∷ older → draws e.what ≡ true
    → ShowsEntry folders opening faults e older put
    ⊎ (IsCutShort status × CutsEntry folders opening faults later e older put)
