-- What is printed where no session begins, since a folder or the file can't be read, or a text
-- was asked for in its place.
use Rattle.std.specs.Prelude.{◌≡◌, ◌⊎◌, ℕ, ⊤, true, List, [], ◌∷◌, ◌++◌}
use Rattle.std.specs.Prelude.{take, Option, Some, None, IsSome, codes}
use Rattle.mc_text.specs.Drawn.{drawn_text}
use Rattle.resolving.specs.declared.error.ResolveError.{ResolveError}
use Rattle.tree_trait.specs.Change.{CallLog, current}
use Rattle.tree_trait.specs.Answers.{HasRisen, IfKnown}
use Rattle.main_words.specs.declared.words.Words.{Words}
use Rattle.mc_main.specs.declared.words.Surroundings.{Surroundings}
use Rattle.ui_words.specs.Causes.{resolve_words}
use Rattle.mc_desk.specs.declared.starts.StartError.{StartError}
use Rattle.mc_desk.specs.declared.starts.StartError.TheVariants.{Resolve, Memory}
use Rattle.mc_desk.specs.declared.starts.Start.{Start}
use Rattle.mc_desk.specs.declared.starts.StartPlace.{StartPlace}
use Rattle.mc_desk.specs.Starts.{IsStartCause, is_start_fault}
use Rattle.mc_main.specs.declared.words.Printed.{Printed}
use Rattle.mc_main.specs.declared.words.Typed.{Typed}
use Rattle.mc_main.specs.Beginnings.{printed_for, session_start, start_word, text_of, word_for}

-- the line for a path that is refused: `mc: WORD: CAUSE`, the word as it is drawn
abbrev pub start_line : List ℕ → ResolveError → List ℕ
start_line word cause = codes "mc: " ++ (drawn_text word ++ (codes ": " ++ (resolve_words cause ++ 10 ∷ [])))

-- the screen was given its line after these bytes
abbrev pub PrintsCause : Typed → StartError → List ℕ → Option (List ℕ) → Type 0
PrintsCause typed Memory before given = ⊤
PrintsCause typed (Resolve place cause) before given =
    given ≡ Some (before ++ start_line (word_for place typed) cause)

-- the screen was given a text after these bytes, or a prefix of it
abbrev pub PutsSome : List ℕ → List ℕ → Option (List ℕ) → Type 0
PutsSome before text given =
    (given ≡ Some (before ++ text)) ⊎ ((count : ℕ) × (given ≡ Some (before ++ take count text)))

-- nothing more, or some of that line
abbrev pub MayPutCause : Typed → StartError → List ℕ → Option (List ℕ) → Type 0
MayPutCause typed Memory before given = given ≡ Some before
MayPutCause typed (Resolve place cause) before given =
    (given ≡ Some before) ⊎ PutsSome before (start_line (word_for place typed) cause) given

-- why a session doesn't start at the paths that were named, where these are known
abbrev pub IsCauseIn : CallLog → Option Start → StartError → Type 0
IsCauseIn log None error = ⊤
IsCauseIn log (Some start) error = IsStartCause (current log) start.mode error

-- The screen was given, after these bytes, the line for a path that is refused, with the cause for that; a
-- fault only where the tree has counted one since the run began.
pub record PrintsStart (contents : Option CallLog) (around : Surroundings) (asked : Option Words)
    (faults faults_after : ℕ) (before : List ℕ) (given : Option (List ℕ)) : Type 0 where
  pub place : StartPlace
  pub cause : ResolveError
  pub is_cause : IfKnown contents (λ log. IsCauseIn log (session_start around asked) (Resolve place cause))
  pub risen : is_start_fault (Resolve place cause) ≡ true → HasRisen faults faults_after
  pub line : given ≡ Some (before ++ start_line (start_word place asked) cause)

-- What the screen is given, after these bytes, by a run in which no session begins: nothing; or, whole or
-- cut short, the text that is printed in place of a session, or the line for a path of the session that was
-- asked for, with a cause for which it doesn't start there.
abbrev pub MayPut : Option CallLog → Surroundings → Option Words → List ℕ → Option (List ℕ) → Type 0
MayPut contents around asked before given =
    (given ≡ Some before)
    ⊎ (((printed : Printed) × (printed_for asked ≡ Some printed) × PutsSome before (text_of printed) given)
    ⊎ ((place : StartPlace) × (cause : ResolveError) × IsSome (session_start around asked)
    × IfKnown contents (λ log. IsCauseIn log (session_start around asked) (Resolve place cause))
    × PutsSome before (start_line (start_word place asked) cause) given))
