-- What holds of each test holds of each test of one condition, and what a look tells of the file system that was asked.
use Rattle.std.proofs.Common.{◌≡◌, Bool, true, false, cond, List, [], ◌∷◌, Option, Some, None, IfSome, Result, IfOk, sym, subst, ap}
use Rattle.std.specs.Option.{option_or}
use Rattle.mc_text.specs.Routes.{Route}
use Rattle.std.proofs.Common.{ℕ}
use Rattle.tree_trait.specs.declared.calls.TreeError.{TreeError}
use Rattle.tree_trait.specs.declared.file_system.FileSystem.{FileSystem}
use Rattle.tree_trait.specs.Answers.{IfKnown}
use Rattle.tree_trait.specs.Change.{CallLog, current}
use Rattle.user_menu.specs.declared.condition.Joined.{Joined}
use Rattle.user_menu.specs.declared.condition.Test.{Test}
use Rattle.user_menu.specs.declared.condition.Test.TheVariants.{Program}
use Rattle.user_menu.specs.declared.line.Asked.{Asked}
use Rattle.user_menu.specs.declared.standing.Question.{Question}
use Rattle.user_menu.specs.Facts.{is_program, IsAskedOf}
use Rattle.user_menu.specs.Holding.{EachTest}
use Rattle.user_menu.specs.declared.choosing.Standing.TheVariants as stands
use Rattle.user_menu.specs.declared.fact.Fact.{Fact}
use Rattle.user_menu.specs.declared.standing.Question.TheVariants as asks
use Rattle.user_menu.specs.Menus.{MenuEntry}
use Rattle.user_menu.specs.ShownEntries.{is_for, last_asked, answer_of, standing_of, EachTestAsked}

last_each : (P : Test → Type 0) (question : Question) (conditions : List Asked) → EachTestAsked P conditions
    → IfSome (last_asked question conditions) (EachTest P)
last_each P question [] each = tt
last_each P question (asked ∷ more) each = go (last_asked question more) (last_each P question more each.1) (is_for asked.purpose question)
  where
    go : (later : Option (List Joined)) → IfSome later (EachTest P) → (answers : Bool)
        → IfSome (option_or later (cond answers (Some asked.condition) None)) (EachTest P)
    go None none true = each.0
    go None none false = tt
    go (Some condition) last answers = last

-- the last condition for a question
pub each_of_last : (P : Test → Type 0) (question : Question) (conditions : List Asked) (condition : List Joined)
    → Some condition ≡ last_asked question conditions → EachTestAsked P conditions → EachTest P condition
each_of_last P question conditions condition is each =
    subst (λ o. IfSome o (λ (one : List Joined). EachTest P one)) (sym is) (last_each P question conditions each)

-- a program that a tree was asked for
pub program_told : (contents : Option CallLog) (s : FileSystem) (folder : Route) (argument : List ℕ) (r : Result Bool TreeError)
    → IfKnown contents (λ log. IfOk r (λ is. is ≡ is_program (current log) folder argument))
    → IsAskedOf contents s (Program argument) → IfOk r (λ is. is ≡ is_program s folder argument)
program_told contents s folder argument r answer told =
    subst (λ (fs : FileSystem). IfOk r (λ is. is ≡ is_program fs folder argument)) told.2 (answer told.0 told.1)

-- an entry that is shown
pub standing-shown : (s : FileSystem) (here other : Fact) (entry : MenuEntry) → answer_of s here other asks.Shown entry ≡ true
    → cond (answer_of s here other asks.Default entry) stands.Default stands.Shown ≡ standing_of s here other entry
standing-shown s here other entry is =
    sym (ap (λ shown. cond shown (cond (answer_of s here other asks.Default entry) stands.Default stands.Shown) stands.Hidden) is)
