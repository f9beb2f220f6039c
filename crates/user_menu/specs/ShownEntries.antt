-- The entries of a menu that are shown, and the default among them (mc(1), "Menu File Edit").
use Rattle.std.specs.Prelude.{ℕ, ◌+◌, Bool, true, false, if◌then◌else◌, List}
use Rattle.std.specs.Prelude.{[], ◌∷◌, ◌++◌, map, Option, Some, None, unwrap_or}
use Rattle.std.specs.List.{AllByRecursion}
use Rattle.std.specs.Option.{option_or, option_map_or}
use Rattle.tree_trait.specs.declared.file_system.FileSystem.{FileSystem}
use Rattle.user_menu.specs.Holding.{holds_in, EachTest}
use Rattle.user_menu.specs.Menus.{MenuEntry}
use Rattle.user_menu.specs.declared.choosing.Standing.{Standing}
use Rattle.user_menu.specs.declared.choosing.Standing.TheVariants.{Hidden, Shown, Default}
use Rattle.user_menu.specs.declared.condition.Test.{Test}
use Rattle.user_menu.specs.declared.condition.Joined.{Joined}
use Rattle.user_menu.specs.declared.fact.Fact.{Fact}
use Rattle.user_menu.specs.declared.line.Asked.{Asked}
use Rattle.user_menu.specs.declared.line.Purpose.{Purpose}
use Rattle.user_menu.specs.declared.line.Purpose.TheVariants as purpose
use Rattle.user_menu.specs.declared.menu.Shown as of_menu
use Rattle.user_menu.specs.declared.standing.Question.{Question}
use Rattle.user_menu.specs.declared.standing.Question.TheVariants as asks

-- a condition for this purpose answers the question
abbrev pub is_for : Purpose → Question → Bool
is_for purpose.Shown asks.Shown = true
is_for purpose.Shown asks.Default = false
is_for purpose.Default asks.Shown = false
is_for purpose.Default asks.Default = true
is_for purpose.Both asks.Shown = true
is_for purpose.Both asks.Default = true

-- of several conditions that answer a question the last holds
abbrev pub last_asked : Question → List Asked → Option (List Joined)
last_asked question [] = None
last_asked question (asked ∷ more) =
    option_or (last_asked question more) (if is_for asked.purpose question
    then Some asked.condition else None)

-- an entry without a condition is shown, and isn't the default
abbrev pub is_unasked : Question → Bool
is_unasked asks.Shown = true
is_unasked asks.Default = false

-- the answer to a question of an entry
abbrev pub answer_of : FileSystem → Fact → Fact → Question → MenuEntry → Bool
answer_of s here other question entry =
    option_map_or (λ condition. holds_in s condition here other) (last_asked question entry.conditions)
    (is_unasked question)

-- how an entry stands
abbrev pub standing_of : FileSystem → Fact → Fact → MenuEntry → Standing
standing_of s here other entry =
    if answer_of s here other asks.Shown entry then
    (if answer_of s here other asks.Default entry then Default else Shown) else Hidden

-- the numbers of the entries that are shown, counted from `at`
abbrev pub shown_places : ℕ → List Standing → List ℕ
shown_places at [] = []
shown_places at (Hidden ∷ more) = shown_places (at + 1) more
shown_places at (Shown ∷ more) = at ∷ shown_places (at + 1) more
shown_places at (Default ∷ more) = at ∷ shown_places (at + 1) more

-- the number of the first entry that is shown and may be the default
abbrev pub first_default : ℕ → List Standing → Option ℕ
first_default at [] = None
first_default at (Hidden ∷ more) = first_default (at + 1) more
first_default at (Shown ∷ more) = first_default (at + 1) more
first_default at (Default ∷ more) = Some at

-- what is shown of entries that stand so
abbrev pub chosen_entries : List Standing → of_menu.Shown
chosen_entries standings = record { entries = shown_places 0 standings; default = first_default 0 standings }

-- what is shown of a menu
abbrev pub shown_entries : FileSystem → List MenuEntry → Fact → Fact → of_menu.Shown
shown_entries s menu here other = chosen_entries (map (standing_of s here other) menu)

-- what is shown with one entry more
abbrev pub with_standing : of_menu.Shown → ℕ → Standing → of_menu.Shown
with_standing shown place Hidden = shown
with_standing shown place Shown = record { entries = shown.entries ++ place ∷ []; default = shown.default }
with_standing shown place Default =
    record { entries = shown.entries ++ place ∷ []; default = Some (unwrap_or shown.default place) }

-- a fact of each test of some conditions, and of each test of a menu
abbrev pub EachTestAsked : (Test → Type 0) → List Asked → Type 0
EachTestAsked P conditions = AllByRecursion (λ asked. EachTest P asked.condition) conditions

abbrev pub EachTestIn : (Test → Type 0) → List MenuEntry → Type 0
EachTestIn P menu = AllByRecursion (λ entry. EachTestAsked P entry.conditions) menu
