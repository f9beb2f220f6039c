-- What the words ask for.
use Rattle.std.specs.Prelude.{ℕ, ◌+◌, Bool, true, false, not, ◌&&◌, ◌||◌, nat_lt, is_some}
use Rattle.std.specs.Prelude.{if◌then◌else◌, List, codes, Option, Some, None, option_map}
use Rattle.clap.specs.Words.{Text}
use Rattle.mc_text.specs.Routes.{Route}
use Rattle.main_words.specs.declared.folders.StartPath.{StartPath}
use Rattle.main_words.specs.declared.words.Words.{Words}
use Rattle.main_words.specs.declared.words.Words.TheVariants.{Help, Version, Panels, View, NotBuilt}
use Rattle.main_words.specs.Profile.{are_read, has_flag, value_in}
use Rattle.main_words.specs.Numbers.{number_of}
use Rattle.main_words.specs.Folders.{panel_folder, path_named}

-- the words give this option, or have this place
abbrev pub is_given : List Text → Text → Bool
is_given words id = is_some (value_in words id)

abbrev pub one_if : Bool → ℕ
one_if false = 0
one_if true = 1

-- one of these holds at most
abbrev pub at_most_one : Bool → Bool → Bool → Bool → Bool
at_most_one first second third fourth = nat_lt (one_if first + one_if second + one_if third + one_if fourth) 2

-- the N of a drill, where there is one: 1 to 10 decimal digits of 32 bits
abbrev pub is_count : Option Text → Bool
is_count None = true
is_count (Some text) = is_some (number_of 10 text)

-- The words are in the profile: the command takes them, `-v`, `-e`, `--drill` and `DIR1` exclude one
-- another, and N is a count.
abbrev pub are_in_profile : List Text → Bool
are_in_profile words =
    are_read words
    && (at_most_one (is_given words (codes "view")) (is_given words (codes "edit"))
    (is_given words (codes "drill")) (is_given words (codes "left"))
    && is_count (value_in words (codes "drill")))

-- they want what isn't built yet: the editor, a file that is told the last folder, or the drill
abbrev pub want_unbuilt : List Text → Bool
want_unbuilt words =
    is_given words (codes "edit") || (is_given words (codes "place") || is_given words (codes "drill"))

-- two panels, where both have a folder
abbrev pub panels_in : Option StartPath → Option StartPath → Option Words
panels_in None right = None
panels_in (Some left) None = None
panels_in (Some left) (Some right) = Some (Panels left right)

-- a session in which the file of this word is viewed; without the word one in the folders of the others,
-- and a panel without a word shows the one in which the program was started
abbrev pub session_of : Option Text → Route → List Text → Option Words
session_of (Some file) started words = option_map View (path_named started file)
session_of None started words =
    panels_in (panel_folder started (value_in words (codes "left")))
    (panel_folder started (value_in words (codes "right")))

-- a session, if what they want is built
abbrev pub session_asked : Route → List Text → Option Words
session_asked started words =
    if want_unbuilt words then Some NotBuilt else session_of (value_in words (codes "view")) started words

-- What is asked for, or nothing where the words are out of the profile or name what can be no folder. The
-- help goes before the version, and both before a session.
abbrev pub asked_by : Route → List Text → Option Words
asked_by started words =
    if not (are_in_profile words) then None else
    if has_flag words (codes "help") then Some Help else
    if has_flag words (codes "version") then Some Version else session_asked started words
