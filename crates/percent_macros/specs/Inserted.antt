-- The text that stands in a macro's place (mc(1), "Macro Substitution"). Each name and folder is quoted.
use Rattle.std.specs.Prelude.{ℕ, List, [], ◌∷◌, map}
use Rattle.std.specs.List.{join_with_byte}
use Rattle.mc_text.specs.Routes.{path_text}
use Rattle.percent_macros.specs.declared.context.Context.{Context}
use Rattle.percent_macros.specs.declared.macros.Macro.{Macro}
use Rattle.percent_macros.specs.declared.macros.Macro.TheVariants.{Percent, CurrentHere, CurrentOther}
use Rattle.percent_macros.specs.declared.macros.Macro.TheVariants.{Extension, Stem, FolderHere, FolderOther}
use Rattle.percent_macros.specs.declared.macros.Macro.TheVariants.{TaggedHere, TaggedOther, UntaggedHere}
use Rattle.percent_macros.specs.declared.macros.Macro.TheVariants.{UntaggedOther, SelectedHere, SelectedOther}
use Rattle.percent_macros.specs.Quoting.{name_in_quotes}
use Rattle.percent_macros.specs.Extensions.{name_parts}

-- names with a blank between each two
abbrev pub joined_names : List (List ℕ) → List ℕ
joined_names names = join_with_byte 32 (map name_in_quotes names)

-- the tagged names, or else the current one
abbrev pub selected_names : List ℕ → List (List ℕ) → List ℕ
selected_names current [] = name_in_quotes current
selected_names current (name ∷ names) = joined_names (name ∷ names)

abbrev pub macro_text : Context → Macro → List ℕ
macro_text context Percent = 37 ∷ []
macro_text context CurrentHere = name_in_quotes context.here.current
macro_text context CurrentOther = name_in_quotes context.other.current
macro_text context Extension = name_in_quotes (name_parts context.here.current).extension
macro_text context Stem = name_in_quotes (name_parts context.here.current).stem
macro_text context FolderHere = name_in_quotes (path_text context.here.folder)
macro_text context FolderOther = name_in_quotes (path_text context.other.folder)
macro_text context TaggedHere = joined_names context.here.tagged
macro_text context TaggedOther = joined_names context.other.tagged
macro_text context UntaggedHere = joined_names context.here.tagged
macro_text context UntaggedOther = joined_names context.other.tagged
macro_text context SelectedHere = selected_names context.here.current context.here.tagged
macro_text context SelectedOther = selected_names context.other.current context.other.tagged
