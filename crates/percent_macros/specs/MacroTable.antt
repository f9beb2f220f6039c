-- The macros by their letters (mc(1), "Macro Substitution"; `%x` and `%S` by their letters there, the
-- rest of the profile is own).
use Rattle.std.specs.Prelude.{ℕ, Bool, true, false, ◌==◌, if◌then◌else◌, Option, Some, None}
use Rattle.percent_macros.specs.declared.macros.Macro.{Macro}
use Rattle.percent_macros.specs.declared.macros.Macro.TheVariants.{Percent, CurrentHere, CurrentOther}
use Rattle.percent_macros.specs.declared.macros.Macro.TheVariants.{Extension, Stem, FolderHere, FolderOther}
use Rattle.percent_macros.specs.declared.macros.Macro.TheVariants.{TaggedHere, TaggedOther, UntaggedHere}
use Rattle.percent_macros.specs.declared.macros.Macro.TheVariants.{UntaggedOther, SelectedHere, SelectedOther}

-- the macro of a letter behind a percent: % f p F x b d D t T u U s S
abbrev pub macro_named : ℕ → Option Macro
macro_named letter =
    if letter == 37 then Some Percent else
    if letter == 102 then Some CurrentHere else
    if letter == 112 then Some CurrentHere else
    if letter == 70 then Some CurrentOther else
    if letter == 120 then Some Extension else
    if letter == 98 then Some Stem else
    if letter == 100 then Some FolderHere else
    if letter == 68 then Some FolderOther else
    if letter == 116 then Some TaggedHere else
    if letter == 84 then Some TaggedOther else
    if letter == 117 then Some UntaggedHere else
    if letter == 85 then Some UntaggedOther else
    if letter == 115 then Some SelectedHere else
    if letter == 83 then Some SelectedOther else None

-- the names of the panel here are untagged when the command is run
abbrev pub untags_here : Macro → Bool
untags_here UntaggedHere = true
untags_here _ = false

-- those of the other panel are
abbrev pub untags_other : Macro → Bool
untags_other UntaggedOther = true
untags_other _ = false
