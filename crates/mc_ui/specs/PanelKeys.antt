-- The keys of the panels, while no box is open (mc(1), "Directory Panels" and its M-?; F1, F3, F5 to F8 and
-- F10 of its bottom line).
use Rattle.std.specs.Prelude.{ℕ, ◌==◌, if◌then◌else◌, Option, Some, None}
use Rattle.key_screen.specs.declared.keys.Key.{Key}
use Rattle.key_screen.specs.declared.keys.Base.{Base}
use Rattle.key_screen.specs.declared.keys.Base.TheVariants.{Char, F, Unknown}
use Rattle.panel_pair.specs.declared.command.PanelCommand.{PanelCommand}
use Rattle.panel_pair.specs.Keys.{key_command}
use Rattle.panel_boxes.specs.declared.opening.Opening.{Opening}
use Rattle.panel_boxes.specs.Openings.{opening_of}
use Rattle.ui_words.specs.declared.carry.Carry.TheVariants.{Copy, Move}
use Rattle.ui_plans.specs.declared.choosing.Opens.TheVariants.{Delete, SourceMask}
use Rattle.mc_ui.specs.declared.panel_command.KeyCommand.{KeyCommand}
use Rattle.mc_ui.specs.declared.panel_command.KeyCommand.TheVariants.{Work, ShowHelp, View, Open, AskFolder}
use Rattle.mc_ui.specs.declared.panel_command.KeyCommand.TheVariants.{OpenPanelBox, Find, Quit, Nothing}

-- what a function key does
abbrev pub function_command : ℕ → KeyCommand
function_command number =
    if number == 1 then ShowHelp
    else if number == 3 then View
    else if number == 5 then Open (SourceMask Copy)
    else if number == 6 then Open (SourceMask Move)
    else if number == 7 then AskFolder
    else if number == 8 then Open Delete
    else if number == 10 then Quit
    else Nothing

-- what a key without meta does that works on no panel; those that are not built do nothing
abbrev pub other_command : Base → KeyCommand
other_command (F number) = function_command number
other_command other = Nothing

-- what a key with meta does: M-? seeks
abbrev pub meta_command : Base → KeyCommand
meta_command (Char character) = if character == 63 then Find else Nothing
meta_command other = Nothing

-- the key of a message: one with meta is none of those that are known there
abbrev pub plain_base : Key → Base
plain_base key = if key.meta then Unknown else key.base

-- the box of the panels that a key opens, or else what the key does besides
abbrev pub box_or_other : Option Opening → Key → KeyCommand
box_or_other (Some opening) key = OpenPanelBox opening
box_or_other None key = if key.meta then meta_command key.base else other_command key.base

-- a command of the panels, or else what the key does besides
abbrev pub work_or_other : Option PanelCommand → Key → KeyCommand
work_or_other (Some command) key = Work command
work_or_other None key = box_or_other (opening_of key) key

-- what a key does in the panels
abbrev pub panel_command_of : Key → KeyCommand
panel_command_of key = work_or_other (key_command key) key
