-- The keys of the panels that need no box (mc(1), "Directory Panels", "Keys").
use Rattle.std.specs.Prelude.{ℕ, ◌==◌, if◌then◌else◌, Option, Some, None}
use Rattle.key_screen.specs.declared.keys.Key.{Key}
use Rattle.key_screen.specs.declared.keys.Base.{Base}
use Rattle.key_screen.specs.declared.keys.Base.TheVariants as key
use Rattle.panel_pair.specs.declared.command.PanelCommand.{PanelCommand}
use Rattle.panel_pair.specs.declared.command.PanelCommand.TheVariants.{Move, SwitchPanel, SwapPanels}
use Rattle.panel_pair.specs.declared.command.PanelCommand.TheVariants.{Enter, ReadAgain, Back, Forward}
use Rattle.panel_pair.specs.declared.command.PanelCommand.TheVariants.{Toggle, Invert, ToggleHidden}

-- C-r, C-t, C-u
abbrev pub control_command : ℕ → Option PanelCommand
control_command letter =
    if letter == 114 then Some ReadAgain
    else if letter == 116 then Some Toggle
    else if letter == 117 then Some SwapPanels
    else None

-- a key without meta; 42 is `*`
abbrev pub plain_command : Base → Option PanelCommand
plain_command key.Up = Some (Move key.Up)
plain_command key.Down = Some (Move key.Down)
plain_command key.PgUp = Some (Move key.PgUp)
plain_command key.PgDn = Some (Move key.PgDn)
plain_command key.Home = Some (Move key.Home)
plain_command key.End = Some (Move key.End)
plain_command key.Tab = Some SwitchPanel
plain_command key.Enter = Some Enter
plain_command key.Insert = Some Toggle
plain_command (key.Char code) = if code == 42 then Some Invert else None
plain_command (key.Ctrl letter) = control_command letter
plain_command other = None

-- M-., M-u, M-y
abbrev pub meta_command : Base → Option PanelCommand
meta_command (key.Char code) =
    if code == 46 then Some ToggleHidden
    else if code == 117 then Some Forward
    else if code == 121 then Some Back
    else None
meta_command other = None

-- what a key does to the panels, if it is one of theirs that needs no box
abbrev pub key_command : Key → Option PanelCommand
key_command pressed = if pressed.meta then meta_command pressed.base else plain_command pressed.base
