-- When all is drawn anew: at first, and where C-l asks for it, since others may have written on the terminal.
use Rattle.std.specs.Prelude.{Bool, true, false, ◌==◌, ◌||◌, if◌then◌else◌, List}
use Rattle.key_screen.specs.declared.keys.Base.{Base}
use Rattle.key_screen.specs.declared.keys.Base.TheVariants.{Ctrl}
use Rattle.key_screen.specs.declared.keys.Key.{Key}
use Rattle.session_entries.specs.declared.history.Event.{Event}
use Rattle.session_entries.specs.declared.history.Event.TheVariants as event
use Rattle.session_entries.specs.declared.history.Entry.{Entry}
use Rattle.mc_desk.specs.declared.drawing.Drawing.{Drawing}
use Rattle.mc_desk.specs.declared.drawing.Drawing.TheVariants.{Changes, Anew}
use Rattle.mc_desk.specs.Shown.{none_before}

-- control with `l`
abbrev pub is_control_l : Base → Bool
is_control_l (Ctrl letter) = letter == 108
is_control_l other = false

-- a key asks that all be drawn anew: C-l, without meta
abbrev pub asks_anew : Key → Bool
asks_anew key = if key.meta then false else is_control_l key.base

-- a drawing is of all
abbrev pub is_anew : Drawing → Bool
is_anew Changes = false
is_anew Anew = true

-- an event asks that all be drawn anew
abbrev pub event_asks_anew : Event → Bool
event_asks_anew (event.Key key now refusals lost) = asks_anew key
event_asks_anew (event.Look refusals) = false
event_asks_anew event.Sought = false
event_asks_anew (event.Began id plan background) = false
event_asks_anew (event.Order id order) = false
event_asks_anew (event.Step id did) = false
event_asks_anew (event.Next id plan) = false
event_asks_anew event.Closed = false

-- the drawing of an event behind these entries is of all: where it asks for that, and the first
abbrev pub draws_anew : Event → List Entry → Bool
draws_anew what older = event_asks_anew what || none_before older
