-- What F3 finds in a panel, and what is told of a file that is viewed.
use Rattle.std.specs.Prelude.{Bool, true, false, List, [], ◌∷◌, Option, Some, None}
use Rattle.mc_text.specs.Routes.{Route}
use Rattle.mc_viewer.specs.declared.error.ViewError.TheVariants as error
use Rattle.mc_viewer.specs.declared.subject.Subject.{Subject}
use Rattle.mc_viewer.specs.declared.subject.Subject.TheVariants.{File, Output}
use Rattle.key_screen.specs.declared.keys.Key.{Key}
use Rattle.ui_viewer.specs.declared.act.ViewerAct.{ViewerAct}
use Rattle.ui_viewer.specs.declared.act.ViewerAct.TheVariants.{Refused}
use Rattle.ui_viewer.specs.declared.opening.Opening.{Opening}
use Rattle.ui_viewer.specs.declared.opening.Opening.TheVariants.{Viewed, NoWay, Unread}
use Rattle.ui_viewer.specs.Motions.{LooksAtNothing}
use Rattle.ui_viewer.specs.ViewerScreens.{wanted_motion}
use Rattle.session_entries.specs.declared.refusal.Refusal.{Refusal}
use Rattle.session_entries.specs.declared.refusal.Refusal.TheVariants.{Read, Resolve}
use Rattle.panel_state.specs.declared.going.Way.{Way}
use Rattle.panel_state.specs.declared.going.Way.TheVariants.{Nowhere, Up, Into}
use Rattle.mc_ui.specs.declared.viewing.ViewedFile.{ViewedFile}

-- Enter leads from a row to a folder
abbrev pub goes_on : Way → Bool
goes_on Nowhere = false
goes_on Up = true
goes_on Into = true

-- what was refused to the opening of a thing
abbrev pub opening_refusals : Opening → List Refusal
opening_refusals (Viewed page) = []
opening_refusals (NoWay why) = Resolve why ∷ []
opening_refusals (Unread path why) = Read path why ∷ []

-- the path of what is viewed, where it is a file
abbrev pub viewed_path : Subject → Option Route
viewed_path (File path) = Some path
viewed_path (Output bytes) = None

-- What the tree refused to a key of the viewer. That a search found nothing, or that a pattern is none, the
-- viewer's own message tells.
abbrev pub told_by : ViewerAct → Option Route → List Refusal
told_by (Refused (error.Tree e)) (Some path) = Read path e ∷ []
told_by act path = []

-- a file is viewed, and a key wants nothing of it, or what looks at nothing
abbrev pub LeavesUnread : Option ViewedFile → Key → Type 0
LeavesUnread None key = ⊥
LeavesUnread (Some viewed) key = LooksAtNothing (wanted_motion key viewed.mode) viewed.mode.viewer
