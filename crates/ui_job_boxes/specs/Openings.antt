-- The boxes as they open.
use Rattle.std.specs.Prelude.{ℕ, List, Option, Some, None}
use Rattle.mc_text.specs.Routes.{Route, path_text}
use Rattle.mc_dialogs.specs.InputKeys.{InputState}
use Rattle.ui_words.specs.BoxLines.{link_text_line, mask_line, mode_box, thing_text}
use Rattle.ui_plans.specs.declared.choosing.Opens.{Opens}
use Rattle.ui_plans.specs.declared.choosing.Opens.TheVariants as opens
use Rattle.panel_state.specs.Panels.{PanelState, current_name}
use Rattle.ui_job_boxes.specs.JobBoxes.{JobBoxState, DeleteBox, MaskBox, NewModeBox}

-- the box that such a key opens on things, of which the first has this mode
abbrev pub box_of : Opens → List Route → ℕ → JobBoxState
box_of opens.Delete paths mode = DeleteBox paths
box_of (opens.SourceMask how) paths mode = MaskBox how paths (mask_line paths)
box_of opens.Mode paths mode = NewModeBox paths (mode_box mode)

-- what a link says at first that is asked for in a panel: the path of the thing under the cursor, or of the
-- folder, where that is on `..`
abbrev pub text_within : Option (List ℕ) → Route → List ℕ
text_within (Some name) folder = thing_text folder name
text_within None folder = path_text folder

abbrev pub link_asked : PanelState → InputState
link_asked p = link_text_line (text_within (current_name p) p.folder)
