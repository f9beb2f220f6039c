-- What a job takes from the panels (mc(1), "Directory Panels": tagged files, or else the selected one).
use Rattle.std.specs.Prelude.{◌≡◌, ℕ, ◌<◌, List, ◌∷◌, map, length, Contains}
use Rattle.mc_text.specs.Routes.{Route, spelled_route}
use Rattle.mc_text.specs.declared.error.PathError.{PathError}
use Rattle.mc_text.specs.declared.error.PathError.TheVariants.{TooLong}
use Rattle.panel_state.specs.Panels.{PanelState}
use Rattle.panel_state.specs.Selections.{selection}

-- the paths of names in a folder
abbrev pub paths_in : Route → List (List ℕ) → List Route
paths_in folder names = map (λ name. name ∷ folder) names

-- the paths of what is selected in a panel
abbrev pub selected_paths : PanelState → List Route
selected_paths p = paths_in p.folder (selection p)

-- the path of one of these names would have more than 4,096 bytes, so many
pub record IsTooLong (error : PathError) (folder : Route) (names : List (List ℕ)) : Type 0 where
  pub name : List ℕ
  pub among : Contains names name
  pub bytes : error ≡ TooLong (length (spelled_route (name ∷ folder)))
  pub long : 4096 < length (spelled_route (name ∷ folder))
