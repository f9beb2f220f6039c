-- The folders that a panel showed (own, after mc(1), "Keys": alt-y and alt-u).
use Rattle.std.specs.Prelude.{List, [], ◌∷◌, take, drop}
use Rattle.mc_text.specs.Routes.{Route}
use Rattle.panel_state.specs.declared.visits.Turn.{Turn}
use Rattle.panel_state.specs.declared.visits.Turn.TheVariants.{Earlier, Later}

-- the folders that were shown before the present one, and those that were gone back
-- from, each the nearest first
pub record FoldersShown : Type 0 where
  pub behind : List Route
  pub ahead : List Route

-- a folder is left for another one: a hundred are remembered, and none to go forward to
abbrev pub visited_folders : Route → FoldersShown → FoldersShown
visited_folders left folders = record { behind = take 100 (left ∷ folders.behind); ahead = [] }

-- the folders on the side to which a turn leads, the nearest first
abbrev pub folders_on : Turn → FoldersShown → List Route
folders_on Earlier folders = folders.behind
folders_on Later folders = folders.ahead

-- a folder is left for the one before it, or for the one that was gone back from last
abbrev pub turned_folders : Turn → Route → FoldersShown → FoldersShown
turned_folders Earlier left folders = record { behind = drop 1 folders.behind; ahead = left ∷ folders.ahead }
turned_folders Later left folders = record { behind = left ∷ folders.behind; ahead = drop 1 folders.ahead }
