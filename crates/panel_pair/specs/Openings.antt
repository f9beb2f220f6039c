-- The panels with which a session begins (own).
use Rattle.std.specs.Prelude.{List, [], ◌∷◌, Result, Ok, Err}
use Rattle.mc_text.specs.Routes.{Route, path_text}
use Rattle.tree_trait.specs.Change.{CallLog, current}
use Rattle.resolving.specs.declared.error.ResolveError.{ResolveError}
use Rattle.resolving.specs.declared.walking.Wanted.TheVariants.{FolderAlone}
use Rattle.resolving.specs.Resolution.{resolved_path}
use Rattle.panel_state.specs.Panels.{PanelState}
use Rattle.panel_state.specs.Goings.{ShowsResolved}
use Rattle.panel_pair.specs.declared.opening.Unopened.{Unopened}
use Rattle.panel_pair.specs.declared.side.Side.{Side}
use Rattle.panel_pair.specs.declared.side.Side.TheVariants.{Left, Right}
use Rattle.panel_pair.specs.Pairs.{PairState}

-- the folder that a path leads to is shown as it was read, or the path leads to none
abbrev pub ShowsPath : CallLog → Route → Result PanelState ResolveError → Type 0
ShowsPath log path result =
    ShowsResolved log (resolved_path (current log) FolderAlone [] (path_text path)) result

-- the folder of a side is refused; the right one is read only where the left one is shown
abbrev pub RefusesSide : CallLog → Route → Route → Side → ResolveError → Type 0
RefusesSide log left right Left e = ShowsPath log left (Err e)
RefusesSide log left right Right e =
    ((panel : PanelState) × ShowsPath log left (Ok panel)) × ShowsPath log right (Err e)

-- both panels show their folders, or that of a side is refused
abbrev pub OpensBoth : CallLog → Route → Route → Result PairState Unopened → Type 0
OpensBoth log left right (Ok pair) =
    ShowsPath log left (Ok pair.current) × ShowsPath log right (Ok pair.other)
OpensBoth log left right (Err unopened) = RefusesSide log left right unopened.side unopened.error

-- what was refused, if anything was
abbrev pub refused_opening : Result PairState Unopened → List ResolveError
refused_opening (Ok pair) = []
refused_opening (Err unopened) = unopened.error ∷ []
