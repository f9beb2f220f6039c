-- Whether a session can start: its paths lead to folders that can be listed, or to a file that can be read,
-- and else this says why not.
use Rattle.std.specs.Prelude.{◌≡◌, ⊤, Bool, true, false, [], Option, Some, None, Result, Ok, Err}
use Rattle.std.specs.Option.{option_map}
use Rattle.mc_text.specs.Routes.{Route, path_text}
use Rattle.tree_trait.specs.declared.file_system.FileSystem.{FileSystem}
use Rattle.tree_trait.specs.declared.calls.TreeError.{TreeError}
use Rattle.tree_trait.specs.Calls.{ListFolder, ReadAt}
use Rattle.tree_trait.specs.Refusals.{refusal_of}
use Rattle.resolving.specs.declared.error.ResolveError.{ResolveError}
use Rattle.resolving.specs.declared.error.ResolveError.TheVariants as resolve
use Rattle.resolving.specs.declared.walking.Wanted.TheVariants.{AnyThing, FolderAlone}
use Rattle.resolving.specs.Resolution.{resolved_path}
use Rattle.panel_pair.specs.declared.side.Side.TheVariants.{Left, Right}
use Rattle.mc_desk.specs.declared.starts.StartError.{StartError}
use Rattle.mc_desk.specs.declared.starts.StartError.TheVariants.{Resolve, Memory}
use Rattle.mc_desk.specs.declared.starts.StartMode.{StartMode}
use Rattle.mc_desk.specs.declared.starts.StartMode.TheVariants.{Panels, View}
use Rattle.mc_desk.specs.declared.starts.StartPlace.{StartPlace}
use Rattle.mc_desk.specs.declared.starts.StartPlace.TheVariants as place

-- why the folder to which a way leads can't be listed, if it can't
abbrev pub refusal_at_end : FileSystem → Result Route ResolveError → Option ResolveError
refusal_at_end s (Ok folder) =
    option_map (λ (e : TreeError). resolve.Tree folder e) (refusal_of s (ListFolder folder))
refusal_at_end s (Err e) = Some e

-- why a path leads to no folder that can be listed, if it leads to none
abbrev pub path_refusal : FileSystem → Route → Option ResolveError
path_refusal s path = refusal_at_end s (resolved_path s FolderAlone [] (path_text path))

-- why the file to which a way leads can't be read, if it can't
abbrev pub unread_at_end : FileSystem → Result Route ResolveError → Option ResolveError
unread_at_end s (Ok file) =
    option_map (λ (e : TreeError). resolve.Tree file e) (refusal_of s (ReadAt file 0 0))
unread_at_end s (Err e) = Some e

-- why a path leads to no file that can be read, if it leads to none
abbrev pub file_refusal : FileSystem → Route → Option ResolveError
file_refusal s path = unread_at_end s (resolved_path s AnyThing [] (path_text path))

-- This is why a path is refused, or the tree failed; want of memory is no refusal of a path.
abbrev pub IsRefusal : Option ResolveError → ResolveError → Type 0
IsRefusal refusal resolve.Fault = ⊤
IsRefusal refusal resolve.Memory = ⊥
IsRefusal refusal (resolve.Tree refused e) = refusal ≡ Some (resolve.Tree refused e)
IsRefusal refusal resolve.TooManyLinks = refusal ≡ Some resolve.TooManyLinks
IsRefusal refusal resolve.TooLong = refusal ≡ Some resolve.TooLong
IsRefusal refusal resolve.BadName = refusal ≡ Some resolve.BadName

-- its paths lead to what can be listed, or read
abbrev pub CanStart : FileSystem → StartMode → Type 0
CanStart s (Panels left right) = (path_refusal s left ≡ None) × (path_refusal s right ≡ None)
CanStart s (View path) = file_refusal s path ≡ None

-- Why a session of panels doesn't start: as the first path is refused that leads to no
-- folder which can be listed.
abbrev pub IsPanelCause : FileSystem → Route → Route → StartPlace → ResolveError → Type 0
IsPanelCause s left right place.Left e = IsRefusal (path_refusal s left) e
IsPanelCause s left right place.Right e = (path_refusal s left ≡ None) × IsRefusal (path_refusal s right) e
IsPanelCause s left right place.File e = ⊥

-- and why one of the viewer alone doesn't
abbrev pub IsViewerCause : FileSystem → Route → StartPlace → ResolveError → Type 0
IsViewerCause s path place.Left e = ⊥
IsViewerCause s path place.Right e = ⊥
IsViewerCause s path place.File e = IsRefusal (file_refusal s path) e

abbrev pub IsPathCause : FileSystem → StartMode → StartPlace → ResolveError → Type 0
IsPathCause s (Panels left right) at e = IsPanelCause s left right at e
IsPathCause s (View path) at e = IsViewerCause s path at e

-- Why a session over these files doesn't start: as one of its paths is refused, or by a fault,
-- or since memory ran out.
abbrev pub IsStartCause : FileSystem → StartMode → StartError → Type 0
IsStartCause s mode Memory = ⊤
IsStartCause s mode (Resolve at e) = IsPathCause s mode at e

-- the start tells of a fault
abbrev pub is_start_fault : StartError → Bool
is_start_fault Memory = false
is_start_fault (Resolve at resolve.Fault) = true
is_start_fault (Resolve at (resolve.Tree path e)) = false
is_start_fault (Resolve at resolve.TooManyLinks) = false
is_start_fault (Resolve at resolve.TooLong) = false
is_start_fault (Resolve at resolve.BadName) = false
is_start_fault (Resolve at resolve.Memory) = false
