-- What a copy takes up next, and what stops it before anything is changed.
use Rattle.std.specs.Prelude.{◌≡◌, ◌⊎◌, ◌<◌, ◌≤◌, ℕ, ⊤, Bool, true, false, List}
use Rattle.std.specs.Prelude.{◌∷◌, length, Option, Some, None, Result, Ok, Err}
use Rattle.mc_text.specs.Routes.{Route, spelled_route}
use Rattle.mc_text.specs.declared.kind.Kind.{Kind}
use Rattle.mc_text.specs.declared.kind.Kind.TheVariants as kind
use Rattle.tree_trait.specs.declared.file_system.FileSystem.{FileSystem}
use Rattle.tree_trait.specs.declared.calls.Children.{Children}
use Rattle.tree_trait.specs.Calls.{Stat, ListFolder}
use Rattle.tree_trait.specs.FileSystem.{node}
use Rattle.tree_trait.specs.Change.{found_node}
use Rattle.tree_trait.specs.CrashImages.{Among}
use Rattle.tree_trait.specs.Refusals.{refusal_of}
use Rattle.tree_trait.specs.Answers.{IsAscending, IsListing}
use Rattle.job_answers.specs.declared.replies.Decision.TheVariants.{Ask, Keep}
use Rattle.job_answers.specs.declared.replies.Replies.{Replies}
use Rattle.job_reports.specs.declared.job.Pair.{Pair}
use Rattle.job_reports.specs.declared.question.Question.{Question}
use Rattle.job_reports.specs.declared.report.Cause.{Cause}
use Rattle.job_reports.specs.declared.report.Cause.TheVariants.{Tree, TargetKind, SpecialSource, TooDeep}
use Rattle.job_reports.specs.declared.report.Cause.TheVariants.{PartTaken, TooLong, Unnamed, Changed, Memory}
use Rattle.job_reports.specs.declared.report.Trouble.{Trouble}
use Rattle.job_reports.specs.Paths.{folder_of}
use Rattle.job_reports.specs.Reading.{IsRefusedWith, StatStops, TargetStops}
use Rattle.job_reports.specs.Stops.{IsTroubleWithPath, out_of_memory_at}
use Rattle.copy_tree.specs.Replaceable.{IsReplaceable}
use Rattle.copy_file.specs.Looking.{AreFactsOf, HasRange}
use Rattle.copy_tree.specs.declared.copy.Stage.{Stage}
use Rattle.copy_tree.specs.declared.copy.Stage.TheVariants.{Begin}
use Rattle.copy_tree.specs.declared.due.Due.{Due}
use Rattle.copy_tree.specs.declared.due.Due.TheVariants.{End, Thing}
use Rattle.copy_tree.specs.declared.looking.Taken.{Taken}
use Rattle.copy_tree.specs.declared.looking.Taken.TheVariants as taken
use Rattle.copy_tree.specs.Asking.{AreBothSingle, IsDecided, IsFree, IsOpen}
use Rattle.copy_tree.specs.Standing.{Seen, due, pair_of}

-- a path has at most so many bytes (PATH_MAX of 4,096)
abbrev pub IsShort : Route → Type 0
IsShort path = length (spelled_route path) ≤ 4096

-- a thing is taken up where the copy may go down a level more, and both paths can be told
abbrev pub IsInReach : ℕ → Due → Type 0
IsInReach left End = ⊤
IsInReach left (Thing pair) = (1 ≤ left) × IsShort pair.source × IsShort pair.target

-- The trouble of a thing that is not in reach: it lies too deep, or its path, or that of its target, is too
-- long. A source whose path is too long can't be named, so its folder is.
abbrev pub ReachStops : Pair → ℕ → Trouble → Type 0
ReachStops pair left t =
    (IsTroubleWithPath TooLong (folder_of pair.source) t × (4096 < length (spelled_route pair.source)))
    ⊎ (IsTroubleWithPath TooDeep pair.source t × (left ≡ 0) × IsShort pair.source)
    ⊎ (IsTroubleWithPath TooLong pair.source t × (1 ≤ left) × IsShort pair.source
    × (4096 < length (spelled_route pair.target)))
    ⊎ (t ≡ out_of_memory_at false)

-- the same of the next name
abbrev pub DueStops : Seen → Trouble → Type 0
DueStops c t = (name : List ℕ) × (rest : List (List ℕ)) × (c.levels.inner.names.names ≡ name ∷ rest)
    × ReachStops (pair_of c name) c.levels.left t

-- what is taken up, or the trouble of it
abbrev pub Dues : Seen → Result Due Trouble → Type 0
Dues c (Ok next) = (next ≡ due c) × IsInReach c.levels.left next
Dues c (Err t) = DueStops c t

-- the path of a name in a folder is too long, and another path is named; or there is no memory
abbrev pub Joins : Route → Route → Result Route Trouble → Type 0
Joins path named (Ok joined) = (joined ≡ path) × IsShort path
Joins path named (Err t) = (IsTroubleWithPath TooLong named t × (4096 < length (spelled_route path)))
    ⊎ (t ≡ out_of_memory_at false)

-- a thing of this kind stands at the source
abbrev pub SourceIs : FileSystem → Pair → Kind → Type 0
SourceIs s pair k = (refusal_of s (Stat pair.source) ≡ None) × ((node s (found_node s pair.source)).kind ≡ k)

-- the listing of a folder is refused
abbrev pub ListStops : FileSystem → Route → Cause → Option Route → Type 0
ListStops s folder (Tree e) named = (named ≡ Some folder) × IsRefusedWith s (ListFolder folder) e
ListStops s folder Memory named = named ≡ None
ListStops s folder (TargetKind k) named = ⊥
ListStops s folder SpecialSource named = ⊥
ListStops s folder TooDeep named = ⊥
ListStops s folder PartTaken named = ⊥
ListStops s folder TooLong named = ⊥
ListStops s folder (Unnamed count) named = ⊥
ListStops s folder (Changed said got) named = ⊥

-- The trouble of a folder that is to be listed: that is refused, or not all its names can be shown.
abbrev pub FolderStops : FileSystem → Route → Trouble → Type 0
FolderStops s folder t =
    ListStops s folder t.cause t.path
    ⊎ ((count : ℕ) × (0 < count) × ((node s (found_node s folder)).unnamed ≡ count)
    × IsTroubleWithPath (Unnamed count) folder t)

-- all names of a folder, each of which can be shown
abbrev pub Lists : FileSystem → Route → List (List ℕ) → Type 0
Lists s folder names = (refusal_of s (ListFolder folder) ≡ None)
    × IsListing s (found_node s folder) (record { names = names; unnamed = 0 })

-- a folder stands at the target
abbrev pub IsOnFolder : FileSystem → Pair → Type 0
IsOnFolder s pair =
    (refusal_of s (Stat pair.target) ≡ None) × ((node s (found_node s pair.target)).kind ≡ kind.Folder)

-- A folder that is to be copied onto a folder is merged with it, where the copy has changed nothing yet.
abbrev pub CanMerge : FileSystem → Stage → Pair → Type 0
CanMerge s stage pair = (stage ≡ Begin) × SourceIs s pair kind.Folder × IsOnFolder s pair

-- A file or a link that is copied itself may replace a file or a link.
abbrev pub CanReplace : FileSystem → Bool → Pair → Type 0
CanReplace s top pair = (top ≡ true) × AreBothSingle s pair

-- what can't be copied at all stands at the source, and what could be replaced at the target
abbrev pub IsSpecialOnSingle : FileSystem → Pair → Type 0
IsSpecialOnSingle s pair = SourceIs s pair kind.Other × (refusal_of s (Stat pair.target) ≡ None)
    × IsReplaceable (node s (found_node s pair.target)).kind

-- The trouble of what stands at a target: the look there is refused; or something stands there that is
-- neither merged nor replaced, and goes before the trouble of a special source.
abbrev pub TargetHinders : FileSystem → Stage → Bool → Pair → Trouble → Type 0
TargetHinders s stage top pair t =
    TargetStops s pair.target t.cause t.path
    ⊎ ((refusal_of s (Stat pair.target) ≡ None)
    × IsTroubleWithPath (TargetKind (node s (found_node s pair.target)).kind) pair.target t
    × (CanMerge s stage pair → ⊥) × (CanReplace s top pair → ⊥) × (IsSpecialOnSingle s pair → ⊥))

-- The trouble of a thing with this name in a folder that is merged: its path, or that of its
-- target, would be too long.
abbrev pub ChildStops : Pair → List ℕ → Trouble → Type 0
ChildStops pair name t =
    (IsTroubleWithPath TooLong pair.source t × (4096 < length (spelled_route (name ∷ pair.source))))
    ⊎ (IsTroubleWithPath TooLong (name ∷ pair.source) t
    × (4096 < length (spelled_route (name ∷ pair.target))))

-- the paths of all that lies in a folder that is merged can be told, and those of their targets
abbrev pub AreShort : Pair → List (List ℕ) → Type 0
AreShort pair names = (name : List ℕ) → Among names name
    → IsShort (name ∷ pair.source) × IsShort (name ∷ pair.target)

-- The trouble of looks at a thing, in their order: at the source; at the target, unless what stands there
-- is merged or replaced; the source is a special file; it is a folder that can't be listed; something that
-- lies in a folder to be merged has too long a path.
abbrev pub LooksStop : FileSystem → Stage → Bool → Pair → Trouble → Type 0
LooksStop s stage top pair t =
    StatStops s pair.source t.cause t.path
    ⊎ ((k : Kind) × SourceIs s pair k × TargetHinders s stage top pair t)
    ⊎ ((SourceIs s pair kind.Other × IsFree s pair ⊎ IsSpecialOnSingle s pair)
    × IsTroubleWithPath SpecialSource pair.source t)
    ⊎ (SourceIs s pair kind.Folder × (IsFree s pair ⊎ CanMerge s stage pair) × FolderStops s pair.source t)
    ⊎ (CanMerge s stage pair × ((name : List ℕ) × (names : List (List ℕ)) × Lists s pair.source names
    × Among names name × ChildStops pair name t))

-- What is taken up is a file, of which this is said, or a link, at whose target nothing stands, or what is
-- replaced; or a folder with these names and this mode, at whose target nothing stands; or a folder with
-- these names, at whose target a folder stands. Or what stands at the target is kept, or it is asked.
abbrev pub IsTaken : FileSystem → Bool → Replies → Pair → Taken → Type 0
IsTaken s top replies pair (taken.File facts) =
    SourceIs s pair kind.File × AreFactsOf s pair.source facts × IsOpen s top replies pair
IsTaken s top replies pair taken.Link = SourceIs s pair kind.Link × IsOpen s top replies pair
IsTaken s top replies pair (taken.Folder names mode) =
    SourceIs s pair kind.Folder × IsFree s pair × Lists s pair.source names
    × (mode ≡ (node s (found_node s pair.source)).mode)
IsTaken s top replies pair (taken.Merged names) =
    SourceIs s pair kind.Folder × IsOnFolder s pair × Lists s pair.source names
IsTaken s top replies pair taken.Kept = (question : Question) × IsDecided s pair replies question Keep
IsTaken s top replies pair (taken.Asked question) = IsDecided s pair replies question Ask

-- Where a folder is merged the copy has changed nothing yet, and all that lies in it can be told; where
-- something is kept or asked, that is copied itself.
abbrev pub MayTake : Stage → Bool → Pair → Taken → Type 0
MayTake stage top pair (taken.File facts) = ⊤
MayTake stage top pair taken.Link = ⊤
MayTake stage top pair (taken.Folder names mode) = ⊤
MayTake stage top pair (taken.Merged names) = (stage ≡ Begin) × AreShort pair names
MayTake stage top pair taken.Kept = top ≡ true
MayTake stage top pair (taken.Asked question) = top ≡ true

-- what looks at a thing come to
abbrev pub Looks : FileSystem → Stage → Bool → Replies → Pair → Result Taken Trouble → Type 0
Looks s stage top replies pair (Ok what) = IsTaken s top replies pair what
Looks s stage top replies pair (Err t) = LooksStop s stage top pair t

-- names come in byte order, each once, a mode has twelve bits, and a file at most 2^63 bytes
abbrev pub IsSound : Taken → Type 0
IsSound (taken.File facts) = HasRange facts
IsSound taken.Link = ⊤
IsSound (taken.Folder names mode) = IsAscending names × (mode ≤ 0o7777)
IsSound (taken.Merged names) = IsAscending names
IsSound taken.Kept = ⊤
IsSound (taken.Asked question) = ⊤

-- the names of a listing, or the trouble where some can't be shown
abbrev pub IsShown : Route → Children → Result (List (List ℕ)) Trouble → Type 0
IsShown folder children (Ok names) = (names ≡ children.names) × (children.unnamed ≡ 0)
IsShown folder children (Err t) =
    (0 < children.unnamed) × IsTroubleWithPath (Unnamed children.unnamed) folder t
