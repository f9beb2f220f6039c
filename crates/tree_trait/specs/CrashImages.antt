-- What a crash may leave: each change that isn't on the disk may be lost. POSIX doesn't say what becomes of
-- a name whose folder was not synced, so this rule is own (docs/DISK-MODEL.md).
use Rattle.std.specs.Prelude.{◌≡◌, ◌⊎◌, ℕ, Bool, true, false, not, ◌&&◌, ◌||◌, ◌==◌, List, []}
use Rattle.std.specs.Prelude.{◌∷◌, ◌++◌, take, length, is_none, if◌then◌else◌, Option, Some, None}
use Rattle.std.specs.Str.{bytes_eq}
use Rattle.mc_text.specs.Routes.{Route}
use Rattle.tree_trait.specs.FileSystem.{lookup, find, value_at}
use Rattle.tree_trait.specs.declared.file_system.FileSystem.{FileSystem}
use Rattle.tree_trait.specs.Change.{Change, Nothing, Makes, Moves, Removes, Sets, Writes}
use Rattle.tree_trait.specs.Change.{Syncs, after_change, after_changes, with_bytes, CallLog}

-- Nothing of a node waits any more: after these changes came a sync of it, or a removal or replacement of it
-- that waits for nothing itself.
abbrev pub is_settled : ℕ → List Change → Bool
is_settled i [] = false
is_settled i (Syncs j ∷ later) = (j == i) || is_settled i later
is_settled i (Removes f name j ∷ later) = ((j == i) && is_settled f later) || is_settled i later
is_settled i (Moves f old g new k (Some j) ∷ later) =
    ((j == i) && (is_settled f later && is_settled g later)) || is_settled i later
is_settled i (Moves f old g new k None ∷ later) = is_settled i later
is_settled i (Nothing ∷ later) = is_settled i later
is_settled i (Makes f name made ∷ later) = is_settled i later
is_settled i (Sets j mode ∷ later) = is_settled i later
is_settled i (Writes j bytes mtime ∷ later) = is_settled i later

-- a change still waits after these later ones: a change of names for each folder that it touches, a change
-- of a mode or of bytes for its node
abbrev pub is_unsynced : Change → List Change → Bool
is_unsynced Nothing later = false
is_unsynced (Makes f name made) later = not (is_settled f later)
is_unsynced (Moves f old g new i replaced) later = not (is_settled f later && is_settled g later)
is_unsynced (Removes f name i) later = not (is_settled f later)
is_unsynced (Sets i mode) later = not (is_settled i later)
is_unsynced (Writes i bytes mtime) later = not (is_settled i later)
is_unsynced (Syncs i) later = false

-- a change is lost: a node that was made has no name, and a file that was written has any bytes
abbrev pub Lost : FileSystem → Change → FileSystem → Type 0
Lost s Nothing new = new ≡ s
Lost s (Makes f name made) new = new ≡ record s { nodes = s.nodes ++ made ∷ [] }
Lost s (Moves f old g new' i replaced) new = new ≡ s
Lost s (Removes f name i) new = new ≡ s
Lost s (Sets i mode) new = new ≡ s
Lost s (Writes i bytes mtime) new = (any : List ℕ) × (new ≡ with_bytes s i any mtime)
Lost s (Syncs i) new = new ≡ s

-- what a crash after these changes may leave of a store: each is there, or is pending and lost
abbrev pub MayLeave : FileSystem → List Change → FileSystem → Type 0
MayLeave s [] image = image ≡ s
MayLeave s (c ∷ later) image =
    MayLeave (after_change s c) later image
    ⊎ ((is_unsynced c later ≡ true) × ((mid : FileSystem) × Lost s c mid × MayLeave mid later image))

-- the images of a crash after the first k calls
abbrev pub IsCrashImage : CallLog → ℕ → FileSystem → Type 0
IsCrashImage t k image = MayLeave t.opening (take k t.changes) image

-- none of these changes is pending
abbrev pub all_settled : List Change → Bool
all_settled [] = true
all_settled (c ∷ later) = not (is_unsynced c later) && all_settled later

-- these are one name of one folder
abbrev pub same_name : ℕ → List ℕ → ℕ → List ℕ → Bool
same_name f m g n = (f == g) && bytes_eq m n

-- what a change says of a name, among so many nodes: to what it leads then, if the change touches it
abbrev pub says : Change → ℕ → ℕ → List ℕ → Option (Option ℕ)
says Nothing nodes g m = None
says (Makes f name made) nodes g m = if same_name f name g m then Some (Some nodes) else None
says (Moves f old h new i replaced) nodes g m =
    if same_name h new g m then Some (Some i) else if same_name f old g m then Some None else None
says (Removes f name i) nodes g m = if same_name f name g m then Some None else None
says (Sets i mode) nodes g m = None
says (Writes i bytes mtime) nodes g m = None
says (Syncs i) nodes g m = None

-- what a name may lead to after a crash, first what it leads to now: also what it led to before each
-- pending change of it since the last one that is on the disk
abbrev pub may_lead : ℕ → List ℕ → List (Option ℕ) → FileSystem → List Change → List (Option ℕ)
may_lead g m had s [] = lookup s.names g m ∷ had
may_lead g m had s (c ∷ later) =
    may_lead g m (
    if is_none (says c (length s.nodes) g m) then had else
    if is_unsynced c later then lookup s.names g m ∷ had else []) (after_change s c) later

abbrev pub Among : {A : Type 0} → List A → A → Type 0
Among [] x = ⊥
Among (y ∷ ys) x = (x ≡ y) ⊎ Among ys x

-- The law of names: in each image each name leads to one of these.
abbrev pub NamesLaw : Type 0
NamesLaw = (s image : FileSystem) (changes : List Change) (folder : ℕ) (name : List ℕ)
    → MayLeave s changes image
    → Among (may_lead folder name [] s changes) (lookup image.names folder name)

-- The images after one call more are those before it, each with the call's change or,
-- if it is pending, without.
abbrev pub GrowsLaw : Type 0
GrowsLaw = (s image : FileSystem) (changes : List Change) (c : Change) → MayLeave s (changes ++ c ∷ []) image
    → (mid : FileSystem) × MayLeave s changes mid
    × ((image ≡ after_change mid c) ⊎ ((is_unsynced c [] ≡ true) × Lost mid c image))

-- a change alters what this node holds
abbrev pub alters : ℕ → Change → Bool
alters i Nothing = false
alters i (Makes f name made) = false
alters i (Moves f old g new k replaced) = false
alters i (Removes f name k) = false
alters i (Sets k mode) = k == i
alters i (Writes k bytes mtime) = k == i
alters i (Syncs k) = false

-- no pending change alters the node
abbrev pub is_clean : ℕ → List Change → Bool
is_clean i [] = true
is_clean i (c ∷ later) = not (alters i c && is_unsynced c later) && is_clean i later

-- each name of the route may lead only to what it leads to now
abbrev pub Steady : FileSystem → List Change → Route → Type 0
Steady s changes [] = Unit {0}
Steady s changes (name ∷ folder) =
    Steady s changes folder × ((f : ℕ) → find (after_changes s changes) folder ≡ Some f
    → may_lead f name [] s changes ≡ lookup (after_changes s changes).names f name ∷ [])

-- A path whose names are steady shows in each image what it shows now, if no pending change alters its node.
abbrev pub SteadyLaw : Type 0
SteadyLaw = (s image : FileSystem) (changes : List Change) (path : Route) → MayLeave s changes image
    → Steady s changes path
    → ((i : ℕ) → find (after_changes s changes) path ≡ Some i → is_clean i changes ≡ true)
    → value_at image path ≡ value_at (after_changes s changes) path

-- no change moves a node between names
abbrev pub moves_none : List Change → Bool
moves_none [] = true
moves_none (Moves f old g new i replaced ∷ later) = false
moves_none (c ∷ later) = moves_none later

-- After a sync of a folder each of its names is steady, where nothing was moved.
abbrev pub SyncLaw : Type 0
SyncLaw = (s : FileSystem) (changes : List Change) (folder : ℕ) (name : List ℕ) → moves_none changes ≡ true
    → may_lead folder name [] s (changes ++ Syncs folder ∷ [])
    ≡ lookup (after_changes s changes).names folder name ∷ []

abbrev pub is_write : Change → Bool
is_write Nothing = false
is_write (Makes f name made) = false
is_write (Moves f old g new i replaced) = false
is_write (Removes f name i) = false
is_write (Sets i mode) = false
is_write (Writes i bytes mtime) = true
is_write (Syncs i) = false

-- the file system where a change is lost; `fill` says what is left of the bytes of a write
abbrev pub without : (List ℕ → List ℕ) → FileSystem → Change → FileSystem
without fill s Nothing = s
without fill s (Makes f name made) = record s { nodes = s.nodes ++ made ∷ [] }
without fill s (Moves f old g new i replaced) = s
without fill s (Removes f name i) = s
without fill s (Sets i mode) = s
without fill s (Writes i bytes mtime) = with_bytes s i (fill bytes) mtime
without fill s (Syncs i) = s

-- the file system after a change that is lost if it isn't synced
abbrev pub unless_synced : (List ℕ → List ℕ) → FileSystem → Change → List Change → FileSystem
unless_synced fill s c later = if is_unsynced c later then without fill s c else after_change s c

-- The image in which those unsynced changes of names and modes stand for which there is a bit `true`: the
-- bits are in the order of these changes, and one that is missing is `false`. A file with unsynced writes
-- holds what `fill` makes of the bytes that were written.
abbrev pub image_by_bits : (List ℕ → List ℕ) → FileSystem → List Change → List Bool → FileSystem
image_by_bits fill s [] keep = s
image_by_bits fill s (c ∷ later) [] = image_by_bits fill (unless_synced fill s c later) later []
image_by_bits fill s (c ∷ later) (bit ∷ keep) =
    if is_unsynced c later && not (is_write c)
    then image_by_bits fill (if bit then after_change s c else without fill s c) later keep
    else image_by_bits fill (unless_synced fill s c later) later (bit ∷ keep)
