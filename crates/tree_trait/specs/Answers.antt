-- What an answer of a tree says of what it holds, and when a device may answer a fault.
use Rattle.std.specs.Prelude.{◌≡◌, ◌↔◌, ℕ, ℤ, ◌+◌, ◌-◌, ◌^◌, ◌≤◌, ◌≢◌, All, take, drop}
use Rattle.std.specs.Prelude.{min, ⊤, if◌then◌else◌, ◌==◌, List, [], ◌∷◌, length}
use Rattle.std.specs.Prelude.{IsSome, Option, Some, None, Result, Ok, Err, IsErrOf}
use Rattle.std.specs.Ordering.{nat_cmp}
use Rattle.std.specs.declared.cmp.Ordering.{Ordering}
use Rattle.std.specs.declared.cmp.Ordering.TheVariants.{Less}
use Rattle.std.specs.Cmp.Lexicographic.{slice_cmp}
use Rattle.mc_text.specs.Routes.{Route}
use Rattle.tree_trait.specs.CrashImages.{Among}
use Rattle.tree_trait.specs.declared.file_system.Mount.{Mount}
use Rattle.tree_trait.specs.declared.file_system.FileSystem.{FileSystem}
use Rattle.tree_trait.specs.declared.calls.TreeError.{TreeError}
use Rattle.tree_trait.specs.declared.calls.TreeError.TheVariants.{Fault, Memory}
use Rattle.tree_trait.specs.Calls.{Call}
use Rattle.tree_trait.specs.declared.calls.Meta.{Meta}
use Rattle.tree_trait.specs.declared.calls.Children.{Children}
use Rattle.tree_trait.specs.FileSystem.{lookup, node}
use Rattle.tree_trait.specs.Refusals.{refusal_of, mount_of}
use Rattle.tree_trait.specs.Change.{CallLog, Nothing, current, with_change, change_of, torn_write, found_node}

-- a count with one more, which stays at its last value
abbrev pub one_more : ℕ → ℕ
one_more count = min (count + 1) (2 ^ 64 - 1)

-- a count of faults has risen; one that stands at its last value counts as risen
abbrev pub HasRisen : ℕ → ℕ → Type 0
HasRisen before after = min (before + 1) (2 ^ 64 - 1) ≤ after

-- a device's count of faults doesn't fall, and it answers this fault only where the count has risen
pub record HasCause {T E : Type 0} (fault : E) (before after : ℕ) (result : Result T E) : Type 0 where
  pub later : before ≤ after
  pub risen : IsErrOf result fault → HasRisen before after

-- a tree's count of faults after an answer: one more after a fault, and as it was after any other
abbrev pub count_after : {T : Type 0} → ℕ → Result T TreeError → ℕ
count_after before (Err Fault) = one_more before
count_after before answer = before

-- a fact on what a device holds, where that is known
abbrev pub IfKnown : {A : Type 0} → Option A → (A → Type 0) → Type 0
IfKnown contents P = (known : _) → contents ≡ Some known → P known

-- a reading call answers the check that fails, or what P says
abbrev pub Reads : {A : Type 0} → CallLog → Call → Result A TreeError → (A → Type 0) → Type 0
Reads log call (Ok x) P = (refusal_of (current log) call ≡ None) × P x
Reads log call (Err Fault) P = refusal_of (current log) call ≡ None
Reads log call (Err Memory) P = ⊤
Reads log call (Err e) P = refusal_of (current log) call ≡ Some e

-- A changing call answers the check that fails. Where none fails it is done, or has a fault, which leaves
-- all as it was but for the bytes of a write. It joins the log, unless it found no memory.
abbrev pub Performs : {A : Type 0} → CallLog → Call → Result A TreeError → Option CallLog → Type 0
Performs log call (Ok x) new = (refusal_of (current log) call ≡ None)
    × ((time : ℤ) × (new ≡ Some (with_change log (change_of (current log) call time))))
Performs log call (Err Fault) new = (refusal_of (current log) call ≡ None)
    × ((left : List ℕ) × (new ≡ Some (with_change log (torn_write (current log) call left))))
Performs log call (Err Memory) new = new ≡ Some log
Performs log call (Err e) new =
    (refusal_of (current log) call ≡ Some e) × (new ≡ Some (with_change log Nothing))

-- the number of the mount whose folder this is
abbrev pub mount_number : List Mount → ℕ → ℕ
mount_number [] folder = 0
mount_number (m ∷ mounts) folder = if m.folder == folder then 0 else mount_number mounts folder + 1

-- what `stat` tells
pub record IsMeta (s : FileSystem) (path : Route) (meta : Meta) : Type 0 where
  pub kind : meta.kind ≡ (node s (found_node s path)).kind
  pub size : meta.size ≡ length (node s (found_node s path)).bytes
  pub mode : meta.mode ≡ (node s (found_node s path)).mode
  pub mtime : meta.mtime ≡ (node s (found_node s path)).mtime
  pub mount : meta.mount ≡ mount_number s.mounts (mount_of s path)

-- the order of names, byte by byte
abbrev pub name_cmp : List ℕ → List ℕ → Ordering
name_cmp = slice_cmp nat_cmp

-- each of the names comes after this one
abbrev pub AllAfter : List ℕ → List (List ℕ) → Type 0
AllAfter first [] = ⊤
AllAfter first (name ∷ names) = (name_cmp first name ≡ Less) × AllAfter first names

-- each name comes after those before it, so none is there twice
abbrev pub IsAscending : List (List ℕ) → Type 0
IsAscending [] = ⊤
IsAscending (name ∷ names) = AllAfter name names × IsAscending names

-- what `list` tells: the names that lead to a node, and how many more there are that are no UTF-8
pub record IsListing (s : FileSystem) (folder : ℕ) (children : Children) : Type 0 where
  pub names : (name : List ℕ) → Among children.names name ↔ IsSome (lookup s.names folder name)
  pub unnamed : children.unnamed ≡ (node s folder).unnamed

-- what `read_at` tells: the bytes of the file from the offset on, as many as there are and are asked for
pub record IsRead (bytes : List ℕ) (offset : ℕ) (room : List ℕ) (into : List ℕ) (count : ℕ) : Type 0 where
  pub count_is : count ≡ min (length room) (length bytes - offset)
  pub read : take count into ≡ take count (drop offset bytes)

-- what a link may say: 1 to 4,095 bytes and no NUL (POSIX.1-2017, 3.381 Symbolic
-- Link, with PATH_MAX of 4,096)
pub record IsLinkText (text : List ℕ) : Type 0 where
  pub some : 1 ≤ length text
  pub short : length text ≤ 4095
  pub no_nul : All (λ byte. byte ≢ 0) text

-- what holds of each Meta
pub record IsInRange (meta : Meta) : Type 0 where
  pub mode : meta.mode ≤ 0o7777
  pub size : meta.size ≤ 2 ^ 63

-- an error that the store gives, and not a fault or want of memory
abbrev pub IsCause : TreeError → Type 0
IsCause Fault = ⊥
IsCause Memory = ⊥
IsCause e = ⊤
