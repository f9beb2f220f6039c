-- What is viewed: its bytes, where they are known, and why it can't be read.
use Rattle.std.specs.Prelude.{◌≡◌, ◌≢◌, ◌≤◌, ℕ, Bool, true, false, ⊤, List}
use Rattle.std.specs.Prelude.{length, Option, Some, None, Result, Ok, Err}
use Rattle.tree_trait.specs.declared.calls.TreeError.{TreeError}
use Rattle.tree_trait.specs.declared.calls.TreeError.TheVariants as tree
use Rattle.tree_trait.specs.Calls.{ReadAt}
use Rattle.tree_trait.specs.FileSystem.{node}
use Rattle.tree_trait.specs.Change.{CallLog, current, found_node}
use Rattle.tree_trait.specs.Refusals.{refusal_of}
use Rattle.mc_viewer.specs.declared.subject.Subject.{Subject}
use Rattle.mc_viewer.specs.declared.subject.Subject.TheVariants.{File, Output}
use Rattle.mc_viewer.specs.declared.error.ViewError.{ViewError}
use Rattle.mc_viewer.specs.declared.error.ViewError.TheVariants.{Tree, NotFound, BadPattern}
use Rattle.mc_viewer.specs.declared.error.ViewError.TheVariants.{LineTooLong, Memory}

-- the bytes of an output, or those of a file in a tree that is known
unfoldable pub held_bytes : Option CallLog → Subject → Option (List ℕ)
held_bytes contents (Output bytes) = Some bytes
held_bytes None (File path) = None
held_bytes (Some log) (File path) = Some (node (current log) (found_node (current log) path)).bytes

-- what a command put out, which no tree is asked for
abbrev pub is_output : Subject → Bool
is_output (Output bytes) = true
is_output (File path) = false

-- a fact on the bytes that are viewed, where they are known and so many
abbrev pub IfHeld : Option CallLog → Subject → ℕ → (List ℕ → Type 0) → Type 0
IfHeld contents subject size P = (bytes : List ℕ) → held_bytes contents subject ≡ Some bytes
    → length bytes ≡ size → P bytes

-- the same, where they may be fewer than was said: the file shrank since
abbrev pub IfShorter : Option CallLog → Subject → ℕ → (List ℕ → Type 0) → Type 0
IfShorter contents subject size P = (bytes : List ℕ) → held_bytes contents subject ≡ Some bytes
    → length bytes ≤ size → P bytes

-- the error for a call that the tree refused
abbrev pub refused_with : TreeError → ViewError
refused_with tree.Memory = Memory
refused_with e = Tree e

-- reading the subject is refused so by a tree that is known: an output never, a file as the
-- tree says, or by a fault
unfoldable pub IsRefused : CallLog → Subject → TreeError → Type 0
IsRefused log (Output bytes) e = ⊥
IsRefused log (File path) tree.Fault = ⊤
IsRefused log (File path) e = refusal_of (current log) (ReadAt path 0 0) ≡ Some e

-- a tree that is known lets the subject be read: an output always, a file where nothing refuses it
unfoldable pub IsReadable : CallLog → Subject → Type 0
IsReadable log (Output bytes) = ⊤
IsReadable log (File path) = refusal_of (current log) (ReadAt path 0 0) ≡ None

-- why a reading fails: a refusal of the tree, or want of memory, which the tree's refusals never carry
abbrev pub IsReadError : ViewError → Type 0
IsReadError (Tree e) = e ≢ tree.Memory
IsReadError Memory = ⊤
IsReadError NotFound = ⊥
IsReadError BadPattern = ⊥
IsReadError (LineTooLong at) = ⊥

-- where the tree is known, a refusal of it is the one that it gives
abbrev pub AsTheTreeSays : CallLog → Subject → ViewError → Type 0
AsTheTreeSays log subject (Tree e) = IsRefused log subject e
AsTheTreeSays log subject error = ⊤

-- a fact on what a search has read, where its error comes of that: not where the reading failed
abbrev pub OfReading : ViewError → Type 0 → Type 0
OfReading (Tree e) P = ⊤
OfReading Memory P = ⊤
OfReading NotFound P = P
OfReading BadPattern P = P
OfReading (LineTooLong at) P = P

-- a fact on what a search has read, wherever its answer comes of that
abbrev pub IfRead : {A : Type 0} → Result A ViewError → Type 0 → Type 0
IfRead (Ok x) P = P
IfRead (Err e) P = OfReading e P
