-- What is kept while jobs change a tree: after any crash each path leads where it leads now, or where it
-- led before the work that is under way there.
use Rattle.std.specs.Prelude.{◌≡◌, ◌⊎◌, ℕ, ◌<◌, ◌≤◌, Bool, true, false, is_some}
use Rattle.std.specs.Prelude.{List, [], ◌∷◌, length, Option, Some, None}
use Rattle.std.specs.Option.{option_map}
use Rattle.mc_text.specs.Routes.{Route}
use Rattle.tree_trait.specs.declared.file_system.Node.{Node}
use Rattle.tree_trait.specs.declared.file_system.FileSystem.{FileSystem}
use Rattle.tree_trait.specs.FileSystem.{Value, find, node, value, value_at}
use Rattle.tree_trait.specs.Shape.{IsTree}
use Rattle.tree_trait.specs.Refusals.{is_folder}
use Rattle.tree_trait.specs.Change.{Change, CallLog, current, with_change}
use Rattle.tree_trait.specs.CrashImages.{says, alters, is_clean}
use Rattle.laws_crash.specs.Possible.{MayLead, MayFind, IsImage, IsSettledBelow}

-- What is known of a tree beside its log, while jobs change it.
pub record Marks : Type 0 where
  -- The node that stood at each path before the work that is under way there: before the live job
  -- that may write it or, in doubt, before the job that ended without its sync. Elsewhere it is
  -- the node that stands there.
  pub was : Route → Option ℕ
  -- parts stand here, of which nothing is said
  pub aside : Route → Bool
  -- nodes with bytes or a mode that may not be on the disk: parts that are filled,
  -- folders that live jobs make
  pub loose : ℕ → Bool
  -- nodes that a crash may leave under another name: what was renamed
  pub roams : ℕ → Bool
  -- the mode that a thing had before one that was set, and that may not be on the disk
  pub modes : ℕ → Option ℕ

-- the same but for its mode
abbrev pub with_mode : ℕ → Node → Node
with_mode mode n = record n { mode = mode }

-- In each image the node is as it stands, or it still has this mode.
abbrev pub MayHaveMode : CallLog → ℕ → ℕ → Type 0
MayHaveMode log i before =
    (image : FileSystem) → IsImage log image
    → (node image i ≡ node (current log) i) ⊎ (node image i ≡ with_mode before (node (current log) i))

-- nothing of the node waits, but for its mode where it had this one before
abbrev pub IsOnDisk : CallLog → ℕ → Option ℕ → Type 0
IsOnDisk log i None = is_clean i log.changes ≡ true
IsOnDisk log i (Some before) = (i < length (current log).nodes) × MayHaveMode log i before

pub record IsGuarded (marks : Marks) (log : CallLog) : Type 0 where
  pub tree : IsTree (current log)
  -- a path leads where it leads now, or where it led before
  pub twofold : (p : Route) (x : Option ℕ) → marks.aside p ≡ false → MayFind log p x
      → (x ≡ find (current log) p) ⊎ (x ≡ marks.was p)
  -- what isn't loose is on the disk, but for modes
  pub clean : (i : ℕ) → marks.loose i ≡ false → IsOnDisk log i (marks.modes i)
  -- what is loose stands aside, or is a folder, of which the mode may not be on the disk
  pub firm : (p : Route) (i : ℕ) → marks.aside p ≡ false → MayFind log p (Some i)
      → (marks.loose i ≡ false) ⊎ (is_folder (node (current log) i) ≡ true)
  -- what doesn't roam has one name after any crash, and the root has none
  pub once : (i g h : ℕ) (m n : List ℕ) → marks.roams i ≡ false → MayLead log g m (Some i)
      → MayLead log h n (Some i) → (g ≡ h) × (m ≡ n)
  pub no_root : (g : ℕ) (m : List ℕ) → MayLead log g m (Some 0) → ⊥
  -- a node that isn't made yet has no name, and holds none
  pub named : (g : ℕ) (m : List ℕ) (i : ℕ) → MayLead log g m (Some i) → i < length (current log).nodes
  pub there : (p : Route) (i : ℕ) → MayFind log p (Some i) → i < length (current log).nodes
  pub empty : (i : ℕ) (m : List ℕ) (y : Option ℕ) → length (current log).nodes ≤ i
      → MayLead log i m y → y ≡ None

-- what can be seen of a node, or the same with the mode before
abbrev pub Shows : Option ℕ → Option Value → Node → Type 0
Shows None v n = v ≡ Some (value n)
Shows (Some before) v n = (v ≡ Some (value n)) ⊎ (v ≡ Some (value (with_mode before n)))

-- a path holds what this node holds; of one that is loose, a thing of its kind
abbrev pub Holds : Marks → FileSystem → Option Value → Option ℕ → Type 0
Holds marks s v None = v ≡ None
Holds marks s v (Some i) = (option_map (λ (x : Value). x.kind) v ≡ Some (node s i).kind)
    × (marks.loose i ≡ false → Shows (marks.modes i) v (node s i))

-- So in each image each path holds what it holds now, or what stood there before.
abbrev pub GuardLaw : Type 0
GuardLaw = (marks : Marks) (log : CallLog) (image : FileSystem) (p : Route) → IsGuarded marks log
    → IsImage log image → marks.aside p ≡ false
    → Holds marks (current log) (value_at image p) (find (current log) p)
    ⊎ Holds marks (current log) (value_at image p) (marks.was p)

-- A step that changes no name, and the bytes or mode of nothing but what is loose: a sync, a
-- write to a part, its mode.
pub record IsQuiet (marks : Marks) (log : CallLog) (c : Change) : Type 0 where
  pub tree : IsTree (current (with_change log c))
  pub names : (g : ℕ) (m : List ℕ) → says c (length (current log).nodes) g m ≡ None
  pub count : length (current (with_change log c)).nodes ≡ length (current log).nodes
  pub others : (i : ℕ) → marks.loose i ≡ false → alters i c ≡ false

abbrev pub QuietLaw : Type 0
QuietLaw = (marks : Marks) (log : CallLog) (c : Change) → IsGuarded marks log → IsQuiet marks log c
    → IsGuarded marks (with_change log c)

-- the change is of this name, in the folder that is found
abbrev pub Touches : CallLog → Change → Option ℕ → List ℕ → Type 0
Touches log c None name = ⊥
Touches log c (Some g) name = is_some (says c (length (current log).nodes) g name) ≡ true

-- the path goes through a name that is changed
abbrev pub IsUnder : CallLog → Change → Route → Type 0
IsUnder log c [] = ⊥
IsUnder log c (name ∷ folder) = IsUnder log c folder ⊎ Touches log c (find (current log) folder) name

-- A step that changes names: what a job has to see to before it makes, places, renames or removes.
pub record IsNaming (marks : Marks) (log : CallLog) (c : Change) : Type 0 where
  pub tree : IsTree (current (with_change log c))
  pub bytes : (i : ℕ) → alters i c ≡ false
  pub count : length (current log).nodes ≤ length (current (with_change log c)).nodes
  -- wherever a crash may leave the folder of a name that is changed, there it stands, and it stays there
  pub anchored : (g : ℕ) (m : List ℕ) (to : Option ℕ) (q : Route)
      → says c (length (current log).nodes) g m ≡ Some to → MayFind log q (Some g)
      → (find (current log) q ≡ Some g) × (find (current (with_change log c)) q ≡ Some g)
  pub in_folder : (g : ℕ) (m : List ℕ) (to : Option ℕ) → says c (length (current log).nodes) g m ≡ Some to
      → g < length (current log).nodes
  -- what gets a name has none yet, or it roams
  pub fresh : (g : ℕ) (m : List ℕ) (i : ℕ) → says c (length (current log).nodes) g m ≡ Some (Some i)
      → (marks.roams i ≡ true) ⊎ ((h : ℕ) (n : List ℕ) → MayLead log h n (Some i) → ⊥)
  -- and of no name below it anything waits for a sync
  pub below : (g : ℕ) (m : List ℕ) (i : ℕ) → says c (length (current log).nodes) g m ≡ Some (Some i)
      → IsSettledBelow (with_change log c) i
  -- and what stands there then is on the disk, or a folder, or stands aside
  pub solid : (p : Route) (i : ℕ) → marks.aside p ≡ false → IsUnder log c p
      → find (current (with_change log c)) p ≡ Some i
      → (marks.loose i ≡ false) ⊎ (is_folder (node (current (with_change log c)) i) ≡ true)
  -- where it makes a difference, nothing was done before
  pub unworked : (p : Route) → marks.aside p ≡ false → IsUnder log c p
      → (find (current log) p ≡ marks.was p) ⊎ (find (current log) p ≡ find (current (with_change log c)) p)

abbrev pub NamingLaw : Type 0
NamingLaw = (marks : Marks) (log : CallLog) (c : Change) → IsGuarded marks log → IsNaming marks log c
    → IsGuarded marks (with_change log c)

-- the path leads only where it leads now
abbrev pub IsSettledAt : CallLog → Route → Type 0
IsSettledAt log p = (x : Option ℕ) → MayFind log p x → x ≡ find (current log) p

-- a node has one name after any crash
abbrev pub HasOneName : CallLog → ℕ → Type 0
HasOneName log i = (g h : ℕ) (m n : List ℕ) → MayLead log g m (Some i) → MayLead log h n (Some i)
    → (g ≡ h) × (m ≡ n)

-- The marks may change where this holds: a path is said to be at rest, a node firm or
-- at one place, where it is.
pub record MayRemark (old new : Marks) (log : CallLog) : Type 0 where
  pub paths : (p : Route) → new.aside p ≡ false
      → ((old.aside p ≡ false) × (new.was p ≡ old.was p)) ⊎ IsSettledAt log p
  pub nodes : (i : ℕ) → new.loose i ≡ false → ((old.loose i ≡ false) × (new.modes i ≡ old.modes i))
      ⊎ ((is_clean i log.changes ≡ true) × (new.modes i ≡ None))
  pub firm : (p : Route) (i : ℕ) → new.aside p ≡ false → MayFind log p (Some i)
      → (new.loose i ≡ false) ⊎ (is_folder (node (current log) i) ≡ true)
  pub places : (i : ℕ) → new.roams i ≡ false → (old.roams i ≡ false) ⊎ HasOneName log i

-- Where paths lead only where they lead now the work is over: a job ends, or one begins.
abbrev pub SettleLaw : Type 0
SettleLaw = (old new : Marks) (log : CallLog) → IsGuarded old log → MayRemark old new log → IsGuarded new log
