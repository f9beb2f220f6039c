-- What is known of the tree while a file is saved, beside that it is guarded: where the part stands and
-- what it holds, and that the target is as it was. A save that asks this of the tree leaves its target as
-- it was or whole, whenever a crash comes.
use Rattle.std.specs.Prelude.{◌≡◌, ℕ, ⊤, true, ◌&&◌, not, ◌==◌, List, length, take, Option, Some, None}
use Rattle.mc_text.specs.Routes.{Route}
use Rattle.mc_text.specs.declared.kind.Kind.TheVariants.{File}
use Rattle.tree_trait.specs.FileSystem.{Value, find, node}
use Rattle.tree_trait.specs.Change.{CallLog, current}
use Rattle.laws_crash.specs.Possible.{MayLead}
use Rattle.laws_crash.specs.Guarded.{Marks, IsGuarded}
use Rattle.laws_crash.specs.NameKnowledge.{IsUnworked}
use Rattle.copy_file.proofs.FilledParts.{Holds}
use Rattle.copy_file.specs.declared.stage.Stage.{Stage}
use Rattle.copy_file.specs.declared.stage.Stage.TheVariants.{Begin, Fill, Clean, Left, Decided}
use Rattle.copy_file.specs.CopyCalls.{part_mode}

-- The part, a file with no names in it: it stands aside, and its bytes and mode need not be on the disk.
pub record HasPart (marks : Marks) (log : CallLog) (path : Route) (i : ℕ) : Type 0 where
  pub leads : find (current log) path ≡ Some i
  pub is_aside : marks.aside path ≡ true
  pub moves : marks.roams i ≡ true
  pub loose : marks.loose i ≡ true
  pub plain : marks.modes i ≡ None
  pub bare : (m : List ℕ) (y : Option ℕ) → MayLead log i m y → y ≡ None

-- it holds the first bytes, and has the mode that it was made with
pub record IsFilled (marks : Marks) (log : CallLog) (path : Route) (i : ℕ) (bytes : List ℕ)
    (mode : ℕ) : Type 0 where
  pub part : HasPart marks log path i
  pub holds : Holds (node (current log) i) bytes (part_mode mode)

-- what is known of the part where the save stands so
abbrev pub KnowsPart : Marks → CallLog → ℕ → List ℕ → Stage → Type 0
KnowsPart marks log i bytes (Fill part facts done) = IsFilled marks log part i (take done bytes) facts.mode
KnowsPart marks log i bytes Begin = ⊤
KnowsPart marks log i bytes (Clean part follows) = ⊤
KnowsPart marks log i bytes (Left part) = ⊤
KnowsPart marks log i bytes Decided = ⊤

-- the node that a call makes next
abbrev pub next_node : CallLog → ℕ
next_node log = length (current log).nodes

-- nothing is asked of it yet: its bytes and mode need not be on the disk, and it may be renamed
pub record MayBePart (marks : Marks) (i : ℕ) : Type 0 where
  pub moves : marks.roams i ≡ true
  pub loose : marks.loose i ≡ true
  pub plain : marks.modes i ≡ None

-- the target leads where it led before the save, and nothing was done there
pub record IsAsFound (marks : Marks) (log : CallLog) (target : Route) : Type 0 where
  pub found : find (current log) target ≡ marks.was target
  pub under : IsUnworked marks log target

-- the same marks, but that this node's bytes and mode are on the disk
abbrev pub with_firm : Marks → ℕ → Marks
with_firm marks i = record marks { loose = λ j. marks.loose j && not (j == i) }

-- what is saved
abbrev pub saved_value : List ℕ → ℕ → Value
saved_value bytes mode = record { kind = File; bytes = bytes; mode = mode; unnamed = 0 }

-- the file stands at its target, with its bytes and its mode, and these are on the disk
pub record IsPlaced (marks : Marks) (log : CallLog) (target : Route) (i : ℕ) (bytes : List ℕ)
    (mode : ℕ) : Type 0 where
  pub guarded : IsGuarded (with_firm marks i) log
  pub leads : find (current log) target ≡ Some i
  pub holds : Holds (node (current log) i) bytes mode
  pub plain : marks.modes i ≡ None
