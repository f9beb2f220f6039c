-- What a tree in memory holds.
use Rattle.std.specs.Prelude.{pos, ℤ, ◌≡◌, ℕ, ◌-◌, ◌^◌, List, [], ◌∷◌, take}
use Rattle.mc_text.specs.declared.kind.Kind.TheVariants.{File, Folder, Link, Other}
use Rattle.tree_trait.specs.declared.file_system.Node.{Node}
use Rattle.tree_trait.specs.declared.file_system.Mount.{Mount}
use Rattle.tree_trait.specs.declared.file_system.FileSystem.{FileSystem}
use Rattle.mc_text.specs.Routes.{Route}
use Rattle.tree_trait.specs.Answered.{Answered}
use Rattle.tree_trait.specs.Shape.{IsTree}
use Rattle.tree_trait.specs.Change.{CallLog, Makes, after_change, of_name}
use Rattle.mem_tree.specs.declared.record.Record.{Record}
use Rattle.mem_tree.specs.Records.{changes_by, after}
use Rattle.mem_tree.specs.Live.{standing}
use Rattle.mem_tree.specs.Sound.{IsSound, AllFit}
use Rattle.mem_tree.specs.declared.choice.Choice.{Choice}
use Rattle.mem_tree.specs.Fills.{filled_bytes}
use Rattle.tree_trait.specs.CrashImages.{image_by_bits}

-- `fails` names the calls that fail, `called` counts the calls, and for so many calls
-- as `spare` there is room; `answered` has the changing calls, the newest first
pub record Held : Type 0 where
  pub log : CallLog
  pub time : ℤ
  pub fails : List ℕ
  pub called : ℕ
  pub faults : ℕ
  pub answered : List Answered
  pub spare : ℕ

-- the log of an opening and the records since
abbrev pub log_of : FileSystem → List Record → CallLog
log_of s records = record { opening = s; changes = changes_by records }

-- What a tree in memory keeps true of its opening, its records and the names that stand: each node fits,
-- also in each image; and what was a tree at the opening is a tree.
pub record IsKept (opening : FileSystem) (records : List Record) (stands : FileSystem) : Type 0 where
  pub stands_is : stands ≡ standing (after opening records)
  pub sound : IsSound opening
  pub fits : AllFit opening (changes_by records)
  pub tree : IsTree opening → IsTree (after opening records)

-- the root's mount
abbrev pub the_mount : Mount
the_mount = record { folder = 0; capacity = 2 ^ 64 - 1 }

-- a root alone
abbrev pub fresh : FileSystem
fresh = record {
  nodes = record { kind = Folder; bytes = []; mode = 0o755; mtime = pos 0; unnamed = 0 } ∷ [];
  names = [];
  mounts = the_mount ∷ [];
}

-- a folder, with how many names in it are not UTF-8
abbrev pub folder_node : ℕ → ℕ → Node
folder_node mode unnamed = record { kind = Folder; bytes = []; mode = mode; mtime = pos 0; unnamed = unnamed }

-- a file
abbrev pub file_node : ℕ → ℤ → List ℕ → Node
file_node mode mtime bytes = record { kind = File; bytes = bytes; mode = mode; mtime = mtime; unnamed = 0 }

-- the log whose opening has a node more, and which has no calls
abbrev pub made_in : CallLog → Route → Node → CallLog
made_in t path made = record {
  opening = after_change t.opening (of_name t.opening path (λ f name. Makes f name made));
  changes = [];
}

-- a tree that was not called yet
abbrev pub unused_tree : FileSystem → ℤ → Held
unused_tree s time = record {
  log = record { opening = s; changes = [] };
  time = time;
  fails = [];
  called = 0;
  faults = 0;
  answered = [];
  spare = 0;
}

-- the image of a choice, after so many calls
abbrev pub image_chosen : CallLog → ℕ → Choice → FileSystem
image_chosen log at_call choice =
    image_by_bits (filled_bytes choice.fill) log.opening (take at_call log.changes) choice.keep

-- a link
abbrev pub link_node : List ℕ → Node
link_node text = record { kind = Link; bytes = text; mode = 0; mtime = pos 0; unnamed = 0 }

-- a thing that is neither file, folder nor link
abbrev pub other_node : Node
other_node = record { kind = Other; bytes = []; mode = 0; mtime = pos 0; unnamed = 0 }
