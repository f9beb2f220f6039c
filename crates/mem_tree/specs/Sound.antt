-- What holds of each node of a tree in memory, and of what its calls change.
use Rattle.std.specs.Prelude.{◌≡◌, ℕ, ◌^◌, ◌≤◌, ⊤, false, true, List, [], ◌∷◌, length}
use Rattle.std.specs.Str.{IsUtf8}
use Rattle.tree_trait.specs.declared.file_system.Node.{Node}
use Rattle.tree_trait.specs.declared.file_system.FileSystem.{FileSystem}
use Rattle.tree_trait.specs.FileSystem.{node}
use Rattle.tree_trait.specs.Refusals.{is_link}
use Rattle.tree_trait.specs.Answers.{IsLinkText}
use Rattle.tree_trait.specs.Change.{Change, Nothing, Makes, Moves, Removes, Sets, Writes, Syncs, after_change}

-- the text of a link, which is UTF-8
pub record IsLink (text : List ℕ) : Type 0 where
  pub says : IsLinkText text
  pub utf8 : IsUtf8 text

-- a node has the twelve bits of a mode at most, and no more bytes than a size tells; a link has a link's text
pub record FitsNode (n : Node) : Type 0 where
  pub mode : n.mode ≤ 0o7777
  pub size : length n.bytes ≤ 2 ^ 63
  pub link : is_link n ≡ true → IsLink n.bytes

-- each node fits, and the mounts have numbers
pub record IsSound (s : FileSystem) : Type 0 where
  pub nodes : (i : ℕ) → FitsNode (node s i)
  pub mounts : length s.mounts ≤ 1000

-- a change leaves each node fit
abbrev pub FitsChange : FileSystem → Change → Type 0
FitsChange s Nothing = ⊤
FitsChange s (Makes f name made) = FitsNode made
FitsChange s (Moves f old g new i replaced) = ⊤
FitsChange s (Removes f name i) = ⊤
FitsChange s (Sets i mode) = mode ≤ 0o7777
FitsChange s (Writes i bytes mtime) = (length bytes ≤ 2 ^ 63) × (is_link (node s i) ≡ false)
FitsChange s (Syncs i) = ⊤

abbrev pub AllFit : FileSystem → List Change → Type 0
AllFit s [] = ⊤
AllFit s (c ∷ later) = FitsChange s c × AllFit (after_change s c) later
