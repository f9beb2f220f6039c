-- On which mount a folder lies.
use Rattle.std.specs.Prelude.{◌≡◌, ℕ, [], ◌∷◌}
use Rattle.mc_text.specs.Routes.{Route}
use Rattle.tree_trait.specs.declared.file_system.FileSystem.{FileSystem}
use Rattle.tree_trait.specs.Answers.{mount_number}
use Rattle.tree_trait.specs.Refusals.{mount_of}

-- the number of the mount on which a folder lies
abbrev pub IsMountOf : FileSystem → Route → ℕ → Type 0
IsMountOf s folder number = number ≡ mount_number s.mounts (mount_of s folder)

-- a folder lies on another mount than this one
abbrev pub LiesApart : FileSystem → Route → Route → Type 0
LiesApart s folder kept = (number : ℕ) × IsMountOf s folder number × (IsMountOf s kept number → ⊥)

-- a folder lies on another mount than this one, and than each on the way to it
abbrev pub LiesOff : FileSystem → Route → Route → Type 0
LiesOff s [] kept = LiesApart s [] kept
LiesOff s (name ∷ up) kept = LiesApart s (name ∷ up) kept × LiesOff s up kept
