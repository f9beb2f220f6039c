-- A kind and a mode in ten letters, as `ls -l` shows them (POSIX.1-2017, ls, STDOUT; the bits are those of
-- <sys/stat.h>, `?` for a kind that is no file, folder or link is our own).
use Rattle.std.specs.Prelude.{ℕ, Bool, not, ◌==◌, bit_and, List, [], ◌∷◌, if◌then◌else◌}
use Rattle.mc_text.specs.declared.kind.Kind.{Kind}
use Rattle.mc_text.specs.declared.kind.Kind.TheVariants.{File, Folder, Link, Other}

-- `-`, `d`, `l` or `?`
abbrev pub kind_letter : Kind → ℕ
kind_letter File = 45
kind_letter Folder = 100
kind_letter Link = 108
kind_letter Other = 63

-- a bit of a mode is set
abbrev pub has : ℕ → ℕ → Bool
has mode bit = not (bit_and mode bit == 0)

-- a letter where the bit is set, else `-`
abbrev pub letter : ℕ → ℕ → ℕ → ℕ
letter mode bit shown = if has mode bit then shown else 45

-- `x` or `-`; where the special bit is set, its small letter with the right to execute
-- and its large one without
abbrev pub last_letter : ℕ → ℕ → ℕ → ℕ → ℕ → ℕ
last_letter mode bit special small large =
    if has mode special then (if has mode bit then small else large) else letter mode bit 120

-- the kind, and `r`, `w` and the last letter of the owner, of the group (each with `s` or `S`)
-- and of others (`t` or `T`)
abbrev pub perm_text : Kind → ℕ → List ℕ
perm_text kind mode =
    kind_letter kind
    ∷ letter mode 0o400 114 ∷ letter mode 0o200 119 ∷ last_letter mode 0o100 0o4000 115 83
    ∷ letter mode 0o040 114 ∷ letter mode 0o020 119 ∷ last_letter mode 0o010 0o2000 115 83
    ∷ letter mode 0o004 114 ∷ letter mode 0o002 119 ∷ last_letter mode 0o001 0o1000 116 84
    ∷ []
