-- Which modes let a thing be opened, and which bits of one are told (POSIX.1-2017, 4.5 File Access
-- Permissions, `S_IRUSR`; `<sys/stat.h>`, `S_ISUID`, `S_ISGID`).
use Rattle.std.specs.Prelude.{ℕ, Bool, true, false, ◌==◌, bit_and}

-- the owner may not read it
abbrev pub bars_owner : ℕ → Bool
bars_owner mode = bit_and mode 0o400 == 0

-- what is told of the system's mode: permissions and, where the thing lends its owner's rights, the
-- set-id bits
abbrev pub told_mode : Bool → ℕ → ℕ
told_mode true mode = bit_and mode 0o7777
told_mode false mode = bit_and mode 0o1777
