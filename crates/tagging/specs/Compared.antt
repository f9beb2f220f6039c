-- The quick comparison of two folders (mc(1), "Compare directories": quick; that an older file
-- isn't given is our own).
use Rattle.std.specs.Prelude.{ℕ, Bool, true, ◌||◌, ◌&&◌, not, nat_eq, int_lt, if◌then◌else◌}
use Rattle.std.specs.Prelude.{List, [], ◌∷◌, map, filter, Option, Some, None}
use Rattle.std.specs.Ordering.{int_eq}
use Rattle.std.specs.Str.{bytes_eq}
use Rattle.tagging.specs.declared.compare.FileFact.{FileFact}
use Rattle.tagging.specs.declared.compare.Stamp.{Stamp}

-- size and time of a file
abbrev pub stamp_in : FileFact → Stamp
stamp_in fact = record { size = fact.size; mtime = fact.mtime }

-- the first, or else the second
abbrev pub or_else : Option Stamp → Option Stamp → Option Stamp
or_else (Some stamp) other = Some stamp
or_else None other = other

-- size and time of the last file of that name
abbrev pub stamp_of : List FileFact → List ℕ → Option Stamp
stamp_of [] name = None
stamp_of (fact ∷ facts) name =
    or_else (stamp_of facts name) (if bytes_eq fact.name name then Some (stamp_in fact) else None)

-- the other side has no such file, or an older one, or one as old of another size
abbrev pub differs : FileFact → Option Stamp → Bool
differs fact None = true
differs fact (Some stamp) =
    int_lt stamp.mtime fact.mtime || (int_eq fact.mtime stamp.mtime && not (nat_eq fact.size stamp.size))

-- the names of those files of one side
abbrev pub differing : List FileFact → List FileFact → List (List ℕ)
differing mine theirs =
    map (λ fact. fact.name) (filter (λ fact. differs fact (stamp_of theirs fact.name)) mine)
