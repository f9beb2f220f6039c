-- Sets of tagged names (mc(1), "Directory Panels": tagging).
use Rattle.std.specs.Prelude.{ℕ, List, map, String, if◌then◌else◌}
use Rattle.std.specs.Ordering.{nat_cmp}
use Rattle.std.specs.Cmp.Lexicographic.{slice_cmp}
use Rattle.std.specs.BTreeSet.{BTreeSet, keys}
use Rattle.std.specs.String.{string_bytes}
use Rattle.std.specs.FinSet as set

abbrev pub TagSet : Type 0
TagSet = set.FinSet (slice_cmp nat_cmp)

-- the set of a list's names
abbrev pub names_in : List (List ℕ) → TagSet
names_in names = set.from_list names

-- the set of the names that a sorted set of texts keeps
abbrev pub tag_set : {A : Type 0} → BTreeSet (String A) → TagSet
tag_set texts = names_in (map string_bytes (keys texts))

-- one name with the other answer
abbrev pub toggled_tags : TagSet → List ℕ → TagSet
toggled_tags tags name = if set.contains tags name then set.remove tags name else set.insert tags name

-- each of these names with the other answer
abbrev pub inverted_tags : TagSet → TagSet → TagSet
inverted_tags tags names = set.union (set.difference tags names) (set.difference names tags)
