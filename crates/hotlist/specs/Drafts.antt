-- What a draft has read so far. A draft keeps the groups that are unclosed, so at most 32 are.
use Rattle.std.specs.Prelude.{ℕ, ◌-◌, List, [], ◌∷◌, ◌++◌, length, map, reverse, Option, option_map}
use Rattle.std.specs.List.{flat_map}
use Rattle.hotlist.specs.declared.draft.Draft.{Draft}
use Rattle.hotlist.specs.declared.draft.OpenGroup.{OpenGroup}
use Rattle.hotlist.specs.HotLists.{list_of}
use Rattle.hotlist.specs.HotLines.{ParsedLine, GroupLine}
use Rattle.hotlist.specs.HotFiles.{lines_that_say}

-- the lines up to the begin of a group, from the begin of the one around it
abbrev pub lines_to_group : OpenGroup → List ParsedLine
lines_to_group group = lines_that_say (list_of group.items_before.items) ++ GroupLine group.label ∷ []

-- the lines so far
abbrev pub said_so_far : Draft → List ParsedLine
said_so_far draft = flat_map lines_to_group draft.groups.items ++ lines_that_say (list_of draft.items.items)

-- how many groups may be opened yet
abbrev pub room_in : Draft → ℕ
room_in draft = 32 - length draft.groups.items

-- the lines of the groups that are unclosed, the innermost first
abbrev pub unclosed_in : Draft → List ℕ
unclosed_in draft = reverse (map (λ (group : OpenGroup). group.line) draft.groups.items)

-- lines that were said before those that others say
abbrev pub with_said : List ParsedLine → Option (List ParsedLine) → Option (List ParsedLine)
with_said prefix others = option_map (λ lines. prefix ++ lines) others
