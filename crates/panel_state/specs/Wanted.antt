-- Which of the shown items a key asks for (mc(1), "Select group", "Compare directories"; that a link to a
-- folder counts as no folder is our own).
use Rattle.std.specs.Prelude.{ℕ, Bool, not, if◌then◌else◌, List, [], ◌∷◌, map, filter, Option, Some, None}
use Rattle.std.specs.FinSet as set
use Rattle.tree_trait.specs.Refusals.{folder_kind}
use Rattle.tagging.specs.TagSets.{TagSet, names_in}
use Rattle.tagging.specs.declared.compare.FileFact.{FileFact}
use Rattle.panel_listing.specs.declared.item.Item.{Item}
use Rattle.panel_listing.specs.Listings.{Listed}
use Rattle.panel_state.specs.declared.wanted.Wanted.{Wanted}
use Rattle.panel_state.specs.declared.wanted.Wanted.TheVariants.{Files, Tagged}

-- all but folders, or the tagged ones
abbrev pub is_wanted : Wanted → TagSet → Item → Bool
is_wanted Files tags item = not (folder_kind item.kind)
is_wanted Tagged tags item = set.contains tags item.name

-- the item of a row, where it is wanted
abbrev pub more_wanted : (Item → Bool) → Option Item → List Item
more_wanted wants None = []
more_wanted wants (Some item) = if wants item then item ∷ [] else []

abbrev pub names_of : List Item → List (List ℕ)
names_of items = map (λ item. item.name) items

-- the names of the shown items that are wanted, in the order of their rows
abbrev pub wanted_names : Wanted → TagSet → Listed → List (List ℕ)
wanted_names wanted tags listing = names_of (filter (is_wanted wanted tags) listing.shown)

-- what an item is compared by
abbrev pub fact_of : Item → FileFact
fact_of item = record { name = item.name; size = item.size; mtime = item.mtime }

-- the files that are shown
abbrev pub files_shown : Listed → List FileFact
files_shown listing = map fact_of (filter (λ item. not (folder_kind item.kind)) listing.shown)

-- the tags of the names that are still in the folder
abbrev pub kept_tags : TagSet → List Item → TagSet
kept_tags tags items = names_in (filter (set.contains tags) (names_of items))
