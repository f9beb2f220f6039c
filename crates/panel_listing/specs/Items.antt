-- What stands under a name of a folder, as a listing has it (stat, POSIX.1-2017; which links
-- lead to folders is our own).
use Rattle.std.specs.Prelude.{ℕ, Bool, true, false, ◌||◌, nat_lt, if◌then◌else◌, List}
use Rattle.std.specs.Prelude.{◌∷◌, length, pos, Option, Some, None, Result, Ok, Err}
use Rattle.mc_text.specs.declared.kind.Kind.{Kind}
use Rattle.mc_text.specs.declared.kind.Kind.TheVariants.{File, Folder, Link, Other}
use Rattle.mc_text.specs.Routes.{Route, spelled_route}
use Rattle.tree_trait.specs.declared.calls.TreeError.{TreeError}
use Rattle.tree_trait.specs.declared.file_system.Node.{Node}
use Rattle.tree_trait.specs.declared.file_system.FileSystem.{FileSystem}
use Rattle.tree_trait.specs.Calls.{Stat}
use Rattle.tree_trait.specs.FileSystem.{node}
use Rattle.tree_trait.specs.Refusals.{refusal_of, folder_kind}
use Rattle.tree_trait.specs.Change.{found_node}
use Rattle.resolving.specs.declared.error.ResolveError.{ResolveError}
use Rattle.resolving.specs.declared.walking.Wanted.TheVariants.{AnyThing}
use Rattle.resolving.specs.Resolution.{resolved_path}
use Rattle.panel_listing.specs.declared.item.LinkKind.{LinkKind}
use Rattle.panel_listing.specs.declared.item.LinkKind.TheVariants.{NotLink, ToFolder, ToThing, Stale}
use Rattle.panel_listing.specs.declared.item.Item.{Item}
use Rattle.panel_listing.specs.declared.looking.Seen.{Seen}

-- a link leads to a folder
abbrev pub is_to_folder : LinkKind → Bool
is_to_folder NotLink = false
is_to_folder ToFolder = true
is_to_folder ToThing = false
is_to_folder Stale = false

-- a folder, or a link to one
abbrev pub leads_to_folder : Item → Bool
leads_to_folder item = folder_kind item.kind || is_to_folder item.link

-- what a look at a node shows
abbrev pub seen_in : Node → Seen
seen_in thing =
    record { kind = thing.kind; size = length thing.bytes; mode = thing.mode; mtime = thing.mtime }

-- and that where the look isn't refused
abbrev pub seen_unless : Option TreeError → Node → Option Seen
seen_unless None thing = Some (seen_in thing)
seen_unless (Some e) thing = None

-- what a look at a path shows
abbrev pub seen_at : FileSystem → Route → Option Seen
seen_at s path = seen_unless (refusal_of s (Stat path)) (node s (found_node s path))

-- what a look at a folder's child shows, whose path has at most 4,096 bytes
abbrev pub child_seen : FileSystem → Route → List ℕ → Option Seen
child_seen s folder name =
    if nat_lt 4096 (length (spelled_route (name ∷ folder))) then None else seen_at s (name ∷ folder)

-- what stands at the end of a link, followed as far as it goes
abbrev pub target_seen : FileSystem → Result Route ResolveError → Option Seen
target_seen s (Ok path) = seen_at s path
target_seen s (Err e) = None

-- where a link leads whose target is seen so
abbrev pub link_to : Option Seen → LinkKind
link_to None = Stale
link_to (Some target) = if folder_kind target.kind then ToFolder else ToThing

-- where the thing of this kind leads, that stands under a name
abbrev pub link_of : FileSystem → Route → List ℕ → Kind → LinkKind
link_of s folder name Link = link_to (target_seen s (resolved_path s AnyThing folder name))
link_of s folder name File = NotLink
link_of s folder name Folder = NotLink
link_of s folder name Other = NotLink

-- the item of a child that can't be looked at
abbrev pub unseen_item : List ℕ → Item
unseen_item name = record { name = name; kind = Other; link = NotLink; size = 0; mode = 0; mtime = pos 0 }

-- the item of a child of which this is seen
abbrev pub item_of : List ℕ → (Kind → LinkKind) → Option Seen → Item
item_of name link None = unseen_item name
item_of name link (Some seen) =
    record {
      name = name;
      kind = seen.kind;
      link = link seen.kind;
      size = seen.size;
      mode = seen.mode;
      mtime = seen.mtime;
    }

-- the item of a folder's child
abbrev pub child_item : FileSystem → Route → List ℕ → Item
child_item s folder name = item_of name (link_of s folder name) (child_seen s folder name)
