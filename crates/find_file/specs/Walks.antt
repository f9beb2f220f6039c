-- What is yet to come where a walk stands, and how many steps it has left at most.
use Rattle.std.specs.Prelude.{ℕ, zero, suc, ◌+◌, ◌-◌, ◌*◌, ◌^◌, List, [], ◌∷◌}
use Rattle.std.specs.Prelude.{◌++◌, length, flat_map, Option, Some, None}
use Rattle.mc_text.specs.Routes.{Route, spelled_route}
use Rattle.tree_trait.specs.declared.file_system.FileSystem.{FileSystem}
use Rattle.find_file.specs.declared.opened.Child.{Child}
use Rattle.find_file.specs.Folders.{OpenFolder}
use Rattle.find_file.specs.declared.walk.Task.{Task}
use Rattle.find_file.specs.declared.walk.Task.TheVariants.{Look, List as ListTask}
use Rattle.find_file.specs.declared.walk.Walk.{Walk}
use Rattle.find_file.specs.declared.finder.Finder.{Finder}
use Rattle.find_file.specs.declared.search.Search.{Search}
use Rattle.find_file.specs.declared.found.Found.{Found}
use Rattle.find_file.specs.FoundList.{Turn, look_turns, child, turns_below, told_in}

-- what a child is yet to bring
abbrev pub of_child : FileSystem → Search → Route → Child → List Turn
of_child s search folder c = child s search c.is_named c.name folder (turns_below s search (c.name ∷ folder))

-- what the children that are left are to bring
abbrev pub of_children : FileSystem → Search → Route → List Child → List Turn
of_children s search folder = flat_map (of_child s search folder)

abbrev pub of_folder : FileSystem → Search → OpenFolder → List Turn
of_folder s search folder = of_children s search folder.path folder.children

abbrev pub of_folders : FileSystem → Search → List OpenFolder → List Turn
of_folders s search = flat_map (of_folder s search)

-- what a task is to bring
abbrev pub of_task : FileSystem → Search → Option Task → List Turn
of_task s search None = []
of_task s search (Some (Look path is_named)) = look_turns s search is_named path (turns_below s search path)
of_task s search (Some (ListTask folder)) = turns_below s search folder

-- what is yet to come from where a walk stands: of its task, of the folder that is worked, of those around it
abbrev pub left_of : FileSystem → Search → Option Task → OpenFolder → List OpenFolder → List Turn
left_of s search task inner around =
    of_task s search task ++ (of_folder s search inner ++ of_folders s search around)

abbrev pub left_in : FileSystem → Search → Walk → List Turn
left_in s search w = left_of s search w.task w.inner w.around.nearest

-- what is yet to come of a search, and what it is yet to find
abbrev pub yet_to_come : FileSystem → Finder → List Turn
yet_to_come s finder = left_in s finder.search finder.walk

abbrev pub yet_to_find : FileSystem → Finder → List Found
yet_to_find s finder = told_in (yet_to_come s finder)

-- How many steps are left at most. What lies below a folder isn't known before it is listed; but a
-- path that is a name longer has fewer bytes to go, and a folder has at most as many names as a
-- number of 64 bits counts.
abbrev pub bytes_left : Route → ℕ
bytes_left path = 4096 - length (spelled_route path)

-- the steps that a child takes at most with all below it, where its folder's path may be so many bytes longer
abbrev pub weight : ℕ → ℕ
weight zero = 1
weight (suc left) = 4 + 2 ^ 64 * weight left

abbrev pub rank_of_task : Option Task → ℕ
rank_of_task None = 0
rank_of_task (Some (Look path is_named)) = 3 + 2 ^ 64 * weight (bytes_left path)
rank_of_task (Some (ListTask folder)) = 2 + 2 ^ 64 * weight (bytes_left folder)

abbrev pub rank_of_folder : OpenFolder → ℕ
rank_of_folder folder = 1 + length folder.children * weight (bytes_left folder.path)

abbrev pub rank_of_folders : List OpenFolder → ℕ
rank_of_folders [] = 0
rank_of_folders (folder ∷ around) = rank_of_folder folder + rank_of_folders around

abbrev pub rank_of : Option Task → OpenFolder → List OpenFolder → ℕ
rank_of task inner around = rank_of_task task + (rank_of_folder inner + rank_of_folders around)

abbrev pub rank : Walk → ℕ
rank w = rank_of w.task w.inner w.around.nearest

-- How many steps a search has left at most: each leaves fewer, but for those that tell the
-- end (`IsStep`: `falls`).
abbrev pub steps_left : Finder → ℕ
steps_left finder = rank finder.walk
