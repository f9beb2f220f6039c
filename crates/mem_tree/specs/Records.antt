-- What the records of a tree in memory stand for.
use Rattle.std.specs.Prelude.{List, map}
use Rattle.tree_trait.specs.declared.file_system.FileSystem.{FileSystem}
use Rattle.tree_trait.specs.Change.{Change, Nothing, Makes, Moves, Removes}
use Rattle.tree_trait.specs.Change.{Sets, Writes, Syncs, after_changes}
use Rattle.mem_tree.specs.declared.record.Record.{Record}
use Rattle.mem_tree.specs.declared.record.Record.TheVariants.{Idle, Make, Move, Unlink, SetMode, Write, Flush}

-- the change that a record stands for
abbrev pub change_by : Record → Change
change_by Idle = Nothing
change_by (Make folder name made) = Makes folder name made
change_by (Move from old to new moved replaced) = Moves from old to new moved replaced
change_by (Unlink folder name node) = Removes folder name node
change_by (SetMode node mode) = Sets node mode
change_by (Write node bytes mtime) = Writes node bytes mtime
change_by (Flush node) = Syncs node

abbrev pub changes_by : List Record → List Change
changes_by records = map change_by records

-- the file system after the records
abbrev pub after : FileSystem → List Record → FileSystem
after s records = after_changes s (changes_by records)
