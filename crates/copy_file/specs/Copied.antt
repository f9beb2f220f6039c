-- What a copy of a file has.
use Rattle.tree_trait.specs.FileSystem.{Value}

-- what a copy of a file shows: all that the file does. Only a folder holds names that are no UTF-8.
abbrev pub copied_value : Value → Value
copied_value v = record v { unnamed = 0 }
