-- What the kinds of the system's errors mean for a tree (POSIX.1-2017, 2.3 Error Numbers, by
-- Linux's names in `errno.h`).
use Rattle.std.specs.declared.io.ErrorKind.{ErrorKind}
use Rattle.std.specs.declared.io.ErrorKind.TheVariants.{NotFound, NotADirectory, PermissionDenied}
use Rattle.std.specs.declared.io.ErrorKind.TheVariants.{ReadOnlyFilesystem, AlreadyExists, IsADirectory}
use Rattle.std.specs.declared.io.ErrorKind.TheVariants.{DirectoryNotEmpty, ResourceBusy, CrossesDevices}
use Rattle.std.specs.declared.io.ErrorKind.TheVariants.{StorageFull, QuotaExceeded, OutOfMemory, InvalidInput}
use Rattle.tree_trait.specs.declared.calls.TreeError.{TreeError}
use Rattle.tree_trait.specs.declared.calls.TreeError.TheVariants.{Missing, NotFolder, Denied, Exists}
use Rattle.tree_trait.specs.declared.calls.TreeError.TheVariants.{IsFolder, NotEmpty, Mounted, CrossMount}
use Rattle.tree_trait.specs.declared.calls.TreeError.TheVariants.{NoSpace, IntoItself, Fault, Memory}

-- a kind that has no name here is a fault
abbrev pub cause_of_kind : ErrorKind → TreeError
cause_of_kind NotFound = Missing
cause_of_kind NotADirectory = NotFolder
cause_of_kind PermissionDenied = Denied
cause_of_kind ReadOnlyFilesystem = Denied
cause_of_kind AlreadyExists = Exists
cause_of_kind IsADirectory = IsFolder
cause_of_kind DirectoryNotEmpty = NotEmpty
cause_of_kind ResourceBusy = Mounted
cause_of_kind CrossesDevices = CrossMount
cause_of_kind StorageFull = NoSpace
cause_of_kind QuotaExceeded = NoSpace
cause_of_kind OutOfMemory = Memory
cause_of_kind _ = Fault

-- of `rename` and `rmdir`: a folder that was to go into itself (EINVAL), and one with
-- entries (EEXIST or ENOTEMPTY)
abbrev pub naming_cause_of_kind : ErrorKind → TreeError
naming_cause_of_kind InvalidInput = IntoItself
naming_cause_of_kind AlreadyExists = NotEmpty
naming_cause_of_kind kind = cause_of_kind kind
