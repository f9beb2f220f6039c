-- The changing calls as contracts see them.
use Rattle.tree_trait.specs.Calls.{Call, MakeFile, WriteAt, SetMode, MakeFolder, MakeLink, Rename}
use Rattle.tree_trait.specs.Calls.{RemoveFile, RemoveFolder, SyncFile, SyncFolder}
use Rattle.tree_trait.specs.declared.changing.ChangingCall.{ChangingCall}
use Rattle.tree_trait.specs.declared.changing.ChangingCall.TheVariants as given

-- the call of these arguments
abbrev pub call_of : ChangingCall → Call
call_of (given.MakeFile path mode) = MakeFile path.now mode
call_of (given.WriteAt path offset bytes) = WriteAt path.now offset bytes.now
call_of (given.SetMode path mode) = SetMode path.now mode
call_of (given.MakeFolder path mode) = MakeFolder path.now mode
call_of (given.MakeLink path text) = MakeLink path.now text.now
call_of (given.Rename from to) = Rename from.now to.now
call_of (given.RemoveFile path) = RemoveFile path.now
call_of (given.RemoveFolder path) = RemoveFolder path.now
call_of (given.SyncFile path) = SyncFile path.now
call_of (given.SyncFolder path) = SyncFolder path.now
