-- The texts of causes by which a call or a path is refused, as they are shown and printed.
use Rattle.std.specs.Prelude.{ℕ, List, codes}
use Rattle.tree_trait.specs.declared.calls.TreeError.{TreeError}
use Rattle.tree_trait.specs.declared.calls.TreeError.TheVariants.{Missing, NotFolder, Denied, Exists}
use Rattle.tree_trait.specs.declared.calls.TreeError.TheVariants.{IsFolder, NotEmpty, IntoItself, Mounted}
use Rattle.tree_trait.specs.declared.calls.TreeError.TheVariants.{CrossMount, NoSpace, Special, Fault, Memory}
use Rattle.resolving.specs.declared.error.ResolveError.{ResolveError}
use Rattle.resolving.specs.declared.error.ResolveError.TheVariants as resolve
use Rattle.session_entries.specs.declared.refusal.TypedError.TheVariants.{BadName}
use Rattle.session_entries.specs.declared.refusal.Refusal.TheVariants.{Tree}

-- what is said of a refused call
abbrev pub cause_words : TreeError → List ℕ
cause_words Missing = codes "no such file or folder"
cause_words NotFolder = codes "not a folder"
cause_words Denied = codes "permission denied"
cause_words Exists = codes "already there"
cause_words IsFolder = codes "is a folder"
cause_words NotEmpty = codes "folder not empty"
cause_words IntoItself = codes "inside itself"
cause_words Mounted = codes "is a mount"
cause_words CrossMount = codes "other mount"
cause_words NoSpace = codes "no space left"
cause_words Special = codes "special file"
cause_words Fault = codes "device fault"
cause_words Memory = codes "out of memory"

-- what is said of a folder that can't be read, or to which no way leads
abbrev pub resolve_words : ResolveError → List ℕ
resolve_words (resolve.Tree path e) = cause_words e
resolve_words resolve.TooManyLinks = codes "too many links"
resolve_words resolve.TooLong = codes "path too long"
resolve_words resolve.BadName = codes "bad name"
resolve_words resolve.Fault = codes "device fault"
resolve_words resolve.Memory = codes "out of memory"
