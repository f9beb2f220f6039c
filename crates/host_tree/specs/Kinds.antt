-- What a thing is, by its mode as the system has it (POSIX.1-2017, `<sys/stat.h>`, with Linux's numbers),
-- and which calls it refuses.
use Rattle.std.specs.Prelude.{ℕ, ◌==◌, if◌then◌else◌, bit_and, Option, None, Some}
use Rattle.mc_text.specs.declared.kind.Kind.{Kind}
use Rattle.mc_text.specs.declared.kind.Kind.TheVariants.{File, Folder, Link, Other}
use Rattle.tree_trait.specs.declared.calls.TreeError.{TreeError}
use Rattle.tree_trait.specs.declared.calls.TreeError.TheVariants.{IsFolder, NotFolder, Special}
use Rattle.host_tree.specs.declared.kinds.Wanted.{Wanted}

-- the kind by the bits of S_IFMT: S_IFREG, S_IFDIR or S_IFLNK
abbrev pub kind_of_bits : ℕ → Kind
kind_of_bits bits =
    if bits == 0o100000 then File else
    if bits == 0o040000 then Folder else
    if bits == 0o120000 then Link else Other

abbrev pub kind_of_mode : ℕ → Kind
kind_of_mode mode = kind_of_bits (bit_and mode 0o170000)

-- why a call that wants one kind of thing is refused where another stands (POSIX.1-2017, EISDIR, ENOTDIR
-- and EINVAL of open, opendir and readlink; a link and a special file are never opened)
abbrev pub refusal_of_kind : Wanted → Kind → Option TreeError
refusal_of_kind Wanted.File File = None
refusal_of_kind Wanted.File Folder = Some IsFolder
refusal_of_kind Wanted.File Link = Some Special
refusal_of_kind Wanted.File Other = Some Special
refusal_of_kind Wanted.Folder Folder = None
refusal_of_kind Wanted.Folder _ = Some NotFolder
refusal_of_kind Wanted.Link Link = None
refusal_of_kind Wanted.Link _ = Some Special
refusal_of_kind Wanted.Moded File = None
refusal_of_kind Wanted.Moded Folder = None
refusal_of_kind Wanted.Moded Link = Some Special
refusal_of_kind Wanted.Moded Other = Some Special
