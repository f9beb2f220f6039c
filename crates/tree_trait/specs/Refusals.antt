-- Why a call is refused: the first of its checks that stands, after the walk to its path (POSIX.1-2017, 4.5
-- File Access Permissions for one user, and the ERRORS of stat, open, mkdir, rename, unlink, rmdir and
-- symlink; the order is own).
use Rattle.std.specs.Prelude.{ℕ, ◌+◌, ◌-◌, Bool, true, false, not, ◌&&◌, ◌||◌, ◌==◌, nat_lt}
use Rattle.std.specs.Prelude.{is_some, is_none, if◌then◌else◌, List, [], ◌∷◌, length, max}
use Rattle.std.specs.Prelude.{Option, Some, None, unwrap_or, Result, Ok, Err, bit_and, suc, zero}
use Rattle.std.specs.List.{list_any}
use Rattle.std.specs.Option.{option_map_or}
use Rattle.mc_text.specs.declared.kind.Kind.{Kind}
use Rattle.mc_text.specs.declared.kind.Kind.TheVariants.{File, Folder, Link, Other}
use Rattle.tree_trait.specs.declared.file_system.Node.{Node}
use Rattle.tree_trait.specs.declared.file_system.NameEdit.{NameEdit}
use Rattle.tree_trait.specs.declared.file_system.Mount.{Mount}
use Rattle.tree_trait.specs.declared.file_system.FileSystem.{FileSystem}
use Rattle.tree_trait.specs.Calls.{Call, Stat, ListFolder, ReadAt, ReadLink, MakeFile}
use Rattle.tree_trait.specs.Calls.{WriteAt, SetMode, MakeFolder, MakeLink, Rename}
use Rattle.tree_trait.specs.Calls.{RemoveFile, RemoveFolder, SyncFile, SyncFolder}
use Rattle.tree_trait.specs.declared.calls.TreeError.{TreeError}
use Rattle.tree_trait.specs.declared.calls.TreeError.TheVariants.{Missing, NotFolder, Denied, Exists}
use Rattle.tree_trait.specs.declared.calls.TreeError.TheVariants.{IsFolder, NotEmpty, IntoItself}
use Rattle.tree_trait.specs.declared.calls.TreeError.TheVariants.{Mounted, CrossMount, NoSpace, Special}
use Rattle.mc_text.specs.Routes.{Route, same_path, is_prefix}
use Rattle.tree_trait.specs.FileSystem.{lookup, find, node, starts_mount}

abbrev pub file_kind : Kind → Bool
file_kind File = true
file_kind Folder = false
file_kind Link = false
file_kind Other = false

abbrev pub folder_kind : Kind → Bool
folder_kind File = false
folder_kind Folder = true
folder_kind Link = false
folder_kind Other = false

abbrev pub link_kind : Kind → Bool
link_kind File = false
link_kind Folder = false
link_kind Link = true
link_kind Other = false

abbrev pub is_file : Node → Bool
is_file n = file_kind n.kind

abbrev pub is_folder : Node → Bool
is_folder n = folder_kind n.kind

abbrev pub is_link : Node → Bool
is_link n = link_kind n.kind

-- the owner's bit of a mode: 0o400, 0o200 or 0o100
abbrev pub lacks : ℕ → Node → Bool
lacks bit n = bit_and n.mode bit == 0

-- one step of a walk: the node has to be a folder and to permit the search, and the name an entry
abbrev pub step : FileSystem → List ℕ → ℕ → Result ℕ TreeError
step s name f =
    if not (is_folder (node s f)) then Err NotFolder else
    if lacks 0o100 (node s f) then Err Denied else
    elim (lookup s.names f name) [ None ↦ Err Missing | Some i ↦ Ok i ]

abbrev pub and_then : {A B : Type 0} → (A → Result B TreeError) → Result A TreeError → Result B TreeError
and_then next (Ok x) = next x
and_then next (Err e) = Err e

-- the node that a walk reaches
abbrev pub reached_node : FileSystem → Route → Result ℕ TreeError
reached_node s [] = Ok 0
reached_node s (name ∷ folder) = and_then (step s name) (reached_node s folder)

-- where a walk ends: the folder that holds the last name, if there is one, and what the name leads to
pub record Place : Type 0 where
  pub holder : Option ℕ
  pub there : Option ℕ

-- the last step: the name needs no entry
abbrev pub last_step : FileSystem → List ℕ → ℕ → Result Place TreeError
last_step s name f =
    if not (is_folder (node s f)) then Err NotFolder else
    if lacks 0o100 (node s f) then Err Denied else
    Ok (record { holder = Some f; there = lookup s.names f name })

abbrev pub walk : FileSystem → Route → Result Place TreeError
walk s [] = Ok (record { holder = None; there = Some 0 })
walk s (name ∷ folder) = and_then (last_step s name) (reached_node s folder)

-- the error of the first check that stands
abbrev pub first_of : List (Bool × TreeError) → Option TreeError
first_of [] = None
first_of (check ∷ checks) = if check.0 then Some check.1 else first_of checks

-- the walk, and then the checks
abbrev pub after_walk : FileSystem → Route → (Place → Option TreeError) → Option TreeError
after_walk s path checks = elim (walk s path) [ Err e ↦ Some e | Ok place ↦ checks place ]

abbrev pub thing : FileSystem → Place → Node
thing s place = node s (unwrap_or place.there (length s.nodes))

abbrev pub folder_of : FileSystem → Place → Node
folder_of s place = node s (unwrap_or place.holder (length s.nodes))

-- a name of this folder leads to a node
abbrev pub has_entries : FileSystem → ℕ → Bool
has_entries s f = list_any (λ e. (e.folder == f) && is_some (lookup s.names f e.name)) s.names

abbrev pub is_empty : FileSystem → Place → Bool
is_empty s place =
    not (has_entries s (unwrap_or place.there (length s.nodes))) && ((thing s place).unnamed == 0)

-- a mount begins where this walk ended
abbrev pub is_mount : FileSystem → Place → Bool
is_mount s place = starts_mount s (unwrap_or place.there (length s.nodes))

-- the node, if a mount begins there, and else what stands for the folder above it
abbrev pub mount_here : FileSystem → Option ℕ → ℕ → ℕ
mount_here s None above = above
mount_here s (Some i) above = if starts_mount s i then i else above

-- the folder of the mount on which a path lies: of the longest front of the path at which a mount begins
abbrev pub mount_of : FileSystem → Route → ℕ
mount_of s [] = 0
mount_of s (name ∷ folder) = mount_here s (find s (name ∷ folder)) (mount_of s folder)

-- the path of the folder that holds what stands at a path
abbrev pub holder : Route → Route
holder [] = []
holder (name ∷ folder) = folder

-- the folders that hold these two lie on one mount
abbrev pub same_mount : FileSystem → Route → Route → Bool
same_mount s from to = mount_of s (holder from) == mount_of s (holder to)

-- the folder whose name leads to a node
abbrev pub holder_in : List NameEdit → List NameEdit → ℕ → Option ℕ
holder_in names [] i = None
holder_in names (e ∷ older) i =
    if unwrap_or (lookup names e.folder e.name) 0 == i && is_some (lookup names e.folder e.name)
    then Some e.folder else holder_in names older i

-- a node lies on the mount of this folder: going up from it, this is the first folder at which a mount
-- begins. The number bounds how far.
abbrev pub lies_on : ℕ → FileSystem → ℕ → ℕ → Bool
lies_on zero s mount i = false
lies_on (suc height) s mount i =
    if starts_mount s i then i == mount
    else option_map_or (lies_on height s mount) (holder_in s.names s.names i) false

-- the bytes of those of the first nodes that are files and lie on a mount
abbrev pub used_by : ℕ → FileSystem → ℕ → ℕ
used_by zero s mount = 0
used_by (suc i) s mount =
    (if is_file (node s i) && lies_on (suc (length s.nodes)) s mount i then length (node s i).bytes else 0)
    + used_by i s mount

abbrev pub capacity_of : List Mount → ℕ → ℕ
capacity_of [] mount = 0
capacity_of (m ∷ mounts) mount = if m.folder == mount then m.capacity else capacity_of mounts mount

-- with the write the files of the mount would have more bytes than it can hold
abbrev pub no_room : FileSystem → Route → Place → ℕ → ℕ → Bool
no_room s path place offset count =
    let mount = mount_of s path in
    let size = length (thing s place).bytes in
    nat_lt (capacity_of s.mounts mount)
    ((used_by (length s.nodes) s mount + max size (offset + count)) - size)

-- the checks of `rename` once both walks are through
abbrev pub rename_refusal : FileSystem → Route → Route → Place → Place → Option TreeError
rename_refusal s from to a b =
    first_of ((is_none a.there, Missing) ∷ (is_mount s a || is_mount s b, Mounted) ∷ (
    if same_path from to then [] else
    (is_prefix from to, IntoItself)
    ∷ (not (same_mount s from to), CrossMount)
    ∷ (lacks 0o200 (folder_of s a) || lacks 0o200 (folder_of s b), Denied)
    ∷ (is_folder (thing s b) && not (is_folder (thing s a)), IsFolder)
    ∷ (is_some b.there && (is_folder (thing s a) && not (is_folder (thing s b))), NotFolder)
    ∷ (is_folder (thing s b) && not (is_empty s b), NotEmpty) ∷ []))

-- the checks of a call, in order, of what a walk came to
abbrev pub missing : Place → Bool × TreeError
missing p = (is_none p.there, Missing)

abbrev pub exists : Place → Bool × TreeError
exists p = (is_some p.there, Exists)

abbrev pub a_folder : FileSystem → Place → Bool × TreeError
a_folder s p = (is_folder (thing s p), IsFolder)

abbrev pub no_folder : FileSystem → Place → Bool × TreeError
no_folder s p = (not (is_folder (thing s p)), NotFolder)

abbrev pub a_special : FileSystem → Place → Bool × TreeError
a_special s p = (not (is_file (thing s p)) && not (is_folder (thing s p)), Special)

abbrev pub denied_access : ℕ → Node → Bool × TreeError
denied_access bit n = (lacks bit n, Denied)

-- the first check of a call that fails, or none
abbrev pub refusal_of : FileSystem → Call → Option TreeError
refusal_of s (Stat path) = after_walk s path (λ p. first_of (missing p ∷ []))
refusal_of s (ListFolder path) =
    after_walk s path (λ p. first_of (missing p ∷ no_folder s p ∷ denied_access 0o400 (thing s p) ∷ []))
refusal_of s (ReadAt path offset count) = after_walk s path (λ p.
    first_of (missing p ∷ a_folder s p ∷ a_special s p ∷ denied_access 0o400 (thing s p) ∷ []))
refusal_of s (ReadLink path) =
    after_walk s path (λ p. first_of (missing p ∷ (not (is_link (thing s p)), Special) ∷ []))
refusal_of s (MakeFile path mode) =
    after_walk s path (λ p. first_of (exists p ∷ denied_access 0o200 (folder_of s p) ∷ []))
refusal_of s (WriteAt path offset bytes) = after_walk s path (λ p. first_of (missing p ∷ a_folder s p ∷
    a_special s p ∷ denied_access 0o200 (thing s p) ∷ (no_room s path p offset (length bytes), NoSpace) ∷ []))
refusal_of s (SetMode path mode) = after_walk s path (λ p. first_of (missing p ∷ a_special s p ∷ []))
refusal_of s (MakeFolder path mode) =
    after_walk s path (λ p. first_of (exists p ∷ denied_access 0o200 (folder_of s p) ∷ []))
refusal_of s (MakeLink path text) =
    after_walk s path (λ p. first_of (exists p ∷ denied_access 0o200 (folder_of s p) ∷ []))
refusal_of s (Rename from to) = after_walk s from (λ a. after_walk s to (λ b. rename_refusal s from to a b))
refusal_of s (RemoveFile path) =
    after_walk s path (λ p. first_of (missing p ∷ a_folder s p ∷ denied_access 0o200 (folder_of s p) ∷ []))
refusal_of s (RemoveFolder path) = after_walk s path (λ p. first_of (missing p ∷ no_folder s p
    ∷ (is_mount s p, Mounted) ∷ (not (is_empty s p), NotEmpty) ∷ denied_access 0o200 (folder_of s p) ∷ []))
refusal_of s (SyncFile path) =
    after_walk s path (λ p. first_of (missing p ∷ a_folder s p ∷ a_special s p ∷ []))
refusal_of s (SyncFolder path) = after_walk s path (λ p. first_of (missing p ∷ no_folder s p ∷ []))
