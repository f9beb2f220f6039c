-- A folder's mode has twelve bits.
use Rattle.copy_folders.proofs.Stepping.{folder_mode-bits}
use Rattle.copy_folders.proofs.work.make.Goals as goal

pub make_folder-requires : goal.make_folder-requires
make_folder-requires g c = folder_mode-bits c.args.mode c.requires
