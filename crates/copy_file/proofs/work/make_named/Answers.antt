-- A part's mode has twelve bits.
use Rattle.copy_file.proofs.Placing.{part_mode-bits}
use Rattle.copy_file.proofs.work.make_named.Goals as goal

pub make_part-requires : goal.make_part-requires
make_part-requires g c = part_mode-bits c.args.facts.mode c.requires.mode
