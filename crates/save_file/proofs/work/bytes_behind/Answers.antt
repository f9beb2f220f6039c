-- The slice to the end is all that is left.
use Rattle.std.proofs.Common.{◌-◌, length, arith}
use Rattle.std.specs.Prelude.{drop}
use Rattle.std.proofs.lemmas.List.{length-drop, take_all}
use Rattle.save_file.proofs.work.bytes_behind.Goals as goal

pub returns : goal.returns
returns c =
    let left = length-drop c.args.done c.args.bytes.now in
    take_all (length c.args.bytes.now - c.args.done) (drop c.args.done c.args.bytes.now) (omega (arith, left))
