-- The next bytes are those of the chunk.
use Rattle.std.proofs.Common.{◌≡◌, true}
use Rattle.save_file.proofs.Filling.{may_write, writes_on}
use Rattle.save_file.proofs.work.write.Goals as goal

pub fill_with-requires : goal.fill_with-requires
fill_with-requires g c = may_write c.args.copy.now c.args.bytes.now c.requires.own c.args.done c.requires.piece c.next_bytes.result.now c.next_bytes.ensures

pub returns : goal.returns
returns g c = λ free.
    writes_on c.args.copy.now c.args.bytes.now c.requires.own c.args.done c.requires.piece (λ path. free path ≡ true) c.next_bytes.result.now c.next_bytes.ensures c.fill_with.result.did
    c.fill_with.new.self c.fill_with.result.calls _ _ _ _ c.fill_with.ensures.stays c.fill_with.ensures.writes
