-- A reading that is refused.
use Rattle.std.proofs.Common.{◌≡◌, length, ap, arith}
use Rattle.copy_file.specs.CopyCalls.{room_for}
use Rattle.copy_file.proofs.Peeking.{read_stops}
use Rattle.copy_file.proofs.chunk.next_bytes.Goals as goal

pub returns-in-Err-clause-known : goal.returns-in-Err-clause-known
returns-in-Err-clause-known g c = λ log known.
    let same = ap length c.as_mut_slice.ensures.value in
    let len = c.in-Ok.ensures.len in
    let room = c.min-room.ensures in
    let count : length c.as_mut_slice.result.now ≡ room_for c.args.facts c.args.done = omega (arith, same, len, room) in
    read_stops _ log c.source.result.now c.source-in-Err.result.now c.args.item.now.source c.args.facts c.args.done (length c.as_mut_slice.result.now) c.in-Err.error c.reading_trouble.result
    c.source.ensures c.source-in-Err.ensures count (c.in-Err.ensures.answer log known) c.reading_trouble.ensures
