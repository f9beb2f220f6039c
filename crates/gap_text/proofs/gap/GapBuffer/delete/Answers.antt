-- The gap swallows the bytes after the point.
use Rattle.std.proofs.Common.{arith}
use Rattle.gap_text.proofs.GapLemmas.{deleted-around}
use Rattle.gap_text.proofs.gap.GapBuffer.delete.Goals as goal

pub returns : goal.returns
returns c =
    let around = deleted-around c.self.inside.room.items c.self.inside.gap_start c.self.inside.gap_end (omega arith) in
    rw (← c.self.view_is) (around c.args.count)
