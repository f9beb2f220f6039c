-- In sight it is pushed, and else nothing is.
use Rattle.std.proofs.Common.{string_bytes, inl, inr, arith}
use Rattle.mc_viewer.proofs.PlainLemmas.{plain_pushed, plain_hidden}
use Rattle.mc_viewer.proofs.units.push_plain.Goals as goal

pub returns-then-column-sight : goal.returns-then-column-sight
returns-then-column-sight c =
    plain_hidden c.args.sight.left c.args.sight.right c.args.column c.args.byte (string_bytes c.args.row.now) c.requires.plain (inl (omega arith))

pub returns-then-column-sight-2 : goal.returns-then-column-sight-2
returns-then-column-sight-2 c =
    plain_hidden c.args.sight.left c.args.sight.right c.args.column c.args.byte (string_bytes c.args.row.now) c.requires.plain (inr (omega arith))

pub returns : goal.returns
returns c =
    plain_pushed c.args.sight.left c.args.sight.right c.args.column c.args.byte (string_bytes c.args.row.now) _ c.requires.plain (omega arith) (omega arith)
    c.in_ok-push.ensures.bytes
