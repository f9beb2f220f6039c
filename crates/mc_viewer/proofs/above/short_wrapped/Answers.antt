-- The line begins there, and its first row reaches over the byte.
use Rattle.std.proofs.Common.{◌≡◌, ◌+◌, drop, sym, ap, ◌∙◌, subst}
use Rattle.std.proofs.lemmas.Bool.{OnTrue_at}
use Rattle.mc_viewer.specs.Windows.{IsPieceAt}
use Rattle.mc_viewer.proofs.NearLemmas.{rest_kept, line_holds}
use Rattle.mc_viewer.proofs.above.short_wrapped.Goals as goal

pub returns-then-reaches : goal.returns-then-reaches
returns-then-reaches c = λ bytes piece_is inside.
    let near = c.args.near.now in
    let first = c.in-Some.line.first in
    let start = near.start + first in
    let rest_is : c.rest_from-rest.result.now ≡ drop first near.bytes.items = c.rest_from-rest.ensures ∙ ap (drop first) c.as_slice.ensures.value in
    let rest = subst (IsPieceAt bytes start) (sym rest_is) (rest_kept bytes near.bytes.items near.start first piece_is) in
    line_holds c.args.columns start c.in-Some.line.count c.args.byte bytes (c.in-Some.ensures.line bytes piece_is) c.in-Some.ensures.place inside
    (OnTrue_at c.if-reaches.true c.reaches.ensures (drop start bytes) rest)
