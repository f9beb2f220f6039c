-- Where the bytes begin with the front, the back must go on with what is left of them.
use Rattle.std.proofs.Common.{sym, ap, ◌∙◌, nat_eq, length}
use Rattle.std.specs.List.{starts_with}
use Rattle.std.proofs.lemmas.List.{take_rest}
use Rattle.gap_text.proofs.PlaceLemmas.{starts_over-then, starts_over-else}
use Rattle.gap_text.proofs.places.stands_over.Goals as goal

pub returns-then-starts_with : goal.returns-then-starts_with
returns-then-starts_with c =
    let front = c.args.front.now in
    let bytes = c.args.bytes.now in
    c.starts_with-then-starts_with.ensures.value
    ∙ ap (λ l. starts_with nat_eq c.args.back.now l) (take_rest bytes (length front))
    ∙ starts_over-then front c.args.back.now bytes (sym c.starts_with.ensures.value ∙ c.if-starts_with.true)

pub returns-else-starts_with : goal.returns-else-starts_with
returns-else-starts_with c =
    c.if-starts_with.false
    ∙ starts_over-else c.args.front.now c.args.back.now c.args.bytes.now c.requires (sym c.starts_with.ensures.value ∙ c.if-starts_with.false)
