-- Behind plain characters that have room the row goes on.
use Rattle.std.proofs.Common.{◌≡◌, ◌<◌, ℕ, get_or, true, inl, inr, sym, ◌∙◌, arith}
use Rattle.std.proofs.lemmas.Bool.{OnTrue_at, OnTrue_from}
use Rattle.mc_viewer.specs.Units.{is_plain}
use Rattle.mc_viewer.proofs.NearLemmas.{all_plain, plain_front}
use Rattle.mc_viewer.proofs.above.reaches.Goals as goal

pub returns-then-bytes-count-eq10 : goal.returns-then-bytes-count-eq10
returns-then-bytes-count-eq10 c = λ more is.
    let bytes = c.args.bytes.now in
    plain_front c.args.columns c.args.count bytes more is c.requires
    (all_plain c.args.count bytes c.front.result.now c.front.ensures (omega arith) (OnTrue_at c.if-not-are_plain.false c.are_plain.ensures))
    (inl c.if-bytes-count-eq10.true) (omega arith)

pub returns-then-count-columns-2 : goal.returns-then-count-columns-2
returns-then-count-columns-2 c = OnTrue_from c.is_plain.result _ (λ plain more is.
    let bytes = c.args.bytes.now in
    let last : is_plain (get_or bytes c.args.count 0) ≡ true = sym c.is_plain.ensures ∙ plain in
    plain_front c.args.columns c.args.count bytes more is c.requires
    (all_plain c.args.count bytes c.front.result.now c.front.ensures (omega arith) (OnTrue_at c.if-not-are_plain.false c.are_plain.ensures))
    (inr (last, omega arith)) (omega arith))
