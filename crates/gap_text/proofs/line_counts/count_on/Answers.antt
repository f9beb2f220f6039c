-- A block adds its newlines to those before it.
use Rattle.std.proofs.Common.{◌≡◌, ℕ, List, ◌+◌, ◌*◌, ◌≤◌, ◌/◌, [], ◌∷◌, length, take, arith, sym, ap, subst, ◌∙◌, length-append}
use Rattle.gap_text.specs.LineCounts.{newlines, seen_from, AreCounts}
use Rattle.gap_text.proofs.LineCountLemmas.{newlines-seen, length-seen, AreCounts-push}
use Rattle.gap_text.proofs.line_counts.count_on.Goals as goal

pub returns-in_default-clause-all : goal.returns-in_default-clause-all
returns-in_default-clause-all c =
    omega (
      arith,
      c.loop-block.invariant.2,
      c.seen_part.ensures.count,
      c.newlines-all.ensures.value,
      c.seen_part-in_default.ensures.count,
      c.newlines.ensures.value,
      newlines-seen c.args.side c.args.half.now,
    )

pub loop-block-preserved : goal.loop-block-preserved
loop-block-preserved c =
    let seen = seen_from c.args.side c.args.half.now in
    let counts = c.loop-block.counts.items in
    let kept = c.loop-block.invariant in
    let all = c.loop-block.all + c.newlines-all.result in
    let is_all : all ≡ newlines (take (65536 * (c.loop-block.block + 1)) seen) =
    omega (arith, kept.2, c.seen_part.ensures.count, c.newlines-all.ensures.value) in
    let long : 65536 * (length counts + 1) ≤ length seen =
    omega (arith, kept.1, c.loop-block-test.true, length-seen c.args.side c.args.half.now) in
    let pushed = AreCounts-push counts seen all kept.0 long (is_all ∙ ap (λ (n : ℕ). newlines (take (65536 * (n + 1)) seen)) (sym kept.1)) in (
      subst (λ (l : List ℕ). AreCounts l seen) (sym c.in-Ok.ensures.items) pushed,
      omega (arith, kept.1, ap length c.in-Ok.ensures.items, length-append counts (all ∷ [])),
      is_all,
      omega (arith, kept.3, c.newlines-all.ensures.small, c.seen_part.ensures.long),
    )

pub returns-clause-all : goal.returns-clause-all
returns-clause-all c =
    let half = c.args.half.now in
    let seen = seen_from c.args.side half in
    let kept = c.loop-block.invariant in
    let blocks : c.loop-block.block ≡ length half / 65536 =
    omega (arith, kept.0.fits, kept.1, c.loop-block-test.false, length-seen c.args.side half) in
    omega (
      arith,
      kept.2,
      ap (λ (n : ℕ). newlines (take (65536 * n) seen)) blocks,
      c.seen_part-2.ensures.count,
      c.newlines-2.ensures.value,
      newlines-seen c.args.side half,
    )
