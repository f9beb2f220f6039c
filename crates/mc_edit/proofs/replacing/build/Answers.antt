-- Each place leads the run on.
use Rattle.std.proofs.Common.{◌≡◌, ◌+◌, ◌++◌, ◌<◌, ℕ, List, length, slice_range, ap, ◌∙◌, arith}
use Rattle.memchr.specs.Find.{matches}
use Rattle.mc_edit.specs.Replacing.{replaced_run}
use Rattle.mc_edit.proofs.ReplacingLemmas.{run-next, run-over}
use Rattle.mc_edit.proofs.replacing.build.Goals as goal

pub loop-place-preserved : goal.loop-place-preserved
loop-place-preserved c =
    let text = c.args.text.now in
    let what = c.args.finder.now in
    let new = c.args.new.now in
    let from = c.loop-place.end in
    let at = c.in-Some.place in
    let so_far = c.loop-place.bytes.items in
    let some : 0 < length what = omega (arith, c.requires.width, c.requires.some) in
    let left = replaced_run text what new (at + length what) (matches text what (at + length what)) in
    let grown : c.extend_from_slice-in-Some.new.self.items ≡ (so_far ++ slice_range text from at) ++ new =
    c.in_ok-extend_from_slice-2.ensures.items ∙ ap (λ (l : List ℕ). l ++ new) c.in_ok-extend_from_slice.ensures.items in
    rw c.requires.width (
      c.in-Some.ensures.within,
      ap (λ (l : List ℕ). l ++ left) grown ∙ run-next text what some from new so_far at c.in-Some.ensures.place ∙ c.loop-place.invariant.1,
    )

pub returns : goal.returns
returns c =
    let some : 0 < length c.args.finder.now = omega (arith, c.requires.width, c.requires.some) in
    run-over c.args.text.now c.args.finder.now some c.loop-place.end c.args.new.now c.loop-place.bytes.items c.in_default.ensures.place
    ∙ c.loop-place.invariant.1
