use Rattle.std.proofs.Common.{ap, ◌∙◌, sym, take}
use Rattle.std.specs.FinSet.{union, insert}
use Rattle.tagging.specs.TagSets.{names_in}
use Rattle.tagging.proofs.SetLemmas.{union-nil, union-push}
use Rattle.tagging.proofs.KeepLemmas.{take_one_more}
use Rattle.tagging.proofs.tags.Tags.select.Goals as goal

pub loop-name-init : goal.loop-name-init
loop-name-init c = union-nil c.in_ok-after.after

pub loop-name-preserved : goal.loop-name-preserved
loop-name-preserved c =
    let more = take_one_more c.as_slice-name-items.result.now c.loop-name.name-index c.name-item.result c.loop-name-test.true c.name-item.is in
    c.in_ok-insert.ensures.done
    ∙ ap (λ tags. insert tags c.name-item.result) c.loop-name.invariant
    ∙ union-push c.in_ok-after.after (take c.loop-name.name-index c.as_slice-name-items.result.now) c.name-item.result
    ∙ ap (λ names. union c.in_ok-after.after (names_in names)) (sym more)
