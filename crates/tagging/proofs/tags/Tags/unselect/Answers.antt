use Rattle.std.proofs.Common.{ap, ◌∙◌, sym, take}
use Rattle.std.specs.FinSet.{difference, remove}
use Rattle.tagging.specs.TagSets.{names_in}
use Rattle.tagging.proofs.SetLemmas.{difference-nil, difference-push}
use Rattle.tagging.proofs.KeepLemmas.{take_one_more}
use Rattle.tagging.proofs.tags.Tags.unselect.Goals as goal

pub loop-name-init : goal.loop-name-init
loop-name-init c = difference-nil c.args.self.now

pub loop-name-preserved : goal.loop-name-preserved
loop-name-preserved c =
    let more = take_one_more c.as_slice-name-items.result.now c.loop-name.name-index c.name-item.result c.loop-name-test.true c.name-item.is in
    c.remove.ensures
    ∙ ap (λ tags. remove tags c.name-item.result) c.loop-name.invariant
    ∙ difference-push c.args.self.now (take c.loop-name.name-index c.as_slice-name-items.result.now) c.name-item.result
    ∙ ap (λ names. difference c.args.self.now (names_in names)) (sym more)
