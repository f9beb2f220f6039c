use Rattle.std.proofs.Common.{ap, ◌∙◌, sym, take, not, if◌then◌else◌, ◌≡◌}
use Rattle.std.specs.FinSet.{contains, insert, remove}
use Rattle.tagging.specs.TagSets.{names_in, inverted_tags}
use Rattle.tagging.proofs.SetLemmas.{inverted-nil, inverted-push}
use Rattle.tagging.proofs.KeepLemmas.{take_one_more}
use Rattle.tagging.proofs.tags.Tags.invert.Goals as goal

pub loop-name-init : goal.loop-name-init
loop-name-init c = inverted-nil c.in_ok-after.after

pub loop-name-preserved : goal.loop-name-preserved
loop-name-preserved c =
    let more = take_one_more c.as_slice-name-items.result.now c.loop-name.name-index c.name-item.result c.loop-name-test.true c.name-item.is in
    let had : c.has.result ≡ contains c.in_ok-after.after c.name-item.result =
    c.has.ensures ∙ ap (contains c.args.self.now) c.text.ensures.text ∙ ap (λ tags. contains tags c.name-item.result) (sym c.in_ok-after.ensures) in
    c.in_ok-set.ensures.done
    ∙ ap (λ had. if not had then insert c.loop-name.after c.name-item.result else remove c.loop-name.after c.name-item.result) had
    ∙ ap (λ tags. if not (contains c.in_ok-after.after c.name-item.result) then insert tags c.name-item.result else remove tags c.name-item.result) c.loop-name.invariant
    ∙ inverted-push c.in_ok-after.after (take c.loop-name.name-index c.as_slice-name-items.result.now) c.name-item.result
    ∙ ap (λ names. inverted_tags c.in_ok-after.after (names_in names)) (sym more)
