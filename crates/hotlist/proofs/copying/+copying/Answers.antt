use Rattle.std.proofs.Common.{◌≡◌, ◌+◌, ◌++◌, ◌∷◌, [], take, ap, ◌∙◌, sym, arith}
use Rattle.std.proofs.lemmas.Grind.{common_steps}
use Rattle.hotlist.specs.HotLists.{list_of}
use Rattle.hotlist.proofs.EditLemmas.{pushed-same}
use Rattle.hotlist.proofs.copying.+copying.Goals as goal

pub copy_items-loop-item-preserved : goal.copy_items-loop-item-preserved
copy_items-loop-item-preserved t c =
    let next : take (c.loop-item.item-index + 1) c.args.items.now ≡ take c.loop-item.item-index c.args.items.now ++ c.item-item.result ∷ [] =
    grind (arith, common_steps, c.item-item.is) in
    ap list_of c.in_ok-push.ensures.items
    ∙ pushed-same c.loop-item.copies.items (take c.loop-item.item-index c.args.items.now) c.in_ok-copy_item.field-0 c.item-item.result
    c.loop-item.invariant c.in_ok-copy_item.ensures
    ∙ ap list_of (sym next)
