use Rattle.std.proofs.Common.{◌≡◌, ◌+◌, ◌∷◌, [], drop, ap, ◌∙◌, arith}
use Rattle.std.proofs.lemmas.Grind.{common_steps}
use Rattle.hotlist.specs.HotLists.{list_of}
use Rattle.hotlist.proofs.PlaceLemmas.{from_position-drop}
use Rattle.hotlist.proofs.places.item_of.Goals as goal

pub returns-in-Some : goal.returns-in-Some
returns-in-Some c =
    let here : drop c.args.position c.args.items.now ≡ c.in-Some.item.now ∷ drop (c.args.position + 1) c.args.items.now =
    grind (arith, common_steps, c.in-Some.ensures.lookup) in
    (list_of (drop (c.args.position + 1) c.args.items.now), from_position-drop c.args.position c.args.items.now ∙ ap list_of here)

pub returns-in-None : goal.returns-in-None
returns-in-None c =
    let past : drop c.args.position c.args.items.now ≡ [] = grind (arith, common_steps, c.in-None.ensures.lookup) in
    from_position-drop c.args.position c.args.items.now ∙ ap list_of past
