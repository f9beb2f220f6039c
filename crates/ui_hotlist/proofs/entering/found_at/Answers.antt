use Rattle.std.proofs.Common.{◌≡◌, ◌+◌, ◌∷◌, [], drop, ap, ◌∙◌, sym, arith}
use Rattle.std.proofs.lemmas.Grind.{common_steps}
use Rattle.std.proofs.lemmas.Result.{IfOk-weaker}
use Rattle.hotlist.specs.HotLists.{HotList, before, list_of}
use Rattle.hotlist.specs.Places.{from_position}
use Rattle.hotlist.proofs.PlaceLemmas.{from_position-drop}
use Rattle.ui_hotlist.specs.HotlistBoxes.{found_first}
use Rattle.ui_hotlist.proofs.entering.found_at.Goals as goal

pub returns-in-Some : goal.returns-in-Some
returns-in-Some c =
    let others = list_of (drop (c.args.position + 1) c.args.items.now) in
    let next : drop c.args.position c.args.items.now ≡ c.in-Some.item.now ∷ drop (c.args.position + 1) c.args.items.now =
    grind (arith, common_steps, c.in-Some.ensures.lookup) in
    let first : from_position c.args.position (list_of c.args.items.now) ≡ before c.in-Some.item.now others =
    from_position-drop c.args.position c.args.items.now ∙ ap list_of next in
    IfOk-weaker c.found_in.result (λ found. (others : HotList) → found ≡ found_first (before c.in-Some.item.now others))
    (λ found. found ≡ found_first (from_position c.args.position (list_of c.args.items.now)))
    (λ found is. is others ∙ ap found_first (sym first)) c.found_in.ensures

pub returns-in-None : goal.returns-in-None
returns-in-None c =
    let past : drop c.args.position c.args.items.now ≡ [] = grind (arith, common_steps, c.in-None.ensures.lookup) in
    ap found_first (sym (from_position-drop c.args.position c.args.items.now ∙ ap list_of past))
