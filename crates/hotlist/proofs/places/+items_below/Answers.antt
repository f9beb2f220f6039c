use Rattle.std.proofs.Common.{rules, ◌≡◌, ◌∷◌, ap, ◌∙◌, sym, arith}
use Rattle.std.proofs.lemmas.Grind.{common_steps}
use Rattle.hotlist.specs.HotLists.{NoMore, list_of}
use Rattle.hotlist.specs.Places.{from_position, items_of_group}
use Rattle.hotlist.proofs.PlaceLemmas.{items_of_group-none}
use Rattle.hotlist.proofs.places.+items_below.Goals as goal

pub returns-in-None : goal.returns-in-None
returns-in-None t c =
    let place : c.args.place.now ≡ c.in-Some.position.now ∷ c.in-Some.below.now = grind (arith, common_steps, c.in-Some.ensures.cases) in
    let none : from_position c.in-Some.position.now (list_of c.args.items.now) ≡ NoMore = search rules in
    sym (ap (λ p. items_of_group p (list_of c.args.items.now)) place
    ∙ items_of_group-none c.in-Some.position.now c.in-Some.below.now (list_of c.args.items.now) none)
