use Rattle.std.proofs.Common.{◌≡◌, ◌∷◌, [], ◌<◌, length, ap, ◌∙◌, sym, arith}
use Rattle.std.proofs.lemmas.Grind.{common_steps}
use Rattle.std.proofs.lemmas.List.{nil_from_length}
use Rattle.hotlist.specs.HotLists.{list_of}
use Rattle.hotlist.specs.Places.{item_at, inside}
use Rattle.hotlist.proofs.PlaceLemmas.{item_at-none, item_at-here, item_at-below}
use Rattle.hotlist.proofs.places.+item_in.Goals as goal

pub returns-in_default-item_of : goal.returns-in_default-item_of
returns-in_default-item_of t c =
    let place : c.args.place.now ≡ c.in-Some.position.now ∷ c.in-Some.below.now = grind (arith, common_steps, c.in-Some.ensures.cases) in
    sym (ap (λ p. item_at p (list_of c.args.items.now)) place ∙ item_at-none c.in-Some.position.now c.in-Some.below.now (list_of c.args.items.now) c.in_default-item_of.ensures)

pub returns-then-is_empty : goal.returns-then-is_empty
returns-then-is_empty t c =
    let place : c.args.place.now ≡ c.in-Some.position.now ∷ c.in-Some.below.now = grind (arith, common_steps, c.in-Some.ensures.cases) in
    let alone : c.in-Some.below.now ≡ [] = nil_from_length _ (grind (arith, common_steps)) in
    let found = c.in-Some-item_of.ensures in
    sym (ap (λ p. item_at p (list_of c.args.items.now)) place
    ∙ ap (λ below. item_at (c.in-Some.position.now ∷ below) (list_of c.args.items.now)) alone
    ∙ item_at-here c.in-Some.position.now (list_of c.args.items.now) c.in-Some-item_of.item.now found.0 found.1)

pub returns : goal.returns
returns t c =
    let place : c.args.place.now ≡ c.in-Some.position.now ∷ c.in-Some.below.now = grind (arith, common_steps, c.in-Some.ensures.cases) in
    let more : 0 < length c.in-Some.below.now = grind (arith, common_steps) in
    let found = c.in-Some-item_of.ensures in
    c.item_in.ensures
    ∙ sym (ap (λ p. item_at p (list_of c.args.items.now)) place
    ∙ item_at-below c.in-Some.position.now c.in-Some.below.now (list_of c.args.items.now) (list_of c.items_in.result.now) more
    (ap inside found.1 ∙ c.items_in.ensures found.0))
