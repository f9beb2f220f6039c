-- The sort moves the shown items, and the numbers are theirs.
use Rattle.std.proofs.Common.{◌≡◌, ◌<◌, ◌∙◌, ℕ, List, ap, sym, subst, map, length}
use Rattle.std.specs.Prelude.{All}
use Rattle.panel_listing.specs.Orders.{AreArranged}
use Rattle.panel_listing.specs.Arranging.{items_at}
use Rattle.panel_listing.specs.declared.arranging.Numbered.{Numbered}
use Rattle.panel_listing.proofs.ArrangeLemmas.{numbers-within, numbers-arranged}
use Rattle.panel_listing.proofs.arranging.arranged.Goals as goal

pub returns-clause-within : goal.returns-clause-within
returns-clause-within c =
    let items = c.args.items.now in
    let sorted = c.sort_rows.new.rows.items in
    let numbers_are : c.in_ok-numbers.numbers ≡ map (λ row. row.number) sorted =
    c.in_ok-numbers.ensures ∙ ap (map (λ (row : Numbered). row.number)) c.as_slice.ensures.value in
    subst (λ (numbers : List ℕ). All (λ number. number < length items) numbers) (sym numbers_are)
    (numbers-within c.args.wish.now items c.in_ok-rows.rows.items sorted c.in_ok-rows.ensures.numbered c.in_ok-sort_rows.ensures.kept)

pub returns-clause-arranged : goal.returns-clause-arranged
returns-clause-arranged c =
    let items = c.args.items.now in
    let wish = c.args.wish.now in
    let sorted = c.sort_rows.new.rows.items in
    let numbers_are : c.in_ok-numbers.numbers ≡ map (λ row. row.number) sorted =
    c.in_ok-numbers.ensures ∙ ap (map (λ (row : Numbered). row.number)) c.as_slice.ensures.value in
    subst (λ (numbers : List ℕ). AreArranged wish items (items_at items numbers)) (sym numbers_are)
    (numbers-arranged wish items c.in_ok-rows.rows.items sorted c.in_ok-rows.ensures.numbered c.in_ok-sort_rows.ensures.kept c.requires
    c.in_ok-rows.ensures.shown c.in_ok-sort_rows.ensures.ordered)
