-- The item under the number of the row.
use Rattle.std.proofs.Common.{◌≡◌, ◌∙◌, ◌<◌, Some, None, [], ap, sym, subst, length, slice_index_or, arith}
use Rattle.std.proofs.lemmas.List.{get_or_default}
use Rattle.panel_listing.specs.Items.{unseen_item}
use Rattle.panel_listing.specs.Listings.{rows_in, place_of}
use Rattle.panel_listing.proofs.RowLemmas.{row-there, row-past}
use Rattle.panel_listing.proofs.listing.Listing.item.Goals as goal

pub index-requires : goal.index-requires
index-requires c =
    let here = c.in-Some.ensures in
    let within : c.in-Some.number < length c.self.inside.items.items =
    subst (λ n. n < length c.self.inside.items.items) here.1 (c.self.invariant.within c.in_ok-place.place c.in-Some.number here.0) in
    omega (arith, within)

pub returns-in-Some : goal.returns-in-Some
returns-in-Some c =
    let above = c.self.inside.has_parent in
    let items = c.self.inside.items.items in
    let numbers = c.self.inside.shown in
    let place = c.in_ok-place.place in
    let number = c.in-Some.number in
    let item = c.index.result.now in
    let here = c.in-Some.ensures in
    let there : place_of above c.args.row ≡ Some place = sym c.in_ok-place.ensures in
    let within : number < length items = subst (λ n. n < length items) here.1 (c.self.invariant.within place number here.0) in
    ap Some (c.index.ensures ∙ get_or_default items number item (unseen_item []) within ∙ ap (λ n. slice_index_or items n (unseen_item [])) (sym here.1))
    ∙ sym (row-there above items numbers c.args.row place number there here.0)
    ∙ ap (λ listing. slice_index_or (rows_in listing) c.args.row None) c.self.view_is

pub returns-in-None : goal.returns-in-None
returns-in-None c =
    let there : place_of c.self.inside.has_parent c.args.row ≡ Some c.in_ok-place.place = sym c.in_ok-place.ensures in
    sym (row-past c.self.inside.has_parent c.self.inside.items.items c.self.inside.shown c.args.row c.in_ok-place.place there c.in-None.ensures)
    ∙ ap (λ listing. slice_index_or (rows_in listing) c.args.row None) c.self.view_is
