-- The names that were found stand next in their order.
use Rattle.std.proofs.Common.{◌≡◌, ◌∙◌, ap, map, filter, List, ℕ}
use Rattle.std.proofs.lemmas.Result.{IfOk-weaker}
use Rattle.tagging.specs.Patterns.{is_found}
use Rattle.panel_listing.specs.Arranging.{names_of, name_marks}
use Rattle.panel_listing.proofs.ArrangeLemmas.{marked-items}
use Rattle.panel_listing.proofs.arranging.found.Goals as goal

pub returns : goal.returns
returns c =
    let items = c.args.items.now in
    let some = c.as_slice.result.now in
    let passes = is_found c.args.pattern.now in
    let found : some ≡ filter passes (names_of items) =
    c.as_slice.ensures ∙ c.in_ok-found.ensures ∙ ap (λ (names : List (List ℕ)). filter passes names) c.in_ok-names.ensures in
    IfOk-weaker c.marked.result (λ marks. marks.items ≡ name_marks (names_of items) some) (λ marks. marks.items ≡ map (λ item. passes item.name) items)
    (λ marks is. is ∙ marked-items passes items some found) c.marked.ensures
