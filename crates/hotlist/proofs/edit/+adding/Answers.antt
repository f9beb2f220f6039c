use Rattle.std.proofs.Common.{◌≡◌, ◌≢◌, ◌<◌, ◌∷◌, Some, is_none, length, ap, ◌∙◌, sym, arith}
use Rattle.std.proofs.lemmas.Grind.{common_steps}
use Rattle.std.proofs.lemmas.Result.{on_ok_weaker, on_err_weaker, IfErr-weaker}
use Rattle.hotlist.specs.declared.error.HotEditError.TheVariants.{Memory}
use Rattle.hotlist.specs.declared.items.HotItem.{HotItem}
use Rattle.hotlist.specs.HotLists.{HotList, NoMore, before, list_of, is_within}
use Rattle.hotlist.specs.Places.{list_with_item, changed_at, fault_of}
use Rattle.hotlist.proofs.EditLemmas.{changed_at-past, changed_at-set, changed_at-is_none, list_of-set}
use Rattle.hotlist.proofs.edit.+adding.Goals as goal

pub add_in-returns-then-position-len-clause-refused : goal.add_in-returns-then-position-len-clause-refused
add_in-returns-then-position-len-clause-refused t c = λ _.
    let item = before c.args.item NoMore in
    let items = c.args.items.now.items in
    let fits = is_within c.args.levels item in
    let place : c.args.group.now ≡ c.in-Some.position.now ∷ c.in-Some.below.now = grind (arith, common_steps, c.in-Some.ensures.cases) in
    ap (λ p. fault_of (is_none (list_with_item p item (list_of items))) fits) place
    ∙ ap (λ list. fault_of (is_none list) fits) (changed_at-past c.in-Some.position.now (list_with_item c.in-Some.below.now item) items (grind (arith, common_steps)))

pub add_in-returns-else-position-len-clause-added : goal.add_in-returns-else-position-len-clause-added
add_in-returns-else-position-len-clause-added t c =
    let item = before c.args.item NoMore in
    let items = c.args.items.now.items in
    let place : c.args.group.now ≡ c.in-Some.position.now ∷ c.in-Some.below.now = grind (arith, common_steps, c.in-Some.ensures.cases) in
    let here : c.in-Some.position.now < length items = grind (arith, common_steps) in
    on_ok_weaker c.add_below.result (λ changes. ap (λ p. list_with_item p item (list_of items)) place
    ∙ changed_at-set c.in-Some.position.now (list_with_item c.in-Some.below.now item) items c.add_below.new.group c.index_mut.result.now here
    (λ others. ap (λ old. changed_at 0 (list_with_item c.in-Some.below.now item) (before old others)) (sym c.index_mut.ensures.value) ∙ changes others))
    c.add_below.ensures.added

pub add_in-returns-else-position-len-clause-same : goal.add_in-returns-else-position-len-clause-same
add_in-returns-else-position-len-clause-same t c =
    let items = c.args.items.now.items in
    let here : c.in-Some.position.now < length items = grind (arith, common_steps) in
    on_err_weaker c.add_below.result (λ same. list_of-set c.in-Some.position.now items c.add_below.new.group c.index_mut.result.now here
    (λ others. same others ∙ ap (λ old. before old others) c.index_mut.ensures.value))
    c.add_below.ensures.same

pub add_in-returns-else-position-len-clause-refused : goal.add_in-returns-else-position-len-clause-refused
add_in-returns-else-position-len-clause-refused t c =
    let item = before c.args.item NoMore in
    let items = c.args.items.now.items in
    let fits = is_within c.args.levels item in
    let change = list_with_item c.in-Some.below.now item in
    let position = c.in-Some.position.now in
    let place : c.args.group.now ≡ position ∷ c.in-Some.below.now = grind (arith, common_steps, c.in-Some.ensures.cases) in
    let here : position < length items = grind (arith, common_steps) in
    let first = λ (old : HotItem). fault_of (is_none (changed_at 0 change (before old NoMore))) fits in
    IfErr-weaker c.add_below.result
    (λ e. e ≢ Memory → (others : HotList) → fault_of (is_none (changed_at 0 change (before c.index_mut.result.now others))) fits ≡ Some e)
    (λ e. e ≢ Memory → fault_of (is_none (list_with_item c.args.group.now item (list_of items))) fits ≡ Some e)
    (λ e fault is. ap (λ p. fault_of (is_none (list_with_item p item (list_of items))) fits) place
    ∙ ap (λ missing. fault_of missing fits) (changed_at-is_none position change items c.index_mut.result.now NoMore here)
    ∙ ap first (sym c.index_mut.ensures.value)
    ∙ fault is NoMore)
    c.add_below.ensures.refused
