-- The order of items is one, and what the last dot of a name leaves.
use Rattle.std.proofs.Common.{◌≡◌, ℕ, Bool, true, false, List, Option, Some, None, if◌then◌else◌, refl}
use Rattle.std.specs.Prelude.{unwrap_or}
use Rattle.std.specs.Cmp.{IsTotalOrder}
use Rattle.std.specs.declared.cmp.Ordering.{Ordering}
use Rattle.std.proofs.lemmas.Cmp.{nat_cmp_total, int_cmp_total, on_total, then_total, back_total, nat_list_cmp_total}
use Rattle.panel_listing.specs.Orders.{or_else, extension, key_cmp, order_cmp, group, item_cmp}
use Rattle.panel_listing.specs.declared.item.Item.{Item}
use Rattle.panel_listing.specs.declared.wish.Order.{Order}
use Rattle.panel_listing.specs.declared.wish.Order.TheVariants.{Name, Extension, Size, Time, Unsorted}
use Rattle.panel_listing.specs.declared.wish.Wish.{Wish}

-- a dot more, before what is left
pub dot_step : (later : Option (List ℕ)) (is_dot : Bool) (rest found : List ℕ)
    → unwrap_or (or_else later (if is_dot then Some rest else None)) found ≡ unwrap_or later (if is_dot then rest else found)
dot_step (Some text) is_dot rest found = refl
dot_step None true rest found = refl
dot_step None false rest found = refl

-- where all tie
level : IsTotalOrder (key_cmp Name)
level = on_total (λ (item : Item). 0) nat_cmp_total

key_total : (order : Order) → IsTotalOrder (key_cmp order)
key_total Name = level
key_total Extension = on_total (λ (item : Item). extension item.name) nat_list_cmp_total
key_total Size = on_total (λ (item : Item). item.size) nat_cmp_total
key_total Time = on_total (λ (item : Item). item.mtime) int_cmp_total
key_total Unsorted = level

order_total : (order : Order) → IsTotalOrder (order_cmp order)
order_total order = then_total (key_total order) (on_total (λ (item : Item). item.name) nat_list_cmp_total)

turned : {K : Type 0} (R : K → K → Ordering) (back : Bool) → IsTotalOrder R → IsTotalOrder (λ a b. if back then R b a else R a b)
turned R true total = back_total total
turned R false total = total

pub item_total : (wish : Wish) → IsTotalOrder (item_cmp wish)
item_total wish = then_total (on_total group nat_cmp_total) (turned (order_cmp wish.order) wish.reverse (order_total wish.order))
