-- Those of the first items that are shown, each under its number.
use Rattle.std.proofs.Common.{◌≡◌, map, filter, take}
use Rattle.std.specs.Prelude.{All}
use Rattle.panel_listing.specs.Orders.{is_shown}
use Rattle.panel_listing.specs.Arranging.{item_in, IsNumberOf}
use Rattle.panel_listing.proofs.arranging.shown.Given as goal

abbrev pub invariant-loop-number : goal.invariant-loop-number
invariant-loop-number l = record {
  numbered : All (IsNumberOf l.items) l.rows.items;
  shown : map item_in l.rows.items ≡ filter (is_shown l.wish) (take l.number l.items);
}
