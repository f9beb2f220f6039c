-- What is printed, and what the items that are left print.
use Rattle.std.proofs.Common.{◌≡◌, ◌-◌, ◌++◌, drop, true}
use Rattle.std.specs.String.{string_bytes}
use Rattle.hotlist.specs.HotLists.{list_of, is_within}
use Rattle.hotlist.specs.Printed.{printed_list}
use Rattle.hotlist.proofs.print.+printing.Given as goal

abbrev pub invariant-print_items-loop-item : goal.invariant-print_items-loop-item
invariant-print_items-loop-item l = record {
  printed_all : string_bytes l.text ++ printed_list l.depth (list_of (drop l.item-index l.items)) ≡ string_bytes l.fn.text ++ printed_list l.depth (list_of l.items);
  nested : is_within (32 - l.depth) (list_of (drop l.item-index l.items)) ≡ true;
}
