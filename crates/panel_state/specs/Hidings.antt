-- Hidden names shown or not (mc(1), "Keys": alt-.).
use Rattle.std.specs.Prelude.{◌≡◌, Bool}
use Rattle.panel_listing.specs.Arranging.{AreSound, items_at}
use Rattle.panel_listing.specs.Orders.{AreArranged}
use Rattle.panel_state.specs.declared.arranging.Arrangement.TheVariants.{Hidden}
use Rattle.panel_state.specs.declared.hiding.HiddenPlan.{HiddenPlan}
use Rattle.panel_state.specs.Arrangements.{wish_after}
use Rattle.panel_state.specs.Panels.{PanelState, current_name}

-- this is what a panel would show: its items that are wished for then, and the name under its cursor
pub record IsHiddenPlan (hidden : Bool) (p : PanelState) (plan : HiddenPlan) : Type 0 where
  pub name_is : plan.name ≡ current_name p
  pub sound : AreSound p.listing.items plan.shown
  pub arranged : AreArranged (wish_after (Hidden hidden) p.wish) p.listing.items
      (items_at p.listing.items plan.shown)
