-- A key that is none leaves the screen as it was.
use Rattle.std.proofs.Common.{◌≡◌, Bool, true, false, refl, sym, ◌∙◌, ap, subst, Option, Some, None}
use Rattle.key_screen.specs.declared.keys.Key.{Key}
use Rattle.key_screen.specs.declared.keys.Base.TheVariants.{Unknown}
use Rattle.tree_trait.specs.Change.{CallLog}
use Rattle.ui_find.specs.declared.act.FindAct.{FindAct}
use Rattle.ui_find.specs.declared.act.FindAct.TheVariants.{Stays}
use Rattle.ui_find.specs.declared.asking.Asking.{Asking}
use Rattle.ui_find.specs.FindScreens.{ByAsking, FindScreen, KeyLeads}

abbrev unknown_key : Bool → Key
unknown_key meta = record { meta = meta; base = Unknown }

module _ (contents : Option CallLog) (act : FindAct) (before after : FindScreen) where
  kept : (asking : Option Asking) → before.asking ≡ asking → (let same : FindScreen = record before { asking = asking } in same) ≡ before
  kept asking is = ap (λ a. let same : FindScreen = record before { asking = a } in same) (sym is)

  by_asking : (meta : Bool) (asking : Option Asking) → before.asking ≡ asking → ByAsking asking contents (unknown_key meta) act before after
      → (act ≡ Stays) × (after ≡ before)
  by_asking true None is h = h
  by_asking false None is h = h
  by_asking true (Some asking) is h = (h.0, h.1 ∙ kept (Some asking) is)
  by_asking false (Some asking) is h = (h.0, h.1 ∙ kept (Some asking) is)

-- it is asked or sought on, and the screen stays
pub unknown_stays : (contents : Option CallLog) (key : Key) (act : FindAct) (before after : FindScreen)
    → key.base ≡ Unknown → KeyLeads contents key act before after → (act ≡ Stays) × (after ≡ before)
unknown_stays contents key act before after is leads =
    by_asking contents act before after key.meta before.asking refl
    (subst (λ b. KeyLeads contents (let k : Key = record { meta = key.meta; base = b } in k) act before after) is leads)
