-- A key that is none leaves the screen as it was.
use Rattle.std.proofs.Common.{◌≡◌, Bool, true, false, refl, sym, ◌∙◌, ap, subst, Option, Some, None}
use Rattle.std.specs.Prelude.{MatchBool, is_some}
use Rattle.key_screen.specs.declared.keys.Key.{Key}
use Rattle.key_screen.specs.declared.keys.Base.TheVariants.{Unknown}
use Rattle.tree_trait.specs.Change.{CallLog}
use Rattle.ui_viewer.specs.declared.act.ViewerAct.{ViewerAct}
use Rattle.ui_viewer.specs.declared.act.ViewerAct.TheVariants.{Stays}
use Rattle.ui_viewer.specs.declared.asking.Asking.{Asking}
use Rattle.ui_viewer.specs.ViewerScreens.{ByAsking, KeyLeads, ViewerScreen, after_message}

abbrev unknown_key : Bool → Key
unknown_key meta = record { meta = meta; base = Unknown }

module _ (contents : Option CallLog) (act : ViewerAct) (before after : ViewerScreen) where
  kept : (asking : Option Asking) → before.asking ≡ asking → (let same : ViewerScreen = record before { asking = asking } in same) ≡ before
  kept asking is = ap (λ a. let same : ViewerScreen = record before { asking = a } in same) (sym is)

  by_asking : (meta : Bool) (asking : Option Asking) → before.asking ≡ asking → ByAsking asking contents (unknown_key meta) act before after
      → (act ≡ Stays) × (after ≡ before)
  by_asking true None is h = h
  by_asking false None is h = h
  by_asking true (Some asking) is h = (h.0, h.1 ∙ kept (Some asking) is)
  by_asking false (Some asking) is h = (h.0, h.1 ∙ kept (Some asking) is)

  by_message : (meta shown : Bool)
      → MatchBool shown ((act ≡ Stays) × (after ≡ after_message (unknown_key meta) before)) (ByAsking before.asking contents (unknown_key meta) act before after)
      → (act ≡ Stays) × (after ≡ before)
  by_message true true h = h
  by_message false true h = h
  by_message true false h = by_asking true before.asking refl h
  by_message false false h = by_asking false before.asking refl h

-- the file is viewed on, and the screen stays
pub unknown_stays : (contents : Option CallLog) (key : Key) (act : ViewerAct) (before after : ViewerScreen)
    → key.base ≡ Unknown → KeyLeads contents key act before after → (act ≡ Stays) × (after ≡ before)
unknown_stays contents key act before after is leads =
    by_message contents act before after key.meta (is_some before.refused)
    (subst (λ b. KeyLeads contents (let k : Key = record { meta = key.meta; base = b } in k) act before after) is leads)
