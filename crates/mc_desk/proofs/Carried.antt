-- A key that is none asks for nothing, and begins no search.
use Rattle.std.proofs.Common.{◌≡◌, ℕ, Bool, true, false, List, sym, ◌∙◌, ap, inl, inr, refl, Option, None}
use Rattle.key_screen.specs.declared.keys.Key.{Key as KeyType}
use Rattle.key_screen.specs.declared.keys.Base.TheVariants.{Ctrl, Unknown}
use Rattle.ui_find.specs.FindKeys.{stop_key}
use Rattle.mc_desk.specs.Sessions.{MayWork}
use Rattle.tree_trait.specs.Change.{CallLog}
use Rattle.job_reports.specs.declared.row.JobRow.{JobRow}
use Rattle.session_entries.specs.declared.refusal.Refusal.{Refusal}
use Rattle.mc_ui.specs.Screens.{Screen}
use Rattle.mc_ui.specs.Seekings.{is_seeking}
use Rattle.mc_ui.proofs.UnknownKeys.{unknown_stays}
use Rattle.mc_desk.specs.declared.granting.Deed.{Deed}
use Rattle.mc_desk.specs.declared.granting.Deed.TheVariants as deed
use Rattle.mc_desk.specs.declared.standing.Standing.{Standing}
use Rattle.mc_desk.specs.Granting.{IsWorked, KeyWorks, with_deed}
use Rattle.mc_desk.specs.Standings.{after_deed, awaited_look}

plans_nothing : (contents : Option CallLog) (rows : List JobRow) (next : Option ℕ) (now : ℕ) (key : KeyType) (before after : Screen) (done : Deed) (refusals : List Refusal) → key.base ≡ Unknown → before.planned ≡ None
    → IsWorked contents rows next now key before after done refusals → (with_deed done after).planned ≡ None
plans_nothing contents rows next now key before after done refusals unknown settled w = go w.works
  where
    go : KeyWorks contents rows next now key refusals before (with_deed done after) → (with_deed done after).planned ≡ None
    go (inl leads) = ap (λ (s : Screen). s.planned) (unknown_stays contents rows now key refusals before (with_deed done after) unknown leads) ∙ settled
    go (inr none) = ap (λ (s : Screen). s.planned) none.told ∙ settled

pub unknown_due : (contents : Option CallLog) (rows : List JobRow) (next : Option ℕ) (now : ℕ) (key : KeyType) (before after : Screen) (done : Deed) (refusals : List Refusal) (was : Standing) → key.base ≡ Unknown → before.planned ≡ None
    → IsWorked contents rows next now key before after done refusals → awaited_look was.due ≡ None → was.quit ≡ false → (awaited_look (after_deed done was).due ≡ None) × ((after_deed done was).quit ≡ false)
unknown_due contents rows next now key before after done refusals was unknown settled w looked unasked = go done (plans_nothing contents rows next now key before after done refusals unknown settled w)
  where
    go : (done : Deed) → (with_deed done after).planned ≡ None → (awaited_look (after_deed done was).due ≡ None) × ((after_deed done was).quit ≡ false)
    go deed.Nothing h = (looked, unasked)
    go deed.Refuse h = (looked, unasked)
    go deed.End h = absurd cc
    go (deed.Begin confirmed) h = absurd cc
    go (deed.Answer answer) h = absurd cc

-- what is noted of what a key asked says nothing of a search
deed_sought : (done : Deed) (after : Screen) → is_seeking (with_deed done after) ≡ is_seeking after
deed_sought deed.Nothing after = refl
deed_sought deed.Refuse after = refl
deed_sought deed.End after = refl
deed_sought (deed.Begin confirmed) after = refl
deed_sought (deed.Answer answer) after = refl

-- while a search goes on no unknown key is worked
pub none_unknown : (key : KeyType) (screen : Screen) → key.base ≡ Unknown → MayWork key screen → is_seeking screen ≡ false
none_unknown key screen unknown may = go (is_seeking screen) refl
  where
    go : (seeking : Bool) → is_seeking screen ≡ seeking → seeking ≡ false
    go false is = refl
    go true is =
        absurd (let stops : key ≡ stop_key = may is in let same : Unknown ≡ Ctrl 99 = sym unknown ∙ ap (λ (k : KeyType). k.base) stops in cc)

pub unknown_sought : (contents : Option CallLog) (rows : List JobRow) (next : Option ℕ) (now : ℕ) (key : KeyType) (before after : Screen) (done : Deed) (refusals : List Refusal) → key.base ≡ Unknown → is_seeking before ≡ false
    → IsWorked contents rows next now key before after done refusals → is_seeking after ≡ false
unknown_sought contents rows next now key before after done refusals unknown sought w = sym (deed_sought done after) ∙ (go w.works ∙ sought)
  where
    go : KeyWorks contents rows next now key refusals before (with_deed done after) → is_seeking (with_deed done after) ≡ is_seeking before
    go (inl leads) = ap is_seeking (unknown_stays contents rows now key refusals before (with_deed done after) unknown leads)
    go (inr none) = ap is_seeking none.told
