-- What a key comes to, by what the desk decides about it.
use Rattle.std.proofs.Common.{◌≡◌, ℕ, true, List, [], sym, ◌∙◌, ap, subst, inl, inr, Option, Some, None}
use Rattle.key_screen.specs.declared.keys.Key.{Key as KeyType}
use Rattle.tree_trait.specs.Change.{CallLog}
use Rattle.job_reports.specs.declared.row.JobRow.{JobRow}
use Rattle.session_entries.specs.declared.refusal.BeginError.TheVariants.{NoMoreIds}
use Rattle.session_entries.specs.declared.refusal.Refusal.{Refusal}
use Rattle.session_entries.specs.declared.refusal.Refusal.TheVariants as refusal
use Rattle.mc_ui.specs.declared.asks.Ask.{Ask}
use Rattle.mc_ui.specs.declared.asks.Ask.TheVariants as ask
use Rattle.mc_ui.specs.declared.asks.Told.{Told}
use Rattle.mc_ui.specs.declared.asks.Told.TheVariants as told
use Rattle.mc_ui.specs.Screens.{Answers, Begins, Ends, KeyLeads, Screen, WellAsked, at_second, is_request, settled_screen, told_refusal, with_ask}
use Rattle.mc_ui.specs.Screens.{HasSameSize}
use Rattle.mc_desk.specs.declared.granting.Deed.{Deed}
use Rattle.mc_desk.specs.declared.granting.Deed.TheVariants as deed
use Rattle.mc_desk.specs.Granting.{CanBeDone, IsGranted, IsWorked, KeyWorks, told_of, with_deed}

module _ (contents : Option CallLog) (rows : List JobRow) (next : Option ℕ) (second : ℕ) (key : KeyType) (own : List Refusal) (asked : Ask) (before screen : Screen) (refusals : List Refusal) (now : Screen)
    (leads : KeyLeads contents rows second key own before (with_ask asked screen)) where
  -- the key, as the screen works it
  leads_to : (is : Ask) (said : List Refusal) (after : Screen) → asked ≡ is → said ≡ own → after ≡ with_ask is screen → KeyLeads contents rows second key said before after
  leads_to is said after same refused there =
      subst (λ rs. KeyLeads contents rows second key rs before after) (sym refused)
      (subst (λ s. KeyLeads contents rows second key own before s) (sym there) (subst (λ a. KeyLeads contents rows second key own before (with_ask a screen)) same leads))

  works : (done : Deed) → IsGranted next asked own done refusals → now ≡ settled_screen (told_of done) screen → (is_request asked ≡ true → screen ≡ at_second second before) → (is_request asked ≡ true → own ≡ [])
      → KeyWorks contents rows next second key refusals before (with_deed done now)
  works deed.Nothing g is stays alone = inl (leads_to ask.Nothing refusals now g.0 g.1 is)
  works deed.End g is stays alone =
      inl (leads_to ask.End refusals (with_deed deed.End now) g.0 g.1 (ap (λ (s : Screen). let c : Screen = record s { planned = Some Ends } in c) is))
  works (deed.Begin confirmed) g is stays alone =
      inl (leads_to (ask.Begin confirmed.plan confirmed.background) refusals (with_deed (deed.Begin confirmed) now) g.0 g.2
      (ap (λ (s : Screen). let c : Screen = record s { planned = Some (Begins confirmed.plan confirmed.background) } in c) is))
  works (deed.Answer answer) g is stays alone =
      inl (leads_to (ask.Answer answer) refusals (with_deed (deed.Answer answer) now) g.0 g.1 (ap (λ (s : Screen). let c : Screen = record s { planned = Some (Answers answer) } in c) is))
  works deed.Refuse g is stays alone =
      let request : is_request asked ≡ true = ap is_request g.2 in
      inr record {
        plan = g.0;
        background = g.1;
        asks = leads_to (ask.Begin g.0 g.1) [] (with_ask (ask.Begin g.0 g.1) (at_second second before)) g.2 (sym (alone request)) (ap (with_ask (ask.Begin g.0 g.1)) (sym (stays request)));
        none_left = g.3;
        refused = g.4;
        told = is ∙ ap (told_refusal (refusal.Begin NoMoreIds)) (stays request);
      }

  can : (done : Deed) → IsGranted next asked own done refusals → WellAsked rows asked → CanBeDone rows next done
  can deed.Nothing g well = tt
  can deed.End g well = tt
  can deed.Refuse g well = tt
  can (deed.Begin confirmed) g well = let here = subst (WellAsked rows) g.0 well in (here.0, here.1, g.1)
  can (deed.Answer answer) g well = subst (WellAsked rows) g.0 well

-- what the screen is told leaves nothing to be carried out
settled_none : (t : Told) (screen : Screen) → screen.planned ≡ None → (settled_screen t screen).planned ≡ None
settled_none told.Nothing screen none = none
settled_none told.Begun screen none = none
settled_none told.Answered screen none = none
settled_none (told.Refused refusal) screen none = none
settled_none told.Lost screen none = none

-- a key that the screen worked, and of which the desk decided
pub worked : (contents : Option CallLog) (rows : List JobRow) (next : Option ℕ) (second : ℕ) (key : KeyType) (own : List Refusal) (asked : Ask) (before screen : Screen) (refusals : List Refusal) (now : Screen) (done : Deed)
    → KeyLeads contents rows second key own before (with_ask asked screen) → WellAsked rows asked → (is_request asked ≡ true → screen ≡ at_second second before) → (is_request asked ≡ true → own ≡ []) → screen.planned ≡ None
    → IsGranted next asked own done refusals → now ≡ settled_screen (told_of done) screen → HasSameSize before now → IsWorked contents rows next second key before now done refusals
worked contents rows next second key own asked before screen refusals now done leads well stays alone none granted is size = record {
  works = works contents rows next second key own asked before screen refusals now leads done granted is stays alone;
  can = can contents rows next second key own asked before screen refusals now leads done granted well;
  settled = ap (λ (s : Screen). s.planned) is ∙ settled_none (told_of done) screen none;
  size = size;
}

-- what the screen is told keeps its size
pub keeps_size : (t : Told) (before screen now : Screen) → HasSameSize before screen → now ≡ settled_screen t screen → HasSameSize before now
keeps_size t before screen now size is = subst (HasSameSize before) (sym is) (go t)
  where
    go : (t : Told) → HasSameSize before (settled_screen t screen)
    go told.Nothing = size
    go told.Begun = record { same_lines = size.same_lines; same_columns = size.same_columns }
    go told.Answered = record { same_lines = size.same_lines; same_columns = size.same_columns }
    go (told.Refused refusal) = record { same_lines = size.same_lines; same_columns = size.same_columns }
    go told.Lost = size
