-- A key in a box that was taken away while it is worked in, over the screen as it stood.
use Rattle.std.proofs.Common.{◌≡◌, false, List, [], sym, ◌∙◌, ap, subst, Option, Result, Ok, Err}
use Rattle.std.specs.Prelude.{IfOk, MatchBool, is_some}
use Rattle.mc_text.specs.declared.error.NoMemory.{NoMemory}
use Rattle.tree_trait.specs.Change.{CallLog}
use Rattle.key_screen.specs.declared.keys.Key.{Key}
use Rattle.job_reports.specs.declared.row.JobRow.{JobRow}
use Rattle.mc_ui.specs.declared.asks.KeyAct.{KeyAct}
use Rattle.mc_ui.specs.Boxes.{Box}
use Rattle.mc_ui.specs.PanelKeys.{plain_base}
use Rattle.mc_ui.specs.Screens.{ByBox, Screen, WorksBelow, after_message, with_ask, without_box}

abbrev pub boxed : Box → Screen → Screen
boxed over before = record before { over = over }

pub box_leads : (contents : Option CallLog) (rows : List JobRow) (key : Key) (over : Box) (before cleared after : Screen) (told : Result KeyAct NoMemory)
    → is_some before.message ≡ false → over ≡ before.over → cleared ≡ without_box before
    → IfOk told (λ act. ByBox over contents rows key act.refusals (boxed over cleared) (with_ask act.ask after))
    → IfOk told (λ act. WorksBelow contents rows key act.refusals before (with_ask act.ask after))
box_leads contents rows key over before cleared after (Err e) quiet over_is cleared_is leads = tt
box_leads contents rows key over before cleared after (Ok act) quiet over_is cleared_is leads =
    let same = ap (λ (s : Screen). boxed over s) cleared_is ∙ ap (λ over. boxed over before) over_is in
    let by_box = subst (λ over. ByBox over contents rows key act.refusals before (with_ask act.ask after)) over_is
    (subst (λ (s : Screen). ByBox over contents rows key act.refusals s (with_ask act.ask after)) same leads) in
    subst (λ shown. MatchBool shown ((act.refusals ≡ []) × (with_ask act.ask after ≡ after_message (plain_base key) before))
    (ByBox before.over contents rows key act.refusals before (with_ask act.ask after))) (sym quiet) by_box
