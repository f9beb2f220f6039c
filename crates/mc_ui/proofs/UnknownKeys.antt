-- A key that is none leaves the screen as it was but for the second, so it asks for nothing that is to be carried out.
use Rattle.std.proofs.Common.{◌≡◌, ℕ, Bool, true, false, List, [], refl, sym, ◌∙◌, ap, subst, Option, Some, None}
use Rattle.std.specs.Prelude.{MatchBool, is_some}
use Rattle.key_screen.specs.declared.keys.Key.{Key}
use Rattle.key_screen.specs.declared.keys.Base.TheVariants.{Unknown}
use Rattle.tree_trait.specs.Change.{CallLog}
use Rattle.job_reports.specs.declared.row.JobRow.{JobRow}
use Rattle.session_entries.specs.declared.refusal.Refusal.{Refusal}
use Rattle.ui_job_boxes.specs.declared.job_box.JobReply.{JobReply}
use Rattle.ui_job_boxes.specs.JobBoxes.{JobBoxState}
use Rattle.ui_job_boxes.specs.Replies.{box_after}
use Rattle.ui_job_boxes.proofs.UnknownKeys.{unknown_stays as job_stays}
use Rattle.mc_ui.specs.Boxes.{Box, NoBox, OneJobBox, PanelsBox, FindBox, JobsBox}
use Rattle.ui_find.specs.declared.act.FindAct.{FindAct}
use Rattle.ui_find.specs.FindScreens.{FindScreen}
use Rattle.ui_find.proofs.UnknownKeys.{unknown_stays as find_stays}
use Rattle.ui_viewer.specs.declared.act.ViewerAct.{ViewerAct}
use Rattle.ui_viewer.specs.ViewerScreens.{ViewerScreen}
use Rattle.ui_viewer.proofs.UnknownKeys.{unknown_stays as viewer_stays}
use Rattle.mc_ui.specs.declared.viewing.ViewedFile.{ViewedFile}
use Rattle.mc_ui.specs.Screens.{ByBox, ByViewing, FindFollows, FindLeads, JobFollows, JobLeads, KeyLeads, Screen, WorksKey, after_act, after_message, around, at_second, with_viewer, without_box}
use Rattle.mc_ui.specs.PanelKeys.{plain_base}

abbrev pub unknown_key : Bool → Key
unknown_key meta = record { meta = meta; base = Unknown }

module _ (contents : Option CallLog) (rows : List JobRow) (refusals : List Refusal) (before after : Screen) where
  kept : (over : Box) → before.over ≡ over → (let same : Screen = record before { over = over } in same) ≡ before
  kept over is = ap (λ o. let same : Screen = record before { over = o } in same) (sym is)

  by_job : (meta : Bool) (asks : JobBoxState) → before.over ≡ OneJobBox asks → JobLeads asks contents rows (unknown_key meta) refusals before after
      → after ≡ before
  by_job meta asks is h =
      let stays = job_stays asks contents (around rows before) meta h.reply h.leads in
      let follows = subst (λ (reply : JobReply). JobFollows reply (box_after asks (unknown_key meta)) refusals before after) stays.0 h.follows in
      follows.1
      ∙ (ap (λ (left : JobBoxState). let shown : Screen = record before { over = OneJobBox left } in shown) stays.1 ∙ kept (OneJobBox asks) is)

  by_find : (meta : Bool) (find : FindScreen) → before.over ≡ FindBox find → FindLeads find contents (unknown_key meta) refusals (without_box before) after
      → after ≡ before
  by_find meta find is h =
      let stays = find_stays contents (unknown_key meta) h.act find h.sought refl h.leads in
      let follows = subst (λ (act : FindAct). FindFollows act h.sought contents refusals (without_box before) after) stays.0 h.follows in
      follows.1
      ∙ (ap (λ (sought : FindScreen). let shown : Screen = record before { over = FindBox sought } in shown) stays.1 ∙ kept (FindBox find) is)

  by_box : (meta : Bool) (over : Box) → before.over ≡ over → ByBox over contents rows (unknown_key meta) refusals before after → after ≡ before
  by_box true NoBox is h = h.1
  by_box false NoBox is h = h.1
  by_box true (OneJobBox asks) is h = by_job true asks is h
  by_box false (OneJobBox asks) is h = by_job false asks is h
  by_box true (PanelsBox asks) is h = h.1 ∙ kept (PanelsBox asks) is
  by_box false (PanelsBox asks) is h = h.1 ∙ kept (PanelsBox asks) is
  by_box true (FindBox find) is h = by_find true find is h
  by_box false (FindBox find) is h = by_find false find is h
  by_box true (JobsBox list) is h = h.1 ∙ kept (JobsBox list) is
  by_box false (JobsBox list) is h = h.1 ∙ kept (JobsBox list) is

  by_message : (meta shown : Bool)
      → MatchBool shown ((refusals ≡ []) × (after ≡ after_message (plain_base (unknown_key meta)) before)) (ByBox before.over contents rows (unknown_key meta) refusals before after) → after ≡ before
  by_message true true h = h.1
  by_message false true h = h.1
  by_message true false h = by_box true before.over refl h
  by_message false false h = by_box false before.over refl h

  by_viewing : (meta : Bool) (viewing : Option ViewedFile) → before.viewing ≡ viewing → ByViewing viewing contents rows (unknown_key meta) refusals before after
      → after ≡ before
  by_viewing meta None is h = by_message meta (is_some before.message) h
  by_viewing meta (Some viewed) is h =
      let stays = viewer_stays contents (unknown_key meta) h.act viewed.mode h.page refl h.leads in
      h.after_is
      ∙ (ap (λ (act : ViewerAct). after_act act viewed.leaving (with_viewer h.page viewed.leaving before)) stays.0
      ∙ (ap (λ (page : ViewerScreen). with_viewer page viewed.leaving before) stays.1
      ∙ ap (λ v. let same : Screen = record before { viewing = v } in same) (sym is)))

-- the screen stays
pub unknown_stays : (contents : Option CallLog) (rows : List JobRow) (now : ℕ) (key : Key) (refusals : List Refusal) (before after : Screen)
    → key.base ≡ Unknown → KeyLeads contents rows now key refusals before after → after ≡ at_second now before
unknown_stays contents rows now key refusals before after is leads =
    let at : Screen = at_second now before in
    by_viewing contents rows refusals at after key.meta before.viewing refl
    (subst (λ b. WorksKey contents rows (let k : Key = record { meta = key.meta; base = b } in k) refusals at after) is leads)
