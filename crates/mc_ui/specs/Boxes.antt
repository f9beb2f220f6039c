-- What stands over the panels: a box, and a message over it.
use Rattle.std.specs.Prelude.{List, [], ◌∷◌, Option, Some, None}
use Rattle.job_reports.specs.declared.waits.Waits.{Waits}
use Rattle.session_entries.specs.declared.refusal.Refusal.{Refusal}
use Rattle.ui_words.specs.declared.message.Message.{Message}
use Rattle.ui_words.specs.declared.message.Message.TheVariants.{Refused}
use Rattle.ui_find.specs.FindScreens.{FindScreen}
use Rattle.ui_job_boxes.specs.JobBoxes.{JobBoxState, AnswerBox, seen_job_box}
use Rattle.ui_job_list.specs.declared.list.JobList.{JobList}
use Rattle.panel_boxes.specs.declared.panel_box.PanelBox.{PanelBox}
use Rattle.mc_ui.specs.declared.dialog.Dialog.{Dialog}
use Rattle.mc_ui.specs.declared.dialog.Dialog.TheVariants as dialog

-- What stands over the panels: nothing, or a box that asks of one job or tells what it waits with, asks
-- what the panels are to do, seeks things and lists what was found, or lists the live jobs.
pub data Box : Type 0 where
  NoBox : Box
  OneJobBox : (asks : JobBoxState) → Box
  PanelsBox : (asks : PanelBox) → Box
  FindBox : (find : FindScreen) → Box
  JobsBox : (list : JobList) → Box

-- a box as it is seen
abbrev pub seen_box : Dialog → Box
seen_box dialog.Nothing = NoBox
seen_box (dialog.Job asks) = OneJobBox (seen_job_box asks)
seen_box (dialog.Panel asks) = PanelsBox asks
seen_box (dialog.Find find) = FindBox find
seen_box (dialog.Jobs list) = JobsBox list

-- the box that tells what a job waits with stands over the panels, in place of another
abbrev pub with_waits : Option Waits → Box → Box
with_waits None before = before
with_waits (Some waits) before = OneJobBox (AnswerBox waits)

-- the first of some refusals
abbrev pub first_refusal : List Refusal → Option Refusal
first_refusal [] = None
first_refusal (refusal ∷ more) = Some refusal

-- a message tells of a refusal
abbrev pub with_refusal : Option Refusal → Option Message → Option Message
with_refusal None before = before
with_refusal (Some refusal) before = Some (Refused refusal)

-- and above all of a job's end, where something is to be told of it
abbrev pub with_news : Option Message → Option Message → Option Message
with_news None before = before
with_news (Some news) before = Some news
