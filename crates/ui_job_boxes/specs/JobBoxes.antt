-- The boxes of jobs as they are seen, and what they go by.
use Rattle.std.specs.Prelude.{ℕ, List, Option}
use Rattle.mc_text.specs.Routes.{Route}
use Rattle.job_reports.specs.declared.row.JobRow.{JobRow}
use Rattle.job_reports.specs.declared.waits.Waits.{Waits}
use Rattle.mc_dialogs.specs.InputKeys.{InputState}
use Rattle.mc_dialogs.specs.ModeKeys.{ModeState}
use Rattle.ui_words.specs.declared.carry.Carry.{Carry}
use Rattle.ui_job_boxes.specs.declared.job_box.JobBox.{JobBox}
use Rattle.ui_job_boxes.specs.declared.job_box.JobBox.TheVariants as box
use Rattle.ui_job_boxes.specs.declared.job_box.Surroundings.{Surroundings}

-- A box that asks whether to delete things, asks for the source mask of a copy or a move or, with that
-- mask, for its destination, for a new folder, for what a new link is to say or, with that, for its name,
-- or for the mode of things, or tells what a job waits with.
pub data JobBoxState : Type 0 where
  DeleteBox : (paths : List Route) → JobBoxState
  MaskBox : (how : Carry) → (paths : List Route) → (typed : InputState) → JobBoxState
  TargetBox : (how : Carry) → (paths : List Route) → (mask : List ℕ) → (typed : InputState) → JobBoxState
  FolderBox : (typed : InputState) → JobBoxState
  LinkTextBox : (typed : InputState) → JobBoxState
  LinkNameBox : (text : List ℕ) → (typed : InputState) → JobBoxState
  NewModeBox : (paths : List Route) → (asked : ModeState) → JobBoxState
  AnswerBox : (waits : Waits) → JobBoxState

-- a box as it is seen
abbrev pub seen_job_box : JobBox → JobBoxState
seen_job_box (box.Delete chosen) = DeleteBox chosen.paths
seen_job_box (box.SourceMask how chosen typed) = MaskBox how chosen.paths typed
seen_job_box (box.CarryTo source typed) = TargetBox source.carry source.chosen.paths source.mask typed
seen_job_box (box.MakeFolder typed) = FolderBox typed
seen_job_box (box.LinkText typed) = LinkTextBox typed
seen_job_box (box.LinkName text typed) = LinkNameBox text typed
seen_job_box (box.Mode chosen asked) = NewModeBox chosen.paths asked
seen_job_box (box.Answer waits) = AnswerBox waits

-- what a box goes by besides the tree: the live jobs, the folders of the current panel and
-- of the other one, and HOME
pub record Around : Type 0 where
  pub rows : List JobRow
  pub current : Route
  pub other : Route
  pub home : Option Route

abbrev pub seen_around : Surroundings → Around
seen_around s = record { rows = s.rows.now; current = s.current.now; other = s.other.now; home = s.home.now }
