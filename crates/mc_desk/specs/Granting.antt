-- What the desk does about what a key asks.
use Rattle.std.specs.Prelude.{◌≡◌, ◌⊎◌, ℕ, Bool, true, ⊤, List, [], ◌∷◌, Option, Some, None}
use Rattle.tree_trait.specs.Change.{CallLog}
use Rattle.key_screen.specs.declared.keys.Key.{Key as KeyType}
use Rattle.job_reports.specs.declared.row.JobRow.{JobRow}
use Rattle.job_reports.specs.declared.job.Job.{Job}
use Rattle.session_entries.specs.Sources.{are_workable}
use Rattle.session_entries.specs.declared.refusal.BeginError.TheVariants.{NoMoreIds}
use Rattle.session_entries.specs.declared.refusal.Refusal.{Refusal}
use Rattle.session_entries.specs.declared.refusal.Refusal.TheVariants as refusal
use Rattle.ui_job_boxes.specs.LiveJobs.{can_answer}
use Rattle.mc_ui.specs.Screens.{Answers, Begins, Ends, KeyLeads, Screen, at_second, told_refusal, with_ask}
use Rattle.mc_ui.specs.declared.asks.Ask.{Ask}
use Rattle.mc_ui.specs.declared.asks.Ask.TheVariants as ask
use Rattle.mc_ui.specs.declared.asks.Told.{Told}
use Rattle.mc_ui.specs.declared.asks.Told.TheVariants as told
use Rattle.mc_ui.specs.Screens.{HasSameSize}
use Rattle.mc_desk.specs.declared.granting.Deed.{Deed}
use Rattle.mc_desk.specs.declared.granting.Deed.TheVariants.{Nothing, Begin, Refuse, Answer, End}

-- a job that is asked for can be worked
abbrev pub CanBeWorked : Ask → Type 0
CanBeWorked (ask.Begin plan background) = are_workable plan ≡ true
CanBeWorked (ask.Answer answer) = ⊤
CanBeWorked ask.Nothing = ⊤
CanBeWorked ask.End = ⊤

-- why no job is begun once the last number was given
abbrev pub no_more_ids : List Refusal
no_more_ids = refusal.Begin NoMoreIds ∷ []

-- a key asks for a job after all numbers were given: that is refused, and a message says so
pub record FindsNoNumber (contents : Option CallLog) (rows : List JobRow) (next : Option ℕ) (now : ℕ)
    (key : KeyType) (refusals : List Refusal) (before after : Screen) : Type 0 where
  pub plan : Job
  pub background : Bool
  pub asks : KeyLeads contents rows now key [] before
      (with_ask (ask.Begin plan background) (at_second now before))
  pub none_left : next ≡ None
  pub refused : refusals ≡ no_more_ids
  pub told : after ≡ told_refusal (refusal.Begin NoMoreIds) (at_second now before)

-- what a key comes to, while these jobs are live and the next job has this number
abbrev pub KeyWorks : Option CallLog → List JobRow → Option ℕ → ℕ → KeyType → List Refusal → Screen
    → Screen → Type 0
KeyWorks contents rows next now key refusals before after =
    KeyLeads contents rows now key refusals before after
    ⊎ FindsNoNumber contents rows next now key refusals before after

-- What a key asks is done: a job is begun under the next number. Where there is none that is refused. All
-- else that the key was refused is told as it was.
abbrev pub IsGranted : Option ℕ → Ask → List Refusal → Deed → List Refusal → Type 0
IsGranted next asked own Nothing refusals = (asked ≡ ask.Nothing) × (refusals ≡ own)
IsGranted next asked own End refusals = (asked ≡ ask.End) × (refusals ≡ own)
IsGranted next asked own (Answer answer) refusals = (asked ≡ ask.Answer answer) × (refusals ≡ own)
IsGranted next asked own (Begin confirmed) refusals =
    (asked ≡ ask.Begin confirmed.plan confirmed.background) × (next ≡ Some confirmed.run.id)
    × (refusals ≡ own)
IsGranted next asked own Refuse refusals =
    (plan : Job) × (background : Bool) × (asked ≡ ask.Begin plan background) × (next ≡ None)
    × (refusals ≡ no_more_ids)

-- what the screen is told of it
abbrev pub told_of : Deed → Told
told_of Nothing = told.Nothing
told_of (Begin confirmed) = told.Begun
told_of Refuse = told.Refused (refusal.Begin NoMoreIds)
told_of (Answer answer) = told.Answered
told_of End = told.Nothing

-- the screen with what is done noted on it
abbrev pub with_deed : Deed → Screen → Screen
with_deed Nothing screen = screen
with_deed Refuse screen = screen
with_deed End screen = record screen { planned = Some Ends }
with_deed (Begin confirmed) screen =
    record screen { planned = Some (Begins confirmed.plan confirmed.background) }
with_deed (Answer answer) screen = record screen { planned = Some (Answers answer) }

-- it can be done: a job is begun while none is live, and answered as it may be
abbrev pub CanBeDone : List JobRow → Option ℕ → Deed → Type 0
CanBeDone rows next Nothing = ⊤
CanBeDone rows next Refuse = ⊤
CanBeDone rows next End = ⊤
CanBeDone rows next (Begin confirmed) =
    (rows ≡ []) × (are_workable confirmed.plan ≡ true) × (next ≡ Some confirmed.run.id)
CanBeDone rows next (Answer answer) = can_answer rows answer ≡ true

-- a key was worked on the screen, and it was decided what is done about it
pub record IsWorked (contents : Option CallLog) (rows : List JobRow) (next : Option ℕ) (now : ℕ)
    (key : KeyType) (before after : Screen) (done : Deed) (refusals : List Refusal) : Type 0 where
  pub works : KeyWorks contents rows next now key refusals before (with_deed done after)
  pub can : CanBeDone rows next done
  pub settled : after.planned ≡ None
  pub size : HasSameSize before after
