-- What a session has come to, as the desk keeps it, and what a key's request, a look
-- and the close make of that.
use Rattle.std.specs.Prelude.{◌≡◌, ℕ, Bool, true, false, ⊤, if◌then◌else◌, List, [], Option, Some, None}
use Rattle.std.specs.Option.{option_map}
use Rattle.session_entries.specs.declared.history.Event.{Event}
use Rattle.session_entries.specs.declared.history.Event.TheVariants as event
use Rattle.session_entries.specs.declared.history.JobOrder.TheVariants.{Answered}
use Rattle.session_entries.specs.declared.history.Entry.{Entry}
use Rattle.job_reports.specs.declared.answer.Answer.{Answer as AnswerType}
use Rattle.job_reports.specs.declared.job.Job.{Job as JobPlan}
use Rattle.copy_move.specs.Jobs.{MayAnswer, Running, answered_job, closed_job}
use Rattle.copy_move.specs.Told.{told_job}
use Rattle.mc_desk.specs.declared.granting.Deed.{Deed}
use Rattle.mc_desk.specs.declared.granting.Deed.TheVariants as deed
use Rattle.mc_desk.specs.declared.replies.DeskReply.{DeskReply}
use Rattle.mc_desk.specs.declared.replies.DeskReply.TheVariants.{Go, Wait, Quit}
use Rattle.mc_desk.specs.declared.standing.Due.{Due}
use Rattle.mc_desk.specs.declared.standing.Due.TheVariants.{Nothing, First, Job}
use Rattle.mc_desk.specs.declared.standing.Standing.{Standing}
use Rattle.mc_desk.specs.Tallies.{Tally}

-- nothing happened yet, and the opening frame is due
abbrev pub fresh_standing : Standing
fresh_standing = record {
  job = None;
  later = [];
  last_id = 0;
  calls = 0;
  has_unseen_end = false;
  due = First;
  closed = false;
  quit = false;
  lost = false;
}

-- what is to be looked at before the next key, by its number
abbrev pub awaited_look : Due → Option ℕ
awaited_look Nothing = None
awaited_look First = Some 0
awaited_look (Job id) = Some id

-- the same as the history tells it
abbrev pub tally_of : Standing → Tally
tally_of standing = record {
  job = option_map told_job standing.job;
  last = standing.last_id;
  has_unseen_end = standing.has_unseen_end;
  closed = standing.closed;
  due = awaited_look standing.due;
  lost = standing.lost;
  calls = standing.calls;
}

-- the live job is answered only as it may be
abbrev pub MayCarryOut : Option Running → Deed → Type 0
MayCarryOut job (deed.Answer answer) = (live : Running) × (job ≡ Some live) × MayAnswer live answer
MayCarryOut job (deed.Begin confirmed) = ⊤
MayCarryOut job deed.Nothing = ⊤
MayCarryOut job deed.Refuse = ⊤
MayCarryOut job deed.End = ⊤

-- a job that was begun is live and due, with these sources to come, and its number is the last one
abbrev pub after_start : Running → List JobPlan → Standing → Standing
after_start run later standing =
    record standing { job = Some run; later = later; last_id = run.id; due = Job run.id }

-- the live job is answered and due
abbrev pub after_answer : AnswerType → Option Running → Standing → Standing
after_answer answer None standing = standing
after_answer answer (Some live) standing =
    record standing { job = Some (answered_job answer live); due = Job live.id }

-- what carrying out makes of a session
abbrev pub after_deed : Deed → Standing → Standing
after_deed deed.Nothing standing = standing
after_deed deed.Refuse standing = standing
after_deed deed.End standing = record standing { quit = true }
after_deed (deed.Begin confirmed) standing = after_start confirmed.run confirmed.later standing
after_deed (deed.Answer answer) standing = after_answer answer standing.job standing

-- what is written down of it directly after the key
abbrev pub order_of : AnswerType → Option Running → Option Event
order_of answer None = None
order_of answer (Some live) = Some (event.Order live.id (Answered answer))

abbrev pub event_of : Deed → Option Running → Option Event
event_of deed.Nothing job = None
event_of deed.Refuse job = None
event_of deed.End job = None
event_of (deed.Begin confirmed) job = Some (event.Began confirmed.run.id confirmed.plan confirmed.background)
event_of (deed.Answer answer) job = order_of answer job

-- what is due after a look: a job that can be stepped still is
abbrev pub after_look : Bool → Due → Due
after_look can_step due = if can_step then due else Nothing

-- a session that is closed
abbrev pub closed_standing : Standing → Standing
closed_standing standing =
    record standing { job = option_map closed_job standing.job; due = Nothing; closed = true }

-- the answer that the session is over
abbrev pub is_quit : DeskReply → Bool
is_quit Go = false
is_quit (Wait job) = false
is_quit Quit = true

-- what is to be looked at, by the answer
abbrev pub awaited_by : DeskReply → Option ℕ
awaited_by Go = None
awaited_by (Wait job) = Some job
awaited_by Quit = None

-- an entry of steps of a search, behind which so many bytes are shown
abbrev pub sought_entry : ℕ → ℕ → ℕ → Entry
sought_entry calls faults shown =
    record { seat = 0; calls = calls; faults = faults; shown = shown; what = event.Sought }
