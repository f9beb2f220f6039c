-- What a history comes to: the live job, what is due, and what was counted. Histories
-- stand newest first here.
use Rattle.std.specs.Prelude.{ℕ, ◌+◌, ◌-◌, ◌^◌, nat_lt, Bool, true, false, ◌||◌}
use Rattle.std.specs.Prelude.{if◌then◌else◌, List, [], ◌∷◌, Option, Some, None}
use Rattle.std.specs.Option.{option_map}
use Rattle.job_reports.specs.declared.report.Did.TheVariants.{Ended}
use Rattle.session_entries.specs.declared.history.Event.{Event}
use Rattle.session_entries.specs.declared.history.Event.TheVariants.{Key, Look, Sought, Began}
use Rattle.session_entries.specs.declared.history.Event.TheVariants.{Order, Step, Next, Closed}
use Rattle.session_entries.specs.declared.history.Entry.{Entry}
use Rattle.copy_move.specs.Jobs.{Running, waits_on}
use Rattle.laws_sessions.specs.ToldJob.{live_job, after_event}
use Rattle.session_entries.specs.Entries.{last_id, is_closed, closes, id_after, calls_in}
use Rattle.copy_move.specs.Told.{if_closed}
use Rattle.mc_desk.specs.KeysAndFaults.{loses, has_lost}

-- a job has ended, and no look has taken it up
abbrev pub end_unseen_event : Event → Bool → Bool
end_unseen_event (Step id (Ended ending part)) before = true
end_unseen_event (Look refusals) before = false
end_unseen_event event before = before

abbrev pub end_unseen : List Entry → Bool
end_unseen [] = false
end_unseen (e ∷ older) = end_unseen_event e.what (end_unseen older)

-- the number of the next job, one more than the last one's, where one is left
abbrev pub next_id : ℕ → Option ℕ
next_id last = if nat_lt last (2 ^ 32 - 1) then Some (last + 1) else None

-- a live job that waits for nothing can be stepped
abbrev pub can_step : Option Running → Bool
can_step None = false
can_step (Some job) = if waits_on job.course then false else true

-- What is to be looked at before the next key: the opening frame, which has the number 0; or the job that
-- was begun or answered, until a look finds that it can't be stepped.
abbrev pub due_after : Event → Option Running → Option ℕ → Option ℕ
due_after (Key key now refusals lost) job before = before
due_after (Look refusals) job before = if can_step job then before else None
due_after Sought job before = before
due_after (Began id plan background) job before = Some id
due_after (Order id order) job before = option_map (λ (live : Running). live.id) job
due_after (Step id did) job before = before
due_after (Next id plan) job before = before
due_after Closed job before = None

abbrev pub due_in : List Entry → Option ℕ
due_in [] = Some 0
due_in (e ∷ older) = due_after e.what (live_job older) (due_in older)

-- what a history comes to: the live job as it tells it, and the last one's number; whether a job's end
-- waits for a look, whether the session is closed, what is to be looked at before the next key, and whether
-- a key was lost; and the changing calls
pub record Tally : Type 0 where
  pub job : Option Running
  pub last : ℕ
  pub has_unseen_end : Bool
  pub closed : Bool
  pub due : Option ℕ
  pub lost : Bool
  pub calls : ℕ

abbrev pub tally : List Entry → Tally
tally newest = record {
  job = live_job newest;
  last = last_id newest;
  has_unseen_end = end_unseen newest;
  closed = is_closed newest;
  due = due_in newest;
  lost = has_lost newest;
  calls = calls_in newest;
}

-- the same with one entry more
abbrev pub after_entry : Entry → Tally → Tally
after_entry e t = record {
  job = if_closed (closes e.what || t.closed) (after_event e.what t.job);
  last = id_after e.what t.last;
  has_unseen_end = end_unseen_event e.what t.has_unseen_end;
  closed = closes e.what || t.closed;
  due = due_after e.what t.job t.due;
  lost = loses e.what || t.lost;
  calls = e.calls;
}

-- how many changing calls an event makes at most
abbrev pub most_calls : Event → ℕ
most_calls (Key key now refusals lost) = 0
most_calls (Look refusals) = 0
most_calls Sought = 0
most_calls (Began id plan background) = 0
most_calls (Order id order) = 0
most_calls (Step id did) = 3
most_calls (Next id plan) = 0
most_calls Closed = 0
