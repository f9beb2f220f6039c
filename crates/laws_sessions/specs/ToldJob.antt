-- The live job as a history tells it (`told`). Histories stand newest first here.
use Rattle.std.specs.Prelude.{List, [], ◌∷◌, Option, None, option_and_then}
use Rattle.std.specs.Option.{option_map}
use Rattle.session_entries.specs.declared.history.Event.{Event}
use Rattle.session_entries.specs.declared.history.Event.TheVariants.{Key, Look, Sought, Order}
use Rattle.session_entries.specs.declared.history.Event.TheVariants.{Step, Next, Closed}
use Rattle.session_entries.specs.declared.history.Event.TheVariants as event
use Rattle.session_entries.specs.declared.history.Entry.{Entry}
use Rattle.session_entries.specs.declared.history.JobOrder.TheVariants.{Answered}
use Rattle.session_entries.specs.Entries.{is_closed}
use Rattle.session_entries.specs.Sources.{sources_of}
use Rattle.copy_move.specs.Jobs.{Running, answered_job, begun_work}
use Rattle.copy_move.specs.Told.{after_step, if_closed, running, turned_job}

-- the live job after an event
abbrev pub after_event : Event → Option Running → Option Running
after_event (event.Began id plan background) job = option_map (running id) (begun_work id (sources_of plan))
after_event (Order id (Answered answer)) job = option_map (answered_job answer) job
after_event (Step id did) job = option_and_then (after_step did) job
after_event (Next id plan) job = option_and_then (turned_job plan) job
after_event Closed job = job
after_event (Key key now refusals lost) job = job
after_event (Look refusals) job = job
after_event Sought job = job

-- the live job after these entries
abbrev pub live_job : List Entry → Option Running
live_job [] = None
live_job (e ∷ older) = if_closed (is_closed (e ∷ older)) (after_event e.what (live_job older))
