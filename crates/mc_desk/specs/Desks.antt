-- What a desk keeps: its history is a session over its tree, and the rest of it is what the history says.
use Rattle.std.specs.Prelude.{◌≡◌, ◌⊎◌, ℕ, ◌+◌, ◌*◌, ◌≤◌, Bool, true, false, not, ◌||◌}
use Rattle.std.specs.Prelude.{◌&&◌, is_some, if◌then◌else◌, List, [], ◌∷◌, ◌++◌, length}
use Rattle.std.specs.Prelude.{take, slice_get, Option, Some, None, Result, Ok, Err}
use Rattle.std.specs.Option.{option_map}
use Rattle.mc_text.specs.Routes.{Route}
use Rattle.tree_trait.specs.Change.{CallLog}
use Rattle.tree_trait.specs.Answers.{IfKnown}
use Rattle.tree_trait.specs.declared.devices.Command.{Command}
use Rattle.key_screen.specs.DecodedKeys.{decoded_keys}
use Rattle.job_reports.specs.declared.job.Job.{Job}
use Rattle.job_reports.specs.declared.report.Did.TheVariants.{Barrier, Moved, Removed}
use Rattle.session_entries.specs.declared.history.Event.TheVariants.{Step}
use Rattle.session_entries.specs.declared.history.Entry.{Entry}
use Rattle.session_entries.specs.SourcesLeft.{sources_left}
use Rattle.copy_move.specs.Jobs.{Running}
use Rattle.copy_move.specs.Told.{told_job}
use Rattle.copy_move.specs.Settling.{is_own}
use Rattle.job_unsynced.specs.Folders.{joined_folders}
use Rattle.job_reports.specs.Paths.{folder_of, without}
use Rattle.job_reports.specs.declared.job.Pair.{Pair}
use Rattle.laws_sessions.specs.Traces.{Stand, before_others}
use Rattle.mc_ui.specs.Screens.{Screen, Ends}
use Rattle.mc_ui.specs.Seekings.{is_seeking}
use Rattle.mc_desk.specs.Shown.{ShowsOverAny, none_before}
use Rattle.mc_desk.specs.declared.replies.DeskReply.{DeskReply}
use Rattle.mc_desk.specs.declared.starts.Start.{Start}
use Rattle.mc_desk.specs.declared.replies.DeskError.{DeskError}
use Rattle.mc_desk.specs.declared.replies.DeskError.TheVariants as error
use Rattle.mc_desk.specs.declared.replies.StepReply.{StepReply}
use Rattle.mc_desk.specs.declared.replies.StepReply.TheVariants.{Ended, Idle}
use Rattle.mc_desk.specs.Tallies.{Tally, can_step, tally}
use Rattle.mc_desk.specs.KeysAndFaults.{faults_in, keys_in}
use Rattle.mc_desk.specs.Sessions.{IsSession, SessionState}
use Rattle.session_log.specs.Logs.{Logged}
use Rattle.mc_desk.specs.Outputs.{FitsScreen, Output}
use Rattle.session_log.specs.Told.{waits_told}
use Rattle.mc_desk.specs.LiveRows.{rows_of}
use Rattle.mc_ui.specs.Frames.{frame_of}
use Rattle.key_screen.specs.Grids.{CellGrid}
use Rattle.mc_desk.specs.Standings.{tally_of}
use Rattle.job_sources.specs.Turning.{rank_left}
use Rattle.mc_desk.specs.declared.standing.Standing.{Standing}
use Rattle.mc_desk.specs.DeskDevices.{RanNothing}
use Rattle.mc_desk.specs.KeysTaken.{LacksSecond, stop_byte}

-- what can be seen of a desk: its entries, the newest first, and how many more find room; the screen;
-- the live job, and the sources that it is yet to take up; the dirty folders; what the history came
-- to; how many bytes were taken, and those since the last key; whether the end was asked for; and
-- what was put to the terminal
pub record Seen : Type 0 where
  pub newest : List Entry
  pub spare : ℕ
  pub screen : Screen
  pub job : Option Running
  pub later : List Job
  pub dirty : List Route
  pub tally : Tally
  pub taken : ℕ
  pub pending : List ℕ
  pub quit : Bool
  pub out : Output

-- a session as it is seen, by its fields
abbrev pub seen_of : Logged → Screen → Standing → List Route → Output → ℕ → List ℕ → Seen
seen_of log screen standing dirty out taken pending = record {
  newest = log.newest;
  spare = log.spare;
  screen = screen;
  job = standing.job;
  later = standing.later;
  dirty = dirty;
  tally = tally_of standing;
  taken = taken;
  pending = pending;
  quit = standing.quit;
  out = out;
}

-- room that is kept: for the entry that closes, and for the end of a live job
abbrev pub kept_room : Bool → Option Running → ℕ
kept_room closed job = (if closed then 0 else 1) + (if is_some job then 1 else 0)

-- the screen, on which the end is noted once it was asked for
abbrev pub with_end : Bool → Screen → Screen
with_end true screen = record screen { planned = Some Ends }
with_end false screen = screen

abbrev pub noted_screen : Seen → Screen
noted_screen desk = with_end desk.quit desk.screen

-- where a session stands with this live job, or none, and these dirty folders
abbrev pub stand_with : Option Running → List Route → Stand
stand_with job dirty = record { jobs = before_others job []; dirty = dirty }

abbrev pub stand_of : Seen → Stand
stand_of desk = stand_with desk.job desk.dirty

-- what the session of a desk has come to, over a tree that holds this
abbrev pub state_of : Option CallLog → Seen → SessionState
state_of contents desk =
    record { screen = noted_screen desk; stand = stand_of desk; contents = contents; put = desk.out.put }

-- What is written down is a session in the folders in which it began, over the tree, which was opened with
-- the one contents, and so many faults, and has the other now; it has come to the live job and the dirty
-- folders; and the rest of the desk is what the history says.
pub record IsWritten (start : Option Start) (opening contents : Option CallLog) (faults : ℕ)
    (desk : Seen) : Type 0 where
  pub session : IsSession start opening faults desk.newest (state_of contents desk)
  pub tally : desk.tally ≡ tally desk.newest
  pub told : desk.tally.job ≡ option_map told_job desk.job
  pub left : desk.later ≡ sources_left desk.newest
  pub calls : desk.tally.calls ≤ 3 * length desk.newest

-- how many steps its job has left at most
abbrev pub rank_of : Seen → ℕ
rank_of desk = rank_left desk.dirty desk.job desk.later

-- the frame of what a desk shows now
abbrev pub frame_now : Seen → CellGrid
frame_now desk = frame_of desk.screen (rows_of desk.job (waits_told desk.newest))

-- What the terminal of a desk shows, where no drawing was cut short and the desk isn't closed: something
-- was drawn exactly where anything was written down; and once nothing is to be looked at the frame of the
-- desk, and then its job can't be stepped.
pub record IsShown (desk : Seen) : Type 0 where
  pub size : FitsScreen desk.out.display.grid desk.screen
  pub drawn : desk.tally.closed ≡ false → desk.out.put.is_cut ≡ false
      → desk.out.display.has_drawn ≡ not (none_before desk.newest)
  pub current : desk.tally.closed ≡ false → desk.out.put.is_cut ≡ false → desk.tally.due ≡ None
      → desk.out.display.grid ≡ frame_now desk
  pub still : desk.tally.closed ≡ false → desk.tally.due ≡ None → can_step desk.tally.job ≡ false

-- What holds of a desk between two calls: besides, nothing that was asked for waits to be carried out but
-- the end, a desk that lost a key is closed, where the end was asked for or the desk is closed nothing is
-- to be looked at, the room is there, and the terminal shows the desk.
pub record IsDesk (start : Option Start) (opening contents : Option CallLog) (faults : ℕ)
    (desk : Seen) : Type 0 where
  pub written : IsWritten start opening contents faults desk
  pub settled : desk.screen.planned ≡ None
  pub asked : desk.quit ≡ true → desk.tally.due ≡ None
  pub lost : desk.tally.lost ≡ true → desk.tally.closed ≡ true
  pub shut : desk.tally.closed ≡ true → desk.tally.due ≡ None
  pub room : kept_room desk.tally.closed desk.job ≤ desk.spare
  pub shown : IsShown desk

-- each terminal shows the frame of the desk, of all bytes that were put
abbrev pub ShowsDesk : Seen → Type 0
ShowsDesk desk = IfKnown desk.out.put.bytes (λ bytes. ShowsOverAny bytes (frame_now desk))

-- a drawing was cut short only where the desk is closed
abbrev pub IsUncut : Seen → Type 0
IsUncut desk = desk.tally.closed ≡ false → desk.out.put.is_cut ≡ false

-- an answer that names the screen comes only where it failed
abbrev pub BlamesScreen : {A : Type 0} → Result A DeskError → Bool → Type 0
BlamesScreen result failed = result ≡ Err error.Screen → failed ≡ true

-- what a session keeps of its tree and its spawner
pub record KeepsDesk (start : Option Start) (opening contents : Option CallLog) (seen : Seen)
    (faults faults_now : ℕ)
    (runs runs_now : Option (List Command)) (spawner_opening spawner_now : ℕ) : Type 0 where
  pub desk : IsDesk start opening contents faults seen
  pub counted : faults_in faults seen.newest ≤ faults_now
  pub spawner : RanNothing runs runs_now spawner_opening spawner_now

-- the bytes that the keyboard gave are the keys of the history and those since the last key
abbrev pub HasTaken : List ℕ → Seen → Type 0
HasTaken bytes desk = decoded_keys bytes ≡ record { keys = keys_in desk.newest; rest = desk.pending }

-- the same of a desk, with the bytes since the last key
pub record TookOf (bytes : List ℕ) (desk : Seen) : Type 0 where
  pub some : desk.taken ≤ length bytes
  pub keys : HasTaken (take desk.taken bytes) desk
      ⊎ ((desk.tally.closed ≡ true) × LacksSecond (take desk.taken bytes) desk.newest)

abbrev pub IsFed : Option (List ℕ) → Seen → Type 0
IsFed stream desk = IfKnown stream (λ bytes. TookOf bytes desk)

-- what a desk keeps besides its session: the keys are those of the bytes that it took, and no drawing was
-- cut short while it is open
pub record KeepsStream (stream : Option (List ℕ)) (desk : Seen) : Type 0 where
  pub fed : IsFed stream desk
  pub uncut : IsUncut desk

-- the next byte after so many is this one
abbrev pub IsNext : List ℕ → ℕ → ℕ → Type 0
IsNext bytes taken byte = slice_get bytes taken ≡ Some byte

-- a call that takes no byte; what is closed stays so
pub record KeepsKeys (old new : Seen) : Type 0 where
  pub keys : keys_in new.newest ≡ keys_in old.newest
  pub pending : new.pending ≡ old.pending
  pub taken : new.taken ≡ old.taken
  pub shut : old.tally.closed ≡ true → new.tally.closed ≡ true

-- the session takes no more keys: it is closed, or its end was asked for
abbrev pub is_over : Seen → Bool
is_over desk = desk.tally.closed || desk.quit

-- a search goes on, and the session takes keys
abbrev pub seeks : Seen → Bool
seeks desk = not (is_over desk) && is_seeking desk.screen

-- while a search goes on no byte is taken but that of C-c, at the beginning of a key
abbrev pub MayTake : ℕ → Seen → Type 0
MayTake byte desk = seeks desk ≡ true → (byte ≡ stop_byte) × (desk.pending ≡ [])

-- An error closes the desk, unless memory ran out and all was left as it was; there may be
-- more room for entries then.
abbrev pub FailsClosed : DeskError → Seen → Seen → Type 0
FailsClosed answer old new =
    (new.tally.closed ≡ true) ⊎ ((answer ≡ error.Memory) × (record new { spare = old.spare } ≡ old))

-- nothing was taken, and the session is not over
pub record IsFresh (desk : Seen) : Type 0 where
  pub none : desk.newest ≡ []
  pub taken : desk.taken ≡ 0
  pub goes_on : is_over desk ≡ false

-- the newest entry is the report of a sync
abbrev pub HasSynced : List Entry → Type 0
HasSynced [] = ⊥
HasSynced (e ∷ older) = (id : ℕ) × (e.what ≡ Step id Barrier)

-- the newest entry is the report that this was removed
abbrev pub HasRemoved : List Entry → Route → Type 0
HasRemoved [] path = ⊥
HasRemoved (e ∷ older) path = (id : ℕ) × (e.what ≡ Step id (Removed path))

-- the newest entry is the report that a thing was moved
abbrev pub HasMoved : List Entry → Pair → Type 0
HasMoved [] pair = ⊥
HasMoved (e ∷ older) pair = (id : ℕ) × (e.what ≡ Step id (Moved pair))

-- a folder of the live job's own joined the dirty ones
pub record JoinsDirty (job : Option Running) (dirty dirty_after : List Route) : Type 0 where
  pub live : Running
  pub job_is : job ≡ Some live
  pub folder : Route
  pub own : is_own live.work folder ≡ true
  pub joins : dirty_after ≡ joined_folders folder dirty

-- a folder was removed: the one that held it joined the dirty ones, and it is no longer one itself
pub record RemovesDirty (newest : List Entry) (dirty dirty_after : List Route) : Type 0 where
  pub path : Route
  pub removed : HasRemoved newest path
  pub leaves : dirty_after ≡ without path (joined_folders (folder_of path) dirty)

-- a thing was moved: the folder where it went joined the dirty ones, and the one where it was
pub record JoinsBoth (newest : List Entry) (dirty dirty_after : List Route) : Type 0 where
  pub pair : Pair
  pub moved : HasMoved newest pair
  pub join : dirty_after
      ≡ joined_folders (folder_of pair.source) (joined_folders (folder_of pair.target) dirty)

-- What a step makes of the dirty folders: one of the live job's own may join them, or both where something
-- was moved, and one leaves them only with the report of its removal, or of a sync.
abbrev pub MovesDirty : Option Running → List Entry → List Route → List Route → Type 0
MovesDirty job newest dirty dirty_after =
    (dirty_after ≡ dirty) ⊎ (JoinsDirty job dirty dirty_after ⊎ (RemovesDirty newest dirty dirty_after
    ⊎ (JoinsBoth newest dirty dirty_after
    ⊎ ((folder : Route) × (dirty_after ≡ without folder dirty) × HasSynced newest))))

-- the answer of a step where no job can be stepped, by whether the desk is closed
abbrev pub idle_reply : Bool → StepReply
idle_reply true = Ended
idle_reply false = Idle

-- a byte was counted; where the call failed perhaps not
abbrev pub CountsByte : Result DeskReply DeskError → ℕ → ℕ → Type 0
CountsByte (Ok reply) before after = after ≡ before + 1
CountsByte (Err error) before after = (after ≡ before) ⊎ (after ≡ before + 1)

-- a byte joins those that were taken
pub record Joins (bytes : List ℕ) (byte : ℕ) (old new : Seen) : Type 0 where
  pub counted : new.taken ≡ old.taken + 1
  pub keys : HasTaken (bytes ++ byte ∷ []) new

-- it was not taken
pub record Stays (bytes : List ℕ) (old new : Seen) : Type 0 where
  pub counted : new.taken ≡ old.taken
  pub keys : HasTaken bytes new

-- it was taken; the session is closed, and of two keys that the byte completed the history lacks the second
pub record Cuts (bytes : List ℕ) (byte : ℕ) (old new : Seen) : Type 0 where
  pub counted : new.taken ≡ old.taken + 1
  pub closed : new.tally.closed ≡ true
  pub lacks : LacksSecond (bytes ++ byte ∷ []) new.newest

-- What becomes of a byte of a session that isn't over. Where the call failed, either it was not taken, or
-- of the keys that it completed the second may lack.
abbrev pub TakesByte : Result DeskReply DeskError → List ℕ → ℕ → Seen → Seen → Type 0
TakesByte (Ok reply) bytes byte old new = Joins bytes byte old new
TakesByte (Err error) bytes byte old new =
    Stays bytes old new ⊎ (Joins bytes byte old new ⊎ Cuts bytes byte old new)
