-- What a history says of its first calls doesn't hang on those that come later.
use Rattle.std.proofs.Common.{◌≡◌, ℕ, ◌+◌, ◌≤◌, ◌||◌, not, Bool, true, false, List, [], ◌∷◌, length, length-append, refl, ◌∙◌, ap, subst, inl, inr, Option, Some, None, arith}
use Rattle.std.proofs.lemmas.Bool.{and_from, or_left, or_right}
use Rattle.std.proofs.lemmas.List.{take-append-le}
use Rattle.std.specs.Option.{option_map_or}
use Rattle.mc_text.specs.Routes.{Route, same_path}
use Rattle.job_reports.specs.declared.report.Did.{Did}
use Rattle.job_reports.specs.declared.report.Did.TheVariants.{Began, Chunk, Placed, Removed, Made, Set, Kept, Skipped, Cleaned, Barrier, Asked, Merges, Moved, Troubled, Ended}
use Rattle.job_reports.specs.Jobs.{ItemOfJob, folder_changed}
use Rattle.tree_trait.specs.FileSystem.{View}
use Rattle.tree_trait.specs.Change.{Change, CallLog, current}
use Rattle.session_entries.specs.declared.history.Event.{Event}
use Rattle.session_entries.specs.declared.history.Event.TheVariants.{Key, Look, Sought, Order, Step, Next, Closed}
use Rattle.session_entries.specs.declared.history.Event.TheVariants as event
use Rattle.session_entries.specs.declared.history.Entry.{Entry}
use Rattle.session_entries.specs.LiveJobs.{LiveJob, live_item, live_jobs}
use Rattle.laws_sessions.specs.Replayed.{earlier_event, earlier_tree, log_prefix, replayed_event, replayed_tree}
use Rattle.session_entries.specs.Named.{IsUnnamedSince, left_after, left_parts, live_parts, named_after, named_parts, names, names_path}
use Rattle.laws_sessions.proofs.Knowing.{any_since, anywhere, HistoryFacts}
use Rattle.laws_sessions.proofs.Resting.{folder_at}
use Rattle.laws_sessions.proofs.Stepped.{calm_by, folders_by, more}

-- the folders that are known to be on the disk after an event: the one in which a step made a job's first change is, and none that
-- was removed
abbrev pub folders_event : Event → List LiveJob → (Route → Bool) → Route → Bool
folders_event (Step id did) jobs before = option_map_or (λ item. folders_by did (folder_changed item) before) (live_item id jobs) before
folders_event (Key key now refusals lost) jobs before = before
folders_event (Look refusals) jobs before = before
folders_event Sought jobs before = before
folders_event (event.Began id plan background) jobs before = before
folders_event (Order id order) jobs before = before
folders_event (Next id plan) jobs before = before
folders_event Closed jobs before = before

-- after these entries: those that stood at the opening, too
abbrev pub folders_told : CallLog → List Entry → Route → Bool
folders_told opening [] = folder_at (current opening)
folders_told opening (e ∷ older) = folders_event e.what (live_jobs older) (folders_told opening older)

-- the paths that are calm after an event
abbrev pub calm_event : Event → List LiveJob → (Route → Bool) → Route → Bool
calm_event (Step id did) jobs before = option_map_or (λ item. calm_by did item before) (live_item id jobs) before
calm_event (Key key now refusals lost) jobs before = before
calm_event (Look refusals) jobs before = before
calm_event Sought jobs before = before
calm_event (event.Began id plan background) jobs before = before
calm_event (Order id order) jobs before = before
calm_event (Next id plan) jobs before = before
calm_event Closed jobs before = before

-- after these entries: at the opening each is
abbrev pub calm_told : List Entry → Route → Bool
calm_told [] = anywhere
calm_told (e ∷ older) = calm_event e.what (live_jobs older) (calm_told older)

-- what a history says, over a tree that has come to this log
abbrev pub told_of : CallLog → CallLog → List Entry → Option Route → HistoryFacts
told_of opening end g part = record {
  tree = replayed_tree opening end g;
  earlier = earlier_tree opening end g;
  named = named_parts g;
  left = left_parts g;
  part = part;
  doubt = any_since;
  written = any_since;
  folders = folders_told opening g;
  modes = anywhere;
  calm = calm_told g;
}

-- the same after one event more, by which so many calls were made
abbrev pub told_with : CallLog → CallLog → List Entry → ℕ → Event → Option Route → HistoryFacts
told_with opening end older calls what part = record {
  tree = replayed_event (log_prefix opening calls end) what (live_jobs older) (replayed_tree opening end older);
  earlier = earlier_event what (replayed_tree opening end older) (earlier_tree opening end older);
  named = named_after what (live_parts older) (left_parts older) (named_parts older);
  left = left_after what (left_parts older);
  part = part;
  doubt = any_since;
  written = any_since;
  folders = folders_event what (live_jobs older) (folders_told opening older);
  modes = anywhere;
  calm = calm_event what (live_jobs older) (calm_told older);
}

-- the calls of these entries were made
abbrev pub AreWithin : CallLog → List Entry → CallLog → Type 0
AreWithin opening [] now = Unit {0}
AreWithin opening (e ∷ older) now = (length opening.changes + e.calls ≤ length now.changes) × AreWithin opening older now

pub within_more : (opening now : CallLog) (cs : List Change) (g : List Entry) → AreWithin opening g now → AreWithin opening g (more now cs)
within_more opening now cs [] w = tt
within_more opening now cs (e ∷ older) (few, w) = (let n = length-append now.changes cs in omega (arith, few, n), within_more opening now cs older w)

prefix_more : (opening now : CallLog) (cs : List Change) (calls : ℕ) → length opening.changes + calls ≤ length now.changes → log_prefix opening calls (more now cs) ≡ log_prefix opening calls now
prefix_more opening now cs calls few = ap (λ xs. (let l : CallLog = record now { changes = xs } in l)) (take-append-le (length opening.changes + calls) now.changes cs few)

pub replayed_more : (opening now : CallLog) (cs : List Change) (g : List Entry) → AreWithin opening g now → replayed_tree opening (more now cs) g ≡ replayed_tree opening now g
replayed_more opening now cs [] w = refl
replayed_more opening now cs (e ∷ older) (few, w) =
    ap (λ l. replayed_event l e.what (live_jobs older) (replayed_tree opening (more now cs) older)) (prefix_more opening now cs e.calls few)
    ∙ ap (replayed_event (log_prefix opening e.calls now) e.what (live_jobs older)) (replayed_more opening now cs older w)

pub earlier_more : (opening now : CallLog) (cs : List Change) (g : List Entry) → AreWithin opening g now → earlier_tree opening (more now cs) g ≡ earlier_tree opening now g
earlier_more opening now cs [] w = refl
earlier_more opening now cs (e ∷ older) (few, w) =
    ap (λ v. earlier_event e.what v (earlier_tree opening (more now cs) older)) (replayed_more opening now cs older w)
    ∙ ap (earlier_event e.what (replayed_tree opening now older)) (earlier_more opening now cs older w)

abbrev pub said_by : (Route → Bool) → (Route → Bool) → View → View → List Route → List Route → Option Route → HistoryFacts
said_by folders calm tree earlier named left part =
    record { tree = tree; earlier = earlier; named = named; left = left; part = part; doubt = any_since; written = any_since; folders = folders; modes = anywhere; calm = calm }

pub told_more : (opening now : CallLog) (cs : List Change) (g : List Entry) (part : Option Route) → AreWithin opening g now → told_of opening (more now cs) g part ≡ told_of opening now g part
told_more opening now cs g part w =
    ap (λ v. said_by (folders_told opening g) (calm_told g) v (earlier_tree opening (more now cs) g) (named_parts g) (left_parts g) part) (replayed_more opening now cs g w)
    ∙ ap (λ v. said_by (folders_told opening g) (calm_told g) (replayed_tree opening now g) v (named_parts g) (left_parts g) part) (earlier_more opening now cs g w)

-- a folder that is known to be on the disk stays known until a report names it
known_by : (did : Did) (folder : Route) (before : Route → Bool) (p : Route) → names did p ≡ false → before p ≡ true → folders_by did folder before p ≡ true
known_by (Began part) folder before p unnamed h = or_right _ _ h
known_by (Removed path) folder before p unnamed h = and_from (same_path p folder || before p) (not (same_path p path)) (or_right _ _ h) (ap not unnamed)
known_by (Made path) folder before p unnamed h = or_right _ _ h
known_by (Set path) folder before p unnamed h = or_right _ _ h
known_by (Moved pair) folder before p unnamed h = or_left _ _ (and_from (before p) _ h (ap not unnamed))
known_by did folder before p unnamed h = h

known_still : (did : Did) (item : Option ItemOfJob) (before : Route → Bool) (p : Route) → names did p ≡ false → before p ≡ true → option_map_or (λ i. folders_by did (folder_changed i) before) item before p ≡ true
known_still did None before p unnamed h = h
known_still did (Some item) before p unnamed h = known_by did (folder_changed item) before p unnamed h

pub folders_more : (what : Event) (jobs : List LiveJob) (before : Route → Bool) (p : Route) → names_path what p ≡ false → before p ≡ true → folders_event what jobs before p ≡ true
folders_more (Step id did) jobs before p unnamed h = known_still did (live_item id jobs) before p unnamed h
folders_more (Key key now refusals lost) jobs before p unnamed h = h
folders_more (Look refusals) jobs before p unnamed h = h
folders_more Sought jobs before p unnamed h = h
folders_more (event.Began id plan background) jobs before p unnamed h = h
folders_more (Order id order) jobs before p unnamed h = h
folders_more (Next id plan) jobs before p unnamed h = h
folders_more Closed jobs before p unnamed h = h

pub folders_since : (opening : CallLog) (older g : List Entry) (p : Route) → IsUnnamedSince older p g → folders_told opening older p ≡ true → folders_told opening g p ≡ true
folders_since opening older [] p same h = subst (λ x. folders_told opening x p ≡ true) same h
folders_since opening older (e ∷ g) p (inl same) h = subst (λ x. folders_told opening x p ≡ true) same h
folders_since opening older (e ∷ g) p (inr (unnamed, since)) h = folders_more e.what (live_jobs g) (folders_told opening g) p unnamed (folders_since opening older g p since h)
