-- What a step of a job reports that names a path, by what the job is at.
use Rattle.std.proofs.Common.{◌≡◌, ◌⊎◌, ℕ, Bool, true, false, List, [], ◌∷◌, ◌++◌, refl, sym, ◌∙◌, ap, subst, inl, inr, Option, Some, None, Ok}
use Rattle.std.specs.Prelude.{⊤, ◌||◌, is_some, option_and_then}
use Rattle.std.specs.Option.{option_map}
use Rattle.std.proofs.lemmas.Bool.{false≢true}
use Rattle.mc_text.specs.Routes.{Route, is_prefix, same_path}
use Rattle.tree_trait.specs.Change.{CallLog, current}
use Rattle.tree_trait.specs.Answers.{Performs}
use Rattle.tree_trait.specs.Refusals.{refusal_of}
use Rattle.tree_trait.specs.CrashImages.{Among}
use Rattle.tree_trait.specs.FileSystem.{Value, View, find, lookup, node, value}
use Rattle.tree_trait.specs.declared.file_system.FileSystem.{FileSystem}
use Rattle.tree_trait.proofs.Visible.{same_path-self, same_path-true}
use Rattle.laws_crash.specs.Guarded.{Marks}
use Rattle.laws_crash.proofs.Tops.{none_below}
use Rattle.job_answers.specs.declared.replies.Replies.{Replies}
use Rattle.job_reports.specs.declared.job.Pair.{Pair}
use Rattle.job_reports.specs.declared.report.Cause.{Cause}
use Rattle.job_reports.specs.declared.report.Trouble.{Trouble}
use Rattle.job_reports.specs.declared.report.Did.{Did}
use Rattle.job_reports.specs.declared.report.Did.TheVariants.{Began, Chunk, Placed, Removed, Made, Set, Kept, Skipped, Cleaned, Barrier, Asked, Merges, Moved, Troubled, Ended}
use Rattle.job_reports.specs.declared.report.Ending.{Ending}
use Rattle.job_reports.specs.declared.report.Ending.TheVariants.{Finished, Aborted, Killed, NoMemory}
use Rattle.job_reports.specs.Jobs.{ItemOfJob, Copies, Moves, Removes, Makes, MakesLink, Sets, RemovesEmptied, new_folder_mode}
use Rattle.job_reports.specs.Paths.{folder_of}
use Rattle.job_reports.proofs.CallAnswers.{done_call}
use Rattle.job_reports.proofs.PermittedCalls.{IsMaking, making_passes}
use Rattle.session_entries.specs.Named.{names}
use Rattle.laws_outcomes.specs.Touched.{touches}
use Rattle.make_job.specs.declared.new_thing.NewThing.{NewThing}
use Rattle.make_job.specs.declared.new_thing.NewThing.TheVariants as thing
use Rattle.make_job.specs.Makings as makings
use Rattle.make_job.specs.Makings.{Making, MakingCalls}
use Rattle.make_job.specs.NewThings.{making_call}
use Rattle.delete_job.specs.Deletions as deletions
use Rattle.delete_job.specs.Deletions.{Deleting}
use Rattle.move_job.specs.Movings as movings
use Rattle.move_job.specs.Movings.{Moving}
use Rattle.mode_job.specs.Settings as settings
use Rattle.mode_job.specs.Settings.{Setting}
use Rattle.mode_job.specs.ModeSettings as modes
use Rattle.emptied_job.specs.Removals as removals
use Rattle.emptied_job.specs.Removals.{Removing}
use Rattle.copy_job.specs.Reporting.{MayTell, MayTellLast}
use Rattle.copy_job.specs.Standing.{SubtreeCopying, part_of}
use Rattle.copy_tree.specs.InPlace.{IsMoved}
use Rattle.copy_move.specs.declared.run.Course.{Course}
use Rattle.copy_move.specs.declared.run.Course.TheVariants.{GoesOn, Asking, InTrouble, OwedSyncFailed, Skips, Ends}
use Rattle.copy_move.specs.declared.work.Work.{Work}
use Rattle.copy_move.specs.declared.work.Work.TheVariants.{Copy, Delete, Make, Move, SetMode, RemoveEmptied}
use Rattle.copy_move.specs.Jobs.{CallsOn, Running, TellsOn, WorkCalls, WorkTells, WorkWinds}
use Rattle.copy_move.specs.Jobs as jobs
use Rattle.copy_move.specs.JobStepReports.{SyncsOwed, Walks, WalksOn}
use Rattle.laws_sessions.specs.Traces.{IsUnclaimed, StepLeads, WorkLeads}
use Rattle.laws_sessions.proofs.HollowThings.{none_below_file}
use Rattle.laws_sessions.proofs.OwedModes.{ShowsTree}
use Rattle.laws_sessions.proofs.JobKnows.{WorkKnows}
use Rattle.laws_sessions.proofs.Knowing.{IsKept, HistoryFacts}
use Rattle.laws_sessions.proofs.Sources.{item_in, making_item}
use Rattle.laws_sessions.proofs.TreeKnown.{ItemHas, LeavesPart, leaves_part}
use Rattle.laws_outcomes.proofs.ApartPaths.{AreApart, GoesTo}
use Rattle.laws_sessions.proofs.ChangedPaths.{IsChanged}
use Rattle.laws_outcomes.proofs.CutCopies.{CopyFact, copy_fact}
use Rattle.laws_outcomes.proofs.Doing.{CourseDone, JobDone, WorkDone, goes_to, stands}
use Rattle.laws_outcomes.proofs.CopyOutcome.{shows_all}
use Rattle.laws_outcomes.proofs.FileWork.{none_shown}

-- the report names no path
abbrev pub IsPlainReport : Did → Type 0
IsPlainReport (Chunk count) = ⊤
IsPlainReport (Kept path) = ⊤
IsPlainReport (Skipped path cause) = ⊤
IsPlainReport (Asked question) = ⊤
IsPlainReport (Merges transfer pair names) = ⊤
IsPlainReport Barrier = ⊤
IsPlainReport (Troubled trouble) = ⊤
IsPlainReport (Ended ending part) = part ≡ None
IsPlainReport (Began part) = ⊥
IsPlainReport (Placed path) = ⊥
IsPlainReport (Removed path) = ⊥
IsPlainReport (Made path) = ⊥
IsPlainReport (Set path) = ⊥
IsPlainReport (Cleaned part) = ⊥
IsPlainReport (Moved pair) = ⊥

-- it names nothing, or only what is removed
abbrev pub OnlyRemoves : ItemOfJob → Did → Type 0
OnlyRemoves item (Removed path) = touches item path ≡ true
OnlyRemoves item did = IsPlainReport did

-- or only what is made, where nothing stands
abbrev pub OnlyMakes : Route → View → Did → Type 0
OnlyMakes path v (Made made) = (made ≡ path) × ((v path).value ≡ None)
OnlyMakes path v did = IsPlainReport did

-- or only what is given a mode, where something stands
abbrev pub OnlySets : Route → View → Did → Type 0
OnlySets path v (Set changed) = (changed ≡ path) × ((x : Value) × ((v path).value ≡ Some x))
OnlySets path v did = IsPlainReport did

-- What is moved stands, lies apart from where it goes, and nothing lies below that.
pub record IsGoing (v : View) (moved : Pair) : Type 0 where
  pub apart : AreApart moved
  pub some : is_some (v moved.source).value ≡ true
  pub under : (name : List ℕ) (rest : Route) → (v (name ∷ rest ++ moved.target)).value ≡ None

-- or only what is moved
abbrev pub OnlyMoves : View → Pair → Did → Type 0
OnlyMoves v moved (Moved pair) = (pair ≡ moved) × IsGoing v moved
OnlyMoves v moved did = IsPlainReport did

-- an end names the part that stands, or none
abbrev pub EndFact : Option Route → Did → Type 0
EndFact stood (Ended ending part) = (part ≡ None) ⊎ (stood ≡ part)
EndFact stood did = ⊤

abbrev pub pair_at : Route → Route → Pair
pair_at source target = record { source = source; target = target }

abbrev pub StepFact : ItemOfJob → View → Option Route → Did → Type 0
StepFact (Copies source target) v stood did = CopyFact (pair_at source target) v stood did × EndFact stood did
StepFact (Moves source target) v stood did = OnlyMoves v (pair_at source target) did
StepFact (Removes top) v stood did = OnlyRemoves (Removes top) did
StepFact (Makes made) v stood did = OnlyMakes made v did
StepFact (MakesLink made text) v stood did = OnlyMakes made v did
StepFact (Sets path mode) v stood did = OnlySets path v did
StepFact (RemovesEmptied folder) v stood did = OnlyRemoves (RemovesEmptied folder) did

-- what is passed over, waited with or synced names nothing
module _ (v : View) (stood : Option Route) where
  skipped_fact : (item : ItemOfJob) (path : Route) (cause : Cause) → StepFact item v stood (Skipped path cause)
  skipped_fact (Copies source target) path cause = (tt, tt)
  skipped_fact (Moves source target) path cause = tt
  skipped_fact (Removes top) path cause = tt
  skipped_fact (Makes made) path cause = tt
  skipped_fact (MakesLink made text) path cause = tt
  skipped_fact (Sets thing mode) path cause = tt
  skipped_fact (RemovesEmptied folder) path cause = tt

  troubled_fact : (item : ItemOfJob) (trouble : Trouble) → StepFact item v stood (Troubled trouble)
  troubled_fact (Copies source target) trouble = (tt, tt)
  troubled_fact (Moves source target) trouble = tt
  troubled_fact (Removes top) trouble = tt
  troubled_fact (Makes made) trouble = tt
  troubled_fact (MakesLink made text) trouble = tt
  troubled_fact (Sets thing mode) trouble = tt
  troubled_fact (RemovesEmptied folder) trouble = tt

  synced_fact : (item : ItemOfJob) → StepFact item v stood Barrier
  synced_fact (Copies source target) = (tt, tt)
  synced_fact (Moves source target) = tt
  synced_fact (Removes top) = tt
  synced_fact (Makes made) = tt
  synced_fact (MakesLink made text) = tt
  synced_fact (Sets thing mode) = tt
  synced_fact (RemovesEmptied folder) = tt

  made_only : (new : NewThing) (path : Route) (did : Did) → OnlyMakes path v did → StepFact (making_item new path) v stood did
  made_only thing.Folder path did k = k
  made_only (thing.Link text) path did k = k

deletion_fact : (replies : Replies) (d new : Deleting) (did : Did) → deletions.Tells replies d did new → OnlyRemoves (Removes d.path) did
deletion_fact replies d new (Removed path) (off, within, at) = within
deletion_fact replies d new (Kept path) t = tt
deletion_fact replies d new (Skipped path cause) t = tt
deletion_fact replies d new (Troubled trouble) t = tt
deletion_fact replies d new Barrier t = tt
deletion_fact replies d new (Ended Finished part) (stage, part_is, at) = part_is
deletion_fact replies d new did t = absurd t

making_fact : (m new : Making) (did : Did) (v : View) → ((path : Route) → did ≡ Made path → path ≡ m.path → (v m.path).value ≡ None) → makings.Tells m did new → OnlyMakes m.path v did
making_fact m new (Made path) v free (stage, path_is, new_is) = (path_is, free path refl path_is)
making_fact m new Barrier v free t = tt
making_fact m new (Troubled trouble) v free t = tt
making_fact m new (Ended Finished part) v free (is_done, part_is, new_is) = part_is
making_fact m new did v free t = absurd t

-- the call that makes a thing is refused where one stands
making_free : (s : FileSystem) (new : NewThing) (name : List ℕ) (up : Route) → refusal_of s (making_call new (name ∷ up)) ≡ None → find s (name ∷ up) ≡ None
making_free s new name up permits = ap (option_and_then (λ f. lookup s.names f name)) passes.folder ∙ passes.none
  where
    as_file : (new : NewThing) → refusal_of s (making_call new (name ∷ up)) ≡ None → IsMaking s name up
    as_file thing.Folder h = making_passes s name up new_folder_mode h
    as_file (thing.Link text) h = making_passes s name up 0 h

    passes : IsMaking s name up
    passes = as_file new permits

setting_fact : (replies : Replies) (s new : Setting) (did : Did) (v : View) → ((path : Route) → did ≡ Set path → (x : Value) × ((v s.path).value ≡ Some x)) → settings.Tells replies s did new → OnlySets s.path v did
setting_fact replies s new (Set path) v stands_there (stage, path_is, new_is) = (path_is, stands_there path refl)
setting_fact replies s new (Skipped path cause) v stands_there t = tt
setting_fact replies s new (Troubled trouble) v stands_there t = tt
setting_fact replies s new Barrier v stands_there t = tt
setting_fact replies s new (Ended Finished part) v stands_there (is_done, part_is, new_is) = part_is
setting_fact replies s new did v stands_there t = absurd t

moving_fact : (replies : Replies) (m new : Moving) (did : Did) (v : View) → ((pair : Pair) → did ≡ Moved pair → IsGoing v m.pair) → movings.Tells replies m did new → OnlyMoves v m.pair did
moving_fact replies m new (Moved pair) v apart (stage, pair_is, new_is) = (pair_is, apart pair refl)
moving_fact replies m new (Kept path) v apart t = tt
moving_fact replies m new (Skipped path cause) v apart t = tt
moving_fact replies m new Barrier v apart t = tt
moving_fact replies m new (Asked question) v apart t = tt
moving_fact replies m new (Merges transfer pair names) v apart t = tt
moving_fact replies m new (Troubled trouble) v apart t = tt
moving_fact replies m new (Ended Finished part) v apart (is_done, part_is, new_is) = part_is
moving_fact replies m new did v apart t = absurd t

removal_fact : (replies : Replies) (r new : Removing) (did : Did) → removals.Tells replies r did new → OnlyRemoves (RemovesEmptied r.path) did
removal_fact replies r new (Removed path) (stage, path_is, new_is) = subst (λ p. same_path p r.path ≡ true) (sym path_is) (same_path-self r.path)
removal_fact replies r new (Kept path) t = tt
removal_fact replies r new (Skipped path cause) t = tt
removal_fact replies r new Barrier t = tt
removal_fact replies r new (Troubled trouble) t = tt
removal_fact replies r new (Ended Finished part) (is_done, part_is, new_is) = part_is
removal_fact replies r new did t = absurd t

-- the part that a copy at its end leaves is the one that stands
left_same : (told : HistoryFacts) (s : FileSystem) (o : Option Route) → LeavesPart told s o → told.part ≡ o
left_same told s None none = none
left_same told s (Some part) left = left.part_is

-- a copy that goes on ends only where no part stands
may_end : (stood : Option Route) (did : Did) → MayTell did → EndFact stood did
may_end stood (Ended Finished part) may = inl may
may_end stood (Ended Aborted part) may = absurd may
may_end stood (Ended Killed part) may = absurd may
may_end stood (Ended NoMemory part) may = absurd may
may_end stood (Began part) may = tt
may_end stood (Chunk count) may = tt
may_end stood (Placed path) may = tt
may_end stood (Removed path) may = tt
may_end stood (Made path) may = tt
may_end stood (Set path) may = tt
may_end stood (Kept path) may = tt
may_end stood (Skipped path cause) may = tt
may_end stood (Cleaned part) may = tt
may_end stood Barrier may = tt
may_end stood (Asked question) may = tt
may_end stood (Merges transfer pair names) may = tt
may_end stood (Moved pair) may = tt
may_end stood (Troubled trouble) may = tt

module _ (told : HistoryFacts) (dirty dirty_after : List Route) (marks : Marks) (log now : CallLog) (kept : IsKept told dirty marks log) where
  abbrev Fact : Work → Did → Type 0
  Fact work did = StepFact (item_in work) told.tree told.part did

  -- what is moved goes so
  going : (m : Moving) → told.part ≡ None → GoesTo log m.pair → IsGoing told.tree m.pair
  going m none g = record {
    apart = g.apart;
    some = ap is_some (sym (shows m.pair.source) ∙ ap (option_map (λ i. value (node (current log) i))) g.leads);
    under = λ name rest. none_shown told.tree log kept.known.guarded.tree shows (name ∷ rest ++ m.pair.target) (under name rest (find (current log) m.pair.target) refl);
  }
    where
      shows : ShowsTree told.tree log
      shows = shows_all told dirty marks log kept none

      under : (name : List ℕ) (rest : Route) (o : Option ℕ) → find (current log) m.pair.target ≡ o → find (current log) (name ∷ rest ++ m.pair.target) ≡ None
      under name rest None free = none_below log (name ∷ rest) m.pair.target free
      under name rest (Some i) at = none_below_file (current log) kept.known.guarded.tree m.pair.target i at (g.bare i at) name rest

  -- where something is made nothing stood
  makes_free : (m : Making) (did : Did) → WorkKnows told dirty marks log GoesOn (Make m) → MakingCalls m did log (Some now) → (path : Route) → did ≡ Made path → path ≡ m.path → (told.tree m.path).value ≡ None
  makes_free m did (name, none) called path did_is path_is =
      let made = subst (λ q. Performs {A = Unit {0}} log (making_call m.thing q) (Ok tt) (Some now)) path_is (subst (λ (d : Did). MakingCalls m d log (Some now)) did_is called) in
      let d = done_call log (making_call m.thing (name.name ∷ folder_of m.path)) now (subst (λ q. Performs {A = Unit {0}} log (making_call m.thing q) (Ok tt) (Some now)) name.is made) in
      none_shown told.tree log kept.known.guarded.tree (shows_all told dirty marks log kept none) m.path
      (ap (find (current log)) name.is ∙ making_free (current log) m.thing name.name (folder_of m.path) d.permits)

  -- the work goes on
  work_fact : (replies : Replies) (old new : Work) (did : Did) (calls faults faults_after : ℕ) (passed : List Route) (begun : View) → WorkKnows told dirty marks log GoesOn old → WorkTells replies old did new
      → WorkCalls IsUnclaimed replies old did new log (Some now) → Walks IsUnclaimed replies old new did calls dirty dirty_after (Some log) (Some now) faults faults_after → WorkDone passed begun told.tree (current log) old → Fact old did
  work_fact replies (Copy c) (Copy new) did calls faults faults_after passed begun knows t called walks k =
      (copy_fact told dirty dirty_after marks log now kept c.top c new did passed walks.free replies calls walks.since faults_after refl knows.part walks.steps k, may_end told.part did t.may)
  work_fact replies (Delete d) (Delete new) did calls faults faults_after passed begun knows t called walks k = deletion_fact replies d new did t
  work_fact replies (Make m) (Make new) did calls faults faults_after passed begun knows t called walks k =
      made_only told.tree told.part m.thing m.path did (making_fact m new did told.tree (makes_free m did knows called) t)
  work_fact replies (Move m) (Move new) did calls faults faults_after passed begun knows t called walks k =
      moving_fact replies m new did told.tree (λ pair is. going m knows.none (goes_to told dirty dirty_after marks log now kept begun replies m did knows called pair is)) t
  work_fact replies (SetMode s) (SetMode new) did calls faults faults_after passed begun knows t called walks k =
      setting_fact replies s new did told.tree (stands told dirty dirty_after marks log now kept begun s did knows called) t
  work_fact replies (RemoveEmptied r) (RemoveEmptied new) did calls faults faults_after passed begun knows t called walks k = removal_fact replies r new did t
  work_fact replies old new did calls faults faults_after passed begun knows t called walks k = absurd t

  -- a last step
  deletion_wound : (ending : Ending) (d new : Deleting) (did : Did) → deletions.Winds ending d did new → OnlyRemoves (Removes d.path) did
  deletion_wound ending d new Barrier t = tt
  deletion_wound ending d new (Ended how part) (how_is, part_is, path_is, stage_is) = part_is
  deletion_wound ending d new did t = absurd t

  making_wound : (ending : Ending) (m new : Making) (did : Did) → makings.Winds ending m did new → OnlyMakes m.path told.tree did
  making_wound ending m new Barrier t = tt
  making_wound ending m new (Ended how part) (stage, how_is, part_is, new_is) = part_is
  making_wound ending m new did t = absurd t

  moving_wound : (ending : Ending) (m new : Moving) (did : Did) → movings.Winds ending m did new → OnlyMoves told.tree m.pair did
  moving_wound ending m new Barrier t = tt
  moving_wound ending m new (Ended how part) (clean, how_is, part_is, new_is) = part_is
  moving_wound ending m new did t = absurd t

  setting_wound : (ending : Ending) (s new : Setting) (did : Did) → modes.Winds ending s did new → OnlySets s.path told.tree did
  setting_wound ending s new Barrier t = tt
  setting_wound ending s new (Ended how part) (clean, how_is, part_is, new_is) = part_is
  setting_wound ending s new did t = absurd t

  removal_wound : (ending : Ending) (r new : Removing) (did : Did) → removals.Winds ending r did new → OnlyRemoves (RemovesEmptied r.path) did
  removal_wound ending r new Barrier t = tt
  removal_wound ending r new (Ended how part) (clean, how_is, part_is, new_is) = part_is
  removal_wound ending r new did t = absurd t

  copy_wound : (ending : Ending) (c : SubtreeCopying) (did : Did) → told.part ≡ part_of c.at.item → MayTellLast ending (part_of c.at.item) did → StepFact (Copies c.top.source c.top.target) told.tree told.part did
  copy_wound ending c (Cleaned part) same may = (same ∙ may, tt)
  copy_wound ending c Barrier same may = (tt, tt)
  copy_wound ending c (Ended how part) same (how_is, part_is) = (tt, inr (same ∙ sym part_is))
  copy_wound ending c did same may = absurd may

  wound_fact : (ending : Ending) (course : Course) (old new : Work) (did : Did) → WorkKnows told dirty marks log course old → WorkWinds ending old did new → Fact old did
  wound_fact ending course (Copy c) (Copy new) did knows w = copy_wound ending c did (left_same told (current log) (part_of c.at.item) (leaves_part told dirty marks (current log) course c.at.item knows.part)) w.may
  wound_fact ending course (Delete d) (Delete new) did knows w = deletion_wound ending d new did w
  wound_fact ending course (Make m) (Make new) did knows w = made_only told.tree told.part m.thing m.path did (making_wound ending m new did w)
  wound_fact ending course (Move m) (Move new) did knows w = moving_wound ending m new did w
  wound_fact ending course (SetMode s) (SetMode new) did knows w = setting_wound ending s new did w
  wound_fact ending course (RemoveEmptied r) (RemoveEmptied new) did knows w = removal_wound ending r new did w
  wound_fact ending course old new did knows w = absurd w

  -- a step, however the job goes
  course_fact : (job new : Running) (did : Did) (course : Course) (calls faults faults_after : ℕ) (passed : List Route) (begun : View) → WorkKnows told dirty marks log course job.work → TellsOn course job did new
      → CallsOn IsUnclaimed course job did new log (Some now) → WalksOn IsUnclaimed job.replies course job.work new.work did calls dirty dirty_after (Some log) (Some now) faults faults_after
      → CourseDone course passed begun told.tree (current log) job.work → Fact job.work did
  course_fact job new did GoesOn calls faults faults_after passed begun knows (work, t, new_is) called walks k =
      work_fact job.replies job.work new.work did calls faults faults_after passed begun knows (subst (WorkTells job.replies job.work did) (sym (ap (λ (x : Running). x.work) new_is)) t) called walks k
  course_fact job new did (InTrouble halt) calls faults faults_after passed begun knows t called walks k = absurd t
  course_fact job new did (OwedSyncFailed cause) calls faults faults_after passed begun knows t called walks k = absurd t
  course_fact job new did Asking calls faults faults_after passed begun knows t called walks k = absurd t
  course_fact job new did (Skips cause) calls faults faults_after passed begun knows (inl (path, work, did_is, passes, new_is)) called walks k =
      subst (Fact job.work) (sym did_is) (skipped_fact told.tree told.part (item_in job.work) path cause)
  course_fact job new did (Skips cause) calls faults faults_after passed begun knows (inr (off, did_is, new_is)) called walks k =
      subst (Fact job.work) (sym did_is) (troubled_fact told.tree told.part (item_in job.work) _)
  course_fact job new did (Ends ending) calls faults faults_after passed begun knows (work, winds, new_is) called walks k = wound_fact ending (Ends ending) job.work work did knows winds

  -- out of memory
  gives_up : (course : Course) (work : Work) → WorkKnows told dirty marks log course work → Fact work (Ended NoMemory (jobs.part_of work))
  gives_up course (Copy c) knows = (tt, inr (left_same told (current log) (part_of c.at.item) (leaves_part told dirty marks (current log) course c.at.item knows.part)))
  gives_up course (Delete d) knows = refl
  gives_up course (Make m) knows = made_only told.tree told.part m.thing m.path (Ended NoMemory None) refl
  gives_up course (Move m) knows = refl
  gives_up course (SetMode s) knows = refl
  gives_up course (RemoveEmptied r) knows = refl

  pub leads_fact : (job : Running) (did : Did) (after : Option Running) (passed : List Route) (begun : View) → WorkKnows told dirty marks log job.course job.work → JobDone passed begun told.tree (current log) job
      → StepLeads job did after dirty dirty_after log now → Fact job.work did
  leads_fact job did after passed begun knows k (inl (new, inl w, after_is)) = let x = w.walks in course_fact job new did job.course x.0 x.1 x.2 passed begun knows w.tells w.called x.3 k
  leads_fact job did after passed begun knows k (inl (new, inr syncs, after_is)) = by syncs.synced
    where
      by : SyncsOwed job syncs.path did new dirty dirty_after (Some log) (Some now) → Fact job.work did
      by (inl s) = subst (Fact job.work) (sym s.did_is) (synced_fact told.tree told.part (item_in job.work))
      by (inr s) = subst (Fact job.work) (sym s.did_is) (troubled_fact told.tree told.part (item_in job.work) s.trouble)
  leads_fact job did after passed begun knows k (inr (gives, after_is)) = subst (Fact job.work) (sym gives.did_is) (gives_up job.course job.work knows)
