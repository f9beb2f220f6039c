-- Wherever in a history a job that copies asks, keeps, merges or begins a part beside its target, or one that moves asks, keeps, merges or goes there, that is as was answered to it before, and by what
-- stands there; and so an emptied folder is kept or removed by what lies in it.
use Rattle.std.specs.Prelude.{⊤}
use Rattle.std.proofs.Common.{◌≡◌, ℕ, Bool, true, false, List, [], ◌∷◌, refl, sym, ◌∙◌, ap, subst, inl, inr, Option, Some, append-nil}
use Rattle.mc_text.specs.Routes.{Route}
use Rattle.tree_trait.specs.Shape.{IsTree}
use Rattle.tree_trait.specs.Change.{CallLog, current}
use Rattle.tree_trait.specs.CrashImages.{all_settled}
use Rattle.tree_trait.specs.FileSystem.{View}
use Rattle.laws_crash.specs.Guarded.{Marks}
use Rattle.job_answers.specs.declared.replies.Replies.{Replies}
use Rattle.job_answers.specs.Decisions.{to_questions}
use Rattle.job_reports.specs.Jobs.{ItemOfJob, Copies, Moves, Removes, Makes, MakesLink, Sets, RemovesEmptied}
use Rattle.job_reports.specs.declared.report.Did.{Did}
use Rattle.job_reports.specs.declared.report.Did.TheVariants.{Began, Chunk, Placed, Removed, Made, Set, Kept, Skipped, Cleaned, Barrier, Asked, Merges, Moved, Troubled, Ended}
use Rattle.job_reports.specs.declared.report.Cause.{Cause}
use Rattle.job_reports.specs.declared.report.Trouble.{Trouble}
use Rattle.job_reports.specs.declared.report.Ending.{Ending}
use Rattle.job_reports.specs.declared.report.Ending.TheVariants.{NoMemory}
use Rattle.job_reports.specs.Stops.{out_of_memory_at}
use Rattle.session_entries.specs.declared.history.Entry.{Entry}
use Rattle.session_entries.specs.declared.history.Event.TheVariants.{Step}
use Rattle.session_entries.specs.Entries.{IsMoment}
use Rattle.session_entries.specs.LiveJobs.{live_item, live_jobs}
use Rattle.copy_job.specs.Reporting.{MayTellLast}
use Rattle.copy_job.specs.Standing.{part_of}
use Rattle.make_job.specs.declared.new_thing.NewThing.{NewThing}
use Rattle.make_job.specs.declared.new_thing.NewThing.TheVariants as thing
use Rattle.move_job.specs.Movings as movings
use Rattle.move_job.specs.Movings.{Moving}
use Rattle.copy_move.specs.declared.run.Course.{Course}
use Rattle.copy_move.specs.declared.run.Course.TheVariants.{GoesOn, Asking, InTrouble, OwedSyncFailed, Skips, Ends}
use Rattle.copy_move.specs.declared.work.Work.{Work}
use Rattle.copy_move.specs.declared.work.Work.TheVariants.{Copy, Delete, Make, Move, SetMode, RemoveEmptied}
use Rattle.copy_move.specs.Jobs.{part_of as left_of}
use Rattle.copy_move.specs.Jobs.{CallsOn, Running, TellsOn, WorkCalls, WorkTells, WorkWinds}
use Rattle.copy_move.specs.JobStepReports.{SyncsOwed, Walks, WalksOn}
use Rattle.laws_sessions.specs.Replayed.{replayed_tree}
use Rattle.laws_sessions.specs.Traces.{EventLeads, IsTraced, IsUnclaimed, Stand, StepLeads}
use Rattle.laws_sessions.proofs.Done.{IsFound, found_moment}
use Rattle.laws_sessions.proofs.Going.{only_job}
use Rattle.laws_sessions.proofs.Histories.{traced_reached}
use Rattle.laws_sessions.proofs.JobKnows.{WorkKnows}
use Rattle.laws_sessions.proofs.Reports.{HasLive, JobsKnow, told_item}
use Rattle.laws_sessions.proofs.Knowing.{IsKept, HistoryFacts}
use Rattle.laws_sessions.proofs.Moments.{log_of}
use Rattle.laws_sessions.proofs.Prefixes.{replayed_more, told_of}
use Rattle.laws_sessions.proofs.Sources.{item_in, making_item}
use Rattle.laws_outcomes.specs.Answered.{IsAsAnswered, IsMovedAsAnswered, IsRemovedIfEmpty, asks_still, replies_said}
use Rattle.laws_outcomes.specs.OutcomeLaws.{AnsweredLaw}
use Rattle.laws_outcomes.specs.Begun.{tree_begun}
use Rattle.laws_outcomes.specs.Outcomes.{passed_over}
use Rattle.laws_outcomes.proofs.AnswersSaid.{IsSaid, JobsSaid, traced_said}
use Rattle.laws_outcomes.proofs.Answering.{IsOther, other_as, tree_as}
use Rattle.laws_outcomes.proofs.CopyOutcome.{shows_all}
use Rattle.laws_outcomes.proofs.Doing.{CourseDone, JobDone, JobsDone, WorkDone}
use Rattle.laws_outcomes.proofs.EmptiedAnswers.{emptied_as, emptied_wound}
use Rattle.laws_outcomes.proofs.MovedAnswers.{moved_as}
use Rattle.laws_outcomes.proofs.Outcome.{traced_done}
use Rattle.laws_outcomes.proofs.Touching.{UnlessEnding}

-- last steps ask nothing, keep nothing, merge nothing and begin no part
tree_wound : (ending : Ending) (stands : Option Route) (did : Did) → MayTellLast ending stands did → IsOther did
tree_wound ending stands (Asked question) w = absurd w
tree_wound ending stands (Kept path) w = absurd w
tree_wound ending stands (Began part) w = absurd w
tree_wound ending stands (Merges transfer pair names) w = absurd w
tree_wound ending stands did w = tt

-- what a job that works on an item reports is as was answered
abbrev IsAs : Replies → View → ItemOfJob → Did → Type 0
IsAs replies v (Copies source target) did = IsAsAnswered replies source target v did
IsAs replies v (Moves source target) did = IsMovedAsAnswered replies source target v did
IsAs replies v (Removes path) did = ⊤
IsAs replies v (Makes path) did = ⊤
IsAs replies v (MakesLink path text) did = ⊤
IsAs replies v (Sets path mode) did = ⊤
IsAs replies v (RemovesEmptied path) did = IsRemovedIfEmpty path v did

-- answers to troubles are nothing to it
copies_to_questions : (replies : Replies) (source target : Route) (v : View) (did : Did) → IsAsAnswered replies source target v did → IsAsAnswered (to_questions replies) source target v did
copies_to_questions replies source target v (Asked question) h = h
copies_to_questions replies source target v did h = h

moves_to_questions : (replies : Replies) (source target : Route) (v : View) (did : Did) → IsMovedAsAnswered replies source target v did → IsMovedAsAnswered (to_questions replies) source target v did
moves_to_questions replies source target v (Asked question) h = h
moves_to_questions replies source target v did h = h

to_questions_as : (replies : Replies) (v : View) (item : ItemOfJob) (did : Did) → IsAs replies v item did → IsAs (to_questions replies) v item did
to_questions_as replies v (Copies source target) did h = copies_to_questions replies source target v did h
to_questions_as replies v (Moves source target) did h = moves_to_questions replies source target v did h
to_questions_as replies v (Removes path) did h = h
to_questions_as replies v (Makes path) did h = h
to_questions_as replies v (MakesLink path text) did h = h
to_questions_as replies v (Sets path mode) did h = h
to_questions_as replies v (RemovesEmptied path) did h = h

-- a making asks nothing
made_as : (replies : Replies) (v : View) (did : Did) (new : NewThing) (path : Route) → IsAs replies v (making_item new path) did
made_as replies v did thing.Folder path = tt
made_as replies v did (thing.Link text) path = tt

-- nor does a report of something that is passed over, of a sync, or of a trouble
skipped_as : (replies : Replies) (v : View) (item : ItemOfJob) (path : Route) (cause : Cause) → IsAs replies v item (Skipped path cause)
skipped_as replies v (Copies source target) path cause = tt
skipped_as replies v (Moves source target) path cause = tt
skipped_as replies v (Removes top) path cause = tt
skipped_as replies v (Makes made) path cause = tt
skipped_as replies v (MakesLink made text) path cause = tt
skipped_as replies v (Sets thing mode) path cause = tt
skipped_as replies v (RemovesEmptied folder) path cause = tt

synced_as : (replies : Replies) (v : View) (item : ItemOfJob) → IsAs replies v item Barrier
synced_as replies v (Copies source target) = tt
synced_as replies v (Moves source target) = tt
synced_as replies v (Removes top) = tt
synced_as replies v (Makes made) = tt
synced_as replies v (MakesLink made text) = tt
synced_as replies v (Sets thing mode) = tt
synced_as replies v (RemovesEmptied folder) = tt

troubled_as : (replies : Replies) (v : View) (item : ItemOfJob) (trouble : Trouble) → IsAs replies v item (Troubled trouble)
troubled_as replies v (Copies source target) trouble = tt
troubled_as replies v (Moves source target) trouble = tt
troubled_as replies v (Removes top) trouble = tt
troubled_as replies v (Makes made) trouble = tt
troubled_as replies v (MakesLink made text) trouble = tt
troubled_as replies v (Sets thing mode) trouble = tt
troubled_as replies v (RemovesEmptied folder) trouble = tt

ended_as : (replies : Replies) (v : View) (item : ItemOfJob) (ending : Ending) (part : Option Route) → IsAs replies v item (Ended ending part)
ended_as replies v (Copies source target) ending part = tt
ended_as replies v (Moves source target) ending part = tt
ended_as replies v (Removes top) ending part = tt
ended_as replies v (Makes made) ending part = tt
ended_as replies v (MakesLink made text) ending part = tt
ended_as replies v (Sets thing mode) ending part = tt
ended_as replies v (RemovesEmptied folder) ending part = tt

-- last steps of a move
move_wound : (replies : Replies) (v : View) (ending : Ending) (m new : Moving) (did : Did) → movings.Winds ending m did new → (let pair = m.pair in IsMovedAsAnswered replies pair.source pair.target v did)
move_wound replies v ending m new Barrier w = tt
move_wound replies v ending m new (Ended how part) w = tt
move_wound replies v ending m new did w = absurd w

work_wound : (replies : Replies) (v : View) (ending : Ending) (old new : Work) (did : Did) → WorkWinds ending old did new → IsAs replies v (item_in old) did
work_wound replies v ending (Copy c) (Copy new) did w = (let top = c.top in other_as replies top.source top.target v did (tree_wound ending (part_of c.at.item) did w.may))
work_wound replies v ending (Delete d) new did w = tt
work_wound replies v ending (Make m) new did w = made_as replies v did m.thing m.path
work_wound replies v ending (Move m) (Move new) did w = move_wound replies v ending m new did w
work_wound replies v ending (SetMode s) new did w = tt
work_wound replies v ending (Copy c) (Delete new) did w = absurd w
work_wound replies v ending (Copy c) (Make new) did w = absurd w
work_wound replies v ending (Copy c) (Move new) did w = absurd w
work_wound replies v ending (Copy c) (SetMode new) did w = absurd w
work_wound replies v ending (Move m) (Copy new) did w = absurd w
work_wound replies v ending (Move m) (Delete new) did w = absurd w
work_wound replies v ending (Move m) (Make new) did w = absurd w
work_wound replies v ending (Move m) (SetMode new) did w = absurd w
work_wound replies v ending (RemoveEmptied r) (RemoveEmptied new) did w = emptied_wound v ending r new did w
work_wound replies v ending (RemoveEmptied r) (Copy new) did w = absurd w
work_wound replies v ending (RemoveEmptied r) (Delete new) did w = absurd w
work_wound replies v ending (RemoveEmptied r) (Make new) did w = absurd w
work_wound replies v ending (RemoveEmptied r) (Move new) did w = absurd w
work_wound replies v ending (RemoveEmptied r) (SetMode new) did w = absurd w
work_wound replies v ending (Copy c) (RemoveEmptied new) did w = absurd w
work_wound replies v ending (Move m) (RemoveEmptied new) did w = absurd w

module _ (told : HistoryFacts) (dirty dirty_after : List Route) (marks : Marks) (log now : CallLog) (kept : IsKept told dirty marks log) (passed : List Route) (begun : View) where
  work_as : (replies : Replies) (old new : Work) (did : Did) (calls f0 f1 : ℕ) → WorkTells replies old did new → WorkCalls IsUnclaimed replies old did new log (Some now)
      → Walks IsUnclaimed replies old new did calls dirty dirty_after (Some log) (Some now) f0 f1 → WorkKnows told dirty marks log GoesOn old → WorkDone passed begun told.tree (current log) old → IsAs replies told.tree (item_in old) did
  work_as replies (Copy c) (Copy new) did calls f0 f1 t called walks knows done =
      tree_as told dirty dirty_after marks log now kept c new did (λ pair names is. (let m = t.merged pair names is in m.top)) passed GoesOn walks.free replies calls walks.since f1 knows.part walks.steps done
  work_as replies (Move m) (Move new) did calls f0 f1 t called walks knows done =
      moved_as told.tree log kept.known.guarded.tree (shows_all told dirty marks log kept knows.none) replies m new did (Some now) t called
  work_as replies (Delete d) new did calls f0 f1 t called walks knows done = tt
  work_as replies (Make m) new did calls f0 f1 t called walks knows done = made_as replies told.tree did m.thing m.path
  work_as replies (SetMode s) new did calls f0 f1 t called walks knows done = tt
  work_as replies (Copy c) (Delete new) did calls f0 f1 t called walks knows done = absurd t
  work_as replies (Copy c) (Make new) did calls f0 f1 t called walks knows done = absurd t
  work_as replies (Copy c) (Move new) did calls f0 f1 t called walks knows done = absurd t
  work_as replies (Copy c) (SetMode new) did calls f0 f1 t called walks knows done = absurd t
  work_as replies (Move m) (Copy new) did calls f0 f1 t called walks knows done = absurd t
  work_as replies (Move m) (Delete new) did calls f0 f1 t called walks knows done = absurd t
  work_as replies (Move m) (Make new) did calls f0 f1 t called walks knows done = absurd t
  work_as replies (Move m) (SetMode new) did calls f0 f1 t called walks knows done = absurd t
  work_as replies (RemoveEmptied r) (RemoveEmptied new) did calls f0 f1 t called walks knows done = emptied_as told.tree log (shows_all told dirty marks log kept knows.1) replies r new did (Some now) t called
  work_as replies (RemoveEmptied r) (Copy new) did calls f0 f1 t called walks knows done = absurd t
  work_as replies (RemoveEmptied r) (Delete new) did calls f0 f1 t called walks knows done = absurd t
  work_as replies (RemoveEmptied r) (Make new) did calls f0 f1 t called walks knows done = absurd t
  work_as replies (RemoveEmptied r) (Move new) did calls f0 f1 t called walks knows done = absurd t
  work_as replies (RemoveEmptied r) (SetMode new) did calls f0 f1 t called walks knows done = absurd t
  work_as replies (Copy c) (RemoveEmptied new) did calls f0 f1 t called walks knows done = absurd t
  work_as replies (Move m) (RemoveEmptied new) did calls f0 f1 t called walks knows done = absurd t

  course_as : (job new : Running) (did : Did) (course : Course) (asks : Bool) (said : Replies) (calls f0 f1 : ℕ) → TellsOn course job did new → CallsOn IsUnclaimed course job did new log (Some now)
      → WalksOn IsUnclaimed job.replies course job.work new.work did calls dirty dirty_after (Some log) (Some now) f0 f1 → WorkKnows told dirty marks log course job.work → CourseDone course passed begun told.tree (current log) job.work
      → UnlessEnding course (IsSaid asks said course job.replies) → IsAs said told.tree (item_in job.work) did
  course_as job new did GoesOn asks said calls f0 f1 (work, t, new_is) called walks knows done k =
      subst (λ r. IsAs r told.tree (item_in job.work) did) k.1
      (to_questions_as job.replies told.tree (item_in job.work) did
      (work_as job.replies job.work new.work did calls f0 f1 (subst (WorkTells job.replies job.work did) (sym (ap (λ (x : Running). x.work) new_is)) t) called walks knows done))
  course_as job new did (InTrouble halt) asks said calls f0 f1 t called walks knows done k = absurd t
  course_as job new did (OwedSyncFailed cause) asks said calls f0 f1 t called walks knows done k = absurd t
  course_as job new did Asking asks said calls f0 f1 t called walks knows done k = absurd t
  course_as job new did (Skips cause) asks said calls f0 f1 (inl (path, work, did_is, passes, new_is)) called walks knows done k = subst (λ (d : Did). IsAs said told.tree (item_in job.work) d) (sym did_is) (skipped_as said told.tree (item_in job.work) path cause)
  course_as job new did (Skips cause) asks said calls f0 f1 (inr (off, did_is, new_is)) called walks knows done k =
      subst (λ (d : Did). IsAs said told.tree (item_in job.work) d) (sym did_is) (troubled_as said told.tree (item_in job.work) (out_of_memory_at false))
  course_as job new did (Ends ending) asks said calls f0 f1 (work, winds, new_is) called walks knows done k = work_wound said told.tree ending job.work work did winds

  leads_as : (job : Running) (did : Did) (new : Option Running) (asks : Bool) (said : Replies) → StepLeads job did new dirty dirty_after log now → WorkKnows told dirty marks log job.course job.work
      → JobDone passed begun told.tree (current log) job → UnlessEnding job.course (IsSaid asks said job.course job.replies) → IsAs said told.tree (item_in job.work) did
  leads_as job did new asks said (inl (next, inl works, after_is)) knows done k =
      let w = works.walks in
      course_as job next did job.course asks said w.0 w.1 w.2 works.tells works.called w.3 knows done k
  leads_as job did new asks said (inl (next, inr syncs, after_is)) knows done k = by syncs.synced
    where
      by : SyncsOwed job syncs.path did next dirty dirty_after (Some log) (Some now) → IsAs said told.tree (item_in job.work) did
      by (inl s) = subst (λ (d : Did). IsAs said told.tree (item_in job.work) d) (sym s.did_is) (synced_as said told.tree (item_in job.work))
      by (inr s) = subst (λ (d : Did). IsAs said told.tree (item_in job.work) d) (sym s.did_is) (troubled_as said told.tree (item_in job.work) s.trouble)
  leads_as job did new asks said (inr (gives, after_is)) knows done k =
      subst (λ (d : Did). IsAs said told.tree (item_in job.work) d) (sym gives.did_is) (ended_as said told.tree (item_in job.work) NoMemory (left_of job.work))

module _ (opening now : CallLog) (tree : IsTree (current opening)) (settled : all_settled opening.changes ≡ true) (e : Entry) (older : List Entry) (id : ℕ) (did : Did) (item : ItemOfJob) (what : e.what ≡ Step id did)
    (its : live_item id (live_jobs older) ≡ Some item) where
  answered_by : IsFound opening tree settled now e older → IsAs (replies_said id older) (replayed_tree opening now older) item did
  answered_by f = by (subst (λ x. EventLeads f.was x f.after f.before f.now) what f.leads)
    where
      by : EventLeads f.was (Step id did) f.after f.before f.now → IsAs (replies_said id older) (replayed_tree opening now older) item did
      by s =
          let r = traced_reached opening tree settled older f.was f.before f.traced in
          let job = s.job in
          let one = only_job id f.was.jobs s.job (told_of opening f.before older r.part) f.was.dirty r.marks f.before s.its r.knows in
          let done : JobDone (passed_over job.id older) (tree_begun opening f.before job.id older) (replayed_tree opening f.before older) (current f.before) job =
          subst (λ js. JobsDone (λ n. passed_over n older) (λ n. tree_begun opening f.before n older) (replayed_tree opening f.before older) (current f.before) js) one.0 (traced_done opening tree settled older f.was f.before f.traced) in
          let said = subst (λ js. JobsSaid (λ n. asks_still n older) (λ n. replies_said n older) js) one.0 (traced_said opening tree settled older f.was f.before f.traced) in
          let same = told_item job (live_jobs older) r.part item (subst (λ js. HasLive (live_jobs older) js r.part) one.0 r.live) (ap (λ n. live_item n (live_jobs older)) one.1 ∙ its) in
          subst (λ (v : View). IsAs (replies_said id older) v item did) (sym (ap (λ (l : CallLog). replayed_tree opening l older) f.end_is ∙ replayed_more opening f.before f.rest older r.within))
          (subst (λ n. IsAs (replies_said n older) (replayed_tree opening f.before older) item did) one.1
          (subst (λ i. IsAs (replies_said job.id older) (replayed_tree opening f.before older) i did) same
          (leads_as (told_of opening f.before older r.part) f.was.dirty f.after.dirty r.marks f.before f.now r.kept (passed_over job.id older) (tree_begun opening f.before job.id older) job did s.new (asks_still job.id older) (replies_said job.id older) s.leads
          (subst (λ js. JobsKnow (told_of opening f.before older r.part) f.was.dirty r.marks f.before js) one.0 r.knows) done said)))

module _ (opening now : CallLog) (newest : List Entry) (stand : Stand) (tree : IsTree (current opening)) (settled : all_settled opening.changes ≡ true) (traced : IsTraced opening newest stand now) where
  follows : (e : Entry) (older : List Entry) (id : ℕ) (did : Did) (item : ItemOfJob) → e.what ≡ Step id did → live_item id (live_jobs older) ≡ Some item → IsMoment newest (e ∷ older) (e ∷ older) e.calls
      → IsAs (replies_said id older) (replayed_tree opening now older) item did
  follows e older id did item what its moment =
      answered_by opening now tree settled e older id did item what its
      (found_moment opening tree settled now e older [] newest (e ∷ older) (e ∷ older) stand e.calls now [] traced (ap (log_of now) (sym (append-nil now.changes))) moment (inl refl))

pub answered_law : AnsweredLaw
answered_law opening now newest stand tree settled traced = record {
  copies = λ e older id did source target what its moment. follows opening now newest stand tree settled traced e older id did (Copies source target) what its moment;
  moves = λ e older id did source target what its moment. follows opening now newest stand tree settled traced e older id did (Moves source target) what its moment;
  emptied = λ e older id did path what its moment. follows opening now newest stand tree settled traced e older id did (RemovesEmptied path) what its moment;
}
