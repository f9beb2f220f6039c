-- What the step that finishes a source leaves: it makes no call, no folder gets dirty or clean by it, and its number, its part and what was answered stay.
use Rattle.std.proofs.Common.{◌≡◌, ℕ, Bool, true, false, refl, sym, ◌∙◌, ap, subst, inl, inr, List, Option, Some, None}
use Rattle.std.specs.Option.{option_map}
use Rattle.mc_text.specs.Routes.{Route}
use Rattle.tree_trait.specs.Change.{CallLog}
use Rattle.tree_trait.specs.Answers.{IfKnown}
use Rattle.job_answers.specs.declared.replies.Replies.{Replies}
use Rattle.job_reports.specs.declared.job.Job.{Job}
use Rattle.job_reports.specs.declared.report.Did.TheVariants.{Barrier, Ended, Skipped, Troubled}
use Rattle.job_reports.specs.declared.report.Ending.{Ending}
use Rattle.job_reports.specs.declared.report.Ending.TheVariants.{Finished}
use Rattle.job_reports.specs.Paths.{folder_of}
use Rattle.mode_job.specs.Settings as settings
use Rattle.copy_job.proofs.Finishes.{finish_is_still}
use Rattle.job_unsynced.specs.Folders as folders
use Rattle.make_job.specs.Makings as makings
use Rattle.move_job.specs.Movings as movings
use Rattle.emptied_job.specs.Removals as removals
use Rattle.copy_move.specs.declared.run.Course.{Course}
use Rattle.copy_move.specs.declared.run.Course.TheVariants.{GoesOn, Asking, InTrouble, OwedSyncFailed, Skips, Ends}
use Rattle.copy_move.specs.declared.work.Work.{Work}
use Rattle.copy_move.specs.declared.work.Work.TheVariants.{Copy, Delete, Make, Move, SetMode, RemoveEmptied}
use Rattle.copy_move.specs.Jobs.{CallsOn, Running, TellsOn, WorkCalls, WorkTells, WorkWinds, first_work, part_of}
use Rattle.copy_move.specs.Settling.{WorkLeaves}
use Rattle.copy_move.specs.JobStepReports.{LeavesDirty, RunStep, SyncsOwed, Walks, WalksOn, step_made}
use Rattle.copy_move.specs.Told.{running, told_job, turned_job, work_told}
use Rattle.copy_move.proofs.MovingWorks.{no_moves}
use Rattle.copy_move.proofs.Telling.{began_told}

-- a job with all that its next source needs of it, as it was before the step
pub record Finishes (job new : Running) (part : Option Route) (dirty dirty_after : List Route) (before after : Option CallLog) : Type 0 where
  pub goes : job.course ≡ GoesOn
  pub none : part ≡ None
  pub number : new.id ≡ job.id
  pub replies : new.replies ≡ job.replies
  pub stays : part_of new.work ≡ part_of job.work
  pub list : dirty_after ≡ dirty
  pub log : (log : CallLog) → before ≡ Some log → after ≡ Some log

-- the work tells no part, and keeps the one that it has
work_stays : (replies : Replies) (old new : Work) (part : Option Route) → WorkTells replies old (Ended Finished part) new → (part ≡ None) × (part_of new ≡ part_of old)
work_stays replies (Copy c) (Copy new) part t = (let a = t.after in (t.may, a.part))
work_stays replies (Delete d) (Delete new) part (stage, none, at) = (none, refl)
work_stays replies (Make m) (Make new) part (done, none, is) = (none, refl)
work_stays replies (Move m) (Move new) part (done, none, is) = (none, refl)
work_stays replies (SetMode s) (SetMode new) part (stage, none, is) = (none, refl)
work_stays replies (RemoveEmptied r) (RemoveEmptied new) part (done, none, is) = (none, refl)
work_stays replies old new part h = absurd h

-- it makes no call
work_calls : (unclaimed : Route → Type 0) (replies : Replies) (old new : Work) (part : Option Route) (log : CallLog) (after : Option CallLog) → WorkCalls unclaimed replies old (Ended Finished part) new log after → after ≡ Some log
work_calls unclaimed replies (Copy c) (Copy new) part log after h =
    (let g = h.goes in (finish_is_still g.free replies c new part h.calls h.dirty h.dirty_after (Some log) after g.since h.faults_after g.steps).1 log refl)
work_calls unclaimed replies (Delete d) new part log after h = h
work_calls unclaimed replies (Make m) new part log after h = h
work_calls unclaimed replies (Move m) new part log after h = h
work_calls unclaimed replies (SetMode s) new part log after h = h
work_calls unclaimed replies (RemoveEmptied r) new part log after h = h
work_calls unclaimed replies old new part log after h = absurd h

no_change : (b : Bool) (folder : Route) (dirty : List Route) → folders.with_change b b folder dirty ≡ dirty
no_change true folder dirty = refl
no_change false folder dirty = refl

-- no folder gets dirty or clean by it
module _ (unclaimed : Route → Type 0) (part : Option Route) (calls : ℕ) (dirty dirty_after : List Route) (before after : Option CallLog) (f0 f1 : ℕ) where
  work_list : (replies : Replies) (old new : Work) → WorkTells replies old (Ended Finished part) new → WorkLeaves old (Ended Finished part) new dirty dirty_after before after
      → Walks unclaimed replies old new (Ended Finished part) calls dirty dirty_after before after f0 f1 → dirty_after ≡ dirty
  work_list replies (Copy c) (Copy new) tells leaves walks = (finish_is_still walks.free replies c new part calls dirty dirty_after before after walks.since f1 walks.steps).0
  work_list replies (Delete d) (Delete new) tells leaves walks = leaves.1
  work_list replies (Make m) (Make new) (done, none, is) leaves walks =
      leaves ∙ (ap (λ (k : makings.Making). folders.with_change (makings.is_dirty m.stage) (makings.is_dirty k.stage) (folder_of m.path) dirty) is
      ∙ no_change (makings.is_dirty m.stage) (folder_of m.path) dirty)
  work_list replies (Move m) (Move new) (done, none, is) leaves walks =
      leaves ∙ (ap (λ (k : movings.Moving). movings.with_moves m.stage k.stage m.pair dirty) is ∙ no_moves m.stage m.pair dirty)
  work_list replies (SetMode s) (SetMode new) (stage, none, is) leaves walks =
      leaves ∙ (ap (λ (k : settings.Setting). folders.with_change (settings.is_dirty s.stage) (settings.is_dirty k.stage) s.path dirty) is ∙ no_change (settings.is_dirty s.stage) s.path dirty)
  work_list replies (RemoveEmptied r) (RemoveEmptied new) (done, none, is) leaves walks =
      leaves ∙ (ap (λ (k : removals.Removing). folders.with_change (removals.is_dirty r.stage) (removals.is_dirty k.stage) (folder_of r.path) dirty) is
      ∙ no_change (removals.is_dirty r.stage) (folder_of r.path) dirty)
  work_list replies old new tells leaves walks = absurd tells

-- last steps end as was ordered
wound_as : (ending how : Ending) (old new : Work) (part : Option Route) → WorkWinds ending old (Ended how part) new → how ≡ ending
wound_as ending how (Copy c) (Copy new) part w = (let may = w.may in may.0)
wound_as ending how (Delete d) (Delete new) part w = w.0
wound_as ending how (Make m) (Make new) part (apart, is, none, stands) = is
wound_as ending how (Move m) (Move new) part (clean, is, none, stands) = is
wound_as ending how (SetMode s) (SetMode new) part (clean, is, none, stands) = is
wound_as ending how (RemoveEmptied r) (RemoveEmptied new) part (clean, is, none, stands) = is
wound_as ending how old new part h = absurd h

module _ (unclaimed : Route → Type 0) (job new : Running) (part : Option Route) (calls : ℕ) (dirty dirty_after : List Route) (before after : Option CallLog) (f0 f1 : ℕ) (never : job.course ≡ Ends Finished → ⊥) where
  owed : (path : Route) → SyncsOwed job path (Ended Finished part) new dirty dirty_after before after → Finishes job new part dirty dirty_after before after
  owed path (inl s) = absurd (let e : Ended Finished part ≡ Barrier = s.did_is in let f : ⊥ = cc in f)
  owed path (inr s) = absurd (let e : Ended Finished part ≡ Troubled s.trouble = s.did_is in let f : ⊥ = cc in f)

  -- what finishes does so on its way, and not in last steps
  by : (course : Course) → job.course ≡ course → TellsOn course job (Ended Finished part) new → IfKnown before (λ log. CallsOn unclaimed course job (Ended Finished part) new log after)
      → LeavesDirty course job.work (Ended Finished part) new.work dirty dirty_after before after → WalksOn unclaimed job.replies course job.work new.work (Ended Finished part) calls dirty dirty_after before after f0 f1
      → Finishes job new part dirty dirty_after before after
  by GoesOn is (work, tells, new_is) called leaves walks =
      let same : new.work ≡ work = ap (λ (r : Running). r.work) new_is in
      let here = subst (λ w. WorkTells job.replies job.work (Ended Finished part) w) (sym same) tells in
      let stays = work_stays job.replies job.work new.work part here in
      record {
        goes = is;
        none = stays.0;
        number = ap (λ (r : Running). r.id) new_is;
        replies = ap (λ (r : Running). r.replies) new_is;
        stays = stays.1;
        list = work_list unclaimed part calls dirty dirty_after before after f0 f1 job.replies job.work new.work here leaves walks;
        log = λ log known. work_calls unclaimed job.replies job.work new.work part log after (called log known);
      }
  by (InTrouble halt) is tells called leaves walks = absurd tells
  by (OwedSyncFailed cause) is tells called leaves walks = absurd tells
  by Asking is tells called leaves walks = absurd tells
  by (Skips cause) is (inl (path, work, did_is, passes, new_is)) called leaves walks = absurd (let e : Ended Finished part ≡ Skipped path cause = did_is in let f : ⊥ = cc in f)
  by (Skips cause) is (inr (apart, did_is, new_is)) called leaves walks = absurd (let e = did_is in let f : ⊥ = cc in f)
  by (Ends ending) is (work, winds, new_is) called leaves walks = absurd (never (is ∙ ap Ends (sym (wound_as ending Finished job.work work part winds))))

  pub finish_stays : RunStep unclaimed (step_made job new (Ended Finished part) calls dirty dirty_after before after f0 f1) → Finishes job new part dirty dirty_after before after
  finish_stays (inl o) = (let s = o.own in by job.course refl s.tells s.called o.leaves o.walks)
  finish_stays (inr s) = owed s.path s.synced

-- the job with this number that begins so, and keeps of what was answered what holds for all items
abbrev next_job : ℕ → Replies → Work → Running
next_job id replies work = record { id = id; work = work; course = GoesOn; replies = record replies { item = None } }

abbrev turns : ℕ → Replies → Option Work → Option Running
turns id replies work = option_map (next_job id replies) work

turns_told : (id : ℕ) (replies : Replies) (work : Option Work) → option_map told_job (option_map (running id) work) ≡ option_map (running id) work → option_map told_job (turns id replies work) ≡ turns id replies work
turns_told id replies None h = refl
turns_told id replies (Some w) h =
    let same : Some (told_job (running id w)) ≡ Some (running id w) = h in
    let told_so : work_told id w ≡ w = (let e : told_job (running id w) ≡ running id w = cc in ap (λ (r : Running). r.work) e) in
    ap (λ k. Some (next_job id replies k)) told_so

-- What a history tells of a job that goes on with its next source.
pub turned_told : (next : Job) (job : Running) → option_map told_job (turned_job next job) ≡ turned_job next (told_job job)
turned_told next job = turns_told job.id job.replies (first_work job.id next) (began_told job.id next)

-- A job goes on with its next source as it stood before the step that finished the one before.
pub turned_alike : (next : Job) (job new : Running) → new.id ≡ job.id → new.replies ≡ job.replies → turned_job next new ≡ turned_job next job
turned_alike next job new number replies =
    ap (λ id. turns id new.replies (first_work id next)) number ∙ ap (λ said. turns job.id said (first_work job.id next)) replies
