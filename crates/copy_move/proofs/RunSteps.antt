-- A step of a job is a piece of its work, by its course.
use Rattle.std.proofs.Common.{◌≡◌, ℕ, List, sym, subst, arith, Option}
use Rattle.mc_text.specs.Routes.{Route}
use Rattle.tree_trait.specs.declared.calls.TreeError.{TreeError}
use Rattle.tree_trait.specs.Change.{CallLog}
use Rattle.job_reports.specs.declared.report.Cause.{Cause}
use Rattle.job_reports.specs.declared.report.Ending.{Ending}
use Rattle.job_reports.specs.declared.report.Did.{Did}
use Rattle.job_reports.specs.declared.report.Did.TheVariants.{Began, Chunk, Placed, Removed, Made, Set, Kept, Skipped, Cleaned, Barrier, Asked, Merges, Moved, Troubled, Ended}
use Rattle.job_reports.specs.Reports.{IsFault, TellsFault}
use Rattle.copy_move.specs.declared.work.Work.{Work}
use Rattle.copy_move.specs.declared.work.Work.TheVariants.{Copy, Delete, Make, Move, SetMode, RemoveEmptied}
use Rattle.copy_move.specs.declared.run.Course.{Course}
use Rattle.copy_move.specs.declared.run.Course.TheVariants.{GoesOn, Ends}
use Rattle.copy_move.specs.Jobs.{Running, TellsOn, CallsOn, WorkWinds, course_after}
use Rattle.copy_move.specs.Faults.{MeetsFault}
use Rattle.copy_move.specs.JobStepReports.{StepsOn, WorkSteps, WorkWindsUp}

-- a report that isn't a skip tells of a fault where it is one
pub met_by : (course : Course) (P : Did → Type 0) (did : Did) → ((path : Route) (cause : Cause) → P (Skipped path cause) → ⊥) → P did → MeetsFault course did → IsFault did
met_by course P (Troubled trouble) none p h = h
met_by course P (Skipped path cause) none p h = absurd (none path cause p)
met_by course P (Began part) none p h = h
met_by course P (Chunk count) none p h = h
met_by course P (Asked question) none p h = h
met_by course P (Merges transfer pair names) none p h = h
met_by course P (Moved pair) none p h = h
met_by course P (Set path) none p h = h
met_by course P (Placed path) none p h = h
met_by course P (Removed path) none p h = h
met_by course P (Made path) none p h = h
met_by course P (Kept path) none p h = h
met_by course P (Cleaned part) none p h = h
met_by course P Barrier none p h = h
met_by course P (Ended ending part) none p h = h

-- a fault that a job meets as it goes on is one of which the report tells
pub fault_told : (did : Did) → MeetsFault GoesOn did → TellsFault did
fault_told (Troubled trouble) h = h
fault_told (Skipped path cause) h = h
fault_told (Began part) h = h
fault_told (Chunk count) h = h
fault_told (Asked question) h = h
fault_told (Merges transfer pair names) h = h
fault_told (Moved pair) h = h
fault_told (Set path) h = h
fault_told (Placed path) h = h
fault_told (Removed path) h = h
fault_told (Made path) h = h
fault_told (Kept path) h = h
fault_told (Cleaned part) h = h
fault_told Barrier h = h
fault_told (Ended ending part) h = h

-- no last step reports a fault
quiet_end : (ending : Ending) (old new : Work) (did : Did) → WorkWinds ending old did new → IsFault did → ⊥
quiet_end ending (Copy c) (Copy new) (Troubled trouble) w h = w.may
quiet_end ending (Delete d) (Delete new) (Troubled trouble) w h = w
quiet_end ending (Make m) (Make new) (Troubled trouble) w h = w
quiet_end ending (Move m) (Move new) (Troubled trouble) w h = w
quiet_end ending (SetMode s) (SetMode new) (Troubled trouble) w h = w
quiet_end ending (RemoveEmptied r) (RemoveEmptied new) (Troubled trouble) w h = w
quiet_end ending old new (Began part) w h = h
quiet_end ending old new (Chunk count) w h = h
quiet_end ending old new (Asked question) w h = h
quiet_end ending old new (Merges transfer pair names) w h = h
quiet_end ending old new (Moved pair) w h = h
quiet_end ending old new (Set path) w h = h
quiet_end ending old new (Placed path) w h = h
quiet_end ending old new (Removed path) w h = h
quiet_end ending old new (Made made) w h = h
quiet_end ending old new (Kept kept) w h = h
quiet_end ending old new (Skipped path cause) w h = h
quiet_end ending old new (Cleaned part) w h = h
quiet_end ending old new Barrier w h = h
quiet_end ending old new (Ended how part) w h = h
quiet_end ending old new (Troubled trouble) w h = w

module _ (unclaimed : Route → Type 0) (job new : Running) (did : Did) (calls : ℕ) (dirty dirty_after : List Route) (before after : Option CallLog) (faults faults_after : ℕ) where
  pub run_goes : (own work : Work) → own ≡ job.work → job.course ≡ GoesOn → WorkSteps unclaimed job.replies own work did calls dirty dirty_after before after faults faults_after
      → new ≡ record job { work = work; course = course_after did } → StepsOn unclaimed job new did calls before after faults faults_after
  run_goes own work same course steps is =
      let s = subst (λ w. WorkSteps unclaimed job.replies w work did calls dirty dirty_after before after faults faults_after) same steps in record {
        tells = subst (λ c. TellsOn c job did new) (sym course) (work, s.tells, is);
        called = λ log known.
            subst (λ c. CallsOn unclaimed c job did new log after) (sym course)
            (subst (λ (n : Running). CallsOn unclaimed GoesOn job did n log after) (sym is) (s.called log known));
        counted = s.counted;
        few = s.few;
        unknown = s.unknown;
        later = s.later;
        fault = λ h. s.fault (subst (λ c. MeetsFault c did) course h);
      }

  pub run_ends : (ending : Ending) (own work : Work) (left : Option TreeError) → own ≡ job.work → job.course ≡ Ends ending → WorkWindsUp ending own work did calls left dirty dirty_after before after faults faults_after
      → new ≡ record job { work = work } → StepsOn unclaimed job new did calls before after faults faults_after
  run_ends ending own work left same course steps is =
      let s = subst (λ w. WorkWindsUp ending w work did calls left dirty dirty_after before after faults faults_after) same steps in record {
        tells = subst (λ c. TellsOn c job did new) (sym course) (work, s.tells, is);
        called = λ log known. subst (λ c. CallsOn unclaimed c job did new log after) (sym course) (s.called log known);
        counted = s.counted;
        few = let few = s.few in omega (arith, few);
        unknown = s.unknown;
        later = s.later;
        fault = λ h. let met = subst (λ c. MeetsFault c did) course h in absurd (quiet_end ending job.work work did s.tells (met_by (Ends ending) (λ d. MeetsFault (Ends ending) d) did (λ path cause x. x) met met));
      }
