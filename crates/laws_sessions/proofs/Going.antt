-- What an event makes of what is known, whatever a history says of the tree by then: it holds where the event ends, and before each
-- call of it.
use Rattle.std.proofs.Common.{◌≡◌, ℕ, Bool, true, false, List, [], ◌∷◌, refl, sym, ◌∙◌, ap, subst, inl, inr, Option, Some, None, append-nil}
use Rattle.std.specs.Prelude.{map, ◌==◌, if◌then◌else◌}
use Rattle.std.specs.Option.{option_map_or, option_map}
use Rattle.std.proofs.lemmas.Bool.{eq-eqb}
use Rattle.mc_text.specs.Routes.{Route}
use Rattle.tree_trait.specs.Change.{Change, CallLog}
use Rattle.laws_crash.specs.Guarded.{Marks}
use Rattle.job_reports.specs.declared.report.Did.{Did}
use Rattle.job_reports.specs.declared.report.Ending.TheVariants.{Finished, NoMemory}
use Rattle.job_reports.specs.declared.report.Did.TheVariants.{Ended}
use Rattle.job_reports.specs.declared.job.Job.{Job}
use Rattle.job_reports.specs.declared.answer.Answer.{Answer}
use Rattle.job_reports.specs.declared.answer.Answer.TheVariants.{Yes, No, All, Update, Nothing, SizeDiffers, Retry, Skip, SkipAll, Abort}
use Rattle.session_entries.specs.declared.history.Event.{Event}
use Rattle.session_entries.specs.declared.history.Event.TheVariants.{Key, Look, Sought, Began, Order, Step, Next, Closed}
use Rattle.session_entries.specs.declared.history.JobOrder.{JobOrder}
use Rattle.session_entries.specs.declared.history.JobOrder.TheVariants.{Answered}
use Rattle.copy_move.specs.declared.run.Course.{Course}
use Rattle.copy_move.specs.declared.run.Course.TheVariants.{GoesOn, Asking, InTrouble, OwedSyncFailed, Skips, Ends}
use Rattle.copy_move.specs.declared.work.Work.{Work}
use Rattle.copy_move.specs.declared.work.Work.TheVariants.{Copy, Delete, Make, Move, SetMode, RemoveEmptied}
use Rattle.copy_move.specs.Jobs.{Running, answered_job, answered_on, begun_work, closed_course, closed_job, taken_anew}
use Rattle.copy_move.specs.Told.{running}
use Rattle.session_entries.specs.LiveJobs.{LiveJob, after_event, after_report, live, turned_live_job}
use Rattle.session_entries.specs.Sources.{sources_of}
use Rattle.laws_sessions.specs.Traces.{EventLeads, IsJob, Stand, StepLeads, WorkLeads, begun_jobs, ordered_job, unless_ended, with_job}
use Rattle.laws_sessions.proofs.JobKnows.{KnowsAfter, WorkKnows, may_fill, work_course}
use Rattle.laws_sessions.proofs.TreeKnown.{is_over}
use Rattle.laws_sessions.proofs.TreeSkipped.{retries_tree}
use Rattle.laws_sessions.proofs.JobLeads.{sync_leads, work_leads}
use Rattle.laws_sessions.proofs.JobSteps.{gives_up}
use Rattle.laws_sessions.proofs.Knowing.{HistoryFacts, IsKept}
use Rattle.laws_sessions.proofs.MoveKnown.{move_course}
use Rattle.laws_sessions.proofs.Reports.{HasLive, JobsKnow, knows_after, live_after, with_one}
use Rattle.laws_sessions.proofs.Sources.{IsSame, answer_same, item_in, tells_same}
use Rattle.laws_sessions.proofs.Stepped.{AreMids, StepRan, more, part_after, said_after}
use Rattle.laws_sessions.proofs.Turns.{Turned, begun_item, begun_knows, one_turned, turned_id, turned_item, turned_knows, turned_to}

no_more : (log : CallLog) → log ≡ more log []
no_more log = ap (λ xs. (let l : CallLog = record log { changes = xs } in l)) (sym (append-nil log.changes))

anew_knows : (told : HistoryFacts) (dirty : List Route) (m : Marks) (log : CallLog) (course : Course) (work : Work) → is_over course ≡ false → WorkKnows told dirty m log course work → WorkKnows told dirty m log GoesOn (taken_anew work)
anew_knows told dirty m log course (Copy c) going k = retries_tree told dirty m log c course GoesOn going k
anew_knows told dirty m log course (Delete d) going k = k
anew_knows told dirty m log course (Make w) going k = k
anew_knows told dirty m log course (Move w) going k = move_course told m log course GoesOn w (λ on. going) k
anew_knows told dirty m log course (SetMode s) going k = k
anew_knows told dirty m log course (RemoveEmptied w) going k = k

module _ (told : HistoryFacts) (dirty : List Route) (marks : Marks) (log : CallLog) where
  abbrev Knows : Running → Type 0
  Knows job = WorkKnows told dirty marks log job.course job.work

  on_course : (course other : Course) (work : Work) → (may_fill other ≡ true → ⊥) → is_over course ≡ false → WorkKnows told dirty marks log course work → WorkKnows told dirty marks log other work
  on_course course other work off going k = work_course told dirty marks log course other work (λ e. absurd (off e)) (λ still. going) k

  answer_knows : (course : Course) (answer : Answer) (job : Running) → job.course ≡ course → Knows job → Knows (answered_on course answer job)
  answer_knows (InTrouble halt) Retry job is k = anew_knows told dirty marks log job.course job.work (ap is_over is) k
  answer_knows (InTrouble halt) Skip job is k = on_course job.course (Skips halt.cause) job.work (λ e. let f : ⊥ = cc in f) (ap is_over is) k
  answer_knows (InTrouble halt) SkipAll job is k = on_course job.course (Skips halt.cause) job.work (λ e. let f : ⊥ = cc in f) (ap is_over is) k
  answer_knows (InTrouble halt) Abort job is k = on_course job.course (Ends Rattle.job_reports.specs.declared.report.Ending.TheVariants.Aborted) job.work (λ e. let f : ⊥ = cc in f) (ap is_over is) k
  answer_knows (OwedSyncFailed why) Retry job is k = anew_knows told dirty marks log job.course job.work (ap is_over is) k
  answer_knows (OwedSyncFailed why) Skip job is k = k
  answer_knows (OwedSyncFailed why) SkipAll job is k = k
  answer_knows (OwedSyncFailed why) Abort job is k = on_course job.course (Ends Rattle.job_reports.specs.declared.report.Ending.TheVariants.Aborted) job.work (λ e. let f : ⊥ = cc in f) (ap is_over is) k
  answer_knows (InTrouble halt) Yes job is k = k
  answer_knows (InTrouble halt) No job is k = k
  answer_knows (InTrouble halt) All job is k = k
  answer_knows (InTrouble halt) Update job is k = k
  answer_knows (InTrouble halt) Nothing job is k = k
  answer_knows (InTrouble halt) SizeDiffers job is k = k
  answer_knows (OwedSyncFailed why) Yes job is k = k
  answer_knows (OwedSyncFailed why) No job is k = k
  answer_knows (OwedSyncFailed why) All job is k = k
  answer_knows (OwedSyncFailed why) Update job is k = k
  answer_knows (OwedSyncFailed why) Nothing job is k = k
  answer_knows (OwedSyncFailed why) SizeDiffers job is k = k
  answer_knows Asking Yes job is k = work_course told dirty marks log job.course GoesOn job.work (λ e. ap may_fill is) (λ still. ap is_over is) k
  answer_knows Asking No job is k = work_course told dirty marks log job.course GoesOn job.work (λ e. ap may_fill is) (λ still. ap is_over is) k
  answer_knows Asking All job is k = work_course told dirty marks log job.course GoesOn job.work (λ e. ap may_fill is) (λ still. ap is_over is) k
  answer_knows Asking Update job is k = work_course told dirty marks log job.course GoesOn job.work (λ e. ap may_fill is) (λ still. ap is_over is) k
  answer_knows Asking Nothing job is k = work_course told dirty marks log job.course GoesOn job.work (λ e. ap may_fill is) (λ still. ap is_over is) k
  answer_knows Asking SizeDiffers job is k = work_course told dirty marks log job.course GoesOn job.work (λ e. ap may_fill is) (λ still. ap is_over is) k
  answer_knows Asking Retry job is k = k
  answer_knows Asking Skip job is k = k
  answer_knows Asking SkipAll job is k = k
  answer_knows Asking Abort job is k = on_course job.course (Ends Rattle.job_reports.specs.declared.report.Ending.TheVariants.Aborted) job.work (λ e. let f : ⊥ = cc in f) (ap is_over is) k
  answer_knows GoesOn answer job is k = k
  answer_knows (Skips why) answer job is k = k
  answer_knows (Ends ending) answer job is k = k

  order_by : (b : Bool) (answer : Answer) (job : Running) → Knows job → Knows (if◌then◌else◌ b (answered_job answer job) job)
  order_by true answer job k = answer_knows job.course answer job refl k
  order_by false answer job k = k

  order_knows : (id : ℕ) (order : JobOrder) (job : Running) → Knows job → Knows (ordered_job id order job)
  order_knows id (Answered answer) job k = order_by (job.id == id) answer job k

  orders_know : (id : ℕ) (order : JobOrder) (jobs : List Running) → JobsKnow told dirty marks log jobs → JobsKnow told dirty marks log (map (ordered_job id order) jobs)
  orders_know id order [] k = k
  orders_know id order (job ∷ []) k = order_knows id order job k
  orders_know id order (job ∷ other ∷ jobs) k = absurd k

  closed_by : (course : Course) → may_fill (closed_course course) ≡ true → may_fill course ≡ true
  closed_by GoesOn e = refl
  closed_by (InTrouble halt) e = absurd (let f : ⊥ = cc in f)
  closed_by (OwedSyncFailed why) e = absurd (let f : ⊥ = cc in f)
  closed_by Asking e = absurd (let f : ⊥ = cc in f)
  closed_by (Skips why) e = absurd (let f : ⊥ = cc in f)
  closed_by (Ends ending) e = absurd (let f : ⊥ = cc in f)

  closed_over : (course : Course) → is_over (closed_course course) ≡ false → is_over course ≡ false
  closed_over GoesOn e = refl
  closed_over (InTrouble why) e = refl
  closed_over (OwedSyncFailed why) e = refl
  closed_over Asking e = refl
  closed_over (Skips why) e = refl
  closed_over (Ends ending) e = e

  pub closed_know : (jobs : List Running) → JobsKnow told dirty marks log jobs → JobsKnow told dirty marks log (map closed_job jobs)
  closed_know [] k = k
  closed_know (job ∷ []) k = work_course told dirty marks log job.course (closed_course job.course) job.work (closed_by job.course) (closed_over job.course) k
  closed_know (job ∷ other ∷ jobs) k = absurd k

pub order_same : (id : ℕ) (order : JobOrder) (job : Running) → IsSame job (ordered_job id order job)
order_same id (Answered answer) job = by (job.id == id)
  where
    by : (b : Bool) → IsSame job (if◌then◌else◌ b (answered_job answer job) job)
    by true = answer_same answer job
    by false = (refl, refl)

same_live : (live : List LiveJob) (part : Option Route) (job new : Running) → IsSame job new → HasLive live (job ∷ []) part → HasLive live (new ∷ []) part
same_live live part job new same is =
    is ∙ (ap (λ n. (let l : LiveJob = record { id = n; item = item_in job.work; part = part } in l) ∷ []) (sym same.0)
    ∙ ap (λ i. (let l : LiveJob = record { id = new.id; item = i; part = part } in l) ∷ []) (sym same.1))

orders_live : (live : List LiveJob) (part : Option Route) (id : ℕ) (order : JobOrder) (jobs : List Running) → HasLive live jobs part → HasLive live (map (ordered_job id order) jobs) part
orders_live live part id order [] h = h
orders_live live part id order (job ∷ []) h = same_live live part job (ordered_job id order job) (order_same id order job) h
orders_live live part id order (job ∷ other ∷ jobs) h = absurd h

pub closed_live : (live : List LiveJob) (part : Option Route) (jobs : List Running) → HasLive live jobs part → HasLive live (map closed_job jobs) part
closed_live live part [] h = h
closed_live live part (job ∷ []) h = h
closed_live live part (job ∷ other ∷ jobs) h = absurd h

-- the one job that is live
pub only_job : (id : ℕ) (jobs : List Running) (job : Running) (told : HistoryFacts) (dirty : List Route) (marks : Marks) (log : CallLog) → IsJob id jobs job → JobsKnow told dirty marks log jobs → (jobs ≡ job ∷ []) × (job.id ≡ id)
only_job id [] job told dirty marks log is k = absurd is
only_job id (first ∷ []) job told dirty marks log (inl here) k = (ap (λ j. j ∷ []) (sym here.1), ap (λ (j : Running). j.id) here.1 ∙ here.0)
only_job id (first ∷ []) job told dirty marks log (inr none) k = absurd none
only_job id (first ∷ other ∷ jobs) job told dirty marks log is k = absurd k

module _ (said : HistoryFacts) (listed : List LiveJob) (was : Stand) (before : CallLog) (marks : Marks) (kept : IsKept said was.dirty marks before) (knows : JobsKnow said was.dirty marks before was.jobs)
    (is_live : HasLive listed was.jobs said.part) where
  -- a step says what its report says of the item of the one live job, and so does a job's turn to its next source, as the end of the one before; other events say nothing
  abbrev pub SaidThen : Event → CallLog → HistoryFacts → Type 0
  SaidThen (Step id did) now said_then = (job : Running) × (was.jobs ≡ job ∷ []) × (job.id ≡ id) × (said_then ≡ said_after now did job.work said)
  SaidThen (Next id plan) now said_then = (job : Running) × (was.jobs ≡ job ∷ []) × (job.id ≡ id) × (said_then ≡ said_after now (Ended Finished None) job.work said)
  SaidThen (Key key time refusals lost) now said_then = said_then ≡ said
  SaidThen (Look refusals) now said_then = said_then ≡ said
  SaidThen Sought now said_then = said_then ≡ said
  SaidThen (Began id plan background) now said_then = said_then ≡ said
  SaidThen (Order id order) now said_then = said_then ≡ said
  SaidThen Closed now said_then = said_then ≡ said

  -- what is known then, and before each call
  pub record Goes (what : Event) (after : Stand) (now : CallLog) : Type 0 where
    pub made : List Change
    pub now_is : now ≡ more before made
    pub mids : AreMids said before made
    pub said_then : HistoryFacts
    pub then_is : SaidThen what now said_then
    pub marks_then : Marks
    pub kept_then : IsKept said_then after.dirty marks_then now
    pub knows_then : JobsKnow said_then after.dirty marks_then now after.jobs
    pub live_then : HasLive (after_event what listed) after.jobs said_then.part

  -- no call was made
  quiet : (what : Event) (after : Stand) → SaidThen what before said → after_event what listed ≡ listed → after.dirty ≡ was.dirty → JobsKnow said was.dirty marks before after.jobs → HasLive listed after.jobs said.part
      → Goes what after before
  quiet what after same live_same dirty_same knows_then live_then = record {
    made = [];
    now_is = no_more before;
    mids = tt;
    said_then = said;
    then_is = same;
    marks_then = marks;
    kept_then = subst (λ d. IsKept said d marks before) (sym dirty_same) kept;
    knows_then = subst (λ d. JobsKnow said d marks before after.jobs) (sym dirty_same) knows_then;
    live_then = subst (λ l. HasLive l after.jobs said.part) (sym live_same) live_then;
  }

  -- a job steps
  module _ (now : CallLog) (id : ℕ) (did : Did) (job : Running) (jobs_is : was.jobs ≡ job ∷ []) (id_is : job.id ≡ id) where
    job_live : HasLive listed (job ∷ []) said.part
    job_live = subst (λ js. HasLive listed js said.part) jobs_is is_live

    job_knows : WorkKnows said was.dirty marks before job.course job.work
    job_knows = subst (λ js. JobsKnow said was.dirty marks before js) jobs_is knows

    entered : (dirty_after : List Route) (jobs : List Running) (known : Marks → Type 0) → StepRan said (said_after now did job.work said) dirty_after before now known
        → ((m : Marks) → known m → JobsKnow (said_after now did job.work said) dirty_after m now jobs) → HasLive (after_report id did listed) jobs (part_after did said.part)
        → Goes (Step id did) (let st : Stand = record { jobs = jobs; dirty = dirty_after } in st) now
    entered dirty_after jobs known come known_of live_is = record {
      made = come.made;
      now_is = come.now_is;
      mids = come.mids;
      said_then = said_after now did job.work said;
      then_is = (job, jobs_is, id_is, refl);
      marks_then = come.marks;
      kept_then = come.kept;
      knows_then = known_of come.marks come.known_of;
      live_then = live_is;
    }

    -- the live jobs then
    still_live : (new : Running) → IsSame job new → HasLive (after_report id did listed) (Rattle.laws_sessions.specs.Traces.before_others (unless_ended did new) []) (part_after did said.part)
    still_live new same =
        subst (λ l. HasLive (after_report id did l) (Rattle.laws_sessions.specs.Traces.before_others (unless_ended did new) []) (part_after did said.part)) (sym job_live)
        (subst (λ n. HasLive (after_report n did ((let l : LiveJob = record { id = job.id; item = item_in job.work; part = said.part } in l) ∷ [])) (Rattle.laws_sessions.specs.Traces.before_others (unless_ended did new) []) (part_after did said.part)) id_is
        (live_after job.id (item_in job.work) said.part new same.0 (sym same.1) did))

    jobs_then : (new : Option Running) (jobs : List Running) → jobs ≡ with_job id new was.jobs → jobs ≡ Rattle.laws_sessions.specs.Traces.before_others new []
    jobs_then new jobs is = is ∙ (ap (with_job id new) jobs_is ∙ (ap (λ n. with_job n new (job ∷ [])) (sym id_is) ∙ with_one job new))

    pub stepped : (dirty_after : List Route) (jobs : List Running) (after : Option Running) → StepLeads job did after was.dirty dirty_after before now → jobs ≡ with_job id after was.jobs
        → Goes (Step id did) (let st : Stand = record { jobs = jobs; dirty = dirty_after } in st) now
    stepped dirty_after jobs after (inl (new, inl works, after_is)) is =
        subst (λ js. Goes (Step id did) (let st : Stand = record { jobs = js; dirty = dirty_after } in st) now) (sym (jobs_then after jobs is ∙ ap (λ o. Rattle.laws_sessions.specs.Traces.before_others o []) after_is))
        (entered dirty_after _ _ (work_leads said was.dirty dirty_after marks before now kept job new did job_knows works)
        (λ m k. knows_after (said_after now did job.work said) dirty_after m now new did k) (still_live new (tells_same job new did works.tells)))
    stepped dirty_after jobs after (inl (new, inr syncs, after_is)) is =
        subst (λ js. Goes (Step id did) (let st : Stand = record { jobs = js; dirty = dirty_after } in st) now) (sym (jobs_then after jobs is ∙ ap (λ o. Rattle.laws_sessions.specs.Traces.before_others o []) after_is))
        (entered dirty_after _ _ (sync_leads said was.dirty dirty_after marks before now kept job new did job_knows syncs)
        (λ m k. knows_after (said_after now did job.work said) dirty_after m now new did k) (still_live new (settled_same syncs.synced)))
      where
        settled_same : Rattle.copy_move.specs.JobStepReports.SyncsOwed job syncs.path did new was.dirty dirty_after (Some before) (Some now) → IsSame job new
        settled_same (inl s) = (ap (λ (x : Running). x.id) s.new_is, ap (λ (x : Running). item_in x.work) s.new_is)
        settled_same (inr s) = (ap (λ (x : Running). x.id) s.new_is, ap (λ (x : Running). item_in x.work) s.new_is)
    stepped dirty_after jobs after (inr (gives, after_is)) is =
        subst (λ js. Goes (Step id did) (let st : Stand = record { jobs = js; dirty = dirty_after } in st) now) (sym (jobs_then after jobs is ∙ ap (λ o. Rattle.laws_sessions.specs.Traces.before_others o []) after_is))
        (entered dirty_after [] _ (gives_up said was.dirty dirty_after marks before now kept job.work job.course did job_knows gives.did_is gives.same gives.none) (λ m k. k)
        (subst (λ x. HasLive (after_report id x listed) [] (part_after x said.part)) (sym gives.did_is) (ended (Rattle.copy_move.specs.Jobs.part_of job.work))))
      where
        ended : (left : Option Route) → HasLive (after_report id (Ended NoMemory left) listed) [] None
        ended left =
            ap (after_report id (Ended NoMemory left)) job_live ∙ ap (λ b. if◌then◌else◌ b [] ((let l : LiveJob = record { id = job.id; item = item_in job.work; part = said.part } in l) ∷ [])) (eq-eqb job.id id id_is)

  -- a job goes on with its next source, where one is done
  turns : (now : CallLog) (id : ℕ) (plan : Job) (job over next : Running) (jobs_is : was.jobs ≡ job ∷ []) (id_is : job.id ≡ id) (dirty_after : List Route) (jobs : List Running)
      → WorkLeads job (Ended Finished None) over was.dirty dirty_after before now → Turned plan job next → jobs ≡ with_job id (Some next) was.jobs
      → Goes (Next id plan) (let st : Stand = record { jobs = jobs; dirty = dirty_after } in st) now
  turns now id plan job over next jobs_is id_is dirty_after jobs done turn is =
      subst (λ js. Goes (Next id plan) (let st : Stand = record { jobs = js; dirty = dirty_after } in st) now) (sym (one_turned id was.jobs job next jobs jobs_is id_is is)) (record {
        made = come.made;
        now_is = come.now_is;
        mids = come.mids;
        said_then = ended;
        then_is = (job, jobs_is, id_is, refl);
        marks_then = come.marks;
        kept_then = come.kept;
        knows_then = turned_knows ended dirty_after come.marks now plan job next refl turn;
        live_then = ap (λ o. option_map_or (λ item. map (turned_live_job id item) listed) o listed) (turned_item plan job next turn)
            ∙ (ap (map (turned_live_job id (item_in next.work))) (job_live now id (Ended Finished None) job jobs_is id_is)
            ∙ (ap (λ b. (if◌then◌else◌ b (live id (item_in next.work)) (let l : LiveJob = record { id = job.id; item = item_in job.work; part = said.part } in l)) ∷ []) (eq-eqb job.id id id_is)
            ∙ ap (λ n. live n (item_in next.work) ∷ []) (sym (turned_id plan job next turn ∙ id_is))));
      })
    where
      ended : HistoryFacts
      ended = said_after now (Ended Finished None) job.work said

      come : StepRan said ended dirty_after before now (KnowsAfter (Ended Finished None) ended dirty_after now over.course over.work)
      come = work_leads said was.dirty dirty_after marks before now kept job over (Ended Finished None) (job_knows now id (Ended Finished None) job jobs_is id_is) done

  -- a job begins
  begins : (id : ℕ) (plan : Job) (background : Bool) → was.jobs ≡ [] → (o : Option Work) → begun_work id (sources_of plan) ≡ o
      → Goes (Began id plan background) (record was { jobs = begun_jobs id plan }) before
  begins id plan background none o is = record {
    made = [];
    now_is = no_more before;
    mids = tt;
    said_then = said;
    then_is = refl;
    marks_then = marks;
    kept_then = kept;
    knows_then = subst (λ x. JobsKnow said was.dirty marks before (option_map_or (λ w. running id w ∷ []) x [])) (sym is) (knows_of o is);
    live_then = subst (λ x. HasLive (option_map_or (λ i. live id i ∷ listed) x listed) (begun_jobs id plan) said.part) (sym (begun_item id (sources_of plan)))
        (subst (λ x. HasLive (option_map_or (λ i. live id i ∷ listed) (option_map item_in x) listed) (option_map_or (λ w. running id w ∷ []) x []) said.part) (sym is) (live_of o));
  }
    where
      no_part : said.part ≡ None
      no_part = subst (λ js. JobsKnow said was.dirty marks before js) none knows

      no_live : listed ≡ []
      no_live = subst (λ js. HasLive listed js said.part) none is_live

      knows_of : (o : Option Work) → begun_work id (sources_of plan) ≡ o → JobsKnow said was.dirty marks before (option_map_or (λ w. running id w ∷ []) o [])
      knows_of None is = no_part
      knows_of (Some w) is = begun_knows said was.dirty marks before no_part id (sources_of plan) w is

      live_of : (o : Option Work) → HasLive (option_map_or (λ i. live id i ∷ listed) (option_map item_in o) listed) (option_map_or (λ w. running id w ∷ []) o []) said.part
      live_of None = no_live
      live_of (Some w) = ap (λ l. live id (item_in w) ∷ l) no_live ∙ ap (λ p. (let l : LiveJob = record { id = id; item = item_in w; part = p } in l) ∷ []) (sym no_part)

  pub event_goes : (what : Event) (after : Stand) (now : CallLog) → EventLeads was what after before now → Goes what after now
  event_goes (Step id did) after now s =
      let one = only_job id was.jobs s.job said was.dirty marks before s.its knows in
      stepped now id did s.job one.0 one.1 after.dirty after.jobs s.new s.leads s.jobs_is
  event_goes (Began id plan background) after now s =
      subst (λ (l : CallLog). Goes (Began id plan background) after l) (sym s.now_is)
      (subst (λ (x : Stand). Goes (Began id plan background) x before) (sym s.after_is) (begins id plan background s.none_live (begun_work id (sources_of plan)) refl))
  event_goes (Next id plan) after now s =
      let one = only_job id was.jobs s.job said was.dirty marks before s.its knows in
      turns now id plan s.job s.over s.next one.0 one.1 after.dirty after.jobs s.done (turned_to plan s.job s.next s.next_is) s.jobs_is
  event_goes (Order id order) after now s =
      subst (λ (l : CallLog). Goes (Order id order) after l) (sym s.now_is)
      (subst (λ (x : Stand). Goes (Order id order) x before) (sym s.after_is)
      (quiet (Order id order) (record was { jobs = map (ordered_job id order) was.jobs }) refl refl refl (orders_know said was.dirty marks before id order was.jobs knows)
      (orders_live listed said.part id order was.jobs is_live)))
  event_goes (Key key time refusals lost) after now s =
      subst (λ (l : CallLog). Goes (Key key time refusals lost) after l) (sym s.now_is)
      (subst (λ (x : Stand). Goes (Key key time refusals lost) x before) (sym s.after_is) (quiet (Key key time refusals lost) was refl refl refl knows is_live))
  event_goes (Look refusals) after now s =
      subst (λ (l : CallLog). Goes (Look refusals) after l) (sym s.now_is) (subst (λ (x : Stand). Goes (Look refusals) x before) (sym s.after_is) (quiet (Look refusals) was refl refl refl knows is_live))
  event_goes Sought after now s =
      subst (λ (l : CallLog). Goes Sought after l) (sym s.now_is) (subst (λ (x : Stand). Goes Sought x before) (sym s.after_is) (quiet Sought was refl refl refl knows is_live))
  event_goes Closed after now s =
      subst (λ (l : CallLog). Goes Closed after l) (sym s.now_is) (subst (λ (x : Stand). Goes Closed x before) (sym s.after_is) (quiet Closed was refl refl refl knows is_live))
