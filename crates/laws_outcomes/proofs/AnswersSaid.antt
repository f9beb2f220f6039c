-- By induction over a history: what a live job has been answered is what the history says, and it waits for an answer to its question where the history says so.
use Rattle.std.proofs.Common.{◌≡◌, ℕ, Bool, true, false, List, [], ◌∷◌, refl, sym, ◌∙◌, ap, subst, inl, inr, Option, Some, None}
use Rattle.std.specs.Prelude.{⊤, ◌==◌, ◌&&◌, not, if◌then◌else◌, map}
use Rattle.std.specs.Option.{option_map_or}
use Rattle.std.proofs.lemmas.Bool.{eq-eqb}
use Rattle.tree_trait.specs.Shape.{IsTree}
use Rattle.tree_trait.specs.Change.{CallLog, current}
use Rattle.tree_trait.specs.CrashImages.{all_settled}
use Rattle.job_reports.specs.declared.answer.Answer.{Answer}
use Rattle.job_reports.specs.declared.answer.Answer.TheVariants.{Yes, No, All, Update, Nothing, SizeDiffers, Retry, Skip, SkipAll, Abort}
use Rattle.job_reports.specs.declared.job.Job.{Job}
use Rattle.job_reports.specs.declared.report.Did.{Did}
use Rattle.job_reports.specs.declared.report.Did.TheVariants.{Began, Chunk, Placed, Removed, Made, Set, Kept, Skipped, Cleaned, Barrier, Asked, Merges, Moved, Troubled, Ended}
use Rattle.job_reports.specs.declared.report.Ending.{Ending}
use Rattle.job_reports.specs.declared.report.Ending.TheVariants.{Aborted, Finished}
use Rattle.job_answers.specs.declared.replies.Replies.{Replies}
use Rattle.job_answers.specs.Decisions.{no_replies, to_questions, with_reply}
use Rattle.session_entries.specs.declared.history.Event.{Event}
use Rattle.session_entries.specs.declared.history.Event.TheVariants.{Key, Look, Sought, Order, Step, Next, Closed}
use Rattle.session_entries.specs.declared.history.Event.TheVariants as event
use Rattle.session_entries.specs.declared.history.JobOrder.{JobOrder}
use Rattle.session_entries.specs.declared.history.JobOrder.TheVariants.{Answered}
use Rattle.session_entries.specs.declared.history.Entry.{Entry}
use Rattle.session_entries.specs.Entries.{is_closed}
use Rattle.session_entries.specs.Sources.{sources_of}
use Rattle.copy_move.specs.declared.run.Course.{Course}
use Rattle.copy_move.specs.declared.run.Course.TheVariants.{GoesOn, Asking, InTrouble, OwedSyncFailed, Skips, Ends}
use Rattle.copy_move.specs.declared.work.Work.{Work}
use Rattle.copy_move.specs.Jobs.{Running, TellsOn, answered_job, answered_on, asks_on, begun_work, closed_course, closed_job, course_after}
use Rattle.copy_move.specs.JobStepReports.{SyncsOwed}
use Rattle.copy_move.specs.Told.{running}
use Rattle.laws_sessions.specs.Traces.{EventLeads, IsTraced, Stand, StepLeads, before_others, if_closed, ordered_job, unless_ended, with_job}
use Rattle.laws_sessions.proofs.Finished.{AreTidy, IsTidyJob, traced_tidy}
use Rattle.laws_sessions.proofs.FinishedPaths.{wound_up}
use Rattle.laws_sessions.proofs.Going.{only_job}
use Rattle.laws_sessions.proofs.Histories.{IsReached, traced_reached}
use Rattle.laws_sessions.proofs.Prefixes.{told_of}
use Rattle.laws_sessions.proofs.Reports.{with_one}
use Rattle.laws_sessions.proofs.Sources.{tells_same}
use Rattle.laws_sessions.proofs.Turns.{Turned, one_turned, turned_id, turned_to}
use Rattle.laws_outcomes.specs.Answered.{asks_after, asks_by, asks_still, replies_said, said_after, settles}
use Rattle.laws_outcomes.proofs.Doing.{ordered_id}
use Rattle.laws_outcomes.proofs.MadeThings.{Unless, unless_of}
use Rattle.laws_outcomes.proofs.Touching.{UnlessEnding}

if_same : {A : Type 0} (b : Bool) (x y : A) → b ≡ true → (if b then x else y) ≡ x
if_same true x y is = refl
if_same false x y is = absurd (let f : ⊥ = cc in f)

-- it waits for an answer to its question, and its questions were answered so
abbrev pub IsSaid : Bool → Replies → Course → Replies → Type 0
IsSaid asks said course replies = (asks_on course ≡ asks) × (to_questions replies ≡ said)

abbrev pub JobSaid : (ℕ → Bool) → (ℕ → Replies) → Running → Type 0
JobSaid asks said job = UnlessEnding job.course (IsSaid (asks job.id) (said job.id) job.course job.replies)

abbrev pub JobsSaid : (ℕ → Bool) → (ℕ → Replies) → List Running → Type 0
JobsSaid asks said [] = ⊤
JobsSaid asks said (job ∷ jobs) = JobSaid asks said job

said_before : (did : Did) (asks : ℕ → Bool) (said : ℕ → Replies) (new : Running) → Unless did (JobSaid asks said new) → JobsSaid asks said (before_others (unless_ended did new) [])
said_before (Ended ending part) asks said new h = tt
said_before did asks said new h = h

-- a step of a job that goes on
goes_said : (did : Did) (said replies : Replies) → to_questions replies ≡ said → Unless did (UnlessEnding (course_after did) (IsSaid (asks_by did) said (course_after did) replies))
goes_said (Ended ending part) said replies is = tt
goes_said did said replies is = (refl, is)

course_said : (job new : Running) (did : Did) (course : Course) (asks : Bool) (said : Replies) → job.course ≡ course → TellsOn course job did new → UnlessEnding course (IsSaid asks said course job.replies)
    → Unless did (UnlessEnding new.course (IsSaid (asks_by did) said new.course new.replies))
course_said job new did GoesOn asks said is (work, t, new_is) k =
    subst (λ (x : Running). Unless did (UnlessEnding x.course (IsSaid (asks_by did) said x.course x.replies))) (sym new_is) (goes_said did said job.replies k.1)
course_said job new did (InTrouble halt) asks said is t k = absurd t
course_said job new did (OwedSyncFailed cause) asks said is t k = absurd t
course_said job new did Asking asks said is t k = absurd t
course_said job new did (Skips cause) asks said is (inl (path, work, did_is, passes, new_is)) k =
    subst (λ (d : Did). Unless d (UnlessEnding new.course (IsSaid (asks_by d) said new.course new.replies))) (sym did_is)
    (subst (λ (x : Running). UnlessEnding x.course (IsSaid false said x.course x.replies)) (sym new_is) (refl, k.1))
course_said job new did (Skips cause) asks said is (inr (off, did_is, new_is)) k =
    subst (λ (d : Did). Unless d (UnlessEnding new.course (IsSaid (asks_by d) said new.course new.replies))) (sym did_is)
    (subst (λ (x : Running). UnlessEnding x.course (IsSaid false said x.course x.replies)) (sym new_is) (refl, k.1))
course_said job new did (Ends ending) asks said is (work, winds, new_is) k =
    subst (λ c. Unless did (UnlessEnding c (IsSaid (asks_by did) said new.course new.replies))) (sym (ap (λ (x : Running). x.course) new_is ∙ is)) (unless_of did ⊤ tt)

-- what is answered to a question is told apart from what troubles were answered
reply_to_questions : (answer : Answer) (replies : Replies) → to_questions (with_reply answer replies) ≡ with_reply answer (to_questions replies)
reply_to_questions Yes replies = refl
reply_to_questions No replies = refl
reply_to_questions All replies = refl
reply_to_questions Update replies = refl
reply_to_questions Nothing replies = refl
reply_to_questions SizeDiffers replies = refl
reply_to_questions Retry replies = refl
reply_to_questions Skip replies = refl
reply_to_questions SkipAll replies = refl
reply_to_questions Abort replies = refl

-- an answer: a question takes it, or waits still; what waits with a trouble, or not at all, asks nothing
no_question : (asks : Bool) (said replies : Replies) (answer : Answer) → false ≡ asks → to_questions replies ≡ said → (false ≡ (asks && not (settles answer))) × (to_questions replies ≡ (if asks then with_reply answer said else said))
no_question true said replies answer not_so is = absurd (let f : ⊥ = cc in f)
no_question false said replies answer not_so is = (refl, is)

takes : (asks : Bool) (said replies : Replies) (answer : Answer) → true ≡ asks → to_questions replies ≡ said → settles answer ≡ true → (false ≡ (asks && not (settles answer))) × (to_questions (with_reply answer replies) ≡ (if asks then with_reply answer said else said))
takes true said replies answer so is settled = (ap not (sym settled), reply_to_questions answer replies ∙ ap (with_reply answer) is)
takes false said replies answer so is settled = absurd (let f : ⊥ = cc in f)

waits : (asks : Bool) (said replies : Replies) → true ≡ asks → to_questions replies ≡ said → (true ≡ (asks && true)) × (to_questions replies ≡ (if asks then said else said))
waits true said replies so is = (refl, is)
waits false said replies so is = absurd (let f : ⊥ = cc in f)

answer_said : (course : Course) (answer : Answer) (job : Running) (asks : Bool) (said : Replies) → job.course ≡ course → UnlessEnding course (IsSaid asks said course job.replies)
    → (let x : Running = answered_on course answer job in UnlessEnding x.course (IsSaid (asks && not (settles answer)) (if asks then with_reply answer said else said) x.course x.replies))
answer_said course answer job asks said is k = by course answer is k
  where
    here : (c : Course) (a : Answer) → job.course ≡ c → UnlessEnding c (IsSaid (asks && not (settles a)) (if asks then with_reply a said else said) c job.replies)
        → UnlessEnding job.course (IsSaid (asks && not (settles a)) (if asks then with_reply a said else said) job.course job.replies)
    here c a at h = subst (λ d. UnlessEnding d (IsSaid (asks && not (settles a)) (if asks then with_reply a said else said) d job.replies)) (sym at) h

    by : (c : Course) (a : Answer) → job.course ≡ c → UnlessEnding c (IsSaid asks said c job.replies)
        → (let x : Running = answered_on c a job in UnlessEnding x.course (IsSaid (asks && not (settles a)) (if asks then with_reply a said else said) x.course x.replies))
    by Asking Yes at h = takes asks said job.replies Yes h.0 h.1 refl
    by Asking No at h = takes asks said job.replies No h.0 h.1 refl
    by Asking All at h = takes asks said job.replies All h.0 h.1 refl
    by Asking Update at h = takes asks said job.replies Update h.0 h.1 refl
    by Asking Nothing at h = takes asks said job.replies Nothing h.0 h.1 refl
    by Asking SizeDiffers at h = takes asks said job.replies SizeDiffers h.0 h.1 refl
    by Asking Abort at h = tt
    by Asking Retry at h = here Asking Retry at (waits asks said job.replies h.0 h.1)
    by Asking Skip at h = here Asking Skip at (waits asks said job.replies h.0 h.1)
    by Asking SkipAll at h = here Asking SkipAll at (waits asks said job.replies h.0 h.1)
    by (InTrouble halt) Retry at h = no_question asks said job.replies Retry h.0 h.1
    by (InTrouble halt) Skip at h = no_question asks said job.replies Skip h.0 h.1
    by (InTrouble halt) SkipAll at h = no_question asks said job.replies SkipAll h.0 h.1
    by (InTrouble halt) Abort at h = tt
    by (InTrouble halt) Yes at h = here (InTrouble halt) Yes at (no_question asks said job.replies Yes h.0 h.1)
    by (InTrouble halt) No at h = here (InTrouble halt) No at (no_question asks said job.replies No h.0 h.1)
    by (InTrouble halt) All at h = here (InTrouble halt) All at (no_question asks said job.replies All h.0 h.1)
    by (InTrouble halt) Update at h = here (InTrouble halt) Update at (no_question asks said job.replies Update h.0 h.1)
    by (InTrouble halt) Nothing at h = here (InTrouble halt) Nothing at (no_question asks said job.replies Nothing h.0 h.1)
    by (InTrouble halt) SizeDiffers at h = here (InTrouble halt) SizeDiffers at (no_question asks said job.replies SizeDiffers h.0 h.1)
    by (OwedSyncFailed cause) Retry at h = no_question asks said job.replies Retry h.0 h.1
    by (OwedSyncFailed cause) Abort at h = tt
    by (OwedSyncFailed cause) Skip at h = here (OwedSyncFailed cause) Skip at (no_question asks said job.replies Skip h.0 h.1)
    by (OwedSyncFailed cause) SkipAll at h = here (OwedSyncFailed cause) SkipAll at (no_question asks said job.replies SkipAll h.0 h.1)
    by (OwedSyncFailed cause) Yes at h = here (OwedSyncFailed cause) Yes at (no_question asks said job.replies Yes h.0 h.1)
    by (OwedSyncFailed cause) No at h = here (OwedSyncFailed cause) No at (no_question asks said job.replies No h.0 h.1)
    by (OwedSyncFailed cause) All at h = here (OwedSyncFailed cause) All at (no_question asks said job.replies All h.0 h.1)
    by (OwedSyncFailed cause) Update at h = here (OwedSyncFailed cause) Update at (no_question asks said job.replies Update h.0 h.1)
    by (OwedSyncFailed cause) Nothing at h = here (OwedSyncFailed cause) Nothing at (no_question asks said job.replies Nothing h.0 h.1)
    by (OwedSyncFailed cause) SizeDiffers at h = here (OwedSyncFailed cause) SizeDiffers at (no_question asks said job.replies SizeDiffers h.0 h.1)
    by GoesOn a at h = here GoesOn a at (no_question asks said job.replies a h.0 h.1)
    by (Skips cause) a at h = here (Skips cause) a at (no_question asks said job.replies a h.0 h.1)
    by (Ends ending) a at h = here (Ends ending) a at tt

order_said : (asks : ℕ → Bool) (said : ℕ → Replies) (id : ℕ) (order : JobOrder) (job : Running) → JobSaid asks said job
    → JobSaid (λ n. asks_after n (Order id order) (asks n)) (λ n. said_after n (Order id order) (asks n) (said n)) (ordered_job id order job)
order_said asks said id (Answered answer) job k =
    subst (λ n. UnlessEnding (let x : Running = ordered_job id (Answered answer) job in x.course)
    (IsSaid (asks_after n (Order id (Answered answer)) (asks n)) (said_after n (Order id (Answered answer)) (asks n) (said n)) (let x : Running = ordered_job id (Answered answer) job in x.course) (let x : Running = ordered_job id (Answered answer) job in x.replies)))
    (sym (ordered_id id (Answered answer) job)) (by (job.id == id))
  where
    by : (b : Bool) → (let x : Running = if b then answered_job answer job else job in UnlessEnding x.course (IsSaid (if b then asks job.id && not (settles answer) else asks job.id)
        (if b then (if asks job.id then with_reply answer (said job.id) else said job.id) else said job.id) x.course x.replies))
    by true = answer_said job.course answer job (asks job.id) (said job.id) refl k
    by false = k

orders_said : (asks : ℕ → Bool) (said : ℕ → Replies) (id : ℕ) (order : JobOrder) (jobs : List Running) → JobsSaid asks said jobs
    → JobsSaid (λ n. asks_after n (Order id order) (asks n)) (λ n. said_after n (Order id order) (asks n) (said n)) (map (ordered_job id order) jobs)
orders_said asks said id order [] k = tt
orders_said asks said id order (job ∷ jobs) k = order_said asks said id order job k

-- on a closed session no job asks
close_said : (course : Course) (asks : Bool) (said replies : Replies) → UnlessEnding course (IsSaid asks said course replies) → UnlessEnding (closed_course course) (IsSaid false said (closed_course course) replies)
close_said GoesOn asks said replies k = (refl, k.1)
close_said (InTrouble halt) asks said replies k = tt
close_said (OwedSyncFailed cause) asks said replies k = tt
close_said Asking asks said replies k = tt
close_said (Skips cause) asks said replies k = (refl, k.1)
close_said (Ends ending) asks said replies k = tt

closed_said : (b : Bool) (asks : ℕ → Bool) (said : ℕ → Replies) (stand : Stand) → JobsSaid asks said stand.jobs → (let s : Stand = if_closed b stand in JobsSaid (λ n. if b then false else asks n) said s.jobs)
closed_said false asks said stand k = k
closed_said true asks said stand k = by stand.jobs k
  where
    by : (jobs : List Running) → JobsSaid asks said jobs → JobsSaid (λ n. false) said (map closed_job jobs)
    by [] h = tt
    by (job ∷ jobs) h = close_said job.course (asks job.id) (said job.id) job.replies h

module _ (opening : CallLog) (tree : IsTree (current opening)) (settled : all_settled opening.changes ≡ true) where
  abbrev AllSaid : List Entry → Stand → Type 0
  AllSaid g stand = JobsSaid (λ n. asks_still n g) (λ n. replies_said n g) stand.jobs

  abbrev Then : List Entry → Event → List Running → Type 0
  Then older what jobs = JobsSaid (λ n. asks_after n what (asks_still n older)) (λ n. said_after n what (asks_still n older) (replies_said n older)) jobs

  -- a step
  module _ (older : List Entry) (was after : Stand) (before now : CallLog) (id : ℕ) (did : Did) (job : Running) (jobs_is : was.jobs ≡ job ∷ []) (id_is : job.id ≡ id) (k : AllSaid older was) where
    job_said : UnlessEnding job.course (IsSaid (asks_still job.id older) (replies_said job.id older) job.course job.replies)
    job_said = subst (λ js. JobsSaid (λ n. asks_still n older) (λ n. replies_said n older) js) jobs_is k

    after_one : (new : Running) → new.id ≡ job.id → Unless did (UnlessEnding new.course (IsSaid (asks_by did) (replies_said job.id older) new.course new.replies)) → Then older (Step id did) (before_others (unless_ended did new) [])
    after_one new same h =
        said_before did (λ n. asks_after n (Step id did) (asks_still n older)) (λ n. said_after n (Step id did) (asks_still n older) (replies_said n older)) new
        (subst (λ b. Unless did (UnlessEnding new.course (IsSaid b (replies_said new.id older) new.course new.replies))) (sym (if_same (id == new.id) (asks_by did) (asks_still new.id older) (eq-eqb id new.id (sym (same ∙ id_is)))))
        (subst (λ n. Unless did (UnlessEnding new.course (IsSaid (asks_by did) (replies_said n older) new.course new.replies))) (sym same) h))

    jobs_then : (new : Option Running) → after.jobs ≡ with_job id new was.jobs → after.jobs ≡ before_others new []
    jobs_then new is = is ∙ (ap (with_job id new) jobs_is ∙ (ap (λ n. with_job n new (job ∷ [])) (sym id_is) ∙ with_one job new))

    stepped : (new : Option Running) → StepLeads job did new was.dirty after.dirty before now → after.jobs ≡ with_job id new was.jobs → Then older (Step id did) after.jobs
    stepped new (inl (next, inl works, after_is)) is =
        subst (λ js. Then older (Step id did) js) (sym (jobs_then new is ∙ ap (λ o. before_others o []) after_is))
        (let same = tells_same job next did works.tells in
        after_one next same.0 (course_said job next did job.course (asks_still job.id older) (replies_said job.id older) refl works.tells job_said))
    stepped new (inl (next, inr syncs, after_is)) is =
        subst (λ js. Then older (Step id did) js) (sym (jobs_then new is ∙ ap (λ o. before_others o []) after_is)) (by syncs.synced)
      where
        goes : IsSaid (asks_still job.id older) (replies_said job.id older) GoesOn job.replies
        goes = subst (λ c. UnlessEnding c (IsSaid (asks_still job.id older) (replies_said job.id older) c job.replies)) syncs.goes job_said

        by : SyncsOwed job syncs.path did next was.dirty after.dirty (Some before) (Some now) → Then older (Step id did) (before_others (unless_ended did next) [])
        by (inl s) =
            after_one next (ap (λ (x : Running). x.id) s.new_is) (subst (λ (d : Did). Unless d (UnlessEnding next.course (IsSaid (asks_by d) (replies_said job.id older) next.course next.replies))) (sym s.did_is)
            (subst (λ (x : Running). UnlessEnding x.course (IsSaid false (replies_said job.id older) x.course x.replies)) (sym s.new_is)
            (subst (λ c. UnlessEnding c (IsSaid false (replies_said job.id older) c job.replies)) (sym syncs.goes) (refl, goes.1))))
        by (inr s) =
            after_one next (ap (λ (x : Running). x.id) s.new_is) (subst (λ (d : Did). Unless d (UnlessEnding next.course (IsSaid (asks_by d) (replies_said job.id older) next.course next.replies))) (sym s.did_is)
            (subst (λ (x : Running). UnlessEnding x.course (IsSaid false (replies_said job.id older) x.course x.replies)) (sym s.new_is) (refl, goes.1)))
    stepped new (inr (gives, after_is)) is = subst (λ js. Then older (Step id did) js) (sym (jobs_then new is ∙ ap (λ o. before_others o []) after_is)) tt

  begins : (older : List Entry) (id : ℕ) (plan : Job) (background : Bool) (o : Option Work) → Then older (event.Began id plan background) (option_map_or (λ w. running id w ∷ []) o [])
  begins older id plan background None = tt
  begins older id plan background (Some w) = (sym (if_same (id == id) false (asks_still id older) (eq-eqb id id refl)), sym (if_same (id == id) no_replies (replies_said id older) (eq-eqb id id refl)))

  -- a job goes on with its next source, as one that makes no last steps
  module _ (older : List Entry) (id : ℕ) (plan : Job) (job next : Running) (id_is : job.id ≡ id) (turn : Turned plan job next) (replies_are : to_questions job.replies ≡ replies_said job.id older) where
    turns : Then older (Next id plan) (next ∷ [])
    turns =
        let here = eq-eqb id next.id (sym (turned_id plan job next turn ∙ id_is)) in
        subst (λ (x : Running). UnlessEnding x.course (IsSaid (asks_after next.id (Next id plan) (asks_still next.id older)) (said_after next.id (Next id plan) (asks_still next.id older) (replies_said next.id older)) x.course x.replies)) (sym turn.next_is) (
          sym (if_same (id == next.id) false (asks_still next.id older) here),
          ap (λ (r : Replies). (let x : Replies = record r { item = None } in x)) (replies_are ∙ ap (λ n. replies_said n older) (sym (turned_id plan job next turn)))
              ∙ sym (if_same (id == next.id) (let r = replies_said next.id older in let x : Replies = record r { item = None } in x) (replies_said next.id older) here),
        )

  -- it was told the end of a source, so it makes no last steps
  still_said : (job new : Running) (course : Course) (asks : Bool) (said : Replies) → TellsOn course job (Ended Finished None) new → ((ending : Ending) → course ≡ Ends ending → ending ≡ Aborted) → UnlessEnding course (IsSaid asks said course job.replies) → to_questions job.replies ≡ said
  still_said job new GoesOn asks said t aborted k = k.1
  still_said job new (InTrouble halt) asks said t aborted k = absurd t
  still_said job new (OwedSyncFailed cause) asks said t aborted k = absurd t
  still_said job new Asking asks said t aborted k = absurd t
  still_said job new (Skips cause) asks said (inl (path, work, did_is, passes, new_is)) aborted k = absurd (let f : ⊥ = cc in f)
  still_said job new (Skips cause) asks said (inr (off, did_is, new_is)) aborted k = absurd (let f : ⊥ = cc in f)
  still_said job new (Ends ending) asks said (work, winds, new_is) aborted k = absurd (let e : Finished ≡ Aborted = wound_up ending job.work work None winds ∙ aborted ending refl in let f : ⊥ = cc in f)

  quiet : (older : List Entry) (was after : Stand) → AllSaid older was → after ≡ was → JobsSaid (λ n. asks_still n older) (λ n. replies_said n older) after.jobs
  quiet older was after k after_is = subst (λ (st : Stand). AllSaid older st) (sym after_is) k

  event_said : (older : List Entry) (was : Stand) (before : CallLog) → IsReached opening older was before → IsTraced opening older was before → AllSaid older was → (what : Event) (after : Stand) (now : CallLog) → EventLeads was what after before now → Then older what after.jobs
  event_said older was before r traced k (Step id did) after now s =
      let one = only_job id was.jobs s.job (told_of opening before older r.part) was.dirty r.marks before s.its r.knows in
      stepped older was after before now id did s.job one.0 one.1 k s.new s.leads s.jobs_is
  event_said older was before r traced k (event.Began id plan background) after now s =
      subst (λ (st : Stand). Then older (event.Began id plan background) st.jobs) (sym s.after_is) (begins older id plan background (begun_work id (sources_of plan)))
  event_said older was before r traced k (Next id plan) after now s =
      let one = only_job id was.jobs s.job (told_of opening before older r.part) was.dirty r.marks before s.its r.knows in
      let job = s.job in
      let t : IsTidyJob opening older was.dirty before job = subst (λ js. AreTidy opening older was.dirty before js) one.0 (traced_tidy opening tree settled older was before traced) in
      let done = s.done in
      let said = subst (λ js. JobsSaid (λ n. asks_still n older) (λ n. replies_said n older) js) one.0 k in
      subst (λ js. Then older (Next id plan) js) (sym (one_turned id was.jobs s.job s.next after.jobs one.0 one.1 s.jobs_is))
      (turns older id plan s.job s.next one.1 (turned_to plan s.job s.next s.next_is) (still_said s.job s.over job.course (asks_still job.id older) (replies_said job.id older) done.tells t.aborted said))
  event_said older was before r traced k (Order id order) after now s =
      subst (λ (st : Stand). Then older (Order id order) st.jobs) (sym s.after_is) (orders_said (λ n. asks_still n older) (λ n. replies_said n older) id order was.jobs k)
  event_said older was before r traced k (Key key time refusals lost) after now s = quiet older was after k s.after_is
  event_said older was before r traced k (Look refusals) after now s = quiet older was after k s.after_is
  event_said older was before r traced k Sought after now s = quiet older was after k s.after_is
  event_said older was before r traced k Closed after now s = quiet older was after k s.after_is

  pub traced_said : (newest : List Entry) (stand : Stand) (now : CallLog) → IsTraced opening newest stand now → AllSaid newest stand
  traced_said [] stand now (stand_is, now_is) = subst (λ (st : Stand). AllSaid [] st) (sym stand_is) tt
  traced_said (e ∷ older) stand now (was, before, traced, f) =
      subst (λ (st : Stand). AllSaid (e ∷ older) st) (sym f.stand_is)
      (closed_said (is_closed (e ∷ older)) (λ n. asks_after n e.what (asks_still n older)) (λ n. said_after n e.what (asks_still n older) (replies_said n older)) f.after
      (event_said older was before (traced_reached opening tree settled older was before traced) traced (traced_said older was before traced) e.what f.after now f.leads))
