-- What the steps of a job make of the dirty folders.
use Rattle.std.proofs.Common.{◌≡◌, ◌⊎◌, ℕ, ◌+◌, ◌*◌, ◌<◌, ◌≤◌, Bool, true, false, List, [], ◌∷◌, ◌++◌, length, refl, sym, ◌∙◌, ap, subst, inl, inr, Option, Some, None, arith}
use Rattle.std.proofs.lemmas.Bool.{true≢false}
use Rattle.std.proofs.lemmas.List.{length-append}
use Rattle.std.specs.Prelude.{if◌then◌else◌}
use Rattle.mc_text.specs.Routes.{Route}
use Rattle.tree_trait.specs.declared.calls.TreeError.{TreeError}
use Rattle.tree_trait.specs.Change.{CallLog, current}
use Rattle.tree_trait.specs.Answers.{IfKnown}
use Rattle.job_reports.specs.declared.report.Cause.{Cause}
use Rattle.job_reports.specs.declared.report.Ending.{Ending}
use Rattle.job_reports.specs.declared.report.Did.{Did}
use Rattle.job_reports.specs.declared.report.Did.TheVariants.{Began, Chunk, Placed, Removed, Made, Set, Kept, Skipped, Cleaned, Barrier, Asked, Merges, Moved, Troubled, Ended}
use Rattle.job_answers.specs.declared.replies.Replies.{Replies}
use Rattle.job_reports.specs.CallRuns.{HasMore}
use Rattle.job_reports.specs.Reports.{ends}
use Rattle.job_reports.specs.Paths.{folder_of, without}
use Rattle.job_reports.specs.Stops.{out_of_memory_at}
use Rattle.job_unsynced.specs.Folders.{is_one_of, joined_folders}
use Rattle.delete_job.specs.Standing.{at_barrier as deletion_barrier}
use Rattle.copy_move.specs.declared.work.Work.{Work}
use Rattle.copy_move.specs.declared.work.Work.TheVariants.{Copy, Delete, Make, Move, SetMode, RemoveEmptied}
use Rattle.copy_move.specs.declared.run.Course.{Course}
use Rattle.copy_move.specs.declared.run.Course.TheVariants.{GoesOn, Skips, Ends}
use Rattle.delete_job.specs.Deletions.{Deleting, left_in}
use Rattle.delete_job.specs.Deletions as deletions
use Rattle.delete_job.specs.DeletionSteps.{DeletionSkips, DeletionStep, LastDeletionStep, after_try, is_decided}
use Rattle.copy_move.specs.Jobs.{Running, CallsOn, PassesOver, TellsOn, course_after, is_fresh}
use Rattle.copy_move.specs.Ranks.{rank_at, rank_on, tries_left}
use Rattle.copy_move.specs.Settling.{NoneForFolder, NoneOwed, with_change}
use Rattle.copy_move.specs.JobStepReports.{LeavesDirty, OwnStep, OwedSyncStep, SkipSteps, SkipWalks, Walks, WalksOn, WindingStep, WorkSkips, WorkSteps, WorkWindsUp, step_made}
use Rattle.job_reports.proofs.Runs.{risen_before}
use Rattle.copy_move.specs.Faults.{MeetsFault}
use Rattle.delete_job.proofs.DeletionRuns.{fewer, one_fewer}
use Rattle.copy_move.proofs.RunSteps.{fault_told, run_ends, run_goes}
use Rattle.make_job.proofs.MakingRuns.{same_log}

-- a change adds a folder at most
pub joined_more : (folder : Route) (dirty : List Route) → length (joined_folders folder dirty) ≤ length dirty + 1
joined_more folder dirty = go (is_one_of folder dirty)
  where
    go : (b : Bool) → length (if b then dirty else dirty ++ folder ∷ []) ≤ length dirty + 1
    go true = omega arith
    go false = let more = length-append dirty (folder ∷ []) in omega (arith, more)

pub one_more : (was now : Bool) (folder : Route) (dirty : List Route) → length (with_change was now folder dirty) ≤ length dirty + 1
one_more false true folder dirty = joined_more folder dirty
one_more true false folder dirty = let less = fewer folder dirty in omega (arith, less)
one_more false false folder dirty = omega arith
one_more true true folder dirty = omega arith

pub tries_after : (did : Did) (work : Work) (dirty : List Route) → tries_left (course_after did) work dirty ≡ length dirty
tries_after (Troubled trouble) work dirty = refl
tries_after (Began part) work dirty = refl
tries_after (Chunk count) work dirty = refl
tries_after (Asked question) work dirty = refl
tries_after (Merges transfer pair names) work dirty = refl
tries_after (Moved pair) work dirty = refl
tries_after (Set path) work dirty = refl
tries_after (Placed path) work dirty = refl
tries_after (Removed path) work dirty = refl
tries_after (Made made) work dirty = refl
tries_after (Kept path) work dirty = refl
tries_after (Skipped path cause) work dirty = refl
tries_after (Cleaned part) work dirty = refl
tries_after Barrier work dirty = refl
tries_after (Ended ending part) work dirty = refl

pub weighs_less : (low high few many tries : ℕ) → low < high → few ≤ many + 1 → tries ≡ few → 3 * low + (few + tries) < 3 * high + (many + many)
weighs_less low high few many tries less more is = omega (arith, less, more, is)

-- a last step adds a folder at most
pub tried_more : (did : Did) (left : Option TreeError) (folder : Route) (dirty : List Route) → length (after_try did left folder dirty) ≤ length dirty + 1
tried_more Barrier None folder dirty = let less = fewer folder dirty in omega (arith, less)
tried_more Barrier (Some e) folder dirty = omega arith
tried_more (Began part) left folder dirty = omega arith
tried_more (Chunk bytes) left folder dirty = omega arith
tried_more (Asked question) left folder dirty = omega arith
tried_more (Merges transfer pair names) left folder dirty = omega arith
tried_more (Moved pair) left folder dirty = omega arith
tried_more (Set path) left folder dirty = omega arith
tried_more (Placed path) left folder dirty = omega arith
tried_more (Removed path) left folder dirty = omega arith
tried_more (Made made) left folder dirty = omega arith
tried_more (Kept kept) left folder dirty = omega arith
tried_more (Skipped path cause) left folder dirty = omega arith
tried_more (Cleaned part) left folder dirty = omega arith
tried_more (Troubled trouble) left folder dirty = omega arith
tried_more (Ended ending part) left folder dirty = omega arith

-- the step of a deletion
module _ (unclaimed : Route → Type 0) (replies : Replies) (d new : Deleting) (did : Did) (calls : ℕ) (dirty dirty_after : List Route) (before after : Option CallLog) (f0 f1 : ℕ) where
  removal_more : (path : Route) → length (without path (joined_folders (folder_of path) dirty)) ≤ length dirty + 1
  removal_more path = let less = fewer path (joined_folders (folder_of path) dirty) in let more = joined_more (folder_of path) dirty in omega (arith, less, more)

  falls_by : (x : Did) → deletions.Tells replies d x new → deletions.DeletionLeaves d x dirty dirty_after before after → (is_decided x ≡ true → left_in new < left_in d) → ends x ≡ false
      → rank_at dirty_after (course_after x) (Delete new) < rank_at dirty GoesOn (Delete d)
  falls_by (Removed path) t (inl h) less going = let low = less refl in let more = subst (λ xs. length xs ≤ length dirty + 1) (sym h.0) (joined_more (folder_of path) dirty) in omega (arith, low, more)
  falls_by (Removed path) t (inr h) less going = let low = less refl in let more = subst (λ xs. length xs ≤ length dirty + 1) (sym h.0) (removal_more path) in omega (arith, low, more)
  falls_by (Kept path) t h less going = let low = less refl in let same = ap length h in omega (arith, low, same)
  falls_by Barrier (stage, a) (folder, own, left, called) less going =
      let few = one_fewer folder dirty own.dirty in
      let count : length dirty_after ≡ length (without folder dirty) = ap length left in
      let rest : left_in new ≡ 0 = ap (λ s. Rattle.delete_job.specs.Standing.rank_of s new.depth new.place) (a.stage_is ∙ stage) in
      omega (arith, few, count, rest)
  falls_by (Troubled trouble) t h less going = let same = ap length h in omega (arith, same)
  falls_by (Ended ending part) t h less going = absurd (true≢false going)
  falls_by (Began part) t h less going = absurd t
  falls_by (Chunk count) t h less going = absurd t
  falls_by (Asked question) t h less going = absurd t
  falls_by (Merges transfer pair names) t h less going = absurd t
  falls_by (Moved pair) t h less going = absurd t
  falls_by (Set path) t h less going = absurd t
  falls_by (Placed path) t h less going = absurd t
  falls_by (Made made) t h less going = absurd t
  falls_by (Skipped path cause) t h less going = let low = less refl in let same = ap length h in omega (arith, low, same)
  falls_by (Cleaned part) t h less going = absurd t

  pub deletion_steps : DeletionStep replies d new did calls dirty dirty_after before after f0 f1 → WorkSteps unclaimed replies (Delete d) (Delete new) did calls dirty dirty_after before after f0 f1
  deletion_steps s = record {
    tells = s.tells;
    walks = s.goes;
    called = s.called;
    leaves = s.leaves;
    counted = s.counted;
    few = let few = s.few in omega (arith, few);
    unknown = s.unknown;
    later = s.later;
    fault = λ h. s.fault (fault_told did h);
    falls = λ going. falls_by did s.tells s.leaves s.fewer going;
  }

pub deletion_winds_up : (ending : Ending) (d new : Deleting) (did : Did) (calls : ℕ) (left : Option TreeError) (dirty dirty_after : List Route) (before after : Option CallLog) (f0 f1 : ℕ) → LastDeletionStep ending d new did calls left dirty dirty_after before after f0 f1
    → WorkWindsUp ending (Delete d) (Delete new) did calls left dirty dirty_after before after f0 f1
deletion_winds_up ending d new did calls left dirty dirty_after before after f0 f1 s = record {
  tells = s.tells;
  walks = s.tries;
  called = s.called;
  folder = s.folder;
  own = s.own;
  dirty_is = s.dirty_is;
  synced = s.synced;
  counted = s.counted;
  few = let few = s.few in omega (arith, few);
  unknown = s.unknown;
  later = s.later;
  fault = s.fault;
  falls = λ going. let near = s.nearer going in omega (arith, near);
}

-- a skip
pub deletion_skips : (cause : Cause) (d new : Deleting) (did : Did) → DeletionSkips cause d did new → deletion_barrier d.stage ≡ false → WorkSkips cause (Delete d) did (Delete new)
deletion_skips cause d new did s apart = by s.skips
  where
    by : ((path : Route) × (did ≡ Skipped path cause) × deletions.IsAtStage d (Rattle.delete_job.specs.Standing.after_item d.path path d.stage) new) ⊎ ((did ≡ Troubled (out_of_memory_at (deletion_barrier d.stage))) × (new ≡ d)) → WorkSkips cause (Delete d) did (Delete new)
    by (inl (path, did_is, a)) = record {
      walks = s.passes;
      skips = inl (path, did_is, a);
      falls = subst (λ x. rank_on (course_after x) (Delete new) < rank_on (Skips cause) (Delete d)) (sym did_is) (let most = s.no_more in omega (arith, most));
    }
    by (inr (did_is, new_is)) = record {
      walks = s.passes;
      skips = inr (did_is ∙ ap (λ b. Troubled (out_of_memory_at b)) apart, ap Delete new_is);
      falls = subst (λ x. rank_on (course_after x) (Delete new) < rank_on (Skips cause) (Delete d)) (sym did_is) (omega arith);
    }

ends_not : (ending : Ending) → Ends ending ≡ GoesOn → ⊥
ends_not ending h = cc

skips_not : (cause : Cause) → Skips cause ≡ GoesOn → ⊥
skips_not cause h = cc

skips_no_end : (cause : Cause) (ending : Ending) → Skips cause ≡ Ends ending → ⊥
skips_no_end cause ending h = cc

same_ending : (ending how : Ending) → Ends ending ≡ Ends how → ending ≡ how
same_ending ending how h = cc

module _ (unclaimed : Route → Type 0) (did : Did) (calls : ℕ) (dirty dirty_after : List Route) (before after : Option CallLog) (f0 f1 : ℕ) where
  abbrev IsOwn : Running → Running → Type 0
  IsOwn job new = OwnStep unclaimed (step_made job new did calls dirty dirty_after before after f0 f1)

  -- a step of the work
  pub worked_on : (id : ℕ) (old work : Work) (was course : Course) (replies : Replies) (job : Running) → (let r : Running = record { id = id; work = old; course = was; replies = replies } in r) ≡ job → job.course ≡ GoesOn
      → (is_fresh job.work ≡ true → IfKnown before (λ log. NoneOwed (current log) job.work dirty)) → (is_fresh job.work ≡ true → IfKnown before (λ log. NoneForFolder (current log) job.work dirty)) → WorkSteps unclaimed replies old work did calls dirty dirty_after before after f0 f1 → course ≡ course_after did
      → IsOwn job (record { id = id; work = work; course = course; replies = replies })
  worked_on id old work was course replies job is goes settled cleared steps course_is =
      let same : old ≡ job.work = ap (λ (j : Running). j.work) is in
      let number : id ≡ job.id = ap (λ (j : Running). j.id) is in
      let said : replies ≡ job.replies = ap (λ (j : Running). j.replies) is in
      let steps_so = subst (λ r. WorkSteps unclaimed r old work did calls dirty dirty_after before after f0 f1) said steps in
      let s = subst (λ w. WorkSteps unclaimed job.replies w work did calls dirty dirty_after before after f0 f1) same steps_so in
      record {
        own = run_goes unclaimed job (record { id = id; work = work; course = course; replies = replies }) did calls dirty dirty_after before after f0 f1 old work same goes steps_so
            (ap (λ n. let r : Running = record { id = n; work = work; course = course; replies = replies } in r) number
            ∙ (ap (λ replies. let r : Running = record { id = job.id; work = work; course = course; replies = replies } in r) said ∙ ap (λ c. let r : Running = record job { work = work; course = c } in r) course_is));
        settled = λ now fresh. settled fresh;
        cleared = λ now fresh. cleared fresh;
        leaves = subst (λ c. LeavesDirty c job.work did work dirty dirty_after before after) (sym goes) s.leaves;
        walks = subst (λ c. WalksOn unclaimed job.replies c job.work work did calls dirty dirty_after before after f0 f1) (sym goes) s.walks;
        winds = λ ending ends. absurd (ends_not ending (sym ends ∙ goes));
        falls = λ going. subst (λ c. rank_at dirty_after c work < rank_at dirty job.course job.work) (sym course_is) (subst (λ c. rank_at dirty_after (course_after did) work < rank_at dirty c job.work) (sym goes) (s.falls going));
      }

  -- a last step
  pub wound_up : (ending : Ending) (job new : Running) → job.course ≡ Ends ending → WindingStep ending (step_made job new did calls dirty dirty_after before after f0 f1) → IsOwn job new
  wound_up ending job new ends w = record {
    own = run_ends unclaimed job new did calls dirty dirty_after before after f0 f1 ending job.work new.work w.left refl ends w.winds w.new_is;
    settled = λ goes fresh. absurd (ends_not ending (sym ends ∙ goes));
    cleared = λ goes fresh. absurd (ends_not ending (sym ends ∙ goes));
    leaves = subst (λ c. LeavesDirty c job.work did new.work dirty dirty_after before after) (sym ends)
        (record { refusal = w.left; folder = w.winds.folder; own = w.winds.own; dirty_is = w.winds.dirty_is; tried = w.winds.synced });
    walks = subst (λ c. WalksOn unclaimed job.replies c job.work new.work did calls dirty dirty_after before after f0 f1) (sym ends) (w.left, w.winds.walks);
    winds = λ how is. subst (λ e. WindingStep e (step_made job new did calls dirty dirty_after before after f0 f1)) (same_ending ending how (sym ends ∙ is)) w;
    falls = λ going.
        subst (λ c. rank_at dirty_after c new.work < rank_at dirty job.course job.work) (sym (ap (λ (r : Running). r.course) w.new_is ∙ ends))
        (subst (λ c. rank_at dirty_after (Ends ending) new.work < rank_at dirty c job.work) (sym ends) (w.winds.falls going));
  }

module _ (unclaimed : Route → Type 0) (contents : Option CallLog) (dirty : List Route) (f : ℕ) where
  -- the report of a skip, or that there is no memory for it
  pub skipped_step : (cause : Cause) (job new : Running) (did : Did) (calls : ℕ) → job.course ≡ Skips cause → SkipSteps cause job new did calls → OwnStep unclaimed (step_made job new did calls dirty dirty contents contents f f)
  skipped_step cause job new did calls skips s = by (let k = s.skips in k.skips)
    where
      built : TellsOn (Skips cause) job did new → (MeetsFault (Skips cause) did → ⊥) → OwnStep unclaimed (step_made job new did calls dirty dirty contents contents f f)
      built tells quiet = record {
        own = record {
          tells = subst (λ c. TellsOn c job did new) (sym skips) tells;
          called = λ log known. subst (λ c. CallsOn unclaimed c job did new log contents) (sym skips) known;
          counted = λ log known now has. subst (λ n. HasMore log n now) (sym s.none) (same_log log now contents known has);
          few = let none = s.none in omega (arith, none);
          unknown = λ h. h;
          later = omega arith;
          fault = λ h. absurd (quiet (subst (λ c. MeetsFault c did) skips h));
        };
        settled = λ goes fresh. absurd (skips_not cause (sym skips ∙ goes));
        cleared = λ goes fresh. absurd (skips_not cause (sym skips ∙ goes));
        leaves = subst (λ c. LeavesDirty c job.work did new.work dirty dirty contents contents) (sym skips) refl;
        walks = subst (λ c. WalksOn unclaimed job.replies c job.work new.work did calls dirty dirty contents contents f f) (sym skips)
            (subst (λ (r : Running). SkipWalks cause job.work did r.work) (sym s.new_is) (let k = s.skips in k.walks));
        winds = λ ending ends. absurd (skips_no_end cause ending (sym skips ∙ ends));
        falls = λ going.
            let low = (let k = s.skips in k.falls) in
            let tries = tries_after did s.work dirty in
            let less = weighs_less (rank_on (course_after did) s.work) (rank_on (Skips cause) job.work) (length dirty) (length dirty) (tries_left (course_after did) s.work dirty) low (omega arith) tries in
            subst (λ (r : Running). rank_at dirty r.course r.work < rank_at dirty job.course job.work) (sym s.new_is) (subst (λ c. rank_at dirty (course_after did) s.work < rank_at dirty c job.work) (sym skips) less);
      }

      by : ((path : Route) × (did ≡ Skipped path cause) × PassesOver job.work path s.work) ⊎ ((did ≡ Troubled (out_of_memory_at false)) × (s.work ≡ job.work)) → OwnStep unclaimed (step_made job new did calls dirty dirty contents contents f f)
      by (inl (path, did_is, passes)) =
          built (inl (path, s.work, did_is, passes, s.new_is ∙ ap (λ d. let r : Running = record job { work = s.work; course = course_after d } in r) did_is))
          (λ fault. subst (λ d. MeetsFault (Skips cause) d → ⊥) (sym did_is) (λ h. h) fault)
      by (inr (did_is, same)) =
          built (inr (s.apart, did_is, s.new_is ∙ (ap (λ w. let r : Running = record job { work = w; course = course_after did } in r) same ∙ ap (λ d. let r : Running = record job { course = course_after d } in r) did_is)))
          (λ fault. subst (λ d. MeetsFault (Skips cause) d → ⊥) (sym did_is) (λ h. absurd cc) fault)

-- a last step of the work
pub winding_step : (ending : Ending) (id : ℕ) (old work : Work) (course : Course) (replies : Replies) (job : Running) (did : Did) (calls : ℕ) (left : Option TreeError) (dirty dirty_after : List Route) (before after : Option CallLog) (f0 f1 : ℕ)
    → (let r : Running = record { id = id; work = old; course = course; replies = replies } in r) ≡ job → WorkWindsUp ending old work did calls left dirty dirty_after before after f0 f1
    → WindingStep ending (step_made job (record { id = id; work = work; course = course; replies = replies }) did calls dirty dirty_after before after f0 f1)
winding_step ending id old work course replies job did calls left dirty dirty_after before after f0 f1 is winds =
    subst (λ j. WindingStep ending (step_made j (record { id = id; work = work; course = course; replies = replies }) did calls dirty dirty_after before after f0 f1)) is record { left = left; winds = winds; new_is = refl }

-- a step after looks at the tree, which may have met faults
walks_later : (unclaimed : Route → Type 0) (replies : Replies) (old new : Work) (did : Did) (calls : ℕ) (dirty dirty_after : List Route) (before after : Option CallLog) (f0 f1 f2 : ℕ) → f0 ≤ f1 → Walks unclaimed replies old new did calls dirty dirty_after before after f1 f2 → Walks unclaimed replies old new did calls dirty dirty_after before after f0 f2
walks_later unclaimed replies (Make m) new did calls dirty dirty_after before after f0 f1 f2 later w = tt
walks_later unclaimed replies (Move m) new did calls dirty dirty_after before after f0 f1 f2 later w = tt
walks_later unclaimed replies (SetMode s) new did calls dirty dirty_after before after f0 f1 f2 later w = tt
walks_later unclaimed replies (RemoveEmptied r) new did calls dirty dirty_after before after f0 f1 f2 later w = tt
walks_later unclaimed replies (Copy c) (Copy new) did calls dirty dirty_after before after f0 f1 f2 later w =
    record { free = w.free; allows = w.allows; since = w.since; later = let more = w.later in omega (arith, later, more); steps = w.steps }
walks_later unclaimed replies (Delete d) (Delete new) did calls dirty dirty_after before after f0 f1 f2 later (inl (worked, mid, spare, spare_after, s, passed)) = inl (
  worked,
  mid,
  spare,
  spare_after,
  record {
    entered = s.entered;
    mid = s.mid;
    descends = s.descends;
    working = let w = s.working in record {
      works = w.works;
      called = w.called;
      leaves = w.leaves;
      counted = w.counted;
      few = w.few;
      unknown = w.unknown;
      later = let more = w.later in omega (arith, later, more);
      fault = λ h. risen_before f0 f1 f2 later (w.fault h);
    };
    falls = s.falls;
    no_more = s.no_more;
  },
  passed,
)
walks_later unclaimed replies (Delete d) (Delete new) did calls dirty dirty_after before after f0 f1 f2 later (inr (spare, s, same)) = inr (
  spare,
  record {
    syncs = s.syncs;
    counted = s.counted;
    few = s.few;
    unknown = s.unknown;
    later = let more = s.later in omega (arith, later, more);
    fault = λ h. risen_before f0 f1 f2 later (s.fault h);
  },
  same,
)
walks_later unclaimed replies old new did calls dirty dirty_after before after f0 f1 f2 later w = absurd w

-- a step of a job that goes on, after such looks
pub own_later : (unclaimed : Route → Type 0) (job new : Running) (did : Did) (calls : ℕ) (dirty dirty_after : List Route) (first before after : Option CallLog) (f0 f1 f2 : ℕ) → job.course ≡ GoesOn → before ≡ first → f0 ≤ f1
    → OwnStep unclaimed (step_made job new did calls dirty dirty_after before after f1 f2) → OwnStep unclaimed (step_made job new did calls dirty dirty_after first after f0 f2)
own_later unclaimed job new did calls dirty dirty_after first before after f0 f1 f2 goes same later o = subst (λ b. OwnStep unclaimed (step_made job new did calls dirty dirty_after b after f0 f2)) same record {
  own = record {
    tells = o.own.tells;
    called = o.own.called;
    counted = o.own.counted;
    few = o.own.few;
    unknown = o.own.unknown;
    later = let more = o.own.later in omega (arith, later, more);
    fault = λ h. risen_before f0 f1 f2 later (o.own.fault h);
  };
  settled = o.settled;
  cleared = o.cleared;
  leaves = o.leaves;
  walks = subst (λ c. WalksOn unclaimed job.replies c job.work new.work did calls dirty dirty_after before after f0 f2) (sym goes)
      (walks_later unclaimed job.replies job.work new.work did calls dirty dirty_after before after f0 f1 f2 later (subst (λ c. WalksOn unclaimed job.replies c job.work new.work did calls dirty dirty_after before after f1 f2) goes o.walks));
  winds = λ ending ends. absurd (ends_not ending (sym ends ∙ goes));
  falls = o.falls;
}

pub settling_later : (job new : Running) (did : Did) (calls : ℕ) (dirty dirty_after : List Route) (first before after : Option CallLog) (f0 f1 f2 : ℕ) → before ≡ first → f0 ≤ f1
    → OwedSyncStep (step_made job new did calls dirty dirty_after before after f1 f2) → OwedSyncStep (step_made job new did calls dirty dirty_after first after f0 f2)
settling_later job new did calls dirty dirty_after first before after f0 f1 f2 same later s = subst (λ b. OwedSyncStep (step_made job new did calls dirty dirty_after b after f0 f2)) same record {
  goes = s.goes;
  fresh = s.fresh;
  path = s.path;
  owed = s.owed;
  waits = s.waits;
  synced = s.synced;
  counted = s.counted;
  few = s.few;
  unknown = s.unknown;
  later = let more = s.later in omega (arith, later, more);
  fault = λ h. risen_before f0 f1 f2 later (s.fault h);
}
