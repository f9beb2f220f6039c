-- Each step of a job leaves each path alone that its item doesn't touch, and, once it has kept the target of its copy, each path.
use Rattle.std.proofs.Common.{◌≡◌, ◌⊎◌, ℕ, Bool, true, false, List, [], ◌∷◌, refl, sym, ◌∙◌, ap, subst, inl, inr, Option, Some, None, append-nil}
use Rattle.std.specs.Prelude.{if◌then◌else◌}
use Rattle.std.proofs.lemmas.Bool.{both_ways, eq-eqb, false_from_ne_true}
use Rattle.mc_text.specs.Routes.{Route, same_path}
use Rattle.tree_trait.specs.FileSystem.{View, value_at}
use Rattle.tree_trait.specs.Shape.{IsTree}
use Rattle.tree_trait.specs.Change.{CallLog, current}
use Rattle.tree_trait.specs.CrashImages.{Among, all_settled}
use Rattle.tree_trait.proofs.Visible.{same_path-self, same_path-true}
use Rattle.job_reports.specs.declared.report.Did.{Did}
use Rattle.job_reports.specs.declared.report.Did.TheVariants.{Began, Chunk, Placed, Removed, Made, Set, Kept, Skipped, Cleaned, Barrier, Asked, Merges, Moved, Troubled, Ended}
use Rattle.job_reports.specs.declared.report.Ending.{Ending}
use Rattle.job_reports.specs.Jobs.{ItemOfJob, Copies}
use Rattle.job_reports.specs.Reports.{ends}
use Rattle.copy_move.specs.declared.run.Course.{Course}
use Rattle.copy_move.specs.declared.run.Course.TheVariants.{GoesOn, Asking, InTrouble, OwedSyncFailed, Skips, Ends}
use Rattle.copy_move.specs.declared.work.Work.{Work}
use Rattle.copy_move.specs.declared.work.Work.TheVariants.{Copy, Delete, Make, Move, SetMode, RemoveEmptied}
use Rattle.copy_move.specs.Jobs.{Running, TellsOn, WorkWinds, course_after}
use Rattle.copy_move.specs.JobStepReports.{SyncsOwed, WalksOn}
use Rattle.session_entries.specs.declared.history.Entry.{Entry}
use Rattle.session_entries.specs.Entries.{IsMoment}
use Rattle.session_entries.specs.LiveJobs.{live_item, live_jobs}
use Rattle.session_entries.specs.Moves.{is_of_move}
use Rattle.session_entries.specs.Named.{names}
use Rattle.laws_sessions.specs.Replayed.{log_prefix, made_by, replayed_event, replayed_step, replayed_tree}
use Rattle.laws_sessions.specs.Touched.{touches}
use Rattle.laws_sessions.specs.Traces.{EventLeads, IsTraced, IsUnclaimed, JobSteps, Stand, StepLeads, WorkLeads}
use Rattle.laws_sessions.proofs.Deleted.{put_off}
use Rattle.laws_sessions.proofs.Done.{IsFound, found_moment}
use Rattle.laws_sessions.proofs.Going.{only_job}
use Rattle.laws_sessions.proofs.Histories.{IsReached, traced_reached}
use Rattle.laws_sessions.proofs.Moments.{log_of}
use Rattle.laws_sessions.proofs.MovedPaths.{moved_off}
use Rattle.laws_sessions.proofs.Prefixes.{replayed_more, told_of}
use Rattle.laws_sessions.proofs.Reports.{HasLive, told_item}
use Rattle.laws_sessions.proofs.Sources.{item_in, tells_same}
use Rattle.laws_outcomes.specs.Begun.{tree_begun}
use Rattle.laws_outcomes.specs.Keeps.{has_kept, keeps_by}
use Rattle.laws_outcomes.specs.OutcomeLaws.{KeptLaw, UntouchedLaw}
use Rattle.laws_outcomes.specs.Untouched.{IsStepOf}
use Rattle.laws_sessions.proofs.ChangedPaths.{IsChanged}
use Rattle.laws_outcomes.proofs.CutEntries.{AtStep, IsFirst, at_step, changed_touches}
use Rattle.laws_outcomes.proofs.Elsewhere.{untouched_since}
use Rattle.laws_outcomes.proofs.KeptSessions.{all_same, kept_since, traced_spared}
use Rattle.laws_outcomes.proofs.KeptTargets.{JobsSpare, Spares, course_spares}
use Rattle.laws_outcomes.proofs.MadeThings.{Unless}
use Rattle.laws_outcomes.proofs.Touching.{UnlessEnding, placed_off, set_off}

-- the one path that is changed is another one
other : (p path : Route) → (Among (p ∷ []) path → ⊥) → same_path path p ≡ false
other p path none = false_from_ne_true _ (λ same. none (inl (same_path-true path p same)))

-- a report that changes nothing at a path leaves it as it was, but for the part that an end names
step_still : (did : Did) (log : CallLog) (item : ItemOfJob) (v : View) (path : Route) → (IsChanged did path → ⊥) → (ends did ≡ true → names did path ≡ false) → replayed_step log did (Some item) v path ≡ v path
step_still (Ended ending None) log item v path none end = refl
step_still (Ended ending (Some part)) log item v path none end = put_off v part (value_at (current log) part) path (end refl)
step_still (Placed p) log item v path none end = placed_off (Some item) p v path (other p path none)
step_still (Removed p) log item v path none end = put_off v p None path (other p path none)
step_still (Made p) log item v path none end = put_off v p (Some (made_by (Some item) p v)) path (other p path none)
step_still (Set p) log item v path none end = set_off (Some item) p v path (other p path none)
step_still (Moved pair) log item v path none end = moved_off pair v path (false_from_ne_true _ none)
step_still (Began part) log item v path none end = refl
step_still (Chunk count) log item v path none end = refl
step_still (Kept kept) log item v path none end = refl
step_still (Asked question) log item v path none end = refl
step_still (Merges transfer pair within) log item v path none end = refl
step_still (Skipped left cause) log item v path none end = refl
step_still (Cleaned part) log item v path none end = refl
step_still Barrier log item v path none end = refl
step_still (Troubled trouble) log item v path none end = refl

-- a last step changes nothing
winds_unchanged : (ending : Ending) (old new : Work) (did : Did) (path : Route) → WorkWinds ending old did new → IsChanged did path → ⊥
winds_unchanged ending (Copy old) (Copy new) (Placed p) path t changed = t.may
winds_unchanged ending (Copy old) (Copy new) (Removed p) path t changed = t.may
winds_unchanged ending (Copy old) (Copy new) (Made p) path t changed = t.may
winds_unchanged ending (Copy old) (Copy new) (Set p) path t changed = t.may
winds_unchanged ending (Copy old) (Copy new) (Moved pair) path t changed = t.may
winds_unchanged ending (Delete old) (Delete new) (Placed p) path t changed = t
winds_unchanged ending (Delete old) (Delete new) (Removed p) path t changed = t
winds_unchanged ending (Delete old) (Delete new) (Made p) path t changed = t
winds_unchanged ending (Delete old) (Delete new) (Set p) path t changed = t
winds_unchanged ending (Delete old) (Delete new) (Moved pair) path t changed = t
winds_unchanged ending (Make old) (Make new) (Placed p) path t changed = t
winds_unchanged ending (Make old) (Make new) (Removed p) path t changed = t
winds_unchanged ending (Make old) (Make new) (Made p) path t changed = t
winds_unchanged ending (Make old) (Make new) (Set p) path t changed = t
winds_unchanged ending (Make old) (Make new) (Moved pair) path t changed = t
winds_unchanged ending (Move old) (Move new) (Placed p) path t changed = t
winds_unchanged ending (Move old) (Move new) (Removed p) path t changed = t
winds_unchanged ending (Move old) (Move new) (Made p) path t changed = t
winds_unchanged ending (Move old) (Move new) (Set p) path t changed = t
winds_unchanged ending (Move old) (Move new) (Moved pair) path t changed = t
winds_unchanged ending (SetMode old) (SetMode new) (Placed p) path t changed = t
winds_unchanged ending (SetMode old) (SetMode new) (Removed p) path t changed = t
winds_unchanged ending (SetMode old) (SetMode new) (Made p) path t changed = t
winds_unchanged ending (SetMode old) (SetMode new) (Set p) path t changed = t
winds_unchanged ending (SetMode old) (SetMode new) (Moved pair) path t changed = t
winds_unchanged ending (RemoveEmptied old) (RemoveEmptied new) (Placed p) path t changed = t
winds_unchanged ending (RemoveEmptied old) (RemoveEmptied new) (Removed p) path t changed = t
winds_unchanged ending (RemoveEmptied old) (RemoveEmptied new) (Made p) path t changed = t
winds_unchanged ending (RemoveEmptied old) (RemoveEmptied new) (Set p) path t changed = t
winds_unchanged ending (RemoveEmptied old) (RemoveEmptied new) (Moved pair) path t changed = t
winds_unchanged ending old new (Began part) path t changed = changed
winds_unchanged ending old new (Chunk count) path t changed = changed
winds_unchanged ending old new (Kept kept) path t changed = changed
winds_unchanged ending old new (Asked question) path t changed = changed
winds_unchanged ending old new (Merges transfer pair within) path t changed = changed
winds_unchanged ending old new (Skipped left cause) path t changed = changed
winds_unchanged ending old new (Cleaned part) path t changed = changed
winds_unchanged ending old new Barrier path t changed = changed
winds_unchanged ending old new (Troubled trouble) path t changed = changed
winds_unchanged ending old new (Ended how part) path t changed = changed
winds_unchanged ending old new did path t changed = t

-- so a change comes in work that goes on, and goes on
changed_goes : (job new : Running) (did : Did) (course : Course) (path : Route) → job.course ≡ course → TellsOn course job did new → IsChanged did path → (job.course ≡ GoesOn) × (new.course ≡ course_after did)
changed_goes job new did GoesOn path is (work, tells, new_is) changed = (is, ap (λ (x : Running). x.course) new_is)
changed_goes job new did (InTrouble halt) path is t changed = absurd t
changed_goes job new did (OwedSyncFailed why) path is t changed = absurd t
changed_goes job new did Asking path is t changed = absurd t
changed_goes job new did (Skips why) path is (inl (left, work, did_is, passes, new_is)) changed = absurd (subst (λ d. IsChanged d path) did_is changed)
changed_goes job new did (Skips why) path is (inr (apart, did_is, new_is)) changed = absurd (subst (λ d. IsChanged d path) did_is changed)
changed_goes job new did (Ends ending) path is (work, winds, new_is) changed = absurd (winds_unchanged ending job.work work did path winds changed)

-- a report that changes a path is none after which a job waits or ends
changed_course : (did : Did) (path : Route) → IsChanged did path → course_after did ≡ GoesOn
changed_course (Placed p) path changed = refl
changed_course (Removed p) path changed = refl
changed_course (Made p) path changed = refl
changed_course (Set p) path changed = refl
changed_course (Moved pair) path changed = refl
changed_course (Began part) path changed = absurd changed
changed_course (Chunk count) path changed = absurd changed
changed_course (Kept kept) path changed = absurd changed
changed_course (Asked question) path changed = absurd changed
changed_course (Merges transfer pair within) path changed = absurd changed
changed_course (Skipped left cause) path changed = absurd changed
changed_course (Cleaned part) path changed = absurd changed
changed_course Barrier path changed = absurd changed
changed_course (Troubled trouble) path changed = absurd changed
changed_course (Ended ending part) path changed = absurd changed

-- one that changes it doesn't hang on the log
changed_anywhere : (did : Did) (log now : CallLog) (item : ItemOfJob) (v : View) (path q : Route) → IsChanged did path → replayed_step log did (Some item) v q ≡ replayed_step now did (Some item) v q
changed_anywhere (Placed p) log now item v path q changed = refl
changed_anywhere (Removed p) log now item v path q changed = refl
changed_anywhere (Made p) log now item v path q changed = refl
changed_anywhere (Set p) log now item v path q changed = refl
changed_anywhere (Moved pair) log now item v path q changed = refl
changed_anywhere (Began part) log now item v path q changed = absurd changed
changed_anywhere (Chunk count) log now item v path q changed = absurd changed
changed_anywhere (Kept kept) log now item v path q changed = absurd changed
changed_anywhere (Asked question) log now item v path q changed = absurd changed
changed_anywhere (Merges transfer pair within) log now item v path q changed = absurd changed
changed_anywhere (Skipped left cause) log now item v path q changed = absurd changed
changed_anywhere (Cleaned part) log now item v path q changed = absurd changed
changed_anywhere Barrier log now item v path q changed = absurd changed
changed_anywhere (Troubled trouble) log now item v path q changed = absurd changed
changed_anywhere (Ended ending part) log now item v path q changed = absurd changed

-- and is no end, nor does it keep anything
changed_unless : (did : Did) (path : Route) (A : Type 0) → IsChanged did path → Unless did A → A
changed_unless (Placed p) path A changed h = h
changed_unless (Removed p) path A changed h = h
changed_unless (Made p) path A changed h = h
changed_unless (Set p) path A changed h = h
changed_unless (Moved pair) path A changed h = h
changed_unless (Began part) path A changed h = absurd changed
changed_unless (Chunk count) path A changed h = absurd changed
changed_unless (Kept kept) path A changed h = absurd changed
changed_unless (Asked question) path A changed h = absurd changed
changed_unless (Merges transfer pair within) path A changed h = absurd changed
changed_unless (Skipped left cause) path A changed h = absurd changed
changed_unless (Cleaned part) path A changed h = absurd changed
changed_unless Barrier path A changed h = absurd changed
changed_unless (Troubled trouble) path A changed h = absurd changed
changed_unless (Ended ending part) path A changed h = absurd changed

keeps_true : (did : Did) (path : Route) → IsChanged did path → keeps_by did true ≡ true
keeps_true (Placed p) path changed = refl
keeps_true (Removed p) path changed = refl
keeps_true (Made p) path changed = refl
keeps_true (Set p) path changed = refl
keeps_true (Moved pair) path changed = refl
keeps_true (Began part) path changed = absurd changed
keeps_true (Chunk count) path changed = absurd changed
keeps_true (Kept kept) path changed = absurd changed
keeps_true (Asked question) path changed = absurd changed
keeps_true (Merges transfer pair within) path changed = absurd changed
keeps_true (Skipped left cause) path changed = absurd changed
keeps_true (Cleaned part) path changed = absurd changed
keeps_true Barrier path changed = absurd changed
keeps_true (Troubled trouble) path changed = absurd changed
keeps_true (Ended ending part) path changed = absurd changed

-- a report changes the path, or it doesn't
one_or : (p path : Route) → Among (p ∷ []) path ⊎ (Among (p ∷ []) path → ⊥)
one_or p path = by (same_path path p) refl
  where
    by : (b : Bool) → same_path path p ≡ b → Among (p ∷ []) path ⊎ (Among (p ∷ []) path → ⊥)
    by true same = inl (inl (same_path-true path p same))
    by false off = inr (λ among. elim among [ inl is ↦ both_ways _ off (subst (λ q. same_path q p ≡ true) (sym is) (same_path-self p)) | inr none ↦ none ])

changed_or : (did : Did) (path : Route) → IsChanged did path ⊎ (IsChanged did path → ⊥)
changed_or (Placed p) path = one_or p path
changed_or (Removed p) path = one_or p path
changed_or (Made p) path = one_or p path
changed_or (Set p) path = one_or p path
changed_or (Moved pair) path = by (is_of_move pair path) refl
  where
    by : (b : Bool) → is_of_move pair path ≡ b → (is_of_move pair path ≡ true) ⊎ (is_of_move pair path ≡ true → ⊥)
    by true is = inl is
    by false is = inr (λ on. both_ways _ is on)
changed_or (Began part) path = inr (λ none. none)
changed_or (Chunk count) path = inr (λ none. none)
changed_or (Kept kept) path = inr (λ none. none)
changed_or (Asked question) path = inr (λ none. none)
changed_or (Merges transfer pair within) path = inr (λ none. none)
changed_or (Skipped left cause) path = inr (λ none. none)
changed_or (Cleaned part) path = inr (λ none. none)
changed_or Barrier path = inr (λ none. none)
changed_or (Troubled trouble) path = inr (λ none. none)
changed_or (Ended ending part) path = inr (λ none. none)

module _ (opening now : CallLog) (newest : List Entry) (stand : Stand) (tree : IsTree (current opening)) (settled : all_settled opening.changes ≡ true) (traced : IsTraced opening newest stand now)
    (e : Entry) (older : List Entry) (id : ℕ) (item : ItemOfJob) (did : Did) (path : Route) (step : IsStepOf e older id item did) (moment : IsMoment newest (e ∷ older) (e ∷ older) e.calls)
    (end : ends did ≡ true → names did path ≡ false) where
  abbrev v : View
  v = replayed_tree opening now older

  f : IsFound opening tree settled now e older
  f = found_moment opening tree settled now e older [] newest (e ∷ older) (e ∷ older) stand e.calls now [] traced (ap (log_of now) (sym (append-nil now.changes))) moment (inl refl)

  -- what the entry makes of the tree
  shows : replayed_tree opening now (e ∷ older) ≡ replayed_step (log_prefix opening e.calls now) did (Some item) v
  shows =
      ap (λ w. replayed_event (log_prefix opening e.calls now) w (live_jobs older) v) step.reports
      ∙ ap (λ o. replayed_step (log_prefix opening e.calls now) did o v) step.its

  unchanged : (IsChanged did path → ⊥) → replayed_tree opening now (e ∷ older) path ≡ replayed_tree opening now older path
  unchanged none = ap (λ (w : View). w path) shows ∙ step_still did (log_prefix opening e.calls now) item v path none end

  -- of a path that the item doesn't touch
  pub alone_step : touches item path ≡ false → replayed_tree opening now (e ∷ older) path ≡ replayed_tree opening now older path
  alone_step off =
      let first : IsFirst opening tree settled now (e ∷ older) = record { stand = f.stand; now = f.now; rest = f.later; traced = f.whole; end_is = f.later_is } in
      let at : AtStep opening tree settled now e older id did = at_step opening tree settled now e older id did first step.reports in
      let same : at.item ≡ item =
      (let one : Some at.item ≡ Some item = sym (ap (λ b. if b then Some at.item else None) (eq-eqb id id refl)) ∙ (sym (ap (live_item id) at.live) ∙ step.its) in cc) in
      unchanged (λ changed. both_ways _ off (subst (λ i. touches i path ≡ true) same (changed_touches v at.part at.item did path at.fact changed)))

  -- of any path, where the target of a copy was kept
  module _ (source target : Route) (copies : item ≡ Copies source target) (has : has_kept id older ≡ true) where
    r : IsReached opening older f.was f.before
    r = traced_reached opening tree settled older f.was f.before f.traced

    abbrev w : View
    w = replayed_tree opening f.before older

    same_view : v ≡ w
    same_view = ap (λ (l : CallLog). replayed_tree opening l older) f.end_is ∙ replayed_more opening f.before f.rest older r.within

    s : JobSteps f.was id did f.after f.before f.now
    s = subst (λ x. EventLeads f.was x f.after f.before f.now) step.reports f.leads

    one : (f.was.jobs ≡ s.job ∷ []) × (s.job.id ≡ id)
    one = only_job id f.was.jobs s.job (told_of opening f.before older r.part) f.was.dirty r.marks f.before s.its r.knows

    abbrev job : Running
    job = s.job

    abbrev begun : View
    begun = tree_begun opening f.before job.id older

    item_is : item_in job.work ≡ item
    item_is = told_item job (live_jobs older) r.part item (subst (λ js. HasLive (live_jobs older) js r.part) one.0 r.live) (subst (λ n. live_item n (live_jobs older) ≡ Some item) (sym one.1) step.its)

    spares : UnlessEnding job.course (Spares w begun (has_kept job.id older) job.work)
    spares = subst (λ js. JobsSpare w (λ n. tree_begun opening f.before n older) (λ n. has_kept n older) js) one.0 (traced_spared opening tree settled older f.was f.before f.traced)

    kept_is : has_kept job.id older ≡ true
    kept_is = ap (λ n. has_kept n older) one.1 ∙ has

    -- of work on a copy all is as it was at its beginning
    all_as_begun : (u : View) (kept : Bool) (work : Work) → item_in work ≡ Copies source target → kept ≡ true → Spares u begun kept work → u path ≡ begun path
    all_as_begun u kept work is kept_so spared = all_same u begun kept work source target is kept_so spared path

    by_work : (new : Running) → IsChanged did path → WorkLeads job did new f.was.dirty f.after.dirty f.before f.now → replayed_step f.now did (Some (item_in job.work)) w path ≡ w path
    by_work new changed works =
        let goes = changed_goes job new did job.course path refl works.tells changed in
        let walks = works.walks in
        let before : Spares w begun (has_kept job.id older) job.work = subst (λ c. UnlessEnding c (Spares w begun (has_kept job.id older) job.work)) goes.0 spares in
        let stepped : Unless did (UnlessEnding new.course (Spares (replayed_step f.now did (Some (item_in job.work)) w) begun (keeps_by did (has_kept job.id older)) new.work)) =
        course_spares f.now w begun (has_kept job.id older) job new did GoesOn goes.0 (subst (λ c. TellsOn c job did new) goes.0 works.tells) (λ cause is. absurd (let x : ⊥ = cc in x)) walks.0 walks.1 walks.2 f.was.dirty f.after.dirty (Some f.before) (Some f.now)
        (λ is. subst (λ c. WalksOn IsUnclaimed job.replies c job.work new.work did walks.0 f.was.dirty f.after.dirty (Some f.before) (Some f.now) walks.1 walks.2) goes.0 walks.3) before in
        let after : Spares (replayed_step f.now did (Some (item_in job.work)) w) begun (keeps_by did (has_kept job.id older)) new.work =
        subst (λ c. UnlessEnding c (Spares (replayed_step f.now did (Some (item_in job.work)) w) begun (keeps_by did (has_kept job.id older)) new.work)) (goes.1 ∙ changed_course did path changed)
        (changed_unless did path _ changed stepped) in
        let next_is : item_in new.work ≡ Copies source target = (let same = tells_same job new did works.tells in same.1 ∙ (item_is ∙ copies)) in
        all_as_begun (replayed_step f.now did (Some (item_in job.work)) w) (keeps_by did (has_kept job.id older)) new.work next_is (ap (keeps_by did) kept_is ∙ keeps_true did path changed) after
        ∙ sym (all_as_begun w (has_kept job.id older) job.work (item_is ∙ copies) kept_is before)

    by_leads : IsChanged did path → (new : Option Running) → StepLeads job did new f.was.dirty f.after.dirty f.before f.now → replayed_step f.now did (Some (item_in job.work)) w path ≡ w path
    by_leads changed new (inl (next, inl works, after_is)) = by_work next changed works
    by_leads changed new (inl (next, inr syncs, after_is)) = by syncs.synced
      where
        by : SyncsOwed job syncs.path did next f.was.dirty f.after.dirty (Some f.before) (Some f.now) → replayed_step f.now did (Some (item_in job.work)) w path ≡ w path
        by (inl synced) = absurd (subst (λ d. IsChanged d path) synced.did_is changed)
        by (inr waits) = absurd (subst (λ d. IsChanged d path) waits.did_is changed)
    by_leads changed new (inr (gives, after_is)) = absurd (subst (λ d. IsChanged d path) gives.did_is changed)

    pub kept_step : replayed_tree opening now (e ∷ older) path ≡ replayed_tree opening now older path
    kept_step = elim (changed_or did path) [
      | inr none ↦ unchanged none
      | inl changed ↦ ap (λ (u : View). u path) shows
          ∙ (changed_anywhere did (log_prefix opening e.calls now) f.now item v path path changed
          ∙ (ap (λ i. replayed_step f.now did (Some i) v path) (sym item_is)
          ∙ (ap (λ (u : View). replayed_step f.now did (Some (item_in job.work)) u path) same_view
          ∙ (by_leads changed s.new s.leads ∙ ap (λ (u : View). u path) (sym same_view)))))
    ]

pub untouched_law : UntouchedLaw
untouched_law opening now newest stand tree settled traced = record {
  steps = λ e older id item did path step moment off end. alone_step opening now newest stand tree settled traced e older id item did path step moment end off;
  since = λ e older id item path h moment off none. untouched_since opening now newest stand tree settled traced e older id item path h moment off;
}

pub kept_law : KeptLaw
kept_law opening now newest stand tree settled traced = record {
  steps = λ e older id source target did path step moment has end. kept_step opening now newest stand tree settled traced e older id (Copies source target) did path step moment end source target refl has;
  since = λ e older id source target path h moment has none. kept_since opening now newest stand tree settled traced e older id source target path h moment has;
}
