-- The parts that a copy of a tree names: which names they have, and that a step, an answer and the close of a session leave them.
use Rattle.std.proofs.Common.{◌≡◌, ◌⊎◌, ℕ, Bool, true, false, List, refl, sym, ◌∙◌, ap, subst, inl, inr, Option, Some}
use Rattle.std.specs.Prelude.{◌||◌, ◌++◌, not}
use Rattle.std.proofs.lemmas.Bool.{both_ways, or_right}
use Rattle.mc_text.specs.Routes.{Route, is_prefix, same_path}
use Rattle.tree_trait.specs.Change.{CallLog}
use Rattle.tree_trait.specs.CrashImages.{Among}
use Rattle.tree_trait.proofs.Visible.{same_path-true}
use Rattle.laws_crash.specs.Guarded.{Marks}
use Rattle.job_reports.specs.declared.report.Ending.{Ending}
use Rattle.job_reports.specs.declared.report.Did.{Did}
use Rattle.job_reports.specs.declared.report.Did.TheVariants.{Began, Chunk, Placed, Removed, Made, Set, Kept, Skipped, Cleaned, Barrier, Asked, Merges, Moved, Troubled, Ended}
use Rattle.job_answers.specs.declared.replies.Replies.{Replies}
use Rattle.job_reports.specs.declared.answer.Answer.{Answer}
use Rattle.job_reports.specs.declared.answer.Answer.TheVariants.{Yes, No, All, Update, Nothing, SizeDiffers, Retry, Skip, SkipAll, Abort}
use Rattle.job_reports.specs.declared.job.Pair.{Pair}
use Rattle.job_reports.specs.declared.report.Cause.{Cause}
use Rattle.job_reports.specs.declared.report.StepResult.{StepResult}
use Rattle.copy_job.specs.Passing.{OrPassedOver}
use Rattle.copy_job.specs.Reporting.{MayTellLast}
use Rattle.copy_job.specs.Standing.{SubtreeCopying, part_of}
use Rattle.copy_job.specs.SubtreeSteps.{ListSteps, SubtreeSteps, step_result}
use Rattle.copy_tree.specs.InPlace.{IsInPlace}
use Rattle.copy_tree.specs.Parts.{IsPartPlace}
use Rattle.copy_tree.specs.Standing.{Seen, is_fresh}
use Rattle.copy_tree.proofs.InPlaces.{leaves_all}
use Rattle.copy_move.specs.declared.run.Course.{Course}
use Rattle.copy_move.specs.declared.run.Course.TheVariants.{GoesOn, Asking, InTrouble, OwedSyncFailed, Skips, Ends}
use Rattle.copy_move.specs.declared.work.Work.{Work}
use Rattle.copy_move.specs.declared.work.Work.TheVariants.{Copy, Delete, Make, Move, SetMode, RemoveEmptied}
use Rattle.copy_move.specs.Jobs.{Running, TellsOn, WorkTells, WorkWinds, answered_on, closed_course, taken_anew}
use Rattle.copy_move.specs.JobStepReports.{Walks, WalksOn, SkipWalks}
use Rattle.session_entries.specs.Moves.{paths_below, paths_moved}
use Rattle.session_entries.specs.Named.{named_by, still_parts}
use Rattle.laws_sessions.specs.Touched.{touches}
use Rattle.laws_sessions.specs.Traces.{IsUnclaimed, WorkLeads}
use Rattle.laws_sessions.proofs.AmongParts.{if_among_more}
use Rattle.laws_sessions.proofs.AtWork.{ItemKnown}
use Rattle.laws_sessions.proofs.Beginnings.{goes_then}
use Rattle.laws_sessions.proofs.BegunParts.{begun_named}
use Rattle.laws_sessions.proofs.ChangedPaths.{IsChanged}
use Rattle.laws_sessions.proofs.CopyTouches.{tree_touches}
use Rattle.laws_sessions.proofs.JobKnows.{WorkKnows}
use Rattle.laws_sessions.proofs.Knowing.{HistoryFacts, IsKept}
use Rattle.laws_sessions.proofs.MovedPaths.{among_second, passes_among}
use Rattle.laws_sessions.proofs.OwnNames.{HoldsPart, IsOwnName}
use Rattle.laws_sessions.proofs.SameNumbers.{leaves_number, retried_number, skips_number}
use Rattle.laws_sessions.proofs.Sources.{item_in}
use Rattle.laws_sessions.proofs.StepsKnown.{item_left}
use Rattle.laws_sessions.proofs.TreeGoing.{number_goes}
use Rattle.laws_sessions.proofs.TreeMachine.{skip_says}
use Rattle.laws_sessions.proofs.TreeKnown.{TreeGoes, TreeKnown, TreeStands, is_over}

-- A part that a step of a copy begins has one of the copy's own names.
module _ (told : HistoryFacts) (dirty dirty_after : List Route) (marks : Marks) (log now : CallLog) (c new : SubtreeCopying) (part : Route) (known : TreeKnown told dirty marks log GoesOn c) (free : Route → Bool) (replies : Replies) (calls f0 f1 : ℕ)
    (s : SubtreeSteps free replies c new (Began part) calls dirty dirty_after (Some log) (Some now) f0 f1) where
  goes_on : TreeGoes told dirty marks log c
  goes_on = known.goes refl

  stands : TreeStands dirty c
  stands = let g = goes_on in g.stands

  item_at : ItemKnown log c.at c.at.item
  item_at = by (is_fresh c.at.stage) refl
    where
      by : (b : Bool) → is_fresh c.at.stage ≡ b → ItemKnown log c.at c.at.item
      by true fresh = let outside = stands.unbegun fresh in subst (λ i. ItemKnown log c.at i) (sym outside.none) tt
      by false some = let g = goes_on in let h = g.begun some in h.item

  abbrev First : Type 0
  First = IsInPlace c.top s.mid × ItemKnown log s.mid (let m : Seen = s.mid in m.item)

  first : First
  first = let l = s.leaves in (leaves_all c.top l.0 c.at s.mid l.1 stands.in_place, item_left l.0 log c.at s.mid l.1 item_at)

  worked : (let w = s.worked in Began part ≡ w.did) → ListSteps free replies s.mid s.moved s.worked dirty dirty_after (Some log) (Some now) f0 f1 → IsOwnName c.at.job c.top part
  worked same (inl short) = absurd (let e = same ∙ ap (λ (r : StepResult). r.did) short.says in let f : ⊥ = cc in f)
  worked same (inr m) =
      let w = s.worked in
      let steps = m.steps in
      let l = s.leaves in
      let mid : Seen = steps.mid in
      let number : mid.job ≡ c.at.job = leaves_number steps.folders s.mid mid steps.leaves ∙ leaves_number l.0 c.at s.mid l.1 in
      subst (λ n. IsOwnName n c.top part) number
      (begun_named (IsPartPlace free mid) replies c.top mid s.moved w.did log now part (sym same) (leaves_all c.top steps.folders s.mid mid steps.leaves first.0) mid.item
      (item_left steps.folders log s.mid mid steps.leaves first.1) steps.works)

  named : OrPassedOver replies.skips s.worked s.moved new.at (step_result (Began part) calls) → IsOwnName c.at.job c.top part
  named (inl (none, same, stays)) = worked (ap (λ (r : StepResult). r.did) same) s.works
  named (inr (cause, passed, same, skips)) = elim (skip_says s.moved.item cause s.moved new.at (Began part) skips) [
    | inl skipped ↦ absurd (let e = skipped.2 in let f : ⊥ = cc in f)
    | inr troubled ↦ absurd (let e = troubled.1 in let f : ⊥ = cc in f)
  ]

  pub begun_own : IsOwnName new.at.job new.top part
  begun_own =
      subst (λ n. IsOwnName n new.top part) (sym (number_goes free replies c new (Began part) calls dirty dirty_after log now f0 f1 s))
      (subst (λ (top : Pair). IsOwnName c.at.job top part) (sym (ap (λ (x : SubtreeCopying). x.top) s.stands)) (named s.passes))

-- A part that a step of the job begins stands in a folder that it fills.
module _ (told : HistoryFacts) (dirty dirty_after : List Route) (marks : Marks) (log now : CallLog) (kept : IsKept told dirty marks log) (job new : Running) (part : Route) (knows : WorkKnows told dirty marks log job.course job.work)
    (works : WorkLeads job (Began part) new dirty dirty_after log now) where
  goes : (job.course ≡ GoesOn) × ((work : Work) × WorkTells job.replies job.work (Began part) work)
  goes = goes_then job new (Began part) job.course refl works.tells refl

  of_work : (old work : Work) (calls f0 f1 : ℕ) → WorkTells job.replies old (Began part) work → WorkKnows told dirty marks log GoesOn old
      → Walks IsUnclaimed job.replies old work (Began part) calls dirty dirty_after (Some log) (Some now) f0 f1 → HoldsPart work part
  of_work (Copy c) (Copy next) calls f0 f1 t k walks = begun_own told dirty dirty_after marks log now c next part k walks.free job.replies calls walks.since f1 walks.steps
  of_work (Delete d) (Delete next) calls f0 f1 t k walks = absurd t
  of_work (Make w) (Make next) calls f0 f1 t k walks = absurd t
  of_work (Move w) (Move next) calls f0 f1 t k walks = absurd t
  of_work (SetMode s) (SetMode next) calls f0 f1 t k walks = absurd t
  of_work (RemoveEmptied r) (RemoveEmptied next) calls f0 f1 t k walks = absurd t
  of_work old work calls f0 f1 t k walks = absurd t

  tells_new : WorkTells job.replies job.work (Began part) new.work
  tells_new =
      let t : TellsOn GoesOn job (Began part) new = subst (λ (course : Course). TellsOn course job (Began part) new) goes.0 works.tells in
      subst (λ w. WorkTells job.replies job.work (Began part) w) (sym (ap (λ (x : Running). x.work) t.2)) t.1

  pub began_own : HoldsPart new.work part
  began_own =
      let w = works.walks in
      of_work job.work new.work w.0 w.1 w.2 tells_new (subst (λ course. WorkKnows told dirty marks log course job.work) goes.0 knows)
      (subst (λ x. WalksOn IsUnclaimed job.replies x job.work new.work (Began part) w.0 dirty dirty_after (Some log) (Some now) w.1 w.2) goes.0 w.3)

-- a part stays one, but where what the report changes comes to its path
module _ (is_other : Route → Bool) (left before : List Route) (q : Route) (among : Among before q) where
  stays_or : (came : Route → Bool) → (came q ≡ true) ⊎ Among (still_parts is_other came before) q
  stays_or came = by (came q) refl
    where
      by : (b : Bool) → came q ≡ b → (came q ≡ true) ⊎ Among (still_parts is_other came before) q
      by true is = inl is
      by false is = inr (passes_among (λ p. is_other p || not (came p)) q before (or_right (is_other q) (not (came q)) (ap not is)) among)

  pub part_stays : (did : Did) → IsChanged did q ⊎ Among (named_by did is_other left before) q
  part_stays (Began part) = inr (inr among)
  part_stays (Placed path) = elim (stays_or (λ part. same_path part path)) [
    | inl came ↦ inl (inl (same_path-true q path came))
    | inr still ↦ inr (if_among_more path q left (still_parts is_other (λ part. same_path part path) before) still)
  ]
  part_stays (Made path) = elim (stays_or (λ part. same_path part path)) [ inl came ↦ inl (inl (same_path-true q path came)) | inr still ↦ inr still ]
  part_stays (Moved pair) = elim (stays_or (is_prefix pair.target)) [
    | inl came ↦ inl (or_right (is_prefix pair.source q) (is_prefix pair.target q) came)
    | inr still ↦ inr (among_second (paths_moved pair left ++ paths_below pair.target left) (still_parts is_other (is_prefix pair.target) before) q still)
  ]
  part_stays did = inr among

-- What a step of a job that holds parts changes is touched by its source.
module _ (told : HistoryFacts) (dirty dirty_after : List Route) (marks : Marks) (log now : CallLog) (job new : Running) (did : Did) (path part : Route) (changed : IsChanged did path) where
  last_none : (ending : Ending) (part : Option Route) (did : Did) → MayTellLast ending part did → IsChanged did path → ⊥
  last_none ending part (Placed p) may none = may
  last_none ending part (Removed p) may none = may
  last_none ending part (Made p) may none = may
  last_none ending part (Set p) may none = may
  last_none ending part (Moved pair) may none = may
  last_none ending part did may none = none

  of_steps : (old work : Work) (calls f0 f1 : ℕ) → HoldsPart old part → WorkTells job.replies old did work → WorkKnows told dirty marks log GoesOn old
      → Walks IsUnclaimed job.replies old work did calls dirty dirty_after (Some log) (Some now) f0 f1 → touches (item_in old) path ≡ true
  of_steps (Copy c) (Copy next) calls f0 f1 holds t k steps =
      let g = k.goes refl in
      let s = g.stands in
      tree_touches c next did path steps.free job.replies calls dirty dirty_after (Some log) (Some now) steps.since f1 steps.steps s.in_place t.may changed
  of_steps (Delete d) work calls f0 f1 holds t k steps = absurd holds
  of_steps (Make m) work calls f0 f1 holds t k steps = absurd holds
  of_steps (Move m) work calls f0 f1 holds t k steps = absurd holds
  of_steps (SetMode s) work calls f0 f1 holds t k steps = absurd holds
  of_steps (RemoveEmptied r) work calls f0 f1 holds t k steps = absurd holds
  of_steps (Copy c) work calls f0 f1 holds t k steps = absurd t

  of_last : (ending : Ending) (old work : Work) → HoldsPart old part → WorkWinds ending old did work → touches (item_in old) path ≡ true
  of_last ending (Copy c) (Copy next) holds t = absurd (last_none ending (part_of c.at.item) did t.may changed)
  of_last ending (Delete d) work holds t = absurd holds
  of_last ending (Make m) work holds t = absurd holds
  of_last ending (Move m) work holds t = absurd holds
  of_last ending (SetMode s) work holds t = absurd holds
  of_last ending (RemoveEmptied r) work holds t = absurd holds
  of_last ending (Copy c) work holds t = absurd t

  pub holder_touches : (course : Course) → job.course ≡ course → WorkKnows told dirty marks log course job.work → HoldsPart job.work part → TellsOn course job did new
      → (calls f0 f1 : ℕ) → WalksOn IsUnclaimed job.replies course job.work new.work did calls dirty dirty_after (Some log) (Some now) f0 f1 → touches (item_in job.work) path ≡ true
  holder_touches GoesOn is k holds (work, t, new_is) calls f0 f1 walks = of_steps job.work new.work calls f0 f1 holds (subst (λ w. WorkTells job.replies job.work did w) (sym (ap (λ (x : Running). x.work) new_is)) t) k walks
  holder_touches (InTrouble halt) is k holds t calls f0 f1 walks = absurd t
  holder_touches (OwedSyncFailed why) is k holds t calls f0 f1 walks = absurd t
  holder_touches Asking is k holds t calls f0 f1 walks = absurd t
  holder_touches (Skips why) is k holds (inl (skipped, work, did_is, passes, new_is)) calls f0 f1 walks = absurd (subst (λ (d : Did). IsChanged d path) did_is changed)
  holder_touches (Skips why) is k holds (inr (apart, did_is, new_is)) calls f0 f1 walks = absurd (subst (λ (d : Did). IsChanged d path) did_is changed)
  holder_touches (Ends ending) is k holds (work, winds, new_is) calls f0 f1 walks = of_last ending job.work work holds winds

-- A step leaves the names of its parts, too, until its last steps.
pub over_before : (job new : Running) (did : Did) (course : Course) → job.course ≡ course → TellsOn course job did new → is_over new.course ≡ false → is_over job.course ≡ false
over_before job new did (Ends ending) is (work, winds, new_is) over = sym (ap (λ (x : Running). is_over x.course) new_is) ∙ over
over_before job new did GoesOn is t over = ap is_over is
over_before job new did (InTrouble halt) is t over = ap is_over is
over_before job new did (OwedSyncFailed why) is t over = ap is_over is
over_before job new did Asking is t over = ap is_over is
over_before job new did (Skips why) is t over = ap is_over is

module _ (told : HistoryFacts) (dirty dirty_after : List Route) (marks : Marks) (log now : CallLog) (job new : Running) (did : Did) (path : Route) where
  of_goes : (old work : Work) (calls f0 f1 : ℕ) → WorkKnows told dirty marks log GoesOn old → Walks IsUnclaimed job.replies old work did calls dirty dirty_after (Some log) (Some now) f0 f1 → HoldsPart old path → HoldsPart work path
  of_goes (Copy c) (Copy next) calls f0 f1 k steps held =
      let made = steps.steps in
      subst (λ n. IsOwnName n next.top path) (sym (number_goes steps.free job.replies c next did calls dirty dirty_after log now steps.since f1 made)) (subst (λ (top : Pair). IsOwnName c.at.job top path) (sym (ap (λ (x : SubtreeCopying). x.top) made.stands)) held)
  of_goes (Copy c) work calls f0 f1 k steps held = absurd steps
  of_goes (Delete d) work calls f0 f1 k steps held = absurd held
  of_goes (Make m) work calls f0 f1 k steps held = absurd held
  of_goes (Move m) work calls f0 f1 k steps held = absurd held
  of_goes (SetMode s) work calls f0 f1 k steps held = absurd held
  of_goes (RemoveEmptied r) work calls f0 f1 k steps held = absurd held

  of_skips : (cause : Cause) (old work : Work) → WorkKnows told dirty marks log (Skips cause) old → SkipWalks cause old did work → HoldsPart old path → HoldsPart work path
  of_skips cause (Copy c) (Copy next) k skips held =
      subst (λ n. IsOwnName n next.top path) (sym (skips_number c.at.item cause c.at next.at did skips.skips)) (subst (λ (top : Pair). IsOwnName c.at.job top path) (sym (ap (λ (x : SubtreeCopying). x.top) skips.stands)) held)
  of_skips cause (Copy c) work k skips held = absurd skips
  of_skips cause (Delete d) work k skips held = absurd held
  of_skips cause (Make m) work k skips held = absurd held
  of_skips cause (Move m) work k skips held = absurd held
  of_skips cause (SetMode s) work k skips held = absurd held
  of_skips cause (RemoveEmptied r) work k skips held = absurd held

  pub stays_held : (course : Course) → job.course ≡ course → WorkKnows told dirty marks log course job.work → TellsOn course job did new → (calls f0 f1 : ℕ)
      → WalksOn IsUnclaimed job.replies course job.work new.work did calls dirty dirty_after (Some log) (Some now) f0 f1 → is_over new.course ≡ false → HoldsPart job.work path → HoldsPart new.work path
  stays_held GoesOn is k t calls f0 f1 walks over held = of_goes job.work new.work calls f0 f1 k walks held
  stays_held (Skips cause) is k t calls f0 f1 walks over held = of_skips cause job.work new.work k walks held
  stays_held (InTrouble halt) is k t calls f0 f1 walks over held = absurd t
  stays_held (OwedSyncFailed why) is k t calls f0 f1 walks over held = absurd t
  stays_held Asking is k t calls f0 f1 walks over held = absurd t
  stays_held (Ends ending) is k (work, winds, new_is) calls f0 f1 walks over held = absurd (both_ways _ over (ap (λ (x : Running). is_over x.course) new_is ∙ ap is_over is))

-- A retry, an answer and the close of a session leave them.
anew_holds : (work : Work) (path : Route) → HoldsPart work path → HoldsPart (taken_anew work) path
anew_holds (Copy c) path h = subst (λ n. IsOwnName n c.top path) (sym (retried_number c.at.item c.at)) h
anew_holds (Delete d) path h = h
anew_holds (Make m) path h = h
anew_holds (Move m) path h = h
anew_holds (SetMode s) path h = h
anew_holds (RemoveEmptied r) path h = h

pub answered_holds : (course : Course) (answer : Answer) (job : Running) (path : Route) → HoldsPart job.work path → HoldsPart (let a : Running = answered_on course answer job in a.work) path
answered_holds (InTrouble halt) Yes job path h = h
answered_holds (InTrouble halt) No job path h = h
answered_holds (InTrouble halt) All job path h = h
answered_holds (InTrouble halt) Update job path h = h
answered_holds (InTrouble halt) Nothing job path h = h
answered_holds (InTrouble halt) SizeDiffers job path h = h
answered_holds (InTrouble halt) Retry job path h = anew_holds job.work path h
answered_holds (InTrouble halt) Skip job path h = h
answered_holds (InTrouble halt) SkipAll job path h = h
answered_holds (InTrouble halt) Abort job path h = h
answered_holds (OwedSyncFailed why) Yes job path h = h
answered_holds (OwedSyncFailed why) No job path h = h
answered_holds (OwedSyncFailed why) All job path h = h
answered_holds (OwedSyncFailed why) Update job path h = h
answered_holds (OwedSyncFailed why) Nothing job path h = h
answered_holds (OwedSyncFailed why) SizeDiffers job path h = h
answered_holds (OwedSyncFailed why) Retry job path h = anew_holds job.work path h
answered_holds (OwedSyncFailed why) Skip job path h = h
answered_holds (OwedSyncFailed why) SkipAll job path h = h
answered_holds (OwedSyncFailed why) Abort job path h = h
answered_holds Asking Yes job path h = h
answered_holds Asking No job path h = h
answered_holds Asking All job path h = h
answered_holds Asking Update job path h = h
answered_holds Asking Nothing job path h = h
answered_holds Asking SizeDiffers job path h = h
answered_holds Asking Retry job path h = h
answered_holds Asking Skip job path h = h
answered_holds Asking SkipAll job path h = h
answered_holds Asking Abort job path h = h
answered_holds GoesOn answer job path h = h
answered_holds (Skips why) answer job path h = h
answered_holds (Ends ending) answer job path h = h

-- a job that isn't in its last steps then wasn't before
pub answered_over : (course : Course) (answer : Answer) (job : Running) → job.course ≡ course → is_over (let a : Running = answered_on course answer job in a.course) ≡ false → is_over job.course ≡ false
answered_over (Ends ending) answer job is over = over
answered_over GoesOn answer job is over = ap is_over is
answered_over (InTrouble halt) answer job is over = ap is_over is
answered_over (OwedSyncFailed why) answer job is over = ap is_over is
answered_over Asking answer job is over = ap is_over is
answered_over (Skips why) answer job is over = ap is_over is

pub closed_over : (course : Course) → is_over (closed_course course) ≡ false → is_over course ≡ false
closed_over (Ends ending) over = over
closed_over GoesOn over = refl
closed_over (InTrouble halt) over = refl
closed_over (OwedSyncFailed why) over = refl
closed_over Asking over = refl
closed_over (Skips why) over = refl
