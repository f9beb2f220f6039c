-- A copy that is over merges nothing any more, nor does a move once something was decided: what may be left as sources yet falls to nothing with a merge, and rises with no step.
use Rattle.std.proofs.Common.{◌≡◌, ℕ, ◌+◌, ◌≤◌, Bool, true, false, not, List, [], ◌∷◌, refl, sym, ◌∙◌, ap, subst, inl, inr, Option, arith}
use Rattle.std.specs.Prelude.{if◌then◌else◌, ◌&&◌}
use Rattle.std.proofs.lemmas.Bool.{false≢true}
use Rattle.mc_text.specs.Routes.{Route, same_path}
use Rattle.tree_trait.specs.Change.{CallLog}
use Rattle.copy_folders.specs.FolderCopying.{is_dirty}
use Rattle.job_answers.specs.declared.replies.Replies.{Replies}
use Rattle.job_reports.specs.declared.report.Transfer.{Transfer}
use Rattle.job_reports.specs.declared.report.Transfer.TheVariants.{ByCopy, ByMove}
use Rattle.job_reports.specs.declared.job.Pair.{Pair}
use Rattle.job_reports.specs.declared.report.Cause.{Cause}
use Rattle.job_reports.specs.declared.report.Did.{Did}
use Rattle.job_reports.specs.declared.report.Did.TheVariants.{Kept, Skipped, Barrier, Asked, Merges, Moved, Troubled, Ended}
use Rattle.job_reports.specs.declared.report.Ending.TheVariants.{Finished}
use Rattle.job_reports.specs.Paths.{folder_of}
use Rattle.session_entries.specs.SourcesLeft.{children_in}
use Rattle.copy_job.specs.Leaving.{owes_at_end}
use Rattle.copy_job.specs.Merged.{IsOver}
use Rattle.copy_job.specs.Standing.{SubtreeCopying}
use Rattle.copy_job.proofs.MergedOnes.{merged_law}
use Rattle.tree_walk.specs.Places.{is_empty}
use Rattle.copy_tree.specs.declared.item.ItemAtWork.{ItemAtWork}
use Rattle.copy_tree.specs.declared.item.ItemAtWork.TheVariants as item
use Rattle.copy_tree.specs.Standing.{Seen}
use Rattle.move_job.specs.declared.moving.MovingStage.{MovingStage}
use Rattle.move_job.specs.declared.moving.MovingStage.TheVariants.{Take, SyncTarget, SyncSource, Finish, PassedOver}
use Rattle.move_job.specs.Movings as movings
use Rattle.move_job.specs.Movings.{Moving}
use Rattle.copy_move.specs.declared.run.Course.{Course}
use Rattle.copy_move.specs.declared.run.Course.TheVariants.{GoesOn, Asking, InTrouble, OwedSyncFailed, Skips, Ends}
use Rattle.copy_move.specs.declared.work.Work.{Work}
use Rattle.copy_move.specs.declared.work.Work.TheVariants.{Copy, Delete, Make, Move, SetMode, RemoveEmptied}
use Rattle.copy_move.specs.Jobs.{PassesOver, Running, TellsOn, WorkTells, closed_course}
use Rattle.copy_move.specs.JobStepReports.{RunStep, SkipWalks, SyncsOwed, WalksOn, step_made}
use Rattle.copy_move.specs.TreeCopies as trees
use Rattle.copy_move.proofs.Merging.{none_wound}
use Rattle.job_sources.specs.Turning.{children_left, children_on, is_next, is_over, sources_rank, within_steps}
use Rattle.job_sources.proofs.Children.{children_within}

all_five : (a b c d e : Bool) → a ≡ true → b ≡ true → c ≡ true → d ≡ false → e ≡ false → (a && (b && (c && (not d && not e)))) ≡ true
all_five a b c d e pa pb pc pd pe =
    ap (λ x. x && (b && (c && (not d && not e)))) pa ∙ (ap (λ x. x && (c && (not d && not e))) pb ∙ (ap (λ x. x && (not d && not e)) pc ∙ (ap (λ x. not x && not e) pd ∙ ap not pe)))

over_so : (c : Seen) → IsOver c → is_over c ≡ true
over_so c o =
    all_five (is_next c.item) (is_empty c.levels.around) (is_empty c.levels.inner.names.names) (owes_at_end c.levels.inner.copy.stage false) (is_dirty c.levels.inner.copy.names)
    (ap is_next o.none) (ap is_empty o.around) (ap is_empty o.names) o.owes o.clean

first_of : (a b : Bool) → (a && b) ≡ true → a ≡ true
first_of true b h = refl
first_of false b h = absurd (false≢true h)

second_of : (a b : Bool) → (a && b) ≡ true → b ≡ true
second_of true b h = h
second_of false b h = absurd (false≢true h)

unless_so : (a : Bool) → not a ≡ true → a ≡ false
unless_so true h = absurd (false≢true h)
unless_so false h = refl

next_so : (i : ItemAtWork) → is_next i ≡ true → i ≡ item.Next
next_so item.Next h = refl
next_so (item.File f) h = absurd (false≢true h)
next_so (item.Link l) h = absurd (false≢true h)
next_so (item.Stays part) h = absurd (false≢true h)

empty_so : {A : Type 0} (xs : List A) → is_empty xs ≡ true → xs ≡ []
empty_so [] h = refl
empty_so (x ∷ xs) h = absurd (false≢true h)

so_over : (c : Seen) → is_over c ≡ true → IsOver c
so_over c h =
    let rest = second_of (is_next c.item) _ h in
    let names = second_of (is_empty c.levels.around) _ rest in
    let last = second_of (is_empty c.levels.inner.names.names) _ names in
    record {
      none = next_so c.item (first_of (is_next c.item) _ h);
      around = empty_so c.levels.around (first_of (is_empty c.levels.around) _ rest);
      names = empty_so c.levels.inner.names.names (first_of (is_empty c.levels.inner.names.names) _ names);
      owes = unless_so (owes_at_end c.levels.inner.copy.stage false) (first_of _ _ last);
      clean = unless_so (is_dirty c.levels.inner.copy.names) (second_of _ _ last);
    }

-- no course counts more than its work
pub on_within : (course : Course) (work : Work) → children_on course work ≤ children_left work
on_within GoesOn work = omega arith
on_within (Skips cause) work = omega arith
on_within (InTrouble halt) work = omega arith
on_within (OwedSyncFailed cause) work = omega arith
on_within Asking work = omega arith
on_within (Ends ending) work = omega arith

pub closed_within : (course : Course) (work : Work) → children_on (closed_course course) work ≤ children_on course work
closed_within GoesOn work = omega arith
closed_within (Skips cause) work = omega arith
closed_within (InTrouble halt) work = omega arith
closed_within (OwedSyncFailed cause) work = omega arith
closed_within Asking work = omega arith
closed_within (Ends ending) work = omega arith

-- what stays over counts no more
over_less : (a b : Bool) (m n : ℕ) → (a ≡ true → b ≡ true) → n ≡ m → (if b then 0 else n) ≤ (if a then 0 else m)
over_less true b m n h same = let e : (if b then 0 else n) ≡ 0 = ap (λ x. if x then 0 else n) (h refl) in omega (arith, e)
over_less false true m n h same = omega arith
over_less false false m n h same = omega (arith, same)

tree_less : (c new : SubtreeCopying) → new.top ≡ c.top → (IsOver c.at → IsOver new.at) → children_left (Copy new) ≤ children_left (Copy c)
tree_less c new top over =
    over_less (is_over c.at) (is_over new.at) (within_steps ByCopy c.top) (within_steps ByCopy new.top)
    (λ was. over_so new.at (over (so_over c.at was))) (ap (within_steps ByCopy) top)

-- nor does a move merge anything at one of its later stages
late_less : (m new : Moving) (stage : MovingStage) → new ≡ record m { stage = stage } → movings.is_fresh stage ≡ false → children_left (Move new) ≤ children_left (Move m)
late_less m new stage is late =
    let none : children_left (Move new) ≡ 0 = ap (λ (k : Moving). children_left (Move k)) is ∙ ap (λ b. if b then within_steps ByMove m.pair else 0) late in
    omega (arith, none)

still_less : (m new : Moving) → new ≡ m → children_left (Move new) ≤ children_left (Move m)
still_less m new is = let same : children_left (Move new) ≡ children_left (Move m) = ap (λ k. children_left (Move k)) is in omega (arith, same)

synced_late : (pair : Pair) (stage : MovingStage) → movings.is_dirty stage ≡ true → movings.is_fresh (movings.after_sync pair stage) ≡ false
synced_late pair Take h = absurd (false≢true h)
synced_late pair SyncTarget h = by (same_path (folder_of pair.target) (folder_of pair.source))
  where
    by : (b : Bool) → movings.is_fresh (if b then Finish else SyncSource) ≡ false
    by true = refl
    by false = refl
synced_late pair SyncSource h = refl
synced_late pair Finish h = refl
synced_late pair PassedOver h = refl

skipped_late : (stage : MovingStage) → movings.is_fresh (movings.skipped_stage stage) ≡ false
skipped_late Take = refl
skipped_late SyncTarget = refl
skipped_late SyncSource = refl
skipped_late Finish = refl
skipped_late PassedOver = refl

moving_less : (replies : Replies) (m new : Moving) (did : Did) → movings.Tells replies m did new → children_left (Move new) ≤ children_left (Move m)
moving_less replies m new (Moved pair) t = late_less m new SyncTarget t.2 refl
moving_less replies m new (Kept path) t = late_less m new PassedOver t.2 refl
moving_less replies m new (Skipped path cause) t = late_less m new PassedOver t.3 refl
moving_less replies m new Barrier t = late_less m new (movings.after_sync m.pair m.stage) t.1 (synced_late m.pair m.stage t.0)
moving_less replies m new (Asked question) t = still_less m new t.1
moving_less replies m new (Merges transfer pair names) t = late_less m new PassedOver t.2 refl
moving_less replies m new (Troubled trouble) t = still_less m new t.3
moving_less replies m new (Ended Finished part) t = still_less m new t.2
moving_less replies m new did t = absurd t

-- a step of the work
tells_less : (replies : Replies) (old new : Work) (did : Did) → WorkTells replies old did new → children_left new ≤ children_left old
tells_less replies (Copy c) (Copy new) did t = (let a = t.after in tree_less c new a.top (λ o. (t.over o).0))
tells_less replies (Delete d) (Delete new) did t = omega arith
tells_less replies (Make m) (Make new) did t = omega arith
tells_less replies (Move m) (Move new) did t = moving_less replies m new did t
tells_less replies (SetMode s) (SetMode new) did t = omega arith
tells_less replies (RemoveEmptied r) (RemoveEmptied new) did t = omega arith
tells_less replies old new did t = absurd t

-- a skip of it
skips_less : (cause : Cause) (old new : Work) (did : Did) (path : Route) → PassesOver old path new → SkipWalks cause old did new → children_left new ≤ children_left old
skips_less cause (Copy c) (Copy new) did path p s = tree_less c new (ap (λ (k : SubtreeCopying). k.top) s.stands) (λ o. merged_law.skip cause c new did s o)
skips_less cause (Delete d) (Delete new) did path p s = omega arith
skips_less cause (Make m) (Make new) did path p s = omega arith
skips_less cause (Move m) (Move new) did path p s = late_less m new (movings.skipped_stage m.stage) p.1 (skipped_late m.stage)
skips_less cause (SetMode m) (SetMode new) did path p s = omega arith
skips_less cause (RemoveEmptied r) (RemoveEmptied new) did path p s = omega arith
skips_less cause old new did path p s = absurd p

-- the children that come in are counted before
merged_exactly : (a b : Bool) (m n k : ℕ) → (a ≡ true → ⊥) → b ≡ true → k ≤ m → (if b then 0 else n) + k ≤ (if a then 0 else m)
merged_exactly true b m n k begins over within = absurd (begins refl)
merged_exactly false b m n k begins over within = let e : (if b then 0 else n) ≡ 0 = ap (λ x. if x then 0 else n) over in omega (arith, e, within)

copy_merges : (replies : Replies) (id : ℕ) (c new : SubtreeCopying) (transfer : Transfer) (pair : Pair) (names : List (List ℕ)) → trees.Tells replies c (Merges transfer pair names) new
    → children_left (Copy new) + sources_rank id (children_in transfer pair names) ≤ children_left (Copy c)
copy_merges replies id c new ByMove pair names t = absurd t.may
copy_merges replies id c new ByCopy pair names t =
    let m = t.merged pair names refl in
    merged_exactly (is_over c.at) (is_over new.at) (within_steps ByCopy c.top) (within_steps ByCopy new.top) (sources_rank id (children_in ByCopy pair names))
    (λ was. m.begins (so_over c.at was)) (over_so new.at m.over)
    (subst (λ (p : Pair). sources_rank id (children_in ByCopy pair names) ≤ within_steps ByCopy p) m.top (children_within id ByCopy pair names m.short m.few))

move_merges : (replies : Replies) (id : ℕ) (m new : Moving) (transfer : Transfer) (pair : Pair) (names : List (List ℕ)) → movings.Tells replies m (Merges transfer pair names) new
    → children_left (Move new) + sources_rank id (children_in transfer pair names) ≤ children_left (Move m)
move_merges replies id m new ByCopy pair names t = absurd (let merge = t.1 in let e : ByCopy ≡ ByMove = merge.by_move in let f : ⊥ = cc in f)
move_merges replies id m new ByMove pair names t =
    let merge = t.1 in
    let none : children_left (Move new) ≡ 0 = ap (λ (k : Moving). children_left (Move k)) t.2 in
    let all : children_left (Move m) ≡ within_steps ByMove m.pair = ap (λ s. if movings.is_fresh s then within_steps ByMove m.pair else 0) t.0 in
    let most = children_within id ByMove pair names merge.short merge.few in
    let same : within_steps ByMove pair ≡ within_steps ByMove m.pair = ap (within_steps ByMove) merge.its in
    omega (arith, none, all, most, same)

merges_less : (replies : Replies) (id : ℕ) (old new : Work) (transfer : Transfer) (pair : Pair) (names : List (List ℕ)) → WorkTells replies old (Merges transfer pair names) new → children_left new + sources_rank id (children_in transfer pair names) ≤ children_left old
merges_less replies id (Copy c) (Copy new) transfer pair names t = copy_merges replies id c new transfer pair names t
merges_less replies id (Move m) (Move new) transfer pair names t = move_merges replies id m new transfer pair names t
merges_less replies id (Delete d) (Delete new) transfer pair names t = absurd t
merges_less replies id (Make m) (Make new) transfer pair names t = absurd t
merges_less replies id (SetMode s) (SetMode new) transfer pair names t = absurd t
merges_less replies id (RemoveEmptied r) (RemoveEmptied new) transfer pair names t = absurd t
merges_less replies id old new transfer pair names t = absurd t

module _ (unclaimed : Route → Type 0) (job new : Running) (calls : ℕ) (dirty dirty_after : List Route) (before after : Option CallLog) (f0 f1 : ℕ) where
  -- a step of the job that doesn't merge
  course_less : (course : Course) (did : Did) → job.course ≡ course → TellsOn course job did new → WalksOn unclaimed job.replies course job.work new.work did calls dirty dirty_after before after f0 f1
      → children_on new.course new.work ≤ children_on course job.work
  course_less GoesOn did is (work, tells, new_is) walks =
      let less = tells_less job.replies job.work work did tells in
      let most = on_within new.course new.work in
      let same : children_left new.work ≡ children_left work = ap (λ (r : Running). children_left r.work) new_is in
      omega (arith, less, most, same)
  course_less (InTrouble halt) did is tells walks = absurd tells
  course_less (OwedSyncFailed cause) did is tells walks = absurd tells
  course_less Asking did is tells walks = absurd tells
  course_less (Skips cause) did is (inl (path, work, did_is, passes, new_is)) walks =
      let same : new.work ≡ work = ap (λ (r : Running). r.work) new_is in
      let less = skips_less cause job.work new.work did path (subst (λ w. PassesOver job.work path w) (sym same) passes) walks in
      let most = on_within new.course new.work in
      omega (arith, less, most)
  course_less (Skips cause) did is (inr (apart, did_is, new_is)) walks =
      let none : children_on new.course new.work ≡ 0 = ap (λ (r : Running). children_on r.course r.work) new_is in omega (arith, none)
  course_less (Ends ending) did is (work, winds, new_is) walks =
      let none : children_on new.course new.work ≡ 0 = ap (λ (r : Running). children_on r.course r.work) new_is ∙ ap (λ c. children_on c work) is in omega (arith, none)

  owed_less : (did : Did) (path : Route) → SyncsOwed job path did new dirty dirty_after before after → children_on new.course new.work ≤ children_on job.course job.work
  owed_less did path (inl s) = let same : children_on new.course new.work ≡ children_on job.course job.work = ap (λ (r : Running). children_on r.course r.work) s.new_is in omega (arith, same)
  owed_less did path (inr s) = let none : children_on new.course new.work ≡ 0 = ap (λ (r : Running). children_on r.course r.work) s.new_is in omega (arith, none)

  pub step_less : (did : Did) → RunStep unclaimed (step_made job new did calls dirty dirty_after before after f0 f1) → children_on new.course new.work ≤ children_on job.course job.work
  step_less did (inl o) = (let s = o.own in course_less job.course did refl s.tells o.walks)
  step_less did (inr s) = owed_less did s.path s.synced

  -- a step that merges
  module _ (transfer : Transfer) (pair : Pair) (names : List (List ℕ)) where
    course_merges : (course : Course) → job.course ≡ course → TellsOn course job (Merges transfer pair names) new → children_on new.course new.work + sources_rank new.id (children_in transfer pair names) ≤ children_on course job.work
    course_merges GoesOn is (work, tells, new_is) =
        let less = merges_less job.replies new.id job.work work transfer pair names tells in
        let most = on_within new.course new.work in
        let same : children_left new.work ≡ children_left work = ap (λ (r : Running). children_left r.work) new_is in
        omega (arith, less, most, same)
    course_merges (InTrouble halt) is tells = absurd tells
    course_merges (OwedSyncFailed cause) is tells = absurd tells
    course_merges Asking is tells = absurd tells
    course_merges (Skips cause) is (inl (path, work, did_is, passes, new_is)) = absurd (let e : Merges transfer pair names ≡ Skipped path cause = did_is in let f : ⊥ = cc in f)
    course_merges (Skips cause) is (inr (apart, did_is, new_is)) = absurd (let e = did_is in let f : ⊥ = cc in f)
    course_merges (Ends ending) is (work, winds, new_is) = absurd (none_wound transfer pair names ending job.work work winds)

    pub step_merges : RunStep unclaimed (step_made job new (Merges transfer pair names) calls dirty dirty_after before after f0 f1) → children_on new.course new.work + sources_rank new.id (children_in transfer pair names) ≤ children_on job.course job.work
    step_merges (inl o) = (let s = o.own in course_merges job.course refl s.tells)
    step_merges (inr s) = by s.synced
      where
        by : SyncsOwed job s.path (Merges transfer pair names) new dirty dirty_after before after → children_on new.course new.work + sources_rank new.id (children_in transfer pair names) ≤ children_on job.course job.work
        by (inl h) = absurd (let e : Merges transfer pair names ≡ Barrier = h.did_is in let f : ⊥ = cc in f)
        by (inr h) = absurd (let e : Merges transfer pair names ≡ Troubled h.trouble = h.did_is in let f : ⊥ = cc in f)
