-- How each step of the machine of a deletion keeps what the job knows of what it leaves.
use Rattle.std.proofs.Common.{◌≡◌, ℕ, Bool, true, false, List, [], ◌∷◌, ◌++◌, refl, sym, ◌∙◌, ap, subst, inl, inr, Option, Some, None, Ok, Err, cond}
use Rattle.std.specs.Prelude.{if◌then◌else◌}
use Rattle.std.specs.Option.{option_map}
use Rattle.std.proofs.lemmas.Bool.{both_ways, false≢true}
use Rattle.mc_text.specs.Routes.{Route, is_prefix, same_path}
use Rattle.tree_trait.specs.declared.file_system.FileSystem.{FileSystem}
use Rattle.tree_trait.specs.declared.calls.TreeError.{TreeError}
use Rattle.tree_trait.specs.declared.calls.Children.{Children}
use Rattle.tree_trait.specs.FileSystem.{Spot, View, find, node, value, value_at, visible_tree}
use Rattle.tree_trait.specs.Shape.{IsTree}
use Rattle.tree_trait.specs.Calls.{RemoveFile, RemoveFolder, SyncFolder}
use Rattle.tree_trait.specs.Change.{CallLog, Removes, Syncs, current, found_node, with_change}
use Rattle.tree_trait.specs.Answers.{IsListing, Performs}
use Rattle.tree_trait.proofs.Finding.{same_name-self}
use Rattle.laws_crash.proofs.Guarding.{find_same, said}
use Rattle.laws_crash.proofs.Tops.{none_below, not_longer, under_removed}
use Rattle.job_answers.specs.declared.replies.Replies.{Replies}
use Rattle.job_reports.specs.declared.report.Cause.{Cause}
use Rattle.job_reports.specs.declared.report.StepResult.{StepResult}
use Rattle.job_reports.specs.declared.report.Did.{Did}
use Rattle.job_reports.specs.declared.report.Did.TheVariants.{Began, Chunk, Placed, Removed, Made, Set, Kept, Skipped, Cleaned, Barrier, Asked, Merges, Moved, Troubled, Ended}
use Rattle.job_reports.proofs.CallAnswers.{done_call, some_log}
use Rattle.tree_walk.specs.Places.{OpenFolder, Place, opened_folder, without_next}
use Rattle.delete_job.specs.declared.deletion.Depth.{Depth}
use Rattle.delete_job.specs.declared.deletion.Depth.TheVariants.{Top, Inside}
use Rattle.delete_job.specs.declared.deletion.Stage.{Stage}
use Rattle.delete_job.specs.declared.deletion.Stage.TheVariants.{Begin, Going, Sync}
use Rattle.delete_job.specs.declared.deletion.Deletion.{Deletion}
use Rattle.delete_job.specs.Standing.{End, DeletionItem, Thing, after_item, at_barrier, item, item_at, item_of, worked_folder}
use Rattle.delete_job.specs.Descending.{Descends, Enters, IsAt, IsOpened, opened_at}
use Rattle.delete_job.specs.TreeDeletionSteps.{IsProgress, KeepsRest, Skips as MachineSkips, Syncs as SyncsOne, TakesOff, WorkCalls, Works, path_of, removal_of}
use Rattle.delete_job.specs.Deletions.{Deleting, Tells, machine_of}
use Rattle.delete_job.specs.DeletionSteps.{Goes, OrPassedOver, Passes, step_result}
use Rattle.job_answers.specs.declared.skips.Skips.{Skips}
use Rattle.job_answers.specs.Skipping.{passed_cause}
use Rattle.laws_sessions.proofs.Deleted.{IsRemoval, folder_removed, removal_done}
use Rattle.laws_sessions.proofs.Intact.{prefix_append, prefix_way}
use Rattle.laws_sessions.proofs.JobKnows.{still_same}
use Rattle.laws_sessions.proofs.Refused.{refused_still}
use Rattle.laws_outcomes.specs.Outcomes.{IsGone, passed_by}
use Rattle.laws_outcomes.proofs.MadeThings.{Unless}
use Rattle.laws_outcomes.proofs.Walked.{IsSpared, IsWalked, Stand, opens_inside, opens_top, spared_more}
use Rattle.laws_outcomes.proofs.Deciding.{DeletionDone, DoneAt, MachineDone, WalkAt, below_ahead, decided, ended, gone_of, kept_of, leaves, of_decides, walk_of, worked_is}

-- only the room of the walk is another
at_same : (passed : List Route) (s : FileSystem) (old new : Deletion) → IsAt old new → MachineDone passed s old → MachineDone passed s new
at_same passed s old new at k =
    subst (λ x. DoneAt x new.depth new.path new.walk.place passed s) (sym at.stage_is)
    (subst (λ x. DoneAt old.stage x new.path new.walk.place passed s) (sym at.depth_is)
    (subst (λ x. DoneAt old.stage old.depth x new.walk.place passed s) (sym at.path_is)
    (subst (λ x. DoneAt old.stage old.depth old.path x passed s) (sym at.place) k)))

-- a folder is gone into
enters_walk : (log : CallLog) (passed : List Route) (depth : Depth) (top folder : Route) (place : Place) (names : List (List ℕ)) (children : Children) → item_at depth top place ≡ Thing folder
    → IsListing (current log) (found_node (current log) folder) children → place.inner.names ≡ names → WalkAt depth top place passed (current log) → WalkAt Inside top (opened_at depth folder children.names place) passed (current log)
enters_walk log passed Top top folder place names children takes listing is k =
    let same : top ≡ folder = cc in
    subst (λ (around : List OpenFolder). IsWalked passed (current log) top (opened_folder folder children.names) around) (sym k)
    (subst (λ (f : Route). IsWalked passed (current log) top (opened_folder f children.names) []) same
    (opens_top passed (current log) top children (subst (λ (f : Route). IsListing (current log) (found_node (current log) f) children) (sym same) listing)))
enters_walk log passed Inside top folder place [] children takes listing is k =
    absurd (let e : item_of [] place.inner.path (worked_folder top place) ≡ Thing folder = subst (λ xs. item_of xs place.inner.path (worked_folder top place) ≡ Thing folder) is takes in let f : ⊥ = cc in f)
enters_walk log passed Inside top folder place (name ∷ names) children takes listing is k =
    let same : name ∷ place.inner.path ≡ folder = (let e : item_of (name ∷ names) place.inner.path (worked_folder top place) ≡ Thing folder = subst (λ xs. item_of xs place.inner.path (worked_folder top place) ≡ Thing folder) is takes in cc) in
    subst (λ f. IsWalked passed (current log) top (opened_folder f children.names) (without_next place.inner ∷ place.around)) same
    (opens_inside passed (current log) top place.inner place.around name names children is (subst (λ f. IsListing (current log) (found_node (current log) f) children) (sym same) listing) k)

enters_done : (log : CallLog) (passed : List Route) (old new : Deletion) (folder : Route) → Enters (Some log) old folder new → MachineDone passed (current log) old → MachineDone passed (current log) new
enters_done log passed old new folder e k =
    let o : IsOpened old folder (let c : Children = e.children in c.names) new = e.opened_is in
    subst (λ x. DoneAt x new.depth new.path new.walk.place passed (current log)) (sym o.stage_is)
    (subst (λ x. DoneAt old.stage x new.path new.walk.place passed (current log)) (sym o.depth_is)
    (subst (λ x. DoneAt old.stage Inside x new.walk.place passed (current log)) (sym o.path_is)
    (subst (λ x. DoneAt old.stage Inside old.path x passed (current log)) (sym o.place) (by old.stage k))))
  where
    walk : WalkAt old.depth old.path old.walk.place passed (current log) → WalkAt Inside old.path (opened_at old.depth folder (let c : Children = e.children in c.names) old.walk.place) passed (current log)
    walk k = enters_walk log passed old.depth old.path folder old.walk.place (let p : Place = old.walk.place in p.inner.names) e.children e.takes (e.lists log refl).1 refl k

    by : (stage : Stage) → DoneAt stage old.depth old.path old.walk.place passed (current log) → DoneAt stage Inside old.path (opened_at old.depth folder (let c : Children = e.children in c.names) old.walk.place) passed (current log)
    by Begin k = walk k
    by Going k = walk k
    by Sync k = k

descends_done : (log : CallLog) (passed : List Route) (old new : Deletion) (entered : List Route) → Descends (Some log) old entered new → MachineDone passed (current log) old → MachineDone passed (current log) new × (new.stage ≡ old.stage)
descends_done log passed old new [] at k = (at_same passed (current log) old new at k, at.stage_is)
descends_done log passed old new (folder ∷ before) (mid, descends, enters) k =
    let m = descends_done log passed old mid before descends k in
    let o = enters.opened_is in (enters_done log passed mid new folder enters m.0, o.stage_is ∙ m.1)

-- what leads somewhere after a removal led there before, and nothing leads to what was removed
module _ (log : CallLog) (tree : IsTree (current log)) (up : Route) (name : List ℕ) (f k : ℕ) (at : find (current log) up ≡ Some f) where
  abbrev later : CallLog
  later = with_change log (Removes f name k)

  way : find (current later) up ≡ Some f
  way = elim (find_same log (Removes f name k) up) [
    | inl same ↦ same ∙ at
    | inr under ↦ let u = under_removed log tree up f at name k up under in absurd (not_longer u.0 name up u.1)
  ]

  gone_at : find (current later) (name ∷ up) ≡ None
  gone_at = rw way (said log (Removes f name k) f name None (ap (λ (b : Bool). let o : Option (Option ℕ) = cond b (Some None) None in o) (same_name-self f name)))

  led_before : (p : Route) (i : ℕ) → find (current later) p ≡ Some i → (j : ℕ) × (find (current log) p ≡ Some j)
  led_before p i is = elim (find_same log (Removes f name k) p) [
    | inl same ↦ (i, sym same ∙ is)
    | inr under ↦
        let u = under_removed log tree up f at name k p under in
        let none : find (current later) p ≡ None = ap (find (current later)) u.1 ∙ none_below later u.0 (name ∷ up) gone_at in
        absurd (let e : (let o : Option ℕ = Some i in o) ≡ None = sym is ∙ none in let x : ⊥ = cc in x)
  ]

-- where nothing stands nothing stands below
nothing_below : (log : CallLog) (path p : Route) (i : ℕ) → find (current log) path ≡ None → is_prefix path p ≡ true → find (current log) p ≡ Some i → ⊥
nothing_below log path p i gone within at =
    let w = prefix_way path p within in
    let none : find (current log) p ≡ None = ap (find (current log)) w.1 ∙ none_below log w.0 path gone in
    let e : (let o : Option ℕ = Some i in o) ≡ None = sym at ∙ none in let x : ⊥ = cc in x

removal_at : (log now : CallLog) → IsTree (current log) → (it : DeletionItem) → Performs {A = Unit {0}} log (removal_of it) (Ok tt) (Some now) → IsRemoval log now (path_of it)
removal_at log now tree (Thing path) done = removal_done log now path tree done
removal_at log now tree (End folder) done = folder_removed log now folder tree done

refused_at : (log now : CallLog) (it : DeletionItem) (e : TreeError) → Performs {A = Unit {0}} log (removal_of it) (Err e) (Some now) → current now ≡ current log
refused_at log now (Thing path) e refused = refused_still log now (RemoveFile path) e (λ left. refl) refused
refused_at log now (End folder) e refused = refused_still log now (RemoveFolder folder) e (λ left. refl) refused

-- what works on an item keeps what is known
work_done : (log now : CallLog) (passed : List Route) (old new : Deletion) (did : Did) → IsTree (current log) → (IsProgress did ≡ true → at_barrier old.stage ≡ false) → Works old did new → WorkCalls old did log (Some now)
    → MachineDone passed (current log) old → MachineDone passed (current now) new
work_done log now passed old new (Removed path) tree off (path_is, bare, d) (seen, done) k =
    let it = removal_at log now tree (item old) done in
    let fewer : (p : Route) (i : ℕ) → find (current now) p ≡ Some i → (j : ℕ) × (find (current log) p ≡ Some j) =
    subst (λ (l : CallLog). (p : Route) (i : ℕ) → find (current l) p ≡ Some i → (j : ℕ) × (find (current log) p ≡ Some j)) (sym it.now_is) (led_before log tree it.r.up it.r.name it.r.f it.k it.r.folder) in
    let gone : find (current now) path ≡ None =
    ap (find (current now)) (path_is ∙ it.r.path_is) ∙ (ap (λ (l : CallLog). find (current l) (it.r.name ∷ it.r.up)) it.now_is ∙ gone_at log tree it.r.up it.r.name it.r.f it.k it.r.folder) in
    let w = walk_of old.stage old.depth old.path old.walk.place passed (current log) (off refl) k in
    of_decides passed passed (current log) (current now) (λ q among. among) fewer old new false path Going d path_is refl
    (gone_of passed passed (current log) (current now) (λ q among. among) fewer old.depth old.path path old.walk.place (let p : Place = old.walk.place in p.inner.names) refl path_is w (λ p i within at. absurd (nothing_below now path p i gone within at)))
    (λ left. absurd (false≢true left)) w
work_done log now passed old new (Kept path) tree off (path_is, left, d) same k =
    let still : current now ≡ current log = ap current (some_log now log same) in
    let w = walk_of old.stage old.depth old.path old.walk.place passed (current log) (off refl) k in
    subst (λ (s : FileSystem). MachineDone passed s new) (sym still)
    (let both = kept_of passed (current log) (current log) (λ q among. among) (λ p i at. (i, at)) old.depth old.path path old.walk.place (let p : Place = old.walk.place in p.inner.names) refl path_is left w in
    of_decides passed passed (current log) (current log) (λ q among. among) (λ p i at. (i, at)) old new true path old.stage d path_is (off refl) both.0 both.1 w)
work_done log now passed old new (Asked question) tree off t same k = absurd t
work_done log now passed old new (Merges transfer pair names) tree off t same k = absurd t
work_done log now passed old new (Moved pair) tree off t same k = absurd t
work_done log now passed old new (Troubled trouble) tree off (barrier, at) calls k =
    subst (λ (s : FileSystem). MachineDone passed s new) (sym (by calls)) (at_same passed (current log) old new at k)
  where
    by : WorkCalls old (Troubled trouble) log (Some now) → current now ≡ current log
    by (inl stops) = ap current (some_log now log stops.0)
    by (inr refused) = refused_at log now (item old) refused.0 refused.3
work_done log now passed old new (Began part) tree off t calls k = absurd t
work_done log now passed old new (Chunk count) tree off t calls k = absurd t
work_done log now passed old new (Placed path) tree off t calls k = absurd t
work_done log now passed old new (Made path) tree off t calls k = absurd t
work_done log now passed old new (Set path) tree off t calls k = absurd t
work_done log now passed old new (Skipped path why) tree off t calls k = absurd t
work_done log now passed old new (Cleaned part) tree off t calls k = absurd t
work_done log now passed old new Barrier tree off t calls k = absurd t
work_done log now passed old new (Ended ending part) tree off t calls k = absurd t

-- something is passed over
module _ (passed : List Route) (s : FileSystem) (old mid : Deletion) (path : Route) where
  abbrev Skipped_on : Type 0
  Skipped_on = DoneAt (after_item old.path path old.stage) mid.depth mid.path mid.walk.place (path ∷ passed) s

  rest_is : KeepsRest old mid → DoneAt (after_item old.path path old.stage) old.depth old.path mid.walk.place (path ∷ passed) s → Skipped_on
  rest_is r k =
      subst (λ x. DoneAt (after_item old.path path old.stage) x mid.path mid.walk.place (path ∷ passed) s) (sym r.depth_is)
      (subst (λ x. DoneAt (after_item old.path path old.stage) old.depth x mid.walk.place (path ∷ passed) s) (sym r.path_is) k)

  here : (p : Route) → is_prefix path p ≡ true → IsSpared (path ∷ passed) p
  here p within = (path, inl refl, inl within)

  takes_off : TakesOff path old mid → at_barrier old.stage ≡ false → WalkAt old.depth old.path old.walk.place passed s → Skipped_on
  takes_off (inl (path_is, (done, rest))) off w =
      rest_is rest (decided passed (path ∷ passed) s s (λ q among. inr among) (λ p i at. (i, at)) old.depth old.path path old.walk.place mid.walk.place (let p : Place = old.walk.place in p.inner.names) true old.stage refl path_is done off
      (gone_of passed (path ∷ passed) s s (λ q among. inr among) (λ p i at. (i, at)) old.depth old.path path old.walk.place (let p : Place = old.walk.place in p.inner.names) refl path_is w (λ p i within at. here p within))
      (λ left. (path, inl refl, prefix_append path [])) w)
  takes_off (inr (long, folder)) off w = rest_is folder.rest (by old.depth w)
    where
      by : (depth : Depth) → WalkAt depth old.path old.walk.place passed s → DoneAt (after_item old.path path old.stage) depth old.path mid.walk.place (path ∷ passed) s
      by Top none =
          ended passed (path ∷ passed) s s (λ q among. inr among) (λ p i at. (i, at)) Top old.path path mid.walk.place old.stage
          (folder.path_is ∙ ap (λ (around : List OpenFolder). if Rattle.tree_walk.specs.Places.is_empty around then old.path else old.walk.place.inner.path) none)
          (λ p i within at. here p (subst (λ (q : Route). is_prefix q p ≡ true) (sym (folder.path_is ∙ ap (λ (around : List OpenFolder). if Rattle.tree_walk.specs.Places.is_empty around then old.path else old.walk.place.inner.path) none)) within))
      by Inside walk =
          leaves passed (path ∷ passed) s s (λ q among. inr among) (λ p i at. (i, at)) old.path path old.walk.place.inner old.walk.place.around old.walk.place mid.walk.place true old.stage refl refl folder.path_is folder.place off
          (λ p i ahead at. here p (subst (λ (q : Route). is_prefix q p ≡ true) (sym (folder.path_is ∙ worked_is old.path old.walk.place.inner old.walk.place.around walk.nested)) (below_ahead old.walk.place.inner p ahead)))
          (λ left. (path, inl refl, prefix_append path [])) walk

  skipped_on : (stage : Stage) → old.stage ≡ stage → TakesOff path old mid → MachineDone passed s old → Skipped_on
  skipped_on Begin is t k = takes_off t (ap at_barrier is) (subst (λ x. DoneAt x old.depth old.path old.walk.place passed s) is k)
  skipped_on Going is t k = takes_off t (ap at_barrier is) (subst (λ x. DoneAt x old.depth old.path old.walk.place passed s) is k)
  skipped_on Sync is t k =
      rest_is (rest t) (subst (λ x. DoneAt (after_item old.path path x) old.depth old.path mid.walk.place (path ∷ passed) s) (sym is)
      (by (same_path path old.path) (λ p i within at. spared_more passed (path ∷ passed) p (λ q among. inr among) (subst (λ x. DoneAt x old.depth old.path old.walk.place passed s) is k p i within at))))
    where
      rest : TakesOff path old mid → KeepsRest old mid
      rest (inl (path_is, (done, r))) = r
      rest (inr (long, folder)) = folder.rest

      by : (b : Bool) → Stand s old.path (IsSpared (path ∷ passed)) → DoneAt (if b then Sync else Sync) old.depth old.path mid.walk.place (path ∷ passed) s
      by true h = h
      by false h = h

skips_machine : (passed : List Route) (s : FileSystem) (cause : Cause) (old new : Deletion) (did : Did) → MachineSkips cause old did new → MachineDone passed s old → Unless did (MachineDone (passed_by did passed) s new)
skips_machine passed s cause old new did (inl (path, did_is, (mid, takes, new_is))) k =
    subst (λ (x : Did). Unless x (MachineDone (passed_by x passed) s new)) (sym did_is)
    (subst (λ (x : Deletion). MachineDone (path ∷ passed) s x) (sym new_is) (skipped_on passed s old mid path old.stage refl takes k))
skips_machine passed s cause old new did (inr (did_is, new_is)) k =
    subst (λ (x : Did). Unless x (MachineDone (passed_by x passed) s new)) (sym did_is) (subst (λ (x : Deletion). MachineDone passed s x) (sym new_is) k)

pub deletion_skips : (d new : Deleting) (cause : Cause) (did : Did) (passed : List Route) (s : FileSystem) → Passes cause d did new → DeletionDone passed s d → Unless did (DeletionDone (passed_by did passed) s new)
deletion_skips d new cause did passed s (spare, spare_after, skips) k = skips_machine passed s cause (machine_of d spare) (machine_of new spare_after) did skips k

off_of : (replies : Replies) (d new : Deleting) (did : Did) → Tells replies d did new → IsProgress did ≡ true → at_barrier d.stage ≡ false
off_of replies d new (Removed path) t is = t.0
off_of replies d new (Kept path) t is = t.0
off_of replies d new (Asked question) t is = absurd t
off_of replies d new (Merges transfer pair names) t is = absurd t
off_of replies d new (Moved pair) t is = absurd t
off_of replies d new (Skipped path why) t is = absurd (false≢true is)
off_of replies d new (Troubled trouble) t is = absurd (false≢true is)
off_of replies d new Barrier t is = absurd (false≢true is)
off_of replies d new (Ended ending part) t is = absurd (false≢true is)
off_of replies d new (Began part) t is = absurd (false≢true is)
off_of replies d new (Chunk count) t is = absurd (false≢true is)
off_of replies d new (Placed path) t is = absurd (false≢true is)
off_of replies d new (Made path) t is = absurd (false≢true is)
off_of replies d new (Set path) t is = absurd (false≢true is)
off_of replies d new (Cleaned part) t is = absurd (false≢true is)

-- what is passed over is no progress
no_progress : {A : Type 0} (skips : Skips) (did : Did) (cause : Cause) → passed_cause skips did ≡ Some cause → IsProgress did ≡ true → A
no_progress skips (Removed path) cause is progress = absurd (let f : ⊥ = cc in f)
no_progress skips (Kept path) cause is progress = absurd (let f : ⊥ = cc in f)
no_progress skips (Asked question) cause is progress = absurd (let f : ⊥ = cc in f)
no_progress skips (Merges transfer pair names) cause is progress = absurd (let f : ⊥ = cc in f)
no_progress skips (Moved pair) cause is progress = absurd (let f : ⊥ = cc in f)
no_progress skips (Skipped path why) cause is progress = absurd (false≢true progress)
no_progress skips (Troubled trouble) cause is progress = absurd (false≢true progress)
no_progress skips Barrier cause is progress = absurd (false≢true progress)
no_progress skips (Ended ending part) cause is progress = absurd (false≢true progress)
no_progress skips (Began part) cause is progress = absurd (false≢true progress)
no_progress skips (Chunk count) cause is progress = absurd (false≢true progress)
no_progress skips (Placed path) cause is progress = absurd (false≢true progress)
no_progress skips (Made path) cause is progress = absurd (false≢true progress)
no_progress skips (Set path) cause is progress = absurd (false≢true progress)
no_progress skips (Cleaned part) cause is progress = absurd (false≢true progress)

-- what works passes nothing over
unless_works : (d mid : Deletion) (did : Did) (passed : List Route) (s : FileSystem) (new : Deletion) → Works d did mid → MachineDone passed s new → Unless did (MachineDone (passed_by did passed) s new)
unless_works d mid (Removed path) passed s new t k = k
unless_works d mid (Kept path) passed s new t k = k
unless_works d mid (Asked question) passed s new t k = k
unless_works d mid (Merges transfer pair names) passed s new t k = absurd t
unless_works d mid (Moved pair) passed s new t k = absurd t
unless_works d mid (Troubled trouble) passed s new t k = k
unless_works d mid (Skipped path why) passed s new t k = absurd t
unless_works d mid Barrier passed s new t k = absurd t
unless_works d mid (Ended ending part) passed s new t k = absurd t
unless_works d mid (Began part) passed s new t k = absurd t
unless_works d mid (Chunk count) passed s new t k = absurd t
unless_works d mid (Placed path) passed s new t k = absurd t
unless_works d mid (Made path) passed s new t k = absurd t
unless_works d mid (Set path) passed s new t k = absurd t
unless_works d mid (Cleaned part) passed s new t k = absurd t

-- a sync changes nothing that can be seen
syncs_done : (d : Deletion) (did : Did) (folders folders_after : List Route) (log now : CallLog) (passed : List Route) → SyncsOne d did folders folders_after (Some log) (Some now) → MachineDone passed (current log) d
    → Unless did (MachineDone (passed_by did passed) (current now) d)
syncs_done d Barrier folders folders_after log now passed (folder, own, is, done) k =
    let c = done_call log (SyncFolder folder) now (done log refl) in
    subst (λ (s : FileSystem). MachineDone passed s d) (sym (still_same log now (Syncs (found_node (current log) folder), c.is, inr (found_node (current log) folder, refl)))) k
syncs_done d (Troubled trouble) folders folders_after log now passed (e, folder, own, trouble_is, is, refused) k =
    subst (λ (s : FileSystem). MachineDone passed s d) (sym (refused_still log now (SyncFolder folder) e (λ left. refl) (refused log refl))) k
syncs_done d (Ended ending part) folders folders_after log now passed t k = tt
syncs_done d (Removed path) folders folders_after log now passed t k = absurd t
syncs_done d (Kept path) folders folders_after log now passed t k = absurd t
syncs_done d (Asked question) folders folders_after log now passed t k = absurd t
syncs_done d (Merges transfer pair names) folders folders_after log now passed t k = absurd t
syncs_done d (Moved pair) folders folders_after log now passed t k = absurd t
syncs_done d (Skipped path why) folders folders_after log now passed t k = absurd t
syncs_done d (Began part) folders folders_after log now passed t k = absurd t
syncs_done d (Chunk count) folders folders_after log now passed t k = absurd t
syncs_done d (Placed path) folders folders_after log now passed t k = absurd t
syncs_done d (Made path) folders folders_after log now passed t k = absurd t
syncs_done d (Set path) folders folders_after log now passed t k = absurd t
syncs_done d (Cleaned part) folders folders_after log now passed t k = absurd t

pub deletion_steps : (replies : Replies) (d new : Deleting) (did : Did) (calls : ℕ) (dirty dirty_after : List Route) (log now : CallLog) (faults faults_after : ℕ) (passed : List Route) → IsTree (current log) → Tells replies d did new
    → Goes replies d new did calls dirty dirty_after (Some log) (Some now) faults faults_after → DeletionDone passed (current log) d → Unless did (DeletionDone (passed_by did passed) (current now) new)
deletion_steps replies d new did calls dirty dirty_after log now faults faults_after passed tree t (inr (spare, syncs, new_is)) k =
    subst (λ (x : Deleting). Unless did (DeletionDone (passed_by did passed) (current now) x)) (sym new_is) (syncs_done (machine_of d spare) did dirty dirty_after log now passed syncs.syncs k)
deletion_steps replies d new did calls dirty dirty_after log now faults faults_after passed tree t (inl (worked_did, mid, spare, spare_after, w, or_passed)) k = by or_passed
  where
    start : MachineDone passed (current log) w.mid × ((let m : Deletion = w.mid in m.stage) ≡ d.stage)
    start = descends_done log passed (machine_of d spare) w.mid w.entered w.descends k

    works : Works w.mid worked_did mid
    works = (let x = w.working in x.works)

    calls_of : WorkCalls w.mid worked_did log (Some now)
    calls_of = (let x = w.working in x.called log refl)

    at_mid : (IsProgress worked_did ≡ true → at_barrier d.stage ≡ false) → MachineDone passed (current now) mid
    at_mid off = work_done log now passed w.mid mid worked_did tree (λ p. ap at_barrier start.1 ∙ off p) works calls_of start.0

    by : OrPassedOver replies.skips (step_result worked_did calls) mid (machine_of new spare_after) (step_result did calls) → Unless did (DeletionDone (passed_by did passed) (current now) new)
    by (inl (none, same, stands)) =
        let did_is : did ≡ worked_did = ap (λ (r : StepResult). r.did) same in
        subst (λ (x : Did). Unless x (DeletionDone (passed_by x passed) (current now) new)) (sym did_is)
        (unless_works w.mid mid worked_did passed (current now) (machine_of new spare_after) works
        (subst (λ (x : Deletion). MachineDone passed (current now) x) (sym stands) (at_mid (λ p. off_of replies d new did t (ap IsProgress did_is ∙ p)))))
    by (inr (cause, is, calls_is, skips)) = skips_machine passed (current now) cause mid (machine_of new spare_after) did skips (at_mid (λ p. no_progress replies.skips worked_did cause is p))

pub deletion_ends : (d : Deleting) (passed : List Route) (s : FileSystem) (v : View) → d.stage ≡ Sync → ((p : Route) → visible_tree s p ≡ v p) → DeletionDone passed s d → IsGone d.path passed v
deletion_ends d passed s v stage shows k rest reached =
    sym (ap (λ (x : Spot). x.value) (shows (rest ++ d.path))) ∙ by (find s (rest ++ d.path)) refl
  where
    left : Stand s d.path (IsSpared passed)
    left = subst (λ x. DoneAt x d.depth d.path d.place passed s) stage k

    by : (o : Option ℕ) → find s (rest ++ d.path) ≡ o → value_at s (rest ++ d.path) ≡ None
    by None is = ap (option_map (λ i. value (node s i))) is
    by (Some i) is =
        let spared = left (rest ++ d.path) i (prefix_append d.path rest) is in
        elim spared.2 [ inl within ↦ absurd (both_ways _ (reached.0 spared.0 spared.1) within) | inr within ↦ absurd (both_ways _ (reached.1 spared.0 spared.1) within) ]
