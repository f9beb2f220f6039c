-- A deletion on its way down to what it works on.
use Rattle.std.proofs.Common.{◌≡◌, ℕ, ◌<◌, ◌≤◌, true, false, List, [], ◌∷◌, refl, sym, ◌∙◌, ap, subst, Option, arith}
use Rattle.std.proofs.lemmas.Bool.{true≢false, false≢true}
use Rattle.mc_text.specs.Routes.{Route}
use Rattle.tree_trait.specs.Change.{CallLog}
use Rattle.job_reports.specs.declared.report.Did.{Did}
use Rattle.job_reports.specs.declared.report.Did.TheVariants.{Began, Chunk, Placed, Removed, Made, Set, Kept, Skipped, Cleaned, Barrier, Asked, Merges, Moved, Troubled, Ended}
use Rattle.job_reports.proofs.Runs.{risen_before}
use Rattle.tree_walk.specs.Places.{Place}
use Rattle.delete_job.specs.declared.deletion.Depth.{Depth}
use Rattle.delete_job.specs.declared.deletion.Stage.{Stage}
use Rattle.delete_job.specs.declared.deletion.Stage.TheVariants.{Begin, Going, Sync}
use Rattle.delete_job.specs.declared.deletion.Deletion.{Deletion}
use Rattle.delete_job.specs.Standing.{at_barrier, rank_at, rank_of, things_left}
use Rattle.delete_job.specs.Descending.{Descends, Enters, IsAt}
use Rattle.delete_job.specs.TreeDeletionSteps.{IsProgress, Working, WorkSteps, Works}
use Rattle.delete_job.proofs.Decided.{decided_falls}
use Rattle.delete_job.proofs.Items.{at_itself}

pub record IsOnWay (contents : Option CallLog) (old now : Deletion) : Type 0 where
  pub entered : List Route
  pub descends : Descends contents old entered now
  pub going : at_barrier now.stage ≡ false
  pub less : rank_at now.depth now.walk.place ≤ rank_at old.depth old.walk.place

pub way_begins : (contents : Option CallLog) (old : Deletion) → at_barrier old.stage ≡ false → IsOnWay contents old old
way_begins contents old going = record { entered = []; descends = at_itself old; going = going; less = omega arith }

pub way_on : (contents later : Option CallLog) (old now next : Deletion) (folder : Route) → IsOnWay contents old now → later ≡ contents → Enters later now folder next
    → rank_at next.depth next.walk.place < rank_at now.depth now.walk.place → IsOnWay contents old next
way_on contents later old now next folder way same enters falls = record {
  entered = folder ∷ way.entered;
  descends = (now, way.descends, subst (λ c. Enters c now folder next) same enters);
  going = ap at_barrier (let o = enters.opened_is in o.stage_is) ∙ way.going;
  less = let l = way.less in omega (arith, l, falls);
}

at_then : (old mid new : Deletion) → IsAt old mid → IsAt mid new → IsAt old new
at_then old mid new a b = record {
  place = b.place ∙ a.place;
  depth_is = b.depth_is ∙ a.depth_is;
  stage_is = b.stage_is ∙ a.stage_is;
  path_is = b.path_is ∙ a.path_is;
  folder_is = b.folder_is ∙ a.folder_is;
}

enters_at : (contents : Option CallLog) (old mid new : Deletion) (folder : Route) → Enters contents old folder mid → IsAt mid new → Enters contents old folder new
enters_at contents old mid new folder e a = record {
  children = e.children;
  takes = e.takes;
  may = e.may;
  lists = e.lists;
  all = e.all;
  in_order = e.in_order;
  opened_is = let o = e.opened_is in record {
    place = a.place ∙ o.place;
    depth_is = a.depth_is ∙ o.depth_is;
    stage_is = a.stage_is ∙ o.stage_is;
    path_is = a.path_is ∙ o.path_is;
    folder_is = a.folder_is ∙ o.folder_is;
  };
}

descends_at : (contents : Option CallLog) (old mid new : Deletion) (entered : List Route) → Descends contents old entered mid → IsAt mid new → Descends contents old entered new
descends_at contents old mid new [] d a = at_then old mid new d a
descends_at contents old mid new (folder ∷ before) d a = (d.0, d.1, enters_at contents d.0 mid new folder d.2 a)

progress_falls : (old new : Deletion) (did : Did) → at_barrier old.stage ≡ false → Works old did new → IsProgress did ≡ true → things_left new < things_left old
progress_falls old new (Removed path) going w h = decided_falls old new false path Going going refl w.0 w.2
progress_falls old new (Made made) going w h = absurd (false≢true h)
progress_falls old new (Kept path) going w h = decided_falls old new true path old.stage going going w.0 w.2
progress_falls old new (Began part) going w h = absurd (false≢true h)
progress_falls old new (Chunk count) going w h = absurd (false≢true h)
progress_falls old new (Set path) going w h = absurd (false≢true h)
progress_falls old new (Placed path) going w h = absurd (false≢true h)
progress_falls old new (Skipped path cause) going w h = absurd (false≢true h)
progress_falls old new (Cleaned part) going w h = absurd (false≢true h)
progress_falls old new Barrier going w h = absurd (false≢true h)
progress_falls old new (Asked question) going w h = absurd (false≢true h)
progress_falls old new (Merges transfer pair names) going w h = absurd (false≢true h)
progress_falls old new (Moved pair) going w h = absurd (false≢true h)
progress_falls old new (Troubled trouble) going w h = absurd (false≢true h)
progress_falls old new (Ended ending part) going w h = absurd (false≢true h)

rank_most : (stage was : Stage) (depth before : Depth) (place old : Place) → at_barrier was ≡ false → rank_at depth place ≤ rank_at before old → rank_of stage depth place ≤ rank_of was before old
rank_most stage Sync depth before place old going less = absurd (true≢false going)
rank_most Begin Begin depth before place old going less = less
rank_most Begin Going depth before place old going less = less
rank_most Going Begin depth before place old going less = less
rank_most Going Going depth before place old going less = less
rank_most Sync Begin depth before place old going less = omega arith
rank_most Sync Going depth before place old going less = omega arith

at_most : (old now mid : Deletion) → at_barrier old.stage ≡ false → rank_at now.depth now.walk.place ≤ rank_at old.depth old.walk.place → IsAt now mid → things_left mid ≤ things_left old
at_most old now mid going less a =
    rank_most mid.stage old.stage mid.depth old.depth mid.walk.place old.walk.place going
    (subst (λ d. rank_at d mid.walk.place ≤ rank_at old.depth old.walk.place) (sym a.depth_is) (subst (λ (p : Place). rank_at now.depth p ≤ rank_at old.depth old.walk.place) (sym a.place) less))

-- where it works no more things are left
works_no_more : (old new : Deletion) (did : Did) → at_barrier old.stage ≡ false → Works old did new → things_left new ≤ things_left old
works_no_more old new (Removed path) going w = let low = decided_falls old new false path Going going refl w.0 w.2 in omega (arith, low)
works_no_more old new (Kept path) going w = let low = decided_falls old new true path old.stage going going w.0 w.2 in omega (arith, low)
works_no_more old new (Troubled trouble) going (barrier, a) = at_most old old new going (omega arith) a
works_no_more old new (Made made) going w = absurd w
works_no_more old new (Began part) going w = absurd w
works_no_more old new (Chunk count) going w = absurd w
works_no_more old new (Set path) going w = absurd w
works_no_more old new (Placed path) going w = absurd w
works_no_more old new (Skipped path cause) going w = absurd w
works_no_more old new (Cleaned part) going w = absurd w
works_no_more old new Barrier going w = absurd w
works_no_more old new (Asked question) going w = absurd w
works_no_more old new (Merges transfer pair names) going w = absurd w
works_no_more old new (Moved pair) going w = absurd w
works_no_more old new (Ended ending part) going w = absurd w

-- at the end of the way it works on what it found there
pub way_ends : (before contents after : Option CallLog) (old now mid new : Deletion) (did : Did) (calls : ℕ) (folders held folders_after : List Route) (f0 f1 f2 : ℕ) → at_barrier old.stage ≡ false → IsOnWay before old now
    → contents ≡ before → held ≡ folders → f0 ≤ f1 → IsAt now mid → Working mid new did calls held folders_after contents after f1 f2
    → WorkSteps old new did calls folders folders_after before after f0 f2
way_ends before contents after old now mid new did calls folders held folders_after f0 f1 f2 begins way same kept more a w = record {
  entered = way.entered;
  mid = mid;
  descends = descends_at before old now mid way.entered way.descends a;
  working =
      let c = subst (λ (x : Option CallLog). Working mid new did calls held folders_after x after f1 f2) same w in
      let k = subst (λ (xs : List Route). Working mid new did calls xs folders_after before after f1 f2) kept c in
      record {
        works = k.works;
        called = k.called;
        leaves = k.leaves;
        counted = k.counted;
        few = k.few;
        unknown = k.unknown;
        later = (let l = k.later in omega (arith, more, l));
        fault = λ h. risen_before f0 f1 f2 more (k.fault h);
      };
  falls = λ h.
      let low = progress_falls mid new did (ap at_barrier a.stage_is ∙ way.going) w.works h in
      let most = at_most old now mid begins way.less a in
      omega (arith, low, most);
  no_more =
      let few = works_no_more mid new did (ap at_barrier a.stage_is ∙ way.going) w.works in
      let most = at_most old now mid begins way.less a in
      omega (arith, few, most);
}
