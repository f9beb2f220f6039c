-- A walk stays in the thing that is deleted, so what it works on lies there.
use Rattle.std.proofs.Common.{◌≡◌, ◌≢◌, ℕ, ◌<◌, ◌≤◌, true, false, Bool, List, [], ◌∷◌, refl, sym, ◌∙◌, ap, subst, inl, inr, Option, arith}
use Rattle.std.specs.Prelude.{if◌then◌else◌}
use Rattle.std.proofs.lemmas.Bool.{or_left, or_right, both_ways, true≢false}
use Rattle.mc_text.specs.Routes.{Route, same_path, is_prefix}
use Rattle.tree_trait.specs.Change.{CallLog}
use Rattle.tree_trait.proofs.Visible.{same_path-self}
use Rattle.job_reports.specs.declared.report.Cause.{Cause}
use Rattle.job_reports.specs.declared.report.Did.{Did}
use Rattle.job_reports.specs.declared.report.Did.TheVariants.{Began, Chunk, Placed, Removed, Made, Set, Kept, Skipped, Cleaned, Barrier, Asked, Merges, Moved, Troubled, Ended}
use Rattle.tree_walk.proofs.Falling.{leave_falls}
use Rattle.tree_walk.specs.Places.{IsLeft, OpenFolder, Place, is_empty, is_outermost, noted_folder, opened_folder, passed_place, without_next}
use Rattle.delete_job.specs.declared.deletion.Depth.{Depth}
use Rattle.delete_job.specs.declared.deletion.Depth.TheVariants.{Top, Inside}
use Rattle.delete_job.specs.declared.deletion.Stage.{Stage}
use Rattle.delete_job.specs.declared.deletion.Stage.TheVariants.{Begin, Going, Sync}
use Rattle.delete_job.specs.declared.deletion.Deletion.{Deletion}
use Rattle.delete_job.specs.Standing.{Decides, End, IsDone, DeletionItem, Leaves, Thing, after_item, at_barrier, item, item_at, item_of, rank_at, rank_of, things_left, worked_folder}
use Rattle.delete_job.specs.Descending.{Descends, Enters, IsAt, IsOpened, opened_at}
use Rattle.delete_job.specs.Inside.{AreInside, IsInside, IsInsideAt}
use Rattle.delete_job.specs.TreeDeletionSteps.{IsTooLong, KeepsRest, LeavesFolder, Passes, Skips, TakesOff, WorkSteps, Works, path_of}
use Rattle.delete_job.proofs.Decided.{decided_falls, going_rank, some_rank}

pub prefix_self : (p : Route) → is_prefix p p ≡ true
prefix_self [] = refl
prefix_self (name ∷ p) = or_left (same_path (name ∷ p) (name ∷ p)) (is_prefix (name ∷ p) p) (same_path-self (name ∷ p))

prefix_more : (top p : Route) (name : List ℕ) → is_prefix top p ≡ true → is_prefix top (name ∷ p) ≡ true
prefix_more top p name h = or_right (same_path top (name ∷ p)) (is_prefix top p) h

-- what is taken up lies there
worked_inside : (top : Route) (place : Place) (b : Bool) → AreInside top (place.inner ∷ place.around) → is_prefix top (if b then top else place.inner.path) ≡ true
worked_inside top place true h = prefix_self top
worked_inside top place false h = h.0

of_names : (top : Route) (place : Place) (names : List (List ℕ)) → AreInside top (place.inner ∷ place.around) → is_prefix top (path_of (item_of names place.inner.path (worked_folder top place))) ≡ true
of_names top place [] h = worked_inside top place (is_outermost place) h
of_names top place (name ∷ names) h = prefix_more top place.inner.path name h.0

of_depth : (depth : Depth) (top : Route) (place : Place) → IsInsideAt depth top place → is_prefix top (path_of (item_at depth top place)) ≡ true
of_depth Top top place h = prefix_self top
of_depth Inside top place h = of_names top place place.inner.names h

pub item_inside : (d : Deletion) → IsInside d → is_prefix d.path (path_of (item d)) ≡ true
item_inside d h = of_depth d.depth d.path d.walk.place h

-- the same where all of it is the same
pub inside_at : (old new : Deletion) → IsAt old new → IsInside old → IsInside new
inside_at old new a h =
    subst (λ x. IsInsideAt x new.path new.walk.place) (sym a.depth_is) (subst (λ (p : Route). IsInsideAt old.depth p new.walk.place) (sym a.path_is) (subst (λ (w : Place). IsInsideAt old.depth old.path w) (sym a.place) h))

-- a folder that is gone into lies there
opened_inside : (depth : Depth) (top folder : Route) (names : List (List ℕ)) (place : Place) → IsInsideAt depth top place → is_prefix top folder ≡ true → AreInside top (let p = opened_at depth folder names place in p.inner ∷ p.around)
opened_inside Top top folder names place h is = (is, subst (AreInside top) (sym h) tt)
opened_inside Inside top folder names place h is = (is, (h.0, h.1))

enters_inside : (contents : Option CallLog) (old new : Deletion) (folder : Route) → Enters contents old folder new → IsInside old → IsInside new
enters_inside contents old new folder e h =
    let o = e.opened_is in
    let is : is_prefix old.path folder ≡ true = subst (λ (i : DeletionItem). is_prefix old.path (path_of i) ≡ true) e.takes (item_inside old h) in
    subst (λ x. IsInsideAt x new.path new.walk.place) (sym o.depth_is) (subst (λ (p : Route). IsInsideAt Inside p new.walk.place) (sym o.path_is)
    (subst (λ (w : Place). IsInsideAt Inside old.path w) (sym o.place) (opened_inside old.depth old.path folder (let c = e.children in c.names) old.walk.place h is)))

pub descends_inside : (contents : Option CallLog) (old mid : Deletion) (entered : List Route) → Descends contents old entered mid → IsInside old → IsInside mid
descends_inside contents old mid [] d h = inside_at old mid d h
descends_inside contents old mid (folder ∷ before) d h = enters_inside contents d.0 mid folder d.2 (descends_inside contents old d.0 before d.1 h)

-- where a folder is left the one around it is worked, which lies there
leaves_inside : (top : Route) (left : Bool) (old new : Place) → Leaves left old new → AreInside top (old.inner ∷ old.around) → AreInside top (new.inner ∷ new.around)
leaves_inside top left old new (inl l) h =
    let a = subst (λ (folders : List OpenFolder). AreInside top folders) l.was h.1 in
    (subst (λ (f : OpenFolder). is_prefix top f.path ≡ true) (sym l.inner) a.0, a.1)
leaves_inside top left old new (inr same) h = subst (λ (p : Place). AreInside top (p.inner ∷ p.around)) (sym same.1) h

done_inside : (depth : Depth) (i : DeletionItem) (top : Route) (left : Bool) (old new : Place) → IsDone depth i left old new → IsInsideAt depth top old → IsInsideAt depth top new
done_inside Top i top left old new done h = ap (λ (p : Place). p.around) done ∙ h
done_inside Inside (Thing path) top left old new done h = subst (λ (p : Place). AreInside top (p.inner ∷ p.around)) (sym done) (h.0, h.1)
done_inside Inside (End folder) top left old new done h = leaves_inside top left old new done h

decides_inside : (old new : Deletion) (left : Bool) (path : Route) (stage : Stage) → Decides old left path stage new → IsInside old → IsInside new
decides_inside old new left path stage d h =
    subst (λ x. IsInsideAt x new.path new.walk.place) (sym d.depth_is) (subst (λ (p : Route). IsInsideAt old.depth p new.walk.place) (sym d.path_is)
    (done_inside old.depth (item old) old.path left old.walk.place new.walk.place d.place h))

works_inside : (old new : Deletion) (did : Did) → Works old did new → IsInside old → IsInside new
works_inside old new (Removed path) w h = decides_inside old new false path Going w.2 h
works_inside old new (Kept path) w h = decides_inside old new true path old.stage w.2 h
works_inside old new (Troubled trouble) w h = inside_at old new w.1 h
works_inside old new (Began part) w h = absurd w
works_inside old new (Chunk count) w h = absurd w
works_inside old new (Set path) w h = absurd w
works_inside old new (Placed path) w h = absurd w
works_inside old new (Made path) w h = absurd w
works_inside old new (Skipped path cause) w h = absurd w
works_inside old new (Cleaned part) w h = absurd w
works_inside old new Barrier w h = absurd w
works_inside old new (Asked question) w h = absurd w
works_inside old new (Merges transfer pair names) w h = absurd w
works_inside old new (Moved pair) w h = absurd w
works_inside old new (Ended ending part) w h = absurd w

pub work_inside : (old new : Deletion) (did : Did) (calls : ℕ) (folders folders_after : List Route) (before after : Option CallLog) (f0 f1 : ℕ) → WorkSteps old new did calls folders folders_after before after f0 f1 → IsInside old → IsInside new
work_inside old new did calls folders folders_after before after f0 f1 s h = works_inside s.mid new did (let w = s.working in w.works) (descends_inside before old s.mid s.entered s.descends h)

-- what is skipped
passes_inside : (old new : Deletion) (left : Bool) → Passes left old new → IsInside old → IsInside new
passes_inside old new left p h =
    let k = p.1 in
    subst (λ x. IsInsideAt x new.path new.walk.place) (sym k.depth_is) (subst (λ (q : Route). IsInsideAt old.depth q new.walk.place) (sym k.path_is)
    (done_inside old.depth (item old) old.path left old.walk.place new.walk.place p.0 h))

left_inside : (depth : Depth) (top : Route) (left : Bool) (old new : Place) → Leaves left old new → IsInsideAt depth top old → IsInsideAt depth top new
left_inside Inside top left old new l h = leaves_inside top left old new l h
left_inside Top top left old new (inl l) h = absurd (none_more l.outer new.around (sym l.was ∙ h))
  where
    none_more : (folder : OpenFolder) (folders : List OpenFolder) → (let xs : List OpenFolder = folder ∷ folders in xs) ≡ [] → ⊥
    none_more folder folders e = cc
left_inside Top top left old new (inr same) h = ap (λ (p : Place). p.around) same.1 ∙ h

takes_inside : (path : Route) (old new : Deletion) → TakesOff path old new → IsInside old → IsInside new
takes_inside path old new (inl t) h = passes_inside old new true t.1 h
takes_inside path old new (inr (long, l)) h =
    let k = l.rest in
    subst (λ x. IsInsideAt x new.path new.walk.place) (sym k.depth_is) (subst (λ (q : Route). IsInsideAt old.depth q new.walk.place) (sym k.path_is)
    (left_inside old.depth old.path true old.walk.place new.walk.place l.place h))

pub skip_inside : (cause : Cause) (old new : Deletion) (did : Did) → Skips cause old did new → IsInside old → IsInside new
skip_inside cause old new did (inl (path, did_is, (mid, takes, new_is))) h = subst IsInside (sym new_is) (takes_inside path old mid takes h)
skip_inside cause old new did (inr (did_is, new_is)) h = subst IsInside (sym new_is) h

-- a skip leaves no more things than there were
no_barrier : (b : Bool) (depth : Depth) (place : Place) (most : ℕ) → rank_of (if b then Sync else Sync) depth place ≤ most
no_barrier true depth place most = omega arith
no_barrier false depth place most = omega arith

outermost_is : (depth : Depth) (top path : Route) (old new : Place) → IsInsideAt depth top old → path ≡ worked_folder top old → same_path path top ≡ false → Leaves true old new → (depth ≡ Inside) × (rank_at Inside new < rank_at Inside old)
outermost_is Inside top path old new h is off (inl l) = (refl, leave_falls true old new l)
outermost_is Inside top path old new h is off (inr same) = absurd (both_ways _ off (subst (λ p. same_path p top ≡ true) (sym (is ∙ ap (λ (xs : List OpenFolder). if is_empty xs then top else old.inner.path) same.0)) (same_path-self top)))
outermost_is Top top path old new h is off l = absurd (both_ways _ off (subst (λ p. same_path p top ≡ true) (sym (is ∙ ap (λ (xs : List OpenFolder). if is_empty xs then top else old.inner.path) h)) (same_path-self top)))

low_rank : (stage : Stage) (depth : Depth) (place old : Place) → rank_at Inside place < rank_at Inside old → depth ≡ Inside → rank_of stage depth place ≤ rank_of stage Inside old
low_rank Begin depth place old less is = subst (λ d. rank_at d place ≤ rank_at Inside old) (sym is) (omega (arith, less))
low_rank Going depth place old less is = subst (λ d. rank_at d place ≤ rank_at Inside old) (sym is) (omega (arith, less))
low_rank Sync depth place old less is = omega arith

sync_is : (stage : Stage) → at_barrier stage ≡ true → stage ≡ Sync
sync_is Sync h = refl
sync_is Begin h = absurd (true≢false (sym h))
sync_is Going h = absurd (true≢false (sym h))

pub skip_falls : (cause : Cause) (old new : Deletion) (did : Did) → Skips cause old did new → IsInside old → things_left new ≤ things_left old
skip_falls cause old new did (inr (did_is, new_is)) h = subst (λ (d : Deletion). things_left d ≤ things_left old) (sym new_is) (omega arith)
skip_falls cause old new did (inl (path, did_is, (mid, takes, new_is))) h =
    subst (λ (d : Deletion). things_left d ≤ things_left old) (sym new_is) (by (at_barrier old.stage) refl takes)
  where
    Low : Stage → Type 0
    Low stage = rank_of stage mid.depth mid.walk.place ≤ things_left old

    long_falls : (b : Bool) → same_path path old.path ≡ b → LeavesFolder path old mid → Low (if b then Sync else old.stage)
    long_falls true is l = omega arith
    long_falls false is l =
        let k = l.rest in
        let low = outermost_is old.depth old.path path old.walk.place mid.walk.place h l.path_is is l.place in
        subst (λ d. rank_of old.stage mid.depth mid.walk.place ≤ rank_of old.stage d old.walk.place) (sym low.0)
        (low_rank old.stage mid.depth mid.walk.place old.walk.place low.1 (k.depth_is ∙ low.0))

    going : at_barrier old.stage ≡ false → TakesOff path old mid → Low (after_item old.path path old.stage)
    going still (inl (path_is, passes)) =
        let k = passes.1 in
        let low = decided_falls old (record mid { stage = after_item old.path path old.stage }) true path old.stage still still path_is
        (record { place = passes.0; stage_is = refl; path_is = k.path_is; folder_is = k.folder_is; depth_is = k.depth_is }) in
        omega (arith, low)
    going still (inr (long, l)) = long_falls (same_path path old.path) refl l

    by : (b : Bool) → at_barrier old.stage ≡ b → TakesOff path old mid → Low (after_item old.path path old.stage)
    by true is t = subst (λ s. Low (after_item old.path path s)) (sym (sync_is old.stage is)) (no_barrier (same_path path old.path) mid.depth mid.walk.place (things_left old))
    by false is t = going is t

low_less : (stage : Stage) (depth : Depth) (place old : Place) → at_barrier stage ≡ false → rank_at Inside place < rank_at Inside old → depth ≡ Inside → rank_of stage depth place < rank_of stage Inside old
low_less Begin depth place old going less is = subst (λ d. rank_at d place < rank_at Inside old) (sym is) less
low_less Going depth place old going less is = subst (λ d. rank_at d place < rank_at Inside old) (sym is) less
low_less Sync depth place old going less is = absurd (true≢false going)

-- before the barrier a skip that is reported leaves fewer
pub skip_less : (path : Route) (old mid new : Deletion) → at_barrier old.stage ≡ false → TakesOff path old mid → new ≡ record mid { stage = after_item old.path path old.stage } → IsInside old → things_left new < things_left old
skip_less path old mid new going takes new_is h = subst (λ (d : Deletion). things_left d < things_left old) (sym new_is) (by takes)
  where
    Less : Stage → Type 0
    Less stage = rank_of stage mid.depth mid.walk.place < things_left old

    long_less : (b : Bool) → same_path path old.path ≡ b → LeavesFolder path old mid → Less (if b then Sync else old.stage)
    long_less true is l = let some = some_rank old.depth old.walk.place in let same = going_rank old.stage old.depth old.walk.place going in omega (arith, some, same)
    long_less false is l =
        let k = l.rest in
        let low = outermost_is old.depth old.path path old.walk.place mid.walk.place h l.path_is is l.place in
        subst (λ d. rank_of old.stage mid.depth mid.walk.place < rank_of old.stage d old.walk.place) (sym low.0)
        (low_less old.stage mid.depth mid.walk.place old.walk.place going low.1 (k.depth_is ∙ low.0))

    by : TakesOff path old mid → Less (after_item old.path path old.stage)
    by (inl (path_is, passes)) =
        let k = passes.1 in
        decided_falls old (record mid { stage = after_item old.path path old.stage }) true path old.stage going going path_is
        (record { place = passes.0; stage_is = refl; path_is = k.path_is; folder_is = k.folder_is; depth_is = k.depth_is })
    by (inr (long, l)) = long_less (same_path path old.path) refl l
