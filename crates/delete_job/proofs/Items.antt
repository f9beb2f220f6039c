-- What a deletion takes up, and how it goes into a folder.
use Rattle.std.proofs.Common.{◌≡◌, ℕ, ◌+◌, ◌<◌, ◌≤◌, zero, suc, Bool, false, length, arith, inl, inr, IfSome, IfNone, List, [], refl, sym, ◌∙◌, ap, subst, Option, Some, None, Ok, Err, true}
use Rattle.std.specs.Prelude.{◌==◌}
use Rattle.std.proofs.lemmas.Bool.{eqb-true, true≢false}
use Rattle.mc_text.specs.Routes.{Route, spelled_route}
use Rattle.tree_trait.specs.declared.file_system.FileSystem.{FileSystem}
use Rattle.tree_trait.specs.Change.{CallLog, current}
use Rattle.job_reports.specs.declared.report.Cause.{Cause}
use Rattle.job_reports.specs.declared.report.Cause.TheVariants.{Tree, TargetKind, SpecialSource, TooDeep, PartTaken, TooLong, Unnamed, Changed, Memory}
use Rattle.job_reports.specs.declared.report.Trouble.{Trouble}
use Rattle.job_reports.specs.Stops.{IsTroubleWithPath}
use Rattle.job_reports.specs.Paths.{folder_of}
use Rattle.job_reports.proofs.Reading.{told}
use Rattle.tree_trait.specs.declared.calls.Children.{Children}
use Rattle.tree_walk.specs.Places.{IsLeft, Place, entered_place, opened_folder, passed_place}
use Rattle.tree_walk.specs.Ranks.{rank, rank_around, weight}
use Rattle.delete_job.specs.declared.deletion.Depth.{Depth}
use Rattle.delete_job.specs.declared.deletion.Depth.TheVariants.{Top, Inside}
use Rattle.delete_job.specs.declared.deletion.Deletion.{Deletion}
use Rattle.delete_job.specs.declared.looking.Found.TheVariants as found
use Rattle.delete_job.specs.declared.meeting.Met.TheVariants as met
use Rattle.delete_job.specs.declared.deletion.Stage.{Stage}
use Rattle.delete_job.specs.Standing.{Decides, IsDone, DeletionItem, Thing, End, Leaves, after_item, item, item_at, item_of, rank_at, worked_folder}
use Rattle.delete_job.specs.TreeDeletionSteps.{IsThing, KeepsRest, LeavesFolder, Passes, TakesOff, path_of}
use Rattle.delete_job.specs.Descending.{GoesInto, IsAt, IsNext, IsTooDeep, IsTooLongAt, ItemStops, LookStops, MayLook, Meets, StandsSo, StopsAt, ThingStops, opened_at}

pub at_itself : (d : Deletion) → IsAt d d
at_itself d = record { place = refl; depth_is = refl; stage_is = refl; path_is = refl; folder_is = refl }

pub top_item : (d : Deletion) → d.depth ≡ Top → item d ≡ Thing d.path
top_item d depth = ap (λ x. item_at x d.path d.walk.place) depth

pub next_item : (d : Deletion) (path : Route) → d.depth ≡ Inside → IsNext path d.walk.place → item d ≡ Thing path
next_item d path depth n =
    ap (λ x. item_at x d.path d.walk.place) depth ∙ (ap (λ ns. item_of ns d.walk.place.inner.path (worked_folder d.path d.walk.place)) n.names ∙ ap (λ p. Thing p) (sym n.is))

pub end_item : (d : Deletion) → d.depth ≡ Inside → d.walk.place.inner.names ≡ [] → item d ≡ End (worked_folder d.path d.walk.place)
end_item d depth none = ap (λ x. item_at x d.path d.walk.place) depth ∙ ap (λ ns. item_of ns d.walk.place.inner.path (worked_folder d.path d.walk.place)) none

-- out of memory anything stops
memory_item : (s : FileSystem) (depth : Depth) (place : Place) (i : DeletionItem) → ItemStops s depth place i Memory None
memory_item s depth place (Thing path) = refl
memory_item s depth place (End folder) = (refl, refl)

pub memory_stops : (s : FileSystem) (d : Deletion) → StopsAt s d Memory None
memory_stops s d = memory_item s d.depth d.walk.place (item d)

pub at_thing : (s : FileSystem) (d : Deletion) (path : Route) (cause : Cause) (named : Option Route) → item d ≡ Thing path → ThingStops s d.depth d.walk.place path cause named → StopsAt s d cause named
at_thing s d path cause named is stops = subst (λ x. ItemStops s d.depth d.walk.place x cause named) (sym is) stops

pub deep_stops : (s : FileSystem) (d : Deletion) (path : Route) (t : Trouble) → d.depth ≡ Inside → item d ≡ Thing path → (d.walk.place.left == 0) ≡ true → length (spelled_route path) ≤ 4096 → IsTroubleWithPath TooDeep path t
    → StopsAt s d t.cause t.path
deep_stops s d path t depth is deepest short with_path =
    at_thing s d path t.cause t.path is (told (λ (u : Trouble). ThingStops s d.depth d.walk.place path u.cause u.path) TooDeep path t with_path
    (refl, subst (λ x. IsTooDeep x d.walk.place path) (sym depth) (eqb-true d.walk.place.left 0 deepest, short)) refl)

pub long_stops : (s : FileSystem) (d : Deletion) (path folder : Route) (t : Trouble) → d.depth ≡ Inside → item d ≡ Thing path → folder ≡ folder_of path → 4096 < length (spelled_route path) → IsTroubleWithPath TooLong folder t
    → StopsAt s d t.cause t.path
long_stops s d path folder t depth is of long with_path =
    at_thing s d path t.cause t.path is (told (λ (u : Trouble). ThingStops s d.depth d.walk.place path u.cause u.path) TooLong folder t with_path
    (ap (λ p. Some p) of, subst (λ x. IsTooLongAt x path) (sym depth) long) refl)

-- a thing in a folder may be looked at
some_left : (left : ℕ) → (left == 0) ≡ false → 1 ≤ left
some_left zero more = absurd (true≢false more)
some_left (suc left) more = omega arith

pub may_below : (d : Deletion) (path : Route) → d.depth ≡ Inside → (d.walk.place.left == 0) ≡ false → length (spelled_route path) ≤ 4096 → MayLook d.depth d.walk.place path
may_below d path depth more short = subst (λ x. MayLook x d.walk.place path) (sym depth) (some_left d.walk.place.left more, short)

pub may_top : (d : Deletion) (path : Route) → d.depth ≡ Top → MayLook d.depth d.walk.place path
may_top d path depth = subst (λ x. MayLook x d.walk.place path) (sym depth) tt

look_stopped : (s : FileSystem) (depth : Depth) (place : Place) (path : Route) (cause : Cause) (named : Option Route) → MayLook depth place path → LookStops s path cause named → ThingStops s depth place path cause named
look_stopped s depth place path (Tree e) named may h = (may, h)
look_stopped s depth place path Memory named may h = h
look_stopped s depth place path (Unnamed count) named may h = (may, h)
look_stopped s depth place path TooDeep named may h = absurd h
look_stopped s depth place path TooLong named may h = absurd h
look_stopped s depth place path (TargetKind kind) named may h = absurd h
look_stopped s depth place path SpecialSource named may h = absurd h
look_stopped s depth place path PartTaken named may h = absurd h
look_stopped s depth place path (Changed said got) named may h = absurd h

-- what a look came to at the item that is taken up
module _ (contents : Option CallLog) (old : Deletion) (path : Route) (is : item old ≡ Thing path) (may : MayLook old.depth old.walk.place path) where
  pub meets_thing : StandsSo contents path (Ok found.Thing) → Meets contents old (Ok (met.Thing path)) old
  meets_thing plain = (at_itself old, is, may, plain)

  pub meets_stopped : (t : Trouble) → StandsSo contents path (Err t) → Meets contents old (Err t) old
  meets_stopped t stops = (at_itself old, λ log known. at_thing (current log) old path t.cause t.path is (look_stopped (current log) old.depth old.walk.place path t.cause t.path may (stops log known)))

  pub meets_folder : (new : Deletion) (children : Children) → StandsSo contents path (Ok (found.Folder children)) → GoesInto old path children.names (Ok met.Entered) new
      → Meets contents old (Ok met.Entered) new
  meets_folder new children stands goes =
      ((path, record { children = children; takes = is; may = may; lists = stands.2; all = stands.0; in_order = stands.1; opened_is = goes.0 }), goes.1)

  pub meets_no_room : (new : Deletion) (children : Children) (t : Trouble) → GoesInto old path children.names (Err t) new → Meets contents old (Err t) new
  meets_no_room new children t goes =
      (goes.0, λ log known. subst (λ (u : Trouble). StopsAt (current log) old u.cause u.path) (sym goes.1) (memory_stops (current log) old))

-- the folder that is deleted is opened
pub opens : (old new : Deletion) (folder : Route) (names : List (List ℕ)) → old.depth ≡ Top → new.walk.place ≡ record old.walk.place { inner = opened_folder folder names } → new.depth ≡ Inside
    → new.stage ≡ old.stage → new.path ≡ old.path → new.folder ≡ old.folder
    → rank new.walk.place < weight (suc old.walk.place.left) + rank_around (suc old.walk.place.left) old.walk.place.around
    → GoesInto old folder names (Ok met.Entered) new
opens old new folder names depth place inside stage path up falls = (
  record {
    place = place ∙ ap (λ x. opened_at x folder names old.walk.place) (sym depth);
    depth_is = inside;
    stage_is = stage;
    path_is = path;
    folder_is = up;
  },
  subst (λ x. rank_at new.depth new.walk.place < rank_at x old.walk.place) (sym depth) (subst (λ x. rank_at x new.walk.place < rank_at Top old.walk.place) (sym inside) falls),
)

-- a folder in it is gone into
pub enters : (old new : Deletion) (folder : Route) (names : List (List ℕ)) → old.depth ≡ Inside → new.walk.place ≡ entered_place folder names old.walk.place → new.depth ≡ old.depth
    → new.stage ≡ old.stage → new.path ≡ old.path → new.folder ≡ old.folder → rank new.walk.place < rank old.walk.place
    → GoesInto old folder names (Ok met.Entered) new
enters old new folder names depth place same stage path up falls = (
  record {
    place = place ∙ ap (λ x. opened_at x folder names old.walk.place) (sym depth);
    depth_is = same ∙ depth;
    stage_is = stage;
    path_is = path;
    folder_is = up;
  },
  subst (λ x. rank_at new.depth new.walk.place < rank_at x old.walk.place) (sym depth) (subst (λ x. rank_at x new.walk.place < rank_at Inside old.walk.place) (sym (same ∙ depth)) falls),
)

-- of the thing that is deleted nothing is left to be met
pub top_passes : (d : Deletion) (left : Bool) → d.depth ≡ Top → Passes left d d
top_passes d left depth = (
  subst (λ x. IsDone x (item d) left d.walk.place d.walk.place) (sym depth) refl,
  record { depth_is = refl; stage_is = refl; path_is = refl; folder_is = refl },
)

-- the next name is done with
pub name_passes : (old new : Deletion) (left : Bool) → old.depth ≡ Inside → IsThing (item old) → new.walk.place ≡ passed_place left old.walk.place → KeepsRest old new → Passes left old new
name_passes old new left depth thing is keeps = (subst (λ x. IsDone x (item old) left old.walk.place new.walk.place) (sym depth) (inside (item old) thing), keeps)
  where
    inside : (i : DeletionItem) → IsThing i → IsDone Inside i left old.walk.place new.walk.place
    inside (Thing path) t = is
    inside (End folder) t = absurd t

-- a folder is done with
pub leaves_by : (r : Option Route) (P : Route → Type 0) (left : Bool) (old new : Place) → IfSome r (λ path. P path × IsLeft left old new) → IfNone r ((old.around ≡ []) × (new ≡ old)) → Leaves left old new
leaves_by None P left old new some none = inr none
leaves_by (Some path) P left old new some none = inl some.1

-- what was taken up is decided
pub thing_decides : (old mid : Deletion) (left : Bool) (path : Route) (stage to : Stage) → Passes left old mid → to ≡ after_item mid.path path stage → Decides old left path stage (record mid { stage = to })
thing_decides old mid left path stage to passes is = record {
  place = passes.0;
  stage_is = is ∙ ap (λ p. after_item p path stage) (let k = passes.1 in k.path_is);
  path_is = let k = passes.1 in k.path_is;
  folder_is = let k = passes.1 in k.folder_is;
  depth_is = let k = passes.1 in k.depth_is;
}

pub folder_decides : (old mid : Deletion) (left : Bool) (path : Route) (stage to : Stage) → old.depth ≡ Inside → item old ≡ End path → Leaves left old.walk.place mid.walk.place → KeepsRest old mid
    → to ≡ after_item mid.path path stage → Decides old left path stage (record mid { stage = to })
folder_decides old mid left path stage to depth next leaves keeps is =
    thing_decides old mid left path stage to (
      subst (λ x. IsDone x (item old) left old.walk.place mid.walk.place) (sym depth) (subst (λ i. IsDone Inside i left old.walk.place mid.walk.place) (sym next) leaves),
      keeps,
    ) is

-- the thing that is deleted is left
pub top_taken : (d : Deletion) (path : Route) → d.depth ≡ Top → path ≡ d.path → TakesOff path d d
top_taken d path depth is = inl (is ∙ sym (ap path_of (top_item d depth)), top_passes d true depth)

-- the folder that ends is left
pub end_taken : (old new : Deletion) (path : Route) → old.depth ≡ Inside → item old ≡ End (worked_folder old.path old.walk.place) → LeavesFolder path old new → TakesOff path old new
end_taken old new path depth is l = inl (
  l.path_is ∙ sym (ap path_of is),
  (subst (λ x. IsDone x (item old) true old.walk.place new.walk.place) (sym depth) (subst (λ i. IsDone Inside i true old.walk.place new.walk.place) (sym is) l.place), l.rest),
)

-- the folder is left in which a path would be too long
pub long_taken : (old new : Deletion) (path long : Route) → item old ≡ Thing long → 4096 < length (spelled_route long) → LeavesFolder path old new → TakesOff path old new
long_taken old new path long is bytes l = inr (record { path = long; takes = is; bytes = bytes }, l)

-- the next thing is left
pub next_taken : (old new : Deletion) (path : Route) → old.depth ≡ Inside → IsNext path old.walk.place → Passes true old new → TakesOff path old new
next_taken old new path depth next passes = inl (sym (ap path_of (next_item old path depth next)), passes)

pub next_thing : (d : Deletion) (path : Route) → d.depth ≡ Inside → IsNext path d.walk.place → IsThing (item d)
next_thing d path depth next = subst IsThing (sym (next_item d path depth next)) tt
