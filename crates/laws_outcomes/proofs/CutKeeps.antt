-- The six sentences on a power cut.
use Rattle.std.proofs.Common.{◌≡◌, ◌⊎◌, ℕ, ◌+◌, Bool, true, false, List, [], ◌∷◌, ◌++◌, length, refl, sym, ◌∙◌, ap, subst, inl, inr, Option, Some, None}
use Rattle.std.specs.Prelude.{⊤, ◌&&◌, ◌||◌, not, is_some, if◌then◌else◌}
use Rattle.std.proofs.lemmas.Bool.{and_parts, both_ways, not-true, or_left, true≢false}
use Rattle.mc_text.specs.Routes.{Route, is_prefix}
use Rattle.tree_trait.specs.declared.file_system.FileSystem.{FileSystem}
use Rattle.tree_trait.specs.Shape.{IsTree}
use Rattle.tree_trait.specs.Change.{CallLog, current}
use Rattle.tree_trait.specs.CrashImages.{Among, IsCrashImage, all_settled}
use Rattle.tree_trait.specs.FileSystem.{Spot, Value, View, value_at}
use Rattle.job_reports.specs.declared.job.Pair.{Pair}
use Rattle.job_reports.specs.declared.report.Did.{Did}
use Rattle.job_reports.specs.declared.report.Did.TheVariants.{Began, Chunk, Placed, Removed, Made, Set, Kept, Skipped, Cleaned, Barrier, Asked, Merges, Moved, Troubled, Ended}
use Rattle.job_reports.specs.Jobs.{ItemOfJob, Copies, Moves, Removes, Makes, MakesLink, Sets, RemovesEmptied}
use Rattle.session_entries.specs.declared.history.Event.{Event}
use Rattle.session_entries.specs.declared.history.Event.TheVariants.{Step}
use Rattle.session_entries.specs.declared.history.Entry.{Entry}
use Rattle.session_entries.specs.Entries.{IsMoment, calls_in}
use Rattle.session_entries.specs.LiveJobs.{LiveJob, live_jobs}
use Rattle.session_entries.specs.Moves.{is_of_move, moved_from, paths_moved}
use Rattle.session_entries.specs.Named.{IsUnnamedSince, left_parts, named_parts, names_path}
use Rattle.laws_outcomes.specs.Touched.{IsAtSince, IsPartAt, LastsSince, came_from, is_removed, is_target, taken_up, touches}
use Rattle.laws_sessions.specs.Replayed.{log_prefix, moved_by, nothing_there, replayed_step, replayed_tree}
use Rattle.laws_sessions.specs.Traces.{IsTraced, Stand}
use Rattle.laws_sessions.proofs.Holding.{holds_since}
use Rattle.laws_sessions.specs.Whole.{Spares, meets}
use Rattle.laws_sessions.proofs.Moved.{moved_below}
use Rattle.laws_sessions.proofs.MovedPaths.{moved_part}
use Rattle.laws_sessions.proofs.PathsBelow.{below_way, is_below}
use Rattle.laws_sessions.proofs.Unnamed.{replayed_since}
use Rattle.laws_sessions.proofs.WholeMoments.{whole_law}
use Rattle.laws_outcomes.specs.KeepsFiles.{IsLeft, IsPromised, KeepsFiles, stood}
use Rattle.laws_outcomes.specs.Arrivals.{new_things, only, over_things}
use Rattle.laws_outcomes.specs.PowerCut.{KeepsAll}
use Rattle.laws_outcomes.specs.OutcomeLaws.{KeepsLaw}
use Rattle.laws_sessions.proofs.ChangedPaths.{IsChanged}
use Rattle.laws_outcomes.proofs.CutEntries.{AtStep, IsFirst, IsMade, before_newest, changed_touches}
use Rattle.laws_outcomes.proofs.CutLive.{AllLive, all_live, all_map, taken_item}
use Rattle.laws_outcomes.proofs.CutMoments.{at_path, begun_first, stood_shown, two, unnamed_before}
use Rattle.laws_outcomes.proofs.CutMoves.{AllSpared, MovedIn, left_since, moves_at, moves_since, named_since}
use Rattle.laws_outcomes.proofs.CutSteps.{IsGoing, IsPlainReport, OnlyMoves, StepFact, pair_at}
use Rattle.laws_outcomes.proofs.CutValues.{IsNew, IsOver, copied_new, copied_over, folder_new, link_new, made_bare, mode_new, removed_none, source_same}

some_value : (a b : Value) → (let o : Option Value = Some a in o) ≡ Some b → a ≡ b
some_value a b is = cc

no_value : {A : Type 0} (x : Value) → (let o : Option Value = Some x in o) ≡ None → A
no_value x is = absurd (let f : ⊥ = cc in f)

-- a report that names nothing changes nothing
plain_unchanged : (did : Did) (path : Route) → IsPlainReport did → IsChanged did path → ⊥
plain_unchanged (Placed p) path plain changed = plain
plain_unchanged (Removed p) path plain changed = plain
plain_unchanged (Made p) path plain changed = plain
plain_unchanged (Set p) path plain changed = plain
plain_unchanged (Moved pair) path plain changed = plain
plain_unchanged did path plain changed = changed

-- what a move changes is changed by the report of it
moves_path : (v : View) (moved : Pair) (did : Did) (path : Route) → OnlyMoves v moved did → IsChanged did path → (did ≡ Moved moved) × IsGoing v moved
moves_path v moved (Moved pair) path only changed = (ap Moved only.0, only.1)
moves_path v moved (Placed p) path only changed = absurd only
moves_path v moved (Removed p) path only changed = absurd only
moves_path v moved (Made p) path only changed = absurd only
moves_path v moved (Set p) path only changed = absurd only
moves_path v moved did path only changed = absurd changed

-- what removes something moves nothing
removes_only : (item : ItemOfJob) (path : Route) (v : View) (part : Option Route) (pair : Pair) → is_removed item path ≡ true → StepFact item v part (Moved pair) → ⊥
removes_only (Removes top) path v part pair on fact = fact
removes_only (RemovesEmptied folder) path v part pair on fact = fact
removes_only (Copies source target) path v part pair on fact = true≢false (sym on)
removes_only (Moves source target) path v part pair on fact = true≢false (sym on)
removes_only (Makes made) path v part pair on fact = true≢false (sym on)
removes_only (MakesLink made text) path v part pair on fact = true≢false (sym on)
removes_only (Sets thing mode) path v part pair on fact = true≢false (sym on)

-- only a move moves something
only_moves : (item : ItemOfJob) (v : View) (part : Option Route) (pair : Pair) → StepFact item v part (Moved pair) → (from : Route) × (to : Route) × (item ≡ Moves from to)
only_moves (Moves from to) v part pair fact = (from, to, refl)
only_moves (Copies from to) v part pair fact = absurd fact.0
only_moves (Removes top) v part pair fact = absurd fact
only_moves (Makes made) v part pair fact = absurd fact
only_moves (MakesLink made text) v part pair fact = absurd fact
only_moves (Sets thing mode) v part pair fact = absurd fact
only_moves (RemovesEmptied folder) v part pair fact = absurd fact

-- a moved thing comes from a source, or nothing stood there
abbrev HasSource : (Route → Option Value) → Route → ItemOfJob → Type 0
HasSource was path item = (from to : Route) → item ≡ Moves from to → (y : Value) × (was (moved_from from to path) ≡ Some y)

abbrev HasNone : (Route → Option Value) → Route → ItemOfJob → Type 0
HasNone was path item = (from : Route) × (to : Route) × (item ≡ Moves from to) × (was (moved_from from to path) ≡ None)

source_or : (was : Route → Option Value) (path : Route) (item : ItemOfJob) → HasSource was path item ⊎ HasNone was path item
source_or was path (Moves from to) = by (was (moved_from from to path)) refl
  where
    by : (o : Option Value) → was (moved_from from to path) ≡ o → HasSource was path (Moves from to) ⊎ HasNone was path (Moves from to)
    by None is = inr (from, to, refl, is)
    by (Some y) is = inl (λ other there same. let f : from ≡ other = cc in let t : to ≡ there = cc in (y, ap (λ a. was (moved_from a there path)) (sym f) ∙ (ap (λ b. was (moved_from from b path)) (sym t) ∙ is)))
source_or was path (Copies from to) = inl (λ other there same. absurd (let f : ⊥ = cc in f))
source_or was path (Removes top) = inl (λ other there same. absurd (let f : ⊥ = cc in f))
source_or was path (Makes made) = inl (λ other there same. absurd (let f : ⊥ = cc in f))
source_or was path (MakesLink made text) = inl (λ other there same. absurd (let f : ⊥ = cc in f))
source_or was path (Sets thing mode) = inl (λ other there same. absurd (let f : ⊥ = cc in f))
source_or was path (RemovesEmptied folder) = inl (λ other there same. absurd (let f : ⊥ = cc in f))

module _ (opening : CallLog) (tree : IsTree (current opening)) (settled : all_settled opening.changes ≡ true) (end : CallLog) (newest begun standing coming : List Entry) (stand : Stand) (calls : ℕ) (image : FileSystem)
    (traced : IsTraced opening newest stand end) (moment : IsMoment newest standing coming calls) (left : IsCrashImage end (length opening.changes + calls) image) where
  abbrev log : CallLog
  log = log_prefix opening (calls_in begun) end

  abbrev shown : List Entry → View
  shown g = replayed_tree opening end g

  abbrev was : Route → Option Value
  was path = stood log path

  abbrev First : List Entry → Type 0
  First g = IsFirst opening tree settled end g

  abbrev Left : Route → Type 0
  Left path = IsLeft log begun standing coming path

  abbrev IsMadeSo : (path : Route) (Its : ItemOfJob → Type 0) → AllLive Its (live_jobs begun) → (Option Value → Type 0) → Type 0
  IsMadeSo path Its its Is = IsMade opening tree settled end begun path Its its Is

  -- what no live job touches
  module _ (path : Route) (its : AllLive (λ i. touches i path ≡ false) (live_jobs begun)) (l : Left path) where
    still : IsMadeSo path (λ i. touches i path ≡ false) its (λ o. ⊥)
    still = record {
      gives = λ e g id did first is since at off changed known. both_ways _ off (changed_touches (shown g) at.part at.item did path at.fact changed);
      fills = λ source target off none. none;
      carries = λ e g id pair first is since at off changed some known among. both_ways _ off (changed_touches (shown g) at.part at.item (Moved pair) path at.fact changed);
    }

    pub unchanged : value_at image path ≡ was path
    unchanged = elim (at_path opening tree settled end newest begun standing coming stand calls image traced moment left path l (λ i. touches i path ≡ false) its (λ o. ⊥) still) [
      | inl holds ↦ holds
      | inr none ↦ absurd none
    ]

  begun_is : (IsStill : Event → Type 0) → LastsSince begun IsStill coming → First begun
  begun_is IsStill since = let t = two opening tree settled end newest begun standing coming stand calls image traced moment left in begun_first opening tree settled end begun IsStill coming t.comes since

  -- a source that is taken up
  module _ (item : ItemOfJob) (taken : taken_up begun ≡ Some item) (first_begun : First begun) where
    abbrev Its : ItemOfJob → Type 0
    Its i = i ≡ item

    pub its : AllLive Its (live_jobs begun)
    its = taken_item opening tree settled begun first_begun.stand first_begun.now first_begun.traced item taken

    pub was_here : (p : Route) → was p ≡ (shown begun p).value
    was_here p = stood_shown opening tree settled end begun first_begun item taken p

    -- a move leaves parts where they were until it is told
    unmoved : (from to : Route) → item ≡ Moves from to → (g : List Entry) → First g → IsAtSince begun g → IsGoing (shown g) (pair_at from to) → (p : Route) → IsUnnamedSince begun p g
    unmoved from to item_is g first since goes p = elim (moves_at opening tree settled end begun from to (subst (λ i. AllLive (λ x. x ≡ i) (live_jobs begun)) item_is its) g first since) [
      | inl all ↦ all p
      | inr m ↦ absurd (true≢false (sym goes.some ∙ ap is_some m.1))
    ]

    -- and all is as it was before
    moved_now : (from to : Route) → item ≡ Moves from to → (g : List Entry) → First g → IsAtSince begun g → IsGoing (shown g) (pair_at from to) → (p : Route) → (shown g p).value ≡ was p
    moved_now from to item_is g first since goes p = ap (λ (s : Spot). s.value) (replayed_since opening end begun g p (unmoved from to item_is g first since goes p)) ∙ sym (was_here p)

    module _ (path : Route) (l : Left path) where
      abbrev Steps : (Option Value → Type 0) → Type 0
      Steps Is = IsMadeSo path Its its Is

      abbrev At : (Option Value → Type 0) → Type 0
      At Is = (value_at image path ≡ was path) ⊎ Is (value_at image path)

      here : (Is : Option Value → Type 0) → Steps Is → At Is
      here Is made = at_path opening tree settled end newest begun standing coming stand calls image traced moment left path l Its its Is made

      -- a step is at it
      abbrev Then : Entry → List Entry → Did → ItemOfJob → Option Value
      Then e g did i = (replayed_step (log_prefix opening e.calls end) did (Some i) (shown g) path).value

      abbrev Holds : (Option Value → Type 0) → List Entry → Type 0
      Holds Is g = ((shown g path).value ≡ (shown begun path).value) ⊎ Is (shown g path).value

      -- what is removed is gone then
      gone : is_removed item path ≡ true → Steps (λ o. o ≡ None)
      gone removed = record {
        gives = λ e g id did first is since at same changed known.
            ap (λ (v : View). (v path).value) at.shows
            ∙ removed_none (log_prefix opening e.calls end) (shown g) at.part was at.item did path (subst (λ i. is_removed i path ≡ true) (sym same) removed) at.fact changed;
        fills = λ source target same none. true≢false (sym (subst (λ i. is_removed i path ≡ true) (sym same) removed));
        carries = λ e g id pair first is since at same changed some known among. removes_only at.item path (shown g) at.part pair (subst (λ i. is_removed i path ≡ true) (sym same) removed) at.fact;
      }

      pub deleted_here : is_removed item path ≡ true → (value_at image path ≡ was path) ⊎ (value_at image path ≡ None)
      deleted_here removed = here (λ o. o ≡ None) (gone removed)

      -- what is moved comes to where it goes
      moved_value : (from to : Route) (v : View) → is_prefix to path ≡ true → (moved_by (pair_at from to) v path).value ≡ (v (moved_from from to path)).value
      moved_value from to v on = ap (λ b. (let s : Spot = if b then v (moved_from from to path) else (if is_prefix from path then nothing_there else v path) in s.value)) on

      -- the move itself
      moved_here : (from to : Route) → item ≡ Moves from to → is_prefix to path ≡ true → HasSource was path item → (e : Entry) (g : List Entry) (id : ℕ) (did : Did) → First (e ∷ g) → IsAtSince begun g
          → StepFact (Moves from to) (shown g) (let o : Option Route = None in o) did → IsChanged did path → (y : Value) × (Then e g did (Moves from to) ≡ Some y) × Among (only (was (moved_from from to path))) y
      moved_here from to item_is on source e g id did first since fact changed =
          let m = moves_path (shown g) (pair_at from to) did path fact changed in
          let y = source from to item_is in (
            y.0,
            ap (λ d. (replayed_step (log_prefix opening e.calls end) d (Some (Moves from to)) (shown g) path).value) m.0
                ∙ (moved_value from to (shown g) on
                ∙ (moved_now from to item_is g (before_newest opening tree settled end e g first) since m.1 (moved_from from to path) ∙ y.1)),
            subst (λ o. Among (only o) y.0) (sym y.1) (inl refl),
          )

      one_live : (g : List Entry) (l : LiveJob) → live_jobs g ≡ l ∷ [] → live_jobs g ≡ [] → ⊥
      one_live g l one none = (let e : l ∷ [] ≡ [] = sym one ∙ none in let f : ⊥ = cc in f)

      -- what is copied shows what stood there
      copied_same : (from to : Route) → item ≡ Copies from to → is_prefix to (moved_from from to path) ≡ false → (e : Entry) (g : List Entry) (id : ℕ) (did : Did) → First (e ∷ g) → IsAtSince begun g → AtStep opening tree settled end e g id did
          → (shown g (moved_from from to path)).value ≡ was (moved_from from to path)
      copied_same from to item_is off e g id did first since at =
          ap (λ (s : Spot). s.value) (source_same opening tree settled end begun (Copies from to) (subst (λ i. AllLive (λ x. x ≡ i) (live_jobs begun)) item_is its) (moved_from from to path) off g (before_newest opening tree settled end e g first) since (one_live g _ at.live))
          ∙ sym (was_here (moved_from from to path))

      off_itself : (from to : Route) → is_target (Copies from to) path ≡ true → is_prefix to (moved_from from to path) ≡ false
      off_itself from to on = not-true (is_prefix to (moved_from from to path)) (and_parts (is_prefix to path) (not (is_prefix to (moved_from from to path))) on).1

      -- what the source makes of a path that is its target, and of one at which something stood
      abbrev Makes_so : ((i : ItemOfJob) → Option Value → Type 0) → Type 0
      Makes_so Is = (i : ItemOfJob) → item ≡ i → is_target i path ≡ true → HasSource was path i → (e : Entry) (g : List Entry) (id : ℕ) (did : Did) → First (e ∷ g) → IsAtSince begun g → (at : AtStep opening tree settled end e g id did)
          → StepFact i (shown g) at.part did → IsChanged did path → ((shown g path).value ≡ was path) ⊎ Is i (shown g path).value → Is i (Then e g did i)

      source_of : (from to : Route) → item ≡ Moves from to → HasSource was path (Moves from to) → HasSource was path item
      source_of from to item_is source = subst (HasSource was path) (sym item_is) source

      news : Makes_so (λ i. IsNew i was path)
      news (Copies from to) item_is on source e g id did first since at fact changed known =
          let off = off_itself from to on in
          copied_new (log_prefix opening e.calls end) from to (shown g) at.part was did path fact.0 changed off (copied_same from to item_is off e g id did first since at)
      news (Moves from to) item_is on source e g id did first since at fact changed known = moved_here from to item_is on (source_of from to item_is source) e g id did first since fact changed
      news (Makes made) item_is on source e g id did first since at fact changed known = folder_new (log_prefix opening e.calls end) (shown g) at.part was made did path fact changed
      news (MakesLink made text) item_is on source e g id did first since at fact changed known = link_new (log_prefix opening e.calls end) (shown g) at.part was made text did path fact changed
      news (Sets thing mode) item_is on source e g id did first since at fact changed known = mode_new (log_prefix opening e.calls end) (shown g) at.part was thing mode did path fact changed known
      news (Removes top) item_is on source e g id did first since at fact changed known = absurd (true≢false (sym on))
      news (RemovesEmptied folder) item_is on source e g id did first since at fact changed known = absurd (true≢false (sym on))

      -- something stands there before each step, too
      some_then : (old : Value) → was path ≡ Some old → (i : ItemOfJob) (o : Option Value) → (o ≡ was path) ⊎ IsOver i was path o → o ≡ None → ⊥
      some_then old old_is i o (inl same) none = no_value old (sym old_is ∙ (sym same ∙ none))
      some_then old old_is i o (inr (x, is, among)) none = no_value x (sym is ∙ none)

      overs : (old : Value) → was path ≡ Some old → Makes_so (λ i. IsOver i was path)
      overs old old_is (Copies from to) item_is on source e g id did first since at fact changed known =
          let off = off_itself from to on in
          copied_over (log_prefix opening e.calls end) from to (shown g) at.part was did path fact.0 changed off (copied_same from to item_is off e g id did first since at) (some_then old old_is (Copies from to) (shown g path).value known)
      overs old old_is (Moves from to) item_is on source e g id did first since at fact changed known = moved_here from to item_is on (source_of from to item_is source) e g id did first since fact changed
      overs old old_is (Makes made) item_is on source e g id did first since at fact changed known =
          absurd (some_then old old_is (Makes made) (shown g path).value known (made_bare (log_prefix opening e.calls end) (shown g) at.part was made did path fact changed))
      overs old old_is (MakesLink made text) item_is on source e g id did first since at fact changed known =
          absurd (some_then old old_is (MakesLink made text) (shown g path).value known (made_bare (log_prefix opening e.calls end) (shown g) at.part was made did path fact changed))
      overs old old_is (Sets thing mode) item_is on source e g id did first since at fact changed known = mode_new (log_prefix opening e.calls end) (shown g) at.part was thing mode did path fact changed known
      overs old old_is (Removes top) item_is on source e g id did first since at fact changed known = absurd (true≢false (sym on))
      overs old old_is (RemovesEmptied folder) item_is on source e g id did first since at fact changed known = absurd (true≢false (sym on))

      -- where something stood the move takes no part there
      abbrev Carries_none : (Option Value → Type 0) → Type 0
      Carries_none Is = (e : Entry) (g : List Entry) (id : ℕ) (pair : Pair) → First (e ∷ g) → e.what ≡ Step id (Moved pair) → IsAtSince begun g → (at : AtStep opening tree settled end e g id (Moved pair)) → at.item ≡ item → is_of_move pair path ≡ true
          → ((shown begun path).value ≡ None → ⊥) → Holds Is g → Among (paths_moved pair (left_parts g)) path → ⊥

      no_part_comes : (IsPartAt begun (came_from item path) → ⊥) → (Is : Option Value → Type 0) → Carries_none Is
      no_part_comes none Is e g id pair first is since at same changed some known among =
          let m = only_moves at.item (shown g) at.part pair at.fact in
          let item_is : item ≡ Moves m.0 m.1 = sym same ∙ m.2 in
          let fact : StepFact (Moves m.0 m.1) (shown g) at.part (Moved pair) = subst (λ i. StepFact i (shown g) at.part (Moved pair)) m.2 at.fact in
          let p = moved_part (pair_at m.0 m.1) (left_parts g) path (subst (λ (x : Pair). Among (paths_moved x (left_parts g)) path) fact.0 among) in
          let w = below_way m.0 p.0 p.1.1.0 in
          let comes : came_from item path ≡ p.0 = ap (λ i. came_from i path) item_is ∙ (ap (moved_from m.0 m.1) (p.1.1.1 ∙ (ap (moved_from m.1 m.0) w.1 ∙ moved_below m.1 m.0 w.0)) ∙ (moved_below m.0 m.1 w.0 ∙ sym w.1)) in
          none (inr (left_since begun g (came_from item path) (unmoved m.0 m.1 item_is g (before_newest opening tree settled end e g first) since fact.1 (came_from item path)) (subst (λ q. Among (left_parts g) q) (sym comes) p.1.0)))

      none_stood : was path ≡ None → (Is : Option Value → Type 0) → Carries_none Is
      none_stood free Is e g id pair first is since at same changed some known among = some (sym (was_here path) ∙ free)

      -- what shows at the path at first is what stood there
      known_was : (Is : Option Value → Type 0) (g : List Entry) → Holds Is g → ((shown g path).value ≡ was path) ⊎ Is (shown g path).value
      known_was Is g (inl first) = inl (first ∙ sym (was_here path))
      known_was Is g (inr new) = inr new

      steps : (Is : (i : ItemOfJob) → Option Value → Type 0) → Makes_so Is → is_target item path ≡ true → HasSource was path item → (Is item None → ⊥) → Carries_none (Is item) → Steps (Is item)
      steps Is so on source some carries = record {
        gives = λ e g id did first is since at same changed known.
            subst (Is item) (sym (ap (λ (v : View). (v path).value) at.shows ∙ ap (Then e g did) same))
            (so item refl on source e g id did first since at (subst (λ i. StepFact i (shown g) at.part did) same at.fact) changed (known_was (Is item) g known));
        fills = λ from to same none. some none;
        carries = carries;
      }

      new_here : is_target item path ≡ true → was path ≡ None → HasSource was path item → At (IsNew item was path)
      new_here on free source = here (IsNew item was path) (steps (λ i. IsNew i was path) news on source (λ n. no_value n.0 (sym n.1)) (none_stood free (IsNew item was path)))

      over_here : (old : Value) → is_target item path ≡ true → was path ≡ Some old → (IsPartAt begun (came_from item path) → ⊥) → HasSource was path item → At (IsOver item was path)
      over_here old on old_is none source = here (IsOver item was path) (steps (λ i. IsOver i was path) (overs old old_is) on source (λ n. no_value n.0 (sym n.1)) (no_part_comes none (IsOver item was path)))

      -- Where nothing stood that is to come there: nothing comes, and nothing that stood there goes.
      module _ (from to : Route) (item_is : item ≡ Moves from to) (on : is_prefix to path ≡ true) (none : was (moved_from from to path) ≡ None) where
        told : (e : Entry) (g : List Entry) (id : ℕ) (did : Did) (at : AtStep opening tree settled end e g id did) → at.item ≡ item → IsChanged did path → (at.item ≡ Moves from to) × ((did ≡ Moved (pair_at from to)) × IsGoing (shown g) (pair_at from to))
        told e g id did at same changed = (same ∙ item_is, moves_path (shown g) (pair_at from to) did path (subst (λ i. StepFact i (shown g) at.part did) (same ∙ item_is) at.fact) changed)

        not_copied : (source target : Route) → (let i : ItemOfJob = Copies source target in i) ≡ item → ⊥
        not_copied source target same = (let e : (let i : ItemOfJob = Copies source target in i) ≡ Moves from to = same ∙ item_is in let f : ⊥ = cc in f)

        nothing_comes : was path ≡ None → Steps (λ o. o ≡ None)
        nothing_comes free = record {
          gives = λ e g id did first is since at same changed known.
              let t = told e g id did at same changed in
              ap (λ (v : View). (v path).value) at.shows
              ∙ (ap (Then e g did) t.0
              ∙ (ap (λ d. (replayed_step (log_prefix opening e.calls end) d (Some (Moves from to)) (shown g) path).value) t.1.0
              ∙ (moved_value from to (shown g) on
              ∙ (moved_now from to item_is g (before_newest opening tree settled end e g first) since t.1.1 (moved_from from to path) ∙ none))));
          fills = λ source target same gone_now. not_copied source target same;
          carries = none_stood free (λ o. o ≡ None);
        }

        pub none_here : was path ≡ None → At (λ o. o ≡ None)
        none_here free = here (λ o. o ≡ None) (nothing_comes free)

        -- nothing stands below the target then, and at it comes what is moved
        module _ (old : Value) (old_is : was path ≡ Some old) where
          never : (e : Entry) (g : List Entry) (id : ℕ) (did : Did) → First (e ∷ g) → IsAtSince begun g → (at : AtStep opening tree settled end e g id did) → at.item ≡ item → IsChanged did path → Holds (λ o. ⊥) g → ⊥
          never e g id did first since at same changed (inr absent) = absent
          never e g id did first since at same changed (inl first_is) =
              let t = told e g id did at same changed in
              let w = below_way to path on in
              by w.0 w.1 t.1.1
            where
              stands : (shown g path).value ≡ Some old
              stands = first_is ∙ (sym (was_here path) ∙ old_is)

              by : (rest : Route) → path ≡ rest ++ to → IsGoing (shown g) (pair_at from to) → ⊥
              by [] is goes =
                  let from_none : (shown g from).value ≡ None = moved_now from to item_is g (before_newest opening tree settled end e g first) since goes from ∙ (ap was (sym (ap (moved_from from to) is ∙ moved_below from to [])) ∙ none) in
                  true≢false (sym goes.some ∙ ap is_some from_none)
              by (name ∷ rest) is goes = no_value old (sym stands ∙ (ap (λ p. (shown g p).value) is ∙ goes.under name rest))

          pub old_here : value_at image path ≡ was path
          old_here = elim (here (λ o. ⊥) (record {
            gives = λ e g id did first is since at same changed known. never e g id did first since at same changed known;
            fills = λ source target same absent. absent;
            carries = λ e g id pair first is since at same changed some known among. never e g id (Moved pair) first since at same changed known;
          })) [
            | inl holds ↦ holds
            | inr absent ↦ absurd absent
          ]

      target_of : (from to : Route) → item ≡ Moves from to → is_target item path ≡ true → is_prefix to path ≡ true
      target_of from to item_is on = subst (λ i. is_target i path ≡ true) item_is on

      pub overwritten_here : (old : Value) → is_target item path ≡ true → was path ≡ Some old → (IsPartAt begun (came_from item path) → ⊥) → (x : Value) × (value_at image path ≡ Some x) × ((x ≡ old) ⊎ Among (over_things item was path) x)
      overwritten_here old on old_is none = elim (source_or was path item) [
        | inl source ↦ elim (over_here old on old_is none source) [
          | inl holds ↦ (old, holds ∙ old_is, inl refl)
          | inr new ↦ (new.0, new.1, inr new.2)
        ]
        | inr (from, to, item_is, absent) ↦ (old, old_here from to item_is (target_of from to item_is on) absent old old_is ∙ old_is, inl refl)
      ]

      pub new_there : (x : Value) → is_target item path ≡ true → was path ≡ None → value_at image path ≡ Some x → Among (new_things item was path) x
      new_there x on free x_is = elim (source_or was path item) [
        | inl source ↦ elim (new_here on free source) [
          | inl holds ↦ no_value x (sym x_is ∙ (holds ∙ free))
          | inr new ↦ subst (Among (new_things item was path)) (some_value new.0 x (sym new.1 ∙ x_is)) new.2
        ]
        | inr (from, to, item_is, absent) ↦ elim (none_here from to item_is (target_of from to item_is on) absent free) [
          | inl holds ↦ no_value x (sym x_is ∙ (holds ∙ free))
          | inr gone_now ↦ no_value x (sym x_is ∙ gone_now)
        ]
      ]

  -- a thing that is moved
  module _ (from to : Route) (taken : taken_up begun ≡ Some (Moves from to)) (since : LastsSince begun (Spares from to) standing) (later : LastsSince begun (Spares from to) coming) where
    abbrev IsAt : Route → Type 0
    IsAt there = (rest : Route) → IsPromised log begun (rest ++ from) → value_at image (rest ++ there) ≡ was (rest ++ from)

    moving : AllLive (λ i. i ≡ Moves from to) (live_jobs begun)
    moving = its (Moves from to) taken (begun_is (Spares from to) later)

    was_then : (p : Route) → was p ≡ (shown begun p).value
    was_then p = was_here (Moves from to) taken (begun_is (Spares from to) later) p

    on_source : (rest : Route) → (meets from (rest ++ from) || meets to (rest ++ from)) ≡ true
    on_source rest = or_left _ _ (or_left _ _ (is_below from rest))

    at_source : AllSpared opening tree settled end begun from to moving coming → IsAt from
    at_source all rest firm =
        let t = two opening tree settled end newest begun standing coming stand calls image traced moment left in
        holds_since opening end newest begun standing coming stand calls (rest ++ from) image tree settled traced moment
        (unnamed_before begun (Spares from to) standing coming (rest ++ from) since t.next (all (rest ++ from) (on_source rest))) (all (rest ++ from) (on_source rest)) firm.on_disk
        (inl (λ among. firm.no_part (inl among))) left
        ∙ sym (was_then (rest ++ from))

    whole : MovedIn opening tree settled end begun from to moving coming → (there : Route) × ((there ≡ from) ⊎ (there ≡ to)) × IsAt there
    whole m =
        let w = whole_law opening end newest stand tree settled traced m.older standing coming m.e m.id (pair_at from to) calls image m.what_is moment m.spared left in
        elim w.stands [
          | inl stands ↦ (from, inl refl, λ rest firm. stands rest (no_part rest firm) ∙ as_first rest)
          | inr stands ↦ (to, inr refl, λ rest firm. stands rest (no_part rest firm) ∙ as_first rest)
        ]
      where
        no_part : (rest : Route) → IsPromised log begun (rest ++ from) → Among (named_parts m.older) (rest ++ from) → ⊥
        no_part rest firm among = firm.no_part (inl (named_since begun m.older (rest ++ from) (m.unnamed (rest ++ from)) among))

        as_first : (rest : Route) → (shown m.older (rest ++ from)).value ≡ was (rest ++ from)
        as_first rest = ap (λ (s : Spot). s.value) (replayed_since opening end begun m.older (rest ++ from) (m.unnamed (rest ++ from))) ∙ sym (was_then (rest ++ from))

    pub moved_whole : (there : Route) × ((there ≡ from) ⊎ (there ≡ to)) × IsAt there
    moved_whole =
        let t = two opening tree settled end newest begun standing coming stand calls image traced moment left in
        elim (moves_since opening tree settled end begun from to moving coming t.comes later) [
          | inl all ↦ (from, inl refl, at_source all)
          | inr m ↦ whole m
        ]

  abbrev IsUnnamed : Route → Event → Type 0
  IsUnnamed path what = names_path what path ≡ false

  first_of : (path : Route) → Left path → First begun
  first_of path l = begun_is (IsUnnamed path) l.later

  -- a copy touches nothing off its target
  off_target : (from to path : Route) → taken_up begun ≡ Some (Copies from to) → is_prefix to path ≡ false → (l : Left path) → AllLive (λ i. touches i path ≡ false) (live_jobs begun)
  off_target from to path taken off l =
      all_map (λ i. i ≡ Copies from to) (λ i. touches i path ≡ false) (live_jobs begun) (λ i same. ap (λ x. touches x path) same ∙ off) (its (Copies from to) taken (first_of path l))

  pub keeps : KeepsFiles log begun standing coming image
  keeps = record {
    source = λ from to path taken on off l. unchanged path (off_target from to path taken off l) l;
    overwritten = λ item path old taken on old_is none l. overwritten_here item taken (first_of path l) path l old on old_is none;
    new = λ item path x taken on free l x_is. new_there item taken (first_of path l) path l x on free x_is;
    moved = λ from to taken since later. moved_whole from to taken since later;
    deleted = λ item path taken removed l. deleted_here item taken (first_of path l) path l removed;
    rest = λ path off l. unchanged path (all_live (λ i. touches i path ≡ false) (live_jobs begun) off) l;
  }

pub keeps_law : KeepsLaw
keeps_law opening now newest stand tree settled traced begun standing coming calls image moment left = keeps opening tree settled now newest begun standing coming stand calls image traced moment left
