-- Where a copy of folders gives a folder its mode: nothing of that waits, so after a crash it has this mode or the one before.
use Rattle.std.proofs.Common.{◌≡◌, ℕ, Bool, true, false, not, ◌&&◌, ◌||◌, List, [], ◌∷◌, ◌++◌, length, refl, sym, ◌∙◌, ap, subst, inl, inr, Option, Some, None, arith}
use Rattle.std.specs.Prelude.{unwrap_or}
use Rattle.std.specs.Option.{option_map}
use Rattle.std.proofs.lemmas.Bool.{both_ways, false≢true, or_cases, or_left, or_right, or_parts}
use Rattle.mc_text.specs.Routes.{Route, same_path}
use Rattle.tree_trait.specs.Calls.{SetMode}
use Rattle.tree_trait.specs.Change.{Change, Sets, CallLog, current, with_change}
use Rattle.tree_trait.specs.CrashImages.{Among}
use Rattle.tree_trait.specs.FileSystem.{Spot, Value, find, node, value}
use Rattle.tree_trait.proofs.Visible.{same_path-self, same_path-true}
use Rattle.laws_crash.specs.Guarded.{Marks, with_mode}
use Rattle.laws_crash.proofs.Guarding.{same_quiet, found_there}
use Rattle.job_reports.specs.CallRuns.{AllDone}
use Rattle.job_reports.specs.Paths.{folder_of}
use Rattle.job_reports.specs.declared.job.Pair.{Pair}
use Rattle.job_reports.specs.declared.report.Did.{Did}
use Rattle.job_reports.specs.declared.report.Did.TheVariants.{Set}
use Rattle.job_reports.proofs.CallAnswers.{done_call}
use Rattle.copy_folders.specs.FolderCopying.{FolderCopying, closing}
use Rattle.copy_folders.specs.declared.stage.NamesState.{NamesState}
use Rattle.copy_folders.specs.declared.stage.Stage.{Stage}
use Rattle.copy_folders.specs.declared.stage.Stage.TheVariants as at
use Rattle.copy_folders.specs.declared.level.Level.{Level}
use Rattle.copy_folders.specs.Levels.{is_around_dirty}
use Rattle.job_unsynced.specs.Folders.{joined_folders}
use Rattle.copy_tree.specs.InPlace.{AreMoved, IsInPlace, IsMoved, owed_of}
use Rattle.copy_tree.specs.Parts.{ahead}
use Rattle.copy_tree.specs.Standing.{Seen, is_fresh}
use Rattle.copy_tree.specs.TreeCopySteps.{at_end}
use Rattle.copy_tree.specs.declared.item.ItemAtWork.TheVariants.{Next}
use Rattle.copy_tree.proofs.InPlaces.{closed_in_place, leaves_all}
use Rattle.copy_job.specs.Standing.{SubtreeCopying}
use Rattle.copy_move.specs.declared.run.Course.TheVariants.{GoesOn}
use Rattle.copy_move.specs.declared.work.Work.TheVariants.{Copy}
use Rattle.session_entries.specs.Moves.{moved_from}
use Rattle.laws_sessions.specs.Replayed.{with_mode_of}
use Rattle.tree_trait.specs.Refusals.{is_folder}
use Rattle.laws_sessions.proofs.Calm.{IsCalm, filled_part, was_set}
use Rattle.laws_sessions.proofs.CalmLaws.{quiet_modes_law}
use Rattle.laws_sessions.proofs.Deleted.{put_at, put_off}
use Rattle.laws_sessions.proofs.DeletionSteps.{joined_holds, joined_more}
use Rattle.laws_sessions.proofs.FilledFolders.{IsFilling}
use Rattle.laws_sessions.proofs.FoldersLie.{AreNested}
use Rattle.laws_sessions.proofs.GivenModes.{closed_owe, inner_owes, leaves_owe}
use Rattle.laws_sessions.proofs.Knowing.{IsKept, IsKnown, HistoryFacts, settled_marks}
use Rattle.laws_sessions.proofs.OpenFolders.{AroundKnow, LevelsKnow}
use Rattle.laws_sessions.proofs.OwedModes.{AllOwe, OwedModes, OwesSource}
use Rattle.laws_sessions.proofs.Quiet.{starts_same, kind_same}
use Rattle.laws_sessions.proofs.QuietRuns.{row_done}
use Rattle.laws_sessions.proofs.Resting.{IsFolderAt, IsSureFolder, stands_at}
use Rattle.laws_sessions.proofs.SetFolders.{value_set}
use Rattle.laws_sessions.proofs.SettingModes.{IsMarked, SetsMode, folder_once, marked, set_known, still_none}
use Rattle.laws_sessions.proofs.Stepped.{comes_one, said_after}
use Rattle.laws_sessions.proofs.TreeBefore.{Before, Result, Then, had_begun}
use Rattle.laws_sessions.proofs.TreeGoing.{LogHas, leaves_has}
use Rattle.laws_sessions.proofs.TreeKnown.{IsCalmBut, ItemHas, TargetKnows, TreeHas, but_settled}
use Rattle.laws_sessions.proofs.TreeKnows.{filled_inner}
use Rattle.laws_sessions.proofs.TreeLeads.{log_has}
use Rattle.laws_sessions.proofs.TreeOwed.{lower_owes}
use Rattle.laws_sessions.proofs.TreeListed.{no_part}
use Rattle.laws_sessions.proofs.TreePlaces.{nested_of}

both_so : (a b : Bool) → (a && not b) ≡ true → (a ≡ true) × (b ≡ false)
both_so true true h = absurd (false≢true h)
both_so true false h = (refl, refl)
both_so false b h = absurd (false≢true h)

-- a folder that is still to be given its mode wasn't given it
unset_yet : (stage : Stage) (names : NamesState) (mode : ℕ) → closing stage ≡ at.Close (Some mode) → was_set stage names ≡ false
unset_yet (at.Fill owed) names mode is = refl
unset_yet (at.Close (Some owed)) names mode is = refl
unset_yet (at.Close None) names mode is = absurd (let f : ⊥ = cc in f)
unset_yet (at.Make made) names mode is = refl
unset_yet at.Done names mode is = refl

-- An open folder that was made: it lies below the target, and the folder that holds it is on the disk.
pub record IsDeep (log : CallLog) (top : Pair) (inner : Level) : Type 0 where
  pub moved : IsMoved top inner.copy.source inner.copy.target
  pub around : IsSureFolder log (folder_of inner.copy.target)

module _ (told : HistoryFacts) (dirty dirty_after : List Route) (marks : Marks) (log now : CallLog) (kept : IsKept told dirty marks log) (c : SubtreeCopying) (mid : Seen) (b : Before told dirty marks log c mid) (none : mid.item ≡ Next)
    (clean : is_around_dirty mid.levels.around ≡ false) (free : Route → Bool) (new : Seen) (path : Route) (some : is_fresh c.at.stage ≡ false) where
  abbrev Comes_to : Did → Seen → Type 0
  Comes_to did new = Result told dirty dirty_after log now c did new

  abbrev top : Pair
  top = c.top

  abbrev up : Route
  up = mid.levels.inner.copy.target

  abbrev worked : FolderCopying
  worked = let x : Seen = at_end mid in x.levels.inner.copy

  part_none : told.part ≡ None
  part_none = no_part told dirty dirty_after marks log now kept c mid b none clean free

  no_part_at : (p : Route) → told.part ≡ Some p → ⊥
  no_part_at p is = let e : (let o : Option Route = None in o) ≡ Some p = sym part_none ∙ is in let f : ⊥ = cc in f

  has_known : TreeHas told marks log c
  has_known = b.begun some

  has : LogHas top c.at.job log mid
  has = leaves_has top c.at.job log b.n c.at mid b.leaves (log_has told dirty marks log c b.stands has_known)

  in_place : IsInPlace top mid
  in_place = let s = b.stands in leaves_all top b.n c.at mid b.leaves s.in_place

  owed : OwedModes told.tree mid
  owed = leaves_owe told.tree b.n c.at mid b.leaves has_known.modes

  module _ (mode : ℕ) (stage : worked.stage ≡ at.Close (Some mode)) (list : dirty_after ≡ joined_folders up dirty) (item : new.item ≡ Next) (over : owed_of new.levels.inner.copy.stage ≡ None) (same_around : new.levels.around ≡ mid.levels.around) (rows : AllDone log (SetMode up mode ∷ []) (Some now)) where
    levels : LevelsKnow log mid.name mid.levels
    levels = let copy = has.copy in copy.0.0

    filling : IsFilling log up (ahead mid)
    filling = filled_inner (is_around_dirty mid.levels.around) log up (ahead mid) clean levels.inner

    deep : IsDeep log top (let x : Seen = at_end mid in x.levels.inner)
    deep = (let copy = has.copy in let ended = closed_in_place top mid in_place in by mid.levels.around ended.levels (nested_of mid.name mid.levels.inner mid.levels.around copy.0.1) levels.around)
      where
        by : (around : List Level) → AreMoved top (let x : Seen = at_end mid in x.levels.inner) around → AreNested up around → AroundKnow log mid.name around → IsDeep log top (let x : Seen = at_end mid in x.levels.inner)
        by [] holds nested known = absurd (let e : Some mode ≡ None = sym (ap owed_of stage) ∙ holds.keeps in let f : ⊥ = cc in f)
        by (outer ∷ around) lies nested known = record { moved = lies.0; around = (let outside = known.0 in subst (λ q. IsSureFolder log q) (sym (ap folder_of nested.0.1)) outside.firm) }

    abbrev moved : IsMoved top mid.levels.inner.copy.source up
    moved = deep.moved

    stands : IsFolderAt (current log) up
    stands = (let firm = filling.firm in stands_at (current log) up firm.stands)

    abbrev i : ℕ
    i = stands.i

    no_item : (p : Route) → filled_part mid.item ≡ Some p → ⊥
    no_item p is = let e : (let o : Option Route = None in o) ≡ Some p = sym (ap filled_part none) ∙ is in let f : ⊥ = cc in f

    no_mode : marks.modes i ≡ None
    no_mode =
        let law = quiet_modes_law in
        law.elsewhere told dirty marks log mid up i kept has.ends (no_item up) (unset_yet mid.levels.inner.copy.stage mid.levels.inner.copy.names mode stage)
        (subst (λ q. IsCalm log mid q) (sym moved.to) calm_up) stands.at
      where
        -- a folder stands there
        calm_up : IsCalm log mid (moved.rest ++ top.target)
        calm_up = elim (has.calm moved.rest) [
          | inl calm ↦ calm
          | inr b ↦
              let stood = b.1 in
              let here : find (current log) up ≡ Some stood.i = ap (find (current log)) (moved.to ∙ ap (λ q. q ++ top.target) b.0) ∙ stood.leads in
              let same : stood.i ≡ i = (let e : Some stood.i ≡ Some i = sym here ∙ stands.at in cc) in
              absurd (both_ways _ stood.bare (subst (λ j. is_folder (node (current log) j) ≡ true) (sym same) stands.folder))
        ]

    abbrev after : HistoryFacts
    after = said_after now (Set up) (Copy c) told

    abbrev given : Option Value
    given = option_map (with_mode_of (told.tree (moved_from top.source top.target up)).value) (told.tree up).value

    given_is : given ≡ Some (value (with_mode mode (node (current log) i)))
    given_is = value_set log now kept.known.guarded.tree told.tree (λ p. ap (λ (s : Spot). s.value) (kept.known.shows p (no_part_at p))) top mid.levels.inner.copy.source up mode i moved stands.at
        (inner_owes told.tree (let x : Seen = at_end mid in x.levels.inner) mid.levels.around (closed_owe told.tree mid owed) mode (ap owed_of stage))

    sets : SetsMode told after dirty dirty_after marks log up i mode
    sets = record {
      at = stands.at;
      sure = (let firm = filling.firm in firm.sure);
      no_mode = no_mode;
      once = (let firm = filling.firm in folder_once told dirty marks log kept up i stands.at stands.folder firm.sure);
      no_part = part_none;
      none = part_none;
      listed = subst (λ xs. Among xs up) (sym list) (joined_holds up dirty);
      more = λ q among. subst (λ xs. Among xs q) (sym list) (joined_more up q dirty among);
      lefts = λ p among. among;
      named = kept.known.aside;
      off = λ p off. (put_off told.tree up given p off, put_off told.earlier up (told.tree up).value p off);
      shown = put_at told.tree up given ∙ ap (λ x. (let s : Spot = record (told.tree up) { value = x } in s)) given_is;
      earlier = ap (λ (s : Spot). s.value) (put_at told.earlier up (told.tree up).value);
      doubts = λ n p h. or_left _ _ h;
      spared = λ n p off. or_parts (told.written n p) (same_path p up) off;
      folders = λ p there. elim (or_cases (same_path p (folder_of top.target) || same_path p (folder_of up)) (told.folders p) there) [
        | inl first ↦ elim (or_cases (same_path p (folder_of top.target)) (same_path p (folder_of up)) first) [
          | inl here ↦ inl (subst (λ q. told.folders q ≡ true) (sym (same_path-true p (folder_of top.target) here)) has_known.folder)
          | inr holds ↦ inr (subst (λ q. IsSureFolder log q) (sym (same_path-true p (folder_of up) holds)) deep.around)
        ]
        | inr before ↦ inl before
      ];
      modes = or_right _ _ (same_path-self up);
      modes_more = λ p h. or_left _ _ h;
      calm = λ p there.
          let both = both_so (told.calm p) (same_path p up) there in
          (kept.known.calm p both.0, λ same. both_ways _ both.1 (subst (λ q. same_path q up ≡ true) (sym same) (same_path-self up)));
    }

    abbrev change : Change
    change = Sets i mode

    now_is : now ≡ with_change log change
    now_is =
        let d = done_call log (SetMode up mode) now (row_done log now (SetMode up mode) rows) in
        d.is ∙ ap (λ k. with_change log (Sets k mode)) (ap (λ o. unwrap_or o 0) stands.at)

    new_marks : (m : Marks) × IsMarked marks m log up i mode
    new_marks = marked told after dirty dirty_after marks log up i mode kept sets

    abbrev m : Marks
    m = new_marks.0

    -- of what stands at the target no mode waits, but that of a folder
    but_before : IsCalmBut marks (current log) top.target
    but_before = elim (b.around some) [ inl calm ↦ (λ j at bare. let still = kept.known.calm top.target calm in still.mode j at) | inr but ↦ but.1 ]

    but_then : IsCalmBut m (current (with_change log change)) top.target
    but_then j at bare = elim (but_before j here (sym still_kind ∙ bare)) [
      | inl still ↦ inl (still_none told after dirty dirty_after marks log up i mode kept sets m new_marks.1 j apart still)
      | inr begins ↦ inr (starts_same log change j ∙ begins)
    ]
      where
        here : find (current log) top.target ≡ Some j
        here = sym (same_quiet log change (λ g k. refl) top.target) ∙ at

        still_kind : is_folder (node (current (with_change log change)) j) ≡ is_folder (node (current log) j)
        still_kind = kind_same log change j (found_there (current log) kept.known.guarded.tree top.target j here)

        apart : j ≡ i → ⊥
        apart same = both_ways _ (sym still_kind ∙ bare) (subst (λ k. is_folder (node (current log) k) ≡ true) (sym same) stands.folder)

    around_then : TargetKnows after (settled_marks now m) (current now) (record c { at = new })
    around_then = elim (b.around some) [
      | inl calm ↦ by calm (same_path top.target up) refl
      | inr but ↦ inr (item, but_now)
    ]
      where
        but_now : IsCalmBut (settled_marks now m) (current now) top.target
        but_now = but_settled now m told top.target (subst (λ (l : CallLog). IsCalmBut m (current l) top.target) (sym now_is) but_then)

        by : told.calm top.target ≡ true → (x : Bool) → same_path top.target up ≡ x → TargetKnows after (settled_marks now m) (current now) (record c { at = new })
        by calm true same = inr (item, but_now)
        by calm false off = inl (ap (λ x. x && not (same_path top.target up)) calm ∙ ap not off)

    -- the folders around owe what they owed: what is given its mode is the source of none of them
    owed_then : OwedModes told.tree new → OwedModes after.tree new
    owed_then h = subst (λ around. AllOwe after.tree new.levels.inner around) (sym same_around) (by mid.levels.around in_place.levels (let copy = has.copy in nested_of mid.name mid.levels.inner mid.levels.around copy.0.1) (subst (λ around. AllOwe told.tree new.levels.inner around) same_around h))
      where
        nothing : OwesSource after.tree new.levels.inner
        nothing k is = absurd (let e : (let o : Option ℕ = None in o) ≡ Some k = sym over ∙ is in let f : ⊥ = cc in f)

        by : (around : List Level) → AreMoved top mid.levels.inner around → AreNested up around → AllOwe told.tree new.levels.inner around → AllOwe after.tree new.levels.inner around
        by [] lies nested h = nothing
        by (outer ∷ around) lies nested h = (
          nothing,
          lower_owes told.tree after.tree up (λ p off. put_off told.tree up given p off) top has_known.outside moved.rest moved.to outer around nested.1 (let e = ap (λ (q : Route). length q) nested.0.1 in omega (arith, e)) lies.1 h.1,
        )

    pub sets_mode : Comes_to (Set up) new
    sets_mode = comes_one told after dirty dirty_after marks m log now change (Then told dirty_after log now c (Set up) new) kept now_is
        (subst (λ (l : CallLog). IsKnown after dirty_after m l) (sym now_is) (set_known told after dirty dirty_after marks log up i mode kept sets m new_marks.1)) (record {
          part = subst (λ x. ItemHas after dirty_after (settled_marks now m) (current now) GoesOn x) (sym item) part_none;
          around = λ begun. around_then;
          had = λ begun. had_begun told dirty marks log c mid b some;
          modes = owed_then;
        })
