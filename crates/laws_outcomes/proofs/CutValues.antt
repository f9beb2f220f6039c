-- What a path shows once a step changed it: the new thing, whole, or nothing where something is removed.
use Rattle.std.proofs.Common.{◌≡◌, ◌⊎◌, ℕ, Bool, true, false, List, [], ◌∷◌, refl, sym, ◌∙◌, ap, subst, inl, inr, Option, Some, None}
use Rattle.std.specs.Prelude.{⊤, bit_or, map, ◌==◌, if◌then◌else◌}
use Rattle.std.specs.Option.{option_map, option_map_or}
use Rattle.std.proofs.lemmas.Bool.{both_ways, eq-eqb, true≢false}
use Rattle.mc_text.specs.Routes.{Route, is_prefix, same_path}
use Rattle.mc_text.specs.declared.kind.Kind.{Kind}
use Rattle.mc_text.specs.declared.kind.Kind.TheVariants as kind
use Rattle.tree_trait.specs.Shape.{IsTree}
use Rattle.tree_trait.specs.Change.{CallLog, current}
use Rattle.tree_trait.specs.CrashImages.{Among, all_settled}
use Rattle.tree_trait.specs.FileSystem.{Spot, Value, View}
use Rattle.job_reports.specs.declared.job.Pair.{Pair}
use Rattle.job_reports.specs.declared.report.Did.{Did}
use Rattle.job_reports.specs.declared.report.Did.TheVariants.{Began, Chunk, Placed, Removed, Made, Set, Kept, Skipped, Cleaned, Barrier, Asked, Merges, Moved, Troubled, Ended}
use Rattle.job_reports.specs.declared.report.Ending.{Ending}
use Rattle.job_reports.specs.Jobs.{ItemOfJob, Copies, Moves, Removes, Makes, MakesLink, Sets, RemovesEmptied, item_of}
use Rattle.session_entries.specs.declared.history.Event.{Event}
use Rattle.session_entries.specs.declared.history.Event.TheVariants.{Key, Look, Sought, Order, Step, Next, Closed}
use Rattle.session_entries.specs.declared.history.Event.TheVariants as event
use Rattle.session_entries.specs.declared.history.Entry.{Entry}
use Rattle.session_entries.specs.LiveJobs.{LiveJob, after_event, after_report, live, live_jobs, turned_live_job}
use Rattle.session_entries.specs.Moves.{moved_from}
use Rattle.session_entries.specs.Sources.{first_item}
use Rattle.laws_outcomes.specs.Touched.{IsAtSince, is_removed, taken_by, touches}
use Rattle.copy_tree.specs.InPlace.{IsMoved}
use Rattle.laws_sessions.specs.Replayed.{copied_folder, log_prefix, new_folder, new_link, placed_copy, replayed_event, replayed_step, replayed_tree, with_mode, with_mode_of}
use Rattle.laws_sessions.proofs.Moved.{moved_below}
use Rattle.laws_outcomes.specs.Arrivals.{copies_as, copies_of, copies_over, new_things, only, over_things, overs_of}
use Rattle.laws_outcomes.proofs.Accounts.{IsShown, put_value}
use Rattle.laws_sessions.proofs.ChangedPaths.{IsChanged}
use Rattle.laws_outcomes.proofs.CutCopies.{CopyFact, IsSingle}
use Rattle.laws_outcomes.proofs.CutEntries.{AtStep, IsFirst, at_step, before_newest, changed_touches}
use Rattle.laws_outcomes.proofs.CutLive.{AllLive, live_since}
use Rattle.laws_outcomes.proofs.CutSteps.{OnlyMakes, StepFact, pair_at}
use Rattle.laws_outcomes.proofs.MadeThings.{Unless}
use Rattle.laws_outcomes.proofs.Touching.{IsAsBegun, step_else}

-- there is something, and it is the new thing
abbrev pub IsNew : ItemOfJob → (Route → Option Value) → Route → Option Value → Type 0
IsNew item stood path o = (x : Value) × (o ≡ Some x) × Among (new_things item stood path) x

-- or it is what may come over something
abbrev pub IsOver : ItemOfJob → (Route → Option Value) → Route → Option Value → Type 0
IsOver item stood path o = (x : Value) × (o ≡ Some x) × Among (over_things item stood path) x

some_value : (a b : Value) → (let o : Option Value = Some a in o) ≡ Some b → a ≡ b
some_value a b is = cc

single_over : (k : Kind) (x : Value) → (k ≡ kind.File) ⊎ (k ≡ kind.Link) → Among (copies_over k x) (placed_copy x)
single_over kind.File x is = inl refl
single_over kind.Link x is = inl refl
single_over kind.Other x is = inl refl
single_over kind.Folder x (inl is) = absurd (let f : ⊥ = cc in f)
single_over kind.Folder x (inr is) = absurd (let f : ⊥ = cc in f)

folder_over : (k : Kind) (x : Value) → k ≡ kind.Folder → Among (copies_over k x) (with_mode x.mode new_folder)
folder_over kind.Folder x is = inl refl
folder_over kind.File x is = absurd (let f : ⊥ = cc in f)
folder_over kind.Link x is = absurd (let f : ⊥ = cc in f)
folder_over kind.Other x is = absurd (let f : ⊥ = cc in f)

-- a file or a link is copied as it is placed
single_among : (k : Kind) (x : Value) → (k ≡ kind.File) ⊎ (k ≡ kind.Link) → Among (copies_as k x) (placed_copy x)
single_among kind.File x is = inl refl
single_among kind.Link x is = inl refl
single_among kind.Other x is = inl refl
single_among kind.Folder x (inl is) = absurd (let f : ⊥ = cc in f)
single_among kind.Folder x (inr is) = absurd (let f : ⊥ = cc in f)

folder_among : (k : Kind) (x : Value) → k ≡ kind.Folder → Among (copies_as k x) (with_mode (bit_or x.mode 0o700) new_folder) × Among (copies_as k x) (with_mode x.mode new_folder)
folder_among kind.Folder x is = (inl refl, inr (inl refl))
folder_among kind.File x is = absurd (let f : ⊥ = cc in f)
folder_among kind.Link x is = absurd (let f : ⊥ = cc in f)
folder_among kind.Other x is = absurd (let f : ⊥ = cc in f)

one_path : (a b : Route) → Among (a ∷ []) b → b ≡ a
one_path a b (inl is) = is
one_path a b (inr none) = absurd none

-- where something is copied
module _ (log : CallLog) (source target : Route) (v : View) (stands : Option Route) (stood : Route → Option Value) where
  abbrev its_pair : Pair
  its_pair = pair_at source target

  abbrev Then : Did → View
  Then did = replayed_step log did (Some (Copies source target)) v

  abbrev from : Route → Route
  from path = moved_from source target path

  comes : (p q : Route) → IsMoved its_pair q p → from p ≡ q
  comes p q m = ap from m.to ∙ (moved_below source target m.rest ∙ sym m.from)

  -- what stood at the source stands there
  stood_is : (p q : Route) (x : Value) → IsMoved its_pair q p → (v q).value ≡ Some x → (v (from p)).value ≡ stood (from p) → stood (from p) ≡ Some x
  stood_is p q x m there same = sym same ∙ (ap (λ r. (v r).value) (comes p q m) ∙ there)

  placed_new : (p : Route) → CopyFact its_pair v stands (Placed p) → (v (from p)).value ≡ stood (from p) → IsNew (Copies source target) stood p (Then (Placed p) p).value
  placed_new p (part, (q, m, (x, there, single))) same =
      let is = stood_is p q x m there same in (
        placed_copy x,
        put_value v p (option_map placed_copy (v (from p)).value) ∙ ap (option_map placed_copy) (same ∙ is),
        subst (λ o. Among (copies_of o) (placed_copy x)) (sym is) (single_among x.kind x single),
      )

  made_new : (p : Route) → CopyFact its_pair v stands (Made p) → (v (from p)).value ≡ stood (from p) → IsNew (Copies source target) stood p (Then (Made p) p).value
  made_new p (free, (q, m, (x, there, folder))) same =
      let is = stood_is p q x m there same in (
        with_mode (bit_or x.mode 0o700) new_folder,
        put_value v p (Some (copied_folder (v (from p)).value)) ∙ ap (λ o. (let y : Option Value = Some (copied_folder o) in y)) (same ∙ is),
        subst (λ o. Among (copies_of o) (with_mode (bit_or x.mode 0o700) new_folder)) (sym is) (folder_among x.kind x folder).0,
      )

  set_new : (p : Route) → CopyFact its_pair v stands (Set p) → is_prefix target (from p) ≡ false → (v (from p)).value ≡ stood (from p) → IsNew (Copies source target) stood p (Then (Set p) p).value
  set_new p (q, m, shown) off same =
      let s : IsShown v q p = shown (subst (λ r. is_prefix target r ≡ false) (comes p q m) off) in
      let is = stood_is p q s.x m s.stands same in (
        with_mode (let x = s.x in x.mode) new_folder,
        put_value v p (option_map (with_mode_of (v (from p)).value) (v p).value)
            ∙ (ap (λ o. option_map (with_mode_of o) (v p).value) (same ∙ is) ∙ ap (option_map (with_mode_of (Some s.x))) s.made),
        subst (λ o. Among (copies_of o) (with_mode (let x = s.x in x.mode) new_folder)) (sym is) (folder_among (let x = s.x in x.kind) s.x s.folder).1,
      )

  pub copied_new : (did : Did) (path : Route) → CopyFact its_pair v stands did → IsChanged did path → is_prefix target (from path) ≡ false → (v (from path)).value ≡ stood (from path) → IsNew (Copies source target) stood path (Then did path).value
  copied_new (Placed p) path fact changed off same =
      let is = one_path p path changed in
      subst (λ r. IsNew (Copies source target) stood r (Then (Placed p) r).value) (sym is) (placed_new p fact (subst (λ r. (v (from r)).value ≡ stood (from r)) is same))
  copied_new (Made p) path fact changed off same =
      let is = one_path p path changed in
      subst (λ r. IsNew (Copies source target) stood r (Then (Made p) r).value) (sym is) (made_new p fact (subst (λ r. (v (from r)).value ≡ stood (from r)) is same))
  copied_new (Set p) path fact changed off same =
      let is = one_path p path changed in
      subst (λ r. IsNew (Copies source target) stood r (Then (Set p) r).value) (sym is)
      (set_new p fact (subst (λ r. is_prefix target (from r) ≡ false) is off) (subst (λ r. (v (from r)).value ≡ stood (from r)) is same))
  copied_new (Removed p) path fact changed off same = absurd fact
  copied_new (Moved pair) path fact changed off same = absurd fact
  copied_new did path fact changed off same = absurd changed

  placed_over : (p : Route) → CopyFact its_pair v stands (Placed p) → (v (from p)).value ≡ stood (from p) → IsOver (Copies source target) stood p (Then (Placed p) p).value
  placed_over p (part, (q, m, (x, there, single))) same =
      let is = stood_is p q x m there same in (
        placed_copy x,
        put_value v p (option_map placed_copy (v (from p)).value) ∙ ap (option_map placed_copy) (same ∙ is),
        subst (λ o. Among (overs_of o) (placed_copy x)) (sym is) (single_over x.kind x single),
      )

  set_over : (p : Route) → CopyFact its_pair v stands (Set p) → is_prefix target (from p) ≡ false → (v (from p)).value ≡ stood (from p) → IsOver (Copies source target) stood p (Then (Set p) p).value
  set_over p (q, m, shown) off same =
      let s : IsShown v q p = shown (subst (λ r. is_prefix target r ≡ false) (comes p q m) off) in
      let is = stood_is p q s.x m s.stands same in (
        with_mode (let x = s.x in x.mode) new_folder,
        put_value v p (option_map (with_mode_of (v (from p)).value) (v p).value)
            ∙ (ap (λ o. option_map (with_mode_of o) (v p).value) (same ∙ is) ∙ ap (option_map (with_mode_of (Some s.x))) s.made),
        subst (λ o. Among (overs_of o) (with_mode (let x = s.x in x.mode) new_folder)) (sym is) (folder_over (let x = s.x in x.kind) s.x s.folder),
      )

  -- nothing is made where something stands
  pub copied_over : (did : Did) (path : Route) → CopyFact its_pair v stands did → IsChanged did path → is_prefix target (from path) ≡ false → (v (from path)).value ≡ stood (from path) → ((v path).value ≡ None → ⊥)
      → IsOver (Copies source target) stood path (Then did path).value
  copied_over (Placed p) path fact changed off same some =
      let is = one_path p path changed in
      subst (λ r. IsOver (Copies source target) stood r (Then (Placed p) r).value) (sym is) (placed_over p fact (subst (λ r. (v (from r)).value ≡ stood (from r)) is same))
  copied_over (Made p) path fact changed off same some = absurd (some (ap (λ r. (v r).value) (one_path p path changed) ∙ fact.0))
  copied_over (Set p) path fact changed off same some =
      let is = one_path p path changed in
      subst (λ r. IsOver (Copies source target) stood r (Then (Set p) r).value) (sym is)
      (set_over p fact (subst (λ r. is_prefix target (from r) ≡ false) is off) (subst (λ r. (v (from r)).value ≡ stood (from r)) is same))
  copied_over (Removed p) path fact changed off same some = absurd fact
  copied_over (Moved pair) path fact changed off same some = absurd fact
  copied_over did path fact changed off same some = absurd changed

-- where something is made, or given a mode
module _ (log : CallLog) (v : View) (stands : Option Route) (stood : Route → Option Value) where
  pub folder_new : (made : Route) (did : Did) (path : Route) → StepFact (Makes made) v stands did → IsChanged did path → IsNew (Makes made) stood path (replayed_step log did (Some (Makes made)) v path).value
  folder_new made (Made p) path fact changed =
      subst (λ r. IsNew (Makes made) stood r (replayed_step log (Made p) (Some (Makes made)) v r).value) (sym (one_path p path changed)) (new_folder, put_value v p (Some new_folder), inl refl)
  folder_new made (Placed p) path fact changed = absurd fact
  folder_new made (Removed p) path fact changed = absurd fact
  folder_new made (Set p) path fact changed = absurd fact
  folder_new made (Moved pair) path fact changed = absurd fact
  folder_new made did path fact changed = absurd changed

  -- nothing stood there
  pub made_bare : (made : Route) (did : Did) (path : Route) → OnlyMakes made v did → IsChanged did path → (v path).value ≡ None
  made_bare made (Made p) path fact changed = ap (λ r. (v r).value) (one_path p path changed ∙ fact.0) ∙ fact.1
  made_bare made (Placed p) path fact changed = absurd fact
  made_bare made (Removed p) path fact changed = absurd fact
  made_bare made (Set p) path fact changed = absurd fact
  made_bare made (Moved pair) path fact changed = absurd fact
  made_bare made did path fact changed = absurd changed

  pub link_new : (made : Route) (text : List ℕ) (did : Did) (path : Route) → StepFact (MakesLink made text) v stands did → IsChanged did path → IsNew (MakesLink made text) stood path (replayed_step log did (Some (MakesLink made text)) v path).value
  link_new made text (Made p) path fact changed =
      subst (λ r. IsNew (MakesLink made text) stood r (replayed_step log (Made p) (Some (MakesLink made text)) v r).value) (sym (one_path p path changed)) (new_link text, put_value v p (Some (new_link text)), inl refl)
  link_new made text (Placed p) path fact changed = absurd fact
  link_new made text (Removed p) path fact changed = absurd fact
  link_new made text (Set p) path fact changed = absurd fact
  link_new made text (Moved pair) path fact changed = absurd fact
  link_new made text did path fact changed = absurd changed

  -- the mode that was given once is given again
  moded_new : (thing : Route) (mode : ℕ) (path : Route) (o : Option Value) → (x : Value) → o ≡ Some x → (o ≡ stood path) ⊎ IsNew (Sets thing mode) stood path o → IsNew (Sets thing mode) stood path (option_map (with_mode mode) o)
  moded_new thing mode path o x is (inl same) = (
    with_mode mode x,
    ap (option_map (with_mode mode)) is,
    subst (λ y. Among (map (with_mode mode) (only y)) (with_mode mode x)) (sym (sym same ∙ is)) (inl refl),
  )
  moded_new thing mode path o x is (inr (y, y_is, among)) = by (stood path) refl among
    where
      by : (s : Option Value) → stood path ≡ s → Among (map (with_mode mode) (only s)) y → IsNew (Sets thing mode) stood path (option_map (with_mode mode) o)
      by None none among = absurd among
      by (Some z) some (inr none) = absurd none
      by (Some z) some (inl same) = (
        with_mode mode z,
        ap (option_map (with_mode mode)) (y_is ∙ ap (λ w. (let q : Option Value = Some w in q)) same),
        subst (λ s. Among (map (with_mode mode) (only s)) (with_mode mode z)) (sym some) (inl refl),
      )

  pub mode_new : (thing : Route) (mode : ℕ) (did : Did) (path : Route) → StepFact (Sets thing mode) v stands did → IsChanged did path → ((v path).value ≡ stood path) ⊎ IsNew (Sets thing mode) stood path (v path).value
      → IsNew (Sets thing mode) stood path (replayed_step log did (Some (Sets thing mode)) v path).value
  mode_new thing mode (Set p) path (p_is, (x, there)) changed known =
      let is = one_path p path changed in
      subst (λ o. IsNew (Sets thing mode) stood path o)
      (sym (ap (λ r. (replayed_step log (Set p) (Some (Sets thing mode)) v r).value) is ∙ (put_value v p (option_map (with_mode mode) (v p).value) ∙ ap (λ r. option_map (with_mode mode) (v r).value) (sym is))))
      (moded_new thing mode path (v path).value x (ap (λ r. (v r).value) (is ∙ p_is) ∙ there) known)
  mode_new thing mode (Made p) path fact changed known = absurd fact
  mode_new thing mode (Placed p) path fact changed known = absurd fact
  mode_new thing mode (Removed p) path fact changed known = absurd fact
  mode_new thing mode (Moved pair) path fact changed known = absurd fact
  mode_new thing mode did path fact changed known = absurd changed

  -- where something is removed
  removed_at : (item : ItemOfJob) (p path : Route) → Among (p ∷ []) path → (replayed_step log (Removed p) (Some item) v path).value ≡ None
  removed_at item p path changed = ap (λ r. (replayed_step log (Removed p) (Some item) v r).value) (one_path p path changed) ∙ put_value v p None

  pub removed_none : (item : ItemOfJob) (did : Did) (path : Route) → is_removed item path ≡ true → StepFact item v stands did → IsChanged did path → (replayed_step log did (Some item) v path).value ≡ None
  removed_none item (Removed p) path is fact changed = removed_at item p path changed
  removed_none (Removes top) (Placed p) path is fact changed = absurd fact
  removed_none (Removes top) (Made p) path is fact changed = absurd fact
  removed_none (Removes top) (Set p) path is fact changed = absurd fact
  removed_none (Removes top) (Moved pair) path is fact changed = absurd fact
  removed_none (RemovesEmptied folder) (Placed p) path is fact changed = absurd fact
  removed_none (RemovesEmptied folder) (Made p) path is fact changed = absurd fact
  removed_none (RemovesEmptied folder) (Set p) path is fact changed = absurd fact
  removed_none (RemovesEmptied folder) (Moved pair) path is fact changed = absurd fact
  removed_none (Removes top) did path is fact changed = absurd changed
  removed_none (RemovesEmptied folder) did path is fact changed = absurd changed
  removed_none item did path is fact changed = absurd (true≢false (sym is))

-- what a report says of each path, but an end
use_unless : (did : Did) (Holds : Type 0) → Unless did Holds → Holds ⊎ ((ending : Ending) × (part : Option Route) × (did ≡ Ended ending part))
use_unless (Ended ending part) Holds h = inr (ending, part, refl)
use_unless (Began part) Holds h = inl h
use_unless (Chunk count) Holds h = inl h
use_unless (Placed path) Holds h = inl h
use_unless (Removed path) Holds h = inl h
use_unless (Made path) Holds h = inl h
use_unless (Set path) Holds h = inl h
use_unless (Kept path) Holds h = inl h
use_unless (Skipped path cause) Holds h = inl h
use_unless (Cleaned part) Holds h = inl h
use_unless Barrier Holds h = inl h
use_unless (Asked question) Holds h = inl h
use_unless (Merges transfer pair names) Holds h = inl h
use_unless (Moved pair) Holds h = inl h
use_unless (Troubled trouble) Holds h = inl h

none_live : (b : Bool) (x : List LiveJob) → b ≡ true → (let l : List LiveJob = if b then [] else x in l) ≡ []
none_live true x is = refl
none_live false x is = absurd (true≢false (sym is))

begun_same : (id : ℕ) (o : Option ItemOfJob) (jobs : List LiveJob) → o ≡ None → option_map_or (λ x. live id x ∷ jobs) o jobs ≡ jobs
begun_same id None jobs none = refl
begun_same id (Some x) jobs none = absurd (let f : ⊥ = cc in f)

turned_same : (id : ℕ) (o : Option ItemOfJob) (jobs : List LiveJob) → o ≡ None → option_map_or (λ x. map (turned_live_job id x) jobs) o jobs ≡ jobs
turned_same id None jobs none = refl
turned_same id (Some x) jobs none = absurd (let f : ⊥ = cc in f)

-- As long as the job is at its source what this doesn't touch shows what it showed.
module _ (opening : CallLog) (tree : IsTree (current opening)) (settled : all_settled opening.changes ≡ true) (end : CallLog) (begun : List Entry) (item : ItemOfJob) (its : AllLive (λ i. i ≡ item) (live_jobs begun)) (q : Route) (off : touches item q ≡ false) where
  abbrev shown : List Entry → View
  shown g = replayed_tree opening end g

  item_is : (g : List Entry) (e : Entry) (id : ℕ) (did : Did) → IsAtSince begun g → (at : AtStep opening tree settled end e g id did) → at.item ≡ item
  item_is g e id did since at = (subst (AllLive (λ i. i ≡ item)) at.live (live_since begun (λ i. i ≡ item) its g since)).0

  -- so one entry more
  same_more : (e : Entry) (g : List Entry) → IsFirst opening tree settled end (e ∷ g) → IsAtSince begun g → taken_by e.what ≡ None → ((live_jobs g ≡ [] → ⊥) → shown g q ≡ shown begun q) → (live_jobs (e ∷ g) ≡ [] → ⊥)
      → shown (e ∷ g) q ≡ shown begun q
  same_more e g first since none earlier live_one = by e.what refl
    where
      before : IsFirst opening tree settled end g
      before = before_newest opening tree settled end e g first

      unstepped : (what : Event) → e.what ≡ what → after_event what (live_jobs g) ≡ live_jobs g → ((jobs : List LiveJob) (v : View) (log : CallLog) → replayed_event log what jobs v ≡ v) → shown (e ∷ g) q ≡ shown begun q
      unstepped what is same still =
          ap (λ w. replayed_event (log_prefix opening e.calls end) w (live_jobs g) (shown g) q) is
          ∙ (ap (λ (v : View). v q) (still (live_jobs g) (shown g) (log_prefix opening e.calls end))
          ∙ earlier (λ gone. live_one (ap (λ w. after_event w (live_jobs g)) is ∙ (same ∙ gone))))

      by : (what : Event) → e.what ≡ what → shown (e ∷ g) q ≡ shown begun q
      by (Step id did) is = elim (use_unless did (IsAsBegun (replayed_step (log_prefix opening e.calls end) did (Some at.item) (shown g)) (shown g) at.item) (step_else did (log_prefix opening e.calls end) at.item (shown g) (λ path changed. changed_touches (shown g) at.part at.item did path at.fact changed))) [
        | inl kept ↦ ap (λ (v : View). v q) at.shows ∙ (kept q (subst (λ i. touches i q ≡ false) (sym same) off) ∙ earlier (λ gone. (let e : (let l : LiveJob = record { id = id; item = at.item; part = at.part } in l) ∷ [] ≡ [] = sym at.live ∙ gone in let f : ⊥ = cc in f)))
        | inr (ending, part, ended) ↦ absurd (live_one (ap (λ w. after_event w (live_jobs g)) (is ∙ ap (Step id) ended) ∙ (ap (after_report id (Ended ending part)) at.live ∙ none_live (id == id) _ (eq-eqb id id refl))))
      ]
        where
          at : AtStep opening tree settled end e g id did
          at = at_step opening tree settled end e g id did first is

          same : at.item ≡ item
          same = item_is g e id did since at
      by (event.Began id plan background) is = unstepped (event.Began id plan background) is (begun_same id (first_item plan) (live_jobs g) (sym (ap taken_by is) ∙ none)) (λ jobs v log. refl)
      by (Next id plan) is = unstepped (Next id plan) is (turned_same id (item_of plan) (live_jobs g) (sym (ap taken_by is) ∙ none)) (λ jobs v log. refl)
      by (Order id order) is = unstepped (Order id order) is refl (λ jobs v log. refl)
      by (Key key time refusals lost) is = unstepped (Key key time refusals lost) is refl (λ jobs v log. refl)
      by (Look refusals) is = unstepped (Look refusals) is refl (λ jobs v log. refl)
      by Sought is = unstepped Sought is refl (λ jobs v log. refl)
      by Closed is = unstepped Closed is refl (λ jobs v log. refl)

  pub source_same : (g : List Entry) → IsFirst opening tree settled end g → IsAtSince begun g → (live_jobs g ≡ [] → ⊥) → shown g q ≡ shown begun q
  source_same [] first same live_one = ap (λ x. shown x q) (sym same)
  source_same (e ∷ g) first (inl same) live_one = ap (λ x. shown x q) (sym same)
  source_same (e ∷ g) first (inr (none, since)) live_one = same_more e g first since none (λ alive. source_same g (before_newest opening tree settled end e g first) since alive) live_one
