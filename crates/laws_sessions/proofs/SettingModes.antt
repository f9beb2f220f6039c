-- A mode is set where nothing of the thing waits: so after a crash it has that mode, or the one before.
use Rattle.std.proofs.Common.{◌≡◌, ◌⊎◌, ℕ, ◌<◌, Bool, true, false, not, ◌&&◌, ◌||◌, List, [], ◌∷◌, length, refl, sym, ◌∙◌, ap, subst, inl, inr, Option, Some, None, arith, cond}
use Rattle.std.specs.Prelude.{is_some, ◌==◌}
use Rattle.std.specs.Option.{option_map, option_map_or}
use Rattle.std.proofs.lemmas.Bool.{true≢false, false≢true, both_ways, eqb-true, eq-eqb, false_from_ne_true}
use Rattle.std.proofs.lemmas.List.{length-set}
use Rattle.mc_text.specs.Routes.{Route, same_path}
use Rattle.tree_trait.specs.declared.file_system.FileSystem.{FileSystem}
use Rattle.tree_trait.specs.FileSystem.{Spot, Value, find, node, starts_mount, value, visible_tree}
use Rattle.tree_trait.specs.Refusals.{is_folder}
use Rattle.tree_trait.specs.Shape.{IsTree}
use Rattle.tree_trait.specs.Change.{Change, Sets, CallLog, current, with_change}
use Rattle.tree_trait.specs.CrashImages.{Among, alters, is_clean}
use Rattle.tree_trait.proofs.Finding.{find-once}
use Rattle.tree_trait.proofs.Kept.{tree_set}
use Rattle.tree_trait.proofs.Visible.{same_path-self, same_path-true}
use Rattle.laws_crash.specs.Possible.{MayFind}
use Rattle.laws_crash.specs.Guarded.{Marks, IsGuarded, IsSettledAt, with_mode}
use Rattle.laws_crash.specs.Modes.{marks_with_mode}
use Rattle.laws_crash.proofs.Guarding.{found_at, quiet_law, same_quiet, settle_law}
use Rattle.laws_crash.proofs.Leading.{current_more}
use Rattle.laws_crash.proofs.ModeLaws.{setting_law}
use Rattle.laws_crash.proofs.Syncing.{unaltered_law}
use Rattle.laws_crash.proofs.Tops.{path_once}
use Rattle.laws_sessions.specs.Doubt.{is_pending, name_waits, way_waits}
use Rattle.laws_sessions.proofs.Changing.{folder_anchored}
use Rattle.laws_sessions.proofs.JobKnows.{none_unlisted}
use Rattle.laws_sessions.proofs.Knowing.{HasMode, IsCalmPath, IsKept, IsKnown, HistoryFacts, firm_now, held}
use Rattle.laws_sessions.proofs.PartNodes.{moded_node}
use Rattle.laws_sessions.proofs.Quiet.{IsNameless, calm_alone, calm_files, calm_firm, calm_joint, calm_tracked, held_same, shows_same, starts_same, unclean_before, waits_before, was_folder, since_before}
use Rattle.laws_sessions.proofs.Resting.{IsSureFolder, settled_unless}
use Rattle.laws_sessions.proofs.Restless.{is_restless}
use Rattle.laws_sessions.proofs.RoamingFolders.{roaming_still}
use Rattle.laws_sessions.proofs.WaitsFor.{waits_for}
use Rattle.laws_sessions.proofs.Since.{clean_since}

-- A mode is to be set where nothing of the path waits, nor another mode of what stands there, and what the history says once it is.
pub record SetsMode (told after : HistoryFacts) (dirty dirty_after : List Route) (marks : Marks) (log : CallLog) (path : Route) (i mode : ℕ) : Type 0 where
  pub at : find (current log) path ≡ Some i
  pub sure : way_waits log path ≡ false
  pub no_mode : marks.modes i ≡ None
  -- where it stood before some work, no crash may leave it
  pub once : (p : Route) → marks.aside p ≡ false → marks.was p ≡ Some i → IsSettledAt log p
  pub no_part : told.part ≡ None
  pub none : after.part ≡ None
  pub listed : Among dirty_after path
  pub more : (q : Route) → Among dirty q → Among dirty_after q
  pub named : (p : Route) → marks.aside p ≡ true → Among after.named p
  pub lefts : (p : Route) → Among told.left p → Among after.left p
  pub off : (p : Route) → same_path p path ≡ false → (after.tree p ≡ told.tree p) × (after.earlier p ≡ told.earlier p)
  pub shown : after.tree path ≡ record (told.tree path) { value = Some (value (with_mode mode (node (current log) i))) }
  pub earlier : (after.earlier path).value ≡ (told.tree path).value
  pub doubts : (n : ℕ) (p : Route) → told.doubt n p ≡ true → after.doubt n p ≡ true
  pub spared : (n : ℕ) (p : Route) → after.written n p ≡ false → (told.written n p ≡ false) × (same_path p path ≡ false)
  pub folders : (p : Route) → after.folders p ≡ true → (told.folders p ≡ true) ⊎ IsSureFolder log p
  pub modes : after.modes path ≡ true
  pub modes_more : (p : Route) → told.modes p ≡ true → after.modes p ≡ true
  pub calm : (p : Route) → after.calm p ≡ true → IsCalmPath marks log p × (p ≡ path → ⊥)

some_not_none : {A : Type 0} (x : ℕ) → (let o : Option ℕ = None in o) ≡ Some x → A
some_not_none x h = absurd (let e : ⊥ = cc in e)

some_is : (x y : ℕ) → (let o : Option ℕ = Some x in o) ≡ Some y → y ≡ x
some_is x y h = cc

-- nothing that stands is dirty: so no name waits, nor a mode
module _ (told : HistoryFacts) (dirty : List Route) (marks : Marks) (log : CallLog) (kept : IsKept told dirty marks log) (gone : (q : Route) → Among dirty q → find (current log) q ≡ None) where
  no_name : (p : Route) → name_waits log p ≡ false
  no_name [] = refl
  no_name (name ∷ up) = by (find (current log) up) refl
    where
      none : (f : ℕ) → find (current log) up ≡ Some f → (b : Bool) → is_pending f name log.changes ≡ b → is_pending f name log.changes ≡ false
      none f at false is = is
      none f at true is = elim (waits_for f name log.changes is) [
        | inl own ↦ at_rest up f at own
        | inr other ↦ (let b = kept.known.joint f other.0 up other.1 at in at_rest b.path other.0 b.at other.2)
      ]
        where
          at_rest : (q : Route) (g : ℕ) → find (current log) q ≡ Some g → is_restless g log.changes ≡ true → is_pending f name log.changes ≡ false
          at_rest q g there restless = elim (kept.known.tracked g restless) [
            | inl t ↦ some_not_none g (sym (gone t.0 t.1) ∙ t.2)
            | inr unreached ↦ absurd (unreached q there)
          ]

      by : (o : Option ℕ) → find (current log) up ≡ o → name_waits log (name ∷ up) ≡ false
      by None at = ap (λ x. option_map_or (λ f. is_pending f name log.changes) x false) at
      by (Some f) at = ap (λ x. option_map_or (λ f. is_pending f name log.changes) x false) at ∙ none f at (is_pending f name log.changes) refl

  pub no_way : (p : Route) → way_waits log p ≡ false
  no_way [] = refl
  no_way (name ∷ up) = ap (λ b. b || way_waits log up) (no_name (name ∷ up)) ∙ no_way up

  pub no_mode : (p : Route) (i : ℕ) → find (current log) p ≡ Some i → marks.modes i ≡ None
  no_mode p i at = none_unlisted told dirty marks log kept p i at (λ among. some_not_none i (sym (gone p among) ∙ at))

-- A folder that is on the disk is found after any crash at its path or nowhere, so wherever else it is said to have stood nothing waits.
pub folder_once : (told : HistoryFacts) (dirty : List Route) (marks : Marks) (log : CallLog) → IsKept told dirty marks log → (path : Route) (i : ℕ) → find (current log) path ≡ Some i → is_folder (node (current log) i) ≡ true
    → way_waits log path ≡ false → (p : Route) → marks.aside p ≡ false → marks.was p ≡ Some i → IsSettledAt log p
folder_once told dirty marks log kept path i at folder sure p out was x found = elim (kept.known.guarded.twofold p x out found) [
  | inl now ↦ now
  | inr before ↦
      let same : p ≡ path = path_once marks log kept.known.guarded path p i (folder_anchored told dirty marks log kept.known kept.roams path i at folder sure) at (subst (λ y. MayFind log p y) (before ∙ was) found) in
      subst (λ q. IsSettledAt log q) (sym same) (settled_unless log path sure) x found
]

still_out : (a b : Bool) → (a && not b) ≡ false → (a ≡ false) ⊎ (b ≡ true)
still_out true true h = inr refl
still_out true false h = absurd (true≢false h)
still_out false b h = inl refl

still_aside : (a b : Bool) → (a && not b) ≡ true → a ≡ true
still_aside true b h = refl
still_aside false b h = h

no_more : (a b : Bool) → b ≡ true → (a && not b) ≡ false
no_more true true h = refl
no_more true false h = absurd (false≢true h)
no_more false b h = refl

one_of : (a b : Bool) → (a || b) ≡ true → (a ≡ true) ⊎ (b ≡ true)
one_of true b h = inl refl
one_of false b h = inr h

neither : (a b : Bool) → (a || b) ≡ false → (a ≡ false) × (b ≡ false)
neither true b h = absurd (true≢false h)
neither false b h = (refl, h)

-- what stood there is this node
abbrev was_it : ℕ → Option ℕ → Bool
was_it i o = option_map_or (λ j. j == i) o false

was_it-true : (i : ℕ) (o : Option ℕ) → was_it i o ≡ true → o ≡ Some i
was_it-true i None h = absurd (false≢true h)
was_it-true i (Some j) h = ap (λ k. Some k) (eqb-true j i h)

was_it-false : (i : ℕ) (o : Option ℕ) → was_it i o ≡ false → o ≡ Some i → ⊥
was_it-false i o h is = both_ways _ h (subst (λ x. was_it i x ≡ true) (sym is) (eq-eqb i i refl))

-- marks that fit once the mode is set: the thing itself stands nowhere else
pub record IsMarked (marks new : Marks) (log : CallLog) (path : Route) (i mode : ℕ) : Type 0 where
  pub guarded : IsGuarded new (with_change log (Sets i mode))
  pub aside : (p : Route) → new.aside p ≡ true → marks.aside p ≡ true
  pub was : (p : Route) → new.aside p ≡ false → (new.was p ≡ find (current log) p) ⊎ ((new.was p ≡ marks.was p) × (marks.aside p ≡ false) × (marks.was p ≡ Some i → ⊥))
  pub firm : (p : Route) (j : ℕ) → new.aside p ≡ false → find (current log) p ≡ Some j → new.loose j ≡ false
  pub loose : new.loose ≡ marks.loose
  pub roams : new.roams ≡ marks.roams
  -- the mode of the thing may wait now
  pub moded : (j before : ℕ) → new.modes j ≡ Some before → ((j ≡ i) × (before ≡ (node (current log) i).mode) × (new.aside path ≡ false)) ⊎ ((j ≡ i → ⊥) × (marks.modes j ≡ Some before))

module _ (told after : HistoryFacts) (dirty dirty_after : List Route) (marks : Marks) (log : CallLog) (path : Route) (i mode : ℕ) (kept : IsKept told dirty marks log) (s : SetsMode told after dirty dirty_after marks log path i mode) where
  abbrev sets : Change
  sets = Sets i mode

  abbrev now : CallLog
  now = with_change log sets

  there : i < length (current log).nodes
  there = kept.known.guarded.there path i (found_at log path (Some i) s.at)

  nameless : IsNameless log sets
  nameless = record {
    tree = subst IsTree (sym (current_more log sets)) (tree_set (current log) i _ kept.known.guarded.tree refl);
    names = λ g m. refl;
    count = ap (λ (x : FileSystem). length x.nodes) (current_more log sets) ∙ length-set (current log).nodes i _;
    within = refl;
    unborn = λ j past. false_from_ne_true _ (λ same. let e = eqb-true i j same in let t = there in absurd (omega (arith, past, e, t)));
  }

  found_as : (p : Route) → find (current now) p ≡ find (current log) p
  found_as p = same_quiet log sets nameless.names p

  -- another path leads to another node
  other : (p : Route) (j : ℕ) → find (current log) p ≡ Some j → same_path p path ≡ false → (i == j) ≡ false
  other p j at off = false_from_ne_true _ (λ same.
      both_ways _ off (subst (λ q. same_path q path ≡ true) (sym (find-once (current log) kept.known.guarded.tree p path i (at ∙ ap (λ k. Some k) (sym (eqb-true i j same))) s.at)) (same_path-self path)))

  -- the bytes of the thing may wait: a part that stands
  loose_marked : marks.loose i ≡ true → IsMarked marks marks log path i mode
  loose_marked loose = record {
    guarded = quiet_law marks log sets kept.known.guarded (record {
      tree = nameless.tree;
      names = nameless.names;
      count = nameless.count;
      others = λ j firm. false_from_ne_true _ (λ same. both_ways _ (subst (λ k. marks.loose k ≡ false) (sym (eqb-true i j same)) firm) loose);
    });
    aside = λ p is. is;
    was = λ p out. inr (refl, out, λ is. both_ways _ (kept.known.was_there p i out is).1 loose);
    firm = λ p j out at. firm_now told dirty marks log kept.known p out j at;
    loose = refl;
    roams = refl;
    moded = λ j before is. inr (λ same. some_not_none before (sym s.no_mode ∙ (ap marks.modes (sym same) ∙ is)), is);
  }

  -- it is on the disk, so it stands aside no more, and was nowhere else
  abbrev here_or_was : Route → Bool
  here_or_was p = same_path p path || was_it i (marks.was p)

  abbrev shown_marks : Marks
  shown_marks = record marks { was = λ p. cond (here_or_was p) (find (current log) p) (marks.was p); aside = λ p. marks.aside p && not (same_path p path) }

  was_now : (p : Route) → here_or_was p ≡ true → (let m : Marks = shown_marks in m.was p) ≡ find (current log) p
  was_now p is = ap (λ b. cond b (find (current log) p) (marks.was p)) is

  -- elsewhere it is said of a path what was said
  as_before : (p : Route) → (marks.aside p && not (same_path p path)) ≡ false → here_or_was p ≡ false → ((let m : Marks = shown_marks in m.was p) ≡ marks.was p) × (marks.aside p ≡ false) × (marks.was p ≡ Some i → ⊥)
  as_before p out is =
      let both = neither (same_path p path) (was_it i (marks.was p)) is in (
        ap (λ b. cond b (find (current log) p) (marks.was p)) is,
        elim (still_out (marks.aside p) (same_path p path) out) [ inl before ↦ before | inr here ↦ absurd (both_ways _ both.0 here) ],
        was_it-false i (marks.was p) both.1,
      )

  settled_here : (p : Route) → same_path p path ≡ true → IsSettledAt log p
  settled_here p here = subst (λ q. IsSettledAt log q) (sym (same_path-true p path here)) (settled_unless log path s.sure)

  settled_there : (p : Route) → (marks.aside p && not (same_path p path)) ≡ false → here_or_was p ≡ true → IsSettledAt log p
  settled_there p out is = elim (one_of (same_path p path) (was_it i (marks.was p)) is) [
    | inl here ↦ settled_here p here
    | inr it ↦ elim (still_out (marks.aside p) (same_path p path) out) [ inl before ↦ s.once p before (was_it-true i (marks.was p) it) | inr here ↦ settled_here p here ]
  ]

  shown_firm : marks.loose i ≡ false → (p : Route) (j : ℕ) → (marks.aside p && not (same_path p path)) ≡ false → find (current log) p ≡ Some j → marks.loose j ≡ false
  shown_firm firm p j out at = elim (still_out (marks.aside p) (same_path p path) out) [
    | inl before ↦ firm_now told dirty marks log kept.known p before j at
    | inr here ↦ subst (λ k. marks.loose k ≡ false) (sym (some_is i j (sym s.at ∙ (ap (find (current log)) (sym (same_path-true p path here)) ∙ at)))) firm
  ]

  shown_guarded : marks.loose i ≡ false → IsGuarded shown_marks log
  shown_guarded firm = settle_law marks shown_marks log kept.known.guarded (record {
    paths = λ p out. path_by p out (here_or_was p) refl;
    nodes = λ j firm. inl (firm, refl);
    firm = λ p j out may. elim (still_out (marks.aside p) (same_path p path) out) [
      | inl before ↦ kept.known.guarded.firm p j before may
      | inr here ↦ inl (shown_firm firm p j out (sym (settled_here p here (Some j) may)))
    ];
    places = λ j stays. inl stays;
  })
    where
      path_by : (p : Route) → (marks.aside p && not (same_path p path)) ≡ false → (b : Bool) → here_or_was p ≡ b
          → ((marks.aside p ≡ false) × ((let m : Marks = shown_marks in m.was p) ≡ marks.was p)) ⊎ IsSettledAt log p
      path_by p out true is = inr (settled_there p out is)
      path_by p out false is = let b = as_before p out is in inl (b.1, b.0)

  firm_marked : marks.loose i ≡ false → IsMarked marks (marks_with_mode i (node (current log) i).mode shown_marks) log path i mode
  firm_marked firm = record {
    guarded = setting_law.sets shown_marks log i mode (shown_guarded firm) there firm s.no_mode;
    aside = λ p is. still_aside (marks.aside p) (same_path p path) is;
    was = λ p out. was_by p out (here_or_was p) refl;
    firm = shown_firm firm;
    loose = refl;
    roams = refl;
    moded = λ j before is. by j before (j == i) refl is;
  }
    where
      was_by : (p : Route) → (marks.aside p && not (same_path p path)) ≡ false → (b : Bool) → here_or_was p ≡ b
          → ((let m : Marks = shown_marks in m.was p) ≡ find (current log) p) ⊎ (((let m : Marks = shown_marks in m.was p) ≡ marks.was p) × (marks.aside p ≡ false) × (marks.was p ≡ Some i → ⊥))
      was_by p out true is = inl (was_now p is)
      was_by p out false is = inr (as_before p out is)

      by : (j before : ℕ) (b : Bool) → (j == i) ≡ b → (cond b (Some (node (current log) i).mode) (marks.modes j)) ≡ Some before
          → ((j ≡ i) × (before ≡ (node (current log) i).mode) × ((marks.aside path && not (same_path path path)) ≡ false)) ⊎ ((j ≡ i → ⊥) × (marks.modes j ≡ Some before))
      by j before true same is = inl (eqb-true j i same, some_is (node (current log) i).mode before is, no_more (marks.aside path) (same_path path path) (same_path-self path))
      by j before false off is = inr (λ same. both_ways _ off (eq-eqb j i same), is)

  pub marked : (new : Marks) × IsMarked marks new log path i mode
  marked = by (marks.loose i) refl
    where
      by : (b : Bool) → marks.loose i ≡ b → (new : Marks) × IsMarked marks new log path i mode
      by true loose = (marks, loose_marked loose)
      by false firm = (marks_with_mode i (node (current log) i).mode shown_marks, firm_marked firm)

  node_now : node (current now) i ≡ with_mode mode (node (current log) i)
  node_now = moded_node log i mode there

  told_shows : (p : Route) → visible_tree (current log) p ≡ told.tree p
  told_shows p = kept.known.shows p (λ is. let e : (let o : Option Route = None in o) ≡ Some p = sym s.no_part ∙ is in let x : ⊥ = cc in x)

  -- what the path shows then
  path_shown : visible_tree (current now) path ≡ after.tree path
  path_shown =
      ap (λ o. (let v : Spot = record { value = option_map (λ k. value (node (current now) k)) o; is_mount = option_map_or (starts_mount (current now)) o false } in v)) (found_as path ∙ s.at)
      ∙ (ap (λ n. (let v : Spot = record { value = Some (value n); is_mount = starts_mount (current now) i } in v)) node_now
      ∙ (ap (λ b. (let v : Spot = record { value = Some (value (with_mode mode (node (current log) i))); is_mount = b } in v)) mount_as ∙ sym s.shown))
    where
      mount_as : starts_mount (current now) i ≡ (told.tree path).is_mount
      mount_as = starts_same log sets i ∙ (sym (ap (λ o. option_map_or (starts_mount (current log)) o false) s.at) ∙ ap (λ (x : Spot). x.is_mount) (told_shows path))

  -- and what it showed before
  path_before : (after.earlier path).value ≡ Some (value (with_mode (node (current log) i).mode (node (current now) i)))
  path_before =
      s.earlier ∙ (sym (ap (λ (x : Spot). x.value) (told_shows path)) ∙ (ap (option_map (λ k. value (node (current log) k))) s.at
      ∙ sym (ap (λ n. (let v : Option Value = Some (value (with_mode (node (current log) i).mode n)) in v)) node_now)))

  module _ (new : Marks) (m : IsMarked marks new log path i mode) where
    pub still_none : (j : ℕ) → (j ≡ i → ⊥) → marks.modes j ≡ None → new.modes j ≡ None
    still_none j off none = by (new.modes j) refl
      where
        by : (o : Option ℕ) → new.modes j ≡ o → new.modes j ≡ None
        by None is = is
        by (Some before) is = elim (m.moded j before is) [ inl k ↦ absurd (off k.0) | inr k ↦ some_not_none before (sym none ∙ k.1) ]

    unaltered : (j : ℕ) → (i == j) ≡ false → j < length (current log).nodes → node (current now) j ≡ node (current log) j
    unaltered j off there = unaltered_law log sets j off there

    moded_then : (j before : ℕ) → new.modes j ≡ Some before → is_clean j now.changes ≡ false → HasMode after dirty_after new now j before
    moded_then j before is unclean = elim (m.moded j before is) [
      | inl k ↦ subst (λ n. HasMode after dirty_after new now n before) (sym k.0) (subst (λ n. HasMode after dirty_after new now i n) (sym k.1) (record {
        path = path;
        leads = found_as path ∙ s.at;
        out = k.2;
        listed = s.listed;
        told = s.modes;
        shown = path_before;
      }))
      | inr k ↦ mode_waits_on j before (false_from_ne_true _ (λ same. k.0 (sym (eqb-true i j same)))) k.1 unclean
    ]
      where
        mode_waits_on : (j before : ℕ) → (i == j) ≡ false → marks.modes j ≡ Some before → is_clean j now.changes ≡ false → HasMode after dirty_after new now j before
        mode_waits_on j before off is unclean =
            let h : HasMode told dirty marks log j before = kept.known.moded j before is (unclean_before log sets j off unclean) in
            let apart : same_path h.path path ≡ false = false_from_ne_true _ (λ same.
            both_ways _ off (eq-eqb i j (sym (some_is i j (sym s.at ∙ (ap (find (current log)) (sym (same_path-true h.path path same)) ∙ h.leads)))))) in
            record {
              path = h.path;
              leads = found_as h.path ∙ h.leads;
              out = false_from_ne_true _ (λ aside. both_ways _ h.out (m.aside h.path aside));
              listed = s.more h.path h.listed;
              told = s.modes_more h.path h.told;
              shown = ap (λ (x : Spot). x.value) (s.off h.path apart).1 ∙ (h.shown
                  ∙ ap (λ n. (let v : Option Value = Some (value (with_mode before n)) in v)) (sym (unaltered j off (kept.known.guarded.there h.path j (found_at log h.path (Some j) h.leads)))));
            }

    calm_then : (p : Route) → after.calm p ≡ true → IsCalmPath new now p
    calm_then p there_calm =
        let calm = s.calm p there_calm in
        let before = calm.0 in
        record {
          mode = λ j at.
              let here : find (current log) p ≡ Some j = sym (found_as p) ∙ at in
              elim (before.mode j here) [
                | inl none ↦ inl (still_none j (λ same. calm.1 (find-once (current log) kept.known.guarded.tree p path i (here ∙ ap (λ n. Some n) same) s.at)) none)
                | inr begins ↦ inr (starts_same log sets j ∙ begins)
              ];
          alone = calm_alone told dirty marks log sets kept.known nameless p before.alone;
        }

    shows_then : (p : Route) (b : Bool) → same_path p path ≡ b → visible_tree (current now) p ≡ after.tree p
    shows_then p true same = subst (λ q. visible_tree (current now) q ≡ after.tree q) (sym (same_path-true p path same)) path_shown
    shows_then p false off =
        shows_same log sets p (found_as p) (λ j at. unaltered j (other p j at off) (kept.known.guarded.there p j (found_at log p (Some j) at)))
        ∙ (told_shows p ∙ sym (s.off p off).0)

    was_there_then : (p : Route) (j : ℕ) → new.aside p ≡ false → new.was p ≡ Some j → (j < length (current now).nodes) × (new.loose j ≡ false)
    was_there_then p j out is = elim (m.was p out) [
      | inl now_is ↦
          let at = sym now_is ∙ is in
          (subst (λ n. j < n) (sym nameless.count) (kept.known.guarded.there p j (found_at log p (Some j) at)), m.firm p j out at)
      | inr before ↦
          let t = kept.known.was_there p j before.1 (sym before.0 ∙ is) in
          (subst (λ n. j < n) (sym nameless.count) t.0, ap (λ (f : ℕ → Bool). f j) m.loose ∙ t.1)
    ]

    was_shown_then : (p : Route) → new.aside p ≡ false → (new.was p ≡ find (current now) p) ⊎ ((held (current now) (new.was p) ≡ (after.earlier p).value) × ((j : ℕ) → new.was p ≡ Some j → new.modes j ≡ None))
    was_shown_then p out = elim (m.was p out) [
      | inl now_is ↦ inl (now_is ∙ sym (found_as p))
      | inr before ↦ elim (kept.known.was_shown p before.1) [
        | inl same ↦ inl (before.0 ∙ (same ∙ sym (found_as p)))
        | inr old ↦ inr (
          held_same log sets (new.was p) (λ j is. unaltered j (false_from_ne_true _ (λ same. before.2 (sym before.0 ∙ (is ∙ ap (λ k. Some k) (sym (eqb-true i j same)))))) (kept.known.was_there p j before.1 (sym before.0 ∙ is)).0)
              ∙ (ap (held (current log)) before.0 ∙ (old.0 ∙ sym (ap (λ (x : Spot). x.value) (s.off p (not_here p before.1 before.2)).1))),
          λ j is. still_none j (λ same. before.2 (sym before.0 ∙ (is ∙ ap (λ k. Some k) same))) (old.1 j (sym before.0 ∙ is)),
        )
      ]
    ]
      where
        -- nothing of the thing's own path waits
        not_here : (p : Route) → marks.aside p ≡ false → (marks.was p ≡ Some i → ⊥) → same_path p path ≡ false
        not_here p out off = false_from_ne_true _ (λ same.
            let here = same_path-true p path same in
            off (kept.was p out (ap (way_waits log) here ∙ s.sure) ∙ (ap (find (current log)) here ∙ s.at)))

    -- it alters what stands at its path
    unaltered_at : (p : Route) (j : ℕ) → same_path p path ≡ false → find (current log) p ≡ Some j → alters j sets ≡ false
    unaltered_at p j away at = false_from_ne_true _ (λ same.
        let here : p ≡ path = find-once (current log) kept.known.guarded.tree p path i (at ∙ ap (λ k. Some k) (sym (eqb-true i j same))) s.at in
        both_ways _ away (subst (λ q. same_path q path ≡ true) (sym here) (same_path-self path)))

    pub set_known : IsKnown after dirty_after new now
    set_known = record {
      guarded = m.guarded;
      files = calm_files told dirty marks log sets kept.known nameless;
      moded = moded_then;
      calm = calm_then;
      folders = λ j folder.
          let k = kept.known.folders j (was_folder told dirty marks log sets kept.known nameless j folder) in
          (roaming_still log sets j (new.roams j) refl (elim k.0 [ inl stays ↦ inl (ap (λ (f : ℕ → Bool). f j) m.roams ∙ stays) | inr renamed ↦ inr renamed ]), ap (λ (f : ℕ → Bool). f j) m.loose ∙ k.1);
      aside = λ p is. s.named p (m.aside p is);
      left = λ p is there. elim (kept.known.left p (m.aside p is) (sym (ap is_some (same_quiet log sets (λ g n. refl) p)) ∙ there)) [
        | inl part ↦ absurd (let e : (let o : Option Route = None in o) ≡ Some p = sym s.no_part ∙ part in let x : ⊥ = cc in x)
        | inr among ↦ inr (s.lefts p among)
      ];
      was_there = was_there_then;
      was_shown = was_shown_then;
      shows = λ p other. shows_then p (same_path p path) refl;
      part = λ p is. absurd (let e : (let o : Option Route = None in o) ≡ Some p = sym s.none ∙ is in let x : ⊥ = cc in x);
      tracked = λ f restless. elim (calm_tracked told dirty marks log sets kept.known nameless f restless) [ inl t ↦ inl (t.0, s.more t.0 t.1, t.2) | inr none ↦ inr none ];
      joint = calm_joint told dirty marks log sets kept.known nameless;
      doubts = λ n p waits. s.doubts n p (kept.known.doubts n p (since_before told dirty marks log sets kept.known nameless n p waits));
      written = λ n p j other off there.
          let before : find (current log) p ≡ Some j = sym (found_as p) ∙ there in
          let spared = s.spared n p off in
          clean_since n j log.changes sets (unaltered_at p j spared.1 before)
          (kept.known.written n p j (λ part. let e : (let o : Option Route = None in o) ≡ Some p = sym s.no_part ∙ part in let x : ⊥ = cc in x) spared.0 before);
      stand = λ p there_stands. calm_firm told dirty marks log sets kept.known nameless p (elim (s.folders p there_stands) [ inl before ↦ kept.known.stand p before | inr firm ↦ firm ]);
    }
