-- What is known of a tree at each moment of a session: of each path what it shows, and what it may lead to after a crash.
use Rattle.std.proofs.Common.{◌≡◌, ◌⊎◌, ℕ, ◌<◌, Bool, true, false, not, ◌&&◌, ◌||◌, List, ◌∷◌, length, refl, sym, ◌∙◌, ap, subst, inl, inr, Option, Some, None, cond, drop}
use Rattle.std.specs.Prelude.{is_some}
use Rattle.std.specs.Option.{option_map, option_map_or}
use Rattle.std.proofs.lemmas.Bool.{true≢false, false≢true, and_from, and_parts, both_ways, not-false, or_cases, or_left, or_right}
use Rattle.mc_text.specs.Routes.{Route}
use Rattle.tree_trait.specs.declared.file_system.FileSystem.{FileSystem}
use Rattle.tree_trait.specs.FileSystem.{Value, Spot, View, find, node, starts_mount, value, value_at, visible_tree}
use Rattle.tree_trait.specs.Refusals.{is_folder}
use Rattle.tree_trait.specs.Change.{CallLog, current}
use Rattle.tree_trait.specs.CrashImages.{Among, is_clean}
use Rattle.tree_trait.proofs.Finding.{find-once}
use Rattle.laws_crash.specs.Possible.{MayFind, IsImage}
use Rattle.laws_crash.specs.Guarded.{Marks, HasOneName, IsGuarded, IsOnDisk, Holds, Shows, with_mode}
use Rattle.laws_crash.proofs.Guarding.{settle_law, guard_law, found_at}
use Rattle.laws_sessions.specs.Doubt.{is_unsettled, name_waits, node_waits, way_waits, is_joint}
use Rattle.laws_sessions.proofs.InTransit.{WasRenamed, is_in_transit, one_name}
use Rattle.laws_sessions.proofs.Resting.{IsBeside, IsOfFiles, IsSureFolder, settled_unless}
use Rattle.laws_sessions.proofs.Restless.{is_restless}
use Rattle.laws_sessions.proofs.Since.{renamed_since}
use Rattle.laws_sessions.proofs.WaitsAlone.{WaitsAlone}

-- what a history says: what each path shows, what it showed before its last change, the paths that were named as parts, the parts that
-- ended jobs left, the part that stands, of which names a change may wait for a sync that was made after so many calls, and at which paths something may have been
-- altered after them; where folders are known to stand on the disk; of which paths a mode may wait, and the paths of which it says that they are calm
pub record HistoryFacts : Type 0 where
  pub tree : View
  pub earlier : View
  pub named : List Route
  pub left : List Route
  pub part : Option Route
  pub doubt : ℕ → Route → Bool
  pub written : ℕ → Route → Bool
  pub folders : Route → Bool
  pub modes : Route → Bool
  pub calm : Route → Bool

-- of any path
abbrev pub anywhere : Route → Bool
anywhere p = true

-- and after any call
abbrev pub any_since : ℕ → Route → Bool
any_since n = anywhere

-- what can be seen of a node
abbrev pub held : FileSystem → Option ℕ → Option Value
held s o = option_map (λ i. value (node s i)) o

abbrev pub nowhere : Spot
nowhere = record { value = None; is_mount = false }

-- no path leads to this node
abbrev pub IsUnreached : CallLog → ℕ → Type 0
IsUnreached log f = (p : Route) → find (current log) p ≡ Some f → ⊥

-- No mode of what stood there waits.
abbrev pub HasNoMode : Marks → Option ℕ → Type 0
HasNoMode marks o = (i : ℕ) → o ≡ Some i → marks.modes i ≡ None

-- The node's mode waits, which was this one before: it stands at a dirty path, which showed it so before.
pub record HasMode (said : HistoryFacts) (dirty : List Route) (marks : Marks) (log : CallLog) (i before : ℕ) : Type 0 where
  pub path : Route
  pub leads : find (current log) path ≡ Some i
  pub out : marks.aside path ≡ false
  pub listed : Among dirty path
  pub told : said.modes path ≡ true
  pub shown : (said.earlier path).value ≡ Some (value (with_mode before (node (current log) i)))

-- no mode waits of what stands in this folder, but where another mount begins
abbrev pub IsCalmIn : Marks → FileSystem → Route → Type 0
IsCalmIn marks s up = (name : List ℕ) (i : ℕ) → find s (name ∷ up) ≡ Some i → (marks.modes i ≡ None) ⊎ (starts_mount s i ≡ true)

-- nor of what stands at this path, but where another mount begins
abbrev pub HasCalmMode : Marks → FileSystem → Route → Type 0
HasCalmMode marks s path = (i : ℕ) → find s path ≡ Some i → (marks.modes i ≡ None) ⊎ (starts_mount s i ≡ true)

-- a path of which that is so, and whose name waits for no sync but its own folder's
pub record IsCalmPath (marks : Marks) (log : CallLog) (path : Route) : Type 0 where
  pub mode : HasCalmMode marks (current log) path
  pub alone : WaitsAlone log path

-- What is known, and kept by each call. The marks say what stood at each path before the work under way there.
pub record IsKnown (said : HistoryFacts) (dirty : List Route) (marks : Marks) (log : CallLog) : Type 0 where
  pub guarded : IsGuarded marks log
  pub files : IsOfFiles log
  -- a mode that waits is of a dirty path
  pub moded : (i before : ℕ) → marks.modes i ≡ Some before → is_clean i log.changes ≡ false → HasMode said dirty marks log i before
  pub calm : (p : Route) → said.calm p ≡ true → IsCalmPath marks log p
  -- a folder is never loose, and it roams only where it was renamed
  pub folders : (i : ℕ) → is_folder (node (current log) i) ≡ true → ((marks.roams i ≡ false) ⊎ WasRenamed log i) × (marks.loose i ≡ false)
  pub aside : (p : Route) → marks.aside p ≡ true → Among said.named p
  -- a part that stands is the live job's, or an ended one left it
  pub left : (p : Route) → marks.aside p ≡ true → is_some (find (current log) p) ≡ true → (said.part ≡ Some p) ⊎ Among said.left p
  pub was_there : (p : Route) (i : ℕ) → marks.aside p ≡ false → marks.was p ≡ Some i → (i < length (current log).nodes) × (marks.loose i ≡ false)
  pub was_shown : (p : Route) → marks.aside p ≡ false → (marks.was p ≡ find (current log) p) ⊎ ((held (current log) (marks.was p) ≡ (said.earlier p).value) × HasNoMode marks (marks.was p))
  pub shows : (p : Route) → (said.part ≡ Some p → ⊥) → visible_tree (current log) p ≡ said.tree p
  pub part : (p : Route) → said.part ≡ Some p → (marks.aside p ≡ true) × (said.tree p ≡ nowhere) × (is_some (find (current log) p) ≡ true)
  -- a folder of which a name was changed after its last sync is dirty, or no path leads to it any more
  pub tracked : (f : ℕ) → is_restless f log.changes ≡ true → ((up : Route) × Among dirty up × (find (current log) up ≡ Some f)) ⊎ IsUnreached log f
  -- two folders for which a renaming waits lie on one mount
  pub joint : (f g : ℕ) (up : Route) → is_joint f g log.changes ≡ true → find (current log) up ≡ Some f → IsBeside log up g
  pub doubts : (n : ℕ) (p : Route) → renamed_since n log p ≡ true → said.doubt n p ≡ true
  -- a call alters nothing that can be seen but the part that stands, and what a report names
  pub written : (n : ℕ) (p : Route) (i : ℕ) → (said.part ≡ Some p → ⊥) → said.written n p ≡ false → find (current log) p ≡ Some i → is_clean i (drop n log.changes) ≡ true
  pub stand : (p : Route) → said.folders p ≡ true → IsSureFolder log p

-- a folder that roams is in transit
abbrev pub RoamInTransit : Marks → CallLog → Type 0
RoamInTransit marks log = (i : ℕ) → is_folder (node (current log) i) ≡ true → marks.roams i ≡ true → is_in_transit i log.changes ≡ true

-- and where nothing waits nothing is left open
pub record IsKept (said : HistoryFacts) (dirty : List Route) (marks : Marks) (log : CallLog) : Type 0 where
  pub known : IsKnown said dirty marks log
  pub aside : (p : Route) → marks.aside p ≡ true → (way_waits log p ≡ true) ⊎ (is_some (find (current log) p) ≡ true)
  pub was : (p : Route) → marks.aside p ≡ false → way_waits log p ≡ false → marks.was p ≡ find (current log) p
  pub modes : (i : ℕ) → is_clean i log.changes ≡ true → marks.modes i ≡ None
  pub roams : RoamInTransit marks log

-- the marks, where all is taken back that waits for nothing
abbrev pub settled_marks : CallLog → Marks → Marks
settled_marks log marks = record marks {
  was = λ p. cond (way_waits log p) (marks.was p) (find (current log) p);
  aside = λ p. marks.aside p && (way_waits log p || is_some (find (current log) p));
  modes = λ i. cond (is_clean i log.changes) None (marks.modes i);
  roams = λ i. marks.roams i && (is_in_transit i log.changes || not (is_folder (node (current log) i)));
}

-- of what is no folder it says what it said
pub bare_roams : (log : CallLog) (marks : Marks) (i : ℕ) → is_folder (node (current log) i) ≡ false → marks.roams i ≡ true → (let m : Marks = settled_marks log marks in m.roams i) ≡ true
bare_roams log marks i bare roams = and_from (marks.roams i) (is_in_transit i log.changes || not (is_folder (node (current log) i))) roams (or_right (is_in_transit i log.changes) (not (is_folder (node (current log) i))) (ap not bare))

none_of : (o : Option ℕ) → is_some o ≡ false → o ≡ None
none_of None h = refl
none_of (Some i) h = absurd (true≢false h)

some_none : {A : Type 0} (x : ℕ) → (let o : Option ℕ = Some x in o) ≡ None → A
some_none x h = absurd (let e : ⊥ = cc in e)

is_some_of : (o : Option ℕ) (x : ℕ) → o ≡ Some x → is_some o ≡ true
is_some_of o x h = ap is_some h

neither : (a b : Bool) → (a || b) ≡ false → (a ≡ false) × (b ≡ false)
neither true b h = absurd (true≢false h)
neither false b h = (refl, h)

module _ (said : HistoryFacts) (dirty : List Route) (marks : Marks) (log : CallLog) (known : IsKnown said dirty marks log) where
  abbrev after : Marks
  after = settled_marks log marks

  -- what isn't aside any more wasn't, or it waits for nothing and nothing stands there
  out_by : (p : Route) (a u : Bool) → marks.aside p ≡ a → way_waits log p ≡ u → (a && (u || is_some (find (current log) p))) ≡ false
      → (marks.aside p ≡ false) ⊎ ((way_waits log p ≡ false) × (find (current log) p ≡ None))
  out_by p false u a_is u_is h = inl a_is
  out_by p true true a_is u_is h = absurd (true≢false h)
  out_by p true false a_is u_is h = inr (u_is, none_of _ h)

  out : (p : Route) → after.aside p ≡ false → (marks.aside p ≡ false) ⊎ ((way_waits log p ≡ false) × (find (current log) p ≡ None))
  out p h = out_by p (marks.aside p) (way_waits log p) refl refl h

  was_if : (p : Route) (u : Bool) → way_waits log p ≡ u → (u ≡ true → after.was p ≡ marks.was p) × (u ≡ false → after.was p ≡ find (current log) p)
  was_if p true u_is = (λ _. ap (λ b. cond b (marks.was p) (find (current log) p)) u_is, λ h. absurd (true≢false h))
  was_if p false u_is = (λ h. absurd (false≢true h), λ _. ap (λ b. cond b (marks.was p) (find (current log) p)) u_is)

  paths : (p : Route) → after.aside p ≡ false → (u : Bool) → way_waits log p ≡ u → ((marks.aside p ≡ false) × (after.was p ≡ marks.was p)) ⊎ ((x : Option ℕ) → MayFind log p x → x ≡ find (current log) p)
  paths p h false u_is = inr (settled_unless log p u_is)
  paths p h true u_is = elim (out p h) [
    | inl is ↦ inl (is, (was_if p true u_is).0 refl)
    | inr gone ↦ absurd (both_ways _ gone.0 u_is)
  ]

  solid : (p : Route) (i : ℕ) → after.aside p ≡ false → MayFind log p (Some i) → (marks.loose i ≡ false) ⊎ (is_folder (node (current log) i) ≡ true)
  solid p i h found = elim (out p h) [
    | inl is ↦ known.guarded.firm p i is found
    | inr gone ↦ some_none i (settled_unless log p gone.0 (Some i) found ∙ gone.1)
  ]

  -- of what is clean no mode waits
  modes_if : (i : ℕ) → marks.loose i ≡ false → (b : Bool) → is_clean i log.changes ≡ b → ((marks.loose i ≡ false) × (after.modes i ≡ marks.modes i)) ⊎ ((is_clean i log.changes ≡ true) × (after.modes i ≡ None))
  modes_if i firm true is = inr (is, ap (λ b. cond b (let o : Option ℕ = None in o) (marks.modes i)) is)
  modes_if i firm false is = inl (firm, ap (λ b. cond b (let o : Option ℕ = None in o) (marks.modes i)) is)

  still_none : (i : ℕ) → marks.modes i ≡ None → after.modes i ≡ None
  still_none i none = by (is_clean i log.changes)
    where
      by : (b : Bool) → cond b (let o : Option ℕ = None in o) (marks.modes i) ≡ None
      by true = refl
      by false = none

  moded_by : (i before : ℕ) → after.modes i ≡ Some before → is_clean i log.changes ≡ false → HasMode said dirty after log i before
  moded_by i before is unclean =
      let h = known.moded i before (sym (ap (λ b. cond b (let o : Option ℕ = None in o) (marks.modes i)) unclean) ∙ is) unclean in
      record { path = h.path; leads = h.leads; out = ap (λ a. a && (way_waits log h.path || is_some (find (current log) h.path))) h.out; listed = h.listed; told = h.told; shown = h.shown }

  calm_by : (p : Route) → said.calm p ≡ true → IsCalmPath after log p
  calm_by p there =
      let calm = known.calm p there in
      record { mode = λ i at. elim (calm.mode i at) [ inl none ↦ inl (still_none i none) | inr begins ↦ inr begins ]; alone = calm.alone }

  firm_of : (i : ℕ) → (marks.loose i ≡ false) ⊎ (is_folder (node (current log) i) ≡ true) → marks.loose i ≡ false
  firm_of i (inl firm) = firm
  firm_of i (inr folder) = (known.folders i folder).1

  -- a folder that roams no more has one name
  places : (i : ℕ) (r : Bool) → marks.roams i ≡ r → (r && (is_in_transit i log.changes || not (is_folder (node (current log) i)))) ≡ false → (marks.roams i ≡ false) ⊎ HasOneName log i
  places i false is h = inl is
  places i true is h =
      let both = neither (is_in_transit i log.changes) (not (is_folder (node (current log) i))) h in
      elim (known.folders i (not-false _ both.1)).0 [ inl stays ↦ inl stays | inr renamed ↦ inr (one_name log i renamed both.0) ]

  in_transit : (i : ℕ) → is_folder (node (current log) i) ≡ true → after.roams i ≡ true → is_in_transit i log.changes ≡ true
  in_transit i folder roams = elim (or_cases (is_in_transit i log.changes) (not (is_folder (node (current log) i))) (and_parts (marks.roams i) (is_in_transit i log.changes || not (is_folder (node (current log) i))) roams).1) [
    | inl transit ↦ transit
    | inr bare ↦ absurd (false≢true (sym (ap not folder) ∙ bare))
  ]

  pub settled_guarded : IsGuarded after log
  settled_guarded = settle_law marks after log known.guarded (record {
    paths = λ p h. paths p h (way_waits log p) refl;
    nodes = λ i firm. modes_if i firm (is_clean i log.changes) refl;
    firm = solid;
    places = λ i stays. places i (marks.roams i) refl stays;
  })

  there_by : (p : Route) (i : ℕ) → after.aside p ≡ false → after.was p ≡ Some i → (u : Bool) → way_waits log p ≡ u → (i < length (current log).nodes) × (marks.loose i ≡ false)
  there_by p i h is true u_is = elim (out p h) [
    | inl aside ↦ known.was_there p i aside (sym ((was_if p true u_is).0 refl) ∙ is)
    | inr gone ↦ absurd (both_ways _ gone.0 u_is)
  ]
  there_by p i h is false u_is =
      let at = found_at log p (Some i) (sym ((was_if p false u_is).1 refl) ∙ is) in
      (known.guarded.there p i at, firm_of i (solid p i h at))

  shown_by : (p : Route) → after.aside p ≡ false → (u : Bool) → way_waits log p ≡ u → (after.was p ≡ find (current log) p) ⊎ ((held (current log) (after.was p) ≡ (said.earlier p).value) × HasNoMode after (after.was p))
  shown_by p h false u_is = inl ((was_if p false u_is).1 refl)
  shown_by p h true u_is = elim (out p h) [
    | inl aside ↦
        let same = (was_if p true u_is).0 refl in
        elim (known.was_shown p aside) [ inl now ↦ inl (same ∙ now) | inr old ↦ inr (ap (held (current log)) same ∙ old.0, λ i is. still_none i (old.1 i (sym same ∙ is))) ]
    | inr gone ↦ absurd (both_ways _ gone.0 u_is)
  ]

  aside_of : (p : Route) (a : Bool) → marks.aside p ≡ a → (a && (way_waits log p || is_some (find (current log) p))) ≡ true
      → (marks.aside p ≡ true) × ((way_waits log p ≡ true) ⊎ (is_some (find (current log) p) ≡ true))
  aside_of p false a_is h = absurd (false≢true h)
  aside_of p true a_is h = (a_is, either (way_waits log p) (is_some (find (current log) p)) h)
    where
      either : (u s : Bool) → (u || s) ≡ true → (u ≡ true) ⊎ (s ≡ true)
      either true s h = inl refl
      either false s h = inr h

  still_aside : (p : Route) → marks.aside p ≡ true → is_some (find (current log) p) ≡ true → after.aside p ≡ true
  still_aside p a s = ap (λ b. b && (way_waits log p || is_some (find (current log) p))) a ∙ or_right _ _ s

  pub settled_kept : IsKept said dirty after log
  settled_kept = record {
    known = record {
      guarded = settled_guarded;
      files = known.files;
      moded = moded_by;
      calm = calm_by;
      folders = λ i folder.
          let k = known.folders i folder in
          (elim k.0 [ inl stays ↦ inl (ap (λ b. b && (is_in_transit i log.changes || not (is_folder (node (current log) i)))) stays) | inr renamed ↦ inr renamed ], k.1);
      aside = λ p h. known.aside p (aside_of p (marks.aside p) refl h).0;
      left = λ p h there. known.left p (aside_of p (marks.aside p) refl h).0 there;
      was_there = λ p i h is. there_by p i h is (way_waits log p) refl;
      was_shown = λ p h. shown_by p h (way_waits log p) refl;
      shows = known.shows;
      part = λ p is. let k = known.part p is in (still_aside p k.0 k.2, k.1, k.2);
      tracked = known.tracked;
      joint = known.joint;
      doubts = known.doubts;
      written = known.written;
      stand = known.stand;
    };
    aside = λ p h. (aside_of p (marks.aside p) refl h).1;
    was = λ p h sure. (was_if p false sure).1 refl;
    modes = λ i clean. ap (λ b. cond b (let o : Option ℕ = None in o) (marks.modes i)) clean;
    roams = in_transit;
  }

-- What stands at a path that isn't a part's.
module _ (said : HistoryFacts) (dirty : List Route) (marks : Marks) (log : CallLog) (known : IsKnown said dirty marks log) where
  pub firm_now : (p : Route) → marks.aside p ≡ false → (i : ℕ) → find (current log) p ≡ Some i → marks.loose i ≡ false
  firm_now p out i is = elim (known.guarded.firm p i out (found_at log p (Some i) is)) [ inl firm ↦ firm | inr folder ↦ (known.folders i folder).1 ]

  -- where no mode of it waits it is on the disk
  pub clean_now : (p : Route) → marks.aside p ≡ false → (i : ℕ) → find (current log) p ≡ Some i → marks.modes i ≡ None → is_clean i log.changes ≡ true
  clean_now p out i is none = subst (IsOnDisk log i) none (known.guarded.clean i (firm_now p out i is))

  -- what waits there is a mode, of a dirty path
  pub mode_waits : (p : Route) → marks.aside p ≡ false → node_waits log p ≡ true → Among dirty p × (said.modes p ≡ true)
  mode_waits p out waits = by (find (current log) p) refl
    where
      of_node : (i : ℕ) → find (current log) p ≡ Some i → is_clean i log.changes ≡ false → (o : Option ℕ) → marks.modes i ≡ o → Among dirty p × (said.modes p ≡ true)
      of_node i is unclean None mode = absurd (both_ways _ unclean (clean_now p out i is mode))
      of_node i is unclean (Some before) mode =
          let h = known.moded i before mode unclean in
          let same = find-once (current log) known.guarded.tree h.path p i h.leads is in (subst (λ q. Among dirty q) same h.listed, subst (λ q. said.modes q ≡ true) same h.told)

      by : (o : Option ℕ) → find (current log) p ≡ o → Among dirty p × (said.modes p ≡ true)
      by None is = absurd (false≢true (sym (ap (λ x. option_map_or (λ i. not (is_clean i log.changes)) x false) is) ∙ waits))
      by (Some i) is = of_node i is (not_clean (is_clean i log.changes) (sym (ap (λ x. option_map_or (λ i. not (is_clean i log.changes)) x false) is) ∙ waits)) (marks.modes i) refl
        where
          not_clean : (b : Bool) → not b ≡ true → b ≡ false
          not_clean true h = absurd (false≢true h)
          not_clean false h = refl

-- what isn't clean at a path waits there
pub waits_there : (log : CallLog) (p : Route) (i : ℕ) → find (current log) p ≡ Some i → is_clean i log.changes ≡ false → node_waits log p ≡ true
waits_there log p i is unclean = ap (λ o. option_map_or (λ k. not (is_clean k log.changes)) o false) is ∙ ap not unclean

-- So each crash image is safe.
module _ (said : HistoryFacts) (dirty : List Route) (marks : Marks) (log : CallLog) (kept : IsKept said dirty marks log) (image : FileSystem) (left : IsImage log image) where
  open_known : IsKnown said dirty marks log
  open_known = kept.known

  -- a path holds what the history says, or it is in doubt and holds what it held before
  abbrev pub IsTold : Route → Option Value → Type 0
  IsTold p v = (v ≡ (said.tree p).value) ⊎ ((is_unsettled log p ≡ true) × (v ≡ (said.earlier p).value))

  -- the part that stands is aside
  no_part : (p : Route) → marks.aside p ≡ false → said.part ≡ Some p → ⊥
  no_part p out is = both_ways _ out (kept.known.part p is).0

  as_told : (p : Route) (v : Option Value) → (said.part ≡ Some p → ⊥) → v ≡ held (current log) (find (current log) p) → v ≡ (said.tree p).value
  as_told p v other same = same ∙ ap (λ (s : Spot). s.value) (kept.known.shows p other)

  -- a node holds what it shows, if it is on the disk and no mode of it waits
  seen_by : (o : Option ℕ) (v : Option Value) → ((i : ℕ) → o ≡ Some i → (marks.loose i ≡ false) × (marks.modes i ≡ None)) → Holds marks (current log) v o → v ≡ held (current log) o
  seen_by None v firm holds = holds
  seen_by (Some i) v firm holds = let f = firm i refl in subst (λ before. Shows before v (node (current log) i)) f.1 (holds.1 f.0)

  -- what stands at a path, as it stands, or with the mode before
  now_by : (p : Route) (v : Option Value) → marks.aside p ≡ false → (o : Option ℕ) → find (current log) p ≡ o → Holds marks (current log) v o → IsTold p v
  now_by p v out None is holds = inl (as_told p v (no_part p out) (holds ∙ sym (ap (held (current log)) is)))
  now_by p v out (Some i) is holds = by (marks.modes i) refl (holds.1 (firm_now said dirty marks log kept.known p out i is))
    where
      stands : v ≡ Some (value (node (current log) i)) → IsTold p v
      stands same = inl (as_told p v (no_part p out) (same ∙ sym (ap (held (current log)) is)))

      old_mode : (before : ℕ) → marks.modes i ≡ Some before → v ≡ Some (value (with_mode before (node (current log) i))) → (b : Bool) → is_clean i log.changes ≡ b → IsTold p v
      old_mode before mode old true clean = absurd (let none = kept.modes i clean in let e : (let o : Option ℕ = None in o) ≡ Some before = sym none ∙ mode in let f : ⊥ = cc in f)
      old_mode before mode old false unclean =
          let h = kept.known.moded i before mode unclean in
          let same = find-once (current log) kept.known.guarded.tree h.path p i h.leads is in
          inr (or_right _ _ (waits_there log p i is unclean), old ∙ sym (subst (λ q. (said.earlier q).value ≡ Some (value (with_mode before (node (current log) i)))) same h.shown))

      by : (mode : Option ℕ) → marks.modes i ≡ mode → Shows mode v (node (current log) i) → IsTold p v
      by None mode shows = stands shows
      by (Some before) mode (inl same) = stands same
      by (Some before) mode (inr old) = old_mode before mode old (is_clean i log.changes) refl

  pub safe_out : (p : Route) → marks.aside p ≡ false → IsTold p (value_at image p)
  safe_out p out = by (way_waits log p) refl (guard_law marks log image p kept.known.guarded left out)
    where
      now_is : Holds marks (current log) (value_at image p) (find (current log) p) → IsTold p (value_at image p)
      now_is holds = now_by p (value_at image p) out (find (current log) p) refl holds

      by : (u : Bool) → way_waits log p ≡ u → Holds marks (current log) (value_at image p) (find (current log) p) ⊎ Holds marks (current log) (value_at image p) (marks.was p) → IsTold p (value_at image p)
      by u u_is (inl now) = now_is now
      by false u_is (inr old) = now_is (subst (Holds marks (current log) (value_at image p)) (kept.was p out u_is) old)
      by true u_is (inr old) = elim (kept.known.was_shown p out) [
        | inl same ↦ now_is (subst (Holds marks (current log) (value_at image p)) same old)
        | inr shown ↦ inr (or_left _ _ u_is, seen_by (marks.was p) (value_at image p) (λ i is. ((kept.known.was_there p i out is).1, shown.1 i is)) old ∙ shown.0)
      ]

  pub safe_path : (p : Route) → (Among said.named p → (is_some (find (current log) p) ≡ true) ⊎ (is_unsettled log p ≡ true) → ⊥) → IsTold p (value_at image p)
  safe_path p apart = by (marks.aside p) refl
    where
      by : (a : Bool) → marks.aside p ≡ a → IsTold p (value_at image p)
      by false out = safe_out p out
      by true is = absurd (apart (kept.known.aside p is) (elim (kept.aside p is) [ inl waits ↦ inr (or_left _ _ waits) | inr stands ↦ inl stands ]))
