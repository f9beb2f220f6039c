-- Calls that change no name keep what is known: a sync, a write to the part that stands, another mode of it.
use Rattle.std.proofs.Common.{◌≡◌, ◌⊎◌, ℕ, ◌<◌, ◌≤◌, Bool, true, false, List, [], ◌∷◌, length, refl, sym, ◌∙◌, ap, subst, inl, inr, Option, Some, None, arith, drop}
use Rattle.std.specs.Prelude.{is_some, ◌==◌}
use Rattle.std.specs.List.{list_any}
use Rattle.std.specs.Option.{option_map, option_map_or}
use Rattle.std.proofs.lemmas.Bool.{false≢true, both_ways, false_from_ne_true}
use Rattle.mc_text.specs.Routes.{Route}
use Rattle.tree_trait.specs.declared.file_system.FileSystem.{FileSystem}
use Rattle.tree_trait.specs.declared.file_system.Mount.{Mount}
use Rattle.tree_trait.specs.FileSystem.{Spot, find, node, value, value_at, starts_mount, visible_tree}
use Rattle.tree_trait.specs.Refusals.{is_folder}
use Rattle.tree_trait.specs.Change.{Change, Nothing, Makes, Moves, Removes, Sets, Writes, Syncs, CallLog, current, with_change, after_change}
use Rattle.tree_trait.specs.CrashImages.{Among, says, alters, is_clean}
use Rattle.tree_trait.specs.Shape.{IsTree}
use Rattle.tree_trait.proofs.Kept.{folder_there}
use Rattle.laws_crash.specs.Guarded.{Marks, IsQuiet, with_mode}
use Rattle.laws_crash.proofs.Guarding.{quiet_law, same_quiet, folder_kept, found_at}
use Rattle.laws_crash.proofs.Leading.{clean_more, current_more}
use Rattle.laws_crash.proofs.Syncing.{unaltered_law}
use Rattle.laws_sessions.specs.Doubt.{is_pending, way_waits, name_waits, is_joint}
use Rattle.laws_sessions.proofs.Pending.{is_within, pending_less, says_at}
use Rattle.laws_sessions.proofs.Knowing.{HistoryFacts, HasMode, IsCalmPath, IsKnown, IsUnreached, held}
use Rattle.laws_sessions.proofs.Resting.{IsBeside, IsOfFiles, IsSureFolder, folder_at, joint_still, stands_at, sure_still, unborn_more}
use Rattle.laws_sessions.proofs.Restless.{is_restless, restless_less}
use Rattle.laws_sessions.proofs.RoamingFolders.{renames_none, roaming_still}
use Rattle.laws_sessions.proofs.Since.{clean_since, pending_since, renamed_since}
use Rattle.laws_sessions.proofs.WaitsAlone.{WaitsAlone, alone_still}
use Rattle.laws_sessions.proofs.WaitsFor.{names_said}

mounts_after : (s : FileSystem) (c : Change) → (after_change s c).mounts ≡ s.mounts
mounts_after s Nothing = refl
mounts_after s (Makes f name made) = refl
mounts_after s (Moves f old g new k r) = refl
mounts_after s (Removes f name k) = refl
mounts_after s (Sets k mode) = refl
mounts_after s (Writes k bytes time) = refl
mounts_after s (Syncs k) = refl

module _ (log : CallLog) (c : Change) where
  -- mounts begin where they began
  pub mounts_same : (current (with_change log c)).mounts ≡ (current log).mounts
  mounts_same = ap (λ (s : FileSystem). s.mounts) (current_more log c) ∙ mounts_after (current log) c

  -- a node that is there keeps its kind
  pub kind_same : (i : ℕ) → i < length (current log).nodes → is_folder (node (current (with_change log c)) i) ≡ is_folder (node (current log) i)
  kind_same i there = ap (λ (s : FileSystem). is_folder (node s i)) (current_more log c) ∙ folder_kept (current log) c i there

  -- what is no folder after the call was none, or it wasn't there
  pub was_bare : (i : ℕ) → is_folder (node (current (with_change log c)) i) ≡ false → is_folder (node (current log) i) ≡ false
  was_bare i bare = by (is_folder (node (current log) i)) refl
    where
      by : (b : Bool) → is_folder (node (current log) i) ≡ b → is_folder (node (current log) i) ≡ false
      by false is = is
      by true is = absurd (both_ways _ bare (kind_same i (folder_there (current log).nodes i is) ∙ is))

  folder_by : (o : Option ℕ) → ((i : ℕ) → o ≡ Some i → i < length (current log).nodes)
      → option_map_or (λ i. is_folder (node (current (with_change log c)) i)) o false ≡ option_map_or (λ i. is_folder (node (current log) i)) o false
  folder_by None there = refl
  folder_by (Some i) there = kind_same i (there i refl)

  -- at a path that leads where it led a folder stands where one stood
  pub folder_same : (p : Route) → find (current (with_change log c)) p ≡ find (current log) p → ((i : ℕ) → find (current log) p ≡ Some i → i < length (current log).nodes)
      → folder_at (current (with_change log c)) p ≡ folder_at (current log) p
  folder_same p same there = ap (λ o. option_map_or (λ i. is_folder (node (current (with_change log c)) i)) o false) same ∙ folder_by (find (current log) p) there

  spot_by : (o : Option ℕ) → ((i : ℕ) → o ≡ Some i → node (current (with_change log c)) i ≡ node (current log) i)
      → (option_map (λ i. value (node (current (with_change log c)) i)) o ≡ option_map (λ i. value (node (current log) i)) o)
      × (option_map_or (starts_mount (current (with_change log c))) o false ≡ option_map_or (starts_mount (current log)) o false)
  spot_by None same = (refl, refl)
  spot_by (Some i) same = (ap (λ n. Some (value n)) (same i refl), ap (λ (ms : List Mount). list_any (λ (m : Mount). m.folder == i) ms) mounts_same)

  -- a path that leads where it led, to a node that is as it was, shows what it showed
  pub shows_same : (p : Route) → find (current (with_change log c)) p ≡ find (current log) p
      → ((i : ℕ) → find (current log) p ≡ Some i → node (current (with_change log c)) i ≡ node (current log) i)
      → visible_tree (current (with_change log c)) p ≡ visible_tree (current log) p
  shows_same p found same =
      let e = spot_by (find (current log) p) same in
      ap (λ o. (let s : Spot = record { value = option_map (λ i. value (node (current (with_change log c)) i)) o; is_mount = option_map_or (starts_mount (current (with_change log c))) o false } in s)) found
      ∙ (ap (λ v. (let s : Spot = record { value = v; is_mount = option_map_or (starts_mount (current (with_change log c))) (find (current log) p) false } in s)) e.0
      ∙ ap (λ m. (let s : Spot = record { value = value_at (current log) p; is_mount = m } in s)) e.1)

  pub starts_same : (i : ℕ) → starts_mount (current (with_change log c)) i ≡ starts_mount (current log) i
  starts_same i = ap (λ (ms : List Mount). list_any (λ (m : Mount). m.folder == i) ms) mounts_same

  -- what isn't clean wasn't before, where the call doesn't alter it
  pub unclean_before : (i : ℕ) → alters i c ≡ false → is_clean i (with_change log c).changes ≡ false → is_clean i log.changes ≡ false
  unclean_before i same unclean = false_from_ne_true _ (λ clean. both_ways _ unclean (clean_more i log.changes c same clean))

  pub held_same : (o : Option ℕ) → ((i : ℕ) → o ≡ Some i → node (current (with_change log c)) i ≡ node (current log) i) → held (current (with_change log c)) o ≡ held (current log) o
  held_same o same = (spot_by o same).0

-- a call that names nothing, and alters nothing that isn't made yet
pub record IsNameless (log : CallLog) (c : Change) : Type 0 where
  pub tree : IsTree (current (with_change log c))
  pub names : (f : ℕ) (m : List ℕ) → says c (length (current log).nodes) f m ≡ None
  pub count : length (current (with_change log c)).nodes ≡ length (current log).nodes
  pub within : is_within c ≡ true
  pub unborn : (i : ℕ) → length (current log).nodes ≤ i → alters i c ≡ false

-- After it each path leads where it led, and waits where it waited.
module _ (said : HistoryFacts) (dirty : List Route) (marks : Marks) (log : CallLog) (c : Change) (known : IsKnown said dirty marks log) (n : IsNameless log c) where
  abbrev now : CallLog
  now = with_change log c

  said_none : (f : ℕ) (m : List ℕ) → is_some (says c 0 f m) ≡ true → ⊥
  said_none f m h = false≢true (sym (ap is_some (n.names f m)) ∙ (sym (says_at c (length (current log).nodes) f m) ∙ h))

  -- what waits waited before
  waited : (f : ℕ) (m : List ℕ) → is_pending f m now.changes ≡ true → is_pending f m log.changes ≡ true
  waited f m h = elim (pending_less f m log.changes c h) [ inl old ↦ old | inr new ↦ absurd (said_none f m new) ]

  waits_not : (f : ℕ) (m : List ℕ) → is_pending f m log.changes ≡ false → is_pending f m now.changes ≡ false
  waits_not f m h = false_from_ne_true _ (λ waits. both_ways _ h (waited f m waits))

  pub was_folder : (i : ℕ) → is_folder (node (current now) i) ≡ true → is_folder (node (current log) i) ≡ true
  was_folder i h = sym (kind_same log c i (subst (λ k. i < k) n.count (folder_there (current now).nodes i h))) ∙ h

  -- a path of which a change waits was one before
  pub waits_before : (p : Route) → name_waits now p ≡ true → name_waits log p ≡ true
  waits_before [] waits = absurd (false≢true waits)
  waits_before (name ∷ up) waits = by (find (current log) up) refl
    where
      in_now : (o : Option ℕ) → find (current log) up ≡ o → option_map_or (λ f. is_pending f name now.changes) o false ≡ true
      in_now o is = sym (ap (λ x. option_map_or (λ f. is_pending f name now.changes) x false) (same_quiet log c n.names up ∙ is)) ∙ waits

      by : (o : Option ℕ) → find (current log) up ≡ o → name_waits log (name ∷ up) ≡ true
      by None is = absurd (false≢true (in_now None is))
      by (Some f) is = ap (λ x. option_map_or (λ g. is_pending g name log.changes) x false) is ∙ waited f name (in_now (Some f) is)

  pub since_before : (count : ℕ) (p : Route) → renamed_since count now p ≡ true → renamed_since count log p ≡ true
  since_before count [] waits = absurd (false≢true waits)
  since_before count (name ∷ up) waits = by (find (current log) up) refl
    where
      in_now : (o : Option ℕ) → find (current log) up ≡ o → option_map_or (λ f. is_pending f name (drop count now.changes)) o false ≡ true
      in_now o is = sym (ap (λ x. option_map_or (λ f. is_pending f name (drop count now.changes)) x false) (same_quiet log c n.names up ∙ is)) ∙ waits

      by : (o : Option ℕ) → find (current log) up ≡ o → renamed_since count log (name ∷ up) ≡ true
      by None is = absurd (false≢true (in_now None is))
      by (Some f) is =
          ap (λ x. option_map_or (λ g. is_pending g name (drop count log.changes)) x false) is
          ∙ elim (pending_since count f name log.changes c (in_now (Some f) is)) [ inl old ↦ old | inr new ↦ absurd (said_none f name new) ]

  -- what isn't in doubt stays so
  calm_sure : (p : Route) (j : ℕ) → find (current log) p ≡ Some j → is_folder (node (current log) j) ≡ true → way_waits log p ≡ false → way_waits now p ≡ false
  calm_sure p j at folder sure = sure_still log c known.guarded.tree
      (λ q g h before holds then. let e : (let o : Option ℕ = Some g in o) ≡ Some h = sym before ∙ (sym (same_quiet log c n.names q) ∙ then) in cc)
      (λ g m k said before then holds. said_none g m said) p j at folder (same_quiet log c n.names p ∙ at) sure

  pub calm_firm : (p : Route) → IsSureFolder log p → IsSureFolder now p
  calm_firm p firm =
      let there = stands_at (current log) p firm.stands in
      record {
        stands = folder_same log c p (same_quiet log c n.names p) (λ i is. known.guarded.there p i (found_at log p (Some i) is)) ∙ firm.stands;
        sure = calm_sure p there.i there.at there.folder firm.sure;
      }

  pub calm_files : IsOfFiles now
  calm_files = record {
    bare = λ i m h. waits_not i m (known.files.bare i m (was_bare log c i h));
    unborn = unborn_more log c n.unborn (let same = n.count in omega (arith, same)) known.files.unborn;
  }

  pub calm_tracked : (f : ℕ) → is_restless f now.changes ≡ true → ((up : Route) × Among dirty up × (find (current now) up ≡ Some f)) ⊎ IsUnreached now f
  calm_tracked f restless = elim (restless_less f log.changes c restless) [
    | inl old ↦ elim (known.tracked f old) [
      | inl t ↦ inl (t.0, t.1, same_quiet log c n.names t.0 ∙ t.2)
      | inr none ↦ inr (λ p leads. none p (sym (same_quiet log c n.names p) ∙ leads))
    ]
    | inr new ↦ absurd (let s = names_said f c new in said_none f s.0 s.1)
  ]

  -- a path leads where it led
  as_before : (q : Route) (g h : ℕ) → find (current log) q ≡ Some g → is_folder (node (current log) g) ≡ true → find (current now) q ≡ Some h → h ≡ g
  as_before q g h before holds then = let e : (let o : Option ℕ = Some g in o) ≡ Some h = sym before ∙ (sym (same_quiet log c n.names q) ∙ then) in cc

  was_at : (q : Route) (g : ℕ) → is_folder (node (current log) g) ≡ true → find (current now) q ≡ Some g → find (current log) q ≡ Some g
  was_at q g holds then = sym (same_quiet log c n.names q) ∙ then

  pub calm_joint : (f g : ℕ) (up : Route) → is_joint f g now.changes ≡ true → find (current now) up ≡ Some f → IsBeside now up g
  calm_joint = joint_still log c known.guarded.tree known.files n.within (starts_same log c) as_before was_at (λ q f g joint at. same_quiet log c n.names q ∙ at) known.joint

  pub calm_alone : (p : Route) → WaitsAlone log p → WaitsAlone now p
  calm_alone p alone = alone_still log c known.files was_at n.within p alone

-- a quiet call, and what it alters is nothing that can be seen but the part that stands
pub record IsCalm (said : HistoryFacts) (marks : Marks) (log : CallLog) (c : Change) : Type 0 where
  pub quiet : IsQuiet marks log c
  pub within : is_within c ≡ true
  pub still : (p : Route) (i : ℕ) → (said.part ≡ Some p → ⊥) → find (current log) p ≡ Some i → alters i c ≡ false
  pub unborn : (i : ℕ) → length (current log).nodes ≤ i → alters i c ≡ false
  -- no mode of it waits
  pub moded : (i : ℕ) → alters i c ≡ true → marks.modes i ≡ None

module _ (said : HistoryFacts) (dirty : List Route) (marks : Marks) (log : CallLog) (c : Change) (known : IsKnown said dirty marks log) (calm : IsCalm said marks log c) where
  quiet_of : IsQuiet marks log c
  quiet_of = calm.quiet

  nameless : IsNameless log c
  nameless = record { tree = quiet_of.tree; names = quiet_of.names; count = quiet_of.count; within = calm.within; unborn = calm.unborn }

  unaltered : (i : ℕ) → alters i c ≡ false → i < length (current log).nodes → node (current (with_change log c)) i ≡ node (current log) i
  unaltered i same there = unaltered_law log c i same there

  moded_still : (i before : ℕ) → marks.modes i ≡ Some before → is_clean i (with_change log c).changes ≡ false → HasMode said dirty marks (with_change log c) i before
  moded_still i before is unclean = by (alters i c) refl
    where
      by : (b : Bool) → alters i c ≡ b → HasMode said dirty marks (with_change log c) i before
      by true altered = absurd (let none = calm.moded i altered in let e : (let o : Option ℕ = None in o) ≡ Some before = sym none ∙ is in let f : ⊥ = cc in f)
      by false same =
          let h = known.moded i before is (unclean_before log c i same unclean) in
          let there = known.guarded.there h.path i (found_at log h.path (Some i) h.leads) in
          record {
            path = h.path;
            leads = same_quiet log c quiet_of.names h.path ∙ h.leads;
            out = h.out;
            listed = h.listed;
            told = h.told;
            shown = h.shown ∙ ap (λ n. Some (value (with_mode before n))) (sym (unaltered i same there));
          }

  calm_still : (p : Route) → said.calm p ≡ true → IsCalmPath marks (with_change log c) p
  calm_still p there =
      let calm = known.calm p there in
      record {
        mode = λ i at. elim (calm.mode i (sym (same_quiet log c quiet_of.names p) ∙ at)) [ inl none ↦ inl none | inr begins ↦ inr (starts_same log c i ∙ begins) ];
        alone = calm_alone said dirty marks log c known nameless p calm.alone;
      }

  pub calm_known : IsKnown said dirty marks (with_change log c)
  calm_known = record {
    guarded = quiet_law marks log c known.guarded quiet_of;
    files = calm_files said dirty marks log c known nameless;
    moded = moded_still;
    calm = calm_still;
    folders = λ i folder.
        let k = known.folders i (was_folder said dirty marks log c known nameless i folder) in
        (roaming_still log c i (marks.roams i) (renames_none i c (length (current log).nodes) quiet_of.names) k.0, k.1);
    aside = known.aside;
    left = λ p is there. known.left p is (sym (ap is_some (same_quiet log c quiet_of.names p)) ∙ there);
    was_there = λ p i out is. let t = known.was_there p i out is in (subst (λ n. i < n) (sym quiet_of.count) t.0, t.1);
    was_shown = λ p out. elim (known.was_shown p out) [
      | inl same ↦ inl (same ∙ sym (same_quiet log c quiet_of.names p))
      | inr shown ↦ inr (held_same log c (marks.was p) (λ i is. let t = known.was_there p i out is in unaltered i (quiet_of.others i t.1) t.0) ∙ shown.0, shown.1)
    ];
    shows = λ p other. shows_same log c p (same_quiet log c quiet_of.names p) (λ i is. unaltered i (calm.still p i other is) (known.guarded.there p i (found_at log p (Some i) is))) ∙ known.shows p other;
    part = λ p is. let k = known.part p is in (k.0, k.1, ap is_some (same_quiet log c quiet_of.names p) ∙ k.2);
    tracked = calm_tracked said dirty marks log c known nameless;
    joint = calm_joint said dirty marks log c known nameless;
    doubts = λ n p waits. known.doubts n p (since_before said dirty marks log c known nameless n p waits);
    written = λ n p i other off at.
        let before : find (current log) p ≡ Some i = sym (same_quiet log c quiet_of.names p) ∙ at in clean_since n i log.changes c (calm.still p i other before) (known.written n p i other off before);
    stand = λ p there. calm_firm said dirty marks log c known nameless p (known.stand p there);
  }
