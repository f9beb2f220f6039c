-- A path leads only where it leads, of which no name waits, nor that of a folder above it; and a path that is not in doubt stays
-- so, as long as no name on its way is changed.
use Rattle.std.proofs.Common.{◌≡◌, ℕ, ◌≤◌, Bool, true, false, ◌||◌, List, [], ◌∷◌, ◌++◌, length, refl, sym, ◌∙◌, ap, subst, inl, inr, Option, Some, None, arith, cond}
use Rattle.std.specs.Prelude.{is_some, option_and_then}
use Rattle.std.specs.Option.{option_map_or}
use Rattle.std.proofs.lemmas.Bool.{true≢false, false≢true, both_ways, false_from_ne_true}
use Rattle.mc_text.specs.Routes.{Route}
use Rattle.tree_trait.specs.declared.file_system.FileSystem.{FileSystem}
use Rattle.tree_trait.specs.FileSystem.{lookup, find, node, starts_mount}
use Rattle.tree_trait.specs.Shape.{IsTree}
use Rattle.tree_trait.specs.Refusals.{is_folder, mount_here, mount_of}
use Rattle.tree_trait.specs.Change.{Change, CallLog, current, with_change}
use Rattle.tree_trait.specs.CrashImages.{alters, is_clean, says}
use Rattle.tree_trait.proofs.Finding.{and_then-some}
use Rattle.laws_crash.specs.Possible.{MayLead, Leads}
use Rattle.laws_crash.specs.Guarded.{IsSettledAt}
use Rattle.laws_crash.proofs.Leading.{clean_more}
use Rattle.job_reports.specs.Paths.{folder_of}
use Rattle.laws_sessions.specs.Doubt.{is_pending, way_waits, name_waits, is_joint, joins}
use Rattle.laws_sessions.proofs.Pending.{is_within, leads_only, pending_less}
use Rattle.laws_sessions.proofs.Restless.{IsUnjoined, is_restless, joint_before, joint_less, joint_swap, unjoined_within}
use Rattle.laws_sessions.proofs.WaitsFor.{joint_pending, restless_pending}

-- a folder stands at this path
abbrev pub folder_at : FileSystem → Route → Bool
folder_at s p = option_map_or (λ i. is_folder (node s i)) (find s p) false

pub folder_at_of : (s : FileSystem) (p : Route) (i : ℕ) → find s p ≡ Some i → is_folder (node s i) ≡ true → folder_at s p ≡ true
folder_at_of s p i at folder = ap (λ o. option_map_or (λ j. is_folder (node s j)) o false) at ∙ folder

-- the node of a folder that stands
pub record IsFolderAt (s : FileSystem) (p : Route) : Type 0 where
  pub i : ℕ
  pub at : find s p ≡ Some i
  pub folder : is_folder (node s i) ≡ true

pub stands_at : (s : FileSystem) (p : Route) → folder_at s p ≡ true → IsFolderAt s p
stands_at s p h = by (find s p) refl h
  where
    by : (o : Option ℕ) → find s p ≡ o → option_map_or (λ i. is_folder (node s i)) o false ≡ true → IsFolderAt s p
    by None is h = absurd (false≢true h)
    by (Some i) is h = record { i = i; at = is; folder = h }

-- Only folders hold names, and of what isn't made yet nothing waits.
pub record IsOfFiles (log : CallLog) : Type 0 where
  -- only folders hold names, and none did otherwise
  pub bare : (i : ℕ) (m : List ℕ) → is_folder (node (current log) i) ≡ false → is_pending i m log.changes ≡ false
  -- of a node that isn't made yet neither bytes nor a mode wait
  pub unborn : (i : ℕ) → length (current log).nodes ≤ i → is_clean i log.changes ≡ true

-- this node stands at a path on the mount of that one
pub record IsBeside (log : CallLog) (up : Route) (g : ℕ) : Type 0 where
  pub path : Route
  pub at : find (current log) path ≡ Some g
  pub mount : mount_of (current log) path ≡ mount_of (current log) up

-- a folder stands at this path, and neither it nor one above it is in doubt
pub record IsSureFolder (log : CallLog) (p : Route) : Type 0 where
  pub stands : folder_at (current log) p ≡ true
  pub sure : way_waits log p ≡ false

module _ (log : CallLog) (tree : IsTree (current log)) (files : IsOfFiles log) where
  -- what is no folder holds no names
  pub bare_leads : (i : ℕ) (m : List ℕ) → is_folder (node (current log) i) ≡ false → lookup (current log).names i m ≡ None
  bare_leads i m bare = at (lookup (current log).names i m) refl
    where
      at : (o : Option ℕ) → lookup (current log).names i m ≡ o → lookup (current log).names i m ≡ None
      at None is = is
      at (Some j) is = absurd (both_ways _ bare (tree.in_folders i m j is))

  -- nor may after a crash
  pub bare_may : (i : ℕ) (m : List ℕ) (x : Option ℕ) → is_folder (node (current log) i) ≡ false → MayLead log i m x → x ≡ None
  bare_may i m x bare lead = leads_only log i m x (files.bare i m bare) lead ∙ bare_leads i m bare

  -- what is restless is a folder
  pub restless_folder : (i : ℕ) → is_restless i log.changes ≡ true → is_folder (node (current log) i) ≡ true
  restless_folder i h = by (is_folder (node (current log) i)) refl
    where
      by : (b : Bool) → is_folder (node (current log) i) ≡ b → is_folder (node (current log) i) ≡ true
      by true is = is
      by false is = let p = restless_pending i log.changes h in absurd (both_ways _ (files.bare i p.0 is) p.1)

  -- and so are two for which a renaming waits
  pub bare_unjoined : (i g : ℕ) → is_folder (node (current log) i) ≡ false → is_joint i g log.changes ≡ false
  bare_unjoined i g bare = false_from_ne_true _ (λ h. let p = joint_pending i g log.changes h in both_ways _ (files.bare i p.0 bare) p.1)

  pub joint_folder : (i g : ℕ) → is_joint i g log.changes ≡ true → is_folder (node (current log) i) ≡ true
  joint_folder i g h = by (is_folder (node (current log) i)) refl
    where
      by : (b : Bool) → is_folder (node (current log) i) ≡ b → is_folder (node (current log) i) ≡ true
      by true is = is
      by false is = absurd (both_ways _ (bare_unjoined i g is) h)

  -- no folder stands below what is none
  pub no_folder_below : (target : Route) → ((i : ℕ) → find (current log) target ≡ Some i → is_folder (node (current log) i) ≡ false) → (rest : Route) (i : ℕ) → find (current log) (rest ++ target) ≡ Some i → is_folder (node (current log) i) ≡ true → ⊥
  no_folder_below target bare [] i at folder = both_ways _ (bare i at) folder
  no_folder_below target bare (name ∷ rest) i at folder =
      let h = and_then-some (find (current log) (rest ++ target)) (λ f. lookup (current log).names f name) i at in no_folder_below target bare rest h.0 h.1 (tree.in_folders h.0 name i h.2)

  pub unjoined_below : (target : Route) → ((i : ℕ) → find (current log) target ≡ Some i → is_folder (node (current log) i) ≡ false) → (rest : Route) → IsUnjoined log (rest ++ target)
  unjoined_below target bare rest f g at = false_from_ne_true _ (λ joint. no_folder_below target bare rest f at (joint_folder f g joint))

neither : (a b : Bool) → (a || b) ≡ false → (a ≡ false) × (b ≡ false)
neither true b h = absurd (true≢false h)
neither false b h = (refl, h)

-- in a folder that isn't in doubt a path is in doubt only where its own name waits
pub sure_path : (log : CallLog) (p : Route) → way_waits log (folder_of p) ≡ false → name_waits log p ≡ false → way_waits log p ≡ false
sure_path log [] sure none = refl
sure_path log (name ∷ up) sure none = ap (λ b. b || way_waits log up) none ∙ sure

-- A call after which each folder on the way leads where it led, and that touches no name of it, leaves a path out of doubt.
module _ (log : CallLog) (c : Change) (tree : IsTree (current log))
    (same : (q : Route) (g h : ℕ) → find (current log) q ≡ Some g → is_folder (node (current log) g) ≡ true → find (current (with_change log c)) q ≡ Some h → h ≡ g)
    (apart : (g : ℕ) (m : List ℕ) (j : ℕ) → is_some (says c 0 g m) ≡ true → lookup (current log).names g m ≡ Some j → lookup (current (with_change log c)).names g m ≡ Some j → is_folder (node (current log) j) ≡ true → ⊥) where
  abbrev now : CallLog
  now = with_change log c

  waits_not : (g : ℕ) (m : List ℕ) (j : ℕ) → is_pending g m log.changes ≡ false → lookup (current log).names g m ≡ Some j → lookup (current now).names g m ≡ Some j → is_folder (node (current log) j) ≡ true
      → is_pending g m now.changes ≡ false
  waits_not g m j old before after folder =
      false_from_ne_true _ (λ waits. elim (pending_less g m log.changes c waits) [ inl was ↦ both_ways _ old was | inr new ↦ apart g m j new before after folder ])

  pub sure_still : (p : Route) (j : ℕ) → find (current log) p ≡ Some j → is_folder (node (current log) j) ≡ true → find (current now) p ≡ Some j → way_waits log p ≡ false → way_waits now p ≡ false
  sure_still [] j at folder then sure = refl
  sure_still (name ∷ up) j at folder then sure =
      let h = and_then-some (find (current log) up) (λ f. lookup (current log).names f name) j at in
      let k = and_then-some (find (current now) up) (λ f. lookup (current now).names f name) j then in
      let holds = tree.in_folders h.0 name j h.2 in
      let g_is : k.0 ≡ h.0 = same up h.0 k.0 h.1 holds k.1 in
      let both = neither (name_waits log (name ∷ up)) (way_waits log up) sure in
      let there : find (current now) up ≡ Some h.0 = k.1 ∙ ap (λ g. Some g) g_is in
      let leads : lookup (current now).names h.0 name ≡ Some j = subst (λ g. lookup (current now).names g name ≡ Some j) g_is k.2 in
      let old : is_pending h.0 name log.changes ≡ false = sym (ap (λ o. option_map_or (λ f. is_pending f name log.changes) o false) h.1) ∙ both.0 in
      ap (λ b. b || way_waits now up) (ap (λ o. option_map_or (λ f. is_pending f name now.changes) o false) there ∙ waits_not h.0 name j old h.2 leads folder)
      ∙ sure_still up h.0 h.1 holds there both.1

-- A call that joins no two folders leaves none for which and another one a renaming waits at a path that leads where it led.
pub unjoined_at : (log : CallLog) (c : Change) (p : Route) → is_within c ≡ true → ((f : ℕ) → find (current (with_change log c)) p ≡ Some f → find (current log) p ≡ Some f) → IsUnjoined log p → IsUnjoined (with_change log c) p
unjoined_at log c p one was apart f g at = false_from_ne_true _ (λ joint. both_ways _ (apart f g (was f at)) (joint_before f g log.changes c one joint))

-- A call after which each folder on the way leads where it led, and each mount begins where it began: a folder is joined with another one then that was so before, or
-- that the call joins with it; and both lie on one mount.
module _ (log : CallLog) (c : Change) (tree : IsTree (current log)) (files : IsOfFiles log)
    (starts : (i : ℕ) → starts_mount (current (with_change log c)) i ≡ starts_mount (current log) i)
    (same : (q : Route) (g h : ℕ) → find (current log) q ≡ Some g → is_folder (node (current log) g) ≡ true → find (current (with_change log c)) q ≡ Some h → h ≡ g)
    (was : (q : Route) (g : ℕ) → is_folder (node (current log) g) ≡ true → find (current (with_change log c)) q ≡ Some g → find (current log) q ≡ Some g) where
  abbrev after : CallLog
  after = with_change log c

  pub mount_still : (p : Route) (j : ℕ) → find (current log) p ≡ Some j → find (current after) p ≡ Some j → mount_of (current after) p ≡ mount_of (current log) p
  mount_still [] j at then = refl
  mount_still (name ∷ up) j at then =
      let h = and_then-some (find (current log) up) (λ f. lookup (current log).names f name) j at in
      let k = and_then-some (find (current after) up) (λ f. lookup (current after).names f name) j then in
      let there : find (current after) up ≡ Some h.0 = k.1 ∙ ap (λ g. Some g) (same up h.0 k.0 h.1 (tree.in_folders h.0 name j h.2) k.1) in
      ap (λ o. mount_here (current after) o (mount_of (current after) up)) then
      ∙ (ap (λ b. cond b j (mount_of (current after) up)) (starts j)
      ∙ (ap (λ n. cond (starts_mount (current log) j) j n) (mount_still up h.0 h.1 there)
      ∙ sym (ap (λ o. mount_here (current log) o (mount_of (current log) up)) at)))

  pub unjoined_after : (p : Route) → ((f g : ℕ) → find (current after) p ≡ Some f → joins f g c ≡ false) → IsUnjoined log p → IsUnjoined after p
  unjoined_after p none apart f g at = false_from_ne_true _ (λ joint. elim (joint_less f g log.changes c joint) [
    | inl before ↦ both_ways _ (apart f g (was p f (joint_folder log tree files f g before) at)) before
    | inr joined ↦ both_ways _ (none f g at) joined
  ])

  -- where each of two such folders stands
  pub joint_after : ((q : Route) (f g : ℕ) → is_joint f g log.changes ≡ true → find (current log) q ≡ Some f → find (current after) q ≡ Some f)
      → ((f g : ℕ) (up : Route) → joins f g c ≡ true → find (current after) up ≡ Some f → IsBeside after up g)
      → ((f g : ℕ) (up : Route) → is_joint f g log.changes ≡ true → find (current log) up ≡ Some f → IsBeside log up g)
      → (f g : ℕ) (up : Route) → is_joint f g after.changes ≡ true → find (current after) up ≡ Some f → IsBeside after up g
  joint_after stays joined beside f g up joint at = elim (joint_less f g log.changes c joint) [
    | inl before ↦
        let at_before = was up f (joint_folder log tree files f g before) at in
        let b = beside f g up before at_before in
        let then = stays b.path g f (joint_swap f g log.changes before) b.at in
        record { path = b.path; at = then; mount = mount_still b.path g b.at then ∙ (b.mount ∙ sym (mount_still up f at_before at)) }
    | inr now ↦ joined f g up now at
  ]

-- Where the call joins no two folders none is joined then that wasn't so before.
module _ (log : CallLog) (c : Change) (tree : IsTree (current log)) (files : IsOfFiles log) (one : is_within c ≡ true)
    (starts : (i : ℕ) → starts_mount (current (with_change log c)) i ≡ starts_mount (current log) i)
    (same : (q : Route) (g h : ℕ) → find (current log) q ≡ Some g → is_folder (node (current log) g) ≡ true → find (current (with_change log c)) q ≡ Some h → h ≡ g)
    (was : (q : Route) (g : ℕ) → is_folder (node (current log) g) ≡ true → find (current (with_change log c)) q ≡ Some g → find (current log) q ≡ Some g) where
  pub unjoined_still : (p : Route) → IsUnjoined log p → IsUnjoined (with_change log c) p
  unjoined_still p apart = unjoined_after log c tree files starts same was p (λ f g at. unjoined_within f g c one) apart

  pub joint_still : ((q : Route) (f g : ℕ) → is_joint f g log.changes ≡ true → find (current log) q ≡ Some f → find (current (with_change log c)) q ≡ Some f)
      → ((f g : ℕ) (up : Route) → is_joint f g log.changes ≡ true → find (current log) up ≡ Some f → IsBeside log up g)
      → (f g : ℕ) (up : Route) → is_joint f g (with_change log c).changes ≡ true → find (current (with_change log c)) up ≡ Some f → IsBeside (with_change log c) up g
  joint_still stays beside = joint_after log c tree files starts same was stays (λ f g up joined at. absurd (both_ways _ (unjoined_within f g c one) joined)) beside

-- of a node that isn't made yet nothing waits after a call that alters no such node
pub unborn_more : (log : CallLog) (c : Change) → ((i : ℕ) → length (current log).nodes ≤ i → alters i c ≡ false) → length (current log).nodes ≤ length (current (with_change log c)).nodes
    → ((i : ℕ) → length (current log).nodes ≤ i → is_clean i log.changes ≡ true) → (i : ℕ) → length (current (with_change log c)).nodes ≤ i → is_clean i (with_change log c).changes ≡ true
unborn_more log c unaltered grown clean i past = let before : length (current log).nodes ≤ i = omega (arith, grown, past) in clean_more i log.changes c (unaltered i before) (clean i before)

-- of a path that isn't in doubt the name waits for nothing
pub name_sure : (log : CallLog) (p : Route) → way_waits log p ≡ false → name_waits log p ≡ false
name_sure log [] sure = refl
name_sure log (m ∷ up) sure = (neither (name_waits log (m ∷ up)) (way_waits log up) sure).0

-- a path that isn't in doubt leads only where it leads
pub settled_unless : (log : CallLog) (p : Route) → way_waits log p ≡ false → IsSettledAt log p
settled_unless log [] sure x h = h
settled_unless log (m ∷ up) sure x (y, found, leads) =
    let both = neither (name_waits log (m ∷ up)) (way_waits log up) sure in
    at (find (current log) up) refl (subst (λ o. Leads log o m x) (settled_unless log up both.1 y found) leads) both.0
  where
    at : (o : Option ℕ) → find (current log) up ≡ o → Leads log (find (current log) up) m x → name_waits log (m ∷ up) ≡ false → x ≡ find (current log) (m ∷ up)
    at None is lead calm = subst (λ o. Leads log o m x) is lead ∙ sym (ap (option_and_then (λ f. lookup (current log).names f m)) is)
    at (Some f) is lead calm =
        leads_only log f m x (sym (ap (λ o. option_map_or (λ g. is_pending g m log.changes) o false) is) ∙ calm) (subst (λ o. Leads log o m x) is lead)
        ∙ sym (ap (option_and_then (λ g. lookup (current log).names g m)) is)
