-- Calls that change the names of files keep what is known, where the job knew its paths.
use Rattle.std.proofs.Common.{◌≡◌, ◌⊎◌, ℕ, ◌<◌, ◌≤◌, Bool, true, false, List, [], ◌∷◌, length, refl, sym, ◌∙◌, ap, subst, inl, inr, Option, Some, None, arith, drop}
use Rattle.std.specs.Prelude.{is_some, option_and_then}
use Rattle.std.specs.Option.{option_map_or}
use Rattle.std.proofs.lemmas.Bool.{false≢true, both_ways, false_from_ne_true, cases_lt}
use Rattle.mc_text.specs.Routes.{Route, same_path}
use Rattle.tree_trait.specs.FileSystem.{lookup, find, node, value, visible_tree}
use Rattle.tree_trait.specs.Refusals.{is_folder, mount_of}
use Rattle.tree_trait.specs.Change.{Change, CallLog, current, with_change}
use Rattle.tree_trait.specs.CrashImages.{says, Among}
use Rattle.tree_trait.proofs.Finding.{and_then-some, find-once}
use Rattle.tree_trait.proofs.Kept.{folder_there}
use Rattle.tree_trait.proofs.Visible.{same_path-true}
use Rattle.laws_crash.specs.Guarded.{Marks, IsNaming, IsUnder, Touches, with_mode}
use Rattle.laws_crash.proofs.Guarding.{naming_law, find_same, found_at}
use Rattle.laws_crash.proofs.Syncing.{unaltered_law}
use Rattle.laws_sessions.specs.Doubt.{is_pending, way_waits, name_waits, is_joint, joins}
use Rattle.laws_sessions.proofs.Pending.{is_within, pending_less, says_at}
use Rattle.laws_sessions.proofs.Knowing.{HasMode, HasNoMode, IsCalmPath, IsKnown, IsUnreached, HistoryFacts, held, nowhere}
use Rattle.laws_sessions.proofs.Quiet.{held_same, kind_same, shows_same, starts_same, unclean_before, was_bare}
use Rattle.laws_sessions.proofs.Resting.{IsBeside, IsSureFolder, folder_at_of, joint_after, joint_folder, mount_still, restless_folder, stands_at, sure_still, unborn_more}
use Rattle.laws_sessions.proofs.Restless.{is_restless, named_both, names_in, restless_less}
use Rattle.laws_sessions.proofs.InTransit.{renames}
use Rattle.laws_sessions.proofs.RoamingFolders.{renaming_says, roaming_still}
use Rattle.laws_sessions.proofs.WaitsAlone.{alone_after}
use Rattle.laws_sessions.proofs.WaitsFor.{names_said}
use Rattle.laws_sessions.proofs.Since.{clean_since, pending_all, pending_since, renamed_since}

-- Where a call changes names of files: at these two paths alone, each in its folder, which may be the same one; and both folders lie on one mount.
pub record ChangesFiles (log : CallLog) (c : Change) (up beside first second : Route) (f g : ℕ) : Type 0 where
  pub stands : find (current (with_change log c)) up ≡ Some f
  pub stands_beside : find (current (with_change log c)) beside ≡ Some g
  pub folder : is_folder (node (current log) f) ≡ true
  pub folder_beside : is_folder (node (current log) g) ≡ true
  pub mount : mount_of (current log) beside ≡ mount_of (current log) up
  pub at : (h : ℕ) (m : List ℕ) → is_some (says c 0 h m) ≡ true → ((h ≡ f) × ((m ∷ up) ≡ first)) ⊎ ((h ≡ g) × ((m ∷ beside) ≡ second))
  -- the names lead to no folder, before and after
  pub files : (h : ℕ) (m : List ℕ) (j : ℕ) → is_some (says c 0 h m) ≡ true → lookup (current log).names h m ≡ Some j → is_folder (node (current log) j) ≡ false
  pub files_now : (h : ℕ) (m : List ℕ) (j : ℕ) → is_some (says c 0 h m) ≡ true → lookup (current (with_change log c)).names h m ≡ Some j → is_folder (node (current (with_change log c)) j) ≡ false

-- the same of a call that changes names of one folder
pub in_one_folder : (log : CallLog) (c : Change) (up first second : Route) (f : ℕ) → find (current (with_change log c)) up ≡ Some f → is_folder (node (current log) f) ≡ true
    → ((h : ℕ) (m : List ℕ) → is_some (says c 0 h m) ≡ true → h ≡ f)
    → ((m : List ℕ) → is_some (says c 0 f m) ≡ true → ((m ∷ up) ≡ first) ⊎ ((m ∷ up) ≡ second))
    → ((m : List ℕ) (j : ℕ) → is_some (says c 0 f m) ≡ true → lookup (current log).names f m ≡ Some j → is_folder (node (current log) j) ≡ false)
    → ((m : List ℕ) (j : ℕ) → is_some (says c 0 f m) ≡ true → lookup (current (with_change log c)).names f m ≡ Some j → is_folder (node (current (with_change log c)) j) ≡ false)
    → ChangesFiles log c up up first second f f
in_one_folder log c up first second f stands folder here at files files_now = record {
  stands = stands;
  stands_beside = stands;
  folder = folder;
  folder_beside = folder;
  mount = refl;
  at = λ h m said.
      let h_is = here h m said in
      elim (at m (subst (λ k. is_some (says c 0 k m) ≡ true) h_is said)) [ inl one ↦ inl (h_is, one) | inr other ↦ inr (h_is, other) ];
  files = λ h m j said leads.
      let h_is = here h m said in
      files m j (subst (λ k. is_some (says c 0 k m) ≡ true) h_is said) (subst (λ k. lookup (current log).names k m ≡ Some j) h_is leads);
  files_now = λ h m j said leads.
      let h_is = here h m said in
      files_now m j (subst (λ k. is_some (says c 0 k m) ≡ true) h_is said) (subst (λ k. lookup (current (with_change log c)).names k m ≡ Some j) h_is leads);
}

-- A call that changes the names of files in one folder or in two, at these two paths alone, and what the history says then.
pub record IsFileNaming (said after : HistoryFacts) (dirty dirty_after : List Route) (marks : Marks) (log : CallLog) (c : Change) (up beside first second : Route) (f g : ℕ) : Type 0 where
  pub naming : IsNaming marks log c
  pub names : ChangesFiles log c up beside first second f g
  pub made : (i : ℕ) → length (current log).nodes ≤ i → is_folder (node (current (with_change log c)) i) ≡ false
  -- both folders are dirty then
  pub listed : Among dirty_after up
  pub listed_beside : Among dirty_after beside
  pub more : (q : Route) → Among dirty q → Among dirty_after q
  pub doubts : (n : ℕ) (p : Route) → said.doubt n p ≡ true → after.doubt n p ≡ true
  pub spared : (n : ℕ) (p : Route) → after.written n p ≡ false → said.written n p ≡ false
  -- where a folder is said to be on the disk it was said so before, or it is
  pub folders : (p : Route) → after.folders p ≡ true → (said.folders p ≡ true) ⊎ IsSureFolder log p
  pub modes : (p : Route) → said.modes p ≡ true → after.modes p ≡ true
  -- what is said to be calm was said so before, or is calm; nor does a mode wait of what stands at the two paths
  pub calm : (p : Route) → after.calm p ≡ true → (said.calm p ≡ true) ⊎ IsCalmPath marks log p
  -- nor is it one of the two, but where the call stays in one folder
  pub apart : (p : Route) → after.calm p ≡ true → (is_within c ≡ true) ⊎ ((p ≡ first) ⊎ (p ≡ second) → ⊥)
  pub no_mode : (p : Route) (i : ℕ) → (p ≡ first) ⊎ (p ≡ second) → (find (current log) p ≡ Some i) ⊎ (find (current (with_change log c)) p ≡ Some i) → marks.modes i ≡ None
  -- of these two a change may wait then
  pub touched : (n : ℕ) (p : Route) → (p ≡ first) ⊎ (p ≡ second) → after.doubt n p ≡ true
  -- what stands at one of them is the part, or may have been altered
  pub unwritten : (n : ℕ) (p : Route) (i : ℕ) → (p ≡ first) ⊎ (p ≡ second) → (after.part ≡ Some p → ⊥) → after.written n p ≡ false → find (current (with_change log c)) p ≡ Some i → ⊥
  pub named : (p : Route) → marks.aside p ≡ true → Among after.named p
  -- a part that stands is the live job's then, or an ended one left it
  pub left : (p : Route) → (p ≡ first) ⊎ (p ≡ second) → marks.aside p ≡ true → is_some (find (current (with_change log c)) p) ≡ true → (after.part ≡ Some p) ⊎ Among after.left p
  pub lefts : (p : Route) → same_path p first ≡ false → same_path p second ≡ false → Among said.left p → Among after.left p
  -- elsewhere all is as it was
  pub off : (p : Route) → same_path p first ≡ false → same_path p second ≡ false
      → (find (current (with_change log c)) p ≡ find (current log) p) × (after.tree p ≡ said.tree p) × (after.earlier p ≡ said.earlier p) × (said.part ≡ Some p → ⊥)
  pub shown : (p : Route) → (p ≡ first) ⊎ (p ≡ second) → (after.part ≡ Some p → ⊥) → visible_tree (current (with_change log c)) p ≡ after.tree p
  pub was : (p : Route) → (p ≡ first) ⊎ (p ≡ second) → marks.aside p ≡ false
      → (marks.was p ≡ find (current (with_change log c)) p) ⊎ ((held (current log) (marks.was p) ≡ (after.earlier p).value) × HasNoMode marks (marks.was p))
  pub part : (p : Route) → after.part ≡ Some p → (marks.aside p ≡ true) × (after.tree p ≡ nowhere) × (is_some (find (current (with_change log c)) p) ≡ true)

module _ (said after : HistoryFacts) (dirty dirty_after : List Route) (marks : Marks) (log : CallLog) (c : Change) (up beside first second : Route) (f e : ℕ)
    (known : IsKnown said dirty marks log) (n : IsFileNaming said after dirty dirty_after marks log c up beside first second f e) where
  abbrev now : CallLog
  now = with_change log c

  naming_of : IsNaming marks log c
  naming_of = n.naming

  names : ChangesFiles log c up beside first second f e
  names = n.names

  -- what holds of both folders holds of that in which a name changes
  either_folder : (P : ℕ → Type 0) → P f → P e → (h : ℕ) (m : List ℕ) → is_some (says c 0 h m) ≡ true → P h
  either_folder P one other h m said = elim (names.at h m said) [ inl here ↦ subst P (sym here.0) one | inr here ↦ subst P (sym here.0) other ]

  named_folder : (h : ℕ) (m : List ℕ) → is_some (says c 0 h m) ≡ true → is_folder (node (current log) h) ≡ true
  named_folder = either_folder (λ h. is_folder (node (current log) h) ≡ true) names.folder names.folder_beside

  said_so : (g : ℕ) (m : List ℕ) → is_some (says c (length (current log).nodes) g m) ≡ true → is_some (says c 0 g m) ≡ true
  said_so g m h = says_at c (length (current log).nodes) g m ∙ h

  unaltered : (i : ℕ) → i < length (current log).nodes → node (current now) i ≡ node (current log) i
  unaltered i there = unaltered_law log c i (naming_of.bytes i) there

  -- a folder then was one before
  was_folder : (i : ℕ) → is_folder (node (current now) i) ≡ true → is_folder (node (current log) i) ≡ true
  was_folder i h = elim (cases_lt i (length (current log).nodes)) [
    | inl there ↦ sym (kind_same log c i there) ∙ h
    | inr past ↦ absurd (both_ways _ (n.made i past) h)
  ]

  -- and it isn't renamed
  not_renamed : (i : ℕ) → is_folder (node (current now) i) ≡ true → renames i c ≡ false
  not_renamed i folder = false_from_ne_true _ (λ renamed.
      let s = renaming_says i c (length (current log).nodes) renamed in
      let leads = Rattle.laws_crash.proofs.Guarding.said log c s.0 s.1 (Some i) s.2 in
      both_ways _ (names.files_now s.0 s.1 i (said_so s.0 s.1 (ap is_some s.2)) leads) folder)

  -- a path that leads to a folder goes through no name that is changed
  no_folder_under : (p : Route) (j : ℕ) → IsUnder log c p → find (current log) p ≡ Some j → is_folder (node (current log) j) ≡ true → ⊥
  no_folder_under [] j under at folder = under
  no_folder_under (name ∷ q) j (inl under) at folder = by (find (current log) q) refl (λ g is shape. no_folder_under q g under is shape)
    where
      by : (o : Option ℕ) → find (current log) q ≡ o → ((g : ℕ) → find (current log) q ≡ Some g → is_folder (node (current log) g) ≡ true → ⊥) → ⊥
      by None is above = let e : (let o : Option ℕ = None in o) ≡ Some j = sym (ap (option_and_then (λ g. lookup (current log).names g name)) is) ∙ at in cc
      by (Some g) is above =
          above g is (known.guarded.tree.in_folders g name j (sym (ap (option_and_then (λ h. lookup (current log).names h name)) is) ∙ at))
  no_folder_under (name ∷ q) j (inr touches) at folder = by (find (current log) q) refl touches
    where
      by : (o : Option ℕ) → find (current log) q ≡ o → Touches log c o name → ⊥
      by None is h = h
      by (Some g) is h =
          let leads : lookup (current log).names g name ≡ Some j = sym (ap (option_and_then (λ k. lookup (current log).names k name)) is) ∙ at in
          both_ways _ (names.files g name j (said_so g name h) leads) folder

  -- a folder stands where it stood
  folder_stays : (p : Route) (j : ℕ) → find (current log) p ≡ Some j → is_folder (node (current log) j) ≡ true → find (current now) p ≡ Some j
  folder_stays p j at folder = elim (find_same log c p) [ inl same ↦ same ∙ at | inr under ↦ absurd (no_folder_under p j under at folder) ]

  -- nor does one that leads to a folder then
  no_folder_then : (p : Route) (j : ℕ) → IsUnder log c p → find (current now) p ≡ Some j → is_folder (node (current now) j) ≡ true → ⊥
  no_folder_then [] j under at folder = under
  no_folder_then (name ∷ q) j (inl under) at folder =
      let h = and_then-some (find (current now) q) (λ g. lookup (current now).names g name) j at in
      no_folder_then q h.0 under h.1 (naming_of.tree.in_folders h.0 name j h.2)
  no_folder_then (name ∷ q) j (inr touches) at folder = by (find (current log) q) refl touches
    where
      by : (o : Option ℕ) → find (current log) q ≡ o → Touches log c o name → ⊥
      by None is h = h
      by (Some g) is h =
          let s = said_so g name h in
          let stands : find (current now) q ≡ Some g = folder_stays q g is (named_folder g name s) in
          let leads : lookup (current now).names g name ≡ Some j = sym (ap (option_and_then (λ k. lookup (current now).names k name)) stands) ∙ at in
          both_ways _ (names.files_now g name j s leads) folder

  as_before : (q : Route) (g h : ℕ) → find (current log) q ≡ Some g → is_folder (node (current log) g) ≡ true → find (current now) q ≡ Some h → h ≡ g
  as_before q g h before holds then = let e : (let o : Option ℕ = Some g in o) ≡ Some h = sym (folder_stays q g before holds) ∙ then in cc

  -- and stood where it stands
  folder_was : (q : Route) (g : ℕ) → is_folder (node (current log) g) ≡ true → find (current now) q ≡ Some g → find (current log) q ≡ Some g
  folder_was q g folder then = elim (find_same log c q) [
    | inl same ↦ sym same ∙ then
    | inr under ↦ absurd (no_folder_then q g under then (kind_same log c g (folder_there (current log).nodes g folder) ∙ folder))
  ]

  -- so a folder that isn't in doubt stays so
  folder_sure : (p : Route) (j : ℕ) → find (current log) p ≡ Some j → is_folder (node (current log) j) ≡ true → way_waits log p ≡ false → way_waits now p ≡ false
  folder_sure p j at folder sure = sure_still log c known.guarded.tree as_before
      (λ g m k said before then holds. both_ways _ (names.files g m k said before) holds)
      p j at folder (folder_stays p j at folder) sure

  firm_still : (p : Route) → IsSureFolder log p → IsSureFolder now p
  firm_still p firm =
      let there = stands_at (current log) p firm.stands in
      record {
        stands = folder_at_of (current now) p there.i (folder_stays p there.i there.at there.folder) (kind_same log c there.i (folder_there (current log).nodes there.i there.folder) ∙ there.folder);
        sure = folder_sure p there.i there.at there.folder firm.sure;
      }

  -- a folder to which no path leads stays so
  unreached_stays : (g : ℕ) → is_folder (node (current log) g) ≡ true → IsUnreached log g → IsUnreached now g
  unreached_stays g folder none q leads = elim (find_same log c q) [
    | inl same ↦ none q (sym same ∙ leads)
    | inr under ↦ no_folder_then q g under leads (kind_same log c g (folder_there (current log).nodes g folder) ∙ folder)
  ]

  waits_in_folder : (g : ℕ) (m : List ℕ) → is_pending g m log.changes ≡ true → is_folder (node (current log) g) ≡ true
  waits_in_folder g m waits = by (is_folder (node (current log) g)) refl
    where
      by : (b : Bool) → is_folder (node (current log) g) ≡ b → is_folder (node (current log) g) ≡ true
      by true is = is
      by false is = absurd (both_ways _ (known.files.bare g m is) waits)

  bare_now : (i : ℕ) (m : List ℕ) → is_folder (node (current now) i) ≡ false → is_pending i m now.changes ≡ true → ⊥
  bare_now i m bare waits = elim (pending_less i m log.changes c waits) [
    | inl old ↦ both_ways _ (known.files.bare i m (was_bare log c i bare)) old
    | inr new ↦ (let folder = named_folder i m new in both_ways _ bare (kind_same log c i (folder_there (current log).nodes i folder) ∙ folder))
  ]

  -- one of the two paths, or another
  abbrev Where : Route → Type 0
  Where p = ((p ≡ first) ⊎ (p ≡ second)) ⊎ ((same_path p first ≡ false) × (same_path p second ≡ false))

  where_is : (p : Route) → Where p
  where_is p = by (same_path p first) refl (same_path p second) refl
    where
      by : (a : Bool) → same_path p first ≡ a → (b : Bool) → same_path p second ≡ b → Where p
      by true a_is b b_is = inl (inl (same_path-true p first a_is))
      by false a_is true b_is = inl (inr (same_path-true p second b_is))
      by false a_is false b_is = inr (a_is, b_is)

  held_still : (p : Route) → marks.aside p ≡ false → held (current now) (marks.was p) ≡ held (current log) (marks.was p)
  held_still p out = held_same log c (marks.was p) (λ i is. unaltered i (known.was_there p i out is).0)

  was_shown : (p : Route) → marks.aside p ≡ false → (marks.was p ≡ find (current now) p) ⊎ ((held (current now) (marks.was p) ≡ (after.earlier p).value) × HasNoMode marks (marks.was p))
  was_shown p out = elim (where_is p) [
    | inl at ↦ elim (n.was p at out) [ inl same ↦ inl same | inr shown ↦ inr (held_still p out ∙ shown.0, shown.1) ]
    | inr off ↦
        let o = n.off p off.0 off.1 in
        elim (known.was_shown p out) [
          | inl same ↦ inl (same ∙ sym o.0)
          | inr shown ↦ inr (held_still p out ∙ (shown.0 ∙ sym (ap (λ (s : _). s.value) o.2)), shown.1)
        ]
  ]

  -- a mode that waits is of another path
  moded_still : (i before : ℕ) → marks.modes i ≡ Some before → HasMode said dirty marks log i before → HasMode after dirty_after marks now i before
  moded_still i before is h = elim (where_is h.path) [
    | inl at ↦ absurd (let none = n.no_mode h.path i at (inl h.leads) in let e : (let o : Option ℕ = None in o) ≡ Some before = sym none ∙ is in let f : ⊥ = cc in f)
    | inr off ↦
        let o = n.off h.path off.0 off.1 in
        record {
          path = h.path;
          leads = o.0 ∙ h.leads;
          out = h.out;
          listed = n.more h.path h.listed;
          told = n.modes h.path h.told;
          shown = ap (λ (s : _). s.value) o.2 ∙ (h.shown ∙ ap (λ x. Some (value (with_mode before x))) (sym (unaltered i (known.guarded.there h.path i (found_at log h.path (Some i) h.leads)))));
        }
  ]

  -- the call changes names at the two paths alone
  said_at : (name : List ℕ) (q : Route) (g : ℕ) → find (current now) q ≡ Some g → is_some (says c 0 g name) ≡ true → ((name ∷ q) ≡ first) ⊎ ((name ∷ q) ≡ second)
  said_at name q g is s = elim (names.at g name s) [
    | inl one ↦ inl (subst (λ (r : Route). (name ∷ r) ≡ first) (find-once (current now) naming_of.tree up q f names.stands (is ∙ ap (λ k. Some k) one.0)) one.1)
    | inr other ↦ inr (subst (λ (r : Route). (name ∷ r) ≡ second) (find-once (current now) naming_of.tree beside q e names.stands_beside (is ∙ ap (λ k. Some k) other.0)) other.1)
  ]

  calm_was : (p : Route) → after.calm p ≡ true → IsCalmPath marks log p → IsCalmPath marks now p
  calm_was p then calm = record {
    mode = λ i at. elim (where_is p) [
      | inl here ↦ inl (n.no_mode p i here (inr at))
      | inr off ↦ elim (calm.mode i (sym (n.off p off.0 off.1).0 ∙ at)) [ inl none ↦ inl none | inr begins ↦ inr (starts_same log c i ∙ begins) ]
    ];
    alone = alone_after log c known.files folder_was p (λ name q g is at. elim (n.apart p then) [
      | inl within ↦ inl within
      | inr off ↦ inr (false_from_ne_true _ (λ said. off (subst (λ r. (r ≡ first) ⊎ (r ≡ second)) (sym is) (said_at name q g at said))))
    ]) calm.alone;
  }

  -- a path on the mount of the two folders leads to one in which a name changes
  abbrev OnMount : ℕ → Type 0
  OnMount h = (q : Route) × (find (current now) q ≡ Some h) × (mount_of (current now) q ≡ mount_of (current log) up)

  on_mount : (h : ℕ) → names_in h c ≡ true → OnMount h
  on_mount h named =
      let s = names_said h c named in
      let still = mount_still log c known.guarded.tree known.files (starts_same log c) as_before folder_was in
      either_folder OnMount (up, names.stands, still up f (folder_was up f names.folder names.stands) names.stands)
      (beside, names.stands_beside, still beside e (folder_was beside e names.folder_beside names.stands_beside) names.stands_beside ∙ names.mount) h s.0 s.1

  -- the folders that the call joins lie on one mount
  joined_beside : (g h : ℕ) (q : Route) → joins g h c ≡ true → find (current now) q ≡ Some g → IsBeside now q h
  joined_beside g h q joined at =
      let both = named_both g h c joined in
      let here = on_mount g both.0 in
      let there = on_mount h both.1 in
      record { path = there.0; at = there.1; mount = there.2 ∙ sym (ap (mount_of (current now)) (find-once (current now) naming_of.tree q here.0 g at here.1) ∙ here.2) }

  joint : (g h : ℕ) (q : Route) → is_joint g h now.changes ≡ true → find (current now) q ≡ Some g → IsBeside now q h
  joint = joint_after log c known.guarded.tree known.files (starts_same log c) as_before folder_was
      (λ q g h joined at. folder_stays q g at (joint_folder log known.guarded.tree known.files g h joined)) joined_beside known.joint

  shows : (p : Route) → (after.part ≡ Some p → ⊥) → visible_tree (current now) p ≡ after.tree p
  shows p other = elim (where_is p) [
    | inl at ↦ n.shown p at other
    | inr off ↦
        let o = n.off p off.0 off.1 in
        shows_same log c p o.0 (λ i is. unaltered i (known.guarded.there p i (found_at log p (Some i) is))) ∙ (known.shows p o.3 ∙ sym o.1)
  ]

  tracked : (g : ℕ) → is_restless g now.changes ≡ true → ((q : Route) × Among dirty_after q × (find (current now) q ≡ Some g)) ⊎ IsUnreached now g
  tracked g restless = elim (restless_less g log.changes c restless) [
    | inl old ↦ elim (known.tracked g old) [
      | inl t ↦ inl (t.0, n.more t.0 t.1, folder_stays t.0 g t.2 (restless_folder log known.guarded.tree known.files g old))
      | inr none ↦ inr (unreached_stays g (restless_folder log known.guarded.tree known.files g old) none)
    ]
    | inr new ↦
        let s = names_said g c new in
        inl (either_folder (λ h. (q : Route) × Among dirty_after q × (find (current now) q ≡ Some h)) (up, n.listed, names.stands) (beside, n.listed_beside, names.stands_beside) g s.0 s.1)
  ]

  -- a path of which a change waits was one before, or it is one of the two
  doubts : (count : ℕ) (p : Route) → renamed_since count now p ≡ true → after.doubt count p ≡ true
  doubts count [] waits = absurd (false≢true waits)
  doubts count (name ∷ q) waits = by (find (current now) q) refl
    where
      in_now : (o : Option ℕ) → find (current now) q ≡ o → option_map_or (λ g. is_pending g name (drop count now.changes)) o false ≡ true
      in_now o is = sym (ap (λ x. option_map_or (λ g. is_pending g name (drop count now.changes)) x false) is) ∙ waits

      waited : (g : ℕ) → find (current now) q ≡ Some g → is_pending g name (drop count log.changes) ≡ true → after.doubt count (name ∷ q) ≡ true
      waited g is old =
          let at : find (current log) q ≡ Some g = folder_was q g (waits_in_folder g name (pending_all count g name log.changes old)) is in
          n.doubts count (name ∷ q) (known.doubts count (name ∷ q) (ap (λ x. option_map_or (λ k. is_pending k name (drop count log.changes)) x false) at ∙ old))

      new : (g : ℕ) → find (current now) q ≡ Some g → is_some (says c 0 g name) ≡ true → after.doubt count (name ∷ q) ≡ true
      new g is s = n.touched count (name ∷ q) (said_at name q g is s)

      by : (o : Option ℕ) → find (current now) q ≡ o → after.doubt count (name ∷ q) ≡ true
      by None is = absurd (false≢true (in_now None is))
      by (Some g) is = elim (pending_since count g name log.changes c (in_now (Some g) is)) [ inl old ↦ waited g is old | inr s ↦ new g is s ]

  left_then : (p : Route) → marks.aside p ≡ true → is_some (find (current now) p) ≡ true → (after.part ≡ Some p) ⊎ Among after.left p
  left_then p is there = elim (where_is p) [
    | inl at ↦ n.left p at is there
    | inr off ↦
        let o = n.off p off.0 off.1 in
        elim (known.left p is (sym (ap is_some o.0) ∙ there)) [ inl part ↦ absurd (o.3 part) | inr among ↦ inr (n.lefts p off.0 off.1 among) ]
  ]

  pub naming_known : IsKnown after dirty_after marks now
  naming_known = record {
    guarded = naming_law marks log c known.guarded naming_of;
    files = record {
      bare = λ i m bare. false_from_ne_true _ (bare_now i m bare);
      unborn = unborn_more log c (λ i past. naming_of.bytes i) naming_of.count known.files.unborn;
    };
    moded = λ i before is unclean. moded_still i before is (known.moded i before is (unclean_before log c i (naming_of.bytes i) unclean));
    calm = λ p there. elim (n.calm p there) [ inl before ↦ calm_was p there (known.calm p before) | inr calm ↦ calm_was p there calm ];
    folders = λ i folder. let k = known.folders i (was_folder i folder) in (roaming_still log c i (marks.roams i) (not_renamed i folder) k.0, k.1);
    aside = n.named;
    left = left_then;
    was_there = λ p i out is. let t = known.was_there p i out is in (let k = naming_of.count in let l = t.0 in omega (arith, k, l), t.1);
    was_shown = was_shown;
    shows = shows;
    part = n.part;
    tracked = tracked;
    joint = joint;
    doubts = doubts;
    written = λ count p i other off at. elim (where_is p) [
      | inl here ↦ absurd (n.unwritten count p i here other off at)
      | inr away ↦
          let o = n.off p away.0 away.1 in
          clean_since count i log.changes c (naming_of.bytes i) (known.written count p i o.3 (n.spared count p off) (sym o.0 ∙ at))
    ];
    stand = λ p there. elim (n.folders p there) [ inl before ↦ firm_still p (known.stand p before) | inr firm ↦ firm_still p firm ];
  }
