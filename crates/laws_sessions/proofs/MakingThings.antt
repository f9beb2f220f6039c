-- The making of a new thing: an empty folder or a link.
use Rattle.std.proofs.Common.{◌≡◌, ◌⊎◌, ℕ, ◌<◌, Bool, true, false, not, ◌&&◌, List, [], ◌∷◌, ◌++◌, length, refl, sym, ◌∙◌, ap, subst, inl, inr, Option, Some, None, arith, cond, length-append, drop}
use Rattle.std.specs.Prelude.{is_some, option_and_then, ◌==◌}
use Rattle.std.specs.Option.{option_map, option_map_or}
use Rattle.std.proofs.lemmas.Bool.{false≢true, and_parts, both_ways, false_from_ne_true, eqb-true, eq-eqb, cases_lt}
use Rattle.mc_text.specs.Routes.{Route, same_path}
use Rattle.tree_trait.specs.declared.file_system.FileSystem.{FileSystem}
use Rattle.tree_trait.specs.declared.file_system.Mount.{Mount}
use Rattle.tree_trait.specs.declared.file_system.Node.{Node}
use Rattle.tree_trait.specs.FileSystem.{Spot, lookup, find, node, starts_mount, value, visible_tree}
use Rattle.tree_trait.specs.Refusals.{is_folder}
use Rattle.tree_trait.specs.Change.{Change, Makes, CallLog, current, with_change}
use Rattle.tree_trait.specs.CrashImages.{is_clean, says, same_name, Among}
use Rattle.tree_trait.proofs.Kept.{folder_there}
use Rattle.tree_trait.proofs.Finding.{find-once, same_name-true, same_name-self}
use Rattle.tree_trait.proofs.Names.{count_after, count-after_change}
use Rattle.tree_trait.proofs.Visible.{same_path-true}
use Rattle.tree_trait.proofs.Steady.{at}
use Rattle.laws_crash.specs.Guarded.{Marks, IsNaming, with_mode}
use Rattle.laws_crash.proofs.Guarding.{settle_law, find_same, found_at, naming_law}
use Rattle.laws_crash.proofs.Leading.{current_more}
use Rattle.laws_crash.proofs.Making.{making_law}
use Rattle.laws_crash.proofs.Syncing.{unaltered_law}
use Rattle.laws_crash.proofs.Tops.{under_made, none_below}
use Rattle.laws_sessions.specs.Doubt.{is_pending, way_waits, name_waits, is_joint}
use Rattle.laws_sessions.proofs.Pending.{pending_less}
use Rattle.laws_sessions.proofs.InTransit.{WasRenamed}
use Rattle.laws_sessions.proofs.Knowing.{HasCalmMode, HasMode, HasNoMode, IsCalmPath, IsKnown, IsUnreached, RoamInTransit, HistoryFacts, held}
use Rattle.laws_sessions.proofs.Quiet.{held_same, kind_same, mounts_same, shows_same, starts_same, unclean_before, was_bare}
use Rattle.laws_sessions.proofs.Resting.{IsBeside, IsSureFolder, folder_at_of, joint_still, restless_folder, stands_at, sure_still, unborn_more}
use Rattle.laws_sessions.proofs.Restless.{is_restless, restless_less}
use Rattle.laws_sessions.proofs.RoamingFolders.{roaming_still}
use Rattle.laws_sessions.proofs.WaitsAlone.{WaitsAlone, alone_still}
use Rattle.laws_sessions.proofs.WaitsFor.{names_said}
use Rattle.laws_sessions.proofs.Changing.{folder_anchored, off_itself, said_one, some_none, some_is}
use Rattle.laws_sessions.proofs.Since.{clean_since, pending_all, pending_since, renamed_since}

abbrev pub new_node : CallLog → ℕ
new_node log = length (current log).nodes

-- the node that is made next is firm, and at one place
abbrev pub marks_born : Marks → ℕ → Marks
marks_born marks n = record marks { loose = λ i. not (i == n) && marks.loose i; roams = λ i. not (i == n) && marks.roams i }

low : (a b : Bool) → b ≡ false → (a && b) ≡ false
low true b h = h
low false b h = refl

module _ (told : HistoryFacts) (dirty : List Route) (marks : Marks) (log : CallLog) (known : IsKnown told dirty marks log) (new_mode : marks.modes (new_node log) ≡ None) where
  abbrev n : ℕ
  n = new_node log

  born : (i : ℕ) (b : Bool) → (i == n) ≡ b → (not b && marks.loose i) ≡ false → ((marks.loose i ≡ false) × (marks.modes i ≡ marks.modes i)) ⊎ ((is_clean i log.changes ≡ true) × (marks.modes i ≡ None))
  born i true same h = let e = eqb-true i n same in inr (known.files.unborn i (omega (arith, e)), subst (λ k. marks.modes k ≡ None) (sym e) new_mode)
  born i false other h = inl (h, refl)

  unnamed : (i : ℕ) (b : Bool) → (i == n) ≡ b → (not b && marks.roams i) ≡ false → (marks.roams i ≡ false) ⊎ Rattle.laws_crash.specs.Guarded.HasOneName log i
  unnamed i true same h = let e = eqb-true i n same in inr (λ g k l m first second. let there = known.guarded.named g l i first in absurd (omega (arith, e, there)))
  unnamed i false other h = inl h

  -- a folder roams only where it did
  pub born_transit : RoamInTransit marks log → RoamInTransit (marks_born marks n) log
  born_transit in_transit i folder is = in_transit i folder (and_parts (not (i == n)) (marks.roams i) is).1

  pub born_known : IsKnown told dirty (marks_born marks n) log
  born_known = record {
    guarded = settle_law marks (marks_born marks n) log known.guarded (record {
      paths = λ p out. inl (out, refl);
      nodes = λ i firm. born i (i == n) refl firm;
      firm = λ p i out there. elim (known.guarded.firm p i out there) [ inl firm ↦ inl (low _ _ firm) | inr folder ↦ inr folder ];
      places = λ i stays. unnamed i (i == n) refl stays;
    });
    files = known.files;
    moded = λ i before is unclean. let h = known.moded i before is unclean in record { path = h.path; leads = h.leads; out = h.out; listed = h.listed; told = h.told; shown = h.shown };
    calm = λ p there. let calm = known.calm p there in record { mode = calm.mode; alone = calm.alone };
    folders = λ i is. let k = known.folders i is in (elim k.0 [ inl stays ↦ inl (low _ _ stays) | inr renamed ↦ inr renamed ], low _ _ k.1);
    aside = known.aside;
    left = known.left;
    was_there = λ p i out is. let t = known.was_there p i out is in (t.0, low _ _ t.1);
    was_shown = known.was_shown;
    shows = known.shows;
    part = known.part;
    tracked = known.tracked;
    joint = known.joint;
    doubts = known.doubts;
    written = known.written;
    stand = known.stand;
  }

-- A thing is made where nothing stood, in a folder that isn't in doubt; and what the history says then.
pub record MakesThing (told after : HistoryFacts) (marks : Marks) (log : CallLog) (name : List ℕ) (up : Route) (f : ℕ) (made : Node) : Type 0 where
  pub none : told.part ≡ None
  pub firm : IsSureFolder log up
  pub at : find (current log) up ≡ Some f
  pub holds : is_folder (node (current log) f) ≡ true
  pub free : lookup (current log).names f name ≡ None
  pub was : marks.was (name ∷ up) ≡ None
  pub named : (p : Route) → marks.aside p ≡ true → Among after.named p
  pub left : (p : Route) → marks.aside p ≡ true → (same_path p (name ∷ up) ≡ false) × (Among told.left p → Among after.left p)
  pub off : (p : Route) → same_path p (name ∷ up) ≡ false → (after.tree p ≡ told.tree p) × (after.earlier p ≡ told.earlier p)
  pub shown : after.tree (name ∷ up) ≡ record { value = Some (value made); is_mount = false }
  pub earlier : (after.earlier (name ∷ up)).value ≡ None
  pub no_part : after.part ≡ None
  pub doubts : (n : ℕ) (p : Route) → told.doubt n p ≡ true → after.doubt n p ≡ true
  pub doubted : (n : ℕ) → after.doubt n (name ∷ up) ≡ true
  pub spared : (n : ℕ) (p : Route) → after.written n p ≡ false → (told.written n p ≡ false) × (same_path p (name ∷ up) ≡ false)
  pub folders : (p : Route) → after.folders p ≡ true → (told.folders p ≡ true) ⊎ (p ≡ up)
  pub modes : (p : Route) → told.modes p ≡ true → after.modes p ≡ true
  pub calm : (p : Route) → after.calm p ≡ true → (told.calm p ≡ true) ⊎ IsCalmPath marks log p
  pub new_mode : marks.modes (length (current log).nodes) ≡ None

module _ (told after : HistoryFacts) (dirty dirty_after : List Route) (marks : Marks) (log : CallLog) (was_known : IsKnown told dirty marks log) (in_transit : RoamInTransit marks log) (name : List ℕ) (up : Route) (f : ℕ) (made : Node)
    (m : MakesThing told after marks log name up f made) (listed : Among dirty_after up) (more : (q : Route) → Among dirty q → Among dirty_after q) where
  abbrev makes : Change
  makes = Makes f name made

  abbrev now : CallLog
  now = with_change log makes

  abbrev path : Route
  path = name ∷ up

  abbrev new : ℕ
  new = new_node log

  abbrev marked : Marks
  marked = marks_born marks new

  known : IsKnown told dirty marked log
  known = born_known told dirty marks log was_known m.new_mode

  naming : IsNaming marked log makes
  naming = making_law marked log up name f made known.guarded (record {
    stands = record { at = m.at; anchored = (let firm = m.firm in folder_anchored told dirty marked log known (born_transit told dirty marks log was_known m.new_mode in_transit) up f m.at m.holds firm.sure) };
    folder = m.holds;
    free = m.free;
    was = λ out. m.was;
    solid = λ out. inl (ap (λ b. not b && marks.loose new) (eq-eqb new new refl));
  })

  no_longer : (rest : Route) → up ≡ rest ++ name ∷ up → ⊥
  no_longer rest e = let l = ap (λ (q : Route). length q) e in let k = length-append rest (name ∷ up) in absurd (omega (arith, l, k))

  stands : find (current now) up ≡ Some f
  stands = elim (find_same log makes up) [
    | inl same ↦ same ∙ m.at
    | inr under ↦ let u = under_made log known.guarded.tree up f m.at name made up under in absurd (no_longer u.0 u.1)
  ]

  leads : lookup (current now).names f name ≡ Some new
  leads = Rattle.laws_crash.proofs.Guarding.said log makes f name (Some new) (ap (λ b. (let o : Option (Option ℕ) = cond b (Some (Some new)) None in o)) (same_name-self f name))

  path_leads : find (current now) path ≡ Some new
  path_leads = ap (option_and_then (λ g. lookup (current now).names g name)) stands ∙ leads

  last_node : (xs : List Node) → at (xs ++ made ∷ []) (length xs) ≡ made
  last_node [] = refl
  last_node (x ∷ xs) = last_node xs

  new_is : node (current now) new ≡ made
  new_is = ap (λ (s : FileSystem). node s new) (current_more log makes) ∙ last_node (current log).nodes

  count : length (current now).nodes ≡ count_after makes new
  count = ap (λ (s : FileSystem). length s.nodes) (current_more log makes) ∙ count-after_change (current log) makes

  was_free : find (current log) path ≡ None
  was_free = ap (option_and_then (λ g. lookup (current log).names g name)) m.at ∙ m.free

  -- nothing is in the new thing
  none_new : (k : List ℕ) → lookup (current log).names new k ≡ None
  none_new k = by (lookup (current log).names new k) refl
    where
      by : (o : Option ℕ) → lookup (current log).names new k ≡ o → lookup (current log).names new k ≡ None
      by None is = is
      by (Some j) is = let there = folder_there (current log).nodes new (known.guarded.tree.in_folders new k j is) in absurd (omega (arith, there))

  says_it : (g : ℕ) (k : List ℕ) → is_some (says makes 0 g k) ≡ true → (f ≡ g) × (name ≡ k)
  says_it g k h = same_name-true f g name k (said_one (same_name f name g k) (Some 0) h)

  f_there : f < new
  f_there = folder_there (current log).nodes f m.holds

  none_then : (k : List ℕ) → lookup (current now).names new k ≡ None
  none_then k = Rattle.laws_crash.proofs.Guarding.unsaid log makes new k (by (same_name f name new k) refl) ∙ none_new k
    where
      by : (b : Bool) → same_name f name new k ≡ b → says makes (length (current log).nodes) new k ≡ None
      by true is = let e = (same_name-true f new name k is).0 in let there = f_there in absurd (omega (arith, e, there))
      by false is = ap (λ b. (let o : Option (Option ℕ) = cond b (Some (Some new)) None in o)) is

  below_then : (k : List ℕ) (rest : Route) → find (current now) (k ∷ rest ++ path) ≡ None
  below_then k [] = ap (option_and_then (λ g. lookup (current now).names g k)) path_leads ∙ none_then k
  below_then k (first ∷ rest) = ap (option_and_then (λ g. lookup (current now).names g k)) (below_then first rest)

  off_path : (p : Route) → same_path p path ≡ false → find (current now) p ≡ find (current log) p
  off_path p off = elim (find_same log makes p) [
    | inl same ↦ same
    | inr under ↦ let u = under_made log known.guarded.tree up f m.at name made p under in below u.0 u.1
  ]
    where
      below : (rest : Route) → p ≡ rest ++ path → find (current now) p ≡ find (current log) p
      below [] e = absurd (off_itself p path e off)
      below (first ∷ rest) e = ap (find (current now)) e ∙ below_then first rest ∙ sym (ap (find (current log)) e ∙ none_below log (first ∷ rest) path was_free)

  -- what stood anywhere stands elsewhere
  elsewhere : (p : Route) (g : ℕ) → find (current log) p ≡ Some g → same_path p path ≡ false
  elsewhere p g there = false_from_ne_true _ (λ same. some_none g (sym there ∙ (ap (find (current log)) (same_path-true p path same) ∙ was_free)))

  stays : (p : Route) (g : ℕ) → find (current log) p ≡ Some g → find (current now) p ≡ Some g
  stays p g there = off_path p (elsewhere p g there) ∙ there

  as_before : (q : Route) (g h : ℕ) → find (current log) q ≡ Some g → is_folder (node (current log) g) ≡ true → find (current now) q ≡ Some h → h ≡ g
  as_before q g h before holds then = let e : (let o : Option ℕ = Some g in o) ≡ Some h = sym (stays q g before) ∙ then in cc

  -- and a folder that was there stood where it stands
  was_at : (q : Route) (g : ℕ) → is_folder (node (current log) g) ≡ true → find (current now) q ≡ Some g → find (current log) q ≡ Some g
  was_at q g folder then = by (same_path q path) refl
    where
      by : (b : Bool) → same_path q path ≡ b → find (current log) q ≡ Some g
      by false off = sym (off_path q off) ∙ then
      by true same =
          let g_is : g ≡ new = some_is new g (sym path_leads ∙ (ap (find (current now)) (sym (same_path-true q path same)) ∙ then)) in
          let there = folder_there (current log).nodes g folder in
          absurd (omega (arith, g_is, there))

  unaltered : (i : ℕ) → i < length (current log).nodes → node (current now) i ≡ node (current log) i
  unaltered i there = unaltered_law log makes i (naming.bytes i) there

  -- a node that is then was before, or it is the new one
  older_or_new : (i : ℕ) → is_folder (node (current now) i) ≡ true → (i < new) ⊎ (i ≡ new)
  older_or_new i is =
      let there = folder_there (current now).nodes i is in
      let n = count in
      elim (cases_lt i new) [ inl old ↦ inl old | inr past ↦ inr (omega (arith, there, n, past)) ]

  folder_marks : (i : ℕ) → is_folder (node (current now) i) ≡ true → ((marked.roams i ≡ false) ⊎ WasRenamed now i) × (marked.loose i ≡ false)
  folder_marks i is = elim (older_or_new i is) [
    | inl old ↦ let k = known.folders i (sym (kind_same log makes i old) ∙ is) in (roaming_still log makes i (marked.roams i) refl k.0, k.1)
    | inr here ↦ let same = eq-eqb i new here in (inl (ap (λ b. not b && marks.roams i) same), ap (λ b. not b && marks.loose i) same)
  ]

  bare_now : (i : ℕ) (k : List ℕ) → is_folder (node (current now) i) ≡ false → is_pending i k now.changes ≡ true → ⊥
  bare_now i k bare waits = elim (pending_less i k log.changes makes waits) [
    | inl old ↦ both_ways _ (known.files.bare i k (was_bare log makes i bare)) old
    | inr said ↦ both_ways _ (subst (λ j. is_folder (node (current now) j) ≡ false) (sym (says_it i k said).0) bare) (kind_same log makes f f_there ∙ m.holds)
  ]

  -- no name in the new thing waits
  none_waits_new : (k : List ℕ) → is_pending new k log.changes ≡ true → ⊥
  none_waits_new k waits = both_ways _ (known.files.bare new k (false_from_ne_true _ (λ is. let there = folder_there (current log).nodes new is in absurd (omega (arith, there))))) waits

  unreached_stays : (g : ℕ) → is_folder (node (current log) g) ≡ true → IsUnreached log g → IsUnreached now g
  unreached_stays g folder none q there = none q (was_at q g folder there)

  tracked : (g : ℕ) → is_restless g now.changes ≡ true → ((q : Route) × Among dirty_after q × (find (current now) q ≡ Some g)) ⊎ IsUnreached now g
  tracked g restless = elim (restless_less g log.changes makes restless) [
    | inl old ↦ elim (known.tracked g old) [
      | inl t ↦ inl (t.0, more t.0 t.1, stays t.0 g t.2)
      | inr none ↦ inr (unreached_stays g (restless_folder log known.guarded.tree known.files g old) none)
    ]
    | inr new ↦ inl (up, listed, stands ∙ ap (λ i. Some i) (let s = names_said g makes new in says_it g s.0 s.1).0)
  ]

  joint : (g h : ℕ) (q : Route) → is_joint g h now.changes ≡ true → find (current now) q ≡ Some g → IsBeside now q h
  joint = joint_still log makes known.guarded.tree known.files refl (starts_same log makes) as_before was_at (λ q g h joined at. stays q g at) known.joint

  doubts : (n : ℕ) (p : Route) → renamed_since n now p ≡ true → after.doubt n p ≡ true
  doubts n [] waits = absurd (false≢true waits)
  doubts n (k ∷ q) waits = by (find (current now) q) refl
    where
      in_now : (o : Option ℕ) → find (current now) q ≡ o → option_map_or (λ g. is_pending g k (drop n now.changes)) o false ≡ true
      in_now o is = sym (ap (λ x. option_map_or (λ g. is_pending g k (drop n now.changes)) x false) is) ∙ waits

      old_by : (g : ℕ) → find (current now) q ≡ Some g → is_pending g k (drop n log.changes) ≡ true → (b : Bool) → same_path q path ≡ b → after.doubt n (k ∷ q) ≡ true
      old_by g is old false off = m.doubts n (k ∷ q) (known.doubts n (k ∷ q) (ap (λ x. option_map_or (λ h. is_pending h k (drop n log.changes)) x false) (sym (off_path q off) ∙ is) ∙ old))
      old_by g is old true same =
          let g_is : g ≡ new = some_is new g (sym path_leads ∙ (ap (find (current now)) (sym (same_path-true q path same)) ∙ is)) in
          absurd (none_waits_new k (pending_all n new k log.changes (subst (λ i. is_pending i k (drop n log.changes) ≡ true) g_is old)))

      new_by : (g : ℕ) → find (current now) q ≡ Some g → is_some (says makes 0 g k) ≡ true → after.doubt n (k ∷ q) ≡ true
      new_by g is said =
          let s = says_it g k said in
          let q_is : up ≡ q = find-once (current now) naming.tree up q f stands (is ∙ ap (λ h. Some h) (sym s.0)) in
          let same : path ≡ k ∷ q = ap (λ x. (let l : Route = x ∷ up in l)) s.1 ∙ ap (λ (r : Route). k ∷ r) q_is in
          subst (λ p. after.doubt n p ≡ true) same (m.doubted n)

      by : (o : Option ℕ) → find (current now) q ≡ o → after.doubt n (k ∷ q) ≡ true
      by None is = absurd (false≢true (in_now None is))
      by (Some g) is = elim (pending_since n g k log.changes makes (in_now (Some g) is)) [ inl old ↦ old_by g is old (same_path q path) refl | inr said ↦ new_by g is said ]

  -- the call alters nothing
  written : (n : ℕ) (p : Route) (i : ℕ) → (after.part ≡ Some p → ⊥) → after.written n p ≡ false → find (current now) p ≡ Some i → is_clean i (drop n now.changes) ≡ true
  written n p i other off at =
      let spared = m.spared n p off in
      clean_since n i log.changes makes refl
      (known.written n p i (λ is. let e : (let o : Option Route = None in o) ≡ Some p = sym m.none ∙ is in cc) spared.0 (sym (off_path p spared.1) ∙ at))

  -- this path, or another
  abbrev Where : Route → Type 0
  Where p = (p ≡ path) ⊎ (same_path p path ≡ false)

  where_is : (p : Route) → Where p
  where_is p = by (same_path p path) refl
    where
      by : (b : Bool) → same_path p path ≡ b → Where p
      by true is = inl (same_path-true p path is)
      by false is = inr is

  held_still : (p : Route) → marks.aside p ≡ false → held (current now) (marks.was p) ≡ held (current log) (marks.was p)
  held_still p out = held_same log makes (marks.was p) (λ i is. unaltered i (known.was_there p i out is).0)

  was_shown : (p : Route) → marks.aside p ≡ false → (marks.was p ≡ find (current now) p) ⊎ ((held (current now) (marks.was p) ≡ (after.earlier p).value) × HasNoMode marks (marks.was p))
  was_shown p out = elim (where_is p) [
    | inl here ↦ inr (ap (held (current now)) (ap marks.was here ∙ m.was) ∙ sym (ap (λ q. (after.earlier q).value) here ∙ m.earlier), λ i is. some_none i (sym is ∙ (ap marks.was here ∙ m.was)))
    | inr off ↦ elim (known.was_shown p out) [
      | inl same ↦ inl (same ∙ sym (off_path p off))
      | inr shown ↦ inr (held_still p out ∙ (shown.0 ∙ sym (ap (λ (s : Spot). s.value) (m.off p off).1)), shown.1)
    ]
  ]

  moded_still : (i before : ℕ) → HasMode told dirty marked log i before → HasMode after dirty_after marked now i before
  moded_still i before h =
      let off = elsewhere h.path i h.leads in
      record {
        path = h.path;
        leads = stays h.path i h.leads;
        out = h.out;
        listed = more h.path h.listed;
        told = m.modes h.path h.told;
        shown = ap (λ (s : Spot). s.value) (m.off h.path off).1 ∙ (h.shown ∙ ap (λ n. Some (value (with_mode before n))) (sym (unaltered i (known.guarded.there h.path i (found_at log h.path (Some i) h.leads)))));
      }

  calm_was : (p : Route) → HasCalmMode marks (current log) p → WaitsAlone log p → IsCalmPath marked now p
  calm_was p mode alone = record {
    mode = λ i there. elim (where_is p) [
      | inl here ↦ inl (subst (λ j. marks.modes j ≡ None) (sym (some_is new i (sym path_leads ∙ (ap (find (current now)) (sym here) ∙ there)))) m.new_mode)
      | inr off ↦ elim (mode i (sym (off_path p off) ∙ there)) [ inl none ↦ inl none | inr begins ↦ inr (starts_same log makes i ∙ begins) ]
    ];
    alone = alone_still log makes known.files was_at refl p alone;
  }

  no_mount : starts_mount (current now) new ≡ false
  no_mount = false_from_ne_true _ (λ on.
      let before : starts_mount (current log) new ≡ true =
      sym (ap (λ (ms : List Mount). Rattle.std.specs.List.list_any (λ (x : Mount). x.folder == new) ms) (mounts_same log makes)) ∙ on in
      let there = folder_there (current log).nodes new (known.guarded.tree.mounts new before) in absurd (omega (arith, there)))

  path_shown : visible_tree (current now) path ≡ record { value = Some (value made); is_mount = false }
  path_shown =
      ap (λ o. (let v : Spot = record { value = option_map (λ j. value (node (current now) j)) o; is_mount = option_map_or (starts_mount (current now)) o false } in v)) path_leads
      ∙ (ap (λ x. (let v : Spot = record { value = Some (value x); is_mount = starts_mount (current now) new } in v)) new_is
      ∙ ap (λ b. (let v : Spot = record { value = Some (value made); is_mount = b } in v)) no_mount)

  not_part : (p : Route) → told.part ≡ Some p → ⊥
  not_part p is = let e : (let o : Option Route = None in o) ≡ Some p = sym m.none ∙ is in cc

  shows : (p : Route) → (after.part ≡ Some p → ⊥) → visible_tree (current now) p ≡ after.tree p
  shows p other = elim (where_is p) [
    | inl here ↦ subst (λ q. visible_tree (current now) q ≡ after.tree q) (sym here) (path_shown ∙ sym m.shown)
    | inr off ↦
        shows_same log makes p (off_path p off) (λ i is. unaltered i (known.guarded.there p i (found_at log p (Some i) is)))
        ∙ (known.shows p (not_part p) ∙ sym (m.off p off).0)
  ]

  -- a folder that isn't in doubt stays so
  folder_sure : (p : Route) (j : ℕ) → find (current log) p ≡ Some j → is_folder (node (current log) j) ≡ true → way_waits log p ≡ false → way_waits now p ≡ false
  folder_sure p j there folder sure = sure_still log makes known.guarded.tree
      as_before
      (λ g k j said before then holds.
      let s = says_it g k said in
      some_none j (sym before ∙ (ap (λ h. lookup (current log).names h k) (sym s.0) ∙ (ap (lookup (current log).names f) (sym s.1) ∙ m.free))))
      p j there folder (stays p j there) sure

  firm_still : (p : Route) → IsSureFolder log p → IsSureFolder now p
  firm_still p firm =
      let there = stands_at (current log) p firm.stands in
      record {
        stands = folder_at_of (current now) p there.i (stays p there.i there.at) (kind_same log makes there.i (folder_there (current log).nodes there.i there.folder) ∙ there.folder);
        sure = folder_sure p there.i there.at there.folder firm.sure;
      }

  stand : (p : Route) → after.folders p ≡ true → IsSureFolder now p
  stand p there = elim (m.folders p there) [ inl before ↦ firm_still p (known.stand p before) | inr here ↦ firm_still p (subst (λ q. IsSureFolder log q) (sym here) m.firm) ]

  pub thing_made_known : IsKnown after dirty_after marked now
  thing_made_known = record {
    guarded = naming_law marked log makes known.guarded naming;
    files = record {
      bare = λ i k bare. false_from_ne_true _ (bare_now i k bare);
      unborn = unborn_more log makes (λ i past. naming.bytes i) naming.count known.files.unborn;
    };
    moded = λ i before is unclean. moded_still i before (known.moded i before is (unclean_before log makes i refl unclean));
    calm = λ p there. elim (m.calm p there) [ inl before ↦ (let calm = was_known.calm p before in calm_was p calm.mode calm.alone) | inr calm ↦ calm_was p calm.mode calm.alone ];
    folders = folder_marks;
    aside = m.named;
    left = λ p is there.
        let l = m.left p is in
        elim (known.left p is (sym (ap is_some (off_path p l.0)) ∙ there)) [
          | inl part ↦ absurd (let x : (let o : Option Route = None in o) ≡ Some p = sym m.none ∙ part in let f : ⊥ = cc in f)
          | inr among ↦ inr (l.1 among)
        ];
    was_there = λ p i out is. let t = known.was_there p i out is in let n = naming.count in let l = t.0 in (omega (arith, n, l), t.1);
    was_shown = was_shown;
    shows = shows;
    part = λ p is. absurd (let e = m.no_part in let x : (let o : Option Route = None in o) ≡ Some p = sym e ∙ is in cc);
    tracked = tracked;
    joint = joint;
    doubts = doubts;
    written = written;
    stand = stand;
  }
