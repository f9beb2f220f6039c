-- The removal of a thing that holds nothing, a file or an empty folder; and what changes of names have in common.
use Rattle.std.proofs.Common.{◌≡◌, ◌⊎◌, ℕ, ◌<◌, Bool, true, false, ◌||◌, List, [], ◌∷◌, ◌++◌, length, refl, sym, ◌∙◌, ap, subst, inl, inr, Option, Some, None, cond, drop}
use Rattle.std.specs.Prelude.{is_some, option_and_then}
use Rattle.std.specs.Option.{option_map, option_map_or}
use Rattle.std.proofs.lemmas.Bool.{false≢true, true≢false, both_ways, false_from_ne_true}
use Rattle.mc_text.specs.Routes.{Route, same_path}
use Rattle.tree_trait.specs.declared.file_system.FileSystem.{FileSystem}
use Rattle.tree_trait.specs.FileSystem.{lookup, find, node, value, visible_tree, starts_mount}
use Rattle.tree_trait.specs.Refusals.{is_folder}
use Rattle.tree_trait.specs.Change.{Change, Removes, CallLog, current, with_change}
use Rattle.tree_trait.specs.CrashImages.{says as says_of, Among}
use Rattle.tree_trait.proofs.Kept.{folder_there}
use Rattle.tree_trait.proofs.Finding.{and_then-some, find-once}
use Rattle.tree_trait.proofs.Visible.{same_path-true}
use Rattle.laws_crash.specs.Guarded.{Marks, IsNaming, with_mode}
use Rattle.laws_crash.specs.NameKnowledge.{IsAnchored}
use Rattle.laws_crash.proofs.Guarding.{found_at, naming_law}
use Rattle.laws_crash.proofs.Leading.{current_more}
use Rattle.laws_crash.proofs.Removing.{removal_law}
use Rattle.laws_crash.proofs.Syncing.{unaltered_law}
use Rattle.laws_sessions.specs.Doubt.{is_pending, way_waits, name_waits, is_joint}
use Rattle.laws_sessions.proofs.Pending.{pending_less}
use Rattle.laws_sessions.proofs.InTransit.{transit_waits}
pub use Rattle.laws_sessions.proofs.HollowThings.{IsHollow, hollow_file, holds_none, none_below_file, none_below_hollow, off_itself, said_one, some_is, some_none}
use Rattle.laws_sessions.proofs.HollowThings.{folder_before, folder_stands, found_elsewhere, found_or_gone, leads_as_before, path_gone, says_name, sure_elsewhere}
use Rattle.laws_sessions.proofs.Knowing.{HasMode, HasNoMode, IsCalmPath, IsKnown, IsUnreached, RoamInTransit, HistoryFacts, held, nowhere}
use Rattle.laws_sessions.proofs.Quiet.{held_same, kind_same, shows_same, starts_same, unclean_before, was_bare}
use Rattle.laws_sessions.proofs.Resting.{IsBeside, IsSureFolder, joint_still, unborn_more}
use Rattle.laws_sessions.proofs.Restless.{is_restless, restless_less}
use Rattle.laws_sessions.proofs.RoamingFolders.{roaming_still}
use Rattle.laws_sessions.proofs.WaitsAlone.{alone_still}
use Rattle.laws_sessions.proofs.WaitsFor.{names_said}
use Rattle.laws_sessions.proofs.Since.{clean_since, pending_since, renamed_since}

-- where nothing stands nothing is seen
pub seen_nowhere : (s : FileSystem) (p : Route) → find s p ≡ None → visible_tree s p ≡ nowhere
seen_nowhere s p none = ap (λ o. (let v : _ = record { value = option_map (λ i. value (node s i)) o; is_mount = option_map_or (starts_mount s) o false } in v)) none

neither : (a b : Bool) → (a || b) ≡ false → (a ≡ false) × (b ≡ false)
neither true b h = absurd (true≢false h)
neither false b h = (refl, h)

module _ (said : HistoryFacts) (dirty : List Route) (marks : Marks) (log : CallLog) (known : IsKnown said dirty marks log) (in_transit : RoamInTransit marks log) where
  -- a folder whose name doesn't wait roams nowhere
  pub folder_stays : (p : Route) (i : ℕ) → find (current log) p ≡ Some i → is_folder (node (current log) i) ≡ true → name_waits log p ≡ false → marks.roams i ≡ false
  folder_stays p i at folder sure = by (marks.roams i) refl
    where
      by : (b : Bool) → marks.roams i ≡ b → marks.roams i ≡ false
      by false is = is
      by true roams = elim (known.folders i folder).0 [
        | inl stays ↦ stays
        | inr renamed ↦ absurd (both_ways _ sure (transit_waits log i renamed (in_transit i folder roams) p at))
      ]

  -- so one that stands at a path of which nothing waits on the way is anchored there
  pub folder_anchored : (p : Route) (i : ℕ) → find (current log) p ≡ Some i → is_folder (node (current log) i) ≡ true → way_waits log p ≡ false → IsAnchored marks log p
  folder_anchored [] i at folder sure = tt
  folder_anchored (name ∷ q) i at folder sure =
      let h = and_then-some (find (current log) q) (λ g. lookup (current log).names g name) i at in
      let both = neither (name_waits log (name ∷ q)) (way_waits log q) sure in (
        folder_anchored q h.0 h.1 (known.guarded.tree.in_folders h.0 name i h.2) both.1,
        λ j there. subst (λ k. marks.roams k ≡ false) (sym (some_is i j (sym at ∙ there))) (folder_stays (name ∷ q) i at folder both.0),
      )

pub said_two : (a b : Bool) (x y : Option ℕ) → is_some (let o : Option (Option ℕ) = cond a (Some x) (cond b (Some y) None) in o) ≡ true → (a ≡ true) ⊎ (b ≡ true)
said_two true b x y h = inl refl
said_two false b x y h = inr (said_one b y h)

-- What a history says once a path has nothing any more: elsewhere it says what it said.
pub record SaysGone (said after : HistoryFacts) (marks : Marks) (log : CallLog) (path : Route) : Type 0 where
  pub named : (p : Route) → marks.aside p ≡ true → Among after.named p
  pub off : (p : Route) → same_path p path ≡ false → (after.tree p ≡ said.tree p) × (after.earlier p ≡ said.earlier p) × (said.part ≡ Some p → ⊥)
  pub left : (p : Route) → same_path p path ≡ false → Among said.left p → Among after.left p
  pub gone : after.tree path ≡ nowhere
  pub was : marks.aside path ≡ false → held (current log) (marks.was path) ≡ (after.earlier path).value
  pub part : after.part ≡ None
  pub doubts : (n : ℕ) (p : Route) → said.doubt n p ≡ true → after.doubt n p ≡ true
  pub doubted : (n : ℕ) → after.doubt n path ≡ true
  pub spared : (n : ℕ) (p : Route) → after.written n p ≡ false → said.written n p ≡ false
  -- a folder that is said to be on the disk is another one, and it was said so before, or it is
  pub folders : (p : Route) → after.folders p ≡ true → (same_path p path ≡ false) × ((said.folders p ≡ true) ⊎ IsSureFolder log p)
  pub modes : (p : Route) → said.modes p ≡ true → after.modes p ≡ true
  -- what is said to be calm was said so before, or is calm
  pub calm : (p : Route) → after.calm p ≡ true → (said.calm p ≡ true) ⊎ IsCalmPath marks log p

-- a mode that is known isn't one that waits
pub other_mode : {A : Type 0} (marks : Marks) (i before : ℕ) → marks.modes i ≡ None → marks.modes i ≡ Some before → A
other_mode marks i before none some = absurd (let e : (let o : Option ℕ = None in o) ≡ Some before = sym none ∙ some in let f : ⊥ = cc in f)

-- Its removal keeps what is known, where nothing waits on the way to the folder that holds it, no mode of it waits, nor a renaming for it and another folder. The folder that holds it is dirty then, and it is no longer one itself.
module _ (told after : HistoryFacts) (dirty dirty_after : List Route) (marks : Marks) (log : CallLog) (known : IsKnown told dirty marks log) (path : Route) (r : IsHollow (current log) path) (k : ℕ)
    (says : SaysGone told after marks log path) (was : marks.aside path ≡ false → marks.was path ≡ find (current log) path)
    (in_transit : RoamInTransit marks log) (sure : way_waits log r.up ≡ false) (no_mode : marks.modes r.i ≡ None) (apart : (g : ℕ) → is_joint r.i g log.changes ≡ false) (listed : Among dirty_after r.up) (more : (q : Route) → Among dirty q → same_path q path ≡ false → Among dirty_after q) where
  abbrev removes : Change
  removes = Removes r.f r.name k

  abbrev now : CallLog
  now = with_change log removes

  removed_at : find (current log) (r.name ∷ r.up) ≡ Some r.i
  removed_at = ap (option_and_then (λ g. lookup (current log).names g r.name)) r.folder ∙ r.leads

  path_at : find (current log) path ≡ Some r.i
  path_at = ap (find (current log)) r.path_is ∙ removed_at

  removed_folder : is_folder (node (current log) r.f) ≡ true
  removed_folder = known.guarded.tree.in_folders r.f r.name r.i r.leads

  unworked : (rest : Route) → marks.aside (rest ++ r.name ∷ r.up) ≡ false → (find (current log) (rest ++ r.name ∷ r.up) ≡ marks.was (rest ++ r.name ∷ r.up)) ⊎ (find (current log) (rest ++ r.name ∷ r.up) ≡ None)
  unworked [] out = inl (sym (subst (λ q. marks.was q ≡ find (current log) q) r.path_is (was (subst (λ q. marks.aside q ≡ false) (sym r.path_is) out))))
  unworked (name ∷ rest) out = inr (none_below_hollow (current log) (r.name ∷ r.up) r.i removed_at r.empty name rest)

  naming : IsNaming marks log removes
  naming = removal_law marks log r.up r.name r.f k known.guarded (record {
    stands = record { at = r.folder; anchored = folder_anchored told dirty marks log known in_transit r.up r.f r.folder removed_folder sure };
    unworked = unworked;
  })

  stands : find (current now) r.up ≡ Some r.f
  stands = folder_stands log known.guarded.tree path r k

  gone_path : find (current now) path ≡ None
  gone_path = path_gone log known.guarded.tree path r k

  -- a path leads where it led, or nowhere
  found_then : (q : Route) → (find (current now) q ≡ find (current log) q) ⊎ (find (current now) q ≡ None)
  found_then = found_or_gone log known.guarded.tree path r k

  off_path : (p : Route) → same_path p path ≡ false → find (current now) p ≡ find (current log) p
  off_path = found_elsewhere log known.guarded.tree path r k

  same_count : length (current now).nodes ≡ length (current log).nodes
  same_count = ap (λ (s : FileSystem). length s.nodes) (current_more log removes)

  was_folder : (i : ℕ) → is_folder (node (current now) i) ≡ true → is_folder (node (current log) i) ≡ true
  was_folder = folder_before log known.guarded.tree path r k

  unaltered : (i : ℕ) → i < length (current log).nodes → node (current now) i ≡ node (current log) i
  unaltered i there = unaltered_law log removes i (naming.bytes i) there

  -- the change is of this name
  says_it : (g : ℕ) (m : List ℕ) → is_some (says_of removes 0 g m) ≡ true → (r.f ≡ g) × (r.name ≡ m)
  says_it = says_name log known.guarded.tree path r k

  bare_now : (i : ℕ) (m : List ℕ) → is_folder (node (current now) i) ≡ false → is_pending i m now.changes ≡ true → ⊥
  bare_now i m bare waits = elim (pending_less i m log.changes removes waits) [
    | inl old ↦ both_ways _ (known.files.bare i m (was_bare log removes i bare)) old
    | inr new ↦
        both_ways _ (subst (λ j. is_folder (node (current now) j) ≡ false) (sym (says_it i m new).0) bare)
        (kind_same log removes r.f (folder_there (current log).nodes r.f removed_folder) ∙ removed_folder)
  ]

  no_path : (q : Route) (g : ℕ) → find (current now) q ≡ Some g → find (current now) q ≡ None → ⊥
  no_path q g some none = some_none g (sym some ∙ none)

  unreached_stays : (g : ℕ) → IsUnreached log g → IsUnreached now g
  unreached_stays g none q leads = elim (found_then q) [ inl same ↦ none q (sym same ∙ leads) | inr gone ↦ no_path q g leads gone ]

  -- no path leads to what was removed
  removed_unreached : (g : ℕ) → find (current log) path ≡ Some g → IsUnreached now g
  removed_unreached g at q leads = elim (found_then q) [
    | inl same ↦ no_path q g leads (ap (find (current now)) (find-once (current log) known.guarded.tree q path g (sym same ∙ leads) at) ∙ gone_path)
    | inr gone ↦ no_path q g leads gone
  ]

  tracked : (g : ℕ) → is_restless g now.changes ≡ true → ((q : Route) × Among dirty_after q × (find (current now) q ≡ Some g)) ⊎ IsUnreached now g
  tracked g restless = elim (restless_less g log.changes removes restless) [
    | inl old ↦ elim (known.tracked g old) [ inl t ↦ of_listed g t.0 t.1 t.2 (same_path t.0 path) refl | inr none ↦ inr (unreached_stays g none) ]
    | inr new ↦ inl (r.up, listed, stands ∙ ap (λ h. Some h) (let s = names_said g removes new in says_it g s.0 s.1).0)
  ]
    where
      of_listed : (g : ℕ) (q : Route) → Among dirty q → find (current log) q ≡ Some g → (b : Bool) → same_path q path ≡ b → ((p : Route) × Among dirty_after p × (find (current now) p ≡ Some g)) ⊎ IsUnreached now g
      of_listed g q among at true same = inr (removed_unreached g (subst (λ p. find (current log) p ≡ Some g) (same_path-true q path same) at))
      of_listed g q among at false off = inl (q, more q among off, off_path q off ∙ at)

  doubts : (n : ℕ) (p : Route) → renamed_since n now p ≡ true → after.doubt n p ≡ true
  doubts n [] waits = absurd (false≢true waits)
  doubts n (name ∷ q) waits = by (find (current now) q) refl
    where
      in_now : (o : Option ℕ) → find (current now) q ≡ o → option_map_or (λ g. is_pending g name (drop n now.changes)) o false ≡ true
      in_now o is = sym (ap (λ x. option_map_or (λ g. is_pending g name (drop n now.changes)) x false) is) ∙ waits

      waited : (g : ℕ) → find (current now) q ≡ Some g → is_pending g name (drop n log.changes) ≡ true → after.doubt n (name ∷ q) ≡ true
      waited g is old = elim (found_then q) [
        | inl same ↦ says.doubts n (name ∷ q) (known.doubts n (name ∷ q) (ap (λ x. option_map_or (λ h. is_pending h name (drop n log.changes)) x false) (sym same ∙ is) ∙ old))
        | inr gone ↦ absurd (no_path q g is gone)
      ]

      new : (g : ℕ) → find (current now) q ≡ Some g → is_some (says_of removes 0 g name) ≡ true → after.doubt n (name ∷ q) ≡ true
      new g is said =
          let s = says_it g name said in
          let q_is : r.up ≡ q = find-once (current now) naming.tree r.up q r.f stands (is ∙ ap (λ h. Some h) (sym s.0)) in
          let same : path ≡ name ∷ q = r.path_is ∙ (ap (λ n. (let l : Route = n ∷ r.up in l)) s.1 ∙ ap (λ (p : Route). name ∷ p) q_is) in
          subst (λ p. after.doubt n p ≡ true) same (says.doubted n)

      by : (o : Option ℕ) → find (current now) q ≡ o → after.doubt n (name ∷ q) ≡ true
      by None is = absurd (false≢true (in_now None is))
      by (Some g) is = elim (pending_since n g name log.changes removes (in_now (Some g) is)) [ inl old ↦ waited g is old | inr said ↦ new g is said ]

  -- this path, or another
  abbrev Where : Route → Type 0
  Where p = (p ≡ path) ⊎ (same_path p path ≡ false)

  where_is : (p : Route) → Where p
  where_is p = by (same_path p path) refl
    where
      by : (b : Bool) → same_path p path ≡ b → Where p
      by true is = inl (same_path-true p path is)
      by false is = inr is

  held_still : (p : Route) → marks.aside p ≡ false → held (current now) (marks.was p) ≡ held (current log) (marks.was p)
  held_still p out = held_same log removes (marks.was p) (λ i is. unaltered i (known.was_there p i out is).0)

  -- of what stood at the path no mode waits
  gone_mode : marks.aside path ≡ false → HasNoMode marks (marks.was path)
  gone_mode out i is = let e : (let o : Option ℕ = Some r.i in o) ≡ Some i = sym path_at ∙ (sym (was out) ∙ is) in subst (λ k. marks.modes k ≡ None) (sym (some_is r.i i e)) no_mode

  was_shown : (p : Route) → marks.aside p ≡ false → (marks.was p ≡ find (current now) p) ⊎ ((held (current now) (marks.was p) ≡ (after.earlier p).value) × HasNoMode marks (marks.was p))
  was_shown p out = elim (where_is p) [
    | inl at ↦
        let here = subst (λ q. marks.aside q ≡ false) at out in
        inr (held_still p out ∙ subst (λ q. held (current log) (marks.was q) ≡ (after.earlier q).value) (sym at) (says.was here), subst (λ q. HasNoMode marks (marks.was q)) (sym at) (gone_mode here))
    | inr off ↦ elim (known.was_shown p out) [
      | inl same ↦ inl (same ∙ sym (off_path p off))
      | inr shown ↦ inr (held_still p out ∙ (shown.0 ∙ sym (ap (λ (s : _). s.value) (says.off p off).1)), shown.1)
    ]
  ]

  -- a mode that waits is of another path
  moded_still : (i before : ℕ) → marks.modes i ≡ Some before → HasMode told dirty marks log i before → HasMode after dirty_after marks now i before
  moded_still i before is h = record {
    path = h.path;
    leads = off_path h.path off ∙ h.leads;
    out = h.out;
    listed = more h.path h.listed off;
    told = says.modes h.path h.told;
    shown = ap (λ (s : _). s.value) (says.off h.path off).1 ∙ (h.shown ∙ ap (λ n. Some (value (with_mode before n))) (sym (unaltered i (known.guarded.there h.path i (found_at log h.path (Some i) h.leads)))));
  }
    where
      off : same_path h.path path ≡ false
      off = false_from_ne_true _ (λ same.
          let i_is : i ≡ r.i = some_is r.i i (sym path_at ∙ (ap (find (current log)) (sym (same_path-true h.path path same)) ∙ h.leads)) in
          other_mode marks i before (subst (λ k. marks.modes k ≡ None) (sym i_is) no_mode) is)

  as_before : (q : Route) (g h : ℕ) → find (current log) q ≡ Some g → is_folder (node (current log) g) ≡ true → find (current now) q ≡ Some h → h ≡ g
  as_before = leads_as_before log known.guarded.tree path r k

  was_at : (q : Route) (g : ℕ) → is_folder (node (current log) g) ≡ true → find (current now) q ≡ Some g → find (current log) q ≡ Some g
  was_at q g folder then = elim (found_then q) [ inl same ↦ sym same ∙ then | inr gone ↦ absurd (no_path q g then gone) ]

  -- what is removed is no folder for which and another one a renaming waits
  joined_stays : (q : Route) (g h : ℕ) → is_joint g h log.changes ≡ true → find (current log) q ≡ Some g → find (current now) q ≡ Some g
  joined_stays q g h joined at = off_path q (false_from_ne_true _ (λ same.
      let g_is : g ≡ r.i = some_is r.i g (sym path_at ∙ (ap (find (current log)) (sym (same_path-true q path same)) ∙ at)) in
      both_ways _ (apart h) (subst (λ k. is_joint k h log.changes ≡ true) g_is joined))) ∙ at

  calm_was : (p : Route) → IsCalmPath marks log p → IsCalmPath marks now p
  calm_was p calm = record {
    mode = λ i at. elim (found_then p) [
      | inl same ↦ elim (calm.mode i (sym same ∙ at)) [ inl none ↦ inl none | inr begins ↦ inr (starts_same log removes i ∙ begins) ]
      | inr gone ↦ absurd (no_path p i at gone)
    ];
    alone = alone_still log removes known.files was_at refl p calm.alone;
  }

  joint : (g h : ℕ) (q : Route) → is_joint g h now.changes ≡ true → find (current now) q ≡ Some g → IsBeside now q h
  joint = joint_still log removes known.guarded.tree known.files refl (starts_same log removes) as_before was_at joined_stays known.joint

  shows : (p : Route) → (after.part ≡ Some p → ⊥) → visible_tree (current now) p ≡ after.tree p
  shows p other = elim (where_is p) [
    | inl at ↦ subst (λ q. visible_tree (current now) q ≡ after.tree q) (sym at) (seen_nowhere (current now) path gone_path ∙ sym says.gone)
    | inr off ↦
        let o = says.off p off in
        shows_same log removes p (off_path p off) (λ i is. unaltered i (known.guarded.there p i (found_at log p (Some i) is))) ∙ (known.shows p o.2 ∙ sym o.0)
  ]

  -- a folder that isn't in doubt is in none then
  firm_still : (p : Route) → same_path p path ≡ false → IsSureFolder log p → IsSureFolder now p
  firm_still = sure_elsewhere log known.guarded.tree path r k

  stand : (p : Route) → after.folders p ≡ true → IsSureFolder now p
  stand p there =
      let k = says.folders p there in
      elim k.1 [ inl before ↦ firm_still p k.0 (known.stand p before) | inr firm ↦ firm_still p k.0 firm ]

  left_then : (p : Route) → marks.aside p ≡ true → is_some (find (current now) p) ≡ true → (after.part ≡ Some p) ⊎ Among after.left p
  left_then p is there = elim (where_is p) [
    | inl at ↦ absurd (false≢true (sym (ap is_some (ap (find (current now)) at ∙ gone_path)) ∙ there))
    | inr off ↦ elim (known.left p is (sym (ap is_some (off_path p off)) ∙ there)) [ inl part ↦ absurd ((says.off p off).2 part) | inr among ↦ inr (says.left p off among) ]
  ]

  pub removed_known : IsKnown after dirty_after marks now
  removed_known = record {
    guarded = naming_law marks log removes known.guarded naming;
    files = record {
      bare = λ i m bare. false_from_ne_true _ (bare_now i m bare);
      unborn = unborn_more log removes (λ i past. naming.bytes i) naming.count known.files.unborn;
    };
    moded = λ i before is unclean. moded_still i before is (known.moded i before is (unclean_before log removes i refl unclean));
    calm = λ p there. elim (says.calm p there) [ inl before ↦ calm_was p (known.calm p before) | inr calm ↦ calm_was p calm ];
    folders = λ i folder. let before = known.folders i (was_folder i folder) in (roaming_still log removes i (marks.roams i) refl before.0, before.1);
    aside = says.named;
    left = left_then;
    was_there = λ p i out is. let t = known.was_there p i out is in (subst (λ n. i < n) (sym same_count) t.0, t.1);
    was_shown = was_shown;
    shows = shows;
    part = λ p is. absurd (let e = says.part in let n : (let o : Option Route = None in o) ≡ Some p = sym e ∙ is in cc);
    tracked = tracked;
    joint = joint;
    doubts = doubts;
    written = λ n p i other off at. elim (where_is p) [
      | inl here ↦ absurd (no_path p i at (ap (find (current now)) here ∙ gone_path))
      | inr away ↦ clean_since n i log.changes removes refl (known.written n p i (says.off p away).2 (says.spared n p off) (sym (off_path p away) ∙ at))
    ];
    stand = stand;
  }
