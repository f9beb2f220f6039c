-- The renaming of a part to the target.
use Rattle.std.proofs.Common.{◌≡◌, ◌⊎◌, ℕ, ◌<◌, Bool, true, false, not, ◌&&◌, List, [], ◌∷◌, ◌++◌, length, refl, sym, ◌∙◌, ap, subst, inl, inr, Option, Some, None, arith, cond, length-append}
use Rattle.std.specs.Prelude.{is_some, option_and_then, ◌==◌}
use Rattle.std.specs.Option.{option_map, option_map_or}
use Rattle.std.proofs.lemmas.Bool.{true≢false, both_ways, false_from_ne_true, eqb-true, eq-eqb}
use Rattle.mc_text.specs.Routes.{Route, same_path}
use Rattle.tree_trait.specs.declared.file_system.FileSystem.{FileSystem}
use Rattle.tree_trait.specs.FileSystem.{lookup, find, node, value, visible_tree, starts_mount}
use Rattle.tree_trait.specs.Refusals.{is_folder}
use Rattle.tree_trait.specs.Change.{Change, Moves, CallLog, current, with_change}
use Rattle.tree_trait.specs.CrashImages.{says, same_name, Among, is_clean}
use Rattle.tree_trait.proofs.Kept.{folder_there}
use Rattle.tree_trait.proofs.Finding.{same_name-true, same_name-self}
use Rattle.tree_trait.proofs.Visible.{same_path-true}
use Rattle.laws_crash.specs.Guarded.{Marks, IsNaming}
use Rattle.laws_crash.proofs.Guarding.{settle_law, find_same, found_at, said}
use Rattle.laws_crash.proofs.Leading.{current_more}
use Rattle.laws_crash.proofs.Placing.{placing_law}
use Rattle.laws_crash.proofs.Syncing.{unaltered_law}
use Rattle.laws_crash.proofs.Tops.{under_moved, none_below}
use Rattle.laws_sessions.proofs.Resting.{bare_may}
use Rattle.laws_sessions.specs.Doubt.{way_waits}
use Rattle.laws_sessions.proofs.Knowing.{IsKnown, RoamInTransit, HistoryFacts, held}
use Rattle.laws_sessions.proofs.Renaming.{in_one_folder, naming_known}
use Rattle.laws_sessions.proofs.Changing.{seen_nowhere, none_below_file, folder_anchored, off_itself, said_two, some_none, some_is}

some_route : (p q : Route) → (let o : Option Route = Some p in o) ≡ Some q → q ≡ p
some_route p q h = cc

-- a node that is on the disk is loose no more
abbrev pub marks_firm : Marks → ℕ → Marks
marks_firm marks i = record marks { loose = λ j. marks.loose j && not (j == i) }

still : (a b : Bool) → a ≡ false → (a && not b) ≡ false
still true b h = absurd (true≢false h)
still false b h = refl

was_or : (a b : Bool) → (a && not b) ≡ false → (a ≡ false) ⊎ (b ≡ true)
was_or true true h = inr refl
was_or true false h = absurd (true≢false h)
was_or false b h = inl refl

pub firm_known : (told : HistoryFacts) (dirty : List Route) (marks : Marks) (log : CallLog) (i : ℕ) → is_clean i log.changes ≡ true → marks.modes i ≡ None → IsKnown told dirty marks log → IsKnown told dirty (marks_firm marks i) log
firm_known told dirty marks log i clean no_mode known = record {
  guarded = settle_law marks (marks_firm marks i) log known.guarded (record {
    paths = λ p out. inl (out, refl);
    nodes = λ j firm. elim (was_or (marks.loose j) (j == i) firm) [ inl same ↦ inl (same, refl) | inr is ↦ inr (subst (λ k. is_clean k log.changes ≡ true) (sym (eqb-true j i is)) clean, subst (λ k. marks.modes k ≡ None) (sym (eqb-true j i is)) no_mode) ];
    firm = λ p j out at. elim (known.guarded.firm p j out at) [ inl firm ↦ inl (still _ _ firm) | inr folder ↦ inr folder ];
    places = λ j stays. inl stays;
  });
  files = known.files;
  moded = λ j before is unclean. let h = known.moded j before is unclean in record { path = h.path; leads = h.leads; out = h.out; listed = h.listed; told = h.told; shown = h.shown };
  calm = λ p there. let calm = known.calm p there in record { mode = calm.mode; alone = calm.alone };
  folders = λ j is. let k = known.folders j is in (k.0, still _ _ k.1);
  aside = known.aside;
  left = known.left;
  was_there = λ p j out is. let t = known.was_there p j out is in (t.0, still _ _ t.1);
  was_shown = known.was_shown;
  shows = known.shows;
  part = known.part;
  tracked = known.tracked;
  joint = known.joint;
  doubts = known.doubts;
  written = known.written;
  stand = known.stand;
}

-- a folder roams only where it did
pub firm_transit : (marks : Marks) (log : CallLog) (i : ℕ) → RoamInTransit marks log → RoamInTransit (marks_firm marks i) log
firm_transit marks log i in_transit j folder is = in_transit j folder is

-- A part that is to be placed, in a folder to which nothing waits on the way, and what the history says once it is.
pub record PlacesPart (told after : HistoryFacts) (marks : Marks) (log : CallLog) (part target : List ℕ) (up : Route) (f i : ℕ) : Type 0 where
  pub part_is : told.part ≡ Some (part ∷ up)
  pub at : find (current log) up ≡ Some f
  pub folder : is_folder (node (current log) f) ≡ true
  pub sure : way_waits log up ≡ false
  pub leads : find (current log) (part ∷ up) ≡ Some i
  pub apart : part ≡ target → ⊥
  pub moves : marks.roams i ≡ true
  pub firm : marks.loose i ≡ false
  pub file : is_folder (node (current log) i) ≡ false
  -- what stands there, if anything does, is what stood there, and no folder, and no mode of it waits
  pub bare : (j : ℕ) → find (current log) (target ∷ up) ≡ Some j → is_folder (node (current log) j) ≡ false
  pub was : marks.aside (target ∷ up) ≡ false → marks.was (target ∷ up) ≡ find (current log) (target ∷ up)
  pub calm_there : (j : ℕ) → find (current log) (target ∷ up) ≡ Some j → marks.modes j ≡ None
  pub no_mount : starts_mount (current log) i ≡ false
  pub named : (p : Route) → marks.aside p ≡ true → Among after.named p
  pub left : marks.aside (target ∷ up) ≡ true → Among after.left (target ∷ up)
  pub lefts : (p : Route) → Among told.left p → Among after.left p
  pub off : (p : Route) → same_path p (target ∷ up) ≡ false → (after.tree p ≡ told.tree p) × (after.earlier p ≡ told.earlier p)
  pub placed : after.tree (target ∷ up) ≡ record { value = Some (value (node (current log) i)); is_mount = false }
  pub earlier : (after.earlier (target ∷ up)).value ≡ held (current log) (find (current log) (target ∷ up))
  pub none : after.part ≡ None
  pub doubts : (n : ℕ) (p : Route) → told.doubt n p ≡ true → after.doubt n p ≡ true
  pub spared : (n : ℕ) (p : Route) → after.written n p ≡ false → told.written n p ≡ false
  pub unspared : (n : ℕ) → after.written n (target ∷ up) ≡ true
  pub folders : (p : Route) → after.folders p ≡ true → told.folders p ≡ true
  pub modes : (p : Route) → told.modes p ≡ true → after.modes p ≡ true
  pub calm : (p : Route) → after.calm p ≡ true → told.calm p ≡ true
  pub no_mode : marks.modes i ≡ None
  pub doubted : (n : ℕ) → (after.doubt n (target ∷ up) ≡ true) × (after.doubt n (part ∷ up) ≡ true)

module _ (told after : HistoryFacts) (dirty dirty_after : List Route) (marks : Marks) (log : CallLog) (known : IsKnown told dirty marks log) (in_transit : RoamInTransit marks log) (part target : List ℕ) (up : Route) (f i : ℕ) (r : Option ℕ)
    (h : PlacesPart told after marks log part target up f i) where
  abbrev moves : Change
  moves = Moves f part f target i r

  abbrev now : CallLog
  now = with_change log moves

  part_name : lookup (current log).names f part ≡ Some i
  part_name = sym (ap (option_and_then (λ g. lookup (current log).names g part)) h.at) ∙ h.leads

  at_target : (j : ℕ) → lookup (current log).names f target ≡ Some j → find (current log) (target ∷ up) ≡ Some j
  at_target j leads = ap (option_and_then (λ g. lookup (current log).names g target)) h.at ∙ leads

  -- nothing stands below it
  none_under : (more : List ℕ) (rest : Route) (o : Option ℕ) → find (current log) (target ∷ up) ≡ o → find (current log) (more ∷ rest ++ target ∷ up) ≡ None
  none_under more rest None free = none_below log (more ∷ rest) (target ∷ up) free
  none_under more rest (Some j) at = none_below_file (current log) known.guarded.tree (target ∷ up) j at (h.bare j at) more rest

  unworked : (rest : Route) → marks.aside (rest ++ target ∷ up) ≡ false → (find (current log) (rest ++ target ∷ up) ≡ marks.was (rest ++ target ∷ up)) ⊎ (find (current log) (rest ++ target ∷ up) ≡ None)
  unworked [] out = inl (sym (h.was out))
  unworked (more ∷ rest) out = inr (none_under more rest (find (current log) (target ∷ up)) refl)

  other : same_name f target f part ≡ false
  other = false_from_ne_true _ (λ e. h.apart (sym (same_name-true f f target part e).1))

  naming : IsNaming marks log moves
  naming = placing_law marks log up part target f i r known.guarded (record {
    stands = record { at = h.at; anchored = folder_anchored told dirty marks log known in_transit up f h.at h.folder h.sure };
    folder = h.folder;
    leads = part_name;
    other = other;
    is_aside = (known.part (part ∷ up) h.part_is).0;
    moves = h.moves;
    firm = h.firm;
    file = λ m y lead. bare_may log known.guarded.tree known.files i m y h.file lead;
    found = λ out. sym (h.was out);
    under = unworked;
  })

  no_longer : (rest : Route) (m : List ℕ) → up ≡ rest ++ m ∷ up → ⊥
  no_longer rest m e = let l = ap (λ (q : Route). length q) e in let k = length-append rest (m ∷ up) in absurd (omega (arith, l, k))

  stands : find (current now) up ≡ Some f
  stands = elim (find_same log moves up) [
    | inl same ↦ same ∙ h.at
    | inr under ↦ elim (under_moved log known.guarded.tree up f h.at part target i r up under) [ inl u ↦ absurd (no_longer u.0 target u.1) | inr u ↦ absurd (no_longer u.0 part u.1) ]
  ]

  abbrev two : Bool → Bool → Option (Option ℕ)
  two a b = cond a (Some (Some i)) (cond b (Some None) None)

  target_leads : lookup (current now).names f target ≡ Some i
  target_leads = Rattle.laws_crash.proofs.Guarding.said log moves f target (Some i) (ap (λ a. two a (same_name f part f target)) (same_name-self f target))

  part_gone : lookup (current now).names f part ≡ None
  part_gone = Rattle.laws_crash.proofs.Guarding.said log moves f part None (ap (λ a. two a (same_name f part f part)) other ∙ ap (λ b. two false b) (same_name-self f part))

  pub target_at : find (current now) (target ∷ up) ≡ Some i
  target_at = ap (option_and_then (λ g. lookup (current now).names g target)) stands ∙ target_leads

  part_at : find (current now) (part ∷ up) ≡ None
  part_at = ap (option_and_then (λ g. lookup (current now).names g part)) stands ∙ part_gone

  there : i < length (current log).nodes
  there = known.guarded.there (part ∷ up) i (found_at log (part ∷ up) (Some i) h.leads)

  node_same : node (current now) i ≡ node (current log) i
  node_same = unaltered_law log moves i (naming.bytes i) there

  file_now : is_folder (node (current now) i) ≡ false
  file_now = ap is_folder node_same ∙ h.file

  off_both : (p : Route) → same_path p (target ∷ up) ≡ false → same_path p (part ∷ up) ≡ false → find (current now) p ≡ find (current log) p
  off_both p first second = elim (find_same log moves p) [
    | inl same ↦ same
    | inr under ↦ elim (under_moved log known.guarded.tree up f h.at part target i r p under) [ inl u ↦ below_target u.0 u.1 | inr u ↦ below_part u.0 u.1 ]
  ]
    where
      below_target : (rest : Route) → p ≡ rest ++ target ∷ up → find (current now) p ≡ find (current log) p
      below_target [] e = absurd (off_itself p (target ∷ up) e first)
      below_target (more ∷ rest) e =
          ap (find (current now)) e ∙ none_below_file (current now) naming.tree (target ∷ up) i target_at file_now more rest
          ∙ sym (ap (find (current log)) e ∙ none_under more rest (find (current log) (target ∷ up)) refl)

      below_part : (rest : Route) → p ≡ rest ++ part ∷ up → find (current now) p ≡ find (current log) p
      below_part [] e = absurd (off_itself p (part ∷ up) e second)
      below_part (more ∷ rest) e =
          ap (find (current now)) e ∙ none_below now (more ∷ rest) (part ∷ up) part_at
          ∙ sym (ap (find (current log)) e ∙ none_below_file (current log) known.guarded.tree (part ∷ up) i h.leads h.file more rest)

  name_is : (m : List ℕ) → is_some (says moves 0 f m) ≡ true → (target ≡ m) ⊎ (part ≡ m)
  name_is m s = elim (said_two (same_name f target f m) (same_name f part f m) (Some i) None s) [
    | inl e ↦ inl (same_name-true f f target m e).1
    | inr e ↦ inr (same_name-true f f part m e).1
  ]

  mounts_now : starts_mount (current now) i ≡ false
  mounts_now = ap (λ (s : FileSystem). starts_mount s i) (current_more log moves) ∙ h.no_mount

  other_part : (p : Route) → same_path p (part ∷ up) ≡ false → told.part ≡ Some p → ⊥
  other_part p off is = off_itself p (part ∷ up) (some_route (part ∷ up) p (sym h.part_is ∙ is)) off

  placed_shown : visible_tree (current now) (target ∷ up) ≡ after.tree (target ∷ up)
  placed_shown =
      ap (λ o. (let v : _ = record { value = option_map (λ j. value (node (current now) j)) o; is_mount = option_map_or (starts_mount (current now)) o false } in v)) target_at
      ∙ (ap (λ n. (let v : _ = record { value = Some (value n); is_mount = starts_mount (current now) i } in v)) node_same
      ∙ (ap (λ b. (let v : _ = record { value = Some (value (node (current log) i)); is_mount = b } in v)) mounts_now ∙ sym h.placed))

  part_shown : visible_tree (current now) (part ∷ up) ≡ after.tree (part ∷ up)
  part_shown = seen_nowhere (current now) (part ∷ up) part_at ∙ sym ((h.off (part ∷ up) apart_path).0 ∙ (known.part (part ∷ up) h.part_is).1)
    where
      apart_path : same_path (part ∷ up) (target ∷ up) ≡ false
      apart_path = false_from_ne_true _ (λ e. let s : (part ∷ up) ≡ target ∷ up = same_path-true (part ∷ up) (target ∷ up) e in h.apart cc)

  pub placed_known : Among dirty_after up → ((q : Route) → Among dirty q → Among dirty_after q) → IsKnown after dirty_after marks now
  placed_known listed more = naming_known told after dirty dirty_after marks log moves up up (target ∷ up) (part ∷ up) f f known (record {
    naming = naming;
    names = in_one_folder log moves up (target ∷ up) (part ∷ up) f stands h.folder here at files files_now;
    made = λ j past. false_from_ne_true _ (λ is. let t = folder_there (current now).nodes j is in let n = ap (λ (s : FileSystem). length s.nodes) (current_more log moves) in absurd (omega (arith, past, t, n)));
    listed = listed;
    listed_beside = listed;
    more = more;
    doubts = h.doubts;
    spared = h.spared;
    unwritten = λ n p j at other off there. elim at [
      | inl e ↦ both_ways _ off (subst (λ q. after.written n q ≡ true) (sym e) (h.unspared n))
      | inr e ↦ some_none j (sym there ∙ (ap (find (current now)) e ∙ part_at))
    ];
    folders = λ p there. inl (h.folders p there);
    modes = h.modes;
    calm = λ p there. inl (h.calm p there);
    apart = λ p still. inl ap_same;
    no_mode = no_mode;
    touched = λ n p at. elim at [
      | inl e ↦ subst (λ q. after.doubt n q ≡ true) (sym e) (h.doubted n).0
      | inr e ↦ subst (λ q. after.doubt n q ≡ true) (sym e) (h.doubted n).1
    ];
    named = h.named;
    left = λ p at is there. elim at [
      | inl e ↦ inr (subst (λ q. Among after.left q) (sym e) (h.left (subst (λ q. marks.aside q ≡ true) e is)))
      | inr e ↦ absurd (true≢false (sym there ∙ ap is_some (ap (find (current now)) e ∙ part_at)))
    ];
    lefts = λ p first second among. h.lefts p among;
    off = λ p first second. let o = h.off p first in (off_both p first second, o.0, o.1, other_part p second);
    shown = λ p at _. elim at [
      | inl e ↦ subst (λ q. visible_tree (current now) q ≡ after.tree q) (sym e) placed_shown
      | inr e ↦ subst (λ q. visible_tree (current now) q ≡ after.tree q) (sym e) part_shown
    ];
    was = λ p at out. elim at [
      | inl e ↦
          let stood = h.was (subst (λ q. marks.aside q ≡ false) e out) in
          inr (ap (held (current log)) (ap marks.was e ∙ stood) ∙ sym (ap (λ q. (after.earlier q).value) e ∙ h.earlier), λ j is. h.calm_there j (sym stood ∙ (sym (ap marks.was e) ∙ is)))
      | inr e ↦ absurd (both_ways _ (subst (λ q. marks.aside q ≡ false) e out) (known.part (part ∷ up) h.part_is).0)
    ];
    part = λ p is. absurd (let e = h.none in let n : (let o : Option Route = None in o) ≡ Some p = sym e ∙ is in cc);
  })
    where
      here : (g : ℕ) (m : List ℕ) → is_some (says moves 0 g m) ≡ true → g ≡ f
      here g m s = elim (said_two (same_name f target g m) (same_name f part g m) (Some i) None s) [
        | inl e ↦ sym (same_name-true f g target m e).0
        | inr e ↦ sym (same_name-true f g part m e).0
      ]

      at : (m : List ℕ) → is_some (says moves 0 f m) ≡ true → ((m ∷ up) ≡ target ∷ up) ⊎ ((m ∷ up) ≡ part ∷ up)
      at m s = elim (name_is m s) [
        | inl e ↦ inl (ap (λ q. (let l : Route = q ∷ up in l)) (sym e))
        | inr e ↦ inr (ap (λ q. (let l : Route = q ∷ up in l)) (sym e))
      ]

      files : (m : List ℕ) (j : ℕ) → is_some (says moves 0 f m) ≡ true → lookup (current log).names f m ≡ Some j → is_folder (node (current log) j) ≡ false
      files m j s lead = elim (name_is m s) [
        | inl e ↦ h.bare j (at_target j (ap (lookup (current log).names f) e ∙ lead))
        | inr e ↦ subst (λ k. is_folder (node (current log) k) ≡ false) (sym (some_is i j (sym part_name ∙ (ap (lookup (current log).names f) e ∙ lead)))) h.file
      ]

      files_now : (m : List ℕ) (j : ℕ) → is_some (says moves 0 f m) ≡ true → lookup (current now).names f m ≡ Some j → is_folder (node (current now) j) ≡ false
      files_now m j s lead = elim (name_is m s) [
        | inl e ↦ subst (λ k. is_folder (node (current now) k) ≡ false) (sym (some_is i j (sym target_leads ∙ (ap (lookup (current now).names f) e ∙ lead)))) file_now
        | inr e ↦ some_none j (sym lead ∙ (ap (lookup (current now).names f) (sym e) ∙ part_gone))
      ]

      of_moved : (j : ℕ) → j ≡ i → marks.modes j ≡ None
      of_moved j is = subst (λ k. marks.modes k ≡ None) (sym is) h.no_mode

      -- no mode waits of what is replaced, nor of what moves
      no_mode : (p : Route) (j : ℕ) → (p ≡ target ∷ up) ⊎ (p ≡ part ∷ up) → (find (current log) p ≡ Some j) ⊎ (find (current now) p ≡ Some j) → marks.modes j ≡ None
      no_mode p j (inl e) (inl before) = h.calm_there j (ap (find (current log)) (sym e) ∙ before)
      no_mode p j (inl e) (inr then) = of_moved j (some_is i j (sym target_at ∙ (ap (find (current now)) (sym e) ∙ then)))
      no_mode p j (inr e) (inl before) = of_moved j (some_is i j (sym h.leads ∙ (ap (find (current log)) (sym e) ∙ before)))
      no_mode p j (inr e) (inr then) = some_none j (sym then ∙ (ap (find (current now)) e ∙ part_at))

      ap_same : (f == f) ≡ true
      ap_same = eq-eqb f f refl
