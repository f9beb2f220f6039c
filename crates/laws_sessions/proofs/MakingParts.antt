-- The making of a part, which stands aside from then on.
use Rattle.std.proofs.Common.{◌≡◌, ◌⊎◌, ℕ, ◌<◌, ◌≤◌, Bool, true, false, ◌||◌, List, [], ◌∷◌, ◌++◌, length, refl, sym, ◌∙◌, ap, subst, inl, inr, Option, Some, None, arith, cond, length-append}
use Rattle.std.specs.Prelude.{is_some, option_and_then, ◌==◌}
use Rattle.std.proofs.lemmas.Bool.{false≢true, true≢false, both_ways, false_from_ne_true, eqb-true, or_left, or_right}
use Rattle.mc_text.specs.Routes.{Route, same_path}
use Rattle.tree_trait.specs.declared.file_system.FileSystem.{FileSystem}
use Rattle.tree_trait.specs.declared.file_system.Node.{Node}
use Rattle.tree_trait.specs.FileSystem.{lookup, find, node}
use Rattle.tree_trait.specs.Refusals.{is_folder}
use Rattle.tree_trait.specs.Change.{Change, Makes, CallLog, current, with_change}
use Rattle.tree_trait.specs.CrashImages.{says, same_name, Among}
use Rattle.tree_trait.proofs.Kept.{folder_there}
use Rattle.tree_trait.proofs.Finding.{same_name-true, same_name-self}
use Rattle.tree_trait.proofs.Names.{count_after, count-after_change}
use Rattle.tree_trait.proofs.Visible.{same_path-true, same_path-self}
use Rattle.tree_trait.proofs.Steady.{at}
use Rattle.laws_crash.specs.Guarded.{Marks, IsNaming}
use Rattle.laws_crash.proofs.Guarding.{settle_law, find_same, said}
use Rattle.laws_crash.proofs.Leading.{current_more}
use Rattle.laws_crash.proofs.Making.{making_law}
use Rattle.laws_crash.proofs.Tops.{under_made, none_below}
use Rattle.job_reports.specs.Paths.{folder_of}
use Rattle.laws_sessions.specs.Doubt.{way_waits}
use Rattle.laws_sessions.proofs.Knowing.{HasMode, IsCalmPath, IsKnown, RoamInTransit, HistoryFacts, nowhere}
use Rattle.laws_sessions.proofs.Resting.{IsSureFolder}
use Rattle.laws_sessions.proofs.Renaming.{in_one_folder, naming_known}
use Rattle.laws_sessions.proofs.Changing.{seen_nowhere, none_below_file, folder_anchored, off_itself, said_one, some_none, some_is}

abbrev pub new_node : CallLog → ℕ
new_node log = length (current log).nodes

-- a path that is to be a part's, and the node that is made next
abbrev pub marks_new : Marks → Route → ℕ → Marks
marks_new marks part n = record {
  was = marks.was;
  aside = λ p. same_path p part || marks.aside p;
  loose = λ i. (i == n) || marks.loose i;
  roams = λ i. (i == n) || marks.roams i;
  modes = marks.modes;
}

abbrev pub naming_part : HistoryFacts → Route → HistoryFacts
naming_part told part = record told { named = part ∷ told.named }

neither : (a b : Bool) → (a || b) ≡ false → (a ≡ false) × (b ≡ false)
neither true b h = absurd (true≢false h)
neither false b h = (refl, h)

either : (a b : Bool) → (a || b) ≡ true → (a ≡ true) ⊎ (b ≡ true)
either true b h = inl refl
either false b h = inr h

both_false : (a b : Bool) → a ≡ false → b ≡ false → (a || b) ≡ false
both_false true b h e = absurd (true≢false h)
both_false false b h e = e

older : (i n : ℕ) → i < n → (i == n) ≡ false
older i n less = false_from_ne_true _ (λ same. let e = eqb-true i n same in absurd (omega (arith, less, e)))

module _ (told : HistoryFacts) (dirty : List Route) (marks : Marks) (log : CallLog) (known : IsKnown told dirty marks log) (part : Route) (free : find (current log) part ≡ None) where
  abbrev n : ℕ
  n = new_node log

  abbrev new_marks : Marks
  new_marks = marks_new marks part n

  there_folder : (i : ℕ) → is_folder (node (current log) i) ≡ true → i < n
  there_folder i is = folder_there (current log).nodes i is

  -- nothing stands there, so no mode of it waits
  moded_apart : (i before : ℕ) → HasMode told dirty marks log i before → HasMode (naming_part told part) dirty new_marks log i before
  moded_apart i before h = record {
    path = h.path;
    leads = h.leads;
    out = both_false _ _ (false_from_ne_true _ (λ same. some_none i (sym h.leads ∙ (ap (find (current log)) (same_path-true h.path part same) ∙ free)))) h.out;
    listed = h.listed;
    told = h.told;
    shown = h.shown;
  }

  pub marked_known : IsKnown (naming_part told part) dirty new_marks log
  marked_known = record {
    guarded = settle_law marks new_marks log known.guarded (record {
      paths = λ p out. inl ((neither _ _ out).1, refl);
      nodes = λ i firm. inl ((neither _ _ firm).1, refl);
      firm = λ p i out at. elim (known.guarded.firm p i (neither _ _ out).1 at) [
        | inl firm ↦ inl (both_false _ _ (older i n (known.guarded.there p i at)) firm)
        | inr folder ↦ inr folder
      ];
      places = λ i stays. inl (neither _ _ stays).1;
    });
    files = known.files;
    moded = λ i before is unclean. moded_apart i before (known.moded i before is unclean);
    calm = λ p there. let calm = known.calm p there in record { mode = calm.mode; alone = calm.alone };
    folders = λ i is. let o = older i n (there_folder i is) in let k = known.folders i is in (elim k.0 [ inl stays ↦ inl (both_false _ _ o stays) | inr renamed ↦ inr renamed ], both_false _ _ o k.1);
    aside = λ p is. elim (either _ _ is) [ inl same ↦ inl (same_path-true p part same) | inr before ↦ inr (known.aside p before) ];
    left = λ p is there. elim (either _ _ is) [
      | inl same ↦ absurd (false≢true (sym (ap is_some (ap (find (current log)) (same_path-true p part same) ∙ free)) ∙ there))
      | inr before ↦ known.left p before there
    ];
    was_there = λ p i out is. let t = known.was_there p i (neither _ _ out).1 is in (t.0, both_false _ _ (older i n t.0) t.1);
    was_shown = λ p out. known.was_shown p (neither _ _ out).1;
    shows = known.shows;
    part = λ p is. let k = known.part p is in (or_right _ _ k.0, k.1, k.2);
    tracked = known.tracked;
    joint = known.joint;
    doubts = known.doubts;
    written = known.written;
    stand = known.stand;
  }

  -- a folder roams only where it did
  pub marked_transit : RoamInTransit marks log → RoamInTransit new_marks log
  marked_transit in_transit i folder is = elim (either _ _ is) [
    | inl same ↦ absurd (both_ways _ (older i n (there_folder i folder)) same)
    | inr before ↦ in_transit i folder before
  ]

-- A part is made where nothing stands, in a folder to which nothing waits on the way.
pub record MakesPart (told : HistoryFacts) (log : CallLog) (name : List ℕ) (up : Route) (f : ℕ) : Type 0 where
  pub none : told.part ≡ None
  pub at : find (current log) up ≡ Some f
  pub folder : is_folder (node (current log) f) ≡ true
  pub free : lookup (current log).names f name ≡ None
  pub sure : way_waits log up ≡ false

-- what a history says once it was made, by a job whose item is in this folder, and whose own these paths are
abbrev pub with_part : HistoryFacts → Route → (Route → Bool) → Route → HistoryFacts
with_part told folder own part = record (naming_part told part) {
  part = Some part;
  doubt = λ n p. told.doubt n p || same_path p part;
  written = λ n p. told.written n p || same_path p part;
  folders = λ p. (same_path p folder || same_path p (folder_of part)) || told.folders p;
  calm = λ p. own p || told.calm p;
}

module _ (told : HistoryFacts) (dirty dirty_after : List Route) (marks : Marks) (log : CallLog) (known : IsKnown told dirty marks log) (name : List ℕ) (up : Route) (f : ℕ) (made : Node)
    (in_transit : RoamInTransit marks log) (m : MakesPart told log name up f) (bare : is_folder made ≡ false) (new_mode : marks.modes (new_node log) ≡ None) where
  abbrev makes : Change
  makes = Makes f name made

  abbrev now : CallLog
  now = with_change log makes

  abbrev part : Route
  part = name ∷ up

  was_free : find (current log) part ≡ None
  was_free = ap (option_and_then (λ g. lookup (current log).names g name)) m.at ∙ m.free

  marked : IsKnown (naming_part told part) dirty (marks_new marks part (new_node log)) log
  marked = marked_known told dirty marks log known part was_free

  naming : IsNaming (marks_new marks part (new_node log)) log makes
  naming = making_law (marks_new marks part (new_node log)) log up name f made marked.guarded (record {
    stands = record { at = m.at; anchored = folder_anchored (naming_part told part) dirty (marks_new marks part (new_node log)) log marked (marked_transit told dirty marks log known part was_free in_transit) up f m.at m.folder m.sure };
    folder = m.folder;
    free = m.free;
    was = λ out. absurd (both_ways _ out aside);
    solid = λ out. absurd (both_ways _ out aside);
  })
    where
      aside : (same_path part part || marks.aside part) ≡ true
      aside = or_left _ _ (same_path-self part)

  no_longer : (rest : Route) → up ≡ rest ++ name ∷ up → ⊥
  no_longer rest e = let l = ap (λ (q : Route). length q) e in let k = length-append rest (name ∷ up) in absurd (omega (arith, l, k))

  stands : find (current now) up ≡ Some f
  stands = elim (find_same log makes up) [
    | inl same ↦ same ∙ m.at
    | inr under ↦ let u = under_made log known.guarded.tree up f m.at name made up under in absurd (no_longer u.0 u.1)
  ]

  leads : lookup (current now).names f name ≡ Some (new_node log)
  leads = Rattle.laws_crash.proofs.Guarding.said log makes f name (Some (new_node log)) (ap (λ b. (let o : Option (Option ℕ) = cond b (Some (Some (new_node log))) None in o)) (same_name-self f name))

  pub part_leads : find (current now) part ≡ Some (new_node log)
  part_leads = ap (option_and_then (λ g. lookup (current now).names g name)) stands ∙ leads

  last_node : (xs : List Node) → at (xs ++ made ∷ []) (length xs) ≡ made
  last_node [] = refl
  last_node (x ∷ xs) = last_node xs

  pub part_node : node (current now) (new_node log) ≡ made
  part_node = ap (λ (s : FileSystem). node s (new_node log)) (current_more log makes) ∙ last_node (current log).nodes

  bare_part : is_folder (node (current now) (new_node log)) ≡ false
  bare_part = ap is_folder part_node ∙ bare

  pub off_part : (p : Route) → same_path p part ≡ false → find (current now) p ≡ find (current log) p
  off_part p off = elim (find_same log makes p) [
    | inl same ↦ same
    | inr under ↦ let u = under_made log known.guarded.tree up f m.at name made p under in below u.0 u.1
  ]
    where
      below : (rest : Route) → p ≡ rest ++ part → find (current now) p ≡ find (current log) p
      below [] e = absurd (off_itself p part e off)
      below (more ∷ rest) e =
          ap (find (current now)) e ∙ none_below_file (current now) naming.tree part (new_node log) part_leads bare_part more rest
          ∙ sym (ap (find (current log)) e ∙ none_below log (more ∷ rest) part was_free)

  some_none_route : (p : Route) → (let o : Option Route = None in o) ≡ Some p → ⊥
  some_none_route p h = cc

  some_route : (p q : Route) → (let o : Option Route = Some p in o) ≡ Some q → q ≡ p
  some_route p q h = cc

  nodes_more : length (current now).nodes ≡ count_after makes (new_node log)
  nodes_more = ap (λ (s : FileSystem). length s.nodes) (current_more log makes) ∙ count-after_change (current log) makes

  pub made_known : (folder : Route) (own : Route → Bool) → IsSureFolder log folder → IsSureFolder log up → ((p : Route) → own p ≡ true → IsCalmPath marks log p) → Among dirty_after up → ((q : Route) → Among dirty q → Among dirty_after q)
      → IsKnown (with_part told folder own part) dirty_after (marks_new marks part (new_node log)) now
  made_known folder own around firm calm listed more = naming_known (naming_part told part) (with_part told folder own part) dirty dirty_after (marks_new marks part (new_node log)) log makes up up part part f f marked (record {
    naming = naming;
    names = in_one_folder log makes up part part f stands m.folder
        (λ g k h. sym (same_name-true f g name k (said_one (same_name f name g k) (Some 0) h)).0)
        (λ k h. inl (ap (λ q. (let r : Route = q ∷ up in r)) (sym (name_is k h))))
        (λ k j h lead. some_none j (sym lead ∙ (ap (lookup (current log).names f) (sym (name_is k h)) ∙ m.free)))
        (λ k j h lead. subst (λ i. is_folder (node (current now) i) ≡ false) (sym (some_is (new_node log) j (sym leads ∙ (ap (lookup (current now).names f) (name_is k h) ∙ lead)))) bare_part);
    made = made_bare;
    listed = listed;
    listed_beside = listed;
    more = more;
    doubts = λ n p h. or_left _ _ h;
    spared = λ n p off. (neither (told.written n p) (same_path p part) off).0;
    unwritten = λ n p i at other off there. other (ap (λ q. Some q) (sym (either_is p at)));
    folders = λ p h. elim (either _ _ h) [
      | inl here ↦ inr (elim (either _ _ here) [
        | inl outer ↦ subst (λ q. IsSureFolder log q) (sym (same_path-true p folder outer)) around
        | inr same ↦ subst (λ q. IsSureFolder log q) (sym (same_path-true p up same)) firm
      ])
      | inr before ↦ inl before
    ];
    modes = λ p h. h;
    calm = λ p h. elim (either (own p) (told.calm p) h) [ inl here ↦ inr (let still = calm p here in record { mode = still.mode; alone = still.alone }) | inr before ↦ inl before ];
    apart = λ p still. inl refl;
    no_mode = λ p i at there. mode_of i (elim there [ inl before ↦ inl (sym (ap (find (current log)) (either_is p at)) ∙ before) | inr then ↦ inr (sym (ap (find (current now)) (either_is p at)) ∙ then) ]);
    touched = λ n p at. or_right _ _ (subst (λ q. same_path q part ≡ true) (sym (either_is p at)) (same_path-self part));
    named = marked.aside;
    left = λ p at is there. inl (ap (λ q. Some q) (sym (either_is p at)));
    lefts = λ p first second among. among;
    off = λ p first second. (off_part p first, refl, refl, λ is. some_none_route p (sym m.none ∙ is));
    shown = λ p at other. absurd (other (ap (λ q. Some q) (sym (either_is p at))));
    was = λ p at out. absurd (both_ways _ out (subst (λ q. (same_path q part || marks.aside q) ≡ true) (sym (either_is p at)) (or_left _ _ (same_path-self part))));
    part = λ p is. subst (λ q. ((same_path q part || marks.aside q) ≡ true) × (told.tree q ≡ nowhere) × (is_some (find (current now) q) ≡ true)) (sym (some_route part p is)) (
      or_left _ _ (same_path-self part),
      sym (known.shows part (λ e. some_none_route part (sym m.none ∙ e))) ∙ seen_nowhere (current log) part was_free,
      ap is_some part_leads,
    );
  })
    where
      either_is : (p : Route) → (p ≡ part) ⊎ (p ≡ part) → p ≡ part
      either_is p (inl e) = e
      either_is p (inr e) = e

      mode_of : (i : ℕ) → (find (current log) part ≡ Some i) ⊎ (find (current now) part ≡ Some i) → marks.modes i ≡ None
      mode_of i (inl before) = some_none i (sym before ∙ was_free)
      mode_of i (inr then) = subst (λ k. marks.modes k ≡ None) (sym (some_is (new_node log) i (sym part_leads ∙ then))) new_mode

      name_is : (k : List ℕ) → is_some (says makes 0 f k) ≡ true → name ≡ k
      name_is k h = (same_name-true f f name k (said_one (same_name f name f k) (Some 0) h)).1

      made_bare : (i : ℕ) → length (current log).nodes ≤ i → is_folder (node (current now) i) ≡ false
      made_bare i past = false_from_ne_true _ (λ is.
          let there = folder_there (current now).nodes i is in
          let count = nodes_more in
          let same : new_node log ≡ i = omega (arith, past, there, count) in
          both_ways _ bare_part (subst (λ k. is_folder (node (current now) k) ≡ true) (sym same) is))
