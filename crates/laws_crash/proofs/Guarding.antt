-- What each kind of step keeps.
use Rattle.std.proofs.Common.{◌≡◌, ℕ, ◌<◌, ◌≤◌, true, false, List, [], ◌∷◌, length, refl, sym, ◌∙◌, ap, subst, inl, inr, ◌⊎◌, Option, Some, None, arith}
use Rattle.std.specs.Prelude.{unwrap_or, is_some, option_and_then}
use Rattle.std.proofs.lemmas.Bool.{both_ways}
use Rattle.mc_text.specs.Routes.{Route}
use Rattle.tree_trait.specs.declared.file_system.FileSystem.{FileSystem}
use Rattle.tree_trait.specs.FileSystem.{Value, lookup, find, value, value_at, node}
use Rattle.tree_trait.specs.Change.{Change, CallLog, current, with_change, Nothing, Makes, Moves, Removes, Sets, Writes, Syncs, after_change}
use Rattle.tree_trait.specs.CrashImages.{says, may_lead, Among}
use Rattle.tree_trait.specs.Shape.{IsTree}
use Rattle.tree_trait.specs.Refusals.{is_folder, folder_kind}
use Rattle.tree_trait.proofs.Finding.{and_then-some}
use Rattle.tree_trait.proofs.Kept.{folder_there, at_more, kind_set}
use Rattle.tree_trait.proofs.Steady.{node_law}
use Rattle.laws_crash.specs.Possible.{MayLead, MayFindFrom, find_from, IsSettledBelow, MayFind, Leads, IsImage}
use Rattle.laws_crash.specs.Guarded.{Marks, IsGuarded, IsOnDisk, Holds, Shows, GuardLaw, QuietLaw, Touches, IsUnder, IsNaming, NamingLaw, SettleLaw}
use Rattle.laws_crash.proofs.KindOfNode.{kind_law}
use Rattle.laws_crash.proofs.NodeModes.{on_disk_more}
use Rattle.laws_crash.proofs.Leading.{find_law, leads_more, leads_now, lookup_more, current_more}

-- in an image a node shows what it shows now, or the mode before
shows_node : (log : CallLog) (image : FileSystem) (i : ℕ) (before : Option ℕ) → IsImage log image → IsOnDisk log i before → Shows before (let v : Option Value = Some (value (node image i)) in v) (node (current log) i)
shows_node log image i None left clean = ap (λ n. (let v : Option Value = Some (value n) in v)) (node_law i log.opening log.opening image log.changes refl refl clean left)
shows_node log image i (Some before) left (there, may) =
    elim (may image left) [
      | inl stands ↦ inl (ap (λ n. (let v : Option Value = Some (value n) in v)) stands)
      | inr old ↦ inr (ap (λ n. (let v : Option Value = Some (value n) in v)) old)
    ]

-- a path holds in an image what the node holds to which it leads there
seen : (marks : Marks) (log : CallLog) (image : FileSystem) (p : Route) (o : Option ℕ) → IsGuarded marks log → IsImage log image → find image p ≡ o
    → Holds marks (current log) (value_at image p) o
seen marks log image p None guarded left is = rw is refl
seen marks log image p (Some i) guarded left is = (
  rw is (ap (λ k. Some k) (kind_law i log.opening log.opening image log.changes refl refl left)),
  λ firm. rw is (shows_node log image i (marks.modes i) left (guarded.clean i firm)),
)

pub guard_law : GuardLaw
guard_law marks log image p guarded left apart =
    let holds = seen marks log image p (find image p) guarded left refl in
    elim (guarded.twofold p (find image p) apart (find_law log image p left)) [
      | inl now ↦ inl (subst (Holds marks (current log) (value_at image p)) now holds)
      | inr old ↦ inr (subst (Holds marks (current log) (value_at image p)) old holds)
    ]

pub settle_law : SettleLaw
settle_law old new log guarded may = record {
  tree = guarded.tree;
  twofold = λ p x apart found.
      elim (may.paths p apart) [
        | inl same ↦ elim (guarded.twofold p x same.0 found) [ inl now ↦ inl now | inr before ↦ inr (before ∙ sym same.1) ]
        | inr settled ↦ inl (settled x found)
      ];
  clean = λ i firm. elim (may.nodes i firm) [ inl same ↦ subst (IsOnDisk log i) (sym same.1) (guarded.clean i same.0) | inr clean ↦ subst (IsOnDisk log i) (sym clean.1) clean.0 ];
  firm = may.firm;
  once = λ i g h m n stays one two. elim (may.places i stays) [ inl same ↦ guarded.once i g h m n same one two | inr once ↦ once g h m n one two ];
  no_root = guarded.no_root;
  named = guarded.named;
  there = guarded.there;
  empty = guarded.empty;
}

-- what a path leads to is there
pub found_there : (s : FileSystem) → IsTree s → (p : Route) (i : ℕ) → find s p ≡ Some i → i < length s.nodes
found_there s tree [] i is = folder_there s.nodes i (let e : 0 ≡ i = (let h = is in cc) in subst (λ k. is_folder (node s k) ≡ true) e tree.root)
found_there s tree (name ∷ folder) i is = let h = and_then-some (find s folder) (λ g. lookup s.names g name) i is in tree.there h.0 name i h.2

-- a node keeps its kind
pub folder_kept : (s : FileSystem) (c : Change) (i : ℕ) → i < length s.nodes → is_folder (node (after_change s c) i) ≡ is_folder (node s i)
folder_kept s Nothing i there = refl
folder_kept s (Makes f name made) i there = ap is_folder (at_more s.nodes made i there)
folder_kept s (Moves f old g new k r) i there = refl
folder_kept s (Removes f name k) i there = refl
folder_kept s (Sets k mode) i there = ap folder_kind (kind_set s.nodes k i _ refl)
folder_kept s (Writes k bytes time) i there = ap folder_kind (kind_set s.nodes k i _ refl)
folder_kept s (Syncs k) i there = refl

-- a path may lead where it leads
pub found_now : (log : CallLog) (p : Route) → MayFind log p (find (current log) p)
found_now log [] = refl
found_now log (name ∷ folder) = (find (current log) folder, found_now log folder, at (find (current log) folder) refl)
  where
    at : (o : Option ℕ) → find (current log) folder ≡ o → Leads log o name (find (current log) (name ∷ folder))
    at None is = rw is refl
    at (Some f) is = subst (λ x. Among (may_lead f name [] log.opening log.changes) x) (sym (rw is refl)) (leads_now f name [] log.opening log.changes)

pub found_at : (log : CallLog) (p : Route) (x : Option ℕ) → find (current log) p ≡ x → MayFind log p x
found_at log p x is = subst (λ y. MayFind log p y) is (found_now log p)

module _ (log : CallLog) (c : Change) where
  -- a name that isn't changed leads where it led
  pub unsaid : (g : ℕ) (m : List ℕ) → says c (length (current log).nodes) g m ≡ None → lookup (current (with_change log c)).names g m ≡ lookup (current log).names g m
  unsaid g m none = lookup_more log c g m ∙ ap (λ o. unwrap_or o (lookup (current log).names g m)) none

  pub said : (g : ℕ) (m : List ℕ) (to : Option ℕ) → says c (length (current log).nodes) g m ≡ Some to → lookup (current (with_change log c)).names g m ≡ to
  said g m to is = lookup_more log c g m ∙ ap (λ o. unwrap_or o (lookup (current log).names g m)) is

  -- and may lead only where it might
  pub leads_as_before : (g : ℕ) (m : List ℕ) (x : Option ℕ) → says c (length (current log).nodes) g m ≡ None → Among (may_lead g m [] log.opening (with_change log c).changes) x
      → Among (may_lead g m [] log.opening log.changes) x
  leads_as_before g m x none among =
      elim (leads_more log c g m x among) [
        | inl now ↦ subst (λ y. Among (may_lead g m [] log.opening log.changes) y) (sym (now ∙ unsaid g m none)) (leads_now g m [] log.opening log.changes)
        | inr old ↦ old
      ]

  next_same : (name : List ℕ) (folder : Route) (g : ℕ) (b : Option (Option ℕ)) → says c (length (current log).nodes) g name ≡ b → find (current log) folder ≡ Some g → find (current (with_change log c)) folder ≡ Some g
      → (find (current (with_change log c)) (name ∷ folder) ≡ find (current log) (name ∷ folder)) ⊎ IsUnder log c (name ∷ folder)
  next_same name folder g None says_so was is = inl (rw (is, was) (unsaid g name says_so))
  next_same name folder g (Some to) says_so was is = inr (inr (subst (λ o. Touches log c o name) (sym was) (ap is_some says_so)))

  -- a path that goes through no name that is changed leads where it led
  pub find_same : (p : Route) → (find (current (with_change log c)) p ≡ find (current log) p) ⊎ IsUnder log c p
  find_same [] = inl refl
  find_same (name ∷ folder) =
      elim (find_same folder) [
        | inl same ↦ go (find (current log) folder) refl same
        | inr under ↦ inr (inl under)
      ]
    where
      go : (o : Option ℕ) → find (current log) folder ≡ o → find (current (with_change log c)) folder ≡ find (current log) folder
          → (find (current (with_change log c)) (name ∷ folder) ≡ find (current log) (name ∷ folder)) ⊎ IsUnder log c (name ∷ folder)
      go None was same = inl (rw (same, was) refl)
      go (Some g) was same = next_same name folder g (says c (length (current log).nodes) g name) refl was (same ∙ was)

  -- where no name is changed a path may lead only where it might
  pub find_quiet : ((g : ℕ) (m : List ℕ) → says c (length (current log).nodes) g m ≡ None) → (p : Route) (x : Option ℕ) → MayFind (with_change log c) p x → MayFind log p x
  find_quiet none [] x found = found
  find_quiet none (name ∷ folder) x (y, found, leads) = (y, find_quiet none folder y found, at y leads)
    where
      at : (o : Option ℕ) → Leads (with_change log c) o name x → Leads log o name x
      at None h = h
      at (Some g) h = leads_as_before g name x (none g name) h

  pub same_quiet : ((g : ℕ) (m : List ℕ) → says c (length (current log).nodes) g m ≡ None) → (p : Route) → find (current (with_change log c)) p ≡ find (current log) p
  same_quiet none [] = refl
  same_quiet none (name ∷ folder) = at (find (current log) folder) refl (same_quiet none folder)
    where
      at : (o : Option ℕ) → find (current log) folder ≡ o → find (current (with_change log c)) folder ≡ find (current log) folder
          → find (current (with_change log c)) (name ∷ folder) ≡ find (current log) (name ∷ folder)
      at None was is = rw (is, was) refl
      at (Some g) was is = rw (is, was) (unsaid g name (none g name))

pub still_firm : (marks : Marks) (log : CallLog) (c : Change) (i : ℕ) → i < length (current log).nodes → (marks.loose i ≡ false) ⊎ (is_folder (node (current log) i) ≡ true)
    → (marks.loose i ≡ false) ⊎ (is_folder (node (current (with_change log c)) i) ≡ true)
still_firm marks log c i there (inl firm) = inl firm
still_firm marks log c i there (inr folder) = inr (ap (λ (s : FileSystem). is_folder (node s i)) (current_more log c) ∙ (folder_kept (current log) c i there ∙ folder))

-- A change that says nothing of any name keeps what is known, where what isn't loose is on the disk then, but for modes.
pub unnamed_kept : (marks : Marks) (modes : ℕ → Option ℕ) (log : CallLog) (c : Change) → IsGuarded marks log → IsTree (current (with_change log c))
    → ((g : ℕ) (m : List ℕ) → says c (length (current log).nodes) g m ≡ None) → length (current (with_change log c)).nodes ≡ length (current log).nodes
    → ((i : ℕ) → marks.loose i ≡ false → IsOnDisk (with_change log c) i (modes i)) → IsGuarded (record marks { modes = modes }) (with_change log c)
unnamed_kept marks modes log c guarded tree names count clean = record {
  tree = tree;
  twofold = λ p x apart found.
      elim (guarded.twofold p x apart (find_quiet log c names p x found)) [
        | inl now ↦ inl (now ∙ sym (same_quiet log c names p))
        | inr old ↦ inr old
      ];
  clean = clean;
  firm = λ p i out found.
      let before = find_quiet log c names p (Some i) found in
      still_firm marks log c i (guarded.there p i before) (guarded.firm p i out before);
  once = λ i g h m n stays one two. guarded.once i g h m n stays (leads_as_before log c g m (Some i) (names g m) one) (leads_as_before log c h n (Some i) (names h n) two);
  no_root = λ g m lead. guarded.no_root g m (leads_as_before log c g m (Some 0) (names g m) lead);
  named = λ g m i lead. subst (λ n. i < n) (sym count) (guarded.named g m i (leads_as_before log c g m (Some i) (names g m) lead));
  there = λ p i found. subst (λ n. i < n) (sym count) (guarded.there p i (find_quiet log c names p (Some i) found));
  empty = λ i m y past among. guarded.empty i m y (subst (λ n. n ≤ i) count past) (leads_as_before log c i m y (names i m) among);
}

pub quiet_law : QuietLaw
quiet_law marks log c guarded quiet =
    unnamed_kept marks marks.modes log c guarded quiet.tree quiet.names quiet.count (λ i firm. on_disk_more log c i (marks.modes i) (quiet.others i firm) (guarded.clean i firm))

module _ (marks : Marks) (log : CallLog) (c : Change) (guarded : IsGuarded marks log) (naming : IsNaming marks log c) where
  -- it lies below what got a name
  pub record IsBelow (p : Route) (x : Option ℕ) : Type 0 where
    pub i : ℕ
    pub rest : Route
    pub settled : IsSettledBelow (with_change log c) i
    pub from : MayFindFrom (with_change log c) i rest x
    pub at : find (current (with_change log c)) p ≡ find_from (current (with_change log c)) i rest

  -- it leads where it leads now, and all below waits for nothing
  abbrev pub IsNew : Route → Option ℕ → Type 0
  IsNew p x = (x ≡ find (current (with_change log c)) p) × ((x ≡ None) ⊎ IsBelow p x)

  leads_here : (name : List ℕ) (folder : Route) (g : ℕ) → find (current (with_change log c)) folder ≡ Some g → find (current (with_change log c)) (name ∷ folder) ≡ lookup (current (with_change log c)).names g name
  leads_here name folder g at = ap (option_and_then (λ f. lookup (current (with_change log c)).names f name)) at

  newly : (name : List ℕ) (folder : Route) (g : ℕ) (to x : Option ℕ) → says c (length (current log).nodes) g name ≡ Some to → find (current (with_change log c)) folder ≡ Some g
      → x ≡ lookup (current (with_change log c)).names g name → (x ≡ None) ⊎ IsBelow (name ∷ folder) x
  newly name folder g None x is at now = inl (now ∙ said log c g name None is)
  newly name folder g (Some i) x is at now = inr (record {
    i = i;
    rest = [];
    settled = naming.below g name i is;
    from = now ∙ said log c g name (Some i) is;
    at = leads_here name folder g at ∙ said log c g name (Some i) is;
  })

  old_name : (name : List ℕ) (folder : Route) (x y : Option ℕ) → MayFind log folder y → Leads (with_change log c) y name x → MayFind log (name ∷ folder) x ⊎ IsNew (name ∷ folder) x
  old_name name folder x None found leads = inl (None, found, leads)
  old_name name folder x (Some g) found leads = at (says c (length (current log).nodes) g name) refl
    where
      at : (b : Option (Option ℕ)) → says c (length (current log).nodes) g name ≡ b → MayFind log (name ∷ folder) x ⊎ IsNew (name ∷ folder) x
      at None none = inl (Some g, found, leads_as_before log c g name x none leads)
      at (Some to) is =
          let stands = (naming.anchored g name to folder is found).1 in
          elim (leads_more log c g name x leads) [
            | inl now ↦ inr (now ∙ sym (leads_here name folder g stands), newly name folder g to x is stands now)
            | inr old ↦ inl (Some g, found, old)
          ]

  below_new : (name : List ℕ) (folder : Route) (x : Option ℕ) (g : ℕ) → Leads (with_change log c) (Some g) name x → IsBelow folder (Some g) → IsNew (name ∷ folder) x
  below_new name folder x g leads b =
      let from : MayFindFrom (with_change log c) b.i (name ∷ b.rest) x = (Some g, b.from, leads) in
      let at : find (current (with_change log c)) (name ∷ folder) ≡ find_from (current (with_change log c)) b.i (name ∷ b.rest) = ap (option_and_then (λ f. lookup (current (with_change log c)).names f name)) b.at in
      (b.settled (name ∷ b.rest) x from ∙ sym at, inr (record { i = b.i; rest = name ∷ b.rest; settled = b.settled; from = from; at = at }))

  none_some : (g : ℕ) → (let o : Option ℕ = Some g in o) ≡ None → ⊥
  none_some g h = cc

  new_name : (name : List ℕ) (folder : Route) (x y : Option ℕ) → IsNew folder y → Leads (with_change log c) y name x → IsNew (name ∷ folder) x
  new_name name folder x None new leads = (leads ∙ sym (ap (option_and_then (λ f. lookup (current (with_change log c)).names f name)) (sym new.0)), inl leads)
  new_name name folder x (Some g) new leads = elim new.1 [ inl none ↦ absurd (none_some g none) | inr b ↦ below_new name folder x g leads b ]

  pub find_more : (p : Route) (x : Option ℕ) → MayFind (with_change log c) p x → MayFind log p x ⊎ IsNew p x
  find_more [] x found = inl found
  find_more (name ∷ folder) x (y, found, leads) =
      elim (find_more folder y found) [
        | inl old ↦ old_name name folder x y old leads
        | inr new ↦ inr (new_name name folder x y new leads)
      ]

  -- a name leads to a node newly, or it might before
  old_or_new : (g : ℕ) (m : List ℕ) (i : ℕ) (b : Option (Option ℕ)) → says c (length (current log).nodes) g m ≡ b → MayLead (with_change log c) g m (Some i)
      → MayLead log g m (Some i) ⊎ ((says c (length (current log).nodes) g m ≡ Some (Some i)) × (lookup (current (with_change log c)).names g m ≡ Some i))
  old_or_new g m i None is lead = inl (leads_as_before log c g m (Some i) is lead)
  old_or_new g m i (Some to) is lead =
      elim (leads_more log c g m (Some i) lead) [
        | inl now ↦ inr (is ∙ ap (λ o. Some o) (sym (said log c g m to is) ∙ sym now), sym now)
        | inr old ↦ inl old
      ]

  not_fresh : (g : ℕ) (m : List ℕ) (i : ℕ) → marks.roams i ≡ false → says c (length (current log).nodes) g m ≡ Some (Some i) → (h : ℕ) (n : List ℕ) → MayLead log h n (Some i) → ⊥
  not_fresh g m i stays is h n lead = elim (naming.fresh g m i is) [ inl roams ↦ both_ways _ stays roams | inr none ↦ none h n lead ]

  named_once : (i g h : ℕ) (m n : List ℕ) → marks.roams i ≡ false → MayLead (with_change log c) g m (Some i) → MayLead (with_change log c) h n (Some i) → (g ≡ h) × (m ≡ n)
  named_once i g h m n stays one two =
      elim (old_or_new g m i (says c (length (current log).nodes) g m) refl one) [
        | inl a ↦ elim (old_or_new h n i (says c (length (current log).nodes) h n) refl two) [
          | inl b ↦ guarded.once i g h m n stays a b
          | inr b ↦ absurd (not_fresh h n i stays b.0 g m a)
        ]
        | inr a ↦ elim (old_or_new h n i (says c (length (current log).nodes) h n) refl two) [
          | inl b ↦ absurd (not_fresh g m i stays a.0 h n b)
          | inr b ↦ naming.tree.one_name g h m n i a.1 b.1
        ]
      ]

  -- a change of names is in a folder that is there
  not_past : (i : ℕ) (m : List ℕ) (b : Option (Option ℕ)) → says c (length (current log).nodes) i m ≡ b → length (current log).nodes ≤ i → says c (length (current log).nodes) i m ≡ None
  not_past i m None is past = is
  not_past i m (Some to) is past = let t = naming.in_folder i m to is in absurd (omega (arith, t, past))

  pub naming_kept : IsGuarded marks (with_change log c)
  naming_kept = record {
    tree = naming.tree;
    twofold = λ p x apart found.
        elim (find_more p x found) [
          | inl old ↦ elim (guarded.twofold p x apart old) [
            | inl now ↦ elim (find_same log c p) [
              | inl same ↦ inl (now ∙ sym same)
              | inr under ↦ elim (naming.unworked p apart under) [ inl before ↦ inr (now ∙ before) | inr same ↦ inl (now ∙ same) ]
            ]
            | inr before ↦ inr before
          ]
          | inr new ↦ inl new.0
        ];
    clean = λ i firm. on_disk_more log c i (marks.modes i) (naming.bytes i) (guarded.clean i firm);
    firm = λ p i out found.
        elim (find_more p (Some i) found) [
          | inl old ↦ still_firm marks log c i (guarded.there p i old) (guarded.firm p i out old)
          | inr new ↦ elim (find_same log c p) [
            | inl same ↦
                let before = found_at log p (Some i) (sym same ∙ sym new.0) in
                still_firm marks log c i (guarded.there p i before) (guarded.firm p i out before)
            | inr under ↦ naming.solid p i out under (sym new.0)
          ]
        ];
    once = named_once;
    no_root = λ g m lead.
        elim (old_or_new g m 0 (says c (length (current log).nodes) g m) refl lead) [
          | inl old ↦ guarded.no_root g m old
          | inr new ↦ naming.tree.no_name g m new.1
        ];
    named = λ g m i lead.
        elim (old_or_new g m i (says c (length (current log).nodes) g m) refl lead) [
          | inl old ↦ let t = guarded.named g m i old in let n = naming.count in omega (arith, t, n)
          | inr new ↦ naming.tree.there g m i new.1
        ];
    there = λ p i found.
        elim (find_more p (Some i) found) [
          | inl old ↦ let t = guarded.there p i old in let n = naming.count in omega (arith, t, n)
          | inr new ↦ found_there (current (with_change log c)) naming.tree p i (sym new.0)
        ];
    empty = λ i m y past among.
        let n = naming.count in
        let before : length (current log).nodes ≤ i = omega (arith, n, past) in
        guarded.empty i m y before (leads_as_before log c i m y (not_past i m (says c (length (current log).nodes) i m) refl before) among);
  }

pub naming_law : NamingLaw
naming_law marks log c guarded naming = naming_kept marks log c guarded naming
