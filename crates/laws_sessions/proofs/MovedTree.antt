-- What the tree is after one renaming: whatever is moved, a folder with all that lies in it too, is found as far below the target then as it was below the source.
use Rattle.std.proofs.Common.{◌≡◌, ◌⊎◌, ℕ, Bool, true, false, List, [], ◌∷◌, ◌++◌, refl, sym, ◌∙◌, ap, subst, inl, inr, Option, Some, None, cond}
use Rattle.std.specs.Prelude.{is_some, option_and_then}
use Rattle.std.specs.Option.{option_map, option_map_or}
use Rattle.std.proofs.lemmas.Bool.{false≢true, false_from_ne_true}
use Rattle.mc_text.specs.Routes.{Route, is_prefix}
use Rattle.tree_trait.specs.declared.file_system.FileSystem.{FileSystem}
use Rattle.tree_trait.specs.FileSystem.{Spot, find, lookup, node, starts_mount, value, visible_tree}
use Rattle.tree_trait.specs.Refusals.{is_folder, mount_here, mount_of}
use Rattle.tree_trait.specs.Shape.{IsTree}
use Rattle.tree_trait.specs.Change.{Change, Moves, CallLog, current, with_change}
use Rattle.tree_trait.specs.CrashImages.{same_name, says}
use Rattle.tree_trait.proofs.Finding.{find-once, same_name-self, same_name-true}
use Rattle.tree_trait.proofs.Kept.{tree_moved}
use Rattle.laws_crash.specs.Guarded.{IsUnder}
use Rattle.laws_crash.proofs.Guarding.{find_same, said, unsaid}
use Rattle.laws_crash.proofs.Leading.{current_more}
use Rattle.laws_crash.proofs.Placing.{first, neither, second}
use Rattle.laws_crash.proofs.Tops.{goes_through, none_below, not_longer, some_of_two, top_is}
use Rattle.job_reports.specs.declared.job.Pair.{Pair}
use Rattle.session_entries.specs.Moves.{moved_from}
use Rattle.laws_sessions.specs.Replayed.{moved_by, nothing_there}
use Rattle.laws_sessions.proofs.Moved.{moved_below}
use Rattle.laws_sessions.proofs.PathsBelow.{below_way, is_below, none_below_both, not_below, off_above, off_below}

-- a thing stands under the one name, and may be renamed to the other
pub record MovesThing (log : CallLog) (old : List ℕ) (source_folder : Route) (new : List ℕ) (target_folder : Route) (f g i : ℕ) : Type 0 where
  pub tree : IsTree (current log)
  pub from : find (current log) source_folder ≡ Some f
  pub to : find (current log) target_folder ≡ Some g
  pub leads : find (current log) (old ∷ source_folder) ≡ Some i
  pub folder : is_folder (node (current log) g) ≡ true
  -- what is replaced is no folder, and a folder replaces nothing
  pub bare : (j : ℕ) → find (current log) (new ∷ target_folder) ≡ Some j → is_folder (node (current log) j) ≡ false
  pub free : is_folder (node (current log) i) ≡ true → find (current log) (new ∷ target_folder) ≡ None
  -- it isn't moved into itself, nor to where it stands
  pub not_into : (rest : Route) → target_folder ≡ rest ++ old ∷ source_folder → ⊥
  pub other : (old ∷ source_folder) ≡ (new ∷ target_folder) → ⊥
  -- no mount begins there
  pub mount : starts_mount (current log) i ≡ false

some_none : {A : Type 0} (n : ℕ) → (let o : Option ℕ = Some n in o) ≡ None → A
some_none n h = cc

-- what is no folder holds no names
holds_none : (s : FileSystem) → IsTree s → (j : ℕ) → is_folder (node s j) ≡ false → (name : List ℕ) → lookup s.names j name ≡ None
holds_none s tree j file name = by (lookup s.names j name) refl
  where
    by : (o : Option ℕ) → lookup s.names j name ≡ o → lookup s.names j name ≡ None
    by None is = is
    by (Some k) is = absurd (false≢true (sym file ∙ tree.in_folders j name k is))

-- and nothing stands below it
pub none_in_file : (s : FileSystem) → IsTree s → (top : Route) → ((j : ℕ) → find s top ≡ Some j → is_folder (node s j) ≡ false) → (name : List ℕ) (rest : Route) → find s (name ∷ rest ++ top) ≡ None
none_in_file s tree top bare name [] = by (find s top) refl
  where
    by : (o : Option ℕ) → find s top ≡ o → find s (name ∷ top) ≡ None
    by None is = ap (option_and_then (λ k. lookup s.names k name)) is
    by (Some j) is = ap (option_and_then (λ k. lookup s.names k name)) is ∙ holds_none s tree j (bare j is) name
none_in_file s tree top bare name (more ∷ rest) = ap (option_and_then (λ k. lookup s.names k name)) (none_in_file s tree top bare more rest)

-- what can be seen of a node
abbrev spot : FileSystem → Option ℕ → Spot
spot s o = record { value = option_map (λ j. value (node s j)) o; is_mount = option_map_or (starts_mount s) o false }

module _ (log : CallLog) (old : List ℕ) (source_folder : Route) (new : List ℕ) (target_folder : Route) (f g i : ℕ) (r : Option ℕ) (h : MovesThing log old source_folder new target_folder f g i) where
  abbrev moves : Change
  moves = Moves f old g new i r

  abbrev now : CallLog
  now = with_change log moves

  abbrev source : Route
  source = old ∷ source_folder

  abbrev target : Route
  target = new ∷ target_folder

  abbrev pair : Pair
  pair = record { source = source; target = target }

  pub source_name : lookup (current log).names f old ≡ Some i
  source_name = sym (ap (option_and_then (λ k. lookup (current log).names k old)) h.from) ∙ h.leads

  pub tree_now : IsTree (current now)
  tree_now = subst IsTree (sym (current_more log moves)) (tree_moved (current log) f old g new i r h.tree source_name h.folder)

  -- no node changes, and mounts begin where they began
  pub nodes : (n : ℕ) → node (current now) n ≡ node (current log) n
  nodes n = ap (λ (s : FileSystem). node s n) (current_more log moves)

  pub mounts : (n : ℕ) → starts_mount (current now) n ≡ starts_mount (current log) n
  mounts n = ap (λ (s : FileSystem). starts_mount s n) (current_more log moves)

  -- the names that change
  pub names : (n k : ℕ) (m : List ℕ) → is_some (says moves n k m) ≡ true → ((k ≡ f) × (old ≡ m)) ⊎ ((k ≡ g) × (new ≡ m))
  names n k m s = elim (some_of_two (same_name g new k m) (same_name f old k m) (Some i) None s) [
    | inl e ↦ (let is = same_name-true g k new m e in inr (sym is.0, is.1))
    | inr e ↦ (let is = same_name-true f k old m e in inl (sym is.0, is.1))
  ]

  -- and the paths of these
  pub names_at : (n k : ℕ) (m : List ℕ) → is_some (says moves n k m) ≡ true → ((k ≡ f) × ((m ∷ source_folder) ≡ source)) ⊎ ((k ≡ g) × ((m ∷ target_folder) ≡ target))
  names_at n k m s = elim (names n k m s) [
    | inl e ↦ inl (e.0, ap (λ n. (let q : Route = n ∷ source_folder in q)) (sym e.1))
    | inr e ↦ inr (e.0, ap (λ n. (let q : Route = n ∷ target_folder in q)) (sym e.1))
  ]

  -- the source's folder doesn't lie below the target
  pub not_over : (rest : Route) → source_folder ≡ rest ++ target → ⊥
  not_over [] e = false≢true (sym (h.bare f (ap (find (current log)) (sym e) ∙ h.from)) ∙ h.tree.in_folders f old i source_name)
  not_over (name ∷ rest) e = some_none f (sym (ap (find (current log)) (sym e) ∙ h.from) ∙ none_in_file (current log) h.tree target h.bare name rest)

  -- neither path lies below the other
  pub target_apart : is_prefix source target ≡ false
  target_apart = off_below source target by
    where
      by : (rest : Route) → target ≡ rest ++ source → ⊥
      by [] e = h.other (sym e)
      by (name ∷ rest) e = (let same : target_folder ≡ rest ++ source = cc in h.not_into rest same)

  pub source_apart : is_prefix target source ≡ false
  source_apart = off_below target source by
    where
      by : (rest : Route) → source ≡ rest ++ target → ⊥
      by [] e = h.other e
      by (name ∷ rest) e = (let same : source_folder ≡ rest ++ target = cc in not_over rest same)

  -- so what lies below the one doesn't lie below the other
  pub not_target : (rest : Route) → is_prefix target (rest ++ source) ≡ false
  not_target rest = none_below_both source target (rest ++ source) target_apart source_apart (is_below source rest)

  pub not_source : (rest : Route) → is_prefix source (rest ++ target) ≡ false
  not_source rest = none_below_both target source (rest ++ target) source_apart target_apart (is_below target rest)

  pub apart : (rest more : Route) → rest ++ source ≡ more ++ target → ⊥
  apart rest more e = not_below target (rest ++ source) more (not_target rest) e

  -- and neither folder lies below either
  pub source_folder_off : (is_prefix source source_folder ≡ false) × (is_prefix target source_folder ≡ false)
  source_folder_off = (off_below source source_folder (λ rest e. not_longer rest old source_folder e), off_below target source_folder not_over)

  pub target_folder_off : (is_prefix source target_folder ≡ false) × (is_prefix target target_folder ≡ false)
  target_folder_off = (off_below source target_folder h.not_into, off_below target target_folder (λ rest e. not_longer rest new target_folder e))

  -- a path that changes goes through the target or the source
  pub under : (p : Route) → IsUnder log moves p → ((rest : Route) × (p ≡ rest ++ target)) ⊎ ((rest : Route) × (p ≡ rest ++ source))
  under p u =
      let t = goes_through log moves p u in
      elim (some_of_two (same_name g new t.g t.name) (same_name f old t.g t.name) (Some i) None t.says_so) [
        | inl e ↦ inl (t.rest, t.is ∙ ap (λ q. t.rest ++ q) (top_is log h.tree target_folder g h.to new t.name t.folder t.g t.at e))
        | inr e ↦ inr (t.rest, t.is ∙ ap (λ q. t.rest ++ q) (top_is log h.tree source_folder f h.from old t.name t.folder t.g t.at e))
      ]

  -- all other paths lead where they led
  pub off : (p : Route) → is_prefix source p ≡ false → is_prefix target p ≡ false → find (current now) p ≡ find (current log) p
  off p of_source of_target = elim (find_same log moves p) [
    | inl same ↦ same
    | inr u ↦ elim (under p u) [ inl t ↦ absurd (not_below target p t.0 of_target t.1) | inr t ↦ absurd (not_below source p t.0 of_source t.1) ]
  ]

  -- so both folders stand where they stood
  pub source_stands : find (current now) source_folder ≡ Some f
  source_stands = off source_folder source_folder_off.0 source_folder_off.1 ∙ h.from

  pub target_stands : find (current now) target_folder ≡ Some g
  target_stands = off target_folder target_folder_off.0 target_folder_off.1 ∙ h.to

  pub other_name : same_name g new f old ≡ false
  other_name = false_from_ne_true _ (λ same.
      let e = same_name-true g f new old same in
      let folders : source_folder ≡ target_folder = find-once (current log) h.tree source_folder target_folder f h.from (h.to ∙ ap (λ k. Some k) e.0) in
      h.other (ap (λ n. (let q : Route = n ∷ source_folder in q)) (sym e.1) ∙ ap (λ (q : Route). new ∷ q) folders))

  pub target_at : find (current now) target ≡ Some i
  target_at =
      ap (option_and_then (λ k. lookup (current now).names k new)) target_stands
      ∙ said log moves g new (Some i) (first (same_name g new g new) (same_name f old g new) i (same_name-self g new))

  pub source_gone : find (current now) source ≡ None
  source_gone =
      ap (option_and_then (λ k. lookup (current now).names k old)) source_stands
      ∙ said log moves f old None (second (same_name g new f old) (same_name f old f old) i other_name (same_name-self f old))

  -- a name below the source isn't changed
  unchanged : (rest : Route) (k : ℕ) → find (current log) (rest ++ source) ≡ Some k → (name : List ℕ) → lookup (current now).names k name ≡ lookup (current log).names k name
  unchanged rest k at name = unsaid log moves k name (neither (same_name g new k name) (same_name f old k name) i
      (λ e. h.not_into rest (find-once (current log) h.tree target_folder (rest ++ source) k (h.to ∙ ap (λ n. Some n) (same_name-true g k new name e).0) at))
      (λ e. not_longer rest old source_folder (find-once (current log) h.tree source_folder (rest ++ source) k (h.from ∙ ap (λ n. Some n) (same_name-true f k old name e).0) at)))

  -- what lay at the source, or below, is found as far below the target
  pub lands : (rest : Route) → find (current now) (rest ++ target) ≡ find (current log) (rest ++ source)
  lands [] = target_at ∙ sym h.leads
  lands (name ∷ rest) = by (find (current log) (rest ++ source)) refl (lands rest)
    where
      by : (o : Option ℕ) → find (current log) (rest ++ source) ≡ o → find (current now) (rest ++ target) ≡ find (current log) (rest ++ source)
          → find (current now) (name ∷ rest ++ target) ≡ find (current log) (name ∷ rest ++ source)
      by None is same =
          ap (option_and_then (λ k. lookup (current now).names k name)) (same ∙ is)
          ∙ sym (ap (option_and_then (λ k. lookup (current log).names k name)) is)
      by (Some k) is same =
          ap (option_and_then (λ n. lookup (current now).names n name)) (same ∙ is)
          ∙ (unchanged rest k is name ∙ sym (ap (option_and_then (λ n. lookup (current log).names n name)) is))

  -- and nothing stands there any more
  pub leaves : (rest : Route) → find (current now) (rest ++ source) ≡ None
  leaves rest = none_below now rest source source_gone

  -- where a thing was that is found then
  pub where_was : (p : Route) (n : ℕ) → find (current now) p ≡ Some n
      → ((is_prefix source p ≡ false) × (is_prefix target p ≡ false) × (find (current log) p ≡ Some n)) ⊎ ((rest : Route) × (p ≡ rest ++ target) × (find (current log) (rest ++ source) ≡ Some n))
  where_was p n at = by (is_prefix source p) refl (is_prefix target p) refl
    where
      by : (b : Bool) → is_prefix source p ≡ b → (c : Bool) → is_prefix target p ≡ c
          → ((is_prefix source p ≡ false) × (is_prefix target p ≡ false) × (find (current log) p ≡ Some n)) ⊎ ((rest : Route) × (p ≡ rest ++ target) × (find (current log) (rest ++ source) ≡ Some n))
      by true is c other = let w = below_way source p is in some_none n (sym at ∙ (ap (find (current now)) w.1 ∙ leaves w.0))
      by false is true other = let w = below_way target p other in inr (w.0, w.1, sym (lands w.0) ∙ (sym (ap (find (current now)) w.1) ∙ at))
      by false is false other = inl (is, other, sym (off p is other) ∙ at)

  -- and where a thing is that was found before: there, or where it was moved, or it was what the target replaced
  pub where_is : (q : Route) (n : ℕ) → find (current log) q ≡ Some n
      → ((is_prefix source q ≡ false) × (is_prefix target q ≡ false) × (find (current now) q ≡ Some n))
      ⊎ (((rest : Route) × (q ≡ rest ++ source) × (find (current now) (rest ++ target) ≡ Some n)) ⊎ ((q ≡ target) × (is_folder (node (current log) n) ≡ false)))
  where_is q n at = by (is_prefix source q) refl (is_prefix target q) refl
    where
      replaced : (rest : Route) → q ≡ rest ++ target → (q ≡ target) × (is_folder (node (current log) n) ≡ false)
      replaced [] e = (e, h.bare n (sym (ap (find (current log)) e) ∙ at))
      replaced (name ∷ rest) e = some_none n (sym at ∙ (ap (find (current log)) e ∙ none_in_file (current log) h.tree target h.bare name rest))

      by : (b : Bool) → is_prefix source q ≡ b → (c : Bool) → is_prefix target q ≡ c
          → ((is_prefix source q ≡ false) × (is_prefix target q ≡ false) × (find (current now) q ≡ Some n))
          ⊎ (((rest : Route) × (q ≡ rest ++ source) × (find (current now) (rest ++ target) ≡ Some n)) ⊎ ((q ≡ target) × (is_folder (node (current log) n) ≡ false)))
      by true is c other = let w = below_way source q is in inr (inl (w.0, w.1, lands w.0 ∙ (sym (ap (find (current log)) w.1) ∙ at)))
      by false is true other = let w = below_way target q other in inr (inr (replaced w.0 w.1))
      by false is false other = inl (is, other, off q is other ∙ at)

  -- what can be seen of a node stays
  spot_same : (o : Option ℕ) → spot (current now) o ≡ spot (current log) o
  spot_same o = ap (λ (s : FileSystem). spot s o) (current_more log moves)

  pub seen_lands : (rest : Route) → visible_tree (current now) (rest ++ target) ≡ visible_tree (current log) (rest ++ source)
  seen_lands rest = ap (spot (current now)) (lands rest) ∙ spot_same (find (current log) (rest ++ source))

  pub seen_leaves : (rest : Route) → visible_tree (current now) (rest ++ source) ≡ nothing_there
  seen_leaves rest = ap (spot (current now)) (leaves rest)

  pub seen_off : (p : Route) → is_prefix source p ≡ false → is_prefix target p ≡ false → visible_tree (current now) p ≡ visible_tree (current log) p
  seen_off p of_source of_target = ap (spot (current now)) (off p of_source of_target) ∙ spot_same (find (current log) p)

  -- so the tree is seen as a move makes it
  pub seen : (p : Route) → visible_tree (current now) p ≡ moved_by pair (visible_tree (current log)) p
  seen p = by (is_prefix target p) refl (is_prefix source p) refl
    where
      by : (b : Bool) → is_prefix target p ≡ b → (c : Bool) → is_prefix source p ≡ c → visible_tree (current now) p ≡ moved_by pair (visible_tree (current log)) p
      by true is c other =
          let w = below_way target p is in
          ap (λ q. visible_tree (current now) q) w.1
          ∙ (seen_lands w.0
          ∙ (ap (λ q. visible_tree (current log) q) (sym (ap (moved_from source target) w.1 ∙ moved_below source target w.0))
          ∙ ap (λ x. cond x (visible_tree (current log) (moved_from source target p)) (cond (is_prefix source p) nothing_there (visible_tree (current log) p))) (sym is)))
      by false is true other =
          let w = below_way source p other in
          ap (λ q. visible_tree (current now) q) w.1
          ∙ (seen_leaves w.0
          ∙ (ap (λ x. cond x nothing_there (visible_tree (current log) p)) (sym other)
          ∙ ap (λ x. cond x (visible_tree (current log) (moved_from source target p)) (cond (is_prefix source p) nothing_there (visible_tree (current log) p))) (sym is)))
      by false is false other =
          seen_off p other is
          ∙ (ap (λ x. cond x nothing_there (visible_tree (current log) p)) (sym other)
          ∙ ap (λ x. cond x (visible_tree (current log) (moved_from source target p)) (cond (is_prefix source p) nothing_there (visible_tree (current log) p))) (sym is))

  -- the mount of what stands somewhere, on that of its folder
  mount_same : (x y : Option ℕ) (m n : ℕ) → x ≡ y → m ≡ n → mount_here (current now) x m ≡ mount_here (current log) y n
  mount_same x y m n at above =
      ap (λ o. mount_here (current now) o m) at
      ∙ (ap (mount_here (current now) y) above ∙ ap (λ (s : FileSystem). mount_here s y n) (current_more log moves))

  -- All other paths lie on the mounts on which they lay.
  pub mount_off : (p : Route) → is_prefix source p ≡ false → is_prefix target p ≡ false → mount_of (current now) p ≡ mount_of (current log) p
  mount_off [] of_source of_target = refl
  mount_off (name ∷ p) of_source of_target =
      mount_same (find (current now) (name ∷ p)) (find (current log) (name ∷ p)) (mount_of (current now) p) (mount_of (current log) p) (off (name ∷ p) of_source of_target)
      (mount_off p (off_above source name p of_source) (off_above target name p of_target))

  -- and so does what was moved, where both folders lie on one
  pub mount_lands : mount_of (current log) target_folder ≡ mount_of (current log) source_folder → (rest : Route) → mount_of (current now) (rest ++ target) ≡ mount_of (current log) (rest ++ source)
  mount_lands one [] =
      mount_same (find (current now) target) (find (current log) source) (mount_of (current now) target_folder) (mount_of (current log) source_folder) (lands [])
      (mount_off target_folder target_folder_off.0 target_folder_off.1 ∙ one)
  mount_lands one (name ∷ rest) =
      mount_same (find (current now) (name ∷ rest ++ target)) (find (current log) (name ∷ rest ++ source)) (mount_of (current now) (rest ++ target)) (mount_of (current log) (rest ++ source))
      (lands (name ∷ rest)) (mount_lands one rest)

  -- where nothing stands any more is the mount of the folder
  pub mount_leaves : (rest : Route) → mount_of (current now) (rest ++ source) ≡ mount_of (current log) source_folder
  mount_leaves [] = ap (λ o. mount_here (current now) o (mount_of (current now) source_folder)) (leaves []) ∙ mount_off source_folder source_folder_off.0 source_folder_off.1
  mount_leaves (name ∷ rest) = ap (λ o. mount_here (current now) o (mount_of (current now) (rest ++ source))) (leaves (name ∷ rest)) ∙ mount_leaves rest
