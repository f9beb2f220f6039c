-- A thing is moved, a folder with all that lies in it too: which names wait then, where the folders stand, and that nothing waits where it went, nor below.
use Rattle.std.proofs.Common.{◌≡◌, ◌⊎◌, ℕ, Bool, true, false, not, ◌&&◌, ◌||◌, List, [], ◌∷◌, ◌++◌, length, refl, sym, ◌∙◌, ap, subst, inl, inr, Option, Some, None, arith, drop}
use Rattle.std.specs.Prelude.{is_some, ◌==◌}
use Rattle.std.specs.Option.{option_map_or}
use Rattle.std.proofs.lemmas.Bool.{false≢true, and_parts, both_ways, eqb-true, false_from_ne_true, not-true, or_cases, or_from, or_left, or_parts, or_right}
use Rattle.mc_text.specs.Routes.{Route, is_prefix, same_path}
use Rattle.tree_trait.specs.declared.file_system.FileSystem.{FileSystem}
use Rattle.tree_trait.specs.Shape.{IsTree}
use Rattle.tree_trait.specs.FileSystem.{find, node}
use Rattle.tree_trait.specs.Refusals.{is_folder, mount_of}
use Rattle.tree_trait.specs.Change.{Change, Moves, CallLog, current, with_change}
use Rattle.tree_trait.specs.CrashImages.{Among, says}
use Rattle.tree_trait.proofs.Finding.{find-once}
use Rattle.tree_trait.proofs.Visible.{same_path-self, same_path-true}
use Rattle.laws_crash.specs.Guarded.{HasOneName, Marks}
use Rattle.laws_crash.proofs.Leading.{current_more}
use Rattle.laws_crash.proofs.Tops.{not_longer}
use Rattle.job_reports.specs.declared.job.Pair.{Pair}
use Rattle.session_entries.specs.Moves.{is_of_move}
use Rattle.laws_sessions.specs.Doubt.{is_joint, is_pending, joins, name_waits, way_waits}
use Rattle.laws_sessions.proofs.AtRest.{RestsBelow}
use Rattle.laws_sessions.proofs.Changing.{folder_stays, off_itself}
use Rattle.laws_sessions.proofs.InTransit.{WasRenamed, now_renamed, still_renamed}
use Rattle.laws_sessions.proofs.Knowing.{IsCalmPath, IsKept, IsKnown, IsUnreached, HistoryFacts}
use Rattle.laws_sessions.proofs.MovableThings.{CanMoveThing, marks_moving, pair_of, said_thing_moved}
use Rattle.laws_sessions.proofs.MovableThings.{source_above, source_holds, target_above, thing}
use Rattle.laws_sessions.proofs.MovedTree.{MovesThing, lands, mount_off, mounts, names, names_at, nodes, off, source_folder_off, source_name, source_stands, target_folder_off, target_stands, tree_now, where_is, where_was}
use Rattle.laws_sessions.proofs.PathsBelow.{is_below, not_below, off_above}
use Rattle.laws_sessions.proofs.Pending.{pending_less}
use Rattle.laws_sessions.proofs.Quiet.{was_bare}
use Rattle.laws_sessions.proofs.Resting.{IsBeside, IsOfFiles, IsSureFolder, folder_at_of, joint_folder, name_sure, restless_folder, stands_at, unborn_more}
use Rattle.laws_sessions.proofs.Restless.{is_restless, joint_less, joint_swap, named_both, names_in, others, restless_less}
use Rattle.laws_sessions.proofs.Since.{pending_all, pending_since, renamed_since}
use Rattle.laws_sessions.proofs.WaitsAlone.{WaitsAlone, alone_at}

-- what stands in a folder that lies off a path, and isn't its folder, lies off it
off_within : (top : List ℕ) (folder : Route) (name : List ℕ) (p : Route) → is_prefix (top ∷ folder) p ≡ false → same_path p folder ≡ false → is_prefix (top ∷ folder) (name ∷ p) ≡ false
off_within top folder name p away other =
    or_from _ _ (false_from_ne_true (same_path (top ∷ folder) (name ∷ p)) (λ same.
    let e = same_path-true (top ∷ folder) (name ∷ p) same in
    off_itself p folder (let under : p ≡ folder = cc in under) other)) away

module _ (told : HistoryFacts) (dirty : List Route) (marks : Marks) (log : CallLog) (kept : IsKept told dirty marks log) (old : List ℕ) (source_folder : Route) (new : List ℕ) (target_folder : Route)
    (f g i : ℕ) (r : Option ℕ) (h : CanMoveThing told marks log old source_folder new target_folder f g i) where
  abbrev moves : Change
  moves = Moves f old g new i r

  abbrev now : CallLog
  now = with_change log moves

  abbrev source : Route
  source = old ∷ source_folder

  abbrev target : Route
  target = new ∷ target_folder

  abbrev pair : Pair
  pair = pair_of source target

  abbrev moving : Marks
  moving = marks_moving marks i source target

  abbrev after : HistoryFacts
  after = said_thing_moved told old source_folder new target_folder

  known : IsKnown told dirty marks log
  known = kept.known

  -- how it lies in the tree
  abbrev lies : MovesThing log old source_folder new target_folder f g i
  lies = thing told dirty marks log kept old source_folder new target_folder f g i r h

  name_at : (p : Route) (name : List ℕ) (k : ℕ) → find (current log) p ≡ Some k → name_waits log (name ∷ p) ≡ is_pending k name log.changes
  name_at p name k at = ap (λ o. option_map_or (λ n. is_pending n name log.changes) o false) at

  name_now : (p : Route) (name : List ℕ) (k : ℕ) → find (current now) p ≡ Some k → name_waits now (name ∷ p) ≡ is_pending k name now.changes
  name_now p name k at = ap (λ o. option_map_or (λ n. is_pending n name now.changes) o false) at

  -- The two folders are found as before.
  from_now : find (current now) source_folder ≡ Some f
  from_now = source_stands log old source_folder new target_folder f g i r lies

  to_now : find (current now) target_folder ≡ Some g
  to_now = target_stands log old source_folder new target_folder f g i r lies

  -- neither lies below what is moved
  not_at : (rest : Route) (k : ℕ) → find (current log) (rest ++ source) ≡ Some k → (k ≡ f) ⊎ (k ≡ g) → ⊥
  not_at rest k at (inl e) = not_longer rest old source_folder (find-once (current log) known.guarded.tree source_folder (rest ++ source) f h.from (at ∙ ap (λ n. Some n) e))
  not_at rest k at (inr e) = h.not_into rest (find-once (current log) known.guarded.tree target_folder (rest ++ source) g h.to (at ∙ ap (λ n. Some n) e))

  either_named : (k : ℕ) → names_in k moves ≡ true → (k ≡ f) ⊎ (k ≡ g)
  either_named k named = elim (or_cases (f == k) (g == k) named) [ inl e ↦ inl (sym (eqb-true f k e)) | inr e ↦ inr (sym (eqb-true g k e)) ]

  either_said : (k : ℕ) (m : List ℕ) → is_some (says moves 0 k m) ≡ true → (k ≡ f) ⊎ (k ≡ g)
  either_said k m s = elim (names log old source_folder new target_folder f g i r lies 0 k m s) [ inl e ↦ inl e.0 | inr e ↦ inr e.0 ]

  -- they are folders
  folder_of_two : (k : ℕ) → (k ≡ f) ⊎ (k ≡ g) → is_folder (node (current log) k) ≡ true
  folder_of_two k (inl e) = subst (λ n. is_folder (node (current log) n) ≡ true) (sym e) (source_holds told dirty marks log kept old source_folder new target_folder f g i r h)
  folder_of_two k (inr e) = subst (λ n. is_folder (node (current log) n) ≡ true) (sym e) h.folder

  node_same : (k : ℕ) → node (current now) k ≡ node (current log) k
  node_same k = nodes log old source_folder new target_folder f g i r lies k

  tree_after : IsTree (current now)
  tree_after = tree_now log old source_folder new target_folder f g i r lies

  -- What is found somewhere that isn't moved, and is a folder, is found there still.
  stays : (q : Route) (k : ℕ) → find (current log) q ≡ Some k → is_folder (node (current log) k) ≡ true → ((rest : Route) → find (current log) (rest ++ source) ≡ Some k → ⊥)
      → (is_prefix source q ≡ false) × (is_prefix target q ≡ false) × (find (current now) q ≡ Some k)
  stays q k at folder none = elim (where_is log old source_folder new target_folder f g i r lies q k at) [
    | inl there ↦ there
    | inr (inl moved) ↦ absurd (none moved.0 (sym (ap (find (current log)) moved.1) ∙ at))
    | inr (inr gone) ↦ absurd (both_ways _ gone.1 folder)
  ]

  was_at : (p : Route) (k : ℕ) → find (current now) p ≡ Some k
      → ((is_prefix source p ≡ false) × (is_prefix target p ≡ false) × (find (current log) p ≡ Some k)) ⊎ ((rest : Route) × (p ≡ rest ++ target) × (find (current log) (rest ++ source) ≡ Some k))
  was_at p k at = where_was log old source_folder new target_folder f g i r lies p k at

  off_both : (p : Route) → is_prefix source p ≡ false → is_prefix target p ≡ false → find (current now) p ≡ find (current log) p
  off_both p of_source of_target = off log old source_folder new target_folder f g i r lies p of_source of_target

  -- A folder that roams was renamed: the moved one has one name before.
  once : is_folder (node (current log) i) ≡ true → HasOneName log i
  once folder a b m n one two =
      known.guarded.once i a b m n (folder_stays told dirty marks log known kept.roams source i h.leads folder (name_sure log source h.source_sure)) one two

  pub folder_then : (k : ℕ) → is_folder (node (current now) k) ≡ true → ((moving.roams k ≡ false) ⊎ WasRenamed now k) × (marks.loose k ≡ false)
  folder_then k folder = (by (k == i) refl, (known.folders k was).1)
    where
      was : is_folder (node (current log) k) ≡ true
      was = sym (ap is_folder (node_same k)) ∙ folder

      by : (b : Bool) → (k == i) ≡ b → (moving.roams k ≡ false) ⊎ WasRenamed now k
      by true same =
          let e = eqb-true k i same in
          inr (subst (λ n. WasRenamed now n) (sym e)
          (now_renamed log f old g new i r known.guarded.tree (once (subst (λ n. is_folder (node (current log) n) ≡ true) e was)) (source_name log old source_folder new target_folder f g i r lies)))
      by false other = elim (known.folders k was).0 [
        | inl stays ↦ inl (or_from _ _ other stays)
        | inr renamed ↦ inr (still_renamed log moves k renamed (Rattle.laws_sessions.proofs.Restless.others k i other))
      ]

  -- Only folders hold names.
  bare_now : (k : ℕ) (m : List ℕ) → is_folder (node (current now) k) ≡ false → is_pending k m now.changes ≡ true → ⊥
  bare_now k m bare waits = elim (pending_less k m log.changes moves waits) [
    | inl before ↦ both_ways _ (known.files.bare k m (was_bare log moves k bare)) before
    | inr s ↦ both_ways _ bare (ap is_folder (node_same k) ∙ folder_of_two k (either_said k m s))
  ]

  pub files_now : IsOfFiles now
  files_now = record {
    bare = λ k m bare. false_from_ne_true _ (bare_now k m bare);
    unborn = unborn_more log moves (λ k past. refl) (let e = ap (λ (s : FileSystem). length s.nodes) (current_more log moves) in omega (arith, e)) known.files.unborn;
  }

  -- A call changes the two names alone.
  path_of_two : (k : ℕ) (name : List ℕ) (q : Route) → find (current now) q ≡ Some k → is_some (says moves 0 k name) ≡ true → ((name ∷ q) ≡ source) ⊎ ((name ∷ q) ≡ target)
  path_of_two k name q at s = elim (names_at log old source_folder new target_folder f g i r lies 0 k name s) [
    | inl e ↦ inl (ap (λ (p : Route). name ∷ p) (find-once (current now) tree_after q source_folder k at (from_now ∙ ap (λ n. Some n) (sym e.0))) ∙ e.1)
    | inr e ↦ inr (ap (λ (p : Route). name ∷ p) (find-once (current now) tree_after q target_folder k at (to_now ∙ ap (λ n. Some n) (sym e.0))) ∙ e.1)
  ]

  -- so another name waits for the sync of its own folder alone where it did
  alone_off : (p : Route) → is_prefix source p ≡ false → is_prefix target p ≡ false → WaitsAlone log p → WaitsAlone now p
  alone_off [] of_source of_target alone = tt
  alone_off (name ∷ q) of_source of_target alone =
      alone_at log moves known.files name q (λ k folder at. sym (off_both q (off_above source name q of_source) (off_above target name q of_target)) ∙ at)
      (λ k at. inr (false_from_ne_true _ (λ s. elim (path_of_two k name q at s) [
        | inl e ↦ not_below source (name ∷ q) [] of_source e
        | inr e ↦ not_below target (name ∷ q) [] of_target e
      ]))) alone

  -- A path that is calm then isn't of the move.
  pub calm_then : (p : Route) → after.calm p ≡ true → IsCalmPath moving now p
  calm_then p there =
      let both = and_parts (told.calm p) (not (is_of_move pair p)) there in
      let away = or_parts (is_prefix source p) (is_prefix target p) (not-true _ both.1) in
      let calm = known.calm p both.0 in
      record {
        mode = λ j at. elim (calm.mode j (sym (off_both p away.0 away.1) ∙ at)) [
          | inl none ↦ inl none
          | inr begins ↦ inr (mounts log old source_folder new target_folder f g i r lies j ∙ begins)
        ];
        alone = alone_off p away.0 away.1 calm.alone;
      }

  -- Of two folders for which a renaming waits each stands on the mount of the other.
  abbrev OnMount : ℕ → Type 0
  OnMount k = (q : Route) × (find (current now) q ≡ Some k) × (mount_of (current now) q ≡ mount_of (current log) source_folder)

  on_mount : (k : ℕ) → (k ≡ f) ⊎ (k ≡ g) → OnMount k
  on_mount k (inl e) = (source_folder, from_now ∙ ap (λ n. Some n) (sym e), mount_off log old source_folder new target_folder f g i r lies source_folder from_off.0 from_off.1)
    where
      from_off : (is_prefix source source_folder ≡ false) × (is_prefix target source_folder ≡ false)
      from_off = source_folder_off log old source_folder new target_folder f g i r lies
  on_mount k (inr e) = (target_folder, to_now ∙ ap (λ n. Some n) (sym e), mount_off log old source_folder new target_folder f g i r lies target_folder to_off.0 to_off.1 ∙ h.mount)
    where
      to_off : (is_prefix source target_folder ≡ false) × (is_prefix target target_folder ≡ false)
      to_off = target_folder_off log old source_folder new target_folder f g i r lies

  joined_then : (a b : ℕ) (up : Route) → joins a b moves ≡ true → find (current now) up ≡ Some a → IsBeside now up b
  joined_then a b up joined at =
      let both = named_both a b moves joined in
      let here = on_mount a (either_named a both.0) in
      let there = on_mount b (either_named b both.1) in
      record { path = there.0; at = there.1; mount = there.2 ∙ sym (ap (mount_of (current now)) (find-once (current now) tree_after up here.0 a at here.1) ∙ here.2) }

  pub joint_then : (a b : ℕ) (up : Route) → is_joint a b now.changes ≡ true → find (current now) up ≡ Some a → IsBeside now up b
  joint_then a b up joint at = elim (joint_less a b log.changes moves joint) [
    | inr joined ↦ joined_then a b up joined at
    | inl before ↦ elim (was_at up a at) [
      | inr moved ↦ absurd (both_ways _ (h.rests.apart moved.0 a b moved.2) before)
      | inl there ↦
          let swapped = joint_swap a b log.changes before in
          let beside = known.joint a b up before there.2 in
          let still = stays beside.path b beside.at (joint_folder log known.guarded.tree known.files b a swapped) (λ rest is. both_ways _ (h.rests.apart rest b a is) swapped) in
          record {
            path = beside.path;
            at = still.2;
            mount =
                mount_off log old source_folder new target_folder f g i r lies beside.path still.0 still.1
                ∙ (beside.mount ∙ sym (mount_off log old source_folder new target_folder f g i r lies up there.0 there.1));
          }
    ]
  ]

  -- A folder of which a name was changed is dirty, or no path leads to it.
  unreached_then : (k : ℕ) → IsUnreached log k → IsUnreached now k
  unreached_then k none p at = elim (was_at p k at) [ inl there ↦ none p there.2 | inr moved ↦ none (moved.0 ++ source) moved.2 ]

  pub tracked_then : (dirty_after : List Route) → Among dirty_after source_folder → Among dirty_after target_folder → ((q : Route) → Among dirty q → Among dirty_after q) → (k : ℕ) → is_restless k now.changes ≡ true
      → ((q : Route) × Among dirty_after q × (find (current now) q ≡ Some k)) ⊎ IsUnreached now k
  tracked_then dirty_after listed listed_beside more k restless = elim (restless_less k log.changes moves restless) [
    | inl before ↦ elim (known.tracked k before) [
      | inl t ↦ inl (t.0, more t.0 t.1, (stays t.0 k t.2 (restless_folder log known.guarded.tree known.files k before) (λ rest at. both_ways _ (h.rests.still rest k at) before)).2)
      | inr none ↦ inr (unreached_then k none)
    ]
    | inr named ↦ elim (either_named k named) [
      | inl e ↦ inl (source_folder, listed, from_now ∙ ap (λ n. Some n) (sym e))
      | inr e ↦ inl (target_folder, listed_beside, to_now ∙ ap (λ n. Some n) (sym e))
    ]
  ]

  is_doubted : (n : ℕ) (p : Route) → (p ≡ source) ⊎ (p ≡ target) → after.doubt n p ≡ true
  is_doubted n p (inl e) = or_right (told.doubt n p) _ (or_left _ (same_path p target) (subst (λ q. same_path q source ≡ true) (sym e) (same_path-self source)))
  is_doubted n p (inr e) = or_right (told.doubt n p) _ (or_right (same_path p source) _ (subst (λ q. same_path q target ≡ true) (sym e) (same_path-self target)))

  pub doubts_then : (count : ℕ) (p : Route) → renamed_since count now p ≡ true → after.doubt count p ≡ true
  doubts_then count [] waits = absurd (false≢true waits)
  doubts_then count (name ∷ q) waits = by (find (current now) q) refl
    where
      in_now : (o : Option ℕ) → find (current now) q ≡ o → option_map_or (λ n. is_pending n name (drop count now.changes)) o false ≡ true
      in_now o at = sym (ap (λ o. option_map_or (λ n. is_pending n name (drop count now.changes)) o false) at) ∙ waits

      pending : (k : ℕ) → find (current now) q ≡ Some k → is_pending k name (drop count log.changes) ≡ true → after.doubt count (name ∷ q) ≡ true
      pending k at before = elim (was_at q k at) [
        | inl there ↦ or_left (told.doubt count (name ∷ q)) _
            (known.doubts count (name ∷ q) (ap (λ o. option_map_or (λ n. is_pending n name (drop count log.changes)) o false) there.2 ∙ before))
        | inr moved ↦ absurd (both_ways _ (h.rests.names name moved.0) (name_at (moved.0 ++ source) name k moved.2 ∙ pending_all count k name log.changes before))
      ]

      by : (o : Option ℕ) → find (current now) q ≡ o → after.doubt count (name ∷ q) ≡ true
      by None at = absurd (false≢true (in_now None at))
      by (Some k) at = elim (pending_since count k name log.changes moves (in_now (Some k) at)) [
        | inl before ↦ pending k at before
        | inr s ↦ is_doubted count (name ∷ q) (path_of_two k name q at s)
      ]

  -- Nothing waits on the way to what isn't of the move, if nothing did.
  sure_off : (p : Route) → is_prefix source p ≡ false → is_prefix target p ≡ false → way_waits log p ≡ false → way_waits now p ≡ false
  sure_off [] of_source of_target sure = refl
  sure_off (name ∷ q) of_source of_target sure = or_from _ _ (false_from_ne_true _ (λ waits. by (find (current now) q) refl waits)) (sure_off q up_source up_target both.1)
    where
      both : (name_waits log (name ∷ q) ≡ false) × (way_waits log q ≡ false)
      both = or_parts (name_waits log (name ∷ q)) (way_waits log q) sure

      up_source : is_prefix source q ≡ false
      up_source = off_above source name q of_source

      up_target : is_prefix target q ≡ false
      up_target = off_above target name q of_target

      by : (o : Option ℕ) → find (current now) q ≡ o → name_waits now (name ∷ q) ≡ true → ⊥
      by None at waits = false≢true (sym (ap (λ o. option_map_or (λ n. is_pending n name now.changes) o false) at) ∙ waits)
      by (Some k) at waits = elim (pending_less k name log.changes moves (sym (name_now q name k at) ∙ waits)) [
        | inl before ↦ both_ways _ both.0 (name_at q name k (sym (off_both q up_source up_target) ∙ at) ∙ before)
        | inr s ↦ elim (path_of_two k name q at s) [
          | inl e ↦ both_ways _ of_source (ap (is_prefix source) e ∙ is_below source [])
          | inr e ↦ both_ways _ of_target (ap (is_prefix target) e ∙ is_below target [])
        ]
      ]

  -- Folders on the disk stay so: those that aren't of the move, and the two.
  firm_off : (p : Route) → is_prefix source p ≡ false → is_prefix target p ≡ false → IsSureFolder log p → IsSureFolder now p
  firm_off p of_source of_target firm =
      let there = stands_at (current log) p firm.stands in
      record {
        stands = folder_at_of (current now) p there.i (off_both p of_source of_target ∙ there.at) (ap is_folder (node_same there.i) ∙ there.folder);
        sure = sure_off p of_source of_target firm.sure;
      }

  pub stand_then : (p : Route) → after.folders p ≡ true → IsSureFolder now p
  stand_then p there = elim (or_cases (told.folders p && not (is_of_move pair p)) (same_path p source_folder || same_path p target_folder) there) [
    | inl before ↦
        let both = and_parts (told.folders p) (not (is_of_move pair p)) before in
        let away = or_parts (is_prefix source p) (is_prefix target p) (not-true _ both.1) in
        firm_off p away.0 away.1 (known.stand p both.0)
    | inr here ↦ elim (or_cases (same_path p source_folder) (same_path p target_folder) here) [
      | inl same ↦ subst (λ q. IsSureFolder now q) (sym (same_path-true p source_folder same)) (firm_off source_folder from_off.0 from_off.1 (record {
        stands = folder_at_of (current log) source_folder f h.from (source_holds told dirty marks log kept old source_folder new target_folder f g i r h);
        sure = source_above told dirty marks log kept old source_folder new target_folder f g i r h;
      }))
      | inr same ↦ subst (λ q. IsSureFolder now q) (sym (same_path-true p target_folder same)) (firm_off target_folder to_off.0 to_off.1 (record {
        stands = folder_at_of (current log) target_folder g h.to h.folder;
        sure = target_above told dirty marks log kept old source_folder new target_folder f g i r h;
      }))
    ]
  ]
    where
      from_off : (is_prefix source source_folder ≡ false) × (is_prefix target source_folder ≡ false)
      from_off = source_folder_off log old source_folder new target_folder f g i r lies

      to_off : (is_prefix source target_folder ≡ false) × (is_prefix target target_folder ≡ false)
      to_off = target_folder_off log old source_folder new target_folder f g i r lies

  -- Nothing waits where it went, nor below.
  at_source : (rest : Route) (k : ℕ) → find (current now) (rest ++ target) ≡ Some k → find (current log) (rest ++ source) ≡ Some k
  at_source rest k at = sym (lands log old source_folder new target_folder f g i r lies rest) ∙ at

  pub thing_rests : RestsBelow moving now target
  thing_rests = record {
    names = λ name rest. false_from_ne_true _ (λ waits. by name rest (find (current now) (rest ++ target)) refl waits);
    modes = λ rest k at. h.rests.modes rest k (at_source rest k at);
    still = λ rest k at. false_from_ne_true _ (λ restless. elim (restless_less k log.changes moves restless) [
      | inl before ↦ both_ways _ (h.rests.still rest k (at_source rest k at)) before
      | inr named ↦ not_at rest k (at_source rest k at) (either_named k named)
    ]);
    apart = λ rest k other at. false_from_ne_true _ (λ joint. elim (joint_less k other log.changes moves joint) [
      | inl before ↦ both_ways _ (h.rests.apart rest k other (at_source rest k at)) before
      | inr joined ↦ not_at rest k (at_source rest k at) (either_named k (named_both k other moves joined).0)
    ]);
  }
    where
      by : (name : List ℕ) (rest : Route) (o : Option ℕ) → find (current now) (rest ++ target) ≡ o → name_waits now (name ∷ rest ++ target) ≡ true → ⊥
      by name rest None at waits = false≢true (sym (ap (λ o. option_map_or (λ n. is_pending n name now.changes) o false) at) ∙ waits)
      by name rest (Some k) at waits = elim (pending_less k name log.changes moves (sym (name_now (rest ++ target) name k at) ∙ waits)) [
        | inl before ↦ both_ways _ (h.rests.names name rest) (name_at (rest ++ source) name k (at_source rest k at) ∙ before)
        | inr s ↦ not_at rest k (at_source rest k at) (either_said k name s)
      ]

  -- And neither folder roams.
  pub source_stays : moving.roams f ≡ false
  source_stays = or_from _ _ (false_from_ne_true (f == i) (λ same. not_at [] i h.leads (inl (sym (eqb-true f i same)))))
      (roams_not source_folder f h.from (folder_of_two f (inl refl)) (source_above told dirty marks log kept old source_folder new target_folder f g i r h))
    where
      roams_not : (p : Route) (k : ℕ) → find (current log) p ≡ Some k → is_folder (node (current log) k) ≡ true → way_waits log p ≡ false → marks.roams k ≡ false
      roams_not p k at folder sure = folder_stays told dirty marks log known kept.roams p k at folder (name_sure log p sure)

  pub target_stays : moving.roams g ≡ false
  target_stays = or_from _ _ (false_from_ne_true (g == i) (λ same. not_at [] i h.leads (inr (sym (eqb-true g i same)))))
      (folder_stays told dirty marks log known kept.roams target_folder g h.to h.folder (name_sure log target_folder (target_above told dirty marks log kept old source_folder new target_folder f g i r h)))
