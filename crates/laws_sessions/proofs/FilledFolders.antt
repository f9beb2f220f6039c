-- Folders that a job fills. Each stands on the disk, but for one that was just made, and no change waits of a name that is yet to be met in
-- it, nor a renaming for it and another folder. So at the target of what is met next nothing was done yet.
use Rattle.std.proofs.Common.{◌≡◌, ℕ, ◌<◌, true, false, List, [], ◌∷◌, ◌++◌, length, refl, sym, ◌∙◌, ap, subst, inl, inr, Option, Some, None, arith, cond}
use Rattle.std.specs.Prelude.{is_some, option_and_then}
use Rattle.std.specs.Option.{option_map_or}
use Rattle.std.proofs.lemmas.Bool.{both_ways, false_from_ne_true, false≢true}
use Rattle.mc_text.specs.Routes.{Route}
use Rattle.tree_trait.specs.declared.file_system.Node.{Node}
use Rattle.tree_trait.specs.declared.file_system.FileSystem.{FileSystem}
use Rattle.tree_trait.specs.FileSystem.{find, lookup, node}
use Rattle.tree_trait.specs.Refusals.{is_folder}
use Rattle.tree_trait.specs.Shape.{IsTree}
use Rattle.tree_trait.specs.Change.{Change, Makes, Moves, Removes, Syncs, CallLog, current, with_change}
use Rattle.tree_trait.specs.CrashImages.{Among, same_name, says}
use Rattle.tree_trait.proofs.Finding.{find-once, same_name-self, same_name-true}
use Rattle.tree_trait.proofs.Kept.{folder_there}
use Rattle.tree_trait.proofs.Steady.{at as node_at}
use Rattle.laws_crash.specs.Guarded.{Marks}
use Rattle.laws_crash.proofs.Guarding.{find_same, folder_kept, found_there, same_quiet}
use Rattle.laws_crash.proofs.Leading.{current_more}
use Rattle.laws_crash.proofs.Tops.{none_below, under_made, under_moved, under_removed}
use Rattle.laws_sessions.specs.Doubt.{is_pending, name_waits}
use Rattle.laws_sessions.proofs.Changing.{none_below_file, said_one, said_two, some_is, some_none}
use Rattle.laws_sessions.proofs.NameWaits.{NameWaits, waits_after, waits_calm}
use Rattle.laws_sessions.proofs.Untouched.{IsAsFound, IsBare, found_bare, IsUntouched, NoneOver, none_waits, over_it, untouched_free, way_sure}
use Rattle.laws_sessions.proofs.Knowing.{HasCalmMode, IsKept, HistoryFacts}
use Rattle.laws_sessions.proofs.Pending.{pending_less}
use Rattle.laws_sessions.proofs.Resting.{IsOfFiles, IsSureFolder, folder_at, folder_at_of, stands_at, sure_path, sure_still}
use Rattle.laws_sessions.proofs.WaitsAlone.{WaitsAlone, alone_quiet, within_gone}

-- no change of these names of the folder waits
abbrev pub NoneWait : CallLog → Route → List (List ℕ) → Type 0
NoneWait log up coming = (name : List ℕ) → Among coming name → name_waits log (name ∷ up) ≡ false

-- a folder that is filled, with the names that are yet to be met in it
pub record IsFilling (log : CallLog) (up : Route) (coming : List (List ℕ)) : Type 0 where
  pub firm : IsSureFolder log up
  pub calm : NoneWait log up coming

-- one that was made, and isn't on the disk yet: its own name waits for the sync of the folder around alone
pub record IsNew (log : CallLog) (up : Route) (coming : List (List ℕ)) : Type 0 where
  pub stands : folder_at (current log) up ≡ true
  pub calm : NoneWait log up coming
  pub alone : WaitsAlone log up

-- It begins where no dirty folder lies on its mount, nor on that of a folder on the way to it.
pub filling_begins : (told : HistoryFacts) (dirty : List Route) (marks : Marks) (log : CallLog) (up : Route) (f : ℕ) (coming : List (List ℕ)) → IsKept told dirty marks log → find (current log) up ≡ Some f → is_folder (node (current log) f) ≡ true
    → NoneOver (current log) up dirty → IsFilling log up coming
filling_begins told dirty marks log up f coming kept at folder owed = record {
  firm = record { stands = folder_at_of (current log) up f at folder; sure = way_sure told dirty marks log up kept.known owed };
  calm = λ name among. none_waits told dirty marks log up kept.known (over_it (current log) up dirty owed) name;
}

-- What is met next, where nothing stands, is untouched.
pub met_untouched : (told : HistoryFacts) (dirty : List Route) (marks : Marks) (log : CallLog) (up : Route) (coming : List (List ℕ)) (name : List ℕ) → IsKept told dirty marks log → IsFilling log up coming → Among coming name
    → find (current log) (name ∷ up) ≡ None → IsUntouched marks (current log) (name ∷ up)
met_untouched told dirty marks log up coming name kept filling among free =
    let firm = filling.firm in
    untouched_free told dirty marks log (name ∷ up) kept (sure_path log (name ∷ up) firm.sure (filling.calm name among)) free

-- and where no folder stands, it is as it was found
pub met_found : (told : HistoryFacts) (dirty : List Route) (marks : Marks) (log : CallLog) (up : Route) (coming : List (List ℕ)) (name : List ℕ) → IsKept told dirty marks log → IsFilling log up coming → Among coming name
    → IsBare (current log) (name ∷ up) → HasCalmMode marks (current log) (name ∷ up) → IsAsFound marks (current log) (name ∷ up)
met_found told dirty marks log up coming name kept filling among bare calm =
    let firm = filling.firm in
    found_bare told dirty marks log (name ∷ up) kept (sure_path log (name ∷ up) firm.sure (filling.calm name among)) bare
    (λ i at. elim (calm i at) [ inl none ↦ none | inr begins ↦ absurd (both_ways _ (bare i at) (kept.known.guarded.tree.mounts i begins)) ])

-- fewer names are yet to be met
pub filling_fewer : (log : CallLog) (up : Route) (coming fewer : List (List ℕ)) → ((name : List ℕ) → Among fewer name → Among coming name) → IsFilling log up coming → IsFilling log up fewer
filling_fewer log up coming fewer less filling = record { firm = filling.firm; calm = λ name among. filling.calm name (less name among) }

-- what a folder's names wait for hangs on its node
waits_in : (log : CallLog) (up : Route) (f : ℕ) (name : List ℕ) → find (current log) up ≡ Some f → name_waits log (name ∷ up) ≡ is_pending f name log.changes
waits_in log up f name at = ap (λ o. option_map_or (λ g. is_pending g name log.changes) o false) at

-- names that a change doesn't say anything of wait for nothing after it
calm_still : (log : CallLog) (c : Change) (up : Route) (f : ℕ) (coming : List (List ℕ)) → find (current log) up ≡ Some f → find (current (with_change log c)) up ≡ Some f
    → ((name : List ℕ) → Among coming name → is_some (says c 0 f name) ≡ true → ⊥) → NoneWait log up coming → NoneWait (with_change log c) up coming
calm_still log c up f coming at then apart calm name among =
    waits_in (with_change log c) up f name then ∙ false_from_ne_true _ (λ waits. elim (pending_less f name log.changes c waits) [
      | inl old ↦ both_ways _ (sym (waits_in log up f name at) ∙ calm name among) old
      | inr new ↦ apart name among new
    ])

still_folder : (log : CallLog) (c : Change) (i : ℕ) → i < length (current log).nodes → is_folder (node (current log) i) ≡ true → is_folder (node (current (with_change log c)) i) ≡ true
still_folder log c i there folder = ap (λ (s : FileSystem). is_folder (node s i)) (current_more log c) ∙ (folder_kept (current log) c i there ∙ folder)

-- A change after which each folder stands where it stood, and that touches no name of one.
module _ (log : CallLog) (c : Change) (tree : IsTree (current log))
    (stays : (q : Route) (g : ℕ) → find (current log) q ≡ Some g → is_folder (node (current log) g) ≡ true → find (current (with_change log c)) q ≡ Some g)
    (apart : (g : ℕ) (m : List ℕ) (j : ℕ) → is_some (says c 0 g m) ≡ true → lookup (current log).names g m ≡ Some j → is_folder (node (current log) j) ≡ true → ⊥) where
  sure_after : (up : Route) → IsSureFolder log up → IsSureFolder (with_change log c) up
  sure_after up firm =
      let there = stands_at (current log) up firm.stands in
      let then = stays up there.i there.at there.folder in
      record {
        stands = folder_at_of (current (with_change log c)) up there.i then (still_folder log c there.i (found_there (current log) tree up there.i there.at) there.folder);
        sure = sure_still log c tree (λ q g h at folder now. some_is g h (sym (stays q g at folder) ∙ now)) (λ g m j says before after folder. apart g m j says before folder) up there.i there.at there.folder then firm.sure;
      }

  filling_still : (up : Route) (coming : List (List ℕ)) → ((f : ℕ) → find (current log) up ≡ Some f → (name : List ℕ) → Among coming name → is_some (says c 0 f name) ≡ true → ⊥) → IsFilling log up coming
      → IsFilling (with_change log c) up coming
  filling_still up coming other filling =
      let firm = filling.firm in
      let there = stands_at (current log) up firm.stands in
      record {
        firm = sure_after up firm;
        calm = calm_still log c up there.i coming there.at (stays up there.i there.at there.folder) (other there.i there.at) filling.calm;
      }

-- the folder in which a name changes isn't this one, or the name is none of those that are yet to be met
abbrev pub IsOff : Route → List ℕ → Route → List (List ℕ) → Type 0
IsOff q k up coming = q ≡ up → Among coming k → ⊥

off_name : (log : CallLog) (q up : Route) (g f : ℕ) (k name : List ℕ) (coming : List (List ℕ)) → IsTree (current log) → find (current log) q ≡ Some g → find (current log) up ≡ Some f → IsOff q k up coming → Among coming name
    → same_name g k f name ≡ true → ⊥
off_name log q up g f k name coming tree at_q at_up off among same =
    let e = same_name-true g f k name same in
    off (find-once (current log) tree q up g at_q (at_up ∙ ap (λ i. Some i) (sym e.0))) (subst (λ n. Among coming n) (sym e.1) among)

-- Names that change in a folder that stands.
module _ (log : CallLog) (tree : IsTree (current log)) (q : Route) (g : ℕ) (at : find (current log) q ≡ Some g) where
  not_there : (up : Route) (f : ℕ) (rest : Route) (k : List ℕ) → find (current log) up ≡ Some f → lookup (current log).names g k ≡ None → up ≡ rest ++ k ∷ q → ⊥
  not_there up f rest k stands free is = some_none f (sym stands ∙ (ap (find (current log)) is ∙ none_below log rest (k ∷ q) (rw at free)))

  -- a thing is made where nothing stands
  module _ (k : List ℕ) (made : Node) (free : lookup (current log).names g k ≡ None) where
    abbrev makes : Change
    makes = Makes g k made

    stays_made : (p : Route) (f : ℕ) → find (current log) p ≡ Some f → is_folder (node (current log) f) ≡ true → find (current (with_change log makes)) p ≡ Some f
    stays_made p f stands folder = elim (find_same log makes p) [
      | inl same ↦ same ∙ stands
      | inr under ↦ let u = under_made log tree q g at k made p under in absurd (not_there p f u.0 k stands free u.1)
    ]

    made_apart : (h : ℕ) (m : List ℕ) (j : ℕ) → is_some (says makes 0 h m) ≡ true → lookup (current log).names h m ≡ Some j → is_folder (node (current log) j) ≡ true → ⊥
    made_apart h m j said leads folder =
        let e = same_name-true g h k m (said_one (same_name g k h m) (Some 0) said) in
        some_none j (sym leads ∙ subst (λ n. lookup (current log).names n m ≡ None) e.0 (subst (λ n. lookup (current log).names g n ≡ None) e.1 free))

    pub filling_made : (up : Route) (coming : List (List ℕ)) → IsOff q k up coming → IsFilling log up coming → IsFilling (with_change log makes) up coming
    filling_made up coming off = filling_still log makes tree stays_made made_apart up coming
        (λ f stands name among said. off_name log q up g f k name coming tree at stands off among (said_one (same_name g k f name) (Some 0) said))

    -- it is a folder: nothing waits in it yet
    module _ (files : IsOfFiles log) (holds : is_folder (node (current log) g) ≡ true) (folder : is_folder made ≡ true) where
      abbrev new : ℕ
      new = length (current log).nodes

      abbrev now : CallLog
      now = with_change log makes

      new_at : find (current now) (k ∷ q) ≡ Some new
      new_at =
          ap (option_and_then (λ h. lookup (current now).names h k)) (stays_made q g at holds)
          ∙ Rattle.laws_crash.proofs.Guarding.said log makes g k (Some new) (ap (λ b. (let o : Option (Option ℕ) = cond b (Some (Some new)) None in o)) (same_name-self g k))

      last_node : (xs : List Node) → node_at (xs ++ made ∷ []) (length xs) ≡ made
      last_node [] = refl
      last_node (x ∷ xs) = last_node xs

      new_folder : is_folder (node (current now) new) ≡ true
      new_folder = ap (λ (s : FileSystem). is_folder (node s new)) (current_more log makes) ∙ (ap is_folder (last_node (current log).nodes) ∙ folder)

      bare : is_folder (node (current log) new) ≡ false
      bare = false_from_ne_true _ (λ is. let there = folder_there (current log).nodes new is in absurd (omega (arith, there)))

      calm_new : (m : List ℕ) → is_pending new m now.changes ≡ false
      calm_new m = false_from_ne_true _ (λ waits. elim (pending_less new m log.changes makes waits) [
        | inl old ↦ both_ways _ (files.bare new m bare) old
        | inr other ↦
            let e = (same_name-true g new k m (said_one (same_name g k new m) (Some 0) other)).0 in
            let there = found_there (current log) tree q g at in
            absurd (omega (arith, e, there))
      ])

      its_own : name_waits log (k ∷ q) ≡ false → WaitsAlone now (k ∷ q)
      its_own none f there =
          let same : f ≡ g = some_is g f (sym (stays_made q g at holds) ∙ there) in
          subst (λ n. NameWaits now n k (n ∷ [])) (sym same) (waits_after g k log makes (g ∷ []) (within_gone g k makes refl) (waits_calm g k log (sym (waits_in log q g k at) ∙ none)))

      pub folder_opens : (coming : List (List ℕ)) → name_waits log (k ∷ q) ≡ false → IsNew now (k ∷ q) coming
      folder_opens coming none = record {
        stands = folder_at_of (current now) (k ∷ q) new new_at new_folder;
        calm = λ m among. waits_in now (k ∷ q) new m new_at ∙ calm_new m;
        alone = its_own none;
      }

  -- a part is placed where no folder stands, or removed
  module _ (part : List ℕ) (i : ℕ) (leads : lookup (current log).names g part ≡ Some i) (file : is_folder (node (current log) i) ≡ false) where
    part_at : find (current log) (part ∷ q) ≡ Some i
    part_at = rw at leads

    not_part : (p : Route) (f : ℕ) (rest : Route) → find (current log) p ≡ Some f → is_folder (node (current log) f) ≡ true → p ≡ rest ++ part ∷ q → ⊥
    not_part p f [] stands folder is =
        let same : f ≡ i = some_is i f (sym part_at ∙ (ap (find (current log)) (sym is) ∙ stands)) in
        both_ways _ file (subst (λ j. is_folder (node (current log) j) ≡ true) same folder)
    not_part p f (name ∷ rest) stands folder is = some_none f (sym stands ∙ (ap (find (current log)) is ∙ none_below_file (current log) tree (part ∷ q) i part_at file name rest))

    part_apart : (h : ℕ) (m : List ℕ) (j : ℕ) → same_name g part h m ≡ true → lookup (current log).names h m ≡ Some j → is_folder (node (current log) j) ≡ true → ⊥
    part_apart h m j same found folder =
        let e = same_name-true g h part m same in
        let here : lookup (current log).names h m ≡ Some i = subst (λ n. lookup (current log).names n m ≡ Some i) e.0 (subst (λ n. lookup (current log).names g n ≡ Some i) e.1 leads) in
        let j_is : j ≡ i = some_is i j (sym here ∙ found) in
        both_ways _ file (subst (λ n. is_folder (node (current log) n) ≡ true) j_is folder)

    module _ (target : List ℕ) (replaced : Option ℕ) (bare : (j : ℕ) → lookup (current log).names g target ≡ Some j → is_folder (node (current log) j) ≡ false) where
      abbrev moves : Change
      moves = Moves g part g target i replaced

      -- no folder stands at the target, or below it
      not_target : (o : Option ℕ) → lookup (current log).names g target ≡ o → (p : Route) (f : ℕ) (rest : Route) → find (current log) p ≡ Some f → is_folder (node (current log) f) ≡ true → p ≡ rest ++ target ∷ q → ⊥
      not_target None free p f rest stands folder is = not_there p f rest target stands free is
      not_target (Some j) leads_there p f [] stands folder is =
          let target_at : find (current log) (target ∷ q) ≡ Some j = rw at leads_there in
          let same : f ≡ j = some_is j f (sym target_at ∙ (ap (find (current log)) (sym is) ∙ stands)) in
          both_ways _ (bare j leads_there) (subst (λ n. is_folder (node (current log) n) ≡ true) same folder)
      not_target (Some j) leads_there p f (name ∷ rest) stands folder is =
          let target_at : find (current log) (target ∷ q) ≡ Some j = rw at leads_there in
          some_none f (sym stands ∙ (ap (find (current log)) is ∙ none_below_file (current log) tree (target ∷ q) j target_at (bare j leads_there) name rest))

      stays_placed : (p : Route) (f : ℕ) → find (current log) p ≡ Some f → is_folder (node (current log) f) ≡ true → find (current (with_change log moves)) p ≡ Some f
      stays_placed p f stands folder = elim (find_same log moves p) [
        | inl same ↦ same ∙ stands
        | inr under ↦ elim (under_moved log tree q g at part target i replaced p under) [
          | inl u ↦ absurd (not_target (lookup (current log).names g target) refl p f u.0 stands folder u.1)
          | inr u ↦ absurd (not_part p f u.0 stands folder u.1)
        ]
      ]

      placed_apart : (h : ℕ) (m : List ℕ) (j : ℕ) → is_some (says moves 0 h m) ≡ true → lookup (current log).names h m ≡ Some j → is_folder (node (current log) j) ≡ true → ⊥
      placed_apart h m j said found folder = elim (said_two (same_name g target h m) (same_name g part h m) (Some i) None said) [
        | inl same ↦
            let e = same_name-true g h target m same in
            both_ways _ (bare j (subst (λ n. lookup (current log).names g n ≡ Some j) (sym e.1) (subst (λ n. lookup (current log).names n m ≡ Some j) (sym e.0) found))) folder
        | inr same ↦ part_apart h m j same found folder
      ]

      pub filling_placed : (up : Route) (coming : List (List ℕ)) → IsOff q target up coming → IsOff q part up coming → IsFilling log up coming → IsFilling (with_change log moves) up coming
      filling_placed up coming off_target off_part = filling_still log moves tree stays_placed placed_apart up coming
          (λ f stands name among said. elim (said_two (same_name g target f name) (same_name g part f name) (Some i) None said) [
            | inl same ↦ off_name log q up g f target name coming tree at stands off_target among same
            | inr same ↦ off_name log q up g f part name coming tree at stands off_part among same
          ])

    abbrev removes : Change
    removes = Removes g part i

    stays_removed : (p : Route) (f : ℕ) → find (current log) p ≡ Some f → is_folder (node (current log) f) ≡ true → find (current (with_change log removes)) p ≡ Some f
    stays_removed p f stands folder = elim (find_same log removes p) [
      | inl same ↦ same ∙ stands
      | inr under ↦ let u = under_removed log tree q g at part i p under in absurd (not_part p f u.0 stands folder u.1)
    ]

    pub filling_removed : (up : Route) (coming : List (List ℕ)) → IsOff q part up coming → IsFilling log up coming → IsFilling (with_change log removes) up coming
    filling_removed up coming off = filling_still log removes tree stays_removed
        (λ h m j said found folder. part_apart h m j (said_one (same_name g part h m) None said) found folder) up coming
        (λ f stands name among said. off_name log q up g f part name coming tree at stands off among (said_one (same_name g part f name) None said))

-- A call that changes no name.
module _ (log : CallLog) (c : Change) (tree : IsTree (current log)) (none : (n g : ℕ) (m : List ℕ) → says c n g m ≡ None) where
  none_said : (g : ℕ) (m : List ℕ) → is_some (says c 0 g m) ≡ true → ⊥
  none_said g m said = absurd (false≢true (sym (ap is_some (none 0 g m)) ∙ said))

  stays_quiet : (p : Route) (f : ℕ) → find (current log) p ≡ Some f → is_folder (node (current log) f) ≡ true → find (current (with_change log c)) p ≡ Some f
  stays_quiet p f stands folder = same_quiet log c (none (length (current log).nodes)) p ∙ stands

  pub sure_quiet : (up : Route) → IsSureFolder log up → IsSureFolder (with_change log c) up
  sure_quiet = sure_after log c tree stays_quiet (λ g m j said found folder. none_said g m said)

  pub filling_quiet : (up : Route) (coming : List (List ℕ)) → IsFilling log up coming → IsFilling (with_change log c) up coming
  filling_quiet up coming = filling_still log c tree stays_quiet (λ g m j said found folder. none_said g m said) up coming (λ f stands name among said. none_said f name said)

  pub new_quiet : (up : Route) (coming : List (List ℕ)) → IsNew log up coming → IsNew (with_change log c) up coming
  new_quiet up coming new =
      let there = stands_at (current log) up new.stands in
      let then = stays_quiet up there.i there.at there.folder in
      record {
        stands = folder_at_of (current (with_change log c)) up there.i then (still_folder log c there.i (found_there (current log) tree up there.i there.at) there.folder);
        calm = calm_still log c up there.i coming there.at then (λ name among said. none_said there.i name said) new.calm;
        alone = alone_quiet log c none up new.alone;
      }

-- A folder that was made is on the disk once the one around it was synced.
pub opens_synced : (log : CallLog) (q : Route) (g : ℕ) (k : List ℕ) (coming : List (List ℕ)) → IsTree (current log) → find (current log) q ≡ Some g → IsFilling log q [] → IsNew log (k ∷ q) coming
    → IsFilling (with_change log (Syncs g)) (k ∷ q) coming
opens_synced log q g k coming tree at outer new =
    let then = new_quiet log (Syncs g) tree (λ n h m. refl) (k ∷ q) coming new in
    let around = filling_quiet log (Syncs g) tree (λ n h m. refl) q [] outer in
    let still = around.firm in
    let at_now : find (current (with_change log (Syncs g))) q ≡ Some g = same_quiet log (Syncs g) (λ h m. refl) q ∙ at in
    record {
      firm = record {
        stands = then.stands;
        sure = sure_path (with_change log (Syncs g)) (k ∷ q) still.sure (waits_in (with_change log (Syncs g)) q g k at_now ∙ new.alone g at);
      };
      calm = then.calm;
    }
