-- A file or a link that stands at the target of what is copied itself, until it is replaced: it stays, whatever is called, so no folder ever stands there.
use Rattle.std.proofs.Common.{◌≡◌, ◌⊎◌, ℕ, Bool, true, false, List, [], ◌∷◌, ◌++◌, refl, sym, ◌∙◌, ap, subst, inl, inr, Option, Some, None, Ok, cond}
use Rattle.std.specs.Prelude.{⊤, if◌then◌else◌, ◌==◌, option_and_then, unwrap_or}
use Rattle.std.proofs.lemmas.Bool.{false_from_ne_true}
use Rattle.mc_text.specs.Routes.{Route, same_path}
use Rattle.tree_trait.specs.declared.file_system.FileSystem.{FileSystem}
use Rattle.tree_trait.specs.declared.file_system.Node.{Node}
use Rattle.tree_trait.specs.Answers.{Performs}
use Rattle.tree_trait.specs.Calls.{RemoveFile, Rename, SetMode, SyncFile}
use Rattle.tree_trait.specs.Change.{Change, Makes, Moves, Nothing, Removes, Sets, Syncs, CallLog, change_of, current, found_node, with_change}
use Rattle.tree_trait.specs.CrashImages.{says}
use Rattle.tree_trait.specs.FileSystem.{find, lookup, node}
use Rattle.tree_trait.specs.Refusals.{after_walk, is_folder, refusal_of, rename_refusal, walk}
use Rattle.tree_trait.specs.Shape.{IsRemovable, IsTree}
use Rattle.tree_trait.proofs.Visible.{same_path-true}
use Rattle.tree_trait.proofs.Walking.{last_place, passed_walk, removable}
use Rattle.laws_crash.proofs.Guarding.{find_same, folder_kept, found_there, same_quiet}
use Rattle.laws_crash.proofs.Leading.{current_more}
use Rattle.laws_crash.proofs.Tops.{none_below, under_made, under_moved, under_removed}
use Rattle.job_reports.specs.CallRuns.{AllDone}
use Rattle.job_reports.proofs.CallAnswers.{IsDoneCall, done_call}
use Rattle.job_reports.proofs.PermittedCalls.{IsMaking}
use Rattle.copy_file.specs.CopyCalls.{part_mode, placing}
use Rattle.copy_file.specs.Copying.{part_at}
use Rattle.copy_link.specs.LinkCopying.{has_part}
use Rattle.copy_folders.specs.Levels.{Levels, coming, passed_levels}
use Rattle.copy_tree.specs.declared.item.ItemAtWork.{ItemAtWork}
use Rattle.copy_tree.specs.declared.item.ItemAtWork.TheVariants.{Next, File, Link, Stays}
use Rattle.copy_tree.specs.Standing.{Seen}
use Rattle.laws_sessions.proofs.AtWork.{HasItem, IsAtWork}
use Rattle.laws_sessions.proofs.Calm.{IsCalm}
use Rattle.laws_sessions.proofs.CalmChanges.{target_leads}
use Rattle.laws_sessions.proofs.Changing.{none_below_file, some_none}
use Rattle.laws_sessions.proofs.QuietRuns.{row_done, tree_moded, tree_synced}
use Rattle.laws_sessions.proofs.TreeRuns.{has_quiet}
use Rattle.laws_sessions.proofs.Untouched.{IsBare}

-- a file or a link stands at the path
pub record StandsBare (s : FileSystem) (path : Route) : Type 0 where
  pub i : ℕ
  pub leads : find s path ≡ Some i
  pub bare : is_folder (node s i) ≡ false

-- the part of what is at work is another path
abbrev pub IsApart : ItemAtWork → Route → Type 0
IsApart Next path = ⊤
IsApart (File f) path = (part : Route) → part_at f.stage ≡ Some part → part ≡ path → ⊥
IsApart (Link l) path = has_part l.stage ≡ true → l.part ≡ path → ⊥
IsApart (Stays part) path = ⊤

-- What stands at or below a target is calm; or what stands at the target itself is a file or a link that is to be replaced, of which nothing is said.
abbrev pub IsCalmFrom : CallLog → Seen → Route → Route → Type 0
IsCalmFrom log c target rest = IsCalm log c (rest ++ target) ⊎ ((rest ≡ []) × StandsBare (current log) target × IsApart c.item target)

-- nothing stands at the path, or it stands so
pub free_or_bare : (s : FileSystem) (path : Route) → IsBare s path → (find s path ≡ None) ⊎ StandsBare s path
free_or_bare s path bare = by (find s path) refl
  where
    by : (o : Option ℕ) → find s path ≡ o → (find s path ≡ None) ⊎ StandsBare s path
    by None free = inl free
    by (Some i) leads = inr (record { i = i; leads = leads; bare = bare i leads })

-- below it nothing does, either way
pub none_below_open : (log : CallLog) → IsTree (current log) → (path : Route) → (find (current log) path ≡ None) ⊎ StandsBare (current log) path → (name : List ℕ) (rest : Route) → find (current log) (name ∷ rest ++ path) ≡ None
none_below_open log tree path (inl free) name rest = none_below log (name ∷ rest) path free
none_below_open log tree path (inr b) name rest = none_below_file (current log) tree path b.i b.leads b.bare name rest

module _ (p : Route) where
  pub bare_quiet : (log : CallLog) (c : Change) → IsTree (current log) → ((n g : ℕ) (m : List ℕ) → says c n g m ≡ None) → StandsBare (current log) p → StandsBare (current (with_change log c)) p
  bare_quiet log c tree none h = record {
    i = h.i;
    leads = same_quiet log c (λ g m. none _ g m) p ∙ h.leads;
    bare = ap (λ (s : FileSystem). is_folder (node s h.i)) (current_more log c) ∙ (folder_kept (current log) c h.i (found_there (current log) tree p h.i h.leads) ∙ h.bare);
  }

  -- it is found where it was found
  bare_same : (log : CallLog) (c : Change) → IsTree (current log) → find (current (with_change log c)) p ≡ find (current log) p → StandsBare (current log) p → StandsBare (current (with_change log c)) p
  bare_same log c tree same h = record {
    i = h.i;
    leads = same ∙ h.leads;
    bare = ap (λ (s : FileSystem). is_folder (node s h.i)) (current_more log c) ∙ (folder_kept (current log) c h.i (found_there (current log) tree p h.i h.leads) ∙ h.bare);
  }

  -- a thing is made elsewhere
  module _ (log : CallLog) (tree : IsTree (current log)) (h : StandsBare (current log) p) (k : List ℕ) (up : Route) (made : Node) (making : IsMaking (current log) k up) where
    free : find (current log) (k ∷ up) ≡ None
    free = ap (option_and_then (λ f. lookup (let s = current log in s.names) f k)) making.folder ∙ making.none

    pub bare_apart : (k ∷ up) ≡ p → ⊥
    bare_apart same = some_none h.i (sym h.leads ∙ (ap (find (current log)) (sym same) ∙ free))

    pub bare_made : StandsBare (current (with_change log (Makes (found_node (current log) up) k made))) p
    bare_made = elim (find_same log (Makes (found_node (current log) up) k made) p) [
      | inl same ↦ bare_same log (Makes (found_node (current log) up) k made) tree same h
      | inr under ↦
          let u = under_made log tree up (found_node (current log) up) making.folder k made p under in
          some_none h.i (sym h.leads ∙ (ap (find (current log)) u.1 ∙ none_below log u.0 (k ∷ up) free))
    ]

  -- what lies below a thing that is no folder isn't found
  not_below : (log : CallLog) → IsTree (current log) → StandsBare (current log) p → (q : Route) (i : ℕ) → find (current log) q ≡ Some i → is_folder (node (current log) i) ≡ false → (q ≡ p → ⊥) → (rest : Route) → p ≡ rest ++ q → ⊥
  not_below log tree h q i leads file apart [] is = apart (sym is)
  not_below log tree h q i leads file apart (name ∷ rest) is = some_none h.i (sym h.leads ∙ (ap (find (current log)) is ∙ none_below_file (current log) tree q i leads file name rest))

  -- a part is removed
  pub bare_removed : (log now : CallLog) → IsTree (current log) → StandsBare (current log) p → (part : Route) → (part ≡ p → ⊥) → Performs {A = Unit {0}} log (RemoveFile part) (Ok tt) (Some now) → StandsBare (current now) p
  bare_removed log now tree h part apart done = at (removable (current log) part tree d.permits)
    where
      d : IsDoneCall log (RemoveFile part) now
      d = done_call log (RemoveFile part) now done

      at : IsRemovable (current log) part → StandsBare (current now) p
      at r =
          let leads_there : find (current log) (r.name ∷ r.up) ≡ Some r.i = rw r.folder r.leads in
          let change : change_of (current log) (RemoveFile part) d.time ≡ Removes r.f r.name r.i =
          ap (λ q. change_of (current log) (RemoveFile q) d.time) r.path_is
          ∙ (ap (λ g. Removes g r.name (found_node (current log) (r.name ∷ r.up))) (ap (λ o. unwrap_or o 0) r.folder) ∙ ap (λ k. Removes r.f r.name k) (ap (λ o. unwrap_or o 0) leads_there)) in
          subst (λ (x : CallLog). StandsBare (current x) p) (sym (d.is ∙ ap (with_change log) change))
          (elim (find_same log (Removes r.f r.name r.i) p) [
            | inl same ↦ bare_same log (Removes r.f r.name r.i) tree same h
            | inr under ↦
                let u = under_removed log tree r.up r.f r.folder r.name r.i p under in
                absurd (not_below log tree h (r.name ∷ r.up) r.i leads_there r.no_folder (λ same. apart (r.path_is ∙ same)) u.0 u.1)
          ])

  -- a part is placed
  module _ (name : List ℕ) (l : Levels) (part target : Route) (apart : part ≡ p → ⊥) where
    pub record Placing (log : CallLog) : Type 0 where
      pub tree : IsTree (current log)
      pub item : HasItem log name l part target
      pub stands : StandsBare (current log) p

    pub bare_renamed : (log now : CallLog) → Placing log → Performs {A = Unit {0}} log (Rename part target) (Ok tt) (Some now) → StandsBare (current now) p
    bare_renamed log now ready done = at (subst (λ q. refusal_of (current log) (Rename q (w.n ∷ folder)) ≡ None) w.part_is (subst (λ q. refusal_of (current log) (Rename part q) ≡ None) w.target_is d.permits))
      where
        folder : Route
        folder = l.inner.copy.target

        d : IsDoneCall log (Rename part target) now
        d = done_call log (Rename part target) now done

        w : IsAtWork (current log) folder (let q : Levels = passed_levels false l in coming name q.inner.names q.around) part target
        w = let item = ready.item in item.work

        h : StandsBare (current log) p
        h = ready.stands

        -- nor what lies below the target
        off_target : (rest : Route) (more : List ℕ) → p ≡ more ∷ rest ++ w.n ∷ folder → (o : Option ℕ) → find (current log) (w.n ∷ folder) ≡ o → ⊥
        off_target rest more is None free = some_none h.i (sym h.leads ∙ (ap (find (current log)) is ∙ none_below log (more ∷ rest) (w.n ∷ folder) free))
        off_target rest more is (Some j) leads =
            some_none h.i (sym h.leads ∙ (ap (find (current log)) is ∙ none_below_file (current log) ready.tree (w.n ∷ folder) j leads (w.bare j (ap (find (current log)) w.target_is ∙ leads)) more rest))

        at : refusal_of (current log) (Rename (w.k ∷ folder) (w.n ∷ folder)) ≡ None → StandsBare (current now) p
        at permits =
            let a = passed_walk (walk (current log) (w.k ∷ folder)) (λ a. after_walk (current log) (w.n ∷ folder) (λ b. rename_refusal (current log) (w.k ∷ folder) (w.n ∷ folder) a b)) permits in
            let b = passed_walk (walk (current log) (w.n ∷ folder)) (λ b. rename_refusal (current log) (w.k ∷ folder) (w.n ∷ folder) a.0 b) a.2 in
            let last = last_place (current log) w.n folder b.0 b.1 in
            let g = found_node (current log) folder in
            let leads_here : find (current log) (w.k ∷ folder) ≡ Some w.i = subst (λ q. find (current log) q ≡ Some w.i) w.part_is w.leads in
            let part_there : lookup (let s = current log in s.names) g w.k ≡ Some w.i = sym (ap (option_and_then (λ k. lookup (let s = current log in s.names) k w.k)) last.folder) ∙ leads_here in
            let other : same_path (w.k ∷ folder) (w.n ∷ folder) ≡ false = false_from_ne_true _ (λ same. let e : (w.k ∷ folder) ≡ w.n ∷ folder = same_path-true (w.k ∷ folder) (w.n ∷ folder) same in w.apart cc) in
            let replaced = find (current log) (w.n ∷ folder) in
            let change : change_of (current log) (Rename part target) d.time ≡ Moves g w.k g w.n w.i replaced =
            ap (λ q. change_of (current log) (Rename q target) d.time) w.part_is
            ∙ (ap (λ q. change_of (current log) (Rename (w.k ∷ folder) q) d.time) w.target_is
            ∙ (ap (λ x. cond x Nothing (Moves g w.k g w.n (found_node (current log) (w.k ∷ folder)) replaced)) other
            ∙ ap (λ k. Moves g w.k g w.n k replaced) (ap (λ o. unwrap_or o 0) leads_here))) in
            let moves = Moves g w.k g w.n w.i replaced in
            subst (λ (x : CallLog). StandsBare (current x) p) (sym (d.is ∙ ap (with_change log) change))
            (elim (find_same log moves p) [
              | inl same ↦ bare_same log moves ready.tree same h
              | inr under ↦ elim (under_moved log ready.tree folder g last.folder w.k w.n w.i replaced p under) [
                | inl u ↦ at_target g last.folder part_there replaced u.0 u.1
                | inr u ↦ absurd (not_below log ready.tree h (w.k ∷ folder) w.i leads_here w.file (λ same. apart (w.part_is ∙ same)) u.0 u.1)
              ]
            ])
          where
            at_target : (g : ℕ) → find (current log) folder ≡ Some g → lookup (let s = current log in s.names) g w.k ≡ Some w.i → (replaced : Option ℕ) → (rest : Route) → p ≡ rest ++ w.n ∷ folder → StandsBare (current (with_change log (Moves g w.k g w.n w.i replaced))) p
            at_target g leads_folder part_there replaced [] is =
                subst (λ q. StandsBare (current (with_change log (Moves g w.k g w.n w.i replaced))) q) (sym is) (record {
                  i = w.i;
                  leads = target_leads log ready.tree folder g leads_folder w.k w.i part_there w.file w.n replaced w.apart;
                  bare = ap (λ (s : FileSystem). is_folder (node s w.i)) (current_more log (Moves g w.k g w.n w.i replaced))
                      ∙ (folder_kept (current log) (Moves g w.k g w.n w.i replaced) w.i (found_there (current log) ready.tree part w.i w.leads) ∙ w.file);
                })
            at_target g leads_folder part_there replaced (more ∷ rest) is = absurd (off_target rest more is (find (current log) (w.n ∷ folder)) refl)

    then_synced : (from mid : CallLog) → Performs {A = Unit {0}} from (SyncFile part) (Ok tt) (Some mid) → Placing from → Placing mid
    then_synced from mid done r =
        let d = done_call from (SyncFile part) mid done in
        let i = found_node (current from) part in
        subst Placing (sym d.is) (record {
          tree = tree_synced from i r.tree;
          item = has_quiet name l part target from (Syncs i) r.tree (λ n g m. refl) r.item;
          stands = bare_quiet from (Syncs i) r.tree (λ n g m. refl) r.stands;
        })

    then_moded : (from mid : CallLog) (mode : ℕ) → Performs {A = Unit {0}} from (SetMode part mode) (Ok tt) (Some mid) → Placing from → Placing mid
    then_moded from mid mode done r =
        let d = done_call from (SetMode part mode) mid done in
        let i = found_node (current from) part in
        subst Placing (sym d.is) (record {
          tree = tree_moded from i mode r.tree;
          item = has_quiet name l part target from (Sets i mode) r.tree (λ n g m. refl) r.item;
          stands = bare_quiet from (Sets i mode) r.tree (λ n g m. refl) r.stands;
        })

    -- a full part of a file is given its mode, synced and renamed
    pub bare_placed : (log now : CallLog) (mode : ℕ) → Placing log → AllDone log (placing mode part target) (Some now) → StandsBare (current now) p
    bare_placed log now mode r rows = by (part_mode mode == mode) rows
      where
        tail : (from : CallLog) → Placing from → AllDone from (SyncFile part ∷ Rename part target ∷ []) (Some now) → StandsBare (current now) p
        tail from r (mid, sync, moved) = bare_renamed mid now (then_synced from mid sync r) (row_done mid now (Rename part target) moved)

        by : (b : Bool) → AllDone log (if◌then◌else◌ b [] (SetMode part mode ∷ []) ++ SyncFile part ∷ Rename part target ∷ []) (Some now) → StandsBare (current now) p
        by true rows = tail log r rows
        by false (mid, set, later) = tail mid (then_moded log mid mode set r) later
