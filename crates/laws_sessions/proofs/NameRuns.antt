-- Which names wait after a call of a copy, whatever it is answered.
use Rattle.std.proofs.Common.{◌≡◌, ◌⊎◌, ℕ, Bool, true, false, List, [], ◌∷◌, ◌++◌, refl, sym, ◌∙◌, ap, subst, inl, inr, Option, Some, None, Ok, Err, cond}
use Rattle.std.specs.Prelude.{if◌then◌else◌, ◌==◌, is_some, option_and_then, unwrap_or}
use Rattle.std.proofs.lemmas.Bool.{both_ways, false_from_ne_true, false≢true}
use Rattle.mc_text.specs.Routes.{Route, same_path}
use Rattle.tree_trait.specs.declared.calls.TreeError.{TreeError}
use Rattle.tree_trait.specs.Answers.{Performs}
use Rattle.tree_trait.specs.Calls.{Call, RemoveFile, Rename, SetMode, SyncFile, SyncFolder}
use Rattle.tree_trait.specs.Change.{Change, Moves, Nothing, Removes, Sets, Syncs, CallLog, change_of, current, found_node, with_change}
use Rattle.tree_trait.specs.CrashImages.{says}
use Rattle.tree_trait.specs.FileSystem.{find, lookup}
use Rattle.tree_trait.specs.Refusals.{after_walk, refusal_of, rename_refusal, walk}
use Rattle.tree_trait.specs.Shape.{IsRemovable, IsTree}
use Rattle.tree_trait.proofs.Visible.{same_path-true}
use Rattle.tree_trait.proofs.Walking.{last_place, passed_walk, removable}
use Rattle.laws_crash.proofs.Guarding.{same_quiet}
use Rattle.job_reports.specs.CallRuns.{AllDone, RunStops}
use Rattle.job_reports.specs.declared.report.Cause.{Cause}
use Rattle.job_reports.proofs.CallAnswers.{IsDoneCall, done_call}
use Rattle.job_reports.proofs.PermittedCalls.{sync_finds}
use Rattle.copy_file.specs.CopyCalls.{part_mode, placing}
use Rattle.copy_folders.specs.Levels.{Levels, coming, passed_levels}
use Rattle.laws_sessions.specs.Doubt.{is_pending}
use Rattle.laws_sessions.proofs.Pending.{pending_less}
use Rattle.laws_sessions.proofs.Resting.{IsOfFiles}
use Rattle.laws_sessions.proofs.AtWork.{HasItem, IsAtWork}
use Rattle.laws_sessions.proofs.NameChanges.{WaitsIf, waits_placed, waits_quiet, waits_removed, waits_synced}
use Rattle.laws_sessions.proofs.QuietRuns.{part_stops, row_done, row_stops, tree_moded, tree_synced}
use Rattle.laws_sessions.proofs.Refused.{refused_change}
use Rattle.laws_sessions.proofs.TreeRuns.{has_quiet}

module _ (name : List ℕ) (up : Route) (E : Type 0) where
  abbrev Waits : CallLog → Type 0
  Waits log = WaitsIf name up log E

  -- what names nothing leaves no other name waiting
  pub quiet_waits : (log : CallLog) (c : Change) → IsTree (current log) → ((n g : ℕ) (m : List ℕ) → says c n g m ≡ None) → Waits log → Waits (with_change log c)
  quiet_waits log c tree none h = waits_quiet name up log c E E h none (λ e. e)

  pub refused_waits : (log now : CallLog) (call : Call) (e : TreeError) → IsTree (current log) → Performs {A = Unit {0}} log call (Err e) (Some now) → Waits log → Waits now
  refused_waits log now call e tree done h = elim (refused_change log now call e done) [
    | inl same ↦ subst Waits (sym same) h
    | inr c ↦ subst Waits (sym c.2) (quiet_waits log c.0 tree c.1 h)
  ]

  pub stop_waits : (log now : CallLog) (call : Call) (why : Cause) (path : Option Route) → IsTree (current log) → RunStops (call ∷ []) why path log (Some now) → Waits log → Waits now
  stop_waits log now call why path tree run h = elim (row_stops log now call why path run) [
    | inl same ↦ subst Waits (sym same) h
    | inr e ↦ refused_waits log now call e.0 tree e.1 h
  ]

  pub placing_stop : (log now : CallLog) (mode : ℕ) (part target : Route) (why : Cause) (path : Option Route) → IsTree (current log) → RunStops (placing mode part target) why path log (Some now) → Waits log → Waits now
  placing_stop log now mode part target why path tree run h = part_stops Waits (λ from c t none k. quiet_waits from c t none k) log now tree mode part target why path run h

-- A part at work, of which nothing waits as of a folder.
module _ (name : List ℕ) (up : Route) (item_name : List ℕ) (l : Levels) (part target : Route) (E F : Type 0) (here : up ≡ l.inner.copy.target → F) (f : E → F) where
  pub record Ready (log : CallLog) : Type 0 where
    pub tree : IsTree (current log)
    pub item : HasItem log item_name l part target
    pub waits : WaitsIf name up log E
    pub bare : (i : ℕ) → find (current log) part ≡ Some i → is_pending i name log.changes ≡ false

  ready_quiet : (log : CallLog) (c : Change) → IsTree (current (with_change log c)) → ((n g : ℕ) (m : List ℕ) → says c n g m ≡ None) → Ready log → Ready (with_change log c)
  ready_quiet log c tree none r = record {
    tree = tree;
    item = has_quiet item_name l part target log c r.tree none r.item;
    waits = quiet_waits name up E log c r.tree none r.waits;
    bare = λ i at. false_from_ne_true _ (λ pending. elim (pending_less i name log.changes c pending) [
      | inl old ↦ both_ways _ (r.bare i (sym (same_quiet log c (λ g m. none _ g m) part) ∙ at)) old
      | inr new ↦ false≢true (sym (ap is_some (none 0 i name)) ∙ new)
    ]);
  }

  then_synced : (from mid : CallLog) → Performs {A = Unit {0}} from (SyncFile part) (Ok tt) (Some mid) → Ready from → Ready mid
  then_synced from mid h r =
      let d = done_call from (SyncFile part) mid h in
      subst Ready (sym d.is) (ready_quiet from (Syncs (found_node (current from) part)) (tree_synced from (found_node (current from) part) r.tree) (λ n g m. refl) r)

  then_moded : (from mid : CallLog) (mode : ℕ) → Performs {A = Unit {0}} from (SetMode part mode) (Ok tt) (Some mid) → Ready from → Ready mid
  then_moded from mid mode h r =
      let d = done_call from (SetMode part mode) mid h in
      subst Ready (sym d.is) (ready_quiet from (Sets (found_node (current from) part) mode) (tree_moded from (found_node (current from) part) mode r.tree) (λ n g m. refl) r)

  -- it is renamed
  pub renamed : (log now : CallLog) → Ready log → Performs {A = Unit {0}} log (Rename part target) (Ok tt) (Some now) → WaitsIf name up now F
  renamed log now r h = at (subst (λ q. refusal_of (current log) (Rename q (w.n ∷ folder)) ≡ None) w.part_is (subst (λ q. refusal_of (current log) (Rename part q) ≡ None) w.target_is d.permits))
    where
      folder : Route
      folder = l.inner.copy.target

      d : IsDoneCall log (Rename part target) now
      d = done_call log (Rename part target) now h

      w : IsAtWork (current log) folder (let q : Levels = passed_levels false l in coming item_name q.inner.names q.around) part target
      w = let item = r.item in item.work

      at : refusal_of (current log) (Rename (w.k ∷ folder) (w.n ∷ folder)) ≡ None → WaitsIf name up now F
      at permits =
          let a = passed_walk (walk (current log) (w.k ∷ folder)) (λ a. after_walk (current log) (w.n ∷ folder) (λ b. rename_refusal (current log) (w.k ∷ folder) (w.n ∷ folder) a b)) permits in
          let b = passed_walk (walk (current log) (w.n ∷ folder)) (λ b. rename_refusal (current log) (w.k ∷ folder) (w.n ∷ folder) a.0 b) a.2 in
          let last = last_place (current log) w.n folder b.0 b.1 in
          let g = found_node (current log) folder in
          let leads_here : find (current log) (w.k ∷ folder) ≡ Some w.i = subst (λ q. find (current log) q ≡ Some w.i) w.part_is w.leads in
          let part_there : lookup (let s = current log in s.names) g w.k ≡ Some w.i = sym (ap (option_and_then (λ k. lookup (let s = current log in s.names) k w.k)) last.folder) ∙ leads_here in
          let other : same_path (w.k ∷ folder) (w.n ∷ folder) ≡ false = false_from_ne_true _ (λ same. let e : (w.k ∷ folder) ≡ w.n ∷ folder = same_path-true (w.k ∷ folder) (w.n ∷ folder) same in w.apart cc) in
          let change : change_of (current log) (Rename part target) d.time ≡ Moves g w.k g w.n w.i (find (current log) (w.n ∷ folder)) =
          ap (λ q. change_of (current log) (Rename q target) d.time) w.part_is
          ∙ (ap (λ q. change_of (current log) (Rename (w.k ∷ folder) q) d.time) w.target_is
          ∙ (ap (λ x. cond x Nothing (Moves g w.k g w.n (found_node (current log) (w.k ∷ folder)) (find (current log) (w.n ∷ folder)))) other
          ∙ ap (λ k. Moves g w.k g w.n k (find (current log) (w.n ∷ folder))) (ap (λ o. unwrap_or o 0) leads_here))) in
          subst (λ (x : CallLog). WaitsIf name up x F) (sym (d.is ∙ ap (with_change log) change))
          (waits_placed name up log r.tree folder g last.folder w.k w.i part_there w.file (r.bare w.i w.leads) E F here f r.waits w.n (find (current log) (w.n ∷ folder)) w.apart)

  -- a full part is placed
  pub placed : (log now : CallLog) (mode : ℕ) → Ready log → AllDone log (placing mode part target) (Some now) → WaitsIf name up now F
  placed log now mode r rows = by (part_mode mode == mode) rows
    where
      tail : (from : CallLog) → Ready from → AllDone from (SyncFile part ∷ Rename part target ∷ []) (Some now) → WaitsIf name up now F
      tail from r (mid, sync, moved) = renamed mid now (then_synced from mid sync r) (row_done mid now (Rename part target) moved)

      by : (b : Bool) → AllDone log (if◌then◌else◌ b [] (SetMode part mode ∷ []) ++ SyncFile part ∷ Rename part target ∷ []) (Some now) → WaitsIf name up now F
      by true rows = tail log r rows
      by false (mid, set, later) = tail mid (then_moded log mid mode set r) later

  -- it is removed
  pub removed : (log now : CallLog) → IsOfFiles log → Ready log → Performs {A = Unit {0}} log (RemoveFile part) (Ok tt) (Some now) → WaitsIf name up now F
  removed log now files r h = at (removable (current log) part r.tree d.permits)
    where
      d : IsDoneCall log (RemoveFile part) now
      d = done_call log (RemoveFile part) now h

      w : IsAtWork (current log) l.inner.copy.target (let q : Levels = passed_levels false l in coming item_name q.inner.names q.around) part target
      w = let item = r.item in item.work

      at : IsRemovable (current log) part → WaitsIf name up now F
      at x =
          let leads_there : find (current log) (x.name ∷ x.up) ≡ Some x.i = rw x.folder x.leads in
          let change : change_of (current log) (RemoveFile part) d.time ≡ Removes x.f x.name x.i =
          ap (λ q. change_of (current log) (RemoveFile q) d.time) x.path_is
          ∙ (ap (λ g. Removes g x.name (found_node (current log) (x.name ∷ x.up))) (ap (λ o. unwrap_or o 0) x.folder) ∙ ap (λ k. Removes x.f x.name k) (ap (λ o. unwrap_or o 0) leads_there)) in
          let beside : (x.name ∷ x.up) ≡ w.k ∷ l.inner.copy.target = sym x.path_is ∙ w.part_is in
          let within : x.up ≡ l.inner.copy.target = cc in
          subst (λ (y : CallLog). WaitsIf name up y F) (sym (d.is ∙ ap (with_change log) change))
          (waits_removed name up log r.tree x.up x.f x.folder x.name x.i x.leads x.no_folder (files.bare x.i name x.no_folder) E F (λ same. here (same ∙ within)) f r.waits)

-- a folder is synced
pub folder_synced : (name : List ℕ) (up : Route) (log now : CallLog) (target : Route) (E F : Type 0) → AllDone log (SyncFolder target ∷ []) (Some now) → (E → (up ≡ target) ⊎ F) → WaitsIf name up log E → WaitsIf name up now F
folder_synced name up log now target E F rows f h =
    let d = done_call log (SyncFolder target) now (row_done log now (SyncFolder target) rows) in
    subst (λ (x : CallLog). WaitsIf name up x F) (sym d.is) (waits_synced name up log target (found_node (current log) target) E F (sync_finds (current log) target d.permits) f h)
