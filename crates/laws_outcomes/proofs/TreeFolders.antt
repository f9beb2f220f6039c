-- What a copy of folders has done after a step at a folder itself.
use Rattle.std.proofs.Common.{◌≡◌, ◌⊎◌, ℕ, Bool, true, false, List, [], ◌∷◌, ◌++◌, refl, sym, ◌∙◌, ap, subst, inl, inr, Option, Some, None}
use Rattle.std.specs.Prelude.{IsSome, bit_or, drop, option_and_then, ◌==◌, if◌then◌else◌}
use Rattle.std.specs.Option.{option_map}
use Rattle.std.proofs.lemmas.Bool.{both_ways, eqb-true}
use Rattle.std.proofs.lemmas.List.{append_assoc, append_cancel_right}
use Rattle.mc_text.specs.Routes.{Route, is_prefix}
use Rattle.mc_text.specs.declared.kind.Kind.{Kind}
use Rattle.mc_text.specs.declared.kind.Kind.TheVariants as kind
use Rattle.tree_trait.specs.Change.{CallLog, current, found_node}
use Rattle.tree_trait.specs.CrashImages.{Among}
use Rattle.tree_trait.specs.FileSystem.{Value, View, find, lookup, node, value}
use Rattle.tree_trait.specs.Shape.{IsTree}
use Rattle.tree_trait.proofs.Walking.{stat-found}
use Rattle.laws_crash.proofs.Tops.{none_below}
use Rattle.job_answers.specs.declared.replies.Replies.{Replies}
use Rattle.job_reports.specs.Jobs.{Copies}
use Rattle.job_reports.specs.declared.job.Pair.{Pair}
use Rattle.job_reports.specs.declared.report.Did.{Did}
use Rattle.job_reports.specs.declared.report.Did.TheVariants as common
use Rattle.job_reports.proofs.PermittedCalls.{stat_missing}
use Rattle.copy_folders.specs.FolderCopying.{FolderCopying, Tells, copying, folder_mode, owed_mode}
use Rattle.copy_folders.specs.FolderSteps.{at_sync}
use Rattle.copy_folders.specs.declared.stage.FolderDid.{FolderDid}
use Rattle.copy_folders.specs.declared.stage.FolderDid.TheVariants as folder_did
use Rattle.copy_folders.specs.declared.stage.NamesState.TheVariants.{Synced, Dirty}
use Rattle.copy_folders.specs.declared.stage.Stage.TheVariants as at
use Rattle.tree_walk.specs.Places.{opened_folder, without_next}
use Rattle.copy_folders.specs.declared.level.Level.{Level}
use Rattle.copy_folders.specs.Levels.{Levels, level, made_levels}
use Rattle.copy_tree.specs.declared.item.ItemAtWork.TheVariants.{Next}
use Rattle.copy_tree.specs.declared.looking.Taken.TheVariants as taken
use Rattle.copy_tree.specs.InPlace.{IsMoved}
use Rattle.copy_tree.specs.Reports.{IsToldAs}
use Rattle.copy_tree.specs.Standing.{Seen, after_report}
use Rattle.copy_tree.specs.TreeCopySteps.{FolderMakes, SyncsAround}
use Rattle.copy_tree.specs.Taking.{IsTaken}
use Rattle.session_entries.specs.Moves.{moved_from}
use Rattle.laws_sessions.specs.Replayed.{copied_folder, new_folder, replayed_step}
use Rattle.laws_sessions.proofs.Intact.{prefix_append, prefix_way}
use Rattle.laws_sessions.proofs.Moved.{moved_below}
use Rattle.laws_sessions.proofs.OwedModes.{ShowsTree}
use Rattle.laws_outcomes.specs.Outcomes.{as_copied, copied_as}
use Rattle.laws_outcomes.proofs.Accounts.{AreOpened, IsAccounted, IsCopy, IsDue, IsNext, IsOpened, IsPending, ItemDone, TreeDone, apart_from, passed_at, put_same, put_value}
use Rattle.laws_outcomes.proofs.FileWork.{none_shown, self_prefix, some_shown}
use Rattle.laws_outcomes.proofs.TreeLevels.{IsChanged, copy_changed, opened_changed, opened_inner, pending_map, same_rest, source_of}

-- the last name of a path below another, which stands in that
last_of : (name : List ℕ) (rest : Route) → (last : List ℕ) × (prefix : Route) × (name ∷ rest ≡ prefix ++ last ∷ [])
last_of name [] = (name, [], refl)
last_of name (more ∷ rest) = let r = last_of more rest in (r.0, name ∷ r.1, ap (λ (q : Route). name ∷ q) r.2)

not_empty : (prefix : Route) (last : List ℕ) → prefix ++ last ∷ [] ≡ [] → ⊥
not_empty [] last e = (let f : ⊥ = cc in f)
not_empty (name ∷ prefix) last e = (let f : ⊥ = cc in f)

-- a folder all names of which can be shown is copied with its mode
pub folder_copied : (k : Kind) (x : Value) → k ≡ kind.Folder → x.unnamed ≡ 0 → copied_as k x ≡ record new_folder { mode = x.mode }
folder_copied kind.Folder x is named = ap (λ n. (let y : Value = record new_folder { mode = x.mode; unnamed = n } in y)) named
folder_copied kind.File x is named = absurd (let f : ⊥ = cc in f)
folder_copied kind.Link x is named = absurd (let f : ⊥ = cc in f)
folder_copied kind.Other x is named = absurd (let f : ⊥ = cc in f)

module _ (now : CallLog) (v : View) (passed : List Route) (top : Pair) where
  abbrev Then : Did → View
  Then did = replayed_step now did (Some (Copies top.source top.target)) v

  pub comes_from : (source target : Route) → IsMoved top source target → moved_from top.source top.target target ≡ source
  comes_from source target m = ap (moved_from top.source top.target) m.to ∙ (moved_below top.source top.target m.rest ∙ sym m.from)

  pub on_target : (source target : Route) → IsMoved top source target → is_prefix top.target target ≡ true
  on_target source target m = subst (λ p. is_prefix top.target p ≡ true) (sym m.to) (prefix_append top.target m.rest)

  -- a folder is made
  module _ (old : Seen) (h : TreeDone v passed top old) (log : CallLog) (tree : IsTree (current log)) (shows : ShowsTree v log) (source target : Route) (m : IsMoved top source target) (next : IsNext old.levels.inner source)
      (names : List (List ℕ)) (mode : ℕ) (alone : Bool) (replies : Replies) (is : IsTaken (current log) alone replies (record { source = source; target = target }) (taken.Folder names mode)) where
    abbrev w : View
    w = Then (common.Made target)

    abbrev x : Value
    x = value (node (current log) (found_node (current log) source))

    abbrev made : FolderCopying
    made = record { source = source; target = target; stage = at.Fill (owed_mode mode); names = Synced }

    abbrev inner : Level
    inner = level (opened_folder source names) made

    abbrev outer : Level
    outer = level (without_next old.levels.inner.names) (record old.levels.inner.copy { names = Dirty })

    named : x.unnamed ≡ 0
    named = let l = is.2 in let listing = l.1 in sym listing.unnamed

    stands : (v source).value ≡ Some x
    stands = some_shown v log tree shows source is.0.0

    free : (rest : Route) → (v (rest ++ target)).value ≡ None
    free rest = none_shown v log tree shows (rest ++ target) (none_below log rest target (stat_missing (current log) target is.1))

    change : IsChanged v w top.target target
    change = record { same = λ p off. put_same v target _ p off; on = on_target source target m }

    value_made : (w target).value ≡ Some (record new_folder { mode = bit_or mode 0o700 })
    value_made =
        put_value v target _
        ∙ (ap (λ p. Some (copied_folder (v p).value)) (comes_from source target m)
        ∙ (ap (λ o. Some (copied_folder o)) stands
        ∙ ap (λ n. (let o : Option Value = Some (record new_folder { mode = bit_or n 0o700 }) in o)) (sym is.3)))

    -- the folder itself: its mode is owed, or it has it
    itself : (b : Bool) → (folder_mode mode == mode) ≡ b → is_prefix top.target source ≡ false → IsAccounted w passed inner (outer ∷ old.levels.around) source target
    itself false other off = inr (inl (inl (inr (mode, ap (λ b. (let o : Option ℕ = if b then None else Some mode in o)) other, refl))))
    itself true same off = inr (inr (
        value_made
        ∙ (ap (λ n. (let o : Option Value = Some (record new_folder { mode = n }) in o)) (eqb-true (folder_mode mode) mode same ∙ is.3)
        ∙ (ap Some (sym (folder_copied x.kind x is.0.1 named))
        ∙ ap (option_map as_copied) (sym (change.same source (apart_from top.target source target off change.on) ∙ stands))))))

    -- what lies in it is met, or isn't there
    within : (last : List ℕ) (prefix : Route) (o : Option ℕ) → lookup (let s = current log in s.names) (found_node (current log) source) last ≡ o → (p t : Route) → p ≡ prefix ++ last ∷ source → t ≡ prefix ++ last ∷ target → is_prefix top.target p ≡ false
        → IsAccounted w passed inner (outer ∷ old.levels.around) p t
    within last prefix (Some i) there p t p_is t_is off = inr (inl (inl (inl (
      last,
      (let l = is.2 in let names_of = l.1 in (names_of.names last).1 (subst IsSome (sym there) refl)),
      subst (λ q. is_prefix (last ∷ source) q ≡ true) (sym p_is) (prefix_append (last ∷ source) prefix),
    ))))
    within last prefix None there p t p_is t_is off = inr (inr (copy_changed v w top target change p t off other none))
      where
        other : t ≡ target → ⊥
        other same =
            let shape : prefix ++ last ∷ target ≡ [] ++ target = sym t_is ∙ same in
            let lists : (prefix ++ last ∷ []) ++ target ≡ [] ++ target = append_assoc prefix (last ∷ []) target ∙ shape in
            not_empty prefix last (append_cancel_right (prefix ++ last ∷ []) [] target lists)

        none : IsCopy v p t
        none =
            let lost : find (current log) (last ∷ source) ≡ None = ap (option_and_then (λ f. lookup (let s = current log in s.names) f last)) (stat-found (current log) source is.0.0) ∙ there in
            ap (λ q. (v q).value) (t_is ∙ sym (append_assoc prefix (last ∷ []) target))
            ∙ (free (prefix ++ last ∷ [])
            ∙ ap (option_map as_copied) (sym (ap (λ q. (v q).value) p_is ∙ none_shown v log tree shows (prefix ++ last ∷ source) (none_below log prefix (last ∷ source) lost))))

    below : (q rest : Route) → rest ++ top.source ≡ q ++ source → is_prefix top.target (rest ++ top.source) ≡ false → IsAccounted w passed inner (outer ∷ old.levels.around) (rest ++ top.source) (rest ++ top.target)
    below [] rest p_is off =
        let t_is = same_rest top source target rest [] m p_is in
        subst (λ p. IsAccounted w passed inner (outer ∷ old.levels.around) p (rest ++ top.target)) (sym p_is)
        (subst (λ t. IsAccounted w passed inner (outer ∷ old.levels.around) source t) (sym t_is)
        (itself (folder_mode mode == mode) refl (subst (λ p. is_prefix top.target p ≡ false) p_is off)))
    below (name ∷ q) rest p_is off =
        let r = last_of name q in
        let t_is = same_rest top source target rest (name ∷ q) m p_is in
        within r.0 r.1 (lookup (let s = current log in s.names) (found_node (current log) source) r.0) refl (rest ++ top.source) (rest ++ top.target)
        (p_is ∙ (ap (λ (z : Route). z ++ source) r.2 ∙ append_assoc r.1 (r.0 ∷ []) source))
        (t_is ∙ (ap (λ (z : Route). z ++ target) r.2 ∙ append_assoc r.1 (r.0 ∷ []) target)) off

    due_then : (path : Route) → is_prefix source path ≡ false → IsDue old.levels.inner path → IsDue outer path
    due_then path apart (inr owed) = inr owed
    due_then path apart (inl (name, among, under)) = by (subst (λ ns. Among ns name) next.2 among)
      where
        by : (name ≡ next.0) ⊎ Among next.1 name → IsDue outer path
        by (inl same) = absurd (both_ways _ apart (subst (λ p. is_prefix p path ≡ true) (ap (λ n. n ∷ old.levels.inner.copy.source) same ∙ sym next.3) under))
        by (inr later) = inl (name, subst (λ ns. Among (drop 1 ns) name) (sym next.2) later, under)

    elsewhere : (rest : Route) → is_prefix source (rest ++ top.source) ≡ false → is_prefix top.target (rest ++ top.source) ≡ false
        → IsAccounted v passed old.levels.inner old.levels.around (rest ++ top.source) (rest ++ top.target) → IsAccounted w passed inner (outer ∷ old.levels.around) (rest ++ top.source) (rest ++ top.target)
    elsewhere rest apart off (inl covered) = inl covered
    elsewhere rest apart off (inr (inl pending)) = inr (inl (inr (pending_map old.levels.inner outer old.levels.around (rest ++ top.source) (due_then (rest ++ top.source) apart) pending)))
    elsewhere rest apart off (inr (inr copy)) = inr (inr (copy_changed v w top target change (rest ++ top.source) (rest ++ top.target) off
        (λ same. both_ways _ apart (subst (λ p. is_prefix source p ≡ true) (sym (source_of top source target rest m same)) (self_prefix source))) copy))

    things : (rest : Route) → is_prefix top.target (rest ++ top.source) ≡ false → IsAccounted w passed inner (outer ∷ old.levels.around) (rest ++ top.source) (rest ++ top.target)
    things rest off = by (is_prefix source (rest ++ top.source)) refl
      where
        by : (b : Bool) → is_prefix source (rest ++ top.source) ≡ b → IsAccounted w passed inner (outer ∷ old.levels.around) (rest ++ top.source) (rest ++ top.target)
        by true under = let u = prefix_way source (rest ++ top.source) under in below u.0 rest u.1 off
        by false apart = elsewhere rest apart off (h.things rest off)

    opens : IsOpened w top.target inner
    opens = record {
      made = λ other e. (let f : ⊥ = cc in f);
      shown = λ off. record { x = x; stands = change.same source (apart_from top.target source target off change.on) ∙ stands; folder = is.0.1; named = named; mode = bit_or mode 0o700; made = value_made };
    }

    pub folder_made : (left : ℕ) (stage : Rattle.copy_tree.specs.declared.copy.Stage.Stage) → old.item ≡ Next
        → TreeDone w passed top (record old { stage = stage; levels = (let l : Levels = record { inner = inner; around = outer ∷ old.levels.around; left = left } in l) })
    folder_made left stage none = record {
      things = things;
      folders = (opens, opened_inner w top.target old.levels.inner outer old.levels.around (λ o. record { made = o.made; shown = o.shown }) (opened_changed v w top target change (free []) old.levels.inner old.levels.around h.folders));
      item = subst (λ i. ItemDone w passed top.target inner (outer ∷ old.levels.around) i) (sym none) tt;
    }

  -- the step that takes a folder up
  pub takes_folder : (old new : Seen) (did : Did) (log : CallLog) (after : Option CallLog) (pair : Pair) (names : List (List ℕ)) (mode : ℕ) (alone : Bool) (replies : Replies) → TreeDone v passed top old → IsTree (current log) → ShowsTree v log → old.item ≡ Next
      → IsMoved top pair.source pair.target → IsNext old.levels.inner pair.source → IsTaken (current log) alone replies pair (taken.Folder names mode) → FolderMakes pair names mode old new did (Some log) after
      → TreeDone (Then did) (passed_at top did passed) top new
  takes_folder old new did log after pair names mode alone replies h tree shows none m next is w =
      subst (TreeDone (Then did) (passed_at top did passed) top) (sym w.stands) (by w.report did w.says w.moved w.tells)
    where
      by : (report : FolderDid) (did : Did) → IsToldAs report did → (moved : FolderCopying) → Tells (copying pair.source pair.target (at.Make mode) Synced) report moved
          → TreeDone (Then did) (passed_at top did passed) top (record old { stage = after_report did old.stage; levels = made_levels moved.stage (opened_folder pair.source names) moved old.levels })
      by (folder_did.Made path) did says moved (mode_now, stage, path_is, new_is) =
          let same : mode ≡ mode_now = (let e : at.Make mode ≡ at.Make mode_now = stage in cc) in
          let moved_is : moved ≡ (let c : FolderCopying = record { source = pair.source; target = pair.target; stage = at.Fill (owed_mode mode); names = Synced } in c) =
          new_is ∙ ap (λ n. (let c : FolderCopying = record { source = pair.source; target = pair.target; stage = at.Fill (owed_mode n); names = Synced } in c)) (sym same) in
          subst (λ d. TreeDone (Then d) (passed_at top d passed) top (record old { stage = after_report d old.stage; levels = made_levels moved.stage (opened_folder pair.source names) moved old.levels })) (sym (says ∙ ap common.Made path_is))
          (subst (λ (c : FolderCopying). TreeDone (Then (common.Made pair.target)) passed top (record old { stage = after_report (common.Made pair.target) old.stage; levels = made_levels c.stage (opened_folder pair.source names) c old.levels })) (sym moved_is)
          (folder_made old h log tree shows pair.source pair.target m next names mode alone replies is _ (after_report (common.Made pair.target) old.stage) none))
      by (folder_did.Troubled trouble) did says moved (barrier, new_is) =
          subst (λ d. TreeDone (Then d) (passed_at top d passed) top (record old { stage = after_report d old.stage; levels = made_levels moved.stage (opened_folder pair.source names) moved old.levels })) (sym says)
          (subst (λ (c : FolderCopying). TreeDone v passed top (record old { stage = after_report (common.Troubled trouble) old.stage; levels = made_levels c.stage (opened_folder pair.source names) c old.levels })) (sym new_is)
          (record { things = h.things; folders = h.folders; item = h.item }))
      by (folder_did.Set path) did says moved (other, stage, path_is, new_is) = absurd (let f : ⊥ = cc in f)
      by folder_did.Barrier did says moved (stage, dirty, new_is) = absurd (let f : ⊥ = cc in f)
      by folder_did.Closed did says moved t = absurd says

  -- the folder around is synced
  module _ (old new : Seen) (did : Did) (before after : Option CallLog) (h : TreeDone v passed top old) (none : old.item ≡ Next) (s : SyncsAround old new did before after) where
    abbrev synced : Level
    synced = level s.outer.names (record s.outer.copy { names = s.names })

    abbrev Synced_at : Did → Seen
    Synced_at d = record old { stage = after_report d old.stage; levels = record old.levels { around = synced ∷ s.around } }

    on : (path : Route) → IsDue old.levels.inner path ⊎ IsPending s.outer s.around path → IsDue old.levels.inner path ⊎ IsPending synced s.around path
    on path (inl due) = inl due
    on path (inr p) = inr (pending_map s.outer synced s.around path (λ d. d) p)

    went : (source target : Route) → IsAccounted v passed old.levels.inner old.levels.around source target → IsAccounted v passed old.levels.inner (synced ∷ s.around) source target
    went source target (inl covered) = inl covered
    went source target (inr (inr copy)) = inr (inr copy)
    went source target (inr (inl pending)) = inr (inl (on source (subst (λ (xs : List Level). IsPending old.levels.inner xs source) s.was pending)))

    stays : (d : Did) → TreeDone v passed top (Synced_at d)
    stays d = record {
      things = λ rest off. went (rest ++ top.source) (rest ++ top.target) (h.things rest off);
      folders = (let k = subst (λ (xs : List Level). AreOpened v top.target old.levels.inner xs) s.was h.folders in (k.0, opened_inner v top.target s.outer synced s.around (λ o. record { made = o.made; shown = o.shown }) k.1));
      item = subst (λ i. ItemDone v passed top.target old.levels.inner (synced ∷ s.around) i) (sym none) tt;
    }

    by_report : (report : FolderDid) (d : Did) → IsToldAs report d → Tells (at_sync s.outer.copy) report (record (at_sync s.outer.copy) { names = s.names }) → TreeDone (Then d) (passed_at top d passed) top (Synced_at d)
    by_report folder_did.Barrier d says t = subst (λ x. TreeDone (Then x) (passed_at top x passed) top (Synced_at x)) (sym says) (stays common.Barrier)
    by_report (folder_did.Troubled trouble) d says t = subst (λ x. TreeDone (Then x) (passed_at top x passed) top (Synced_at x)) (sym says) (stays (common.Troubled trouble))
    by_report (folder_did.Made path) d says (mode, stage, path_is, new_is) = absurd (let f : ⊥ = cc in f)
    by_report (folder_did.Set path) d says (mode, stage, path_is, new_is) = absurd (let f : ⊥ = cc in f)
    by_report folder_did.Closed d says t = absurd says

    pub syncs_done : TreeDone (Then did) (passed_at top did passed) top new
    syncs_done = subst (TreeDone (Then did) (passed_at top did passed) top) (sym s.stands) (by_report s.report did s.says s.tells)
