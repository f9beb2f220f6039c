-- What is calm stays so with each step, skip and retry of a tree's copy.
use Rattle.std.proofs.Common.{◌≡◌, ◌⊎◌, ℕ, suc, zero, Bool, true, false, List, ◌∷◌, refl, sym, ◌∙◌, ap, subst, inl, inr, Option, Some, None}
use Rattle.std.proofs.lemmas.Bool.{false≢true}
use Rattle.mc_text.specs.Routes.{Route}
use Rattle.tree_trait.specs.Change.{CallLog, current}
use Rattle.job_answers.specs.declared.replies.Replies.{Replies}
use Rattle.job_reports.specs.CallRuns.{AllDone}
use Rattle.job_reports.specs.declared.job.Pair.{Pair}
use Rattle.job_reports.specs.declared.report.Did.{Did}
use Rattle.job_reports.proofs.CallAnswers.{some_log}
use Rattle.copy_file.specs.Copying as file
use Rattle.copy_file.specs.Copying.{Copying, part_at}
use Rattle.copy_file.specs.declared.stage.Stage.{Stage as FileStage}
use Rattle.copy_file.specs.declared.stage.Stage.TheVariants as file_stage
use Rattle.copy_link.specs.LinkCopying as link
use Rattle.copy_link.specs.LinkCopying.{LinkCopying}
use Rattle.copy_folders.specs.FolderCopying.{FolderCopying, Tells, copying}
use Rattle.copy_folders.specs.FolderSteps.{FolderCalls, at_sync, next_call}
use Rattle.copy_folders.specs.declared.stage.FolderDid.{FolderDid}
use Rattle.copy_folders.specs.declared.stage.FolderDid.TheVariants as folder_did
use Rattle.copy_folders.specs.declared.stage.NamesState.{NamesState}
use Rattle.copy_folders.specs.declared.stage.NamesState.TheVariants.{Synced, Dirty}
use Rattle.copy_folders.specs.declared.stage.Stage.{Stage}
use Rattle.copy_folders.specs.declared.stage.Stage.TheVariants as at
use Rattle.tree_walk.specs.Places.{opened_folder}
use Rattle.copy_folders.specs.declared.level.Level.{Level}
use Rattle.copy_folders.specs.Levels.{IsLeft, Levels, levels_closed, is_around_dirty, level, made_levels, owes, passed_levels, with_copy}
use Rattle.copy_tree.specs.declared.item.ItemAtWork.{ItemAtWork}
use Rattle.copy_tree.specs.declared.item.ItemAtWork.TheVariants.{Next, File, Link, Stays}
use Rattle.copy_tree.specs.declared.progress.Progress.{Progress}
use Rattle.copy_tree.specs.declared.progress.Progress.TheVariants.{UnderWay, Decided, Anew}
use Rattle.copy_tree.specs.Parts.{IsPartPlace}
use Rattle.copy_tree.specs.Progress.{link_progress, progress}
use Rattle.copy_tree.specs.Reports.{IsToldAs}
use Rattle.copy_tree.specs.Standing.{Seen, after_report, target_name}
use Rattle.copy_tree.specs.TreeCopySteps.{FolderEnds, FolderMakes, LeavesAll, LinkWorks, SyncsAround, TakesNext, WorksOn, at_end, idle, link_begun, noted_copy, copy_after_progress}
use Rattle.laws_sessions.proofs.FileMoves.{FileMoves, taken_moves, worked_moves}
use Rattle.laws_sessions.proofs.Resting.{stands_at}
use Rattle.laws_sessions.proofs.AtWork.{ItemKnown}
use Rattle.laws_sessions.proofs.Calm.{IsCalm, IsCalmOr, IsSetAt, IsSetIn, MayWait, PartCalm, filled_part, was_set}
use Rattle.laws_sessions.proofs.CalmChanges.{calm_map}
use Rattle.laws_sessions.proofs.CalmFiles.{AtPart, file_calm}
use Rattle.laws_sessions.proofs.CalmFolders.{SetIn, dirty_set, folder_made, folder_set, folder_synced, next_stops, set_closed, set_dirtied, set_head, set_made, set_passed, set_split}
use Rattle.laws_sessions.proofs.CalmLinks.{link_calm}
use Rattle.laws_sessions.proofs.TreeFiles.{FileKnown}
use Rattle.laws_sessions.proofs.TreeKnows.{filled_inner}
use Rattle.laws_sessions.proofs.TreeLinks.{LinkKnown}
use Rattle.laws_sessions.proofs.TreeSteps.{StepKnown, closing_not, next_of, taken_file, taken_link, worked_file, worked_link}

-- what is decided, or to be begun, has no part
none_decided : (stage : FileStage) (p : Route) → progress stage ≡ Decided → part_at stage ≡ Some p → ⊥
none_decided (file_stage.Fill part facts done) p is at = (let f : ⊥ = cc in f)
none_decided (file_stage.Clean part next) p is at = (let f : ⊥ = cc in f)
none_decided (file_stage.Left part) p is at = (let f : ⊥ = cc in f)
none_decided file_stage.Decided p is at = (let f : ⊥ = cc in f)
none_decided file_stage.Begin p is at = (let f : ⊥ = cc in f)

none_anew : (stage : FileStage) (p : Route) → progress stage ≡ Anew → part_at stage ≡ Some p → ⊥
none_anew (file_stage.Fill part facts done) p is at = (let f : ⊥ = cc in f)
none_anew (file_stage.Clean part next) p is at = (let f : ⊥ = cc in f)
none_anew (file_stage.Left part) p is at = (let f : ⊥ = cc in f)
none_anew file_stage.Decided p is at = (let f : ⊥ = cc in f)
none_anew file_stage.Begin p is at = (let f : ⊥ = cc in f)

nothing_filled : {A : Type 0} (item : ItemAtWork) (p : Route) → item ≡ Next → filled_part item ≡ Some p → A
nothing_filled item p none is = absurd (let e : (let o : Option Route = None in o) ≡ Some p = sym (ap filled_part none) ∙ is in let f : ⊥ = cc in f)

module _ (p : Route) where
  abbrev Sets : Seen → Type 0
  Sets c = SetIn p c.levels

  -- nothing is at work
  sets_alone : (c : Seen) → c.item ≡ Next → MayWait c p → Sets c
  sets_alone c none (inl is) = nothing_filled c.item p none is
  sets_alone c none (inr set) = set

  noted_sets : (did : Did) (changed : Bool) (c : Seen) → Sets c → Sets (noted_copy did changed c)
  noted_sets did changed c set = set_dirtied p changed c.levels set

  -- a file goes on, or is done with
  pub file_waits : (pr : Progress) (f : Copying) (c : Seen) → progress f.stage ≡ pr → AtPart f.stage p (Sets c) → MayWait (copy_after_progress pr (File f) c) p
  file_waits UnderWay f c is (inl at) = inl at
  file_waits UnderWay f c is (inr set) = inr set
  file_waits Decided f c is (inl at) = absurd (none_decided f.stage p is at)
  file_waits Decided f c is (inr set) = inr (set_passed p false c.levels set)
  file_waits Anew f c is (inl at) = absurd (none_anew f.stage p is at)
  file_waits Anew f c is (inr set) = inr set

  pub link_waits : (pr : Progress) (l : LinkCopying) (c : Seen) → Sets c → MayWait (copy_after_progress pr (Link l) c) p
  link_waits UnderWay l c set = inr set
  link_waits Decided l c set = inr (set_passed p false c.levels set)
  link_waits Anew l c set = inr set

  -- folders that are left were synced since they were given their modes
  not_left : (stage : Stage) (names : NamesState) → owes stage names ≡ false → was_set stage names ≡ true → ⊥
  not_left (at.Close None) names none set = (let f : ⊥ = cc in f)
  not_left (at.Close (Some mode)) names none set = false≢true set
  not_left (at.Make mode) names none set = false≢true set
  not_left (at.Fill owed) names none set = false≢true set
  not_left at.Done names none set = false≢true set

  left_sets : (old new : Levels) → IsLeft old new → owes old.inner.copy.stage old.inner.copy.names ≡ false → SetIn p old → SetIn p new
  left_sets old new left none set = by (subst (IsSetIn p old.inner) left.was set)
    where
      by : IsSetIn p old.inner (new.inner ∷ new.around) → SetIn p new
      by (inl h) = absurd (not_left old.inner.copy.stage old.inner.copy.names none h.1)
      by (inr h) = h

  pub leaves_wait : (n : ℕ) (old mid : Seen) → LeavesAll n old mid → MayWait old p → MayWait mid p
  leaves_wait zero old mid is waits = subst (λ (c : Seen). MayWait c p) (sym is) waits
  leaves_wait (suc n) old mid (last, all, none, one) waits =
      let r = one.returns in
      inr (left_sets (levels_closed last.levels) mid.levels r.left one.done (set_closed p last.levels (sets_alone last none (leaves_wait n old last all waits))))

  module _ (free : Route → Bool) (replies : Replies) (old new : Seen) (did : Did) (log now : CallLog) (known : StepKnown log old) (calm : IsCalm log old p) where
    abbrev Unclaimed : Route → Type 0
    Unclaimed = IsPartPlace free old

    abbrev Then : Type 0
    Then = IsCalm now new p

    as_new : (c : Seen) → new ≡ c → IsCalmOr p now (MayWait c p) → Then
    as_new c is so = subst (λ (x : Seen). IsCalmOr p now (MayWait x p)) (sym is) so

    same_log : (E : Type 0) → now ≡ log → IsCalmOr p log E → IsCalmOr p now E
    same_log E is so = subst (λ (x : CallLog). IsCalmOr p x E) (sym is) so

    file_works : (f : Copying) → FileKnown Unclaimed log old.name old.levels f → (filled_part old.item ≡ Some p → part_at f.stage ≡ Some p) → FileMoves Unclaimed f old new did (Some log) (Some now) → Then
    file_works f about same w =
        let m = w.moved in
        let c = noted_copy did (file.is_dirty m.folder) (idle old) in
        let before : IsCalmOr p log (AtPart f.stage p (Sets old)) = calm_map p log (MayWait old p) _ (λ e. elim e [ inl at ↦ inl (same at) | inr set ↦ inr set ]) calm in
        let after : IsCalmOr p now (AtPart m.stage p (Sets old)) = file_calm Unclaimed log now known.files old.name old.levels f about p (Sets old) before m did w.tells (w.called log refl) in
        as_new (copy_after_progress (progress m.stage) (File m) c) w.stands
        (calm_map p now (AtPart m.stage p (Sets old)) _ (λ e. file_waits (progress m.stage) m c refl (elim e [ inl at ↦ inl at | inr set ↦ inr (noted_sets did (file.is_dirty m.folder) (idle old) set) ])) after)

    link_works : (l : LinkCopying) → LinkKnown log old.name old.levels l → PartCalm log (Link l) → (filled_part old.item ≡ Some p → ⊥) → LinkWorks l old new did (Some log) (Some now) → Then
    link_works l about part none w =
        let m = w.moved in
        let c = noted_copy did (link.is_dirty m.folder) (idle old) in
        let before : IsCalmOr p log (Sets old) = calm_map p log (MayWait old p) (Sets old) (λ e. elim e [ inl at ↦ absurd (none at) | inr set ↦ set ]) calm in
        as_new (copy_after_progress (link_progress m.stage) (Link m) c) w.stands
        (calm_map p now (Sets old) _ (λ set. link_waits (link_progress m.stage) m c (noted_sets did (link.is_dirty m.folder) (idle old) set))
        (link_calm log now known.files old.name old.levels l about p (Sets old) m did w.tells (w.called log refl) part before))

    module _ (none : old.item ≡ Next) where
      alone : IsCalmOr p log (Sets old)
      alone = calm_map p log (MayWait old p) (Sets old) (sets_alone old none) calm

      -- what is at work stays so, with these open folders
      with_levels : (stage : _) (l : Levels) → new ≡ record old { stage = stage; levels = l } → IsCalmOr p now (SetIn p l) → Then
      with_levels stage l is so = as_new (record old { stage = stage; levels = l }) is (calm_map p now (SetIn p l) _ (λ set. inr set) so)

      abbrev up : Route
      up = old.levels.inner.copy.target

      -- a folder is made, or that is refused
      made_by : (pair : Pair) (names : List (List ℕ)) (mode : ℕ) (n : List ℕ) → pair.target ≡ n ∷ up → (moved : FolderCopying) (report : FolderDid) → Tells (copying pair.source pair.target (at.Make mode) Synced) report moved
          → FolderCalls (copying pair.source pair.target (at.Make mode) Synced) report log (Some now) → IsCalmOr p now (SetIn p (made_levels moved.stage (opened_folder pair.source names) moved old.levels))
      made_by pair names mode n target_is moved (folder_did.Made path) tells rows =
          folder_made p log now known.tree known.files (Sets old) _ n up pair.target _ target_is rows (set_made p moved.stage (opened_folder pair.source names) moved old.levels) alone
      made_by pair names mode n target_is moved (folder_did.Troubled trouble) tells run =
          calm_map p now (Sets old) _ (set_made p moved.stage (opened_folder pair.source names) moved old.levels) (next_stops p log now known.tree (Sets old) pair.target (at.Make mode) Synced trouble.cause trouble.path run alone)
      made_by pair names mode n target_is moved (folder_did.Set path) (mode_now, stage, path_is, new_is) rows = absurd (let f : ⊥ = cc in f)
      made_by pair names mode n target_is moved folder_did.Barrier (stage, dirty, new_is) rows = absurd (let f : ⊥ = cc in f)
      made_by pair names mode n target_is moved folder_did.Closed (stage, clean, new_is) rows = absurd (let f : ⊥ = cc in f)

      -- the innermost folder is given its mode, or synced
      abbrev c : FolderCopying
      c = let e : Seen = at_end old in e.levels.inner.copy

      closed_sets : Sets old → IsSetAt p (level old.levels.inner.names c) ⊎ ((l : Level) → IsSetIn p l old.levels.around)
      closed_sets set = set_split p (level old.levels.inner.names c) old.levels.around (set_closed p old.levels set)

      rows_at : (stage : Stage) (names : NamesState) → c.stage ≡ stage → c.names ≡ names → AllDone log (next_call c.target c.stage c.names) (Some now) → AllDone log (next_call c.target stage names) (Some now)
      rows_at stage names stage_is names_is rows =
          subst (λ x. AllDone log (next_call c.target stage x) (Some now)) names_is (subst (λ x. AllDone log (next_call c.target x c.names) (Some now)) stage_is rows)

      ends_by : is_around_dirty old.levels.around ≡ false → (moved : FolderCopying) (report : FolderDid) → IsToldAs report did → Tells c report moved → FolderCalls c report log (Some now) → IsCalmOr p now (SetIn p (with_copy moved old.levels))
      ends_by clean moved (folder_did.Made path) says (mode, stage, path_is, new_is) rows = absurd (closing_not old.levels.inner.copy.stage known.made mode stage)
      ends_by clean moved (folder_did.Set path) says (mode, stage, path_is, new_is) rows =
          let levels = known.levels in
          let filling = filled_inner (is_around_dirty old.levels.around) log up _ clean levels.inner in
          let firm = filling.firm in
          let there = stands_at (current log) up firm.stands in
          let head : p ≡ up → SetIn p (with_copy moved old.levels) = λ same. set_head p (level old.levels.inner.names moved) old.levels.around
          (subst (λ (m : FolderCopying). IsSetAt p (level old.levels.inner.names m)) (sym new_is) (sym same, refl)) in
          folder_set p log now known.tree (Sets old) _ up mode there.i there.at (rows_at (at.Close (Some mode)) c.names stage refl rows) head
          (λ set. elim (closed_sets set) [ inl h ↦ head (sym h.0) | inr other ↦ other (level old.levels.inner.names moved) ]) alone
      ends_by clean moved folder_did.Barrier says (stage, dirty, new_is) rows =
          folder_synced p log now known.tree (Sets old) _ up (rows_at (at.Close None) Dirty stage dirty rows)
          (λ set. elim (closed_sets set) [ inl h ↦ inl (sym h.0) | inr other ↦ inr (other (level old.levels.inner.names moved)) ]) alone
      ends_by clean moved folder_did.Closed says tells is = absurd says
      ends_by clean moved (folder_did.Troubled trouble) says (barrier, new_is) run =
          calm_map p now (Sets old) _ (λ set. subst (λ (m : FolderCopying). SetIn p (with_copy m old.levels)) (sym new_is) (set_closed p old.levels set))
          (next_stops p log now known.tree (Sets old) c.target c.stage c.names trouble.cause trouble.path run alone)

      -- the nearest folder around is synced
      module _ (outer : Level) (around : List Level) (was : old.levels.around ≡ outer ∷ around) where
        abbrev with_state : NamesState → Levels
        with_state names = record old.levels { around = level outer.names (record outer.copy { names = names }) ∷ around }

        around_sets : (names : NamesState) → Sets old → (IsSetAt p outer → SetIn p (with_state names)) → SetIn p (with_state names)
        around_sets names set here = by (subst (IsSetIn p old.levels.inner) was set)
          where
            by : IsSetIn p old.levels.inner (outer ∷ around) → SetIn p (with_state names)
            by (inl h) = inl h
            by (inr h) = elim (set_split p outer around h) [ inl is ↦ here is | inr other ↦ inr (other (level outer.names (record outer.copy { names = names }))) ]

        synced_sets : (names : NamesState) → Sets old → (p ≡ outer.copy.target) ⊎ SetIn p (with_state names)
        synced_sets names set = by (subst (IsSetIn p old.levels.inner) was set)
          where
            by : IsSetIn p old.levels.inner (outer ∷ around) → (p ≡ outer.copy.target) ⊎ SetIn p (with_state names)
            by (inl h) = inr (inl h)
            by (inr h) = elim (set_split p outer around h) [ inl is ↦ inl (sym is.0) | inr other ↦ inr (inr (other (level outer.names (record outer.copy { names = names })))) ]

        around_by : (names : NamesState) (report : FolderDid) → Tells (at_sync outer.copy) report (record (at_sync outer.copy) { names = names }) → FolderCalls (at_sync outer.copy) report log (Some now) → IsCalmOr p now (SetIn p (with_state names))
        around_by names folder_did.Barrier tells rows = folder_synced p log now known.tree (Sets old) _ outer.copy.target rows (synced_sets names) alone
        around_by names (folder_did.Troubled trouble) (barrier, new_is) run =
            calm_map p now (Sets old) _
            (λ set. around_sets names set (λ is. inr (set_head p (level outer.names (record outer.copy { names = names })) around
            (is.0, subst (λ n. was_set outer.copy.stage n ≡ true) (sym (ap (λ (x : FolderCopying). x.names) new_is)) (dirty_set outer.copy.stage outer.copy.names is.1)))))
            (next_stops p log now known.tree (Sets old) outer.copy.target (at.Close None) Dirty trouble.cause trouble.path run alone)
        around_by names (folder_did.Made path) (mode, stage, path_is, new_is) rows = absurd (let f : ⊥ = cc in f)
        around_by names (folder_did.Set path) (mode, stage, path_is, new_is) rows = absurd (let f : ⊥ = cc in f)
        around_by names folder_did.Closed (stage, synced, new_is) is = absurd (let f : ⊥ = cc in f)

      around_calm : SyncsAround old new did (Some log) (Some now) → Then
      around_calm s = with_levels (after_report did old.stage) (with_state s.outer s.around s.was s.names) s.stands (around_by s.outer s.around s.was s.names s.report s.tells (s.called log refl))

      makes : (pair : Pair) (names : List (List ℕ)) (mode : ℕ) (n : List ℕ) → pair.target ≡ n ∷ up → FolderMakes pair names mode old new did (Some log) (Some now) → Then
      makes pair names mode n target_is w =
          with_levels (after_report did old.stage) (let m = w.moved in made_levels m.stage (opened_folder pair.source names) m old.levels) w.stands (made_by pair names mode n target_is w.moved w.report w.tells (w.called log refl))

      ends : is_around_dirty old.levels.around ≡ false → FolderEnds (at_end old) new did (Some log) (Some now) → Then
      ends clean e = with_levels (after_report did old.stage) (with_copy e.moved old.levels) e.stands (ends_by clean e.moved e.report e.says e.tells (e.called log refl))

      takes : is_around_dirty old.levels.around ≡ false → TakesNext Unclaimed replies old new did (Some log) (Some now) → Then
      takes clean (inl s) = as_new old s.stands (same_log (MayWait old p) (some_log now log s.same) calm)
      takes clean (inr (inl t)) = file_works (file.begun_copy old.job t.pair.source t.pair.target) (taken_file free replies old new did log now known clean t) (λ at. nothing_filled old.item p none at) (taken_moves Unclaimed replies old new did (Some log) (Some now) t)
      takes clean (inr (inr (inl t))) =
          link_works (link_begun t.pair t.part) (taken_link free replies old new did log now known clean t) (λ has. absurd (false≢true has)) (λ at. nothing_filled old.item p none at) t.works
      takes clean (inr (inr (inr (inl t)))) = let n = next_of old old.levels.inner.names.names t.pair t.next in makes t.pair t.names t.mode (target_name old n.name) n.target_is t.works
      takes clean (inr (inr (inr (inr (inl t))))) =
          as_new (record old { levels = passed_levels false old.levels }) t.stands (calm_map p now (Sets old) _ (λ set. inr (set_passed p false old.levels set)) (same_log (Sets old) (some_log now log t.same) alone))
      takes clean (inr (inr (inr (inr (inr (inl t)))))) =
          as_new (record old { levels = passed_levels false old.levels }) t.stands (calm_map p now (Sets old) _ (λ set. inr (set_passed p false old.levels set)) (same_log (Sets old) (some_log now log t.same) alone))
      takes clean (inr (inr (inr (inr (inr (inr (inl t))))))) = as_new old t.stands (same_log (MayWait old p) (some_log now log t.same) calm)
      takes clean (inr (inr (inr (inr (inr (inr (inr (next, inl (debt, e))))))))) = ends clean e
      takes clean (inr (inr (inr (inr (inr (inr (inr (next, inr (debt, f, same))))))))) =
          as_new (at_end old) f.stands (calm_map p now (Sets old) _ (λ set. inr (set_closed p old.levels set)) (same_log (Sets old) (some_log now log same) alone))

    pub works_calm : (item : ItemAtWork) → old.item ≡ item → ItemKnown log old item → PartCalm log item → WorksOn item Unclaimed replies old new did (Some log) (Some now) → Then
    works_calm Next is item part (inl s) = around_calm is s
    works_calm Next is item part (inr (clean, t)) = takes is clean t
    works_calm (File f) is item part w = file_works f (worked_file free replies old new did log now known f item) (λ at. sym (ap filled_part is) ∙ at) (worked_moves Unclaimed f old new did (Some log) (Some now) w)
    works_calm (Link l) is item part w =
        link_works l (worked_link free replies old new did log now known l item) part (λ at. absurd (let e : (let o : Option Route = None in o) ≡ Some p = sym (ap filled_part is) ∙ at in let f : ⊥ = cc in f)) w
    works_calm (Stays part_left) is item part w = absurd w
