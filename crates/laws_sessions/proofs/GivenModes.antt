-- The mode that a copied folder is to be given is its source's: after each step, skip and retry.
use Rattle.std.proofs.Common.{◌≡◌, ◌++◌, ℕ, suc, zero, Bool, true, false, List, [], ◌∷◌, refl, sym, ◌∙◌, ap, subst, inl, inr, Option, Some, None}
use Rattle.std.specs.Prelude.{◌==◌, if◌then◌else◌}
use Rattle.std.specs.Option.{option_map}
use Rattle.mc_text.specs.Routes.{Route}
use Rattle.tree_trait.specs.Change.{CallLog, current, found_node}
use Rattle.tree_trait.specs.FileSystem.{Value, View, node, value}
use Rattle.tree_trait.proofs.Walking.{stat-found}
use Rattle.job_reports.specs.declared.job.Pair.{Pair}
use Rattle.job_reports.specs.declared.report.Cause.{Cause}
use Rattle.job_reports.specs.declared.report.Did.{Did}
use Rattle.copy_file.specs.Copying as file
use Rattle.copy_file.specs.Copying.{Copying}
use Rattle.copy_link.specs.LinkCopying as link
use Rattle.copy_link.specs.LinkCopying.{LinkCopying}
use Rattle.copy_folders.specs.FolderCopying.{FolderCopying, Tells, closing, copying, folder_mode, owed_mode, skipped_stage}
use Rattle.copy_folders.specs.FolderSteps as folder
use Rattle.copy_folders.specs.declared.stage.FolderDid.{FolderDid}
use Rattle.copy_folders.specs.declared.stage.FolderDid.TheVariants as folder_did
use Rattle.copy_folders.specs.declared.stage.NamesState.TheVariants.{Synced}
use Rattle.copy_folders.specs.declared.stage.Stage.{Stage}
use Rattle.copy_folders.specs.declared.stage.Stage.TheVariants as at
use Rattle.tree_walk.specs.Places.{opened_folder}
use Rattle.copy_folders.specs.declared.level.Level.{Level}
use Rattle.copy_folders.specs.Levels.{Levels, dirtied_levels, level, made_levels, passed_levels}
use Rattle.copy_tree.specs.declared.item.ItemAtWork.{ItemAtWork}
use Rattle.copy_tree.specs.declared.item.ItemAtWork.TheVariants.{Next, File, Link, Stays}
use Rattle.copy_tree.specs.declared.progress.Progress.{Progress}
use Rattle.copy_tree.specs.declared.progress.Progress.TheVariants.{UnderWay, Decided, Anew}
use Rattle.copy_tree.specs.InPlace.{AreMoved, owed_of}
use Rattle.copy_tree.specs.Progress.{link_progress, progress}
use Rattle.copy_tree.specs.Skipping.{SkipsAt, SkipsNamed, SkipsRest, retried_at}
use Rattle.copy_tree.specs.Standing.{Seen}
use Rattle.copy_tree.specs.TreeCopySteps.{FolderEnds, LeavesAll, LinkWorks, SyncsAround, TakesFolder, TakesNext, WorksOn, at_end, idle, link_begun, noted_copy, copy_after_progress}
use Rattle.job_answers.specs.declared.replies.Replies.{Replies}
use Rattle.laws_sessions.proofs.FileMoves.{FileMoves, taken_moves, worked_moves}
use Rattle.laws_sessions.proofs.TreeSteps.{closing_not}
use Rattle.laws_sessions.proofs.OwedModes.{AllOwe, OwedModes, OwesSource, ShowsTree}

module _ (v : View) where
  abbrev Owe : Levels → Type 0
  Owe l = AllOwe v l.inner l.around

  pub inner_owes : (inner : Level) (around : List Level) → AllOwe v inner around → OwesSource v inner
  inner_owes inner [] h = h
  inner_owes inner (outer ∷ around) h = h.0

  -- the innermost folder is another level, that owes what it owed or nothing
  owe_inner : (old new : Level) (around : List Level) → (OwesSource v old → OwesSource v new) → AllOwe v old around → AllOwe v new around
  owe_inner old new [] goes h = goes h
  owe_inner old new (outer ∷ around) goes h = (goes h.0, h.1)

  as_owed : (old new : Level) → new.copy.source ≡ old.copy.source → ((mode : ℕ) → owed_of new.copy.stage ≡ Some mode → owed_of old.copy.stage ≡ Some mode) → OwesSource v old → OwesSource v new
  as_owed old new same owed h mode is = subst (λ q. (x : Value) × ((v q).value ≡ Some x) × (x.mode ≡ mode)) (sym same) (h mode (owed mode is))

  owe_dirtied : (changed : Bool) (l : Levels) → Owe l → Owe (dirtied_levels changed l)
  owe_dirtied true l h = owe_inner l.inner _ l.around (λ o. o) h
  owe_dirtied false l h = owe_inner l.inner _ l.around (λ o. o) h

  owe_passed : (left : Bool) (l : Levels) → Owe l → Owe (passed_levels left l)
  owe_passed left l h = owe_inner l.inner _ l.around (λ o. o) h

  settled_owe : (p : Progress) (item : ItemAtWork) (c : Seen) → OwedModes v c → OwedModes v (copy_after_progress p item c)
  settled_owe UnderWay item c h = h
  settled_owe Decided item c h = owe_passed false c.levels h
  settled_owe Anew item c h = h

  closing_same : (stage : Stage) → owed_of (closing stage) ≡ owed_of stage
  closing_same (at.Make mode) = refl
  closing_same (at.Fill owed) = refl
  closing_same (at.Close owed) = refl
  closing_same at.Done = refl

  pub closed_owe : (c : Seen) → OwedModes v c → OwedModes v (at_end c)
  closed_owe c h = owe_inner c.levels.inner _ c.levels.around (λ o mode is. o mode (sym (closing_same c.levels.inner.copy.stage) ∙ is)) h

  skipped_owed : (stage : Stage) (mode : ℕ) → owed_of (skipped_stage stage) ≡ Some mode → owed_of stage ≡ Some mode
  skipped_owed (at.Make other) mode is = absurd (let f : ⊥ = cc in f)
  skipped_owed (at.Fill owed) mode is = is
  skipped_owed (at.Close owed) mode is = absurd (let f : ⊥ = cc in f)
  skipped_owed at.Done mode is = is

  pub leaves_owe : (n : ℕ) (old mid : Seen) → LeavesAll n old mid → OwedModes v old → OwedModes v mid
  leaves_owe zero old mid is h = subst (OwedModes v) (sym is) h
  leaves_owe (suc n) old mid (last, all, none, one) h =
      let r = one.returns in
      let left = r.left in
      let k = closed_owe last (leaves_owe n old last all h) in
      (subst (AllOwe v (let c : Seen = at_end last in c.levels.inner)) left.was k).1

  -- a step at a folder leaves it owing what it owed, or nothing
  folder_owed : (c moved : FolderCopying) (report : FolderDid) → Tells c report moved → ((other : ℕ) → c.stage ≡ at.Make other → ⊥) → (moved.source ≡ c.source) × ((mode : ℕ) → owed_of moved.stage ≡ Some mode → owed_of c.stage ≡ Some mode)
  folder_owed c moved (folder_did.Made path) (mode, stage, path_is, new_is) made = absurd (made mode stage)
  folder_owed c moved (folder_did.Set path) (mode, stage, path_is, new_is) made =
      (ap (λ (x : FolderCopying). x.source) new_is, λ other is. absurd (let e : (let o : Option ℕ = None in o) ≡ Some other = sym (ap (λ (x : FolderCopying). owed_of x.stage) new_is) ∙ is in let f : ⊥ = cc in f))
  folder_owed c moved folder_did.Barrier (stage, dirty, new_is) made = (ap (λ (x : FolderCopying). x.source) new_is, λ mode is. sym (ap (λ (x : FolderCopying). owed_of x.stage) new_is) ∙ is)
  folder_owed c moved folder_did.Closed (stage, synced, new_is) made =
      (ap (λ (x : FolderCopying). x.source) new_is, λ other is. absurd (let e : (let o : Option ℕ = None in o) ≡ Some other = sym (ap (λ (x : FolderCopying). owed_of x.stage) new_is) ∙ is in let f : ⊥ = cc in f))
  folder_owed c moved (folder_did.Troubled trouble) (barrier, new_is) made = (ap (λ (x : FolderCopying). x.source) new_is, λ mode is. sym (ap (λ (x : FolderCopying). owed_of x.stage) new_is) ∙ is)

  -- a folder that is made owes its source's mode, or none
  owed_is : (mode other : ℕ) → owed_mode mode ≡ Some other → other ≡ mode
  owed_is mode other is = by (folder_mode mode == mode) is
    where
      by : (b : Bool) → (if b then None else Some mode) ≡ Some other → other ≡ mode
      by true none = absurd (let f : ⊥ = cc in f)
      by false some = cc

  made_owes : (source target : Route) (mode : ℕ) (moved : FolderCopying) (report : FolderDid) → Tells (copying source target (at.Make mode) Synced) report moved → (owed : Option ℕ) → moved.stage ≡ at.Fill owed → (owed ≡ owed_mode mode) × (moved.source ≡ source)
  made_owes source target mode moved (folder_did.Made path) (mode_now, stage, path_is, new_is) owed is =
      let same : mode ≡ mode_now = (let e : at.Make mode ≡ at.Make mode_now = stage in cc) in
      let staged : at.Fill owed ≡ at.Fill (owed_mode mode_now) = sym is ∙ ap (λ (x : FolderCopying). x.stage) new_is in
      let owes : owed ≡ owed_mode mode_now = cc in
      (owes ∙ ap owed_mode (sym same), ap (λ (x : FolderCopying). x.source) new_is)
  made_owes source target mode moved (folder_did.Troubled trouble) (barrier, new_is) owed is = absurd (let e : at.Fill owed ≡ at.Make mode = sym is ∙ ap (λ (x : FolderCopying). x.stage) new_is in let f : ⊥ = cc in f)
  made_owes source target mode moved (folder_did.Set path) (mode_now, stage, path_is, new_is) owed is = absurd (let f : ⊥ = cc in f)
  made_owes source target mode moved folder_did.Barrier (stage, dirty, new_is) owed is = absurd (let f : ⊥ = cc in f)
  made_owes source target mode moved folder_did.Closed (stage, synced, new_is) owed is = absurd (let f : ⊥ = cc in f)

  -- what a folder that is made at this place shows of its source
  abbrev OwesNew : Pair → ℕ → Type 0
  OwesNew pair mode = (x : Value) × ((v pair.source).value ≡ Some x) × (x.mode ≡ mode)

  -- the copy of a file or a link at work is no folder's
  module _ (unclaimed : Route → Type 0) (old new : Seen) (did : Did) (before after : Option CallLog) (h : OwedModes v old) where
    pub file_owes : (f : Copying) → FileMoves unclaimed f old new did before after → OwedModes v new
    file_owes f w = let m = w.moved in subst (OwedModes v) (sym w.stands) (settled_owe (progress m.stage) (File m) (noted_copy did (file.is_dirty m.folder) (idle old)) (owe_dirtied (file.is_dirty m.folder) old.levels h))

    pub link_owes : (l : LinkCopying) → LinkWorks l old new did before after → OwedModes v new
    link_owes l w = let m = w.moved in subst (OwedModes v) (sym w.stands) (settled_owe (link_progress m.stage) (Link m) (noted_copy did (link.is_dirty m.folder) (idle old)) (owe_dirtied (link.is_dirty m.folder) old.levels h))

  module _ (unclaimed : Route → Type 0) (replies : Replies) (old new : Seen) (did : Did) (log now : CallLog) (shows : ShowsTree v log) (h : OwedModes v old) where
    stays : new ≡ old → OwedModes v new
    stays is = subst (OwedModes v) (sym is) h

    made_at : (pair : Pair) (names : List (List ℕ)) (mode : ℕ) (moved : FolderCopying) (report : FolderDid) → Tells (copying pair.source pair.target (at.Make mode) Synced) report moved → OwesNew pair mode → (stage : Stage) → moved.stage ≡ stage
        → Owe (made_levels stage (opened_folder pair.source names) moved old.levels)
    made_at pair names mode moved report tells source (at.Fill owed) is =
        let m = made_owes pair.source pair.target mode moved report tells owed is in (
          λ other owes.
              let same : other ≡ mode = owed_is mode other (sym m.0 ∙ (sym (ap owed_of is) ∙ owes)) in
              subst (λ q. (x : Value) × ((v q).value ≡ Some x) × (x.mode ≡ other)) (sym m.1) (source.0, source.1, source.2 ∙ sym same),
          owe_inner old.levels.inner _ old.levels.around (λ o. o) h,
        )
    made_at pair names mode moved report tells source (at.Make other) is = h
    made_at pair names mode moved report tells source (at.Close owed) is = h
    made_at pair names mode moved report tells source at.Done is = h

    makes_owe : TakesFolder replies old new did (Some log) (Some now) → OwedModes v new
    makes_owe t =
        let w = t.works in
        let is = t.is log refl in
        let source = is.0 in
        let node_is = node (current log) (found_node (current log) t.pair.source) in
        let shown : (v t.pair.source).value ≡ Some (value node_is) = sym (shows t.pair.source) ∙ ap (option_map (λ i. value (node (current log) i))) (stat-found (current log) t.pair.source source.0) in
        subst (OwedModes v) (sym w.stands) (let m = w.moved in made_at t.pair t.names t.mode m w.report w.tells (value node_is, shown, sym is.3) m.stage refl)

    ends_owe : ((other : ℕ) → old.levels.inner.copy.stage ≡ at.Make other → ⊥) → FolderEnds (at_end old) new did (Some log) (Some now) → OwedModes v new
    ends_owe made e =
        let f = folder_owed (let c = at_end old in c.levels.inner.copy) e.moved e.report e.tells (closing_not old.levels.inner.copy.stage made) in
        subst (OwedModes v) (sym e.stands) (owe_inner (let c = at_end old in c.levels.inner) (level old.levels.inner.names e.moved) old.levels.around (λ o. as_owed (let c = at_end old in c.levels.inner) (level old.levels.inner.names e.moved) f.0 f.1 o) (closed_owe old h))

    takes_owe : ((other : ℕ) → old.levels.inner.copy.stage ≡ at.Make other → ⊥) → TakesNext unclaimed replies old new did (Some log) (Some now) → OwedModes v new
    takes_owe made (inl s) = stays s.stands
    takes_owe made (inr (inl t)) = file_owes unclaimed old new did (Some log) (Some now) h (file.begun_copy old.job t.pair.source t.pair.target) (taken_moves unclaimed replies old new did (Some log) (Some now) t)
    takes_owe made (inr (inr (inl t))) = link_owes unclaimed old new did (Some log) (Some now) h (link_begun t.pair t.part) t.works
    takes_owe made (inr (inr (inr (inl t)))) = makes_owe t
    takes_owe made (inr (inr (inr (inr (inl t))))) = subst (OwedModes v) (sym t.stands) (owe_passed false old.levels h)
    takes_owe made (inr (inr (inr (inr (inr (inl t)))))) = subst (OwedModes v) (sym t.stands) (owe_passed false old.levels h)
    takes_owe made (inr (inr (inr (inr (inr (inr (inl t))))))) = stays t.stands
    takes_owe made (inr (inr (inr (inr (inr (inr (inr (next, inl (debt, e))))))))) = ends_owe made e
    takes_owe made (inr (inr (inr (inr (inr (inr (inr (next, inr (debt, f, same))))))))) = subst (OwedModes v) (sym f.stands) (closed_owe old h)

    syncs_owe : SyncsAround old new did (Some log) (Some now) → OwedModes v new
    syncs_owe s =
        let was : AllOwe v old.levels.inner (s.outer ∷ s.around) = subst (AllOwe v old.levels.inner) s.was h in
        subst (OwedModes v) (sym s.stands) (was.0, owe_inner s.outer (level s.outer.names (record s.outer.copy { names = s.names })) s.around (λ o. o) was.1)

    pub works_owe : ((other : ℕ) → old.levels.inner.copy.stage ≡ at.Make other → ⊥) → (item : ItemAtWork) → WorksOn item unclaimed replies old new did (Some log) (Some now) → OwedModes v new
    works_owe made Next (inl s) = syncs_owe s
    works_owe made Next (inr takes) = takes_owe made takes.1
    works_owe made (File f) w = file_owes unclaimed old new did (Some log) (Some now) h f (worked_moves unclaimed f old new did (Some log) (Some now) w)
    works_owe made (Link l) w = link_owes unclaimed old new did (Some log) (Some now) h l w
    works_owe made (Stays part) w = absurd w

  module _ (cause : Cause) (old new : Seen) (did : Did) (h : OwedModes v old) where
    end_owed : (c moved : FolderCopying) → folder.Skips cause c did moved → (moved.source ≡ c.source) × ((mode : ℕ) → owed_of moved.stage ≡ Some mode → owed_of c.stage ≡ Some mode)
    end_owed c moved (inl s) = (ap (λ (x : FolderCopying). x.source) s.1, λ mode is. skipped_owed c.stage mode (sym (ap (λ (x : FolderCopying). owed_of x.stage) s.1) ∙ is))
    end_owed c moved (inr room) = (ap (λ (x : FolderCopying). x.source) room.1, λ mode is. sym (ap (λ (x : FolderCopying). owed_of x.stage) room.1) ∙ is)

    rest_owe : SkipsRest cause old did new → OwedModes v new
    rest_owe (inl s) = subst (OwedModes v) (sym s.1) (owe_inner old.levels.inner _ old.levels.around (λ o. o) h)
    rest_owe (inr room) = subst (OwedModes v) (sym room.1) h

    named_owe : (names : List (List ℕ)) → SkipsNamed names cause old did new → OwedModes v new
    named_owe [] (moved, skips, stands) =
        let e = end_owed old.levels.inner.copy moved skips in
        subst (OwedModes v) (sym stands) (owe_inner old.levels.inner (level old.levels.inner.names moved) old.levels.around (λ o. as_owed old.levels.inner (level old.levels.inner.names moved) e.0 e.1 o) h)
    named_owe (name ∷ names) (inl s) = subst (OwedModes v) (sym s.1) (owe_passed true old.levels h)
    named_owe (name ∷ names) (inr (inl rest)) = rest_owe rest.1
    named_owe (name ∷ names) (inr (inr room)) = subst (OwedModes v) (sym room.1) h

    pub skips_owe : (item : ItemAtWork) → SkipsAt item cause old did new → OwedModes v new
    skips_owe Next s = named_owe old.levels.inner.names.names s
    skips_owe (File f) (moved, skips, stands) = subst (OwedModes v) (sym stands) (settled_owe (progress moved.stage) (File moved) (idle old) h)
    skips_owe (Link l) (moved, skips, stands) = subst (OwedModes v) (sym stands) (settled_owe (link_progress moved.stage) (Link moved) (idle old) h)
    skips_owe (Stays part) s = absurd s

  pub retries_owe : (item : ItemAtWork) (c : Seen) → OwedModes v c → OwedModes v (retried_at item c)
  retries_owe Next c h = h
  retries_owe (File f) c h = settled_owe _ _ (idle c) h
  retries_owe (Link l) c h = settled_owe _ _ (idle c) h
  retries_owe (Stays part) c h = h

-- another view that shows the same of what is copied
pub other_owes : (top : Pair) (v w : View) → ((rest : Route) → (w (rest ++ top.source)).value ≡ (v (rest ++ top.source)).value) → (inner : Level) (around : List Level) → AreMoved top inner around → AllOwe v inner around → AllOwe w inner around
other_owes top v w same inner [] lies h = λ mode is. absurd (let e : (let o : Option ℕ = None in o) ≡ Some mode = sym lies.keeps ∙ is in let f : ⊥ = cc in f)
other_owes top v w same inner (outer ∷ around) lies h =
    let m = lies.0 in (
      λ mode is. (let o = h.0 mode is in (o.0, ap (λ q. (w q).value) m.from ∙ (same m.rest ∙ (sym (ap (λ q. (v q).value) m.from) ∙ o.1)), o.2)),
      other_owes top v w same outer around lies.1 h.1,
    )
