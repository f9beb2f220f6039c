-- A folder that the copy makes is what the history says of it.
use Rattle.std.proofs.Common.{◌≡◌, ℕ, Bool, List, [], ◌∷◌, refl, sym, ◌∙◌, ap, subst, inl, inr, Some, None}
use Rattle.std.specs.Prelude.{pos}
use Rattle.std.specs.Option.{option_map}
use Rattle.mc_text.specs.Routes.{Route}
use Rattle.mc_text.specs.declared.kind.Kind.TheVariants as kind
use Rattle.tree_trait.specs.declared.file_system.Node.{Node}
use Rattle.tree_trait.specs.Calls.{MakeFolder}
use Rattle.tree_trait.specs.Change.{Makes, CallLog, change_of, current, found_node, with_change}
use Rattle.tree_trait.specs.FileSystem.{Value, View, find, node, value, value_at}
use Rattle.tree_trait.specs.Refusals.{refusal_of}
use Rattle.tree_trait.specs.Shape.{IsTree}
use Rattle.tree_trait.proofs.Walking.{stat-found}
use Rattle.job_answers.specs.declared.replies.Replies.{Replies}
use Rattle.job_reports.specs.declared.report.Transfer.TheVariants.{ByCopy}
use Rattle.job_reports.specs.CallRuns.{AllDone}
use Rattle.job_reports.specs.declared.job.Pair.{Pair}
use Rattle.job_reports.specs.declared.report.Did.{Did}
use Rattle.job_reports.specs.declared.report.Did.TheVariants as common
use Rattle.job_reports.proofs.CallAnswers.{done_call}
use Rattle.job_reports.proofs.PermittedCalls.{IsMaking, making_passes}
use Rattle.copy_folders.specs.FolderCopying.{Tells, copying, folder_mode}
use Rattle.copy_folders.specs.FolderSteps.{FolderCalls, at_sync}
use Rattle.copy_folders.specs.declared.stage.FolderDid.{FolderDid}
use Rattle.copy_folders.specs.declared.stage.FolderDid.TheVariants.{Made, Set, Barrier, Closed, Troubled}
use Rattle.copy_folders.specs.declared.stage.NamesState.TheVariants.{Synced}
use Rattle.copy_folders.specs.declared.stage.Stage.TheVariants as at
use Rattle.copy_tree.specs.declared.item.ItemAtWork.{ItemAtWork}
use Rattle.copy_tree.specs.declared.item.ItemAtWork.TheVariants.{Next, File, Link, Stays}
use Rattle.copy_tree.specs.InPlace.{IsInPlace, IsMoved}
use Rattle.copy_tree.specs.Parts.{IsPartPlace}
use Rattle.copy_tree.specs.Reports.{IsToldAs}
use Rattle.copy_tree.specs.Standing.{Seen, target_name}
use Rattle.copy_tree.specs.TreeCopySteps.{TakesFolder, TakesNext, WorksOn, at_end}
use Rattle.copy_tree.proofs.InPlaces.{leaves_all, pair_moved}
use Rattle.job_reports.specs.Jobs.{Copies}
use Rattle.session_entries.specs.Moves.{moved_from}
use Rattle.laws_sessions.specs.Replayed.{copied_folder, made_by}
use Rattle.laws_sessions.proofs.Moved.{moved_below}
use Rattle.laws_sessions.proofs.FoldersMade.{MadeLaw}
use Rattle.laws_sessions.proofs.PartMade.{made_is, made_leads}
use Rattle.laws_sessions.proofs.QuietRuns.{row_done}
use Rattle.laws_sessions.proofs.StepsKnown.{step_begins}
use Rattle.laws_sessions.proofs.TreeSteps.{StepKnown, closing_not, next_of}

-- what stands where a folder was made with this mode
folder_of_mode : ℕ → Value
folder_of_mode mode = record { kind = kind.Folder; bytes = []; mode = mode; unnamed = 0 }

module _ (log now : CallLog) (tree : IsTree (current log)) where
  made_value : (n : List ℕ) (up target : Route) (mode : ℕ) → target ≡ n ∷ up → AllDone log (MakeFolder target mode ∷ []) (Some now) → value_at (current now) target ≡ Some (folder_of_mode mode)
  unfolding folder_of_mode
  made_value n up target mode is rows =
      let d = done_call log (MakeFolder target mode) now (row_done log now (MakeFolder target mode) rows) in
      let permits : refusal_of (current log) (MakeFolder (n ∷ up) mode) ≡ None = subst (λ r. refusal_of (current log) (MakeFolder r mode) ≡ None) is d.permits in
      let making : IsMaking (current log) n up = making_passes (current log) n up mode permits in
      let made : Node = record { kind = kind.Folder; bytes = []; mode = mode; mtime = pos 0; unnamed = 0 } in
      let then : now ≡ with_change log (Makes (found_node (current log) up) n made) = subst (λ r. now ≡ with_change log (change_of (current log) (MakeFolder r mode) d.time)) is d.is in
      subst (λ (x : CallLog). value_at (current x) target ≡ Some (folder_of_mode mode)) (sym then)
      (subst (λ r. value_at (current (with_change log (Makes (found_node (current log) up) n made))) r ≡ Some (folder_of_mode mode)) (sym is)
      (ap (option_map (λ i. value (node (current (with_change log (Makes (found_node (current log) up) n made))) i))) (made_leads log tree n up made making) ∙ ap (λ (x : Node). Some (value x)) (made_is log tree n up made making)))

  -- what the history says of it
  said_made : (top pair : Pair) (mode : ℕ) (v : View) → IsMoved top pair.source pair.target → ((p : Route) → value_at (current log) p ≡ (v p).value) → find (current log) pair.source ≡ Some (found_node (current log) pair.source)
      → mode ≡ (let x : Node = node (current log) (found_node (current log) pair.source) in x.mode) → made_by (Some (Copies top.source top.target)) pair.target v ≡ folder_of_mode (folder_mode mode)
  unfolding folder_of_mode
  said_made top pair mode v moved shows there mode_is =
      let from : moved_from top.source top.target pair.target ≡ pair.source = ap (moved_from top.source top.target) moved.to ∙ (moved_below top.source top.target moved.rest ∙ sym moved.from) in
      let shown : (v pair.source).value ≡ Some (value (node (current log) (found_node (current log) pair.source))) =
      sym (shows pair.source) ∙ ap (option_map (λ i. value (node (current log) i))) there in
      ap (λ p. copied_folder (v p).value) from ∙ (ap copied_folder shown ∙ ap (λ m. folder_of_mode (folder_mode m)) (sym mode_is))

  -- it is what is made
  pub made_as_said : (top pair : Pair) (mode : ℕ) (v : View) → IsMoved top pair.source pair.target → ((p : Route) → value_at (current log) p ≡ (v p).value) → find (current log) pair.source ≡ Some (found_node (current log) pair.source)
      → mode ≡ (let x : Node = node (current log) (found_node (current log) pair.source) in x.mode) → (path : Route) → pair.target ≡ path
      → made_by (Some (Copies top.source top.target)) path v ≡ value (record { kind = kind.Folder; bytes = []; mode = folder_mode mode; mtime = pos 0; unnamed = 0 })
  unfolding folder_of_mode
  made_as_said top pair mode v moved shows there mode_is path is = ap (λ p. made_by (Some (Copies top.source top.target)) p v) (sym is) ∙ said_made top pair mode v moved shows there mode_is

  module _ (free : Route → Bool) (replies : Replies) (top : Pair) (old new : Seen) (path : Route) (v : View) (known : StepKnown log old) (in_place : IsInPlace top old) (shows : (p : Route) → value_at (current log) p ≡ (v p).value) where
    abbrev Is : Type 0
    Is = value_at (current now) path ≡ Some (made_by (Some (Copies top.source top.target)) path v)

    abbrev did : Did
    did = common.Made path

    -- other machines make no folder
    pub told_made : (report : FolderDid) → IsToldAs report did → report ≡ Made path
    told_made (Made other) is = (let e : common.Made path ≡ common.Made other = is in let same : path ≡ other = cc in ap (λ p. (let r : FolderDid = Made p in r)) (sym same))
    told_made (Set other) is = absurd (let e : common.Made path ≡ common.Set other = is in let f : ⊥ = cc in f)
    told_made Barrier is = absurd (let e : common.Made path ≡ common.Barrier = is in let f : ⊥ = cc in f)
    told_made Closed is = absurd is
    told_made (Troubled trouble) is = absurd (let e : common.Made path ≡ common.Troubled trouble = is in let f : ⊥ = cc in f)

    folder_made : TakesFolder replies old new did (Some log) (Some now) → Is
    folder_made t =
        let w = t.works in
        let is = t.is log refl in
        let n = next_of old old.levels.inner.names.names t.pair t.next in
        let report : w.report ≡ Made path = told_made w.report w.says in
        let tells = subst (λ r. Tells (copying t.pair.source t.pair.target (at.Make t.mode) Synced) r w.moved) report w.tells in
        let rows = subst (λ r. FolderCalls (copying t.pair.source t.pair.target (at.Make t.mode) Synced) r log (Some now)) report (w.called log refl) in
        let source = is.0 in
        let moved = pair_moved top old.levels.inner.names.names old t.pair refl t.next in_place in
        subst (λ p. value_at (current now) p ≡ Some (made_by (Some (Copies top.source top.target)) p v)) (sym tells.2)
        (made_value (target_name old n.name) old.levels.inner.copy.target t.pair.target (folder_mode t.mode) n.target_is rows
        ∙ ap (λ x. Some x) (sym (said_made top t.pair t.mode v moved shows (stat-found (current log) t.pair.source source.0) is.3)))

    made_in : TakesNext (IsPartPlace free old) replies old new did (Some log) (Some now) → Is
    made_in (inl s) = absurd (let e : common.Made path ≡ common.Troubled s.trouble = s.says in let f : ⊥ = cc in f)
    made_in (inr (inl t)) = (let w = t.works in absurd w.tells)
    made_in (inr (inr (inl t))) = (let w = t.works in absurd w.tells)
    made_in (inr (inr (inr (inl t)))) = folder_made t
    made_in (inr (inr (inr (inr (inl t))))) = absurd (let e : common.Made path ≡ common.Merges ByCopy t.pair t.names = t.says in let f : ⊥ = cc in f)
    made_in (inr (inr (inr (inr (inr (inl t)))))) = absurd (let e : common.Made path ≡ common.Kept t.pair.target = t.says in let f : ⊥ = cc in f)
    made_in (inr (inr (inr (inr (inr (inr (inl t))))))) = absurd (let e : common.Made path ≡ common.Asked t.question = t.says in let f : ⊥ = cc in f)
    made_in (inr (inr (inr (inr (inr (inr (inr (next, inl (debt, e))))))))) =
        let tells = subst (λ r. Tells (let c = at_end old in c.levels.inner.copy) r e.moved) (told_made e.report e.says) e.tells in
        absurd (closing_not old.levels.inner.copy.stage known.made tells.0 tells.1)
    made_in (inr (inr (inr (inr (inr (inr (inr (next, inr (debt, f, same))))))))) = absurd (let e : common.Made path ≡ _ = f.says in let x : ⊥ = cc in x)

    made_by_work : (item : ItemAtWork) → WorksOn item (IsPartPlace free old) replies old new did (Some log) (Some now) → Is
    made_by_work Next (inl s) =
        let tells = subst (λ r. Tells (at_sync s.outer.copy) r (record (at_sync s.outer.copy) { names = s.names })) (told_made s.report s.says) s.tells in
        absurd (let stage = tells.1 in let f : ⊥ = cc in f)
    made_by_work Next (inr (clean, t)) = made_in t
    made_by_work (File f) w = absurd w.tells
    made_by_work (Link l) w = absurd w.tells
    made_by_work (Stays part) w = absurd w

pub made_law : MadeLaw
made_law free replies top old new path calls log now f0 f1 v s tree files known in_place shows =
    let b = step_begins free replies old new (common.Made path) calls log now f0 f1 s tree files known in
    let mid = s.mid in
    made_by_work log now tree free replies top mid new path v b.0 (leaves_all top s.folders old mid s.leaves in_place) shows mid.item s.works
