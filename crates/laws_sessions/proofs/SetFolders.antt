-- A folder that is given its mode shows what the history makes of it.
use Rattle.std.proofs.Common.{◌≡◌, ℕ, Bool, false, List, [], ◌∷◌, refl, sym, ◌∙◌, ap, subst, inl, inr, Some, None}
use Rattle.std.specs.Prelude.{unwrap_or}
use Rattle.std.specs.Option.{option_map}
use Rattle.mc_text.specs.Routes.{Route}
use Rattle.tree_trait.specs.declared.file_system.Node.{Node}
use Rattle.tree_trait.specs.Calls.{SetMode}
use Rattle.tree_trait.specs.Change.{Sets, CallLog, current, with_change}
use Rattle.tree_trait.specs.FileSystem.{Spot, Value, View, find, node, value, value_at}
use Rattle.tree_trait.specs.Shape.{IsTree}
use Rattle.laws_crash.specs.Guarded.{with_mode}
use Rattle.laws_crash.proofs.Guarding.{found_there, same_quiet}
use Rattle.job_answers.specs.declared.replies.Replies.{Replies}
use Rattle.job_reports.specs.declared.report.Transfer.TheVariants.{ByCopy}
use Rattle.job_reports.specs.CallRuns.{AllDone}
use Rattle.job_reports.specs.Jobs.{Copies}
use Rattle.job_reports.specs.declared.job.Pair.{Pair}
use Rattle.job_reports.specs.declared.report.Did.{Did}
use Rattle.job_reports.specs.declared.report.Did.TheVariants as common
use Rattle.job_reports.proofs.CallAnswers.{done_call}
use Rattle.copy_folders.specs.FolderCopying.{FolderCopying, Tells, copying}
use Rattle.copy_folders.specs.FolderSteps.{FolderCalls, at_sync, next_call}
use Rattle.copy_folders.specs.declared.stage.FolderDid.{FolderDid}
use Rattle.copy_folders.specs.declared.stage.FolderDid.TheVariants.{Made, Set, Barrier, Closed, Troubled}
use Rattle.copy_folders.specs.declared.stage.NamesState.TheVariants.{Synced}
use Rattle.copy_folders.specs.declared.stage.Stage.TheVariants as at
use Rattle.copy_folders.specs.declared.level.Level.{Level}
use Rattle.copy_folders.specs.Levels.{is_around_dirty}
use Rattle.copy_tree.specs.declared.item.ItemAtWork.{ItemAtWork}
use Rattle.copy_tree.specs.declared.item.ItemAtWork.TheVariants.{Next, File, Link, Stays}
use Rattle.copy_tree.specs.InPlace.{AreMoved, IsInPlace, IsMoved, owed_of}
use Rattle.copy_tree.specs.Parts.{IsPartPlace}
use Rattle.copy_tree.specs.Reports.{IsToldAs}
use Rattle.copy_tree.specs.Standing.{Seen}
use Rattle.copy_tree.specs.TreeCopySteps.{FolderEnds, TakesNext, WorksOn, at_end}
use Rattle.copy_tree.proofs.InPlaces.{closed_in_place, leaves_all}
use Rattle.session_entries.specs.Moves.{moved_from}
use Rattle.laws_sessions.specs.Replayed.{set_by, with_mode_of}
use Rattle.laws_sessions.proofs.Deleted.{put_at}
use Rattle.laws_sessions.proofs.Moved.{moved_below}
use Rattle.laws_sessions.proofs.PartNodes.{moded_node}
use Rattle.laws_sessions.proofs.Resting.{stands_at}
use Rattle.laws_sessions.proofs.OwedModes.{OwedModeLaw, OwedModes, SetLaw, ShowsTree}
use Rattle.laws_sessions.proofs.GivenModes.{closed_owe, inner_owes, leaves_owe, other_owes, retries_owe, skips_owe, works_owe}
use Rattle.laws_sessions.proofs.QuietRuns.{row_done}
use Rattle.laws_sessions.proofs.StepsKnown.{step_begins}
use Rattle.laws_sessions.proofs.TreeKnows.{filled_inner}
use Rattle.laws_sessions.proofs.TreeSteps.{StepKnown}

-- a thing with this mode
moded_value : ℕ → Value → Value
moded_value mode x = record x { mode = mode }

module _ (log now : CallLog) (tree : IsTree (current log)) (v : View) (shows : ShowsTree v log) where
  -- what stands there, with its mode
  given : (target : Route) (mode i : ℕ) → find (current log) target ≡ Some i → AllDone log (SetMode target mode ∷ []) (Some now) → value_at (current now) target ≡ Some (moded_value mode (value (node (current log) i)))
  unfolding moded_value
  given target mode i leads rows =
      let d = done_call log (SetMode target mode) now (row_done log now (SetMode target mode) rows) in
      let there = found_there (current log) tree target i leads in
      let is : now ≡ with_change log (Sets i mode) = d.is ∙ ap (λ k. with_change log (Sets k mode)) (ap (λ o. unwrap_or o 0) leads) in
      subst (λ (x : CallLog). value_at (current x) target ≡ Some (moded_value mode (value (node (current log) i)))) (sym is)
      (ap (option_map (λ k. value (node (current (with_change log (Sets i mode))) k))) (same_quiet log (Sets i mode) (λ g m. refl) target ∙ leads) ∙ ap (λ (x : Node). Some (value x)) (moded_node log i mode there))

  -- what the history says of it
  pub value_set : (top : Pair) (source target : Route) (mode i : ℕ) → IsMoved top source target → find (current log) target ≡ Some i → (o : (x : Value) × ((v source).value ≡ Some x) × (x.mode ≡ mode))
      → option_map (with_mode_of (v (moved_from top.source top.target target)).value) (v target).value ≡ Some (value (with_mode mode (node (current log) i)))
  value_set top source target mode i moved leads o =
      let from : moved_from top.source top.target target ≡ source = ap (moved_from top.source top.target) moved.to ∙ (moved_below top.source top.target moved.rest ∙ sym moved.from) in
      let stands : (v target).value ≡ Some (value (node (current log) i)) = sym (shows target) ∙ ap (option_map (λ k. value (node (current log) k))) leads in
      ap (λ q. option_map (with_mode_of (v q).value) (v target).value) from
      ∙ (ap (λ x. option_map (with_mode_of x) (v target).value) o.1
      ∙ (ap (option_map (with_mode_of (Some o.0))) stands
      ∙ ap (λ m. Some (value (with_mode m (node (current log) i)))) o.2))

  told : (top : Pair) (source target : Route) (mode i : ℕ) → IsMoved top source target → find (current log) target ≡ Some i → (o : (x : Value) × ((v source).value ≡ Some x) × (x.mode ≡ mode))
      → (set_by (Some (Copies top.source top.target)) target v target).value ≡ Some (moded_value mode (value (node (current log) i)))
  unfolding moded_value
  told top source target mode i moved leads o =
      ap (λ (s : Spot). s.value) (put_at v target (option_map (with_mode_of (v (moved_from top.source top.target target)).value) (v target).value)) ∙ value_set top source target mode i moved leads o

  module _ (free : Route → Bool) (replies : Replies) (top : Pair) (old new : Seen) (path : Route) (known : StepKnown log old) (in_place : IsInPlace top old) (owed : OwedModes v old) where
    abbrev Is : Type 0
    Is = value_at (current now) path ≡ (set_by (Some (Copies top.source top.target)) path v path).value

    abbrev did : Did
    did = common.Set path

    -- other machines give no folder a mode
    pub told_set : (report : FolderDid) → IsToldAs report did → report ≡ Set path
    told_set (Set other) is = (let e : common.Set path ≡ common.Set other = is in let same : path ≡ other = cc in ap (λ p. (let r : FolderDid = Set p in r)) (sym same))
    told_set (Made other) is = absurd (let e : common.Set path ≡ common.Made other = is in let f : ⊥ = cc in f)
    told_set Barrier is = absurd (let e : common.Set path ≡ common.Barrier = is in let f : ⊥ = cc in f)
    told_set Closed is = absurd is
    told_set (Troubled trouble) is = absurd (let e : common.Set path ≡ common.Troubled trouble = is in let f : ⊥ = cc in f)

    abbrev c : FolderCopying
    c = let e : Seen = at_end old in e.levels.inner.copy

    -- the folder that is worked was copied, so it isn't the one that holds the target
    lies : (inner : Level) (around : List Level) (mode : ℕ) → inner.copy.stage ≡ at.Close (Some mode) → AreMoved top inner around → IsMoved top inner.copy.source inner.copy.target
    lies inner [] mode stage h = absurd (let e : Some mode ≡ None = sym (ap owed_of stage) ∙ h.keeps in let f : ⊥ = cc in f)
    lies inner (outer ∷ around) mode stage h = h.0

    folder_set : is_around_dirty old.levels.around ≡ false → FolderEnds (at_end old) new did (Some log) (Some now) → Is
    folder_set clean e = by report_tells report_rows
      where
        report : e.report ≡ Set path
        report = told_set e.report e.says

        report_tells : Tells c (Set path) e.moved
        report_tells = subst (λ r. Tells c r e.moved) report e.tells

        report_rows : AllDone log (next_call c.target c.stage c.names) (Some now)
        report_rows = subst (λ r. FolderCalls c r log (Some now)) report (e.called log refl)

        by : Tells c (Set path) e.moved → AllDone log (next_call c.target c.stage c.names) (Some now) → Is
        by (mode, stage, path_is, new_is) rows =
            let levels = known.levels in
            let filling = filled_inner (is_around_dirty old.levels.around) log old.levels.inner.copy.target _ clean levels.inner in
            let firm = filling.firm in
            let there = stands_at (current log) old.levels.inner.copy.target firm.stands in
            let ended = closed_in_place top old in_place in
            let moved = lies (let x = at_end old in x.levels.inner) old.levels.around mode stage ended.levels in
            let o = inner_owes v (let x = at_end old in x.levels.inner) old.levels.around (closed_owe v old owed) mode (ap owed_of stage) in
            subst (λ p. value_at (current now) p ≡ (set_by (Some (Copies top.source top.target)) p v p).value) (sym path_is)
            (given old.levels.inner.copy.target mode there.i there.at (subst (λ x. AllDone log (next_call c.target x c.names) (Some now)) stage rows)
            ∙ sym (told top old.levels.inner.copy.source old.levels.inner.copy.target mode there.i moved there.at o))

    set_in : is_around_dirty old.levels.around ≡ false → TakesNext (IsPartPlace free old) replies old new did (Some log) (Some now) → Is
    set_in clean (inl s) = absurd (let e : common.Set path ≡ common.Troubled s.trouble = s.says in let f : ⊥ = cc in f)
    set_in clean (inr (inl t)) = (let w = t.works in absurd w.tells)
    set_in clean (inr (inr (inl t))) = (let w = t.works in absurd w.tells)
    set_in clean (inr (inr (inr (inl t)))) =
        let w = t.works in
        let tells = subst (λ r. Tells (copying t.pair.source t.pair.target (at.Make t.mode) Synced) r w.moved) (told_set w.report w.says) w.tells in
        absurd (let e = tells.1 in let f : ⊥ = cc in f)
    set_in clean (inr (inr (inr (inr (inl t))))) = absurd (let e : common.Set path ≡ common.Merges ByCopy t.pair t.names = t.says in let f : ⊥ = cc in f)
    set_in clean (inr (inr (inr (inr (inr (inl t)))))) = absurd (let e : common.Set path ≡ common.Kept t.pair.target = t.says in let f : ⊥ = cc in f)
    set_in clean (inr (inr (inr (inr (inr (inr (inl t))))))) = absurd (let e : common.Set path ≡ common.Asked t.question = t.says in let f : ⊥ = cc in f)
    set_in clean (inr (inr (inr (inr (inr (inr (inr (next, inl (debt, e))))))))) = folder_set clean e
    set_in clean (inr (inr (inr (inr (inr (inr (inr (next, inr (debt, f, same))))))))) = absurd (let e : common.Set path ≡ _ = f.says in let x : ⊥ = cc in x)

    set_by_work : (item : ItemAtWork) → WorksOn item (IsPartPlace free old) replies old new did (Some log) (Some now) → Is
    set_by_work Next (inl s) =
        let tells = subst (λ r. Tells (at_sync s.outer.copy) r (record (at_sync s.outer.copy) { names = s.names })) (told_set s.report s.says) s.tells in
        absurd (let stage = tells.1 in let f : ⊥ = cc in f)
    set_by_work Next (inr (clean, t)) = set_in clean t
    set_by_work (File f) w = absurd w.tells
    set_by_work (Link l) w = absurd w.tells
    set_by_work (Stays part) w = absurd w

pub set_law : SetLaw
set_law free replies top old new path calls log now f0 f1 v s tree files known in_place shows owed =
    let b = step_begins free replies old new (common.Set path) calls log now f0 f1 s tree files known in
    let mid = s.mid in
    set_by_work log now tree v shows free replies top mid new path b.0 (leaves_all top s.folders old mid s.leaves in_place) (leaves_owe v s.folders old mid s.leaves owed) mid.item s.works

pub owed_mode_law : OwedModeLaw
owed_mode_law = record {
  begins = λ v job source target mode is. absurd (let f : ⊥ = cc in f);
  step = λ free replies old new did calls log now f0 f1 v s tree files known shows owed.
      let b = step_begins free replies old new did calls log now f0 f1 s tree files known in
      let k = b.0 in
      let mid = s.mid in works_owe v (IsPartPlace free mid) replies mid new did log now shows (leaves_owe v s.folders old mid s.leaves owed) k.made mid.item s.works;
  skip = λ cause old new did v s owed. skips_owe v cause old new did owed old.item s;
  retry = λ c v owed. retries_owe v c.item c owed;
  other = λ top c v w in_place same owed. other_owes top v w same c.levels.inner c.levels.around in_place.levels owed;
}
