-- A finished job has left no path in doubt that it may change.
use Rattle.std.proofs.Common.{◌≡◌, ◌⊎◌, ℕ, true, false, not, List, [], ◌∷◌, ◌++◌, refl, sym, ◌∙◌, ap, subst, inl, inr, Option, Some, None}
use Rattle.std.specs.Prelude.{◌||◌}
use Rattle.std.specs.Option.{option_map_or}
use Rattle.std.proofs.lemmas.Bool.{false≢true, true≢false, both_ways, false_from_ne_true}
use Rattle.mc_text.specs.Routes.{Route, is_prefix}
use Rattle.tree_trait.specs.Shape.{IsTree}
use Rattle.tree_trait.specs.FileSystem.{find, visible_tree, node}
use Rattle.tree_trait.specs.Change.{CallLog, current}
use Rattle.tree_trait.specs.CrashImages.{Among, all_settled, is_clean}
use Rattle.laws_crash.specs.Guarded.{Marks}
use Rattle.copy_job.specs.Standing.{SubtreeCopying}
use Rattle.copy_tree.specs.Standing.{is_fresh as is_fresh_tree}
use Rattle.tree_trait.proofs.Visible.{same_path-self, same_path-true}
use Rattle.job_answers.specs.declared.replies.Replies.{Replies}
use Rattle.job_reports.specs.declared.report.Ending.{Ending}
use Rattle.job_reports.specs.declared.report.Ending.TheVariants.{Finished, Aborted}
use Rattle.job_reports.specs.declared.report.Did.TheVariants.{Ended}
use Rattle.session_entries.specs.declared.history.Entry.{Entry}
use Rattle.copy_move.specs.declared.run.Course.{Course}
use Rattle.copy_move.specs.declared.run.Course.TheVariants.{GoesOn, Asking, InTrouble, OwedSyncFailed, Skips, Ends}
use Rattle.delete_job.specs.Deletions.{Deleting}
use Rattle.copy_move.specs.declared.work.Work.{Work}
use Rattle.make_job.specs.declared.making.MakingStage.{MakingStage}
use Rattle.make_job.specs.declared.making.MakingStage.TheVariants as making
use Rattle.copy_move.specs.declared.work.Work.TheVariants.{Copy, Delete, Make, Move, SetMode, RemoveEmptied}
use Rattle.make_job.specs.Makings as makings
use Rattle.move_job.specs.declared.moving.MovingStage.{MovingStage}
use Rattle.move_job.specs.declared.moving.MovingStage.TheVariants as moving
use Rattle.move_job.specs.Movings.{Moving}
use Rattle.move_job.specs.Movings as movings
use Rattle.emptied_job.specs.declared.removal.RemovalStage.{RemovalStage}
use Rattle.emptied_job.specs.declared.removal.RemovalStage.TheVariants as removal
use Rattle.emptied_job.specs.Removals as removals
use Rattle.mode_job.specs.Settings.{Setting}
use Rattle.mode_job.specs.Settings as settings
use Rattle.copy_move.specs.Jobs.{Running, TellsOn, WorkTells}
use Rattle.copy_move.specs.Settling.{WorkLeaves, changed_folder, is_own}
use Rattle.job_reports.specs.Paths.{folder_of}
use Rattle.copy_move.specs.JobStepReports.{LeavesDirty, Walks, WalksOn}
use Rattle.laws_sessions.specs.Doubt.{IsMountInDoubt, is_unsettled, name_waits, node_waits, way_waits}
use Rattle.session_entries.specs.Named.{has_changed, named_parts}
use Rattle.laws_sessions.specs.Touched.{touches}
use Rattle.laws_sessions.specs.Traces.{IsTraced, IsUnclaimed, Stand, WorkLeads}
use Rattle.tree_trait.specs.Refusals.{is_folder}
use Rattle.laws_sessions.proofs.Histories.{IsReached, traced_reached}
use Rattle.laws_sessions.proofs.Owing.{calm_at, calm_listed, calm_there, owed_modes}
use Rattle.laws_sessions.proofs.Intact.{own_folder}
use Rattle.laws_sessions.proofs.JobKnows.{WorkKnows}
use Rattle.laws_sessions.proofs.Knowing.{HistoryFacts}
use Rattle.laws_sessions.proofs.KnownParts.{HasName}
use Rattle.laws_sessions.proofs.MoveKnown.{IsMovedIn, MoveKnown, is_moved}
use Rattle.laws_sessions.proofs.OwnNames.{HoldsPart, IsOwnName, may_change}
use Rattle.laws_sessions.proofs.PathsBelow.{below_way, is_below}
use Rattle.laws_sessions.proofs.Reports.{JobsKnow}
use Rattle.laws_sessions.proofs.Resting.{IsSureFolder, sure_path}
use Rattle.laws_sessions.proofs.Sources.{item_in, making_changes, making_touched}
use Rattle.laws_sessions.proofs.Prefixes.{calm_told, folders_told, told_of}
use Rattle.laws_sessions.proofs.SureThings.{IsSureThing}
use Rattle.laws_sessions.proofs.Tidy.{IsGoing, TidyFolder}
use Rattle.laws_sessions.proofs.TreeDone.{TreeLeft, tree_done}
use Rattle.laws_sessions.proofs.TreeKnown.{TreeKnown}
use Rattle.laws_sessions.proofs.Unchanged.{knows_calm}
use Rattle.laws_sessions.proofs.Finished.{AreTidy, IsTidyJob, traced_tidy}
use Rattle.laws_sessions.proofs.FinishedMoves.{move_left}

-- a job whose step is that it is finished owes no sync
done_making : (stage : MakingStage) → makings.is_done stage ≡ true → makings.is_dirty stage ≡ false
done_making making.Make h = absurd (false≢true h)
done_making making.Sync h = absurd (false≢true h)
done_making making.Finish h = refl
done_making making.PassedOver h = refl

done_removal : (stage : RemovalStage) → removals.is_done stage ≡ true → removals.is_dirty stage ≡ false
done_removal removal.Remove h = absurd (false≢true h)
done_removal removal.Sync h = absurd (false≢true h)
done_removal removal.Finish h = refl
done_removal removal.PassedOver h = refl

done_work : (replies : Replies) (old new next : Work) (part : Option Route) (dirty dirty_after : List Route) (before after : Option CallLog) → WorkTells replies old (Ended Finished part) new → WorkLeaves old (Ended Finished part) next dirty dirty_after before after
    → knows_calm old ≡ false → TidyFolder old dirty → (q : Route) → is_own old q ≡ true → Among dirty q → ⊥
done_work replies (Copy c) new next part dirty dirty_after before after t leaves other tidy q own among = true≢false other
done_work replies (Move m) new next part dirty dirty_after before after t leaves other tidy q own among = true≢false other
done_work replies (Make m) (Make new) next part dirty dirty_after before after (is_done, part_is, new_is) leaves other tidy q own among =
    tidy (done_making m.stage is_done) (subst (λ x. Among dirty x) (same_path-true q (folder_of m.path) own) among)
done_work replies (SetMode s) (SetMode new) next part dirty dirty_after before after (stage, part_is, new_is) leaves other tidy q own among =
    tidy (ap settings.is_dirty stage) (subst (λ x. Among dirty x) (same_path-true q s.path own) among)
done_work replies (Delete d) (Delete new) (SetMode next) part dirty dirty_after before after t leaves other tidy q own among = leaves
done_work replies (Delete d) (Delete new) (Copy next) part dirty dirty_after before after t leaves other tidy q own among = leaves
done_work replies (Delete d) (Delete new) (Make next) part dirty dirty_after before after t leaves other tidy q own among = leaves
done_work replies (Delete d) (Delete new) (RemoveEmptied next) part dirty dirty_after before after t leaves other tidy q own among = leaves
done_work replies (Delete d) (Delete new) (Move next) part dirty dirty_after before after t leaves other tidy q own among = leaves
done_work replies (Delete d) (Delete new) (Delete next) part dirty dirty_after before after t leaves other tidy q own among = both_ways _ (leaves.0 q among) own
done_work replies (RemoveEmptied r) (RemoveEmptied new) next part dirty dirty_after before after (is_done, part_is, new_is) leaves other tidy q own among =
    tidy (done_removal r.stage is_done) (subst (λ x. Among dirty x) (same_path-true q (folder_of r.path) own) among)
done_work replies old new next part dirty dirty_after before after t leaves other tidy q own among = t

pub wound_up : (ending : Ending) (old new : Work) (part : Option Route) → Rattle.copy_move.specs.Jobs.WorkWinds ending old (Ended Finished part) new → Finished ≡ ending
wound_up ending (Delete d) (Delete new) part (how_is, part_is, path_is, stage_is) = how_is
wound_up ending (Make m) (Make new) part (off, how_is, part_is, new_is) = how_is
wound_up ending (Move m) (Move new) part (off, how_is, part_is, new_is) = how_is
wound_up ending (SetMode s) (SetMode new) part (clean, how_is, part_is, new_is) = how_is
wound_up ending (Copy c) (Copy new) part t = let m = t.may in m.0
wound_up ending (RemoveEmptied r) (RemoveEmptied new) part (off, how_is, part_is, new_is) = how_is
wound_up ending old new part t = absurd t

finished_tidy : (opening : CallLog) (g : List Entry) (dirty dirty_after : List Route) (log : CallLog) (job new : Running) (part : Option Route) (before after : Option CallLog) (course : Course) → job.course ≡ course → TellsOn course job (Ended Finished part) new
    → LeavesDirty course job.work (Ended Finished part) new.work dirty dirty_after before after → IsTidyJob opening g dirty log job → has_changed job.id g ≡ true
    → (job.course ≡ GoesOn) × TidyFolder job.work dirty × (knows_calm job.work ≡ false → (q : Route) → is_own job.work q ≡ true → Among dirty q → ⊥)
finished_tidy opening g dirty dirty_after log job new part before after GoesOn is (work, tells, new_is) leaves t changed =
    let tidy = t.tidy changed (subst IsGoing (sym is) tt) in (is, tidy, λ other q own among. done_work job.replies job.work work new.work part dirty dirty_after before after tells leaves other tidy q own among)
finished_tidy opening g dirty dirty_after log job new part before after (InTrouble halt) is tells leaves t changed = absurd tells
finished_tidy opening g dirty dirty_after log job new part before after (OwedSyncFailed why) is tells leaves t changed = absurd tells
finished_tidy opening g dirty dirty_after log job new part before after Asking is tells leaves t changed = absurd tells
finished_tidy opening g dirty dirty_after log job new part before after (Skips why) is (inl (path, work, did_is, passes, new_is)) leaves t changed = absurd (let f : ⊥ = cc in f)
finished_tidy opening g dirty dirty_after log job new part before after (Skips why) is (inr (apart, did_is, new_is)) leaves t changed = absurd (let f : ⊥ = cc in f)
finished_tidy opening g dirty dirty_after log job new part before after (Ends ending) is (work, winds, new_is) leaves t changed =
    let e : Finished ≡ Aborted = wound_up ending job.work work part winds ∙ t.aborted ending is in absurd (let f : ⊥ = cc in f)

-- it goes on until then
pub finished_goes : (opening now after : CallLog) (newest : List Entry) (stand : Stand) (dirty : List Route) (job new : Running) (part : Option Route) → IsTree (current opening) → all_settled opening.changes ≡ true → IsTraced opening newest stand now
    → stand.jobs ≡ job ∷ [] → WorkLeads job (Ended Finished part) new stand.dirty dirty now after → has_changed job.id newest ≡ true → job.course ≡ GoesOn
finished_goes opening now after newest stand dirty job new part tree settled traced jobs_is works changed =
    let tidy : IsTidyJob opening newest stand.dirty now job = subst (λ js. AreTidy opening newest stand.dirty now js) jobs_is (traced_tidy opening tree settled newest stand now traced) in
    (finished_tidy opening newest stand.dirty dirty now job new part (Some now) (Some after) job.course refl works.tells works.leaves tidy changed).0

-- so its folder is known to be on the disk
pub finished_folder : (opening : CallLog) → IsTree (current opening) → all_settled opening.changes ≡ true → (newest : List Entry) (stand : Stand) (now : CallLog) (job : Running) → IsTraced opening newest stand now
    → stand.jobs ≡ job ∷ [] → has_changed job.id newest ≡ true → folders_told opening newest (changed_folder job.work) ≡ true
finished_folder opening tree settled newest stand now job traced jobs_is changed =
    let tidy : IsTidyJob opening newest stand.dirty now job = subst (λ js. AreTidy opening newest stand.dirty now js) jobs_is (traced_tidy opening tree settled newest stand now traced) in
    tidy.stands changed

-- a mount in doubt is no matter of work that changes names around it
abbrev pub IsNoMatter : Work → CallLog → Route → Type 0
IsNoMatter (SetMode s) log path = ⊥
IsNoMatter work log path = IsMountInDoubt log path

-- a part that the job named, and that is one still
abbrev pub IsPartStill : List Entry → Running → Route → Type 0
IsPartStill g job path = HoldsPart job.work path × Among (named_parts g) path

-- where the folder that holds a path isn't in doubt, and no name at or below the path waits, nothing there is
sure_below : (log : CallLog) (top : Route) → way_waits log (folder_of top) ≡ false → ((p : Route) → is_prefix top p ≡ true → name_waits log p ≡ false) → (rest : Route) → way_waits log (rest ++ top) ≡ false
sure_below log top firm none [] = sure_path log top firm (none top (is_below top []))
sure_below log top firm none (name ∷ rest) = sure_path log (name ∷ rest ++ top) (sure_below log top firm none rest) (none (name ∷ rest ++ top) (is_below top (name ∷ rest)))

module _ (opening now : CallLog) (newest : List Entry) (stand : Stand) (path : Route) (tree : IsTree (current opening)) (settled : all_settled opening.changes ≡ true) (traced : IsTraced opening newest stand now) where
  abbrev IsLeft : Work → Type 0
  IsLeft work = (way_waits now path ≡ false) × ((Among (named_parts newest) path → ⊥) → (IsNoMatter work now path → ⊥) → is_unsettled now path ≡ false)

  abbrev IsLeftCalm : Type 0
  IsLeftCalm = (way_waits now path ≡ false) × ((Among (named_parts newest) path → ⊥) → (IsMountInDoubt now path → ⊥) → is_unsettled now path ≡ false)

  -- a path that isn't in doubt, where no mode waits of what stands there, parts aside, but where another mount begins
  calm_left : way_waits now path ≡ false → ((Among (named_parts newest) path → ⊥) → (visible_tree (current now) path).is_mount ≡ false → node_waits now path ≡ false) → IsLeftCalm
  calm_left sure calm = (
    sure,
    λ unnamed no_mount. ap (λ b. b || node_waits now path) sure
        ∙ false_from_ne_true (node_waits now path) (λ waits. both_ways _ (calm unnamed (false_from_ne_true _ (λ begins. no_mount (record { begins = begins; waits = waits })))) waits),
  )

  -- so it is of one that is said to be calm
  told_left : way_waits now path ≡ false → calm_told newest path ≡ true → IsLeftCalm
  told_left sure calm = calm_left sure (λ unnamed no_mount. calm_there opening now newest stand path tree settled traced unnamed calm no_mount)

  abbrev seen : IsReached opening newest stand now
  seen = traced_reached opening tree settled newest stand now traced

  -- what waits of a calm name lies in a folder that is listed
  unlisted : (p : Route) → calm_told newest p ≡ true → (Among stand.dirty (folder_of p) → ⊥) → name_waits now p ≡ false
  unlisted p calm off = false_from_ne_true (name_waits now p) (λ waits. off (calm_listed opening now newest stand p tree settled traced calm waits))

  -- of work that removes a thing with all that lies in it
  deletion_left : (d : Deleting) → way_waits now (folder_of d.path) ≡ false → ((q : Route) → is_own (Delete d) q ≡ true → Among stand.dirty q → ⊥) → ((p : Route) → is_prefix d.path p ≡ true → calm_told newest p ≡ true) → is_prefix d.path path ≡ true → IsLeftCalm
  deletion_left d firm off calm own =
      let w = below_way d.path path own in
      told_left (ap (way_waits now) w.1 ∙ sure_below now d.path firm (λ p below. unlisted p (calm p below) (off (folder_of p) (own_folder d p (folder_of p) below refl))) w.0) (calm path own)

  -- and of work that makes or removes one name
  name_left : (top : Route) → way_waits now (folder_of top) ≡ false → (Among stand.dirty (folder_of top) → ⊥) → calm_told newest top ≡ true → path ≡ top → IsLeftCalm
  name_left top firm off calm same =
      let here : calm_told newest path ≡ true = ap (calm_told newest) same ∙ calm in
      told_left (ap (way_waits now) same ∙ sure_path now top firm (unlisted top calm off)) here

  -- and of work that sets a mode: its thing isn't dirty
  mode_left : (s : Setting) → way_waits now (folder_of s.path) ≡ false → (Among stand.dirty s.path → ⊥) → name_waits now s.path ≡ false → path ≡ s.path → IsLeft (SetMode s)
  mode_left s firm off named same =
      let sure = sure_path now path (ap (λ q. way_waits now (folder_of q)) same ∙ firm) (ap (name_waits now) same ∙ named) in
      (sure, λ unnamed none. ap (λ b. b || node_waits now path) sure ∙ false_from_ne_true _ (λ waits. off (subst (λ q. Among stand.dirty q) same (owed_modes opening now newest stand path tree settled traced unnamed waits))))

  -- and of a copy
  module _ (c : SubtreeCopying) (left : TreeLeft (told_of opening now newest seen.part) seen.marks now c) where
    names_none : (p : Route) → IsOwnName c.at.job c.top p → name_waits now p ≡ false
    names_none [] own = refl
    names_none (name ∷ up) own = left.names name up own

    -- of what stands at the target no mode waits, nor of what lies below it
    at_target : path ≡ c.top.target → ((i : ℕ) → find (current now) path ≡ Some i → is_folder (node (current now) i) ≡ false) → (Among (named_parts newest) path → ⊥) → (visible_tree (current now) path).is_mount ≡ false → node_waits now path ≡ false
    at_target is bare unnamed no_mount = elim left.around [
      | inl calm ↦ calm_there opening now newest stand path tree settled traced unnamed (ap (calm_told newest) is ∙ calm) no_mount
      | inr but ↦ calm_at opening now newest stand path tree settled traced unnamed (λ i at. but.1 i (ap (find (current now)) (sym is) ∙ at) (bare i at)) no_mount
    ]

    none_waits : (rest : Route) → path ≡ rest ++ c.top.target → (Among (named_parts newest) path → ⊥) → (visible_tree (current now) path).is_mount ≡ false → node_waits now path ≡ false
    none_waits rest is unnamed no_mount = by (find (current now) path) refl
      where
        by : (o : Option ℕ) → find (current now) path ≡ o → node_waits now path ≡ false
        by None at = ap (λ x. option_map_or (λ i. not (is_clean i now.changes)) x false) at
        by (Some i) at = elim (left.calm rest i (ap (find (current now)) (sym is) ∙ at)) [
          | inl clean ↦ ap (λ x. option_map_or (λ i. not (is_clean i now.changes)) x false) at ∙ ap not clean
          | inr b ↦ at_target (is ∙ ap (λ q. q ++ c.top.target) b.0) (λ j also. subst (λ k. is_folder (node (current now) k) ≡ false) (let e : Some i ≡ Some j = sym at ∙ also in cc) b.1) unnamed no_mount
        ]

    copied_left : way_waits now (folder_of c.top.target) ≡ false → is_prefix c.top.target path ≡ true → IsLeftCalm
    copied_left firm own =
        let w = below_way c.top.target path own in
        calm_left (ap (way_waits now) w.1 ∙ sure_below now c.top.target firm (λ p below. names_none p (inl below)) w.0) (none_waits w.0 w.1)

    -- and a part that it named waits for nothing but as a part
    part_left : way_waits now (folder_of c.top.target) ≡ false → IsOwnName c.at.job c.top path → Among (named_parts newest) path → IsLeftCalm
    part_left firm own named = (by own, λ unnamed none. absurd (unnamed named))
      where
        by : IsOwnName c.at.job c.top path → way_waits now path ≡ false
        by (inl below) = let w = below_way c.top.target path below in ap (way_waits now) w.1 ∙ sure_below now c.top.target firm (λ p below. names_none p (inl below)) w.0
        by (inr beside) = sure_path now path (ap (λ q. way_waits now (folder_of q)) beside.1 ∙ firm) (names_none path own)

  -- what is known of a copy or a move when it ends
  abbrev IsWhole : Work → Type 0
  IsWhole (Copy c) = TreeLeft (told_of opening now newest seen.part) seen.marks now c
  IsWhole (Move m) = HasName m.pair.source × (HasName m.pair.target × ((movings.is_dirty m.stage ≡ false) × IsMovedIn (told_of opening now newest seen.part) seen.marks now m))
  IsWhole work = Unit {0}

  -- what a job that is finished knows of its work
  module _ (job : Running) (firm : way_waits now (changed_folder job.work) ≡ false) (off : knows_calm job.work ≡ false → (q : Route) → is_own job.work q ≡ true → Among stand.dirty q → ⊥) (named : IsSureThing (item_in job.work) now)
      (calm : knows_calm job.work ≡ false → (p : Route) → may_change (item_in job.work) p ≡ true → calm_told newest p ≡ true) (whole : IsWhole job.work) where
    abbrev Own : Work → Type 0
    Own work = (touches (item_in work) path ≡ true) ⊎ (HoldsPart work path × Among (named_parts newest) path)

    no_part : (work : Work) → (HoldsPart work path → ⊥) → Own work → touches (item_in work) path ≡ true
    no_part work none (inl touched) = touched
    no_part work none (inr part) = absurd (none part.0)

    left_of : (work : Work) → job.work ≡ work → Own work → IsLeft work
    left_of (Copy c) is (inl touched) = copied_left c (subst IsWhole is whole) (subst (λ w. way_waits now (changed_folder w) ≡ false) is firm) touched
    left_of (Copy c) is (inr part) = part_left c (subst IsWhole is whole) (subst (λ w. way_waits now (changed_folder w) ≡ false) is firm) part.0 part.1
    left_of (Delete d) is own =
        deletion_left d (subst (λ w. way_waits now (changed_folder w) ≡ false) is firm)
        (λ q of_it. off (ap knows_calm is) q (ap (λ w. is_own w q) is ∙ of_it)) (λ p of_it. calm (ap knows_calm is) p (ap (λ w. may_change (item_in w) p) is ∙ of_it)) (no_part (Delete d) (λ held. held) own)
    left_of (Make m) is own =
        name_left m.path (subst (λ w. way_waits now (changed_folder w) ≡ false) is firm) (off (ap knows_calm is) (folder_of m.path) (ap (λ w. is_own w (folder_of m.path)) is ∙ same_path-self (folder_of m.path)))
        (calm (ap knows_calm is) m.path (ap (λ w. may_change (item_in w) m.path) is ∙ making_changes m.thing m.path m.path (same_path-self m.path)))
        (same_path-true path m.path (making_touched m.thing m.path path (no_part (Make m) (λ held. held) own)))
    left_of (Move m) is own =
        let w : IsWhole (Move m) = subst IsWhole is whole in
        move_left opening now newest stand path tree settled traced m w.0 w.1.0 w.1.1.0 w.1.1.1 (no_part (Move m) (λ held. held) own)
    left_of (SetMode s) is own =
        mode_left s (subst (λ w. way_waits now (changed_folder w) ≡ false) is firm) (off (ap knows_calm is) s.path (ap (λ w. is_own w s.path) is ∙ same_path-self s.path))
        (subst (λ w. IsSureThing (item_in w) now) is named) (same_path-true path s.path (no_part (SetMode s) (λ held. held) own))
    left_of (RemoveEmptied r) is own =
        name_left r.path (subst (λ w. way_waits now (changed_folder w) ≡ false) is firm) (off (ap knows_calm is) (folder_of r.path) (ap (λ w. is_own w (folder_of r.path)) is ∙ same_path-self (folder_of r.path)))
        (calm (ap knows_calm is) r.path (ap (λ w. may_change (item_in w) r.path) is ∙ same_path-self r.path))
        (same_path-true path r.path (no_part (RemoveEmptied r) (λ held. held) own))

-- so it is of a copy, where it tells its end
whole_left : (told : HistoryFacts) (dirty dirty_after : List Route) (marks : Marks) (log now : CallLog) (job new : Running) (part : Option Route) (c : SubtreeCopying) → job.work ≡ Copy c → job.course ≡ GoesOn → WorkKnows told dirty marks log job.course job.work
    → TidyFolder job.work dirty → WorkLeads job (Ended Finished part) new dirty dirty_after log now → TreeLeft told marks log c
whole_left told dirty dirty_after marks log now job new part c is on knows tidy works =
    let w = works.walks in
    let known : TreeKnown told dirty marks log GoesOn c = subst (λ x. WorkKnows told dirty marks log GoesOn x) is (subst (λ x. WorkKnows told dirty marks log x job.work) on knows) in
    by w.0 w.1 w.2 known (subst (λ x. TidyFolder x dirty) is tidy) new.work
    (subst (λ x. WalksOn IsUnclaimed job.replies GoesOn x new.work (Ended Finished part) w.0 dirty dirty_after (Some log) (Some now) w.1 w.2) is
    (subst (λ x. WalksOn IsUnclaimed job.replies x job.work new.work (Ended Finished part) w.0 dirty dirty_after (Some log) (Some now) w.1 w.2) on w.3))
  where
    by : (calls f0 f1 : ℕ) → TreeKnown told dirty marks log GoesOn c → is_fresh_tree c.at.stage ≡ false → (work : Work) → Walks IsUnclaimed job.replies (Copy c) work (Ended Finished part) calls dirty dirty_after (Some log) (Some now) f0 f1 → TreeLeft told marks log c
    by calls f0 f1 known begun (Copy x) goes = tree_done told dirty dirty_after marks log now c x part known begun goes.free job.replies calls goes.since f1 goes.steps
    by calls f0 f1 known begun x goes = absurd goes

-- and of a move that was renamed
done_moving : (stage : MovingStage) → movings.is_done stage ≡ true → is_moved stage ≡ true → movings.is_dirty stage ≡ false
done_moving moving.Take done moved = absurd (false≢true done)
done_moving moving.SyncTarget done moved = absurd (false≢true done)
done_moving moving.SyncSource done moved = absurd (false≢true done)
done_moving moving.Finish done moved = refl
done_moving moving.PassedOver done moved = absurd (false≢true moved)

move_done : (replies : Replies) (m : Moving) (work : Work) (part : Option Route) → WorkTells replies (Move m) (Ended Finished part) work → movings.is_done m.stage ≡ true
move_done replies m (Move new) part (is_done, part_is, new_is) = is_done
move_done replies m work part t = absurd t

moved_left : (told : HistoryFacts) (dirty dirty_after : List Route) (marks : Marks) (log now : CallLog) (job new : Running) (part : Option Route) (m : Moving) → job.work ≡ Move m → job.course ≡ GoesOn → WorkKnows told dirty marks log job.course job.work
    → TidyFolder job.work dirty → WorkLeads job (Ended Finished part) new dirty dirty_after log now → HasName m.pair.source × (HasName m.pair.target × ((movings.is_dirty m.stage ≡ false) × IsMovedIn told marks log m))
moved_left told dirty dirty_after marks log now job new part m is on knows tidy works =
    let known : MoveKnown told marks log GoesOn m = subst (λ x. WorkKnows told dirty marks log GoesOn x) is (subst (λ x. WorkKnows told dirty marks log x job.work) on knows) in
    let renamed : is_moved m.stage ≡ true = subst (λ x. TidyFolder x dirty) is tidy in
    let tells : TellsOn GoesOn job (Ended Finished part) new = subst (λ x. TellsOn x job (Ended Finished part) new) on works.tells in
    (known.source, (known.target, (done_moving m.stage (move_done job.replies m tells.0 part (subst (λ x. WorkTells job.replies x (Ended Finished part) tells.0) is tells.1)) renamed, known.moved refl renamed)))

pub paths_left : (opening now after : CallLog) (newest : List Entry) (stand : Stand) (dirty : List Route) (job new : Running) (part : Option Route) (path : Route) → IsTree (current opening) → all_settled opening.changes ≡ true → IsTraced opening newest stand now
    → stand.jobs ≡ job ∷ [] → WorkLeads job (Ended Finished part) new stand.dirty dirty now after → has_changed job.id newest ≡ true
    → (touches (item_in job.work) path ≡ true) ⊎ IsPartStill newest job path → (way_waits now path ≡ false) × ((Among (named_parts newest) path → ⊥) → (IsNoMatter job.work now path → ⊥) → is_unsettled now path ≡ false)
paths_left opening now after newest stand dirty job new part path tree settled traced jobs_is works changed own =
    left_of opening now newest stand path tree settled traced job firm.sure left.2 (tidy.sure changed) (tidy.calm changed) (whole job.work refl) job.work refl own
  where
    r : IsReached opening newest stand now
    r = traced_reached opening tree settled newest stand now traced

    firm : IsSureFolder now (changed_folder job.work)
    firm = r.kept.known.stand (changed_folder job.work) (finished_folder opening tree settled newest stand now job traced jobs_is changed)

    tidy : IsTidyJob opening newest stand.dirty now job
    tidy = subst (λ js. AreTidy opening newest stand.dirty now js) jobs_is (traced_tidy opening tree settled newest stand now traced)

    left : (job.course ≡ GoesOn) × TidyFolder job.work stand.dirty × (knows_calm job.work ≡ false → (q : Route) → is_own job.work q ≡ true → Among stand.dirty q → ⊥)
    left = finished_tidy opening newest stand.dirty dirty now job new part (Some now) (Some after) job.course refl works.tells works.leaves tidy changed

    knows : WorkKnows (told_of opening now newest r.part) stand.dirty r.marks now job.course job.work
    knows = subst (λ js. JobsKnow (told_of opening now newest r.part) stand.dirty r.marks now js) jobs_is r.knows

    whole : (work : Work) → job.work ≡ work → IsWhole opening now newest stand path tree settled traced job.work
    whole (Copy c) is = subst (λ w. IsWhole opening now newest stand path tree settled traced w) (sym is) (whole_left (told_of opening now newest r.part) stand.dirty dirty r.marks now after job new part c is left.0 knows left.1 works)
    whole (Move m) is = subst (λ w. IsWhole opening now newest stand path tree settled traced w) (sym is) (moved_left (told_of opening now newest r.part) stand.dirty dirty r.marks now after job new part m is left.0 knows left.1 works)
    whole (Delete d) is = subst (λ w. IsWhole opening now newest stand path tree settled traced w) (sym is) tt
    whole (Make m) is = subst (λ w. IsWhole opening now newest stand path tree settled traced w) (sym is) tt
    whole (SetMode s) is = subst (λ w. IsWhole opening now newest stand path tree settled traced w) (sym is) tt
    whole (RemoveEmptied r) is = subst (λ w. IsWhole opening now newest stand path tree settled traced w) (sym is) tt
