-- Each step of a move keeps what is known.
use Rattle.std.proofs.Common.{◌≡◌, ◌⊎◌, ℕ, Bool, true, false, List, [], ◌∷◌, ◌++◌, refl, sym, ◌∙◌, ap, subst, inl, inr, Option, Some, None, Ok}
use Rattle.std.specs.Prelude.{if◌then◌else◌, not, unwrap_or}
use Rattle.std.proofs.lemmas.Bool.{true≢false, false≢true, both_ways}
use Rattle.mc_text.specs.Routes.{Route, same_path}
use Rattle.tree_trait.specs.declared.calls.TreeError.{TreeError}
use Rattle.tree_trait.specs.FileSystem.{find, node}
use Rattle.tree_trait.specs.Calls.{Rename, SyncFolder}
use Rattle.tree_trait.specs.Change.{Nothing, Syncs, CallLog, current, found_node, with_change}
use Rattle.tree_trait.specs.Refusals.{folder_kind, is_folder}
use Rattle.tree_trait.specs.CrashImages.{Among}
use Rattle.tree_trait.specs.Answers.{Performs}
use Rattle.tree_trait.proofs.Visible.{same_path-true}
use Rattle.laws_crash.specs.Guarded.{Marks}
use Rattle.laws_crash.proofs.Leading.{current_more}
use Rattle.job_answers.specs.declared.replies.Replies.{Replies}
use Rattle.job_reports.specs.declared.job.Pair.{Pair}
use Rattle.job_reports.specs.declared.report.Cause.{Cause}
use Rattle.job_reports.specs.declared.report.Ending.{Ending}
use Rattle.job_reports.specs.declared.report.Ending.TheVariants.{Finished, Aborted, Killed, NoMemory}
use Rattle.job_reports.specs.declared.report.Did.{Did}
use Rattle.job_reports.specs.declared.report.Did.TheVariants.{Began, Chunk, Placed, Removed, Made, Set, Kept, Skipped, Cleaned, Barrier, Asked, Merges, Moved, Troubled, Ended}
use Rattle.job_reports.specs.Paths.{folder_of, without}
use Rattle.job_reports.proofs.PermittedCalls.{stat_missing}
use Rattle.job_reports.proofs.CallAnswers.{done_call, some_log}
use Rattle.job_unsynced.specs.Folders.{joined_folders}
use Rattle.move_job.specs.declared.moving.MovingStage.{MovingStage}
use Rattle.move_job.specs.declared.moving.MovingStage.TheVariants.{Take, SyncTarget, SyncSource, Finish, PassedOver}
use Rattle.move_job.specs.Takings.{MayMove}
use Rattle.move_job.specs.Movings.{LastMovingCalls, Moving, MovingCalls, MovingLeaves, Stops, Tells, Winds, after_sync, after_target, is_dirty, is_fresh, owed_folder, owed_in, skipped_stage, with_moves}
use Rattle.copy_move.specs.declared.work.Work.{Work}
use Rattle.copy_move.specs.declared.work.Work.TheVariants.{Move}
use Rattle.copy_move.specs.declared.run.Course.{Course}
use Rattle.copy_move.specs.declared.run.Course.TheVariants.{GoesOn, Ends}
use Rattle.delete_job.specs.DeletionSteps.{after_try}
use Rattle.copy_move.specs.Jobs.{course_after}
use Rattle.copy_move.specs.Settling.{NoneOwed}
use Rattle.laws_sessions.proofs.AtRest.{RestsBelow}
use Rattle.laws_sessions.proofs.Calming.{cleared_known, refused_is}
use Rattle.laws_sessions.proofs.Changing.{some_is}
use Rattle.laws_sessions.proofs.Deleted.{comes_refused}
use Rattle.laws_sessions.proofs.DeletionSteps.{Steps, ends, joined_holds, joined_more, stands, tried}
use Rattle.laws_sessions.proofs.JobKnows.{NoneOver, WorkKnows, none_left, none_over}
use Rattle.laws_sessions.proofs.Knowing.{IsKept, IsKnown, HistoryFacts}
use Rattle.laws_sessions.proofs.MoveKnown.{IsMovedIn, MoveKnown, is_moved, move_at, move_course, move_settled, moved_on, moved_same, owed_nodes}
use Rattle.laws_sessions.proofs.MovingThings.{pair_of, said_thing_moved}
use Rattle.laws_sessions.proofs.RenamingThings.{thing_moves}
use Rattle.laws_sessions.proofs.NameWaits.{NameWaits, waits_once, waits_synced}
use Rattle.laws_sessions.proofs.Stepped.{StepRan, comes_one, said_after}
use Rattle.laws_sessions.proofs.ThingRests.{source_rests}
use Rattle.laws_sessions.proofs.TreeKnown.{is_over}

-- dirty paths, without one and once more without it
without_twice : (up : Route) (paths : List Route) → without up (without up paths) ≡ without up paths
without_twice up [] = refl
without_twice up (first ∷ paths) = by (same_path first up) refl (without_twice up paths)
  where
    by : (b : Bool) → same_path first up ≡ b → without up (without up paths) ≡ without up paths → without up (if◌then◌else◌ (not b) (first ∷ without up paths) (without up paths)) ≡ if◌then◌else◌ (not b) (first ∷ without up paths) (without up paths)
    by true is same = same
    by false is same = ap (λ b. if◌then◌else◌ (not b) (first ∷ without up (without up paths)) (without up (without up paths))) is ∙ ap (λ xs. (let l : List Route = first ∷ xs in l)) same

module _ (told : HistoryFacts) (dirty dirty_after : List Route) (marks : Marks) (log now : CallLog) (kept : IsKept told dirty marks log) where
  abbrev In : Did → Course → Work → Work → Type 0
  In did course work new = Steps told dirty dirty_after marks log now kept did course work new

  -- it was renamed
  abbrev Renamed : Work → Pair → Type 0
  Renamed work pair =
      StepRan told (said_after now (Moved pair) work told) dirty_after log now (λ m. MoveKnown (said_after now (Moved pair) work told) m now GoesOn (record { pair = pair; stage = SyncTarget }))

  abbrev Renames : Pair → Type 0
  Renames pair =
      (same_path pair.source pair.target ≡ false) × NoneOver (current log) (folder_of pair.target) dirty × NoneOver (current log) (folder_of pair.source) dirty × (is_folder (node (current log) (found_node (current log) pair.source)) ≡ true → find (current log) pair.target ≡ None)
      × RestsBelow marks log pair.source × (dirty_after ≡ joined_folders (folder_of pair.source) (joined_folders (folder_of pair.target) dirty)) × Performs {A = Unit {0}} log (Rename pair.source pair.target) (Ok tt) (Some now)

  renamed_at : (work : Work) (old : List ℕ) (from : Route) (new : List ℕ) (to : Route) → told.part ≡ None → Renames (pair_of (old ∷ from) (new ∷ to)) → Renamed work (pair_of (old ∷ from) (new ∷ to))
  renamed_at work old from new to none (other, owed, owed_from, free, rests, routes, done) =
      thing_moves told dirty dirty_after marks log now kept old from new to none other owed owed_from free rests
      (subst (λ xs. Among xs from) (sym routes) (joined_holds from (joined_folders to dirty)))
      (subst (λ xs. Among xs to) (sym routes) (joined_more from to (joined_folders to dirty) (joined_holds to dirty)))
      (λ q among. subst (λ xs. Among xs q) (sym routes) (joined_more from q (joined_folders to dirty) (joined_more to q dirty among)))
      done
      (λ m. MoveKnown (said_thing_moved told old from new to) m now GoesOn (record { pair = pair_of (old ∷ from) (new ∷ to); stage = SyncTarget }))
      (λ m moved. record { source = record { name = old; is = refl }; target = record { name = new; is = refl }; none = none; other = other; moved = λ on is. moved })

  renamed_by : (work : Work) (w : Moving) → MoveKnown told marks log GoesOn w → Renames w.pair → Renamed work w.pair
  renamed_by work w k renames =
      let spelled : w.pair ≡ pair_of (k.source.name ∷ folder_of w.pair.source) (k.target.name ∷ folder_of w.pair.target) =
      ap (λ s. pair_of s w.pair.target) k.source.is ∙ ap (λ t. pair_of (k.source.name ∷ folder_of w.pair.source) t) k.target.is in
      subst (λ p. Renamed work p) (sym spelled)
      (renamed_at work k.source.name (folder_of w.pair.source) k.target.name (folder_of w.pair.target) k.none (subst (λ p. Renames p) spelled renames))

  -- nothing stands where a folder is moved
  pub free_target : (pair : Pair) (replies : Replies) → MayMove (current log) pair replies → is_folder (node (current log) (found_node (current log) pair.source)) ≡ true → find (current log) pair.target ≡ None
  free_target pair replies may folder = elim may.free [
    | inl missing ↦ stat_missing (current log) pair.target missing
    | inr decided ↦ (let d = decided.1 in absurd (both_ways _ (ap folder_kind (sym d.of_source.is.kind) ∙ d.single) folder))
  ]

  -- one of its folders was synced
  move_synced : (up : Route) (i : ℕ) (new : Moving) → find (current log) up ≡ Some i → Performs {A = Unit {0}} log (SyncFolder up) (Ok tt) (Some now) → dirty_after ≡ without up dirty → MoveKnown told marks (with_change log (Syncs i)) GoesOn new
      → StepRan told told dirty_after log now (λ m. MoveKnown told m now GoesOn new)
  move_synced up i new at done routes knows =
      let d = done_call log (SyncFolder up) now done in
      let is : now ≡ with_change log (Syncs i) = d.is ∙ ap (λ j. with_change log (Syncs j)) (ap (λ o. unwrap_or o 0) at) in
      subst (λ xs. StepRan told told xs log now (λ m. MoveKnown told m now GoesOn new)) (sym routes)
      (comes_one told told dirty (without up dirty) marks marks log now (Syncs i) (λ m. MoveKnown told m now GoesOn new) kept is
      (subst (λ (l : CallLog). IsKnown told (without up dirty) marks l) (sym is) (cleared_known told dirty marks log kept.known up i at))
      (move_settled now marks told GoesOn new (subst (λ (l : CallLog). MoveKnown told marks l GoesOn new) (sym is) knows)))

  -- what is known at a later stage, after that sync
  synced_knows : (i : ℕ) (w new : Moving) (stage : MovingStage) → new ≡ record w { stage = stage } → MoveKnown told marks log GoesOn w → (h : IsMovedIn told marks log w)
      → ((j : ℕ) (name : List ℕ) → NameWaits log j name (owed_nodes w.stage (let x : IsMovedIn told marks log w = h in x.f) (let x : IsMovedIn told marks log w = h in x.g))
      → NameWaits (with_change log (Syncs i)) j name (owed_nodes stage (let x : IsMovedIn told marks log w = h in x.f) (let x : IsMovedIn told marks log w = h in x.g))) → MoveKnown told marks (with_change log (Syncs i)) GoesOn new
  synced_knows i w new stage is k h to = subst (λ (x : Moving). MoveKnown told marks (with_change log (Syncs i)) GoesOn x) (sym is) (record {
    source = k.source;
    target = k.target;
    none = k.none;
    other = k.other;
    moved = λ on moved. moved_on told marks log (Syncs i) (current_more log (Syncs i)) (λ j. refl) (λ j l. refl) w (record w { stage = stage }) refl h (λ name at. to h.f name (h.source_waits name at)) (λ name at. to h.g name (h.target_waits name at));
  })

  -- The target's folder was synced; where it holds both names, so was the other.
  target_synced : (w new : Moving) → w.stage ≡ SyncTarget → new ≡ record w { stage = after_target w.pair } → MoveKnown told marks log GoesOn w → Performs {A = Unit {0}} log (SyncFolder (folder_of w.pair.target)) (Ok tt) (Some now)
      → dirty_after ≡ with_moves SyncTarget (after_target w.pair) w.pair dirty → StepRan told told dirty_after log now (λ m. MoveKnown told m now GoesOn new)
  target_synced w new at new_is k done leaves = by (same_path (folder_of w.pair.target) (folder_of w.pair.source)) refl
    where
      h : IsMovedIn told marks log w
      h = k.moved refl (ap is_moved at)

      by : (b : Bool) → same_path (folder_of w.pair.target) (folder_of w.pair.source) ≡ b → StepRan told told dirty_after log now (λ m. MoveKnown told m now GoesOn new)
      by false apart =
          move_synced (folder_of w.pair.target) h.g new h.to done (leaves ∙ ap (λ b. with_moves SyncTarget (if◌then◌else◌ b Finish SyncSource) w.pair dirty) apart)
          (synced_knows h.g w new SyncSource (new_is ∙ ap (λ b. (let x : Moving = record w { stage = if◌then◌else◌ b Finish SyncSource } in x)) apart) k h
          (λ j name waits. waits_synced j name log h.g (h.f ∷ []) (subst (λ x. NameWaits log j name (owed_nodes x h.f h.g)) at waits)))
      by true same =
          let alike = same_path-true (folder_of w.pair.target) (folder_of w.pair.source) same in
          let one : h.g ≡ h.f = some_is h.f h.g (sym h.from ∙ (ap (find (current log)) (sym alike) ∙ h.to)) in
          move_synced (folder_of w.pair.target) h.g new h.to done
          (leaves ∙ (ap (λ b. with_moves SyncTarget (if◌then◌else◌ b Finish SyncSource) w.pair dirty) same
          ∙ (ap (λ up. without up (without (folder_of w.pair.target) dirty)) (sym alike) ∙ without_twice (folder_of w.pair.target) dirty)))
          (synced_knows h.g w new Finish (new_is ∙ ap (λ b. (let x : Moving = record w { stage = if◌then◌else◌ b Finish SyncSource } in x)) same) k h
          (λ j name waits. waits_once j name log h.g (subst (λ l. NameWaits log j name (h.g ∷ l ∷ [])) (sym one) (subst (λ x. NameWaits log j name (owed_nodes x h.f h.g)) at waits))))

  -- and then the source's
  source_synced : (w new : Moving) → w.stage ≡ SyncSource → new ≡ record w { stage = Finish } → MoveKnown told marks log GoesOn w → Performs {A = Unit {0}} log (SyncFolder (folder_of w.pair.source)) (Ok tt) (Some now)
      → dirty_after ≡ without (folder_of w.pair.source) dirty → StepRan told told dirty_after log now (λ m. MoveKnown told m now GoesOn new)
  source_synced w new at new_is k done leaves =
      let h = k.moved refl (ap is_moved at) in
      move_synced (folder_of w.pair.source) h.f new h.from done leaves
      (synced_knows h.f w new Finish new_is k h (λ j name waits. waits_synced j name log h.f [] (subst (λ x. NameWaits log j name (owed_nodes x h.f h.g)) at waits)))

  folder_synced : (w new : Moving) (stage : MovingStage) → w.stage ≡ stage → is_dirty stage ≡ true → new ≡ record w { stage = after_sync w.pair stage } → MoveKnown told marks log GoesOn w
      → Performs {A = Unit {0}} log (SyncFolder (owed_in w.pair stage)) (Ok tt) (Some now) → dirty_after ≡ with_moves stage (after_sync w.pair stage) w.pair dirty → StepRan told told dirty_after log now (λ m. MoveKnown told m now GoesOn new)
  folder_synced w new Take at owes new_is k done leaves = absurd (false≢true owes)
  folder_synced w new SyncTarget at owes new_is k done leaves = target_synced w new at new_is k done leaves
  folder_synced w new SyncSource at owes new_is k done leaves = source_synced w new at new_is k done leaves
  folder_synced w new Finish at owes new_is k done leaves = absurd (false≢true owes)
  folder_synced w new PassedOver at owes new_is k done leaves = absurd (false≢true owes)

  -- a call, or a look before it, that was refused changes nothing
  stops_same : (w : Moving) (replies : Replies) (stage : MovingStage) (cause : Cause) (path : Option Route) → Stops w replies stage cause path log (Some now) → (now ≡ log) ⊎ (now ≡ with_change log Nothing)
  stops_same w replies Take cause path (inl look) = inl (some_log now log look.1)
  stops_same w replies Take cause path (inr s) = refused_is log now (Rename w.pair.source w.pair.target) s.error (λ x left. refl) s.called
  stops_same w replies SyncTarget cause path s = refused_is log now (SyncFolder (owed_folder w)) s.error (λ x left. refl) s.called
  stops_same w replies SyncSource cause path s = refused_is log now (SyncFolder (owed_folder w)) s.error (λ x left. refl) s.called
  stops_same w replies Finish cause path s = refused_is log now (SyncFolder (owed_folder w)) s.error (λ x left. refl) s.called
  stops_same w replies PassedOver cause path s = refused_is log now (SyncFolder (owed_folder w)) s.error (λ x left. refl) s.called

  -- at the stage where it is left the dirty folders are as they were
  left_dirty : (stage : MovingStage) (pair : Pair) → with_moves stage stage pair dirty ≡ dirty
  left_dirty Take pair = refl
  left_dirty SyncTarget pair = refl
  left_dirty SyncSource pair = refl
  left_dirty Finish pair = refl
  left_dirty PassedOver pair = refl

  still_dirty : (w new : Moving) → new ≡ w → dirty_after ≡ with_moves w.stage new.stage w.pair dirty → dirty_after ≡ dirty
  still_dirty w new is leaves = leaves ∙ (ap (λ (x : Moving). with_moves w.stage x.stage w.pair dirty) is ∙ left_dirty w.stage w.pair)

  -- a move that is kept or passed over makes nothing dirty
  passed_dirty : (w new : Moving) → w.stage ≡ Take → new ≡ record w { stage = PassedOver } → dirty_after ≡ with_moves w.stage new.stage w.pair dirty → dirty_after ≡ dirty
  passed_dirty w new at is leaves = leaves ∙ (ap (λ (x : Moving). with_moves w.stage x.stage w.pair dirty) is ∙ ap (λ x. with_moves x PassedOver w.pair dirty) at)

  -- what is known of one that is passed over
  passed_knows : (course : Course) (w new : Moving) → new ≡ record w { stage = PassedOver } → MoveKnown told marks log course w → MoveKnown told marks log GoesOn new
  passed_knows course w new is k = move_at told marks log course GoesOn w new PassedOver is (λ on moved. absurd (false≢true moved)) k

  -- a refusal, after which the move stands so
  refused_at : (course : Course) (new : Moving) → MoveKnown told marks log course new → (now ≡ log) ⊎ (now ≡ with_change log Nothing) → dirty_after ≡ dirty → StepRan told told dirty_after log now (λ m. MoveKnown told m now course new)
  refused_at course new k how routes =
      subst (λ xs. StepRan told told xs log now (λ m. MoveKnown told m now course new)) (sym routes) (comes_refused told dirty marks log now course (Move new) kept k how)

  pub moving_tells : (replies : Replies) (w new : Moving) (did : Did) → WorkKnows told dirty marks log GoesOn (Move w) → Tells replies w did new → MovingCalls replies w did log (Some now)
      → (is_fresh w.stage ≡ true → NoneOwed (current log) (Move w) dirty) → dirty_after ≡ with_moves w.stage new.stage w.pair dirty
      → In did (course_after did) (Move w) (Move new)
  moving_tells replies w new (Moved pair) k (stage, pair_is, new_is) (may, done) settled leaves =
      subst (λ p. In (Moved p) GoesOn (Move w) (Move new)) (sym pair_is)
      (subst (λ (x : Moving). In (Moved w.pair) GoesOn (Move w) (Move x)) (sym new_is)
      (renamed_by (Move w) w k (
        k.other,
        none_over (current log) (Move w) dirty (settled (ap is_fresh stage)),
        none_left (current log) (Move w) dirty (settled (ap is_fresh stage)),
        free_target w.pair replies may,
        source_rests told dirty marks log kept w k.source (settled (ap is_fresh stage)),
        leaves ∙ (ap (λ x. with_moves x new.stage w.pair dirty) stage ∙ ap (λ (x : Moving). with_moves Take x.stage w.pair dirty) new_is),
        done,
      )))
  moving_tells replies w new (Kept path) k (stage, path_is, new_is) calls settled leaves =
      stands told dirty dirty_after marks log now kept GoesOn (Move new) (passed_knows GoesOn w new new_is k) (passed_dirty w new stage new_is leaves) (some_log now log calls.1)
  moving_tells replies w new (Skipped path cause) k (stage, path_is, passes, new_is) (named, stops) settled leaves =
      refused_at GoesOn new (passed_knows GoesOn w new new_is k) (stops_same w replies w.stage cause named stops) (passed_dirty w new stage new_is leaves)
  moving_tells replies w new Barrier k (owes, new_is) done settled leaves =
      folder_synced w new w.stage refl owes new_is k done (leaves ∙ ap (λ (x : Moving). with_moves w.stage x.stage w.pair dirty) new_is)
  moving_tells replies w new (Asked question) k (stage, new_is) calls settled leaves =
      stands told dirty dirty_after marks log now kept (course_after (Asked question)) (Move new) (subst (λ (x : Moving). MoveKnown told marks log (course_after (Asked question)) x) (sym new_is) (move_course told marks log GoesOn (course_after (Asked question)) w (λ on. refl) k))
      (still_dirty w new new_is leaves) (some_log now log calls.1)
  moving_tells replies w new (Troubled trouble) k (at, going, why, new_is) stops settled leaves =
      refused_at (course_after (Troubled trouble)) new (subst (λ (x : Moving). MoveKnown told marks log (course_after (Troubled trouble)) x) (sym new_is) (move_course told marks log GoesOn (course_after (Troubled trouble)) w (λ on. refl) k))
      (stops_same w replies w.stage trouble.cause trouble.path stops) (still_dirty w new new_is leaves)
  moving_tells replies w new (Ended Finished part) k (over, part_is, new_is) calls settled leaves =
      subst (λ o. In (Ended Finished o) GoesOn (Move w) (Move new)) (sym part_is) (ends told dirty dirty_after marks log now kept (Move w) k.none (still_dirty w new new_is leaves) (some_log now log calls))
  moving_tells replies w new (Ended Aborted part) k tells calls settled leaves = absurd tells
  moving_tells replies w new (Ended Killed part) k tells calls settled leaves = absurd tells
  moving_tells replies w new (Ended NoMemory part) k tells calls settled leaves = absurd tells
  moving_tells replies w new (Began part) k tells calls settled leaves = absurd tells
  moving_tells replies w new (Chunk count) k tells calls settled leaves = absurd tells
  moving_tells replies w new (Set path) k tells calls settled leaves = absurd tells
  moving_tells replies w new (Placed path) k tells calls settled leaves = absurd tells
  moving_tells replies w new (Removed path) k tells calls settled leaves = absurd tells
  moving_tells replies w new (Made path) k tells calls settled leaves = absurd tells
  moving_tells replies w new (Merges transfer pair names) k (stage, merges, new_is) calls settled leaves =
      stands told dirty dirty_after marks log now kept GoesOn (Move new) (passed_knows GoesOn w new new_is k) (passed_dirty w new stage new_is leaves) (some_log now log calls.1)
  moving_tells replies w new (Cleaned part) k tells calls settled leaves = absurd tells

  -- what is known of one in its last steps
  last_knows : (ending : Ending) (w new : Moving) (stage : MovingStage) → new ≡ record w { stage = stage } → MoveKnown told marks log (Ends ending) w → MoveKnown told marks log (Ends ending) new
  last_knows ending w new stage is k = move_at told marks log (Ends ending) (Ends ending) w new stage is (λ on. absurd (true≢false on)) k

  pub moving_winds : (w new : Moving) (ending : Ending) (did : Did) (left : Option TreeError) (folder : Route) → WorkKnows told dirty marks log (Ends ending) (Move w) → Winds ending w did new
      → (folder ≡ owed_folder w) × MovingLeaves w did left log (Some now) → LastMovingCalls w did log (Some now) → dirty_after ≡ after_try did left folder dirty
      → In did (Ends ending) (Move w) (Move new)
  moving_winds w new ending Barrier left folder k (owes, new_is) (folder_is, answer) calls leaves =
      tried told dirty dirty_after marks log now kept (owed_folder w) left (Ends ending) (Move new) (λ routes. last_knows ending w new (after_sync w.pair w.stage) new_is k) answer
      (leaves ∙ ap (λ up. after_try Barrier left up dirty) folder_is)
  moving_winds w new ending (Ended how part) left folder k (clean, how_is, part_is, new_is) answer calls leaves =
      subst (λ o. In (Ended how o) (Ends ending) (Move w) (Move new)) (sym part_is) (ends told dirty dirty_after marks log now kept (Move w) k.none leaves (some_log now log calls))
  moving_winds w new ending (Began part) left folder k winds answer calls leaves = absurd winds
  moving_winds w new ending (Chunk count) left folder k winds answer calls leaves = absurd winds
  moving_winds w new ending (Set path) left folder k winds answer calls leaves = absurd winds
  moving_winds w new ending (Placed path) left folder k winds answer calls leaves = absurd winds
  moving_winds w new ending (Removed path) left folder k winds answer calls leaves = absurd winds
  moving_winds w new ending (Made path) left folder k winds answer calls leaves = absurd winds
  moving_winds w new ending (Kept path) left folder k winds answer calls leaves = absurd winds
  moving_winds w new ending (Asked question) left folder k winds answer calls leaves = absurd winds
  moving_winds w new ending (Merges transfer pair names) left folder k winds answer calls leaves = absurd winds
  moving_winds w new ending (Moved pair) left folder k winds answer calls leaves = absurd winds
  moving_winds w new ending (Skipped path cause) left folder k winds answer calls leaves = absurd winds
  moving_winds w new ending (Cleaned part) left folder k winds answer calls leaves = absurd winds
  moving_winds w new ending (Troubled trouble) left folder k winds answer calls leaves = absurd winds

-- a skip leaves a thing that was renamed where it stands
skipped_same : (stage : MovingStage) → is_moved (skipped_stage stage) ≡ true → skipped_stage stage ≡ stage
skipped_same Take moved = absurd (false≢true moved)
skipped_same SyncTarget moved = refl
skipped_same SyncSource moved = refl
skipped_same Finish moved = refl
skipped_same PassedOver moved = refl

pub moving_skipped : (told : HistoryFacts) (marks : Marks) (log : CallLog) (course : Course) (w new : Moving) → is_over course ≡ false → new ≡ record w { stage = skipped_stage w.stage } → MoveKnown told marks log course w → MoveKnown told marks log GoesOn new
moving_skipped told marks log course w new going is k =
    move_at told marks log course GoesOn w new (skipped_stage w.stage) is (λ on moved.
    let same = skipped_same w.stage moved in
    moved_same told marks log w new (ap (λ (x : Moving). x.pair) is) (ap (λ (x : Moving). x.stage) is ∙ same) (k.moved going (ap is_moved (sym same) ∙ moved))) k
