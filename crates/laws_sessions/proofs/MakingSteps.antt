-- Each step of the making of a thing keeps what is known.
use Rattle.std.proofs.Common.{◌≡◌, ◌⊎◌, ℕ, ℤ, true, false, ◌||◌, List, [], ◌∷◌, refl, sym, ◌∙◌, ap, subst, inl, inr, Option, Some, None, Ok, Err, arith, pos}
use Rattle.std.specs.Prelude.{option_and_then}
use Rattle.std.proofs.lemmas.Bool.{both_ways, false_from_ne_true, or_left, or_right, or_parts}
use Rattle.mc_text.specs.declared.kind.Kind.TheVariants as kind
use Rattle.mc_text.specs.Routes.{Route, same_path}
use Rattle.tree_trait.specs.declared.file_system.Node.{Node}
use Rattle.tree_trait.specs.declared.calls.TreeError.{TreeError}
use Rattle.tree_trait.specs.declared.file_system.FileSystem.{FileSystem}
use Rattle.tree_trait.specs.FileSystem.{Spot, View, find, lookup, value}
use Rattle.tree_trait.specs.Calls.{SyncFolder}
use Rattle.tree_trait.specs.Change.{Makes, Nothing, CallLog, change_of, current, found_node, torn_write, with_change}
use Rattle.tree_trait.specs.Refusals.{refusal_of}
use Rattle.tree_trait.specs.CrashImages.{Among}
use Rattle.tree_trait.specs.Answers.{Performs}
use Rattle.tree_trait.proofs.Visible.{same_path-self, same_path-true}
use Rattle.laws_crash.specs.Guarded.{Marks}
use Rattle.job_reports.specs.declared.report.Ending.{Ending}
use Rattle.job_reports.specs.declared.report.Ending.TheVariants.{Finished, Aborted, Killed, NoMemory}
use Rattle.job_reports.specs.declared.report.Did.{Did}
use Rattle.job_reports.specs.declared.report.Did.TheVariants.{Began, Chunk, Placed, Removed, Made, Set, Kept, Skipped, Cleaned, Barrier, Asked, Merges, Moved, Troubled, Ended}
use Rattle.job_reports.specs.Jobs.{folder_changed, new_folder_mode}
use Rattle.job_reports.specs.Paths.{folder_of, without}
use Rattle.job_reports.specs.Stops.{sync_answer}
use Rattle.job_reports.proofs.CallAnswers.{IsDoneCall, done_call, some_log}
use Rattle.job_reports.proofs.PermittedCalls.{IsMaking, making_passes}
use Rattle.make_job.specs.declared.making.MakingStage.{MakingStage}
use Rattle.make_job.specs.declared.making.MakingStage.TheVariants as making
use Rattle.make_job.specs.declared.new_thing.NewThing.{NewThing}
use Rattle.make_job.specs.declared.new_thing.NewThing.TheVariants as thing
use Rattle.copy_move.specs.declared.work.Work.{Work}
use Rattle.copy_move.specs.declared.work.Work.TheVariants.{Make}
use Rattle.copy_move.specs.declared.run.Course.{Course}
use Rattle.copy_move.specs.declared.run.Course.TheVariants.{GoesOn, Ends}
use Rattle.delete_job.specs.DeletionSteps.{after_try}
use Rattle.make_job.specs.Makings.{Answers, LastMakingCalls, Making, MakingCalls, MakingLeaves, Tells, Winds, call_of, is_fresh, sync_of}
use Rattle.make_job.specs.Makings as makings
use Rattle.make_job.specs.NewThings.{making_call}
use Rattle.copy_move.specs.Jobs.{course_after}
use Rattle.copy_move.specs.Settling.{with_change as moves_dirty}
use Rattle.laws_sessions.specs.Replayed.{made_by}
use Rattle.laws_sessions.specs.Doubt.{name_waits}
use Rattle.laws_sessions.proofs.Calming.{refused_is, still_listed}
use Rattle.laws_sessions.proofs.Changing.{seen_nowhere}
use Rattle.laws_sessions.proofs.Deleted.{comes_refused, either, put_at, put_off}
use Rattle.laws_sessions.proofs.DeletionSteps.{Steps, ends, joined_holds, joined_more, same_dirty, tried}
use Rattle.job_unsynced.specs.Folders.{joined_folders}
use Rattle.laws_sessions.proofs.JobKnows.{HasName, IsUntouched, KnowsAfter, NoneOver, WorkKnows, none_waits, over_it, untouched_free, way_sure}
use Rattle.laws_sessions.proofs.Knowing.{IsCalmPath, IsKept, IsKnown, HistoryFacts, nowhere, settled_marks}
use Rattle.laws_sessions.proofs.MakingThings.{marks_born, new_node, thing_made_known}
use Rattle.laws_sessions.proofs.OwnNames.{may_change}
use Rattle.laws_sessions.proofs.Resting.{IsSureFolder, folder_at_of, sure_path}
use Rattle.laws_sessions.proofs.Sources.{folder_is, item_in, making_changed, making_item}
use Rattle.laws_sessions.proofs.Stepped.{StepRan, comes_one, said_after}
use Rattle.laws_sessions.proofs.WaitsAlone.{alone_calm}

-- what a new thing is
abbrev node_of : NewThing → Node
node_of thing.Folder = record { kind = kind.Folder; bytes = []; mode = new_folder_mode; mtime = pos 0; unnamed = 0 }
node_of (thing.Link text) = record { kind = kind.Link; bytes = text; mode = 0; mtime = pos 0; unnamed = 0 }

-- it is what the history says of its making
shown_as : (new : NewThing) (path made : Route) (v : View) → made_by (Some (making_item new path)) made v ≡ value (node_of new)
shown_as thing.Folder path made v = refl
shown_as (thing.Link text) path made v = refl

-- the call that makes it is refused as the making of a file is, and it is no write
thing_passes : (s : FileSystem) (new : NewThing) (name : List ℕ) (up : Route) → refusal_of s (making_call new (name ∷ up)) ≡ None → IsMaking s name up
thing_passes s thing.Folder name up h = making_passes s name up new_folder_mode h
thing_passes s (thing.Link text) name up h = making_passes s name up 0 h

thing_made : (s : FileSystem) (new : NewThing) (name : List ℕ) (up : Route) (time : ℤ) → change_of s (making_call new (name ∷ up)) time ≡ Makes (found_node s up) name (node_of new)
thing_made s thing.Folder name up time = refl
thing_made s (thing.Link text) name up time = refl

no_write : (new : NewThing) (path : Route) (s : FileSystem) (left : List ℕ) → torn_write s (making_call new path) left ≡ Nothing
no_write thing.Folder path s left = refl
no_write (thing.Link text) path s left = refl

-- a thing is made
module _ (told : HistoryFacts) (dirty dirty_after : List Route) (marks : Marks) (log now : CallLog) (name : List ℕ) (up : Route) (new : NewThing) (work : Work) (kept : IsKept told dirty marks log) (none : told.part ≡ None)
    (owed : NoneOver (current log) up dirty) (within : folder_changed (item_in work) ≡ up) (own : (p : Route) → may_change (item_in work) p ≡ true → p ≡ name ∷ up) (said_made : made_by (Some (item_in work)) (name ∷ up) told.tree ≡ value (node_of new)) (listed : Among dirty_after up) (more : (q : Route) → Among dirty q → Among dirty_after q)
    (done : Performs {A = Unit {0}} log (making_call new (name ∷ up)) (Ok tt) (Some now)) where
  abbrev made_path : Route
  made_path = name ∷ up

  abbrev after : HistoryFacts
  after = said_after now (Made made_path) work told

  d : IsDoneCall log (making_call new made_path) now
  d = done_call log (making_call new made_path) now done

  now_is : now ≡ with_change log (Makes (found_node (current log) up) name (node_of new))
  now_is = d.is ∙ ap (with_change log) (thing_made (current log) new name up d.time)

  passes : IsMaking (current log) name up
  passes = thing_passes (current log) new name up d.permits

  firm : IsSureFolder log up
  firm = record {
    stands = folder_at_of (current log) up (found_node (current log) up) passes.folder passes.holds;
    sure = way_sure told dirty marks log up kept.known owed;
  }

  was_free : find (current log) made_path ≡ None
  was_free = ap (option_and_then (λ g. lookup (current log).names g name)) passes.folder ∙ passes.none

  nameless : name_waits log made_path ≡ false
  nameless = none_waits told dirty marks log up kept.known (over_it (current log) up dirty owed) name

  calm : (p : Route) → may_change (item_in work) p ≡ true → IsCalmPath marks log p
  calm p here = subst (IsCalmPath marks log) (sym (own p here))
      (record { mode = λ i at. absurd (let e : (let o : Option ℕ = None in o) ≡ Some i = sym was_free ∙ at in let f : ⊥ = cc in f); alone = alone_calm log made_path nameless })

  untouched : IsUntouched marks (current log) made_path
  untouched = untouched_free told dirty marks log made_path kept (sure_path log made_path firm.sure nameless) was_free

  no_part : (p : Route) → told.part ≡ Some p → ⊥
  no_part p is = let e : (let o : Option Route = None in o) ≡ Some p = sym none ∙ is in cc

  -- the history said that nothing is there
  nothing_told : told.tree made_path ≡ nowhere
  nothing_told = sym (kept.known.shows made_path (no_part made_path)) ∙ seen_nowhere (current log) made_path was_free

  -- no part stands aside there
  other : (p : Route) → marks.aside p ≡ true → same_path p made_path ≡ false
  other p aside = false_from_ne_true _ (λ same. both_ways _ (ap marks.aside (same_path-true p made_path same) ∙ untouched.out) aside)

  known_then : IsKnown after dirty_after (marks_born marks (new_node log)) (with_change log (Makes (found_node (current log) up) name (node_of new)))
  known_then = thing_made_known told after dirty dirty_after marks log kept.known kept.roams name up (found_node (current log) up) (node_of new) (record {
    none = none;
    firm = firm;
    at = passes.folder;
    holds = passes.holds;
    free = passes.none;
    was = untouched.was;
    left = λ p aside. (other p aside, λ among. among);
    named = λ p aside. still_listed made_path p told.named (kept.known.aside p aside) (other p aside);
    off = λ p off. (put_off told.tree made_path (Some (made_by (Some (item_in work)) made_path told.tree)) p off, put_off told.earlier made_path (told.tree made_path).value p off);
    shown = put_at told.tree made_path (Some (made_by (Some (item_in work)) made_path told.tree)) ∙ ap (λ (s : Spot). (let t : Spot = record { value = Some (made_by (Some (item_in work)) made_path told.tree); is_mount = s.is_mount } in t)) nothing_told
        ∙ ap (λ v. (let t : Spot = record { value = Some v; is_mount = false } in t)) said_made;
    earlier = ap (λ (s : Spot). s.value) (put_at told.earlier made_path (told.tree made_path).value) ∙ ap (λ (s : Spot). s.value) nothing_told;
    no_part = none;
    doubts = λ n p h. or_left _ _ h;
    doubted = λ n. or_right _ _ (same_path-self made_path);
    spared = λ n p off. or_parts (told.written n p) (same_path p made_path) off;
    modes = λ p h. h;
    calm = λ p there. elim (either (may_change (item_in work) p) (told.calm p) there) [ inl here ↦ inr (calm p here) | inr before ↦ inl before ];
    new_mode = kept.modes (new_node log) (kept.known.files.unborn (new_node log) (omega arith));
    folders = λ p there. elim (either (same_path p (folder_changed (item_in work)) || same_path p up) (told.folders p) there) [
      | inl here ↦ inr (elim (either (same_path p (folder_changed (item_in work))) (same_path p up) here) [
        | inl same ↦ same_path-true p (folder_changed (item_in work)) same ∙ within
        | inr same ↦ same_path-true p up same
      ])
      | inr before ↦ inl before
    ];
  }) listed more

  pub thing_is_made : (knows : Marks → Type 0) → ((m : Marks) → knows m) → StepRan told after dirty_after log now knows
  thing_is_made knows known_of =
      comes_one told after dirty dirty_after marks (marks_born marks (new_node log)) log now (Makes (found_node (current log) up) name (node_of new)) knows kept now_is
      (subst (λ (l : CallLog). IsKnown after dirty_after (marks_born marks (new_node log)) l) (sym now_is) known_then) (known_of (settled_marks now (marks_born marks (new_node log))))

module _ (told : HistoryFacts) (dirty dirty_after : List Route) (marks : Marks) (log now : CallLog) (kept : IsKept told dirty marks log) where
  abbrev In : Did → Course → Work → Work → Type 0
  In did course work new = Steps told dirty dirty_after marks log now kept did course work new

  -- the thing was made, by its last name
  made_at : (w new : Making) (name : HasName w.path) → told.part ≡ None → new ≡ record w { stage = making.Sync } → NoneOver (current log) (folder_of w.path) dirty → dirty_after ≡ joined_folders (folder_of w.path) dirty
      → Performs {A = Unit {0}} log (making_call w.thing w.path) (Ok tt) (Some now) → In (Made w.path) GoesOn (Make w) (Make new)
  made_at w new name none new_is owed routes done =
      let up = folder_of w.path in
      subst (λ q. StepRan told (said_after now (Made q) (Make w) told) dirty_after log now (KnowsAfter (Made q) (said_after now (Made q) (Make w) told) dirty_after now GoesOn (Make new))) (sym name.is)
      (thing_is_made told dirty dirty_after marks log now name.name up w.thing (Make w) kept none owed (folder_is (Make w)) (λ p own. same_path-true p w.path (making_changed w.thing w.path p own) ∙ name.is) (shown_as w.thing w.path (name.name ∷ up) told.tree)
      (subst (λ xs. Among xs up) (sym routes) (joined_holds up dirty)) (λ q among. subst (λ xs. Among xs q) (sym routes) (joined_more up q dirty among))
      (subst (λ q. Performs {A = Unit {0}} log (making_call w.thing q) (Ok tt) (Some now)) name.is done)
      (KnowsAfter (Made (name.name ∷ up)) (said_after now (Made (name.name ∷ up)) (Make w) told) dirty_after now GoesOn (Make new))
      (λ m. (subst (λ (x : Making). HasName x.path) (sym new_is) name, none)))

  pub making_tells : (w new : Making) (did : Did) → WorkKnows told dirty marks log GoesOn (Make w) → Tells w did new → MakingCalls w did log (Some now)
      → (is_fresh w.stage ≡ true → NoneOver (current log) (folder_of w.path) dirty) → dirty_after ≡ moves_dirty (makings.is_dirty w.stage) (makings.is_dirty new.stage) (folder_of w.path) dirty
      → In did (course_after did) (Make w) (Make new)
  making_tells w new (Made path) (name, none) (stage, path_is, new_is) done settled leaves =
      subst (λ q. In (Made q) GoesOn (Make w) (Make new)) (sym path_is) (made_at w new name none new_is (settled (ap is_fresh stage))
      (leaves ∙ (ap (λ x. moves_dirty (makings.is_dirty x) (makings.is_dirty new.stage) (folder_of w.path) dirty) stage ∙ ap (λ (x : Making). moves_dirty false (makings.is_dirty x.stage) (folder_of w.path) dirty) new_is))
      (subst (λ q. Performs {A = Unit {0}} log (making_call w.thing q) (Ok tt) (Some now)) path_is done))
  making_tells w new Barrier (name, none) (stage, new_is) done settled leaves =
      let routes : dirty_after ≡ without (folder_of w.path) dirty =
      leaves ∙ (ap (λ x. moves_dirty (makings.is_dirty x) (makings.is_dirty new.stage) (folder_of w.path) dirty) stage ∙ ap (λ (x : Making). moves_dirty true (makings.is_dirty x.stage) (folder_of w.path) dirty) new_is) in
      tried told dirty dirty_after marks log now kept (folder_of w.path) None GoesOn (Make new) (λ routes. (subst (λ (x : Making). HasName x.path) (sym new_is) name, none))
      (subst (λ q. Answers log (sync_of q) (Ok tt) (Some now)) name.is done) routes
  making_tells w new (Troubled trouble) (name, none) (at, new_is) (e, cause, answer) settled leaves =
      subst (λ (x : Making). StepRan told told dirty_after log now (λ m. WorkKnows told dirty_after m now (course_after (Troubled trouble)) (Make x))) (sym new_is)
      (subst (λ routes. StepRan told told routes log now (λ m. WorkKnows told routes m now (course_after (Troubled trouble)) (Make w))) (sym routes)
      (comes_refused told dirty marks log now (course_after (Troubled trouble)) (Make w) kept (name, none) (by w.stage refl (subst (λ q. Answers log (call_of w.thing w.stage q) (Err e) (Some now)) name.is answer))))
    where
      routes : dirty_after ≡ dirty
      routes = leaves ∙ (ap (λ (x : Making). moves_dirty (makings.is_dirty w.stage) (makings.is_dirty x.stage) (folder_of w.path) dirty) new_is ∙ same_dirty (makings.is_dirty w.stage) (folder_of w.path) dirty)

      by : (stage : MakingStage) → w.stage ≡ stage → Answers log (call_of w.thing w.stage (name.name ∷ folder_of w.path)) (Err e) (Some now) → (now ≡ log) ⊎ (now ≡ with_change log Nothing)
      by making.Make is h = refused_is log now (making_call w.thing (name.name ∷ folder_of w.path)) e (no_write w.thing (name.name ∷ folder_of w.path)) (subst (λ x. Answers log (call_of w.thing x (name.name ∷ folder_of w.path)) (Err e) (Some now)) is h)
      by making.Sync is h = refused_is log now (SyncFolder (folder_of w.path)) e (λ s left. refl) (subst (λ x. Answers log (call_of w.thing x (name.name ∷ folder_of w.path)) (Err e) (Some now)) is h)
      by making.Finish is h = inl (some_log now log (subst (λ x. Answers log (call_of w.thing x (name.name ∷ folder_of w.path)) (Err e) (Some now)) is h))
      by making.PassedOver is h = inl (some_log now log (subst (λ x. Answers log (call_of w.thing x (name.name ∷ folder_of w.path)) (Err e) (Some now)) is h))
  making_tells w new (Ended Finished part) (name, none) (is_done, part_is, new_is) done settled leaves =
      subst (λ o. In (Ended Finished o) GoesOn (Make w) (Make new)) (sym part_is) (ends told dirty dirty_after marks log now kept (Make w) none
      (leaves ∙ (ap (λ (x : Making). moves_dirty (makings.is_dirty w.stage) (makings.is_dirty x.stage) (folder_of w.path) dirty) new_is ∙ same_dirty (makings.is_dirty w.stage) (folder_of w.path) dirty))
      (some_log now log done))
  making_tells w new did knows tells done settled leaves = absurd tells

  pub making_winds : (w new : Making) (ending : Ending) (did : Did) (left : Option TreeError) → WorkKnows told dirty marks log (Ends ending) (Make w) → Winds ending w did new
      → MakingLeaves w did left log (Some now) → LastMakingCalls w did log (Some now) → dirty_after ≡ after_try did left (folder_of w.path) dirty
      → In did (Ends ending) (Make w) (Make new)
  making_winds w new ending Barrier left (name, none) (stage, new_is) answer calls leaves =
      tried told dirty dirty_after marks log now kept (folder_of w.path) left (Ends ending) (Make new) (λ routes. (subst (λ (x : Making). HasName x.path) (sym new_is) name, none))
      (subst (λ q. Answers log (sync_of q) (sync_answer left) (Some now)) name.is answer) leaves
  making_winds w new ending (Ended how part) left (name, none) (off, how_is, part_is, new_is) answer calls leaves =
      subst (λ o. In (Ended how o) (Ends ending) (Make w) (Make new)) (sym part_is) (ends told dirty dirty_after marks log now kept (Make w) none leaves (some_log now log calls))
  making_winds w new ending did left knows tells answer calls leaves = absurd tells
