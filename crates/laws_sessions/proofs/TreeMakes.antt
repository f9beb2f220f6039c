-- Where a copy of folders makes a folder, or a trouble comes before.
use Rattle.std.proofs.Common.{◌≡◌, ℕ, Bool, true, false, ◌||◌, List, [], ◌∷◌, refl, sym, ◌∙◌, ap, subst, inl, inr, Option, Some, None, arith}
use Rattle.std.specs.Prelude.{pos}
use Rattle.std.proofs.lemmas.Bool.{both_ways, false_from_ne_true, or_cases, or_left, or_right, or_parts}
use Rattle.mc_text.specs.Routes.{Route, is_prefix, same_path}
use Rattle.mc_text.specs.declared.kind.Kind.TheVariants as kind
use Rattle.tree_trait.specs.declared.file_system.Node.{Node}
use Rattle.tree_trait.specs.Calls.{MakeFolder}
use Rattle.tree_trait.specs.Change.{Change, Makes, CallLog, current, found_node, with_change}
use Rattle.tree_trait.specs.CrashImages.{Among}
use Rattle.tree_trait.specs.FileSystem.{Spot, Value, find, value}
use Rattle.tree_trait.proofs.Visible.{same_path-self, same_path-true}
use Rattle.tree_trait.proofs.Walking.{stat-found}
use Rattle.laws_crash.specs.Guarded.{Marks}
use Rattle.job_answers.specs.declared.replies.Replies.{Replies}
use Rattle.job_reports.specs.CallRuns.{AllDone}
use Rattle.job_reports.specs.Jobs.{Copies}
use Rattle.job_reports.specs.Paths.{folder_of}
use Rattle.job_reports.specs.declared.report.Did.{Did}
use Rattle.job_reports.specs.declared.report.Did.TheVariants.{Made, Troubled}
use Rattle.job_reports.specs.declared.report.Trouble.{Trouble}
use Rattle.job_reports.proofs.CallAnswers.{IsDoneCall, one_done}
use Rattle.job_reports.proofs.PermittedCalls.{IsMaking, making_passes, stat_missing}
use Rattle.copy_folders.specs.FolderCopying as folder
use Rattle.copy_folders.specs.Levels.{Levels, is_around_dirty, made_levels}
use Rattle.job_unsynced.specs.Folders.{joined_folders, with_change as change_list}
use Rattle.copy_tree.specs.Parts.{ahead}
use Rattle.copy_tree.specs.Standing.{Seen, after_report, target_name}
use Rattle.copy_tree.specs.TreeCopySteps.{TakesFolder, is_top}
use Rattle.copy_tree.specs.declared.item.ItemAtWork.TheVariants.{Next}
use Rattle.copy_job.specs.Marks.{folder_worked, is_dirty_after, is_left_dirty, was_dirty}
use Rattle.copy_job.specs.Standing.{SubtreeCopying}
use Rattle.copy_move.specs.declared.run.Course.TheVariants.{GoesOn}
use Rattle.copy_move.specs.declared.work.Work.TheVariants.{Copy}
use Rattle.laws_sessions.proofs.DeletionSteps.{joined_holds, joined_more}
use Rattle.laws_sessions.proofs.FilledFolders.{IsFilling, met_untouched}
use Rattle.laws_sessions.proofs.Knowing.{IsKept, IsKnown, HistoryFacts, nowhere, settled_marks}
use Rattle.laws_sessions.proofs.PathsBelow.{is_below}
use Rattle.laws_sessions.proofs.Resting.{folder_at, folder_at_of}
use Rattle.laws_sessions.proofs.Stepped.{comes_one, said_after}
use Rattle.laws_sessions.proofs.TreeBefore.{Before, Result, Then, idle_quiet}
use Rattle.laws_sessions.proofs.TreeBegins.{here_moved, within, within_kept, MayChange, Meets, may_change_now, worked_filled}
use Rattle.laws_sessions.proofs.TreeKnown.{ItemHas}
use Rattle.laws_sessions.proofs.TreeSteps.{IsNextOf, among_next, next_of}
use Rattle.laws_sessions.proofs.TreeOwed.{free_owes}
use Rattle.laws_sessions.proofs.TreeListed.{list_joins, list_stays, no_part}
use Rattle.copy_tree.specs.Taking.{IsTaken}
use Rattle.copy_tree.specs.declared.looking.Taken.TheVariants as taken
use Rattle.laws_sessions.proofs.Untouched.{IsUntouched}
use Rattle.job_reports.specs.Jobs.{ItemOfJob as JobItem}
use Rattle.job_reports.specs.declared.job.Pair.{Pair}
use Rattle.copy_folders.specs.FolderCopying.{FolderCopying, folder_mode}
use Rattle.copy_folders.specs.FolderSteps.{FolderCalls}
use Rattle.copy_folders.specs.declared.stage.FolderDid.{FolderDid}
use Rattle.copy_folders.specs.declared.stage.FolderDid.TheVariants as folder_did
use Rattle.copy_folders.specs.declared.stage.NamesState.TheVariants.{Synced}
use Rattle.copy_folders.specs.declared.stage.Stage.TheVariants as at
use Rattle.tree_walk.specs.Places.{opened_folder}
use Rattle.copy_tree.specs.Reports.{IsToldAs}
use Rattle.laws_sessions.specs.Replayed.{made_by}
use Rattle.laws_sessions.proofs.Calming.{still_listed}
use Rattle.laws_sessions.proofs.Changing.{seen_nowhere}
use Rattle.laws_sessions.proofs.Deleted.{put_at, put_off}
use Rattle.laws_sessions.proofs.MadeFolders.{made_as_said}
use Rattle.laws_sessions.proofs.MakingThings.{marks_born, new_node, thing_made_known}
use Rattle.laws_sessions.proofs.TreeCalls.{folder_refused}

module _ (told : HistoryFacts) (dirty dirty_after : List Route) (marks : Marks) (log now : CallLog) (kept : IsKept told dirty marks log) (c : SubtreeCopying) (mid : Seen) (b : Before told dirty marks log c mid) (none : mid.item ≡ Next)
    (clean : is_around_dirty mid.levels.around ≡ false) (free : Route → Bool) (replies : Replies) where
  abbrev Comes_to : Did → Seen → Type 0
  Comes_to did new = Result told dirty dirty_after log now c did new

  abbrev Listed : Did → Seen → Type 0
  Listed did new = dirty_after ≡ change_list (was_dirty mid) (is_dirty_after mid did new) (folder_worked mid) dirty

  abbrev up : Route
  up = mid.levels.inner.copy.target

  part_none : told.part ≡ None
  part_none = no_part told dirty dirty_after marks log now kept c mid b none clean free

  no_part_at : (p : Route) → told.part ≡ Some p → ⊥
  no_part_at p is = let e : (let o : Option Route = None in o) ≡ Some p = sym part_none ∙ is in let f : ⊥ = cc in f

  module _ (did : Did) (new : Seen) (t : TakesFolder replies mid new did (Some log) (Some now)) (list : Listed did new) where
    abbrev pair : Pair
    pair = t.pair

    abbrev source : Route
    source = pair.source

    abbrev target : Route
    target = pair.target

    abbrev copy : FolderCopying
    copy = folder.copying source target (at.Make t.mode) Synced

    met : IsNextOf mid mid.levels.inner.names.names t.pair
    met = next_of mid mid.levels.inner.names.names t.pair t.next

    abbrev name : List ℕ
    name = target_name mid met.name

    abbrev Stands : FolderCopying → Type 0
    Stands moved = new ≡ record mid { stage = after_report did mid.stage; levels = made_levels moved.stage (opened_folder source t.names) moved mid.levels }

    -- nothing is at work then
    item_none : (moved : FolderCopying) → Stands moved → new.item ≡ Next
    item_none moved stands = ap (λ (x : Seen). x.item) stands ∙ none

    -- the trouble of it
    pub folder_stops : (trouble : Trouble) (moved : FolderCopying) → did ≡ Troubled trouble → Stands moved → moved ≡ copy → FolderCalls copy (folder_did.Troubled trouble) log (Some now) → Comes_to did new
    folder_stops trouble moved is stands moved_is calls =
        subst (λ d. Comes_to d new) (sym is)
        (idle_quiet told dirty dirty_after marks log now kept c mid b none trouble new (item_none moved stands)
        (list_stays told dirty dirty_after marks log now kept c mid b none clean free did new list
        (ap (λ d. is_left_dirty d new) is ∙ (ap (λ (x : Seen). folder.is_dirty x.levels.inner.copy.names) stands
        ∙ ap (λ (m : FolderCopying). (let l : Levels = made_levels m.stage (opened_folder source t.names) m mid.levels in folder.is_dirty l.inner.copy.names)) moved_is)))
        (folder_refused target (at.Make t.mode) Synced trouble.cause trouble.path log now calls))

    -- it is made
    module _ (path : Route) (moved : FolderCopying) (is : did ≡ Made path) (stands : Stands moved) (path_is : path ≡ target) (rows : AllDone log (MakeFolder target (folder_mode t.mode) ∷ []) (Some now)) where
      abbrev made : Node
      made = record { kind = kind.Folder; bytes = []; mode = folder_mode t.mode; mtime = pos 0; unnamed = 0 }

      d : IsDoneCall log (MakeFolder (name ∷ up) (folder_mode t.mode)) now
      d = subst (λ q. IsDoneCall log (MakeFolder q (folder_mode t.mode)) now) met.target_is (one_done log (MakeFolder target (folder_mode t.mode)) now rows)

      passes : IsMaking (current log) name up
      passes = making_passes (current log) name up (folder_mode t.mode) d.permits

      abbrev g : ℕ
      g = found_node (current log) up

      abbrev makes : Change
      makes = Makes g name made

      then : now ≡ with_change log makes
      then = d.is

      looked : IsTaken (current log) (is_top mid) replies t.pair (taken.Folder t.names t.mode)
      looked = t.is log refl

      source_at : find (current log) source ≡ Some (found_node (current log) source)
      source_at = stat-found (current log) source looked.0.0

      target_free : find (current log) target ≡ None
      target_free = stat_missing (current log) target looked.1

      meets : Meets log t.pair
      meets = record {
        stands = ap (λ q. folder_at (current log) (folder_of q)) met.target_is ∙ folder_at_of (current log) up g passes.folder passes.holds;
        open_to = inl target_free;
        n = found_node (current log) source;
        source = source_at;
      }

      may : MayChange marks log c mid
      may = may_change_now told dirty marks log kept c mid b.n b.leaves b.stands none t.pair t.next meets b.begun b.owed

      filling : IsFilling log up (ahead mid)
      filling = worked_filled told dirty marks log kept c mid b.n b.leaves b.stands none t.pair t.next meets clean may.here

      abbrev made_path : Route
      made_path = name ∷ up

      was_free : find (current log) made_path ≡ None
      was_free = ap (find (current log)) (sym met.target_is) ∙ target_free

      untouched : IsUntouched marks (current log) made_path
      untouched = met_untouched told dirty marks log up (ahead mid) name kept filling (among_next mid met.name met.rest met.names_are) was_free

      -- the history said that nothing is there
      nothing_told : told.tree made_path ≡ nowhere
      nothing_told = sym (kept.known.shows made_path (no_part_at made_path)) ∙ seen_nowhere (current log) made_path was_free

      -- no part stands aside there
      other : (p : Route) → marks.aside p ≡ true → same_path p made_path ≡ false
      other p aside = false_from_ne_true _ (λ same. both_ways _ (ap marks.aside (same_path-true p made_path same) ∙ untouched.out) aside)

      routes : dirty_after ≡ joined_folders up dirty
      routes = list_joins told dirty dirty_after marks log now kept c mid b none clean free did new list (ap (λ x. is_left_dirty x new) is)

      abbrev item : Option JobItem
      item = Some (Copies c.top.source c.top.target)

      abbrev what : Value
      what = made_by item made_path told.tree

      -- what the history says of it is what is made
      said_so : what ≡ value made
      said_so = made_as_said log now kept.known.guarded.tree c.top t.pair t.mode told.tree (here_moved told dirty marks log kept c mid b.n b.leaves b.stands none t.pair t.next meets)
          (λ p. ap (λ (s : Spot). s.value) (kept.known.shows p (no_part_at p))) source_at looked.3 made_path met.target_is

      abbrev after : HistoryFacts
      after = said_after now (Made made_path) (Copy c) told

      inside : IsKept (within told c) dirty marks log
      inside = within_kept told dirty marks log c mid kept may

      known_then : IsKnown after dirty_after (marks_born marks (new_node log)) (with_change log makes)
      known_then = thing_made_known (within told c) after dirty dirty_after marks log inside.known inside.roams name up g made (record {
        none = part_none;
        firm = filling.firm;
        at = passes.folder;
        holds = passes.holds;
        free = passes.none;
        was = untouched.was;
        left = λ p aside. (other p aside, λ among. among);
        named = λ p aside. still_listed made_path p told.named (kept.known.aside p aside) (other p aside);
        off = λ p off. (put_off told.tree made_path (Some what) p off, put_off told.earlier made_path (told.tree made_path).value p off);
        shown = put_at told.tree made_path (Some what) ∙ ap (λ (s : Spot). (let x : Spot = record { value = Some what; is_mount = s.is_mount } in x)) nothing_told
            ∙ ap (λ v. (let x : Spot = record { value = Some v; is_mount = false } in x)) said_so;
        earlier = ap (λ (s : Spot). s.value) (put_at told.earlier made_path (told.tree made_path).value) ∙ ap (λ (s : Spot). s.value) nothing_told;
        no_part = part_none;
        doubts = λ n p h. or_left _ _ h;
        doubted = λ n. or_right _ _ (same_path-self made_path);
        spared = λ n p off. or_parts (told.written n p) (same_path p made_path) off;
        modes = λ p h. h;
        calm = λ p there. elim (or_cases (is_prefix c.top.target p) (told.calm p) there) [ inl own ↦ inr (may.calm p own) | inr before ↦ inl (or_right _ _ before) ];
        new_mode = kept.modes (new_node log) (kept.known.files.unborn (new_node log) (omega arith));
        folders = λ p there. elim (or_cases (same_path p (folder_of c.top.target) || same_path p up) (told.folders p) there) [
          | inl first ↦ elim (or_cases (same_path p (folder_of c.top.target)) (same_path p up) first) [
            | inl around ↦ inl (or_left _ _ around)
            | inr beside ↦ inr (same_path-true p up beside)
          ]
          | inr before ↦ inl (or_right _ _ before)
        ];
      }) (subst (λ xs. Among xs up) (sym routes) (joined_holds up dirty)) (λ q among. subst (λ xs. Among xs q) (sym routes) (joined_more up q dirty among))

      pub folder_makes : Comes_to did new
      folder_makes =
          subst (λ x. Comes_to x new) (sym is)
          (subst (λ q. Comes_to (Made q) new) (sym (path_is ∙ met.target_is))
          (comes_one told after dirty dirty_after marks (marks_born marks (new_node log)) log now makes (Then told dirty_after log now c (Made made_path) new) kept then
          (subst (λ (l : CallLog). IsKnown after dirty_after (marks_born marks (new_node log)) l) (sym then) known_then) (record {
            part = subst (λ i. ItemHas after dirty_after (settled_marks now (marks_born marks (new_node log))) (current now) GoesOn i) (sym (item_none moved stands)) part_none;
            around = λ some. inl (or_left _ _ (is_below c.top.target []));
            had = λ some. (may.outside, may.has);
            modes = λ h. free_owes told.tree after.tree made_path (λ p off. put_off told.tree made_path (Some what) p off) (ap (λ (s : Spot). s.value) nothing_told) new.levels.inner new.levels.around h;
          })))

  pub takes_folder : (did : Did) (new : Seen) (t : TakesFolder replies mid new did (Some log) (Some now)) → Listed did new → Comes_to did new
  takes_folder did new t list = (let w = t.works in by w.report w.says w.tells (w.called log refl))
    where
      by : (report : FolderDid) → IsToldAs report did → folder.Tells (let p = t.pair in folder.copying p.source p.target (at.Make t.mode) Synced) report (let w = t.works in w.moved) → FolderCalls (let p = t.pair in folder.copying p.source p.target (at.Make t.mode) Synced) report log (Some now) → Comes_to did new
      by (folder_did.Made path) is (mode, stage, path_is, new_is) rows = (let w = t.works in folder_makes did new t list path w.moved is w.stands path_is rows)
      by (folder_did.Troubled trouble) is (barrier, new_is) stop = (let w = t.works in folder_stops did new t list trouble w.moved is w.stands new_is stop)
      by (folder_did.Set path) is tells rows = absurd (let e = tells.1 in let f : ⊥ = cc in f)
      by folder_did.Barrier is tells rows = absurd (let e = tells.0 in let f : ⊥ = cc in f)
      by folder_did.Closed is tells rows = absurd is
