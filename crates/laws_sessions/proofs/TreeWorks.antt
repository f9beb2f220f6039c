-- Steps of the file or the link that is at work in a copy of folders.
use Rattle.std.proofs.Common.{◌≡◌, ◌⊎◌, ℕ, Bool, true, false, List, [], ◌∷◌, refl, sym, ◌∙◌, ap, subst, inl, inr, Option, Some, None}
use Rattle.std.specs.Option.{option_map}
use Rattle.mc_text.specs.Routes.{Route}
use Rattle.mc_text.specs.declared.kind.Kind.TheVariants as kind
use Rattle.tree_trait.specs.declared.file_system.FileSystem.{FileSystem}
use Rattle.tree_trait.specs.Calls.{RemoveFile, Rename}
use Rattle.tree_trait.specs.Change.{Nothing, CallLog, current, with_change}
use Rattle.tree_trait.specs.CrashImages.{Among, is_clean}
use Rattle.tree_trait.specs.FileSystem.{Spot, Value, find, node, value, View}
use Rattle.laws_crash.specs.Guarded.{Marks}
use Rattle.job_reports.specs.CallRuns.{AllDone}
use Rattle.job_reports.specs.Paths.{folder_of}
use Rattle.job_reports.specs.declared.report.Cause.{Cause}
use Rattle.job_reports.specs.declared.report.Did.{Did}
use Rattle.job_reports.specs.declared.report.Did.TheVariants.{Began, Chunk, Placed, Removed, Made, Set, Kept, Skipped, Cleaned, Barrier, Asked, Merges, Moved, Troubled, Ended}
use Rattle.job_reports.specs.declared.report.Trouble.{Trouble}
use Rattle.copy_file.specs.Copying.{part_at, Copying, Tells}
use Rattle.copy_folders.specs.FolderCopying as folder
use Rattle.copy_link.specs.LinkCopying as link
use Rattle.copy_link.specs.LinkCopying.{LinkCopying}
use Rattle.copy_link.specs.LinkSteps.{LinkStops, next_call}
use Rattle.copy_link.specs.declared.stage.Next.{Next as LinkNext}
use Rattle.copy_link.specs.declared.stage.Next.TheVariants as link_next
use Rattle.copy_link.specs.declared.stage.Stage.{Stage as LinkStage}
use Rattle.copy_link.specs.declared.stage.Stage.TheVariants as link_stage
use Rattle.job_unsynced.specs.Folders.{with_change as change_list}
use Rattle.copy_tree.specs.InPlace.{IsInPlace, IsMoved, ItemMoved, AreMoved, HoldsTop, owed_of}
use Rattle.copy_tree.specs.Progress.{link_progress, progress}
use Rattle.copy_tree.specs.Standing.{Seen, is_fresh}
use Rattle.copy_tree.specs.TreeCopySteps.{FileWorks, LinkWorks, idle, noted_copy, copy_after_progress}
use Rattle.copy_tree.specs.declared.item.ItemAtWork.TheVariants.{Next, File, Link}
use Rattle.copy_tree.specs.declared.progress.Progress.{Progress}
use Rattle.copy_tree.specs.declared.progress.Progress.TheVariants.{UnderWay, Decided, Anew}
use Rattle.copy_tree.proofs.InPlaces.{leaves_all}
use Rattle.copy_job.specs.Marks.{brings_in, folder_worked, is_dirty_after, is_left_dirty, was_dirty}
use Rattle.copy_job.specs.Standing.{SubtreeCopying}
use Rattle.copy_job.proofs.Listed.{of_inner}
use Rattle.copy_move.specs.Jobs.{course_after}
use Rattle.copy_move.specs.declared.run.Course.TheVariants.{GoesOn}
use Rattle.copy_move.specs.declared.work.Work.TheVariants.{Copy}
use Rattle.session_entries.specs.Moves.{moved_from}
use Rattle.laws_sessions.specs.Replayed.{mode_placed, placed_by, placed_copy}
use Rattle.copy_folders.specs.declared.level.Level.{Level}
use Rattle.copy_tree.specs.declared.item.ItemAtWork.{ItemAtWork as CopyItem}
use Rattle.copy_file.specs.Copying as file
use Rattle.laws_sessions.proofs.AtWork.{ItemKnown}
use Rattle.laws_sessions.proofs.Calm.{PartCalm}
use Rattle.laws_sessions.proofs.Calming.{stopped_is}
use Rattle.laws_sessions.proofs.CopySteps.{not_decided}
use Rattle.laws_sessions.proofs.FileLeads.{file_comes}
use Rattle.laws_sessions.proofs.Knowing.{IsKept, HistoryFacts, settled_marks}
use Rattle.laws_sessions.proofs.KnownParts.{FileKnows, LinkKnows, StageKnows, link_knows_settled, link_left}
use Rattle.laws_sessions.proofs.LinkParts.{whole_link}
use Rattle.laws_sessions.proofs.ListSteps.{left_marks}
use Rattle.laws_sessions.proofs.Moved.{moved_below}
use Rattle.laws_sessions.proofs.Names.{WorkedMarked}
use Rattle.laws_sessions.proofs.PlacingSteps.{whole_placed}
use Rattle.laws_sessions.proofs.QuietRuns.{row_done}
use Rattle.laws_sessions.proofs.Stepped.{StepRan, comes_map, said_after}
use Rattle.laws_sessions.proofs.TreeBefore.{Before, Result, Then, had_begun}
use Rattle.laws_sessions.proofs.TreeCalls.{idle_refused, none_stops}
use Rattle.laws_sessions.proofs.TreeGoing.{LogHas, leaves_has}
use Rattle.laws_sessions.proofs.TreeKnown.{ItemHas}
use Rattle.laws_sessions.proofs.TreeLeads.{log_has}
use Rattle.laws_sessions.proofs.TreeListed.{noted_clean, noted_dirty}
use Rattle.laws_sessions.proofs.TreeSkipped.{link_has}
use Rattle.laws_sessions.proofs.TreeWinds.{part_gone}
use Rattle.copy_file.specs.declared.stage.SourceFacts.{SourceFacts}
use Rattle.copy_file.specs.declared.stage.Stage.TheVariants.{Fill}
use Rattle.job_reports.specs.Jobs.{Copies}
use Rattle.job_reports.specs.declared.report.Ending.TheVariants.{Finished, Aborted, Killed, NoMemory}
use Rattle.laws_sessions.proofs.Deleted.{put_off}
use Rattle.laws_sessions.proofs.OwedModes.{OwedModes, AllOwe}
use Rattle.laws_sessions.proofs.TreeOwed.{free_owes}

-- A link that is placed shows what the history makes of its source.
link_shown : (s : FileSystem) (source part : Route) (n i : ℕ) → (node s n).kind ≡ kind.Link → (node s i).kind ≡ kind.Link → (node s i).bytes ≡ (node s n).bytes → (node s i).mode ≡ 0 → (node s i).unnamed ≡ 0
    → placed_copy (value (node s n)) ≡ value (node s i)
link_shown s source part n i from link text mode unnamed =
    ap (λ k. (let v : Value = record (value (node s n)) { mode = mode_placed k (node s n).mode; unnamed = 0 } in v)) from
    ∙ (ap (λ k. (let v : Value = record { kind = k; bytes = (node s n).bytes; mode = 0; unnamed = 0 } in v)) (from ∙ sym link)
    ∙ (ap (λ t. (let v : Value = record { kind = (node s i).kind; bytes = t; mode = 0; unnamed = 0 } in v)) (sym text)
    ∙ (ap (λ m. (let v : Value = record { kind = (node s i).kind; bytes = (node s i).bytes; mode = m; unnamed = 0 } in v)) (sym mode)
    ∙ ap (λ u. (let v : Value = record { kind = (node s i).kind; bytes = (node s i).bytes; mode = (node s i).mode; unnamed = u } in v)) (sym unnamed))))

some_path : (p q : Route) → (let o : Option Route = Some p in o) ≡ Some q → p ≡ q
some_path p q is = cc

-- where nothing stands the history says so
free_shown : {told s : Spot} → s ≡ told → s.value ≡ None → told.value ≡ None
free_shown is free = ap (λ (x : Spot). x.value) (sym is) ∙ free

-- a step of a file or a link leaves the folders around, and the stage of the one that is worked
settled_around : (p : Progress) (item : CopyItem) (did : Did) (changed : Bool) (c : Seen) → (let s : Seen = copy_after_progress p item (noted_copy did changed (idle c)) in s.levels.around) ≡ c.levels.around
settled_around UnderWay item did true c = refl
settled_around UnderWay item did false c = refl
settled_around Decided item did true c = refl
settled_around Decided item did false c = refl
settled_around Anew item did true c = refl
settled_around Anew item did false c = refl

settled_copy : (p : Progress) (item : CopyItem) (did : Did) (changed : Bool) (c : Seen) → (let s : Seen = copy_after_progress p item (noted_copy did changed (idle c)) in s.levels.inner.copy.stage) ≡ c.levels.inner.copy.stage
settled_copy UnderWay item did true c = refl
settled_copy UnderWay item did false c = refl
settled_copy Decided item did true c = refl
settled_copy Decided item did false c = refl
settled_copy Anew item did true c = refl
settled_copy Anew item did false c = refl

owe_none : (v : View) (inner : Level) (around : List Level) → around ≡ [] → owed_of inner.copy.stage ≡ None → AllOwe v inner around
owe_none v inner around is none = subst (λ (a : List Level). AllOwe v inner a) (sym is) (λ mode owed. absurd (let e : (let o : Option ℕ = None in o) ≡ Some mode = sym none ∙ owed in let f : ⊥ = cc in f))

module _ (told : HistoryFacts) (dirty dirty_after : List Route) (marks : Marks) (log now : CallLog) (kept : IsKept told dirty marks log) (c : SubtreeCopying) (mid : Seen) (b : Before told dirty marks log c mid) (some : is_fresh c.at.stage ≡ false) where
  abbrev Comes_to : Did → Seen → Type 0
  Comes_to did new = Result told dirty dirty_after log now c did new

  abbrev Listed : Did → Seen → Type 0
  Listed did new = dirty_after ≡ change_list (was_dirty mid) (is_dirty_after mid did new) (folder_worked mid) dirty

  in_place : IsInPlace c.top mid
  in_place = let s = b.stands in leaves_all c.top b.n c.at mid b.leaves s.in_place

  -- the outermost folder is to be given no mode
  outermost_owes : (v : View) → mid.levels.around ≡ [] → (p : Progress) (item : CopyItem) (did : Did) (changed : Bool) (new : Seen) → new ≡ copy_after_progress p item (noted_copy did changed (idle mid)) → OwedModes v new
  outermost_owes v outermost p item did changed new is =
      let holds : HoldsTop c.top mid.levels.inner = subst (AreMoved c.top mid.levels.inner) outermost in_place.levels in
      owe_none v new.levels.inner new.levels.around (ap (λ (x : Seen). x.levels.around) is ∙ (settled_around p item did changed mid ∙ outermost))
      (ap (λ (x : Seen). owed_of x.levels.inner.copy.stage) is ∙ (ap owed_of (settled_copy p item did changed mid) ∙ holds.keeps))

  has : LogHas c.top c.at.job log mid
  has = leaves_has c.top c.at.job log b.n c.at mid b.leaves (log_has told dirty marks log c b.stands (b.begun some))

  -- a file
  module _ (f : Copying) (item : mid.item ≡ File f) (unclaimed : Route → Type 0) where
    -- something is at work, so the target wasn't given its mode yet
    calm_file : told.calm c.top.target ≡ true
    calm_file = elim (b.around some) [ inl calm ↦ calm | inr but ↦ absurd (let e : File f ≡ Next = sym item ∙ but.0 in let x : ⊥ = cc in x) ]

    known_item : ItemKnown log mid (File f)
    known_item = let copy = has.copy in subst (ItemKnown log mid) item copy.1

    going : progress f.stage ≡ UnderWay
    going = known_item.1

    target_free : (part : Route) → part_at f.stage ≡ Some part → (find (current log) f.target ≡ None) ⊎ (mid.levels.around ≡ [])
    target_free part is = let h = known_item.3 part is in h.free

    known_file : FileKnows told dirty marks (current log) GoesOn f
    known_file = subst (λ i. ItemHas told dirty marks (current log) GoesOn i) item b.part

    -- nothing stood where it is placed, or it is what is copied itself
    file_free : (part : Route) (said : SourceFacts) → f.stage ≡ Fill part said said.size → ((told.tree f.target).value ≡ None) ⊎ (mid.levels.around ≡ [])
    file_free part said stage =
        let k = subst (λ x. StageKnows told marks (current log) GoesOn f x) stage known_file.2 in
        let h = k.1.1 in
        elim (target_free part (ap part_at stage)) [
          | inl free ↦ inl (free_shown (kept.known.shows f.target (λ is. h.apart (some_path part f.target (sym h.part_is ∙ is)))) (ap (option_map (λ j. value (node (current log) j))) free))
          | inr outermost ↦ inr outermost
        ]

    file_modes : (did : Did) (moved : Copying) → Tells f did moved → (new : Seen) → new ≡ copy_after_progress (progress moved.stage) (File moved) (noted_copy did (file.is_dirty moved.folder) (idle mid)) → OwedModes told.tree new → OwedModes (let s : HistoryFacts = said_after now did (Copy c) told in s.tree) new
    file_modes (Placed path) moved (part, said, stage, path_is, new_is) new stands h =
        subst (λ q. OwedModes (placed_by (Some (Copies c.top.source c.top.target)) q told.tree) new) (sym path_is)
        (elim (file_free part said stage) [
          | inl free ↦ free_owes told.tree (placed_by (Some (Copies c.top.source c.top.target)) f.target told.tree) f.target (λ p off. put_off told.tree f.target _ p off) free new.levels.inner new.levels.around h
          | inr outermost ↦ outermost_owes (placed_by (Some (Copies c.top.source c.top.target)) f.target told.tree) outermost (progress moved.stage) (File moved) (Placed path) (file.is_dirty moved.folder) new stands
        ])
    file_modes (Began part) moved t new stands h = h
    file_modes (Chunk count) moved t new stands h = h
    file_modes (Cleaned part) moved t new stands h = h
    file_modes (Troubled trouble) moved t new stands h = h
    file_modes Barrier moved t new stands h = h
    file_modes (Ended Finished part) moved (stage, synced, part_is, new_is) new stands h = not_decided f.stage going stage
    file_modes did moved t new stands h = absurd t

    pub works_file : (did : Did) (new : Seen) → FileWorks unclaimed f mid new did (Some log) (Some now) → Listed did new → Comes_to did new
    works_file did new w list =
        comes_map told (said_after now did (Copy c) told) dirty_after log now _ (Then told dirty_after log now c did new)
        (λ m k known. record { part = known.0; around = λ begun. known.1; had = λ begun. had_begun told dirty marks log c mid b some; modes = file_modes did w.moved w.tells new w.stands })
        (file_comes told dirty dirty_after marks log now kept c f mid new did unclaimed item going (subst (λ i. ItemMoved c.top i) item in_place.item) (subst (λ i. WorkedMarked i mid.levels.inner) item has.marked) calm_file
        (subst (λ i. ItemHas told dirty marks (current log) GoesOn i) item b.part) list w)

  -- a link, whose part stands
  module _ (l : LinkCopying) (item : mid.item ≡ Link l) (new : Seen) where
    calm_link : told.calm c.top.target ≡ true
    calm_link = elim (b.around some) [ inl calm ↦ calm | inr but ↦ absurd (let e : Link l ≡ Next = sym item ∙ but.0 in let x : ⊥ = cc in x) ]

    part_has : (link.has_part l.stage ≡ true) × LinkKnows told dirty marks (current log) l.source l.target l.part
    part_has = subst (λ i. ItemHas told dirty marks (current log) GoesOn i) item b.part

    abbrev k : LinkKnows told dirty marks (current log) l.source l.target l.part
    k = part_has.1

    abbrev Works : Did → LinkCopying → Type 0
    Works did moved = new ≡ copy_after_progress (link_progress moved.stage) (Link moved) (noted_copy did (link.is_dirty moved.folder) (idle mid))

    abbrev was : Bool
    was = folder.is_dirty mid.levels.inner.copy.names

    marked : was ≡ true
    marked = subst (λ i. WorkedMarked i mid.levels.inner) item has.marked

    -- the folder stays marked, so the list stays
    still_marked : (did : Did) (moved : LinkCopying) → Works did moved → folder.is_dirty new.levels.inner.copy.names ≡ true
    still_marked did moved stands = by (link.is_dirty moved.folder) refl
      where
        by : (x : Bool) → link.is_dirty moved.folder ≡ x → folder.is_dirty new.levels.inner.copy.names ≡ true
        by true is = noted_dirty (link_progress moved.stage) (Link moved) did (link.is_dirty moved.folder) mid new stands is
        by false is = noted_clean (link_progress moved.stage) (Link moved) did (link.is_dirty moved.folder) mid new stands is ∙ marked

    list_same : (did : Did) (moved : LinkCopying) → Works did moved → Listed did new → dirty_after ≡ dirty
    list_same did moved stands list =
        list ∙ (sym (of_inner mid new did dirty (ap (λ i. brings_in i mid.levels) item))
        ∙ (ap (λ x. change_list x (is_left_dirty did new) mid.levels.inner.copy.target dirty) marked ∙ ap (λ x. change_list true x mid.levels.inner.copy.target dirty) (left_marks did new (still_marked did moved stands))))

    -- a call was refused: the part stays as it is
    abbrev Stays : LinkCopying → Marks → FileSystem → Type 0
    Stays moved m s = (link.has_part moved.stage ≡ true) × LinkKnows told dirty m s moved.source moved.target moved.part

    stays_settled : (moved : LinkCopying) (x : CallLog) (m : Marks) → Stays moved m (current x) → Stays moved (settled_marks x m) (current x)
    stays_settled moved x m (stands, known) = (stands, link_knows_settled x m told dirty moved.source moved.target moved.part known)

    link_quiet : (trouble : Trouble) (moved : LinkCopying) → moved ≡ l → Works (Troubled trouble) moved → Listed (Troubled trouble) new → (now ≡ log) ⊎ (now ≡ with_change log Nothing) → Comes_to (Troubled trouble) new
    link_quiet trouble moved is stands list how =
        subst (λ routes. StepRan told told routes log now (Then told routes log now c (Troubled trouble) new)) (sym (list_same (Troubled trouble) moved stands list))
        (comes_map told told dirty log now (λ m. Stays moved m (current now)) (Then told dirty log now c (Troubled trouble) new)
        (λ m kept_then known. record {
          part = subst (λ (x : Seen). ItemHas told dirty m (current now) (course_after (Troubled trouble)) x.item) (sym stands)
              (link_has told dirty m (current now) (course_after (Troubled trouble)) moved (noted_copy (Troubled trouble) (link.is_dirty moved.folder) mid) moved.stage refl known.0 known.1);
          around = λ begun. inl calm_link;
          had = λ begun. had_begun told dirty marks log c mid b some;
          modes = λ owed. owed;
        })
        (idle_refused (Stays moved) (stays_settled moved) told dirty marks log now kept (subst (λ (x : LinkCopying). Stays x marks (current log)) (sym is) part_has) how))

    -- what is at work is done with
    nothing_left : (did : Did) (moved : LinkCopying) → Works did moved → (stage : LinkStage) → moved.stage ≡ stage → (let x : Seen = copy_after_progress (link_progress stage) (Link moved) (idle mid) in x.item) ≡ Next → new.item ≡ Next
    nothing_left did moved stands stage is none =
        ap (λ (x : Seen). x.item) stands ∙ (ap (λ s. (let x : Seen = copy_after_progress (link_progress s) (Link moved) (noted_copy did (link.is_dirty moved.folder) (idle mid)) in x.item)) is ∙ (settled_item (link_progress stage) ∙ none))
      where
        settled_item : (p : Progress) → (let x : Seen = copy_after_progress p (Link moved) (noted_copy did (link.is_dirty moved.folder) (idle mid)) in x.item) ≡ (let x : Seen = copy_after_progress p (Link moved) (idle mid) in x.item)
        settled_item UnderWay = refl
        settled_item Decided = refl
        settled_item Anew = refl

    -- the part is placed
    link_placed : (moved : LinkCopying) → moved.stage ≡ link_stage.Decided → Works (Placed l.target) moved → Listed (Placed l.target) new → AllDone log (Rename l.part l.target ∷ []) (Some now) → Comes_to (Placed l.target) new
    link_placed moved stage stands list rows =
        let name = k.name in
        let copies = k.copies in
        let h = k.has in
        let item_moved : IsMoved c.top l.source l.target = subst (λ i. ItemMoved c.top i) item in_place.item in
        subst (λ routes. StepRan told (said_after now (Placed l.target) (Copy c) told) routes log now (Then told routes log now c (Placed l.target) new)) (sym (list_same (Placed l.target) moved stands list))
        (comes_map told (said_after now (Placed l.target) (Copy c) told) dirty log now (λ m. (let s : HistoryFacts = said_after now (Placed l.target) (Copy c) told in s.part) ≡ None) (Then told dirty log now c (Placed l.target) new)
        (λ m kept_then gone. record {
          part = subst (λ i. ItemHas (said_after now (Placed l.target) (Copy c) told) dirty m (current now) GoesOn i) (sym (nothing_left (Placed l.target) moved stands link_stage.Decided stage refl)) gone;
          around = λ begun. inl calm_link;
          had = λ begun. had_begun told dirty marks log c mid b some;
          modes = λ owed. elim link_free [
            | inl free ↦ free_owes told.tree (placed_by (Some (Copies c.top.source c.top.target)) l.target told.tree) l.target (λ p off. put_off told.tree l.target _ p off) free new.levels.inner new.levels.around owed
            | inr outermost ↦ outermost_owes (placed_by (Some (Copies c.top.source c.top.target)) l.target told.tree) outermost (link_progress moved.stage) (Link moved) (Placed l.target) (link.is_dirty moved.folder) new stands
          ];
        })
        (whole_placed told dirty c.top.source c.top.target l.target name.name name.is l.part k.i k.listed k.folder marks log now kept (whole_link told marks log l.target l.part k.text k.i h (clean_part (k.i) h.leads)) (copy_shown item_moved) (row_done log now (Rename l.part l.target) rows)))
      where
        link_free : ((told.tree l.target).value ≡ None) ⊎ (mid.levels.around ≡ [])
        link_free =
            let h = k.has in
            let known_item : ItemKnown log mid (Link l) = (let copy = has.copy in subst (ItemKnown log mid) item copy.1) in
            let at_work = known_item.3 part_has.0 in
            elim at_work.free [
              | inl free ↦ inl (free_shown (kept.known.shows l.target (λ is. h.apart (some_path l.part l.target (sym h.part_is ∙ is)))) (ap (option_map (λ j. value (node (current log) j))) free))
              | inr outermost ↦ inr outermost
            ]

        -- of the part of a link nothing waits
        clean_part : (i : ℕ) → find (current log) l.part ≡ Some i → is_clean i log.changes ≡ true
        clean_part i leads = elim ((subst (PartCalm log) item has.whole) part_has.0 i leads) [ inl clean ↦ clean | inr never ↦ absurd never ]

        not_part : told.part ≡ Some l.source → ⊥
        not_part is = (let copies = k.copies in let h = k.has in copies.apart (sym (some_path l.part l.source (sym h.part_is ∙ is))))

        copy_shown : IsMoved c.top l.source l.target → option_map placed_copy (told.tree (moved_from c.top.source c.top.target l.target)).value ≡ Some (value (node (current log) k.i))
        copy_shown lies =
            let copies = k.copies in
            let h = k.has in
            let from : moved_from c.top.source c.top.target l.target ≡ l.source = ap (moved_from c.top.source c.top.target) lies.to ∙ (moved_below c.top.source c.top.target lies.rest ∙ sym lies.from) in
            let shown : (told.tree l.source).value ≡ Some (value (node (current log) copies.n)) =
            ap (λ (s : Spot). s.value) (sym (kept.known.shows l.source not_part)) ∙ ap (option_map (λ j. value (node (current log) j))) copies.source_leads in
            ap (λ q. option_map placed_copy (told.tree q).value) from
            ∙ (ap (option_map placed_copy) shown ∙ ap (λ v. Some v) (link_shown (current log) l.source l.part copies.n k.i copies.link h.link copies.text copies.mode copies.unnamed))

    -- the part is removed
    link_cleaned : (moved : LinkCopying) (follows : LinkNext) → moved.stage ≡ link.after_clean follows → Works (Cleaned l.part) moved → Listed (Cleaned l.part) new → AllDone log (RemoveFile l.part ∷ []) (Some now) → Comes_to (Cleaned l.part) new
    link_cleaned moved follows stage stands list rows =
        let h = k.has in
        subst (λ routes. StepRan told (said_after now (Cleaned l.part) (Copy c) told) routes log now (Then told routes log now c (Cleaned l.part) new)) (sym (list_same (Cleaned l.part) moved stands list))
        (part_gone told dirty dirty_after marks log now kept l.part (Copy c) (Then told dirty log now c (Cleaned l.part) new) (link_left told marks (current log) l.target l.part k.text k.i h)
        (subst (λ q. Among dirty q × (told.folders q ≡ true)) (sym (ap folder_of h.beside)) (k.listed, k.folder)) (row_done log now (RemoveFile l.part) rows)
        (λ m. record {
          part = subst (λ i. ItemHas (said_after now (Cleaned l.part) (Copy c) told) dirty m (current now) GoesOn i) (sym (nothing_left (Cleaned l.part) moved stands (link.after_clean follows) stage (anew follows))) refl;
          around = λ begun. inl calm_link;
          had = λ begun. had_begun told dirty marks log c mid b some;
          modes = λ owed. owed;
        }))
      where
        anew : (x : LinkNext) → (let n : Seen = copy_after_progress (link_progress (link.after_clean x)) (Link moved) (idle mid) in n.item) ≡ Next
        anew link_next.Again = refl
        anew link_next.Decided = refl

    -- which call was refused
    quiet_stop : (stage : LinkStage) (why : Cause) (path : Option Route) → link_progress stage ≡ UnderWay → LinkStops l stage why path log (Some now) → (now ≡ log) ⊎ (now ≡ with_change log Nothing)
    quiet_stop link_stage.Place why path going run = stopped_is log now (Rename l.part l.target) why path (λ s left. refl) run
    quiet_stop (link_stage.Clean follows) why path going run = stopped_is log now (RemoveFile l.part) why path (λ s left. refl) run
    quiet_stop link_stage.Left why path going run = none_stops why path log now run
    quiet_stop link_stage.Make why path going run = absurd (let f : ⊥ = cc in f)
    quiet_stop link_stage.Again why path going run = absurd (let f : ⊥ = cc in f)
    quiet_stop link_stage.Decided why path going run = absurd (let f : ⊥ = cc in f)

    going_link : link_progress l.stage ≡ UnderWay
    going_link = (let copy = has.copy in let known = subst (ItemKnown log mid) item copy.1 in known.1)

    not_stage : {A : Type 0} (stage : LinkStage) → l.stage ≡ stage → (link_progress stage ≡ UnderWay → ⊥) → A
    not_stage stage is off = absurd (off (sym (ap link_progress is) ∙ going_link))

    pub works_link : (did : Did) (w : LinkWorks l mid new did (Some log) (Some now)) → Listed did new → Comes_to did new
    works_link (Placed path) w list =
        let tells = w.tells in
        let called : AllDone log (next_call (current log) l l.stage) (Some now) = (w.called log refl).1 in
        subst (λ q. Comes_to (Placed q) new) (sym tells.1)
        (link_placed w.moved (ap (λ (x : LinkCopying). x.stage) tells.2) (subst (λ q. Works (Placed q) w.moved) tells.1 w.stands) (subst (λ q. Listed (Placed q) new) tells.1 list)
        (subst (λ s. AllDone log (next_call (current log) l s) (Some now)) tells.0 called))
    works_link (Cleaned part) w list =
        let tells = w.tells in
        let called : AllDone log (next_call (current log) l l.stage) (Some now) = (w.called log refl).1 in
        subst (λ q. Comes_to (Cleaned q) new) (sym tells.2)
        (link_cleaned w.moved tells.0 (ap (λ (x : LinkCopying). x.stage) tells.3) (subst (λ q. Works (Cleaned q) w.moved) tells.2 w.stands) (subst (λ q. Listed (Cleaned q) new) tells.2 list)
        (subst (λ s. AllDone log (next_call (current log) l s) (Some now)) tells.1 called))
    works_link (Troubled trouble) w list = (let tells = w.tells in link_quiet trouble w.moved tells.1 w.stands list (quiet_stop l.stage trouble.cause trouble.path going_link (w.called log refl)))
    works_link (Began part) w list = (let tells = w.tells in not_stage link_stage.Make tells.0 (λ e. let f : ⊥ = cc in f))
    works_link Barrier w list = (let tells = w.tells in not_stage link_stage.Decided tells.0 (λ e. let f : ⊥ = cc in f))
    works_link did w list = absurd w.tells
