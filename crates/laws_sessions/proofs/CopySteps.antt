-- Each step of a file that is copied with a tree keeps what is known of it.
use Rattle.std.proofs.Common.{◌≡◌, ℕ, ◌≤◌, ◌+◌, zero, suc, Bool, true, false, List, [], ◌∷◌, ◌++◌, length, refl, sym, ◌∙◌, ap, subst, inl, inr, Option, Some, None, Ok, Err, arith}
use Rattle.std.specs.Prelude.{is_some, unwrap_or, pos}
use Rattle.std.specs.Option.{option_map_or}
use Rattle.std.proofs.lemmas.Bool.{both_ways, false_from_ne_true, or_left, or_right, or_parts}
use Rattle.mc_text.specs.Routes.{Route, same_path}
use Rattle.tree_trait.specs.declared.file_system.Node.{Node}
use Rattle.tree_trait.specs.declared.file_system.FileSystem.{FileSystem}
use Rattle.tree_trait.specs.declared.calls.TreeError.{TreeError}
use Rattle.tree_trait.specs.declared.calls.TreeError.TheVariants.{Fault, Memory}
use Rattle.tree_trait.specs.FileSystem.{find, node}
use Rattle.tree_trait.specs.Refusals.{folder_kind, is_folder}
use Rattle.tree_trait.specs.Calls.{RemoveFile, WriteAt}
use Rattle.tree_trait.specs.Change.{Removes, Writes, CallLog, current, with_change}
use Rattle.tree_trait.specs.CrashImages.{Among}
use Rattle.tree_trait.specs.Answers.{Performs}
use Rattle.laws_crash.specs.Guarded.{Marks}
use Rattle.laws_crash.proofs.Guarding.{find_same, found_there}
use Rattle.laws_crash.proofs.Tops.{not_longer, under_removed}
use Rattle.job_reports.specs.declared.report.Cause.{Cause}
use Rattle.job_reports.specs.declared.report.Cause.TheVariants as cause
use Rattle.job_reports.specs.declared.report.Ending.TheVariants.{Finished, Aborted, Killed, NoMemory}
use Rattle.job_reports.specs.declared.report.Did.{Did}
use Rattle.job_reports.specs.declared.report.Did.TheVariants.{Began, Chunk, Placed, Removed, Made, Set, Kept, Skipped, Cleaned, Barrier, Asked, Merges, Moved, Troubled, Ended}
use Rattle.copy_file.specs.declared.stage.FolderState.TheVariants.{Dirty}
use Rattle.copy_file.specs.declared.stage.Next.{Next}
use Rattle.copy_file.specs.declared.stage.Next.TheVariants as next
use Rattle.copy_file.specs.declared.stage.SourceFacts.{SourceFacts}
use Rattle.copy_file.specs.declared.stage.Stage.{Stage}
use Rattle.copy_file.specs.declared.stage.Stage.TheVariants.{Begin, Fill, Clean, Left, Decided}
use Rattle.job_reports.specs.CallRuns.{AllDone, RunStops}
use Rattle.copy_file.specs.CopyCalls.{BeganOf, CopyCalls, CopyStops, making, next_bytes, placing, writing}
use Rattle.copy_file.specs.PartNames.{IsFirstFree, part_path}
use Rattle.copy_file.specs.Copying.{Copying, Tells, after_clean, places_of}
use Rattle.job_reports.specs.Paths.{folder_of}
use Rattle.job_reports.proofs.CallAnswers.{one_done, some_log}
use Rattle.tree_trait.proofs.Visible.{same_path-self, same_path-true}
use Rattle.copy_move.specs.declared.work.Work.{Work}
use Rattle.copy_move.specs.declared.work.Work.TheVariants.{Copy}
use Rattle.copy_move.specs.declared.run.Course.{Course}
use Rattle.copy_move.specs.declared.run.Course.TheVariants.{GoesOn, InTrouble}
use Rattle.copy_move.specs.Jobs.{course_after, halt_of}
use Rattle.copy_job.specs.Standing.{SubtreeCopying}
use Rattle.copy_tree.specs.InPlace.{IsMoved}
use Rattle.copy_tree.specs.Progress.{progress}
use Rattle.copy_tree.specs.declared.progress.Progress.TheVariants.{UnderWay, Anew}
use Rattle.copy_tree.specs.declared.progress.Progress.TheVariants.{Decided as IsDecided}
use Rattle.session_entries.specs.Moves.{moved_from}
use Rattle.laws_sessions.specs.Doubt.{way_waits}
use Rattle.laws_sessions.proofs.Calming.{stopped_is, written_known}
use Rattle.laws_sessions.proofs.Changing.{off_itself, removed_known}
use Rattle.laws_sessions.proofs.Deleted.{IsRemoval, file_unjoined, removal_done, removal_leads}
use Rattle.laws_sessions.proofs.Resting.{IsSureFolder, folder_at}
use Rattle.laws_sessions.proofs.Filling.{begun, filled_more}
use Rattle.laws_sessions.proofs.Knowing.{HistoryFacts, IsCalmPath, IsKnown, IsKept, settled_marks}
use Rattle.laws_sessions.proofs.JobKnows.{FileKnows, HasName, HasPart, IsAsFound, StageKnows, found_settled, may_fill, none_of_part, part_settled}
use Rattle.laws_sessions.proofs.MakingParts.{with_part}
use Rattle.laws_sessions.proofs.Moved.{moved_below}
use Rattle.laws_sessions.proofs.OpenTargets.{IsOpen}
use Rattle.laws_sessions.proofs.Quiet.{kind_same}
use Rattle.laws_sessions.proofs.PartNodes.{part_on, part_there, written_node}
use Rattle.laws_sessions.proofs.PlacingSteps.{part_placed, part_refused, placing_stops, said_placed}
use Rattle.laws_sessions.proofs.Stepped.{StepRan, comes_map, comes_one, said_after}

some_route : (p q : Route) → (let o : Option Route = Some p in o) ≡ Some q → p ≡ q
some_route p q h = cc

-- the part is removed
pub part_cleaned : (told : HistoryFacts) (dirty : List Route) (marks : Marks) (log now : CallLog) (work : Work) (target part : Route) (i : ℕ) → IsKept told dirty marks log → HasPart told marks (current log) target part i
    → Among dirty (folder_of target) → told.folders (folder_of target) ≡ true → Performs {A = Unit {0}} log (RemoveFile part) (Ok tt) (Some now)
    → StepRan told (said_after now (Cleaned part) work told) dirty log now (λ m. IsAsFound m (current now) target)
part_cleaned told dirty marks log now work target part i kept has listed firm done = at (removal_done log now part kept.known.guarded.tree done)
  where
    aside : marks.aside part ≡ true
    aside = (kept.known.part part has.part_is).0

    as_it_was : IsAsFound marks (current log) target
    as_it_was = has.found

    -- a folder stands elsewhere
    no_file : (p : Route) → folder_at (current log) p ≡ true → same_path p part ≡ false
    no_file p stands = false_from_ne_true _ (λ same.
        both_ways _ (ap (folder_at (current log)) (same_path-true p part same) ∙ (ap (λ o. option_map_or (λ j. is_folder (node (current log) j)) o false) has.leads ∙ ap folder_kind has.file)) stands)

    folder_is : folder_of part ≡ folder_of target
    folder_is = ap folder_of has.beside

    apart_from : (rest : Route) → target ≡ rest ++ part → ⊥
    apart_from [] e = has.apart (sym e)
    apart_from (more ∷ rest) e = not_longer rest has.name (folder_of target) (ap folder_of e ∙ ap (λ q. rest ++ q) has.beside)

    -- what stands at the target stays there
    left_alone : (it : IsRemoval log now part) → find (current (with_change log (Removes it.r.f it.r.name it.k))) target ≡ find (current log) target
    left_alone it = elim (find_same log (Removes it.r.f it.r.name it.k) target) [
      | inl same ↦ same
      | inr under ↦
          let u = under_removed log kept.known.guarded.tree it.r.up it.r.f it.r.folder it.r.name it.k target under in
          absurd (apart_from u.0 (u.1 ∙ ap (λ q. u.0 ++ q) (sym it.r.path_is)))
    ]

    -- nothing waits on the way to the folder
    way : (it : IsRemoval log now part) → way_waits log it.r.up ≡ false
    way it = (let sure = kept.known.stand (folder_of target) firm in ap (way_waits log) (sym (ap folder_of it.r.path_is) ∙ folder_is) ∙ sure.sure)

    at : IsRemoval log now part → StepRan told (said_after now (Cleaned part) work told) dirty log now (λ m. IsAsFound m (current now) target)
    at it =
        let known = removed_known told (said_after now (Cleaned part) work told) dirty dirty marks log kept.known part it.r it.k (record {
          named = kept.known.aside;
          off = λ p off. (refl, refl, λ is. off_itself p part (sym (some_route part p (sym has.part_is ∙ is))) off);
          left = λ p off among. among;
          gone = (kept.known.part part has.part_is).1;
          was = λ out. absurd (both_ways _ out aside);
          part = refl;
          doubts = λ n p h. or_left _ _ h;
          spared = λ n p off. (or_parts (told.written n p) (same_path p part) off).0;
          folders = λ p there. (no_file p (kept.known.stand p there).stands, inl there);
          modes = λ p h. h;
          calm = λ p h. inl h;
          doubted = λ n. or_right _ _ (same_path-self part);
        }) (λ out. absurd (both_ways _ out aside)) kept.roams (way it) (none_of_part told dirty marks log kept part it.r.i (removal_leads log now part it) aside)
        (file_unjoined log now part it kept.known.guarded.tree kept.known.files (ap (λ o. option_map_or (λ j. is_folder (node (current log) j)) o false) has.leads ∙ ap folder_kind has.file))
        (subst (λ q. Among dirty q) (sym folder_is ∙ ap folder_of it.r.path_is) listed) (λ q among off. among) in
        let after = with_change log (Removes it.r.f it.r.name it.k) in
        let same : find (current after) target ≡ find (current log) target = left_alone it in
        comes_one told (said_after now (Cleaned part) work told) dirty dirty marks marks log now (Removes it.r.f it.r.name it.k) (λ m. IsAsFound m (current now) target) kept it.now_is
        (subst (λ (l : CallLog). IsKnown (said_after now (Cleaned part) work told) dirty marks l) (sym it.now_is) known)
        (subst (λ (l : CallLog). IsAsFound (settled_marks l marks) (current l) target) (sym it.now_is)
        (found_settled after marks target (record {
          bare = λ j at.
              let before = sym same ∙ at in
              kind_same log (Removes it.r.f it.r.name it.k) j (found_there (current log) kept.known.guarded.tree target j before) ∙ as_it_was.bare j before;
          was = λ out. as_it_was.was out ∙ sym same;
          stood = λ is. ap is_some same ∙ as_it_was.stood is;
          calm = λ j at. as_it_was.calm j (sym same ∙ at);
        })))

-- a copy whose part stands isn't to be begun, nor is it decided
not_begun : {A : Type 0} (stage : Stage) → progress stage ≡ UnderWay → stage ≡ Begin → A
not_begun stage going is = absurd (let e : Anew ≡ UnderWay = sym (ap progress is) ∙ going in let f : ⊥ = cc in f)

pub not_decided : {A : Type 0} (stage : Stage) → progress stage ≡ UnderWay → stage ≡ Decided → A
not_decided stage going is = absurd (let e : IsDecided ≡ UnderWay = sym (ap progress is) ∙ going in let f : ⊥ = cc in f)

-- a part is made where nothing stands at the target, or what may be replaced
pub copy_begins : (told : HistoryFacts) (dirty dirty_after : List Route) (marks : Marks) (log now : CallLog) → IsKept told dirty marks log → (c new : Copying) (part : Route) (unclaimed : Route → Type 0) (around : Route) (own : Route → Bool) → HasName c.target → told.part ≡ None
    → Tells c (Began part) new → IsOpen (current log) (places_of c)
    → BeganOf (current log) (places_of c) new.stage × ((k : ℕ) × (part ≡ part_path (places_of c) k) × IsFirstFree (current log) unclaimed (places_of c) k × AllDone log (making (current log) (places_of c) k ∷ []) (Some now))
    → IsAsFound marks (current log) c.target → IsSureFolder log (folder_of c.target) → IsSureFolder log around → ((p : Route) → own p ≡ true → IsCalmPath marks log p)
    → Among dirty_after (folder_of c.target) → ((q : Route) → Among dirty q → Among dirty_after q)
    → StepRan told (with_part told around own part) dirty_after log now (λ m. FileKnows (with_part told around own part) dirty_after m (current now) GoesOn new)
copy_begins told dirty dirty_after marks log now kept c new part unclaimed around own name none (stage, (said, new_is)) ready (began_of, (k, part_is, free, rows)) found firm around_firm calm listed more =
    let is_said = subst (λ (x : Copying). BeganOf (current log) (places_of c) x.stage) new_is began_of in
    subst (λ (x : Copying). StepRan told (with_part told around own part) dirty_after log now (λ m. FileKnows (with_part told around own part) dirty_after m (current now) GoesOn x)) (sym new_is)
    (subst (λ q. StepRan told (with_part told around own q) dirty_after log now (λ m. FileKnows (with_part told around own q) dirty_after m (current now) GoesOn (record c { stage = Fill q said 0; folder = Dirty }))) (sym part_is)
    (begun told dirty dirty_after marks log now kept c unclaimed said k name ready is_said free none found (one_done log (making (current log) (places_of c) k) now rows) firm around around_firm own calm listed more))

module _ (told : HistoryFacts) (dirty : List Route) (marks : Marks) (log now : CallLog) (kept : IsKept told dirty marks log) (t : SubtreeCopying) (c : Copying) (lies : IsMoved t.top c.source c.target) (unclaimed : Route → Type 0) where
  -- a write stops, and leaves the part with any bytes
  write_refused : (part : Route) (i done : ℕ) (bytes : List ℕ) (e : TreeError) → HasPart told marks (current log) c.target part i → Performs {A = Unit {0}} log (WriteAt part done bytes) (Err e) (Some now)
      → StepRan told told dirty log now (λ m. HasPart told m (current now) c.target part i)
  write_refused part i done bytes Fault has stop =
      let is : now ≡ with_change log (Writes i stop.1.0 (pos 0)) = some_log now _ stop.1.1 ∙ ap (λ j. with_change log (Writes j stop.1.0 (pos 0))) (ap (λ o. unwrap_or o 0) has.leads) in
      let node_is = written_node log i stop.1.0 (pos 0) (part_there told dirty marks log kept.known c.target part i has) in
      comes_one told told dirty dirty marks marks log now (Writes i stop.1.0 (pos 0)) (λ m. HasPart told m (current now) c.target part i) kept is
      (subst (λ (l : CallLog). IsKnown told dirty marks l) (sym is) (written_known told dirty marks log kept.known part i has.part_is has.leads has.loose (none_of_part told dirty marks log kept part i has.leads (kept.known.part part has.part_is).0) stop.1.0 (pos 0)))
      (subst (λ (l : CallLog). HasPart told (settled_marks l marks) (current l) c.target part i) (sym is)
      (part_settled (with_change log (Writes i stop.1.0 (pos 0))) marks told c.target part i
      (part_on told dirty marks log kept.known c.target part i has (Writes i stop.1.0 (pos 0)) (λ g m. refl) (ap (λ (x : Node). x.kind) node_is) (ap (λ (x : Node). x.unnamed) node_is))))
  write_refused part i done bytes Memory has stop = part_refused told dirty c.target part i marks log now kept has (inl (some_log now log stop))
  write_refused part i done bytes e has stop = part_refused told dirty c.target part i marks log now kept has (inr (some_log now _ stop.1))

  write_stops : (part : Route) (i done : ℕ) (bytes : List ℕ) (why : Cause) (path : Option Route) → HasPart told marks (current log) c.target part i → RunStops (WriteAt part done bytes ∷ []) why path log (Some now)
      → StepRan told told dirty log now (λ m. HasPart told m (current now) c.target part i)
  write_stops part i done bytes (cause.Tree e) path has (call, named, inl (is, stop)) = write_refused part i done bytes e has stop
  write_stops part i done bytes (cause.Tree e) path has (call, named, inr (mid, did, none)) = absurd none
  write_stops part i done bytes cause.Memory path has (none, (zero, few, end)) = part_refused told dirty c.target part i marks log now kept has (inl (some_log now log end))
  write_stops part i done bytes cause.Memory path has (none, (suc count, few, end)) = absurd (omega (arith, few))
  write_stops part i done bytes (cause.TargetKind kind) path has stop = absurd stop
  write_stops part i done bytes cause.SpecialSource path has stop = absurd stop
  write_stops part i done bytes cause.TooDeep path has stop = absurd stop
  write_stops part i done bytes (cause.Unnamed count) path has stop = absurd stop
  write_stops part i done bytes cause.PartTaken path has stop = absurd stop
  write_stops part i done bytes cause.TooLong path has stop = absurd stop
  write_stops part i done bytes (cause.Changed said got) path has stop = absurd stop

  -- what a step comes to
  abbrev Known : Did → Course → Copying → Type 0
  Known did course new = StepRan told (said_after now did (Copy t) told) dirty log now (λ m. FileKnows (said_after now did (Copy t) told) dirty m (current now) course new)

  -- a step stops
  stops : (why : Cause) (path : Option Route) (course : Course) → (may_fill course ≡ true → ⊥) → FileKnows told dirty marks (current log) GoesOn c → (stage : Stage) → progress stage ≡ UnderWay → c.stage ≡ stage
      → CopyStops unclaimed (places_of c) stage why path log (Some now) → StepRan told told dirty log now (λ m. FileKnows told dirty m (current now) course c)
  stops why path course off knows Begin going is stop = not_begun Begin going refl
  stops why path course off (name, listed, knows) (Fill part said done) going is stop =
      comes_map told told dirty log now (λ m. HasPart told m (current now) c.target part i) (λ m. FileKnows told dirty m (current now) course c)
      (λ m k has. (name, listed, subst (λ x. StageKnows told m (current now) course c x) (sym is) (at_fill.0, (i, has, λ e. absurd (off e)))))
      (how stop)
    where
      at_fill : StageKnows told marks (current log) GoesOn c (Fill part said done)
      at_fill = subst (λ x. StageKnows told marks (current log) GoesOn c x) is knows

      i : ℕ
      i = at_fill.1.0

      how : CopyStops unclaimed (places_of c) (Fill part said done) why path log (Some now) → StepRan told told dirty log now (λ m. HasPart told m (current now) c.target part i)
      how (inl (less, inl read)) = part_refused told dirty c.target part i marks log now kept at_fill.1.1 (inl (some_log now log read.1))
      how (inl (less, inr write)) = write_stops part i done (next_bytes (current log) c.source said done) why path at_fill.1.1 write
      how (inr (full, run)) = placing_stops told dirty c.target part i marks log now said.mode why path kept at_fill.1.1 run
  stops why path course off (name, listed, knows) (Clean part follows) going is stop =
      let at_clean = subst (λ x. StageKnows told marks (current log) GoesOn c x) is knows in
      comes_map told told dirty log now (λ m. HasPart told m (current now) c.target part at_clean.1.0) (λ m. FileKnows told dirty m (current now) course c)
      (λ m k has. (name, listed, subst (λ x. StageKnows told m (current now) course c x) (sym is) (at_clean.0, (at_clean.1.0, has))))
      (part_refused told dirty c.target part at_clean.1.0 marks log now kept at_clean.1.1 (stopped_is log now (RemoveFile part) why path (λ s left. refl) stop))
  stops why path course off knows (Left part) going is stop = absurd stop
  stops why path course off knows Decided going is stop = not_decided Decided going refl

  cleaned_knows : (follows : Next) (after : HistoryFacts) (m : Marks) (s : FileSystem) → after.part ≡ None → IsAsFound m s c.target
      → StageKnows after m s GoesOn (record c { stage = after_clean follows }) (after_clean follows)
  cleaned_knows next.Begin after m s none found = (none, λ e. found)
  cleaned_knows next.Decided after m s none found = none

  -- so each step does
  pub copy_tells : (new : Copying) (did : Did) → progress c.stage ≡ UnderWay → FileKnows told dirty marks (current log) GoesOn c → Tells c did new → CopyCalls unclaimed c did new log (Some now) → Known did (course_after did) new
  copy_tells new (Chunk count) going (name, listed, knows) (part, said, done, stage, least, most, fits, new_is) (other_part, other_said, other_done, other_stage, count_is, rows) =
      let e : (let o : Stage = Fill other_part other_said other_done in o) ≡ Fill part said done = sym other_stage ∙ stage in
      let p_is : other_part ≡ part = cc in
      let s_is : other_said ≡ said = cc in
      let d_is : other_done ≡ done = cc in
      let count_here : count ≡ length (next_bytes (current log) c.source said done) = count_is ∙ (ap (λ x. length (next_bytes (current log) c.source x other_done)) s_is ∙ ap (λ x. length (next_bytes (current log) c.source said x)) d_is) in
      let row = subst (λ x. AllDone log (writing (current log) (places_of c) part said x ∷ []) (Some now)) d_is
      (subst (λ x. AllDone log (writing (current log) (places_of c) part x other_done ∷ []) (Some now)) s_is
      (subst (λ x. AllDone log (writing (current log) (places_of c) x other_said other_done ∷ []) (Some now)) p_is rows)) in
      let at_fill = subst (λ x. StageKnows told marks (current log) GoesOn c x) stage knows in
      subst (λ (x : Copying). Known (Chunk count) GoesOn x) (sym (new_is ∙ ap (λ n. (let x : Copying = record c { stage = Fill part said (done + n) } in x)) count_here))
      (filled_more told dirty marks log now kept c part said done listed name at_fill.1.0 at_fill.1.1 (at_fill.1.2 refl)
      (subst (λ n. done + n ≤ said.size) count_here fits) (one_done log (writing (current log) (places_of c) part said done) now row) at_fill.0)
  copy_tells new (Placed path) going (name, listed, knows) (part, said, stage, path_is, new_is) (other_part, other_said, other_stage, rows) =
      let e : (let o : Stage = Fill other_part other_said other_said.size in o) ≡ Fill part said said.size = sym other_stage ∙ stage in
      let p_is : other_part ≡ part = cc in
      let s_is : other_said ≡ said = cc in
      let row = subst (λ (x : SourceFacts). AllDone log (placing x.mode part c.target) (Some now)) s_is (subst (λ x. AllDone log (placing other_said.mode x c.target) (Some now)) p_is rows) in
      let at_fill = subst (λ x. StageKnows told marks (current log) GoesOn c x) stage knows in
      let source_is : moved_from t.top.source t.top.target c.target ≡ c.source = ap (moved_from t.top.source t.top.target) lies.to ∙ (moved_below t.top.source t.top.target lies.rest ∙ sym lies.from) in
      subst (λ (x : Copying). Known (Placed path) GoesOn x) (sym new_is)
      (subst (λ q. Known (Placed q) GoesOn (record c { stage = Decided })) (sym path_is)
      (comes_map told (said_placed told t.top.source t.top.target c.target) dirty log now (λ m. (let o : Option Route = None in o) ≡ None)
      (λ m. FileKnows (said_placed told t.top.source t.top.target c.target) dirty m (current now) GoesOn (record c { stage = Decided })) (λ m k none. (name, listed, none))
      (part_placed told dirty t.top.source t.top.target c source_is name.name name.is part at_fill.1.0 (listed at_fill.0).0 (listed at_fill.0).1 marks log now said kept at_fill.1.1 (at_fill.1.2 refl) row)))
  copy_tells new (Cleaned part) going (name, listed, knows) (follows, stage, new_is) rows =
      let at_clean = subst (λ x. StageKnows told marks (current log) GoesOn c x) stage knows in
      let after = said_after now (Cleaned part) (Copy t) told in
      subst (λ (x : Copying). Known (Cleaned part) GoesOn x) (sym new_is)
      (comes_map told after dirty log now (λ m. IsAsFound m (current now) c.target) (λ m. FileKnows after dirty m (current now) GoesOn (record c { stage = after_clean follows }))
      (λ m k found. (name, listed, cleaned_knows follows after m (current now) refl found))
      (part_cleaned told dirty marks log now (Copy t) c.target part at_clean.1.0 kept at_clean.1.1 (listed at_clean.0).0 (listed at_clean.0).1
      (subst (λ (l : CallLog). Performs {A = Unit {0}} log (RemoveFile part) (Ok tt) (Some l)) (sym (some_log now rows.0 rows.2)) rows.1)))
  copy_tells new (Troubled trouble) going knows (barrier, new_is) stop =
      subst (λ (x : Copying). Known (Troubled trouble) (InTrouble (halt_of trouble)) x) (sym new_is)
      (stops trouble.cause trouble.path (InTrouble (halt_of trouble)) (λ e. let f : ⊥ = cc in f) knows c.stage going refl stop)
  copy_tells new (Began part) going knows tells calls = not_begun c.stage going tells.0
  copy_tells new Barrier going knows tells calls = not_decided c.stage going tells.0
  copy_tells new (Ended Finished part) going knows tells calls = not_decided c.stage going tells.0
  copy_tells new did going knows tells calls = absurd tells
