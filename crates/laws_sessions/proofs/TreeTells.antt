-- What a step of a copy of folders comes to: folders that owe nothing are left, the machine makes its step, and what it is in trouble with may be passed over.
use Rattle.std.proofs.Common.{◌≡◌, ℕ, Bool, true, false, List, refl, sym, ◌∙◌, ap, subst, inl, inr, Option, Some, None}
use Rattle.std.proofs.lemmas.Bool.{or_left}
use Rattle.mc_text.specs.Routes.{Route}
use Rattle.tree_trait.specs.Change.{CallLog, current}
use Rattle.tree_trait.proofs.Visible.{same_path-self}
use Rattle.laws_crash.specs.Guarded.{Marks}
use Rattle.job_answers.specs.declared.replies.Replies.{Replies}
use Rattle.job_reports.specs.Paths.{folder_of}
use Rattle.job_reports.specs.Stops.{out_of_memory_at}
use Rattle.job_reports.specs.declared.report.Cause.{Cause}
use Rattle.job_reports.specs.declared.report.Did.{Did}
use Rattle.job_reports.specs.declared.report.Did.TheVariants.{Began, Chunk, Placed, Removed, Made, Set, Kept, Skipped, Cleaned, Barrier, Asked, Merges, Moved, Troubled, Ended}
use Rattle.job_reports.specs.declared.report.StepResult.{StepResult}
use Rattle.job_reports.specs.declared.report.Trouble.{Trouble}
use Rattle.job_reports.proofs.CallAnswers.{some_log}
use Rattle.copy_tree.specs.InPlace.{AreMoved, HoldsTop}
use Rattle.copy_tree.specs.Skipping as machine
use Rattle.copy_tree.specs.Standing.{Seen, after_report, is_fresh}
use Rattle.copy_tree.specs.TreeCopySteps.{LeavesAll}
use Rattle.copy_job.specs.Passing.{OrPassedOver}
use Rattle.copy_job.specs.Reporting.{MayTell}
use Rattle.copy_job.specs.Standing.{SubtreeCopying, at_barrier}
use Rattle.copy_job.specs.SubtreeSteps.{ListSteps, SubtreeSteps, step_result}
use Rattle.copy_job.specs.Told.{IsAfter}
use Rattle.copy_job.specs.Unbegun.{MayBegin}
use Rattle.copy_job.proofs.Targets.{works_at_once}
use Rattle.copy_move.specs.Jobs.{course_after}
use Rattle.copy_move.specs.Settling.{NoneOwed}
use Rattle.copy_move.specs.TreeCopies.{Tells}
use Rattle.copy_move.specs.declared.run.Course.TheVariants.{GoesOn}
use Rattle.copy_move.specs.declared.work.Work.TheVariants.{Copy}
use Rattle.laws_sessions.proofs.DeletionSteps.{Steps}
use Rattle.laws_sessions.proofs.GivenModes.{leaves_owe}
use Rattle.laws_sessions.proofs.JobKnows.{KnowsAfter, may_fill}
use Rattle.laws_sessions.proofs.Knowing.{IsKept, HistoryFacts}
use Rattle.laws_sessions.proofs.OwedModes.{AllOwe, OwedModes}
use Rattle.laws_sessions.proofs.SetFolders.{owed_mode_law}
use Rattle.laws_sessions.proofs.Stepped.{StepRan, comes_map, comes_none, said_after}
use Rattle.laws_sessions.proofs.TreeBefore.{Before, Result, Then, had_begun, is_begun}
use Rattle.laws_sessions.proofs.TreeCalls.{around_at, left_item}
use Rattle.laws_sessions.proofs.TreeGoing.{fresh_before, leaves_laid}
use Rattle.laws_sessions.proofs.TreeKnown.{ItemHas, TargetKnows, TreeGoes, TreeKnown, item_course}
use Rattle.laws_sessions.proofs.TreeLeads.{tree_fresh, tree_then}
use Rattle.laws_sessions.proofs.TreeMachine.{SaysPassed, owes, passed_trouble, skip_says, works}
use Rattle.laws_sessions.proofs.TreeSkipped.{skipped_item, skips_none}
use Rattle.laws_sessions.proofs.TreeSkips.{LaidIn}

module _ (told : HistoryFacts) (dirty dirty_after : List Route) (marks : Marks) (log now : CallLog) (kept : IsKept told dirty marks log) (replies : Replies) (c new : SubtreeCopying) (did : Did) (k : TreeKnown told dirty marks log GoesOn c) (tells : Tells replies c did new)
    (settled : is_fresh c.at.stage ≡ true → NoneOwed (current log) (Copy c) dirty) (free : Route → Bool) (count f0 f1 : ℕ) (s : SubtreeSteps free replies c new did count dirty dirty_after (Some log) (Some now) f0 f1) where
  abbrev mid : Seen
  mid = s.mid

  abbrev r : StepResult
  r = s.worked

  goes : TreeGoes told dirty marks log c
  goes = k.goes refl

  leaves : (n : ℕ) × LeavesAll n c.at mid
  leaves = s.leaves

  before : Before told dirty marks log c mid
  before = record {
    n = leaves.0;
    leaves = leaves.1;
    stands = goes.stands;
    part = subst (λ i. ItemHas told dirty marks (current log) GoesOn i) (sym (left_item leaves.0 c.at mid leaves.1)) k.part;
    around = λ some. let h = goes.begun some in around_at told marks (current log) c c.at mid (λ none. left_item leaves.0 c.at mid leaves.1 ∙ none) h.around;
    begun = goes.begun;
    owed = settled;
  }

  laid : LaidIn mid
  laid = (let h = goes.stands in leaves_laid leaves.0 c.at mid leaves.1 h.laid)

  first_worked : is_fresh c.at.stage ≡ true → MayBegin r.did
  first_worked fresh = by s.passes
    where
      by : OrPassedOver replies.skips r s.moved new.at (step_result did count) → MayBegin r.did
      by (inl same) = subst MayBegin (ap (λ (x : StepResult). x.did) same.1) (tells.first fresh)
      by (inr (why, is, calls, skips)) = (let t = passed_trouble replies.skips r.did why is in subst MayBegin (sym t.1) tt)

  abbrev Comes_to : Did → Seen → Type 0
  Comes_to d x = Result told dirty dirty_after log now c d x

  -- there was no memory for the list of dirty folders
  short : (trouble : Trouble) → s.moved ≡ mid → dirty_after ≡ dirty → now ≡ log → Comes_to (Troubled trouble) s.moved
  short trouble stays list same =
      subst (λ (x : Seen). Comes_to (Troubled trouble) x) (sym stays)
      (subst (λ routes. StepRan told told routes log now (Then told routes log now c (Troubled trouble) mid)) (sym list)
      (subst (λ (l : CallLog). StepRan told told dirty log l (Then told dirty log l c (Troubled trouble) mid)) (sym same)
      (comes_none told told dirty log log (Then told dirty log log c (Troubled trouble) mid) marks refl kept (record {
        part = item_course told dirty marks (current log) GoesOn (course_after (Troubled trouble)) mid.item (λ e. refl) before.part;
        around = before.around;
        had = λ some. had_begun told dirty marks log c mid before some;
        modes = λ h. h;
      }))))

  worked : Comes_to r.did s.moved
  worked = by s.works
    where
      by : ListSteps free replies mid s.moved r dirty dirty_after (Some log) (Some now) f0 f1 → Comes_to r.did s.moved
      by (inl out) = subst (λ d. Comes_to d s.moved) (sym (ap (λ (x : StepResult). x.did) out.says)) (short (out_of_memory_at (at_barrier mid)) out.stays out.list (some_log now log out.same))
      by (inr m) = works told dirty dirty_after marks log now kept c mid before laid free replies r.did s.moved m.list first_worked mid.item refl (works_at_once free replies mid s.moved r.did r.calls (Some log) (Some now) f0 f1 m.steps s.settled)

  -- the modes that are owed, as the history told them before
  owed_first : OwedModes told.tree c.at
  owed_first = by (is_fresh c.at.stage) refl
    where
      by : (x : Bool) → is_fresh c.at.stage ≡ x → OwedModes told.tree c.at
      by false some = (let h = goes.begun some in h.modes)
      by true fresh =
          let stands = goes.stands in
          let outside = stands.unbegun fresh in
          let place = stands.in_place in
          let holds : HoldsTop c.top c.at.levels.inner = subst (AreMoved c.top c.at.levels.inner) outside.around place.levels in
          subst (λ around. AllOwe told.tree c.at.levels.inner around) (sym outside.around)
          (λ mode is. absurd (let e : (let o : Option ℕ = None in o) ≡ Some mode = sym holds.keeps ∙ is in let f : ⊥ = cc in f))

  owed_worked : OwedModes told.tree s.moved
  owed_worked = by s.works
    where
      owed_mid : OwedModes told.tree mid
      owed_mid = leaves_owe told.tree leaves.0 c.at mid leaves.1 owed_first

      by : ListSteps free replies mid s.moved r dirty dirty_after (Some log) (Some now) f0 f1 → OwedModes told.tree s.moved
      by (inl out) = subst (OwedModes told.tree) (sym out.stays) owed_mid
      by (inr m) = owes told dirty dirty_after marks log now kept c mid before laid free replies r.did s.moved m.list first_worked mid.item refl (works_at_once free replies mid s.moved r.did r.calls (Some log) (Some now) f0 f1 m.steps s.settled) owed_mid

  -- what is in trouble is passed over in the same step
  module _ (trouble : Trouble) (come : Comes_to (Troubled trouble) s.moved) (why : Cause) (skips : machine.Skips why s.moved did new.at) where
    passed_known : (d : Did) → did ≡ d → ((t : Trouble) → d ≡ Troubled t → may_fill (course_after d) ≡ true → ⊥) → (m : Marks) → Then told dirty_after log now c (Troubled trouble) s.moved m
        → ItemHas told dirty_after m (current now) (course_after d) new.at.item × (is_fresh c.at.stage ≡ false → TargetKnows told m (current now) (record c { at = new.at }))
    passed_known d is off m h =
        let at = subst (λ x. machine.Skips why s.moved x new.at) is skips in (
          skipped_item told dirty_after m (current now) (course_after (Troubled trouble)) (course_after d) why d off s.moved.item s.moved new.at refl at h.part,
          λ some. elim (h.around some) [ inl calm ↦ inl calm | inr but ↦ inr (skips_none why s.moved new.at d but.0 at, but.1) ],
        )

    passed : SaysPassed did → Comes_to did new.at
    passed (inl (path, cause, is)) =
        subst (λ d. Comes_to d new.at) (sym is)
        (comes_map told told dirty_after log now (Then told dirty_after log now c (Troubled trouble) s.moved) (Then told dirty_after log now c (Skipped path cause) new.at)
        (λ m kept_then h.
        let known = passed_known (Skipped path cause) is (λ t e goes. let f : ⊥ = cc in f) m h in
        record { part = known.0; around = known.1; had = h.had; modes = λ owed. owed }) come)
    passed (inr (other, is)) =
        subst (λ d. Comes_to d new.at) (sym is)
        (comes_map told told dirty_after log now (Then told dirty_after log now c (Troubled trouble) s.moved) (Then told dirty_after log now c (Troubled other) new.at)
        (λ m kept_then h.
        let known = passed_known (Troubled other) is (λ t e goes. let f : ⊥ = cc in f) m h in
        record { part = known.0; around = known.1; had = h.had; modes = λ owed. owed }) come)

  stepped : Comes_to did new.at × OwedModes told.tree new.at
  stepped = by s.passes
    where
      by : OrPassedOver replies.skips r s.moved new.at (step_result did count) → Comes_to did new.at × OwedModes told.tree new.at
      by (inl same) = (
        subst (λ (x : Seen). Comes_to did x) (sym same.2) (subst (λ d. Comes_to d s.moved) (sym (ap (λ (x : StepResult). x.did) same.1)) worked),
        subst (OwedModes told.tree) (sym same.2) owed_worked,
      )
      by (inr (why, is, calls, skips)) =
          let t = passed_trouble replies.skips r.did why is in (
            passed t.0 (subst (λ d. Comes_to d s.moved) t.1 worked) why skips (skip_says s.moved.item why s.moved new.at did skips),
            (let law = owed_mode_law in law.skip why s.moved new.at did told.tree skips owed_worked),
          )

  abbrev after : HistoryFacts
  after = said_after now did (Copy c) told

  -- what was begun is known to be in a folder on the disk
  some_before : (d : Did) → did ≡ d → (MayBegin d → ⊥) → told.folders (folder_of c.top.target) ≡ true
  some_before d is off = (let h = goes.begun (is_begun c d (λ fresh. subst MayBegin is (tells.first fresh)) off) in h.folder)

  still_so : is_fresh c.at.stage ≡ false → told.folders (folder_of c.top.target) ≡ true
  still_so some = (let h = goes.begun some in h.folder)

  folder_then : (d : Did) → did ≡ d → is_fresh (after_report d c.at.stage) ≡ false → (let x : HistoryFacts = said_after now d (Copy c) told in x.folders (folder_of c.top.target)) ≡ true
  folder_then (Began part) is some = or_left _ _ (or_left _ _ (same_path-self (folder_of c.top.target)))
  folder_then (Made path) is some = or_left _ _ (or_left _ _ (same_path-self (folder_of c.top.target)))
  folder_then (Set path) is some = or_left _ _ (or_left _ _ (same_path-self (folder_of c.top.target)))
  folder_then (Chunk bytes) is some = some_before (Chunk bytes) is (λ may. may)
  folder_then (Placed path) is some = some_before (Placed path) is (λ may. may)
  folder_then (Cleaned part) is some = some_before (Cleaned part) is (λ may. may)
  folder_then Barrier is some = some_before Barrier is (λ may. may)
  folder_then (Removed path) is some = absurd (subst MayTell is tells.may)
  folder_then (Moved pair) is some = absurd (subst MayTell is tells.may)
  folder_then did is some = still_so some

  tree_known : (m : Marks) → Then told dirty_after log now c did new.at m → TreeKnown after dirty_after m now (course_after did) new
  tree_known m h = by (is_fresh new.at.stage) refl
    where
      told_so : IsAfter did c new
      told_so = tells.after

      by : (x : Bool) → is_fresh new.at.stage ≡ x → TreeKnown after dirty_after m now (course_after did) new
      by true still = tree_fresh told dirty dirty_after marks log now kept c new did free replies count f0 f1 s goes.stands k.name told_so (fresh_before did c.at.stage (sym (ap is_fresh told_so.stage) ∙ still)) still after (course_after did) m h.part
      by false off =
          let some : is_fresh (after_report did c.at.stage) ≡ false = sym (ap is_fresh told_so.stage) ∙ off in
          let had = h.had some in
          tree_then told dirty dirty_after marks log now kept c new did free replies count f0 f1 s goes.stands k.name told_so had.0 had.1 after (course_after did) m (h.modes stepped.1) (folder_then did refl some) h.part
          (subst (λ (x : SubtreeCopying). TargetKnows after m (current now) x) (sym s.stands) (h.around some))

  knows_after : (d : Did) → (m : Marks) → TreeKnown (said_after now d (Copy c) told) dirty_after m now (course_after d) new → KnowsAfter d (said_after now d (Copy c) told) dirty_after now (course_after d) (Copy new) m
  knows_after (Ended ending part) m known = refl
  knows_after did m known = known

  pub tree_tells : Steps told dirty dirty_after marks log now kept did (course_after did) (Copy c) (Copy new)
  tree_tells = comes_map told after dirty_after log now (Then told dirty_after log now c did new.at) (KnowsAfter did after dirty_after now (course_after did) (Copy new)) (λ m kept_then h. knows_after did m (tree_known m h)) stepped.0
