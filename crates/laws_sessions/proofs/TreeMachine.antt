-- What the machine's step comes to, by what is at work in a copy of folders and what is due; and how what is in trouble is passed over.
use Rattle.std.proofs.Common.{◌≡◌, ◌⊎◌, ℕ, Bool, true, false, List, [], ◌∷◌, refl, sym, ◌∙◌, ap, subst, inl, inr, Option, Some, None}
use Rattle.mc_text.specs.Routes.{Route}
use Rattle.tree_trait.specs.Change.{CallLog, current}
use Rattle.tree_trait.specs.FileSystem.{Spot}
use Rattle.laws_crash.specs.Guarded.{Marks}
use Rattle.job_answers.specs.Skipping.{passed_cause}
use Rattle.job_answers.specs.declared.skips.Skips.{Skips as Kinds}
use Rattle.job_answers.specs.declared.replies.Replies.{Replies}
use Rattle.job_reports.specs.CallRuns.{AllDone}
use Rattle.job_reports.specs.declared.report.Cause.{Cause}
use Rattle.job_reports.specs.declared.report.Did.{Did}
use Rattle.job_reports.specs.declared.report.Did.TheVariants.{Began, Chunk, Placed, Removed, Made, Set, Kept, Skipped, Cleaned, Barrier, Asked, Merges, Moved, Troubled, Ended}
use Rattle.job_reports.specs.declared.report.Trouble.{Trouble}
use Rattle.job_reports.proofs.CallAnswers.{some_log}
use Rattle.copy_folders.specs.FolderCopying as folder
use Rattle.copy_folders.specs.FolderCopying.{FolderCopying}
use Rattle.copy_folders.specs.FolderSteps.{FolderCalls, next_call}
use Rattle.copy_folders.specs.declared.stage.FolderDid.{FolderDid}
use Rattle.copy_folders.specs.declared.stage.FolderDid.TheVariants as folder_did
use Rattle.copy_folders.specs.Levels.{is_around_dirty}
use Rattle.job_unsynced.specs.Folders.{with_change as change_list}
use Rattle.copy_tree.specs.InPlace.{owed_of}
use Rattle.copy_tree.specs.Parts.{IsPartPlace}
use Rattle.copy_tree.specs.Reports.{IsToldAs}
use Rattle.copy_tree.specs.Skipping as machine
use Rattle.copy_tree.specs.Standing.{Seen, is_fresh}
use Rattle.copy_tree.specs.TreeCopySteps.{FolderEnds, TakesNext, WorksOn, at_end}
use Rattle.copy_tree.specs.declared.item.ItemAtWork.{ItemAtWork}
use Rattle.copy_tree.specs.declared.item.ItemAtWork.TheVariants.{Next, File, Link, Stays}
use Rattle.copy_job.specs.Marks.{folder_worked, is_dirty_after, is_left_dirty, was_dirty}
use Rattle.copy_job.specs.Standing.{SubtreeCopying}
use Rattle.copy_job.specs.Unbegun.{MayBegin}
use Rattle.copy_move.specs.declared.run.Course.TheVariants.{GoesOn}
use Rattle.laws_sessions.proofs.FileMoves.{worked_moves}
use Rattle.laws_sessions.proofs.GivenModes.{file_owes, link_owes, works_owe}
use Rattle.laws_sessions.proofs.Knowing.{IsKept, HistoryFacts}
use Rattle.laws_sessions.proofs.OwedModes.{OwedModes}
use Rattle.laws_sessions.proofs.TreeBefore.{asks, keeps, Before, Result, ends_refused, ends_synced, finishes, is_begun, merges, stops_before, syncs_around}
use Rattle.laws_sessions.proofs.TreeBegins.{none_left}
use Rattle.laws_sessions.proofs.TreeKnown.{ItemHas}
use Rattle.laws_sessions.proofs.TreeListed.{list_joins, list_stays}
use Rattle.laws_sessions.proofs.TreeMakes.{takes_folder}
use Rattle.laws_sessions.proofs.TreePlaces.{placed_of}
use Rattle.laws_sessions.proofs.TreeSets.{sets_mode}
use Rattle.laws_sessions.proofs.TreeSkips.{LaidIn}
use Rattle.laws_sessions.proofs.TreeSteps.{closing_not}
use Rattle.laws_sessions.proofs.TreeTakes.{takes_file}
use Rattle.laws_sessions.proofs.TreeTakesLink.{takes_link}
use Rattle.laws_sessions.proofs.TreeWorks.{works_file, works_link}

-- only a trouble is passed over without a question
pub passed_trouble : (skips : Kinds) (did : Did) (why : Cause) → passed_cause skips did ≡ Some why → (trouble : Trouble) × (did ≡ Troubled trouble)
passed_trouble skips (Troubled trouble) why is = (trouble, refl)
passed_trouble skips did why is = absurd (let f : ⊥ = cc in f)

-- what is passed over is told so, or that there is no memory for that
abbrev pub SaysPassed : Did → Type 0
SaysPassed did = ((path : Route) × (cause : Cause) × (did ≡ Skipped path cause)) ⊎ ((trouble : Trouble) × (did ≡ Troubled trouble))

rest_says : (cause : Cause) (old new : Seen) (did : Did) → machine.SkipsRest cause old did new → SaysPassed did
rest_says cause old new did (inl s) = inl (_, cause, s.0)
rest_says cause old new did (inr room) = inr (_, room.0)

named_says : (names : List (List ℕ)) (cause : Cause) (old new : Seen) (did : Did) → machine.SkipsNamed names cause old did new → SaysPassed did
named_says [] cause old new did (moved, inl s, stands) = inl (_, cause, s.0)
named_says [] cause old new did (moved, inr room, stands) = inr (_, room.0)
named_says (name ∷ names) cause old new did (inl s) = inl (_, cause, s.0)
named_says (name ∷ names) cause old new did (inr (inl rest)) = rest_says cause old new did rest.1
named_says (name ∷ names) cause old new did (inr (inr room)) = inr (_, room.0)

pub skip_says : (item : ItemAtWork) (cause : Cause) (old new : Seen) (did : Did) → machine.SkipsAt item cause old did new → SaysPassed did
skip_says Next cause old new did s = named_says old.levels.inner.names.names cause old new did s
skip_says (File f) cause old new did (moved, inl s, stands) = inl (_, cause, s.0)
skip_says (File f) cause old new did (moved, inr room, stands) = inr (_, room.0)
skip_says (Link l) cause old new did (moved, inl s, stands) = inl (_, cause, s.0)
skip_says (Link l) cause old new did (moved, inr room, stands) = inr (_, room.0)
skip_says (Stays part) cause old new did s = absurd s

module _ (told : HistoryFacts) (dirty dirty_after : List Route) (marks : Marks) (log now : CallLog) (kept : IsKept told dirty marks log) (c : SubtreeCopying) (mid : Seen) (b : Before told dirty marks log c mid) (laid : LaidIn mid) (free : Route → Bool) (replies : Replies)
    (did : Did) (new : Seen) (list : dirty_after ≡ change_list (was_dirty mid) (is_dirty_after mid did new) (folder_worked mid) dirty) (first : is_fresh c.at.stage ≡ true → MayBegin did) where
  abbrev Comes_to : Did → Type 0
  Comes_to d = Result told dirty dirty_after log now c d new

  -- something is at work, so something was changed
  some_of : (mid.item ≡ Next → ⊥) → is_fresh c.at.stage ≡ false
  some_of busy = by (is_fresh c.at.stage) refl
    where
      by : (x : Bool) → is_fresh c.at.stage ≡ x → is_fresh c.at.stage ≡ false
      by false is = is
      by true fresh = (let s = b.stands in let outside = s.unbegun fresh in absurd (busy (ap (λ (x : Seen). x.item) (none_left b.n c.at mid b.leaves outside.around) ∙ outside.none)))

  abbrev worked : FolderCopying
  worked = let x : Seen = at_end mid in x.levels.inner.copy

  -- a folder whose children are decided
  ends_at : mid.item ≡ Next → is_around_dirty mid.levels.around ≡ false → FolderEnds (at_end mid) new did (Some log) (Some now) → Comes_to did
  ends_at none clean e = by e.report e.says e.tells (e.called log refl)
    where
      item : new.item ≡ Next
      item = ap (λ (x : Seen). x.item) e.stands ∙ none

      by : (report : FolderDid) → IsToldAs report did → folder.Tells worked report e.moved → FolderCalls worked report log (Some now) → Comes_to did
      by (folder_did.Set path) is (mode, stage, path_is, new_is) rows =
          subst Comes_to (sym is) (subst (λ q. Comes_to (Set q)) (sym path_is)
          (sets_mode told dirty dirty_after marks log now kept c mid b none clean free new path (is_begun c did first (λ may. subst MayBegin is may)) mode stage
          (list_joins told dirty dirty_after marks log now kept c mid b none clean free did new list
          (ap (λ d. is_left_dirty d new) is ∙ (ap (λ (x : Seen). folder.is_dirty x.levels.inner.copy.names) e.stands ∙ ap (λ (x : FolderCopying). folder.is_dirty x.names) new_is)))
          item (ap (λ (x : Seen). owed_of x.levels.inner.copy.stage) e.stands ∙ ap (λ (x : FolderCopying). owed_of x.stage) new_is) (ap (λ (x : Seen). x.levels.around) e.stands)
          (subst (λ s. AllDone log (next_call worked.target s worked.names) (Some now)) stage rows)))
      by folder_did.Barrier is tells rows = ends_synced told dirty dirty_after marks log now kept c mid b none did new first list clean e is tells rows
      by (folder_did.Troubled trouble) is tells rows = ends_refused told dirty dirty_after marks log now kept c mid b none did new first list clean e trouble is tells rows
      by (folder_did.Made path) is (mode, stage, path_is, new_is) rows =
          (let placed = placed_of mid.name mid.levels.inner mid.levels.around laid in absurd (closing_not mid.levels.inner.copy.stage placed.made mode stage))
      by folder_did.Closed is tells rows = absurd is

  takes : mid.item ≡ Next → is_around_dirty mid.levels.around ≡ false → TakesNext (IsPartPlace free mid) replies mid new did (Some log) (Some now) → Comes_to did
  takes none clean (inl s) =
      subst Comes_to (sym s.says)
      (stops_before told dirty dirty_after marks log now kept c mid b none s.trouble new s.stands
      (list_stays told dirty dirty_after marks log now kept c mid b none clean free did new list
      (ap (λ d. is_left_dirty d new) s.says ∙ ap (λ (x : Seen). folder.is_dirty x.levels.inner.copy.names) s.stands)) (some_log now log s.same))
  takes none clean (inr (inl t)) = takes_file told dirty dirty_after marks log now kept c mid b none clean free replies did new t list
  takes none clean (inr (inr (inl t))) = takes_link told dirty dirty_after marks log now kept c mid b none clean free replies did new t list
  takes none clean (inr (inr (inr (inl t)))) = takes_folder told dirty dirty_after marks log now kept c mid b none clean free replies did new t list
  takes none clean (inr (inr (inr (inr (inl t))))) =
      merges told dirty dirty_after marks log now kept c mid b none replies did new t
      (list_stays told dirty dirty_after marks log now kept c mid b none clean free did new list
      (ap (λ d. is_left_dirty d new) t.says ∙ ap (λ (x : Seen). folder.is_dirty x.levels.inner.copy.names) t.stands))
  takes none clean (inr (inr (inr (inr (inr (inl t)))))) =
      keeps told dirty dirty_after marks log now kept c mid b none replies did new t
      (list_stays told dirty dirty_after marks log now kept c mid b none clean free did new list
      (ap (λ d. is_left_dirty d new) t.says ∙ ap (λ (x : Seen). folder.is_dirty x.levels.inner.copy.names) t.stands))
  takes none clean (inr (inr (inr (inr (inr (inr (inl t))))))) =
      asks told dirty dirty_after marks log now kept c mid b none replies did new t
      (list_stays told dirty dirty_after marks log now kept c mid b none clean free did new list
      (ap (λ d. is_left_dirty d new) t.says ∙ ap (λ (x : Seen). folder.is_dirty x.levels.inner.copy.names) t.stands))
  takes none clean (inr (inr (inr (inr (inr (inr (inr (next, inl (debt, e))))))))) = ends_at none clean e
  takes none clean (inr (inr (inr (inr (inr (inr (inr (next, inr (debt, f, same))))))))) =
      finishes told dirty dirty_after marks log now kept c mid b none did new f
      (list_stays told dirty dirty_after marks log now kept c mid b none clean free did new list
      (ap (λ d. is_left_dirty d new) f.says ∙ ap (λ (x : Seen). folder.is_dirty x.levels.inner.copy.names) f.stands)) (some_log now log same)

  pub works : (item : ItemAtWork) → mid.item ≡ item → WorksOn item (IsPartPlace free mid) replies mid new did (Some log) (Some now) → Comes_to did
  works Next none (inl s) = syncs_around told dirty dirty_after marks log now kept c mid b none did new first list s
  works Next none (inr (clean, t)) = takes none clean t
  works (File f) is w = works_file told dirty dirty_after marks log now kept c mid b (some_of (λ none. let e : File f ≡ Next = sym is ∙ none in let x : ⊥ = cc in x)) f is (IsPartPlace free mid) did new w list
  works (Link l) is w = works_link told dirty dirty_after marks log now kept c mid b (some_of (λ none. let e : Link l ≡ Next = sym is ∙ none in let x : ⊥ = cc in x)) l is new did w list
  works (Stays part) is w = absurd w

  -- the modes that are owed, as the history told them before
  pub owes : (item : ItemAtWork) → mid.item ≡ item → WorksOn item (IsPartPlace free mid) replies mid new did (Some log) (Some now) → OwedModes told.tree mid → OwedModes told.tree new
  owes Next none w owed =
      let part : told.part ≡ None = subst (λ i. ItemHas told dirty marks (current log) GoesOn i) none b.part in
      let placed = placed_of mid.name mid.levels.inner mid.levels.around laid in
      works_owe told.tree (IsPartPlace free mid) replies mid new did log now
      (λ p. ap (λ (s : Spot). s.value) (kept.known.shows p (λ is. let e : (let o : Option Route = None in o) ≡ Some p = sym part ∙ is in let x : ⊥ = cc in x))) owed placed.made Next w
  owes (File f) is w owed = file_owes told.tree (IsPartPlace free mid) mid new did (Some log) (Some now) owed f (worked_moves (IsPartPlace free mid) f mid new did (Some log) (Some now) w)
  owes (Link l) is w owed = link_owes told.tree (IsPartPlace free mid) mid new did (Some log) (Some now) owed l w
  owes (Stays part) is w owed = absurd w
