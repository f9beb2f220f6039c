-- What a job that copies has done, in each of its steps; and what it leaves once it is finished.
use Rattle.std.proofs.Common.{◌≡◌, ℕ, Bool, true, false, List, [], ◌∷◌, ◌++◌, refl, sym, ◌∙◌, ap, subst, inl, inr, Option, Some, None}
use Rattle.std.specs.Prelude.{is_some, unwrap_or}
use Rattle.std.proofs.lemmas.Bool.{both_ways, false≢true}
use Rattle.mc_text.specs.Routes.{Route, is_prefix, parent_of}
use Rattle.mc_text.specs.declared.kind.Kind.{Kind}
use Rattle.mc_text.specs.declared.kind.Kind.TheVariants as kind
use Rattle.tree_trait.specs.Change.{CallLog, current}
use Rattle.tree_trait.specs.CrashImages.{Among}
use Rattle.tree_trait.specs.FileSystem.{Spot, View, node}
use Rattle.tree_trait.specs.declared.file_system.FileSystem.{FileSystem}
use Rattle.tree_trait.specs.Refusals.{folder_kind, is_folder}
use Rattle.tree_trait.specs.Shape.{IsTree}
use Rattle.laws_crash.specs.Guarded.{Marks}
use Rattle.job_reports.specs.declared.report.Transfer.TheVariants.{ByCopy}
use Rattle.job_reports.specs.Jobs.{Copies}
use Rattle.job_reports.specs.declared.job.Pair.{Pair}
use Rattle.job_reports.specs.declared.report.Cause.{Cause}
use Rattle.job_reports.specs.declared.report.Did.{Did}
use Rattle.job_reports.specs.declared.report.Did.TheVariants.{Asked, Kept, Merges, Skipped, Troubled, Ended}
use Rattle.job_reports.specs.declared.report.Ending.TheVariants.{Finished}
use Rattle.job_reports.specs.declared.report.StepResult.{StepResult}
use Rattle.job_reports.proofs.PermittedCalls.{stat_missing}
use Rattle.job_answers.specs.declared.replies.Replies.{Replies}
use Rattle.copy_file.specs.Copying as file
use Rattle.copy_file.specs.declared.stage.Stage.{Stage as FileStage}
use Rattle.copy_file.specs.declared.stage.Stage.TheVariants as file_stage
use Rattle.copy_folders.specs.declared.stage.FolderDid.{FolderDid}
use Rattle.copy_folders.specs.declared.stage.FolderDid.TheVariants as folder_did
use Rattle.copy_folders.specs.declared.level.Level.{Level}
use Rattle.copy_tree.specs.declared.due.Due.TheVariants.{Thing}
use Rattle.copy_tree.specs.declared.item.ItemAtWork.{ItemAtWork}
use Rattle.copy_tree.specs.declared.item.ItemAtWork.TheVariants.{Next, File, Link, Stays}
use Rattle.copy_tree.specs.declared.progress.Progress.TheVariants.{UnderWay}
use Rattle.copy_tree.specs.InPlace.{AreMoved, HoldsTop, IsInPlace}
use Rattle.copy_tree.specs.Progress.{progress}
use Rattle.copy_tree.specs.Reports.{IsToldAs}
use Rattle.copy_tree.specs.Standing.{Seen, due, due_at, pair_of}
use Rattle.copy_tree.specs.TreeCopySteps.{CopySteps, TakesNext, WorksOn, at_end, is_top, link_begun}
use Rattle.copy_tree.specs.Asking.{IsOpen}
use Rattle.copy_tree.specs.Replaceable.{IsReplaceable}
use Rattle.copy_tree.specs.Taking.{SourceIs}
use Rattle.tree_walk.specs.Places.{is_empty}
use Rattle.copy_tree.specs.Parts.{IsPartPlace}
use Rattle.copy_tree.proofs.InPlaces.{closed_in_place, leaves_all, pair_moved, place_law}
use Rattle.copy_tree.proofs.Staying.{staying_law}
use Rattle.copy_job.specs.Passing.{OrPassedOver}
use Rattle.copy_job.specs.Standing.{SubtreeCopying, named_of, retries, begun_subtree_copy}
use Rattle.copy_job.proofs.Begun.{begins_held}
use Rattle.copy_job.specs.SubtreeSteps.{ListSteps, SubtreeSkips, SubtreeSteps, step_result}
use Rattle.laws_sessions.specs.Replayed.{replayed_step}
use Rattle.laws_sessions.proofs.Intact.{prefix_append}
use Rattle.laws_sessions.proofs.Knowing.{IsKept, HistoryFacts}
use Rattle.laws_sessions.proofs.OwedModes.{ShowsTree}
use Rattle.laws_sessions.proofs.Untouched.{IsBare as NoFolder, bare_free}
use Rattle.laws_sessions.proofs.TreeCalls.{left_item}
use Rattle.laws_sessions.proofs.TreeKnown.{ItemHas}
use Rattle.laws_sessions.proofs.TreeMachine.{SaysPassed, passed_trouble, skip_says}
use Rattle.copy_move.specs.declared.run.Course.{Course}
use Rattle.laws_outcomes.specs.Outcomes.{IsCopied, IsReached}
use Rattle.laws_outcomes.proofs.Accounts.{CanPlace, IsAccounted, IsCovered, IsDue, IsNext, IsPending, IsRoom, ItemDone, TreeDone, passed_at}
use Rattle.laws_outcomes.proofs.FileWork.{none_shown, plain_begins}
use Rattle.laws_outcomes.proofs.TreeItems.{file_begins, file_works, link_works}
use Rattle.laws_outcomes.proofs.TreeLevels.{closed_done, leaves_done, no_name}
use Rattle.laws_outcomes.proofs.TreeFolders.{syncs_done, takes_folder}
use Rattle.laws_outcomes.proofs.TreeClosings.{ends_done}
use Rattle.laws_outcomes.proofs.TreePasses.{name_passed, retries_done, skips_done}

-- what the copy of a thing with all that lies in it has done, which is in its place
pub record TreeAccounts (passed : List Route) (v : View) (c : SubtreeCopying) : Type 0 where
  pub in_place : IsInPlace c.top c.at
  pub done : TreeDone v passed c.top c.at

-- what is covered isn't reached
covered_not : {A : Type 0} (passed : List Route) (path : Route) → IsReached passed path → IsCovered passed path → A
covered_not passed path reached (left, among, above) = absurd (both_ways _ (reached left among) above)

-- where no part stands the history shows the tree
pub shows_all : (told : HistoryFacts) (dirty : List Route) (marks : Marks) (log : CallLog) → IsKept told dirty marks log → told.part ≡ None → ShowsTree told.tree log
shows_all told dirty marks log kept none p = ap (λ (s : Spot). s.value) (kept.known.shows p (λ part. let e : (let o : Option Route = None in o) ≡ Some p = sym none ∙ part in let f : ⊥ = cc in f))

-- the next name is that of what is taken up
pub next_of : (c : Seen) (names : List (List ℕ)) (pair : Pair) → c.levels.inner.names.names ≡ names → due_at names c ≡ Thing pair → IsNext c.levels.inner pair.source
next_of c [] pair names_is is = absurd (let f : ⊥ = cc in f)
next_of c (name ∷ names) pair names_is is = let same : pair_of c name ≡ pair = cc in (name, names, names_is, sym (ap (λ (p : Pair). p.source) same))

pub not_begun : (stage : FileStage) → progress stage ≡ UnderWay → stage ≡ file_stage.Begin → ⊥
not_begun stage under is = (let e : progress file_stage.Begin ≡ UnderWay = sym (ap progress is) ∙ under in let f : ⊥ = cc in f)

-- what is copied itself is taken up where no folder is open around
no_around : (around : List Level) → is_empty around ≡ true → around ≡ []
no_around [] is = refl
no_around (outer ∷ around) is = absurd (false≢true is)

pub top_alone : (c : Seen) → is_top c ≡ true → c.levels.around ≡ []
top_alone c is = no_around c.levels.around is

-- and then it is the source
pub top_source : (top : Pair) (c : Seen) (source : Route) → c.levels.around ≡ [] → IsNext c.levels.inner source → IsInPlace top c → source ≡ top.source
top_source top c source around n place =
    let holds : HoldsTop top c.levels.inner = subst (AreMoved top c.levels.inner) around place.levels in
    n.3 ∙ (ap (λ (up : Route). n.0 ∷ up) holds.from ∙ holds.only n.0 (subst (λ names. Among names n.0) (sym n.2) (inl refl)))

-- a file or a link is no folder
single_kind : (k : Kind) → IsReplaceable k → folder_kind k ≡ false
single_kind kind.File h = refl
single_kind kind.Link h = refl
single_kind kind.Folder h = absurd h
single_kind kind.Other h = absurd h

-- no folder stands where something may be put
open_bare : (s : FileSystem) (alone : Bool) (replies : Replies) (pair : Pair) → IsOpen s alone replies pair → NoFolder s pair.target
open_bare s alone replies pair (inl free) i at = bare_free s pair.target (stat_missing s pair.target free) i at
open_bare s alone replies pair (inr (is, (question, d))) i at =
    let both = d.both in
    let target = both.of_target in
    ap (λ j. is_folder (node s j)) (sym (ap (λ o. unwrap_or o 0) at)) ∙ (ap folder_kind (sym target.kind) ∙ single_kind both.target.kind both.replaceable)

module _ (now : CallLog) (v : View) (passed : List Route) (top : Pair) where
  abbrev Then : Did → View
  Then did = replayed_step now did (Some (Copies top.source top.target)) v

  -- a step of the machine
  module _ (unclaimed : Route → Type 0) (replies : Replies) (old new : Seen) (did : Did) (log : CallLog) (h : TreeDone v passed top old) (place : IsInPlace top old) (tree : IsTree (current log)) where
    abbrev After : Type 0
    After = TreeDone (Then did) (passed_at top did passed) top new

    -- what is taken up may be placed, since there is room at its target
    can_place : (pair : Pair) (k : Kind) → folder_kind k ≡ false → SourceIs (current log) pair k → IsOpen (current log) (is_top old) replies pair → ShowsTree v log → CanPlace v old.levels.around pair.source pair.target
    can_place pair k single is onto shows =
        (plain_begins v log tree shows pair.source pair.target k is.0 is.1 single (open_bare (current log) (is_top old) replies pair onto), room onto)
      where
        room : IsOpen (current log) (is_top old) replies pair → IsRoom v old.levels.around pair.target
        room (inl free) = inl (none_shown v log tree shows pair.target (stat_missing (current log) pair.target free))
        room (inr (alone, decided)) = inr (top_alone old alone)

    takes_done : old.item ≡ Next → ShowsTree v log → TakesNext unclaimed replies old new did (Some log) (Some now) → After
    takes_done none shows (inl s) = subst (λ d. TreeDone (Then d) (passed_at top d passed) top new) (sym s.says) (subst (TreeDone v passed top) (sym s.stands) h)
    takes_done none shows (inr (inl t)) =
        let is = t.is log refl in
        file_begins now v passed top old new did h unclaimed t.facts (file.begun_copy old.job t.pair.source t.pair.target) (Some log) (Some now) t.works
        (pair_moved top old.levels.inner.names.names old t.pair refl t.next place) (next_of old old.levels.inner.names.names t.pair refl t.next) refl
        (can_place t.pair kind.File refl is.0 is.2 shows)
    takes_done none shows (inr (inr (inl t))) =
        let is = t.is log refl in
        link_works now v passed top old new did h (link_begun t.pair t.part) (Some log) (Some now) t.works
        (pair_moved top old.levels.inner.names.names old t.pair refl t.next place) (next_of old old.levels.inner.names.names t.pair refl t.next)
        (can_place t.pair kind.Link refl is.0 is.1 shows)
    takes_done none shows (inr (inr (inr (inl t)))) =
        takes_folder now v passed top old new did log (Some now) t.pair t.names t.mode (is_top old) replies h tree shows none
        (pair_moved top old.levels.inner.names.names old t.pair refl t.next place) (next_of old old.levels.inner.names.names t.pair refl t.next) (t.is log refl) t.works
    takes_done none shows (inr (inr (inr (inr (inl t))))) =
        let n = next_of old old.levels.inner.names.names t.pair refl t.next in
        subst (λ d. TreeDone (Then d) (passed_at top d passed) top new) (sym t.says)
        (subst (λ p. TreeDone v (p ∷ passed) top new) (sym n.3) (name_passed v passed top old h n.0 n.1 n.2 false new t.stands none))
    takes_done none shows (inr (inr (inr (inr (inr (inl t)))))) =
        let n = next_of old old.levels.inner.names.names t.pair refl t.next in
        let itself = top_source top old t.pair.source (top_alone old t.top) n place in
        subst (λ d. TreeDone (Then d) (passed_at top d passed) top new) (sym t.says)
        (subst (λ p. TreeDone v (p ∷ passed) top new) (sym n.3 ∙ itself) (name_passed v passed top old h n.0 n.1 n.2 false new t.stands none))
    takes_done none shows (inr (inr (inr (inr (inr (inr (inl t))))))) =
        subst (λ d. TreeDone (Then d) (passed_at top d passed) top new) (sym t.says) (subst (TreeDone v passed top) (sym t.stands) h)
    takes_done none shows (inr (inr (inr (inr (inr (inr (inr (next, inl (debt, e))))))))) =
        let at = closed_in_place top old place in
        ends_done now v passed top (at_end old) new did (Some log) (Some now) (closed_done v passed top old none h) none at.levels e
    takes_done none shows (inr (inr (inr (inr (inr (inr (inr (next, inr (debt, f, same))))))))) =
        subst (λ d. TreeDone (Then d) (passed_at top d passed) top new) (sym f.says) (subst (TreeDone v passed top) (sym f.stands) (closed_done v passed top old none h))

    works_done : (item : ItemAtWork) → old.item ≡ item → (item ≡ Next → ShowsTree v log) → WorksOn item unclaimed replies old new did (Some log) (Some now) → After
    works_done Next is shows (inl s) = syncs_done now v passed top old new did (Some log) (Some now) h is s
    works_done Next is shows (inr (clean, takes)) = takes_done is (shows refl) takes
    works_done (File f) is shows w =
        let d = subst (λ i. ItemDone v passed top.target old.levels.inner old.levels.around i) is h.item in
        let m = subst (Rattle.copy_tree.specs.InPlace.ItemMoved top) is place.item in
        file_works now v passed top old new did h unclaimed f (Some log) (Some now) w m d.1 d.2 (not_begun f.stage d.0)
    works_done (Link l) is shows w =
        let d = subst (λ i. ItemDone v passed top.target old.levels.inner old.levels.around i) is h.item in
        let m = subst (Rattle.copy_tree.specs.InPlace.ItemMoved top) is place.item in
        link_works now v passed top old new did h l (Some log) (Some now) w m d.1 d.2
    works_done (Stays part) is shows w = absurd w

  pub copy_done : (free : Route → Bool) (replies : Replies) (old new : Seen) (did : Did) (calls : ℕ) (log : CallLog) (f0 f1 : ℕ) → CopySteps free replies old new did calls (Some log) (Some now) f0 f1 → TreeDone v passed top old → IsInPlace top old → IsTree (current log)
      → (old.item ≡ Next → ShowsTree v log) → TreeDone (Then did) (passed_at top did passed) top new
  copy_done free replies old new did calls log f0 f1 s h place tree shows =
      let mid = s.mid in
      works_done (IsPartPlace free mid) replies mid new did log (leaves_done v passed top s.folders old mid s.leaves h) (leaves_all top s.folders old mid s.leaves place) tree mid.item refl
      (λ none. shows (sym (left_item s.folders old mid s.leaves) ∙ none)) s.works

  -- what is passed over changes nothing
  passed_still : (did : Did) → SaysPassed did → Then did ≡ v
  passed_still did (inl (path, cause, is)) = ap Then is
  passed_still did (inr (trouble, is)) = ap Then is

-- A step of the copy of a thing with all that lies in it.
module _ (told : HistoryFacts) (dirty dirty_after : List Route) (marks : Marks) (log now : CallLog) (kept : IsKept told dirty marks log) (c new : SubtreeCopying) (did : Did) (passed : List Route) (course : Course) (free : Route → Bool) (replies : Replies) (count f0 f1 : ℕ)
    (part : ItemHas told dirty marks (current log) course c.at.item) (s : SubtreeSteps free replies c new did count dirty dirty_after (Some log) (Some now) f0 f1) (a : TreeAccounts passed told.tree c) where
  abbrev seen_tree : Did → View
  seen_tree d = replayed_step now d (Some (Copies c.top.source c.top.target)) told.tree

  abbrev r : StepResult
  r = s.worked

  abbrev mid : Seen
  mid = s.mid

  before : TreeDone told.tree passed c.top mid
  before = leaves_done told.tree passed c.top s.leaves.0 c.at mid s.leaves.1 a.done

  place_before : IsInPlace c.top mid
  place_before = leaves_all c.top s.leaves.0 c.at mid s.leaves.1 a.in_place

  shown : mid.item ≡ Next → ShowsTree told.tree log
  shown none = shows_all told dirty marks log kept (subst (ItemHas told dirty marks (current log) course) (sym (left_item s.leaves.0 c.at mid s.leaves.1) ∙ none) part)

  worked : TreeDone (seen_tree r.did) (passed_at c.top r.did passed) c.top s.moved × IsInPlace c.top s.moved
  worked = by s.works
    where
      by : ListSteps free replies mid s.moved r dirty dirty_after (Some log) (Some now) f0 f1 → TreeDone (seen_tree r.did) (passed_at c.top r.did passed) c.top s.moved × IsInPlace c.top s.moved
      by (inl out) = (
        subst (λ d. TreeDone (seen_tree d) (passed_at c.top d passed) c.top s.moved) (sym (ap (λ (x : StepResult). x.did) out.says)) (subst (TreeDone told.tree passed c.top) (sym out.stays) before),
        subst (IsInPlace c.top) (sym out.stays) place_before,
      )
      by (inr m) = (
        copy_done now told.tree passed c.top free replies mid s.moved r.did r.calls log f0 f1 m.steps before place_before kept.known.guarded.tree shown,
        (place_law free replies c.top mid s.moved r.did r.calls (Some log) (Some now) f0 f1 m.steps place_before).0,
      )

  reported : TreeDone (seen_tree did) (passed_at c.top did passed) c.top new.at × IsInPlace c.top new.at
  reported = by s.passes
    where
      by : OrPassedOver replies.skips r s.moved new.at (step_result did count) → TreeDone (seen_tree did) (passed_at c.top did passed) c.top new.at × IsInPlace c.top new.at
      by (inl (none, same, at)) =
          let did_is : did ≡ r.did = ap (λ (x : StepResult). x.did) same in (
            subst (λ d. TreeDone (seen_tree d) (passed_at c.top d passed) c.top new.at) (sym did_is) (subst (TreeDone (seen_tree r.did) (passed_at c.top r.did passed) c.top) (sym at) worked.0),
            subst (IsInPlace c.top) (sym at) worked.1,
          )
      by (inr (cause, is, calls, skips)) =
          let t = passed_trouble replies.skips r.did cause is in
          let h : TreeDone told.tree passed c.top s.moved = subst (λ d. TreeDone (seen_tree d) (passed_at c.top d passed) c.top s.moved) t.1 worked.0 in
          let place = worked.1 in
          let moved = s.moved in (
            subst (λ (w : View). TreeDone w (passed_at c.top did passed) c.top new.at) (sym (passed_still now told.tree passed c.top did (skip_says moved.item cause moved new.at did skips)))
                (skips_done told.tree passed c.top cause moved new.at did h moved.item refl place.item skips),
            (let law = staying_law in law.skip c.top cause moved new.at did skips place),
          )

  pub tree_steps : TreeAccounts (passed_at c.top did passed) (seen_tree did) new
  tree_steps = record {
    in_place = subst (λ (top : Pair). IsInPlace top new.at) (sym top_is) reported.1;
    done = subst (λ (top : Pair). TreeDone (seen_tree did) (passed_at c.top did passed) top new.at) (sym top_is) reported.0;
  }
    where
      top_is : new.top ≡ c.top
      top_is = ap (λ (x : SubtreeCopying). x.top) s.stands

  -- a folder reports no end of the job
  no_end : (report : FolderDid) (part : Option Route) → IsToldAs report (Ended Finished part) → ⊥
  no_end (folder_did.Made path) part is = (let f : ⊥ = cc in f)
  no_end (folder_did.Set path) part is = (let f : ⊥ = cc in f)
  no_end folder_did.Barrier part is = (let f : ⊥ = cc in f)
  no_end folder_did.Closed part is = is
  no_end (folder_did.Troubled trouble) part is = (let f : ⊥ = cc in f)

  -- the end comes where no name is left, and no folder is open but the outermost
  abbrev IsAtEnd : Seen → Type 0
  IsAtEnd x = (x.levels.inner.names.names ≡ []) × (x.levels.around ≡ [])

  takes_end : (unclaimed : Route → Type 0) (old next : Seen) (part : Option Route) → TakesNext unclaimed replies old next (Ended Finished part) (Some log) (Some now) → IsAtEnd old
  takes_end unclaimed old next part (inl t) = absurd (let e : Ended Finished part ≡ Troubled t.trouble = t.says in let f : ⊥ = cc in f)
  takes_end unclaimed old next part (inr (inl t)) = (let w = t.works in absurd w.tells)
  takes_end unclaimed old next part (inr (inr (inl t))) = (let w = t.works in absurd w.tells)
  takes_end unclaimed old next part (inr (inr (inr (inl t)))) = (let w = t.works in absurd (no_end w.report part w.says))
  takes_end unclaimed old next part (inr (inr (inr (inr (inl t))))) = absurd (let e : Ended Finished part ≡ Merges ByCopy t.pair t.names = t.says in let f : ⊥ = cc in f)
  takes_end unclaimed old next part (inr (inr (inr (inr (inr (inl t)))))) = absurd (let e : Ended Finished part ≡ Kept (let p = t.pair in p.target) = t.says in let f : ⊥ = cc in f)
  takes_end unclaimed old next part (inr (inr (inr (inr (inr (inr (inl t))))))) = absurd (let e : Ended Finished part ≡ Asked t.question = t.says in let f : ⊥ = cc in f)
  takes_end unclaimed old next part (inr (inr (inr (inr (inr (inr (inr (due, inl (debt, e))))))))) = absurd (no_end e.report part e.says)
  takes_end unclaimed old next part (inr (inr (inr (inr (inr (inr (inr (due, inr (debt, f, same))))))))) = (no_name old old.levels.inner.names.names due, f.last)

  works_end : (unclaimed : Route → Type 0) (old next : Seen) (part : Option Route) (item : ItemAtWork) → ItemDone told.tree passed c.top.target old.levels.inner old.levels.around item → WorksOn item unclaimed replies old next (Ended Finished part) (Some log) (Some now) → IsAtEnd old
  works_end unclaimed old next part Next d (inl x) = absurd (no_end x.report part x.says)
  works_end unclaimed old next part Next d (inr (clean, t)) = takes_end unclaimed old next part t
  works_end unclaimed old next part (File f) d w = (let tells = w.tells in absurd (let e : progress file_stage.Decided ≡ UnderWay = sym (ap progress tells.0) ∙ d.0 in let f : ⊥ = cc in f))
  works_end unclaimed old next part (Link l) d w = absurd w.tells
  works_end unclaimed old next part (Stays left) d w = absurd w

  -- nothing is pending then, so all is copied that is reached
  copied_at : (x : Seen) → TreeDone told.tree passed c.top x → IsInPlace c.top x → IsAtEnd x → IsCopied c.top.source c.top.target passed told.tree
  copied_at x h place end rest off reached = by (h.things rest off)
    where
      holds : HoldsTop c.top x.levels.inner
      holds = subst (AreMoved c.top x.levels.inner) end.1 place.levels

      nothing : IsDue x.levels.inner (rest ++ c.top.source) → ⊥
      nothing (inl (name, among, below)) = subst (λ names. Among names name) end.0 among
      nothing (inr (mode, owed, is)) = (let e : (let o : Option ℕ = None in o) ≡ Some mode = sym holds.keeps ∙ owed in let f : ⊥ = cc in f)

      by : IsAccounted told.tree passed x.levels.inner x.levels.around (rest ++ c.top.source) (rest ++ c.top.target) → Rattle.laws_outcomes.proofs.Accounts.IsCopy told.tree (rest ++ c.top.source) (rest ++ c.top.target)
      by (inl covered) = covered_not passed (rest ++ c.top.source) reached covered
      by (inr (inr copy)) = copy
      by (inr (inl pending)) = absurd (nothing (subst (λ (xs : List Level). IsPending x.levels.inner xs (rest ++ c.top.source)) end.1 pending))

  pub tree_ends : (part_left : Option Route) → did ≡ Ended Finished part_left → IsCopied c.top.source c.top.target passed told.tree
  tree_ends part_left is = by s.passes
    where
      stepped : (m : CopySteps free replies mid s.moved r.did r.calls (Some log) (Some now) f0 f1) → did ≡ r.did → IsCopied c.top.source c.top.target passed told.tree
      stepped m same =
          let last = m.mid in
          let h = leaves_done told.tree passed c.top m.folders mid last m.leaves before in
          let place = leaves_all c.top m.folders mid last m.leaves place_before in
          copied_at last h place (works_end (IsPartPlace free last) last s.moved part_left last.item h.item (subst (λ d. WorksOn last.item (IsPartPlace free last) replies last s.moved d (Some log) (Some now)) (sym same ∙ is) m.works))

      worked_end : did ≡ r.did → ListSteps free replies mid s.moved r dirty dirty_after (Some log) (Some now) f0 f1 → IsCopied c.top.source c.top.target passed told.tree
      worked_end same (inl out) = absurd (let e : Ended Finished part_left ≡ Troubled _ = sym is ∙ (same ∙ ap (λ (x : StepResult). x.did) out.says) in let f : ⊥ = cc in f)
      worked_end same (inr m) = stepped m.steps same

      not_passed : SaysPassed did → ⊥
      not_passed (inl (path, cause, told_is)) = (let e : Ended Finished part_left ≡ Skipped path cause = sym is ∙ told_is in let f : ⊥ = cc in f)
      not_passed (inr (trouble, told_is)) = (let e : Ended Finished part_left ≡ Troubled trouble = sym is ∙ told_is in let f : ⊥ = cc in f)

      by : OrPassedOver replies.skips r s.moved new.at (step_result did count) → IsCopied c.top.source c.top.target passed told.tree
      by (inl (none, same, at)) = worked_end (ap (λ (x : StepResult). x.did) same) s.works
      by (inr (cause, why, calls, skips)) = (let moved = s.moved in absurd (not_passed (skip_says moved.item cause moved new.at did skips)))

-- something is passed over once that was answered
pub tree_passed : (c new : SubtreeCopying) (cause why : Cause) (path : Route) (passed : List Route) (v : View) → SubtreeSkips cause c (Skipped path why) new → TreeAccounts passed v c → TreeAccounts (path ∷ passed) v new
tree_passed c new cause why path passed v s a =
    subst (TreeAccounts (path ∷ passed) v) (sym s.stands) (record {
      in_place = (let law = staying_law in law.skip c.top cause c.at new.at (Skipped path why) s.skips a.in_place);
      done = (let place = a.in_place in skips_done v passed c.top cause c.at new.at (Skipped path why) a.done c.at.item refl place.item s.skips);
    })

-- what was refused is taken up anew
pub tree_taken : (c : SubtreeCopying) (passed : List Route) (v : View) → TreeAccounts passed v c → TreeAccounts passed v (retries c)
tree_taken c passed v a = record {
  in_place = (let law = staying_law in law.retry c.top c.at a.in_place);
  done = (let place = a.in_place in retries_done v passed c.top c.at c.at.item refl place.item a.done);
}

-- a thing is the name in its folder
named_is : (path : Route) → is_some (parent_of path) ≡ true → (let n = named_of path in n.name ∷ n.folder) ≡ path
named_is [] is = absurd (false≢true is)
named_is (name ∷ folder) is = refl

-- a copy that begins has all to meet
pub tree_begins : (id : ℕ) (top : Pair) (v : View) → is_some (parent_of top.source) ≡ true → is_some (parent_of top.target) ≡ true → TreeAccounts [] v (begun_subtree_copy id top)
tree_begins id top v from to = record {
  in_place = (let held = begins_held id top from to in held.in_place);
  done = record {
    things = λ rest off. inr (inl (inl (
      (let n = named_of top.source in n.name),
      inl refl,
      subst (λ p. is_prefix p (rest ++ top.source) ≡ true) (sym (named_is top.source from)) (prefix_append top.source rest),
    )));
    folders = tt;
    item = tt;
  };
}
