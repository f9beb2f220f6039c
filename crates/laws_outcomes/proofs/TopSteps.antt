-- A copy that has what is copied itself still before it has changed nothing that can be seen, but for its part; nor has one that kept what stood at its target, or merged it. The machine's steps, skips and retries keep that.
use Rattle.std.proofs.Common.{◌≡◌, ◌⊎◌, ℕ, suc, zero, Bool, true, false, List, [], ◌∷◌, length, refl, sym, ◌∙◌, ap, subst, inl, inr, Option, Some, None, arith, drop}
use Rattle.std.specs.Prelude.{⊤, ◌≤◌, if◌then◌else◌}
use Rattle.std.proofs.lemmas.Bool.{false≢true}
use Rattle.mc_text.specs.Routes.{Route}
use Rattle.tree_trait.specs.Change.{CallLog}
use Rattle.tree_trait.specs.FileSystem.{View}
use Rattle.job_answers.specs.declared.replies.Replies.{Replies}
use Rattle.job_reports.specs.Jobs.{ItemOfJob as WorkItem}
use Rattle.job_reports.specs.declared.job.Pair.{Pair}
use Rattle.job_reports.specs.declared.report.Cause.{Cause}
use Rattle.job_reports.specs.declared.report.Did.{Did}
use Rattle.job_reports.specs.declared.report.Did.TheVariants.{Began, Chunk, Placed, Removed, Made, Set, Kept, Skipped, Cleaned, Barrier, Asked, Merges, Moved, Troubled, Ended}
use Rattle.copy_file.specs.Copying as file
use Rattle.copy_file.specs.Copying.{Copying}
use Rattle.copy_file.specs.PartSteps.{TellsMade}
use Rattle.copy_file.specs.declared.stage.SourceFacts.{SourceFacts}
use Rattle.copy_folders.specs.FolderCopying as folder
use Rattle.copy_folders.specs.FolderCopying.{FolderCopying, copying}
use Rattle.copy_folders.specs.declared.stage.FolderDid.{FolderDid}
use Rattle.copy_folders.specs.declared.stage.FolderDid.TheVariants as folder_did
use Rattle.copy_folders.specs.declared.stage.NamesState.TheVariants.{Synced}
use Rattle.copy_folders.specs.declared.stage.Stage.{Stage as FolderStage}
use Rattle.copy_folders.specs.declared.stage.Stage.TheVariants as at
use Rattle.copy_link.specs.LinkCopying as link
use Rattle.copy_link.specs.LinkCopying.{LinkCopying}
use Rattle.copy_folders.specs.declared.level.Level.{Level}
use Rattle.copy_folders.specs.Levels.{made_levels, passed_levels as passed_level}
use Rattle.tree_walk.specs.Places.{opened_folder}
use Rattle.copy_job.specs.Merged.{IsPassed}
use Rattle.copy_tree.specs.declared.copy.Stage.{Stage}
use Rattle.copy_tree.specs.declared.copy.Stage.TheVariants.{Going}
use Rattle.copy_tree.specs.declared.due.Due.TheVariants.{Thing}
use Rattle.copy_tree.specs.declared.item.ItemAtWork.{ItemAtWork}
use Rattle.copy_tree.specs.declared.item.ItemAtWork.TheVariants.{Next, File, Link, Stays}
use Rattle.copy_tree.specs.declared.progress.Progress.{Progress}
use Rattle.copy_tree.specs.declared.progress.Progress.TheVariants.{UnderWay, Decided, Anew}
use Rattle.copy_tree.specs.InPlace.{AreMoved, HoldsTop, IsInPlace, NoneBeside, owed_of}
use Rattle.copy_tree.specs.Parts.{IsPartPlace}
use Rattle.copy_tree.specs.Progress.{link_progress, progress}
use Rattle.copy_tree.specs.Reports.{IsToldAs, changes}
use Rattle.copy_tree.specs.Skipping.{NoRoom, SkipsAt, SkipsNamed, SkipsRest, retried_at}
use Rattle.copy_tree.specs.Standing.{Seen, after_report, due_at, is_fresh}
use Rattle.copy_tree.specs.TreeCopySteps.{CopySteps, FolderEnds, FolderMakes, LeavesAll, SyncsAround, TakesNext, WorksOn, at_end, idle, link_begun, noted_copy, copy_after_progress}
use Rattle.copy_tree.proofs.InPlaces.{closed_in_place, leaves_all}
use Rattle.laws_sessions.specs.Replayed.{replayed_step}
use Rattle.laws_sessions.proofs.TreeMachine.{SaysPassed}
use Rattle.laws_outcomes.specs.Keeps.{keeps_by}
use Rattle.laws_outcomes.proofs.CopyOutcome.{top_alone}
use Rattle.laws_outcomes.proofs.MadeThings.{Unless}
use Rattle.laws_outcomes.proofs.TreeLevels.{no_name}

-- all is as it was
abbrev pub AllSame : View → View → Type 0
AllSame v was = (path : Route) → v path ≡ was path

-- what is copied itself is yet to be met, or at work
abbrev pub IsAhead : Seen → Type 0
IsAhead c = (c.levels.around ≡ []) × (c.levels.inner.names.names ≡ [] → ⊥)

-- What a copy has spared: as long as what is copied itself is before it, all is as it was; and so it stays where what stood at the target was kept, or merged.
pub record Spared (v was : View) (kept : Bool) (c : Seen) : Type 0 where
  pub begun : is_fresh c.stage ≡ true → c.levels.around ≡ []
  pub ahead : IsAhead c → (kept ≡ false) × AllSame v was
  pub over : kept ≡ true → IsPassed c × AllSame v was

not_both : (b : Bool) → b ≡ true → b ≡ false → ⊥
not_both true is not = false≢true (sym not)
not_both false is not = false≢true is

-- a copy that goes on without a change of what can be seen, and meets no name anew
record IsOn (old new : Seen) : Type 0 where
  pub around : new.levels.around ≡ old.levels.around
  pub names : old.levels.inner.names.names ≡ [] → new.levels.inner.names.names ≡ []
  pub fresh : is_fresh new.stage ≡ true → is_fresh old.stage ≡ true
  pub item : IsPassed old → new.item ≡ Next

spared_on : (v was : View) (kept : Bool) (old new : Seen) → IsOn old new → Spared v was kept old → Spared v was kept new
spared_on v was kept old new on s = record {
  begun = λ fresh. on.around ∙ s.begun (on.fresh fresh);
  ahead = λ a. s.ahead (sym on.around ∙ a.0, λ none. a.1 (on.names none));
  over = λ k. let o = s.over k in let passed = o.0 in (record { none = on.item passed; around = on.around ∙ passed.around; names = on.names passed.names }, o.1);
}

-- a copy that was changed isn't fresh
fresh_before : (did : Did) (stage : Stage) → is_fresh (after_report did stage) ≡ true → is_fresh stage ≡ true
fresh_before did stage h = by (changes did) h
  where
    by : (b : Bool) → is_fresh (if b then Going else stage) ≡ true → is_fresh stage ≡ true
    by true h = absurd (false≢true h)
    by false h = h

-- a report that changes nothing that can be seen, and keeps nothing
abbrev IsPlain : Did → Type 0
IsPlain (Placed path) = ⊥
IsPlain (Removed path) = ⊥
IsPlain (Made path) = ⊥
IsPlain (Set path) = ⊥
IsPlain (Kept path) = ⊥
IsPlain (Merges transfer pair names) = ⊥
IsPlain (Moved pair) = ⊥
IsPlain did = ⊤

pub says_plain : (did : Did) → SaysPassed did → IsPlain did
says_plain did (inl (path, cause, is)) = subst IsPlain (sym is) tt
says_plain did (inr (trouble, is)) = subst IsPlain (sym is) tt

-- the reports of a file's copy, and of a link's: plain ones, and that it was placed
abbrev IsOfItem : Did → Progress → Type 0
IsOfItem did p = IsPlain did ⊎ ((path : Route) × (did ≡ Placed path) × (p ≡ Decided))

of_file : (f moved : Copying) (did : Did) → file.Tells f did moved → IsOfItem did (progress moved.stage)
of_file f moved (Placed path) (part, facts, stage, path_is, new_is) = inr (path, refl, ap (λ (x : Copying). progress x.stage) new_is)
of_file f moved (Began part) t = inl tt
of_file f moved (Chunk count) t = inl tt
of_file f moved (Cleaned part) t = inl tt
of_file f moved Barrier t = inl tt
of_file f moved (Troubled trouble) t = inl tt
of_file f moved (Ended ending part) t = inl tt
of_file f moved did t = absurd t

of_part : (facts : SourceFacts) (f moved : Copying) (did : Did) → TellsMade facts f did moved → IsPlain did
of_part facts f moved (Began part) t = tt
of_part facts f moved (Troubled trouble) t = tt
of_part facts f moved did t = absurd t

of_link : (l moved : LinkCopying) (did : Did) → link.Tells l did moved → IsOfItem did (link_progress moved.stage)
of_link l moved (Placed path) (stage, path_is, new_is) = inr (path, refl, ap (λ (x : LinkCopying). link_progress x.stage) new_is)
of_link l moved (Began part) t = inl tt
of_link l moved (Cleaned part) t = inl tt
of_link l moved Barrier t = inl tt
of_link l moved (Troubled trouble) t = inl tt
of_link l moved did t = absurd t

-- names that are met, once the next one is done with
some_due : (c : Seen) (names : List (List ℕ)) (pair : Pair) → due_at names c ≡ Thing pair → names ≡ [] → ⊥
some_due c [] pair is none = (let f : ⊥ = cc in f)
some_due c (name ∷ names) pair is none = (let f : ⊥ = cc in f)

one_only : (names : List (List ℕ)) → length names ≤ 1 → drop 1 names ≡ []
one_only [] one = refl
one_only (name ∷ []) one = refl
one_only (name ∷ next ∷ names) one = absurd (omega (arith, one))

last_name : (top : Pair) (c : Seen) → IsInPlace top c → c.levels.around ≡ [] → drop 1 c.levels.inner.names.names ≡ []
last_name top c place alone = (let holds : HoldsTop top c.levels.inner = subst (AreMoved top c.levels.inner) alone place.levels in one_only c.levels.inner.names.names holds.one)

-- what is at work stands so, or is done with
settled_on : (p : Progress) (item : ItemAtWork) (did : Did) (dirty : Bool) (old new : Seen) → (IsPassed old → ⊥) → new ≡ copy_after_progress p item (noted_copy did dirty (idle old)) → IsOn old new
settled_on p item did dirty old new some stands = by p stands
  where
    by : (p : Progress) → new ≡ copy_after_progress p item (noted_copy did dirty (idle old)) → IsOn old new
    by UnderWay is = record {
      around = ap (λ (x : Seen). x.levels.around) is;
      names = λ none. ap (λ (x : Seen). x.levels.inner.names.names) is ∙ none;
      fresh = λ h. fresh_before did old.stage (sym (ap (λ (x : Seen). is_fresh x.stage) is) ∙ h);
      item = λ passed. absurd (some passed);
    }
    by Decided is = record {
      around = ap (λ (x : Seen). x.levels.around) is;
      names = λ none. ap (λ (x : Seen). x.levels.inner.names.names) is ∙ ap (λ (names : List (List ℕ)). drop 1 names) none;
      fresh = λ h. fresh_before did old.stage (sym (ap (λ (x : Seen). is_fresh x.stage) is) ∙ h);
      item = λ passed. absurd (some passed);
    }
    by Anew is = record {
      around = ap (λ (x : Seen). x.levels.around) is;
      names = λ none. ap (λ (x : Seen). x.levels.inner.names.names) is ∙ none;
      fresh = λ h. fresh_before did old.stage (sym (ap (λ (x : Seen). is_fresh x.stage) is) ∙ h);
      item = λ passed. absurd (some passed);
    }

at_work : (c : Seen) (item : ItemAtWork) → c.item ≡ item → (item ≡ Next → ⊥) → IsPassed c → ⊥
at_work c item is other passed = other (sym is ∙ passed.none)

module _ (now : CallLog) (v was : View) (kept : Bool) (work : Option WorkItem) (top : Pair) where
  abbrev pub After : Did → Seen → Type 0
  After did new = Unless did (Spared (replayed_step now did work v) was (keeps_by did kept) new)

  pub told : (did : Did) (new : Seen) → IsPlain did → Spared v was kept new → After did new
  told (Ended ending part) new plain s = tt
  told (Placed path) new plain s = absurd plain
  told (Removed path) new plain s = absurd plain
  told (Made path) new plain s = absurd plain
  told (Set path) new plain s = absurd plain
  told (Kept path) new plain s = absurd plain
  told (Merges transfer pair names) new plain s = absurd plain
  told (Moved pair) new plain s = absurd plain
  told did new plain s = s

  -- a step at a file or a link
  item_spared : (p : Progress) (item : ItemAtWork) (did : Did) (dirty : Bool) (old new : Seen) → IsOfItem did p → (IsPassed old → ⊥) → new ≡ copy_after_progress p item (noted_copy did dirty (idle old)) → IsInPlace top old → Spared v was kept old → After did new
  item_spared p item did dirty old new (inl plain) some stands place s = told did new plain (spared_on v was kept old new (settled_on p item did dirty old new some stands) s)
  item_spared p item did dirty old new (inr (path, did_is, decided)) some stands place s =
      let is : new ≡ copy_after_progress Decided item (noted_copy (Placed path) dirty (idle old)) = stands ∙ (ap (λ q. copy_after_progress q item (noted_copy did dirty (idle old))) decided ∙ ap (λ d. copy_after_progress Decided item (noted_copy d dirty (idle old))) did_is) in
      subst (λ d. After d new) (sym did_is) (record {
        begun = λ fresh. absurd (false≢true (sym (ap (λ (x : Seen). is_fresh x.stage) is) ∙ fresh));
        ahead = λ a. absurd (a.1 (ap (λ (x : Seen). x.levels.inner.names.names) is ∙ last_name top old place (sym (ap (λ (x : Seen). x.levels.around) is) ∙ a.0)));
        over = λ k. absurd (some (s.over k).0);
      })

  -- the top is passed, and all was as it was
  passes_spared : (old new : Seen) (pair : Pair) → old.item ≡ Next → due_at old.levels.inner.names.names old ≡ Thing pair → old.levels.around ≡ [] → new ≡ record old { levels = passed_level false old.levels }
      → IsInPlace top old → Spared v was kept old → Spared v was true new
  passes_spared old new pair none next alone is place s =
      let last = ap (λ (x : Seen). x.levels.inner.names.names) is ∙ last_name top old place alone in
      record {
        begun = λ fresh. ap (λ (x : Seen). x.levels.around) is ∙ alone;
        ahead = λ a. absurd (a.1 last);
        over = λ k. (
          record { none = ap (λ (x : Seen). x.item) is ∙ none; around = ap (λ (x : Seen). x.levels.around) is ∙ alone; names = last },
          (s.ahead (alone, some_due old old.levels.inner.names.names pair next)).1,
        );
      }

  -- a folder is made, and gone into
  makes_spared : (old new : Seen) (pair : Pair) (names : List (List ℕ)) (mode : ℕ) (did : Did) (before after : Option CallLog) → FolderMakes pair names mode old new did before after → due_at old.levels.inner.names.names old ≡ Thing pair
      → old.item ≡ Next → IsInPlace top old → Spared v was kept old → After did new
  makes_spared old new pair names mode did before after w next none place s = by w.report w.says w.tells
    where
      moved : FolderCopying
      moved = w.moved

      some : IsPassed old → ⊥
      some passed = some_due old old.levels.inner.names.names pair next passed.names

      by : (report : FolderDid) → IsToldAs report did → folder.Tells (copying pair.source pair.target (at.Make mode) Synced) report moved → After did new
      by (folder_did.Made path) says (mode_now, stage, path_is, new_is) =
          let is : new ≡ record old { stage = after_report (Made path) old.stage; levels = made_levels (at.Fill (folder.owed_mode mode_now)) (opened_folder pair.source names) moved old.levels } =
          w.stands ∙ (ap (λ (d : Did). (let x : Seen = record old { stage = after_report d old.stage; levels = made_levels moved.stage (opened_folder pair.source names) moved old.levels } in x)) says
          ∙ ap (λ (t : FolderStage). (let x : Seen = record old { stage = after_report (Made path) old.stage; levels = made_levels t (opened_folder pair.source names) moved old.levels } in x)) (ap (λ (x : FolderCopying). x.stage) new_is)) in
          subst (λ d. After d new) (sym says) (record {
            begun = λ fresh. absurd (false≢true (sym (ap (λ (x : Seen). is_fresh x.stage) is) ∙ fresh));
            ahead = λ a. absurd (let e = sym (ap (λ (x : Seen). x.levels.around) is) ∙ a.0 in let f : ⊥ = cc in f);
            over = λ k. absurd (some (s.over k).0);
          })
      by (folder_did.Troubled trouble) says (barrier, new_is) =
          let is : new ≡ record old { stage = after_report (Troubled trouble) old.stage; levels = old.levels } =
          w.stands ∙ (ap (λ (d : Did). (let x : Seen = record old { stage = after_report d old.stage; levels = made_levels moved.stage (opened_folder pair.source names) moved old.levels } in x)) says
          ∙ ap (λ (t : FolderStage). (let x : Seen = record old { stage = after_report (Troubled trouble) old.stage; levels = made_levels t (opened_folder pair.source names) moved old.levels } in x)) (ap (λ (x : FolderCopying). x.stage) new_is)) in
          subst (λ d. After d new) (sym says) (spared_on v was kept old new (record {
            around = ap (λ (x : Seen). x.levels.around) is;
            names = λ empty. ap (λ (x : Seen). x.levels.inner.names.names) is ∙ empty;
            fresh = λ h. sym (ap (λ (x : Seen). is_fresh x.stage) is) ∙ h;
            item = λ passed. ap (λ (x : Seen). x.item) is ∙ none;
          }) s)
      by (folder_did.Set path) says (other, stage, path_is, new_is) = absurd (let f : ⊥ = cc in f)
      by folder_did.Barrier says (stage, dirty, new_is) = absurd (let f : ⊥ = cc in f)
      by folder_did.Closed says t = absurd says

  -- the folder around is synced: one is open around
  syncs_spared : (old new : Seen) (did : Did) (before after : Option CallLog) → SyncsAround old new did before after → Spared v was kept old → After did new
  syncs_spared old new did before after w s = by w.report w.says
    where
      stays : (u : View) → Spared u was kept new
      stays u = record {
        begun = λ fresh. absurd (open_around (s.begun (fresh_before did old.stage (sym (ap (λ (x : Seen). is_fresh x.stage) w.stands) ∙ fresh))));
        ahead = λ a. absurd (let e = sym (ap (λ (x : Seen). x.levels.around) w.stands) ∙ a.0 in let f : ⊥ = cc in f);
        over = λ k. absurd (let o = (s.over k).0 in open_around o.around);
      }
        where
          open_around : old.levels.around ≡ [] → ⊥
          open_around none = (let e = sym w.was ∙ none in let f : ⊥ = cc in f)

      by : (report : FolderDid) → IsToldAs report did → After did new
      by folder_did.Barrier says = subst (λ d. After d new) (sym says) (stays v)
      by (folder_did.Troubled trouble) says = subst (λ d. After d new) (sym says) (stays v)
      by (folder_did.Made path) says = subst (λ d. After d new) (sym says) (stays (replayed_step now (Made path) work v))
      by (folder_did.Set path) says = subst (λ d. After d new) (sym says) (stays (replayed_step now (Set path) work v))
      by folder_did.Closed says = absurd says

  -- the end of a folder: the outermost owes no mode
  ends_spared : (old new : Seen) (did : Did) (before after : Option CallLog) → FolderEnds (at_end old) new did before after → old.item ≡ Next → old.levels.inner.names.names ≡ [] → IsInPlace top old → Spared v was kept old → After did new
  ends_spared old new did before after w none empty place s = by w.report w.says w.tells
    where
      on : IsOn old new
      on = record {
        around = ap (λ (x : Seen). x.levels.around) w.stands;
        names = λ e. ap (λ (x : Seen). x.levels.inner.names.names) w.stands ∙ e;
        fresh = λ h. fresh_before did old.stage (sym (ap (λ (x : Seen). is_fresh x.stage) w.stands) ∙ h);
        item = λ passed. ap (λ (x : Seen). x.item) w.stands ∙ none;
      }

      owed_none : old.levels.around ≡ [] → owed_of (let last = at_end old in last.levels.inner.copy.stage) ≡ None
      owed_none alone = (let at = closed_in_place top old place in let last = at_end old in let holds : HoldsTop top last.levels.inner = subst (AreMoved top last.levels.inner) alone at.levels in holds.keeps)

      -- a mode is given where a folder is open around
      given : (d : Did) → did ≡ d → (u : View) → (old.levels.around ≡ [] → ⊥) → Spared u was kept new
      given d is u within = (let kept_on = spared_on v was kept old new on s in record {
        begun = kept_on.begun;
        ahead = λ a. absurd (a.1 (on.names empty));
        over = λ k. absurd (let o = (s.over k).0 in within o.around);
      })

      by : (report : FolderDid) → IsToldAs report did → folder.Tells (let last = at_end old in last.levels.inner.copy) report (let m : FolderCopying = w.moved in m) → After did new
      by folder_did.Barrier says t = subst (λ d. After d new) (sym says) (spared_on v was kept old new on s)
      by (folder_did.Troubled trouble) says t = subst (λ d. After d new) (sym says) (spared_on v was kept old new on s)
      by (folder_did.Made path) says (mode, stage, path_is, new_is) =
          subst (λ d. After d new) (sym says) (given (Made path) says (replayed_step now (Made path) work v) (λ alone. let e : Some mode ≡ None = sym (ap owed_of stage) ∙ owed_none alone in let f : ⊥ = cc in f))
      by (folder_did.Set path) says (mode, stage, path_is, new_is) =
          subst (λ d. After d new) (sym says) (given (Set path) says (replayed_step now (Set path) work v) (λ alone. let e : Some mode ≡ None = sym (ap owed_of stage) ∙ owed_none alone in let f : ⊥ = cc in f))
      by folder_did.Closed says t = absurd says

  -- what comes next
  module _ (unclaimed : Route → Type 0) (replies : Replies) (old new : Seen) (did : Did) (before after : Option CallLog) (place : IsInPlace top old) (s : Spared v was kept old) where
    takes_spared : old.item ≡ Next → TakesNext unclaimed replies old new did before after → After did new
    takes_spared none (inl t) = subst (λ d. After d new) (sym t.says) (subst (Spared v was kept) (sym t.stands) s)
    takes_spared none (inr (inl t)) =
        let w = t.works in
        let moved = w.moved in
        item_spared (progress moved.stage) (File moved) did (file.is_dirty moved.folder) old new (inl (of_part t.facts (file.begun_copy old.job (let p = t.pair in p.source) (let p = t.pair in p.target)) moved did w.tells))
        (λ passed. some_due old old.levels.inner.names.names t.pair t.next passed.names) w.stands place s
    takes_spared none (inr (inr (inl t))) =
        let w = t.works in
        let moved = w.moved in
        item_spared (link_progress moved.stage) (Link moved) did (link.is_dirty moved.folder) old new (of_link (link_begun t.pair t.part) moved did w.tells) (λ passed. some_due old old.levels.inner.names.names t.pair t.next passed.names) w.stands place s
    takes_spared none (inr (inr (inr (inl t)))) = makes_spared old new t.pair t.names t.mode did before after t.works t.next none place s
    takes_spared none (inr (inr (inr (inr (inl t))))) = subst (λ d. After d new) (sym t.says) (passes_spared old new t.pair none t.next (s.begun (ap is_fresh t.fresh)) t.stands place s)
    takes_spared none (inr (inr (inr (inr (inr (inl t)))))) = subst (λ d. After d new) (sym t.says) (passes_spared old new t.pair none t.next (top_alone old t.top) t.stands place s)
    takes_spared none (inr (inr (inr (inr (inr (inr (inl t))))))) = subst (λ d. After d new) (sym t.says) (subst (Spared v was kept) (sym t.stands) s)
    takes_spared none (inr (inr (inr (inr (inr (inr (inr (next, inl (debt, e))))))))) = ends_spared old new did before after e none (no_name old old.levels.inner.names.names next) place s
    takes_spared none (inr (inr (inr (inr (inr (inr (inr (next, inr (debt, f, same))))))))) = subst (λ d. After d new) (sym f.says) tt

    works_spared : (item : ItemAtWork) → old.item ≡ item → WorksOn item unclaimed replies old new did before after → After did new
    works_spared Next is (inl w) = syncs_spared old new did before after w s
    works_spared Next is (inr (clean, takes)) = takes_spared is takes
    works_spared (File f) is w =
        let moved = w.moved in
        item_spared (progress moved.stage) (File moved) did (file.is_dirty moved.folder) old new (of_file f moved did w.tells) (at_work old (File f) is (λ e. let g : ⊥ = cc in g)) w.stands place s
    works_spared (Link l) is w =
        let moved = w.moved in
        item_spared (link_progress moved.stage) (Link moved) did (link.is_dirty moved.folder) old new (of_link l moved did w.tells) (at_work old (Link l) is (λ e. let g : ⊥ = cc in g)) w.stands place s
    works_spared (Stays part) is w = absurd w

  -- folders are left: none of them is the outermost with a name
  pub leaves_spared : (n : ℕ) (old mid : Seen) → LeavesAll n old mid → IsInPlace top old → Spared v was kept old → Spared v was kept mid
  leaves_spared zero old mid is place s = subst (Spared v was kept) (sym is) s
  leaves_spared (suc n) old mid (last, all, none, leaves) place s =
      let h = leaves_spared n old last all place s in
      let r = leaves.returns in
      let left = r.left in
      let there = leaves_all top n old last all place in
      record {
        begun = λ fresh. absurd (within left.was (h.begun (sym (ap (λ (x : Seen). is_fresh x.stage) r.stands) ∙ fresh)));
        ahead = λ a. absurd (a.1 (none_left mid.levels.inner mid.levels.around a.0 (subst NoneBeside left.was there.alone)));
        over = λ k. absurd (let o = (h.over k).0 in within left.was o.around);
      }
    where
      none_left : (outer : Level) (around : List Level) → around ≡ [] → NoneBeside (outer ∷ around) → outer.names.names ≡ []
      none_left outer [] alone spent = spent
      none_left outer (next ∷ around) alone spent = absurd (let f : ⊥ = cc in f)

      within : {A : Type 0} → last.levels.around ≡ mid.levels.inner ∷ mid.levels.around → last.levels.around ≡ [] → A
      within is alone = absurd (let e = sym is ∙ alone in let f : ⊥ = cc in f)

  pub copy_spared : (free : Route → Bool) (replies : Replies) (old new : Seen) (did : Did) (calls : ℕ) (before after : Option CallLog) (f0 f1 : ℕ) → CopySteps free replies old new did calls before after f0 f1 → IsInPlace top old → Spared v was kept old → After did new
  copy_spared free replies old new did calls before after f0 f1 c place s =
      let mid = c.mid in
      works_spared (IsPartPlace free mid) replies mid new did before after (leaves_all top c.folders old mid c.leaves place) (leaves_spared c.folders old mid c.leaves place s) mid.item refl c.works

-- something is passed over, or taken up anew
module _ (v was : View) (kept : Bool) (old new : Seen) (s : Spared v was kept old) where
  -- by what becomes of the names
  same_on : new.levels.around ≡ old.levels.around → (old.levels.inner.names.names ≡ [] → new.levels.inner.names.names ≡ []) → new.stage ≡ old.stage → (IsPassed old → new.item ≡ Next) → Spared v was kept new
  same_on around names stage item = spared_on v was kept old new (record { around = around; names = names; fresh = λ h. sym (ap is_fresh stage) ∙ h; item = item }) s

  put_back : (p : Progress) (item : ItemAtWork) → (IsPassed old → ⊥) → new ≡ copy_after_progress p item (idle old) → Spared v was kept new
  put_back UnderWay item some is = same_on (ap (λ (x : Seen). x.levels.around) is) (λ none. ap (λ (x : Seen). x.levels.inner.names.names) is ∙ none) (ap (λ (x : Seen). x.stage) is) (λ passed. absurd (some passed))
  put_back Decided item some is =
      same_on (ap (λ (x : Seen). x.levels.around) is) (λ none. ap (λ (x : Seen). x.levels.inner.names.names) is ∙ ap (λ (names : List (List ℕ)). drop 1 names) none) (ap (λ (x : Seen). x.stage) is) (λ passed. absurd (some passed))
  put_back Anew item some is = same_on (ap (λ (x : Seen). x.levels.around) is) (λ none. ap (λ (x : Seen). x.levels.inner.names.names) is ∙ none) (ap (λ (x : Seen). x.stage) is) (λ passed. absurd (some passed))

  module _ (cause : Cause) (did : Did) where
    no_room : NoRoom old did new → Spared v was kept new
    no_room room = subst (Spared v was kept) (sym room.1) s

    rest_spared : old.item ≡ Next → SkipsRest cause old did new → Spared v was kept new
    rest_spared none (inr room) = no_room room
    rest_spared none (inl (did_is, is)) = same_on (ap (λ (x : Seen). x.levels.around) is) (λ empty. ap (λ (x : Seen). x.levels.inner.names.names) is) (ap (λ (x : Seen). x.stage) is) (λ passed. ap (λ (x : Seen). x.item) is ∙ none)

    named_spared : old.item ≡ Next → (names : List (List ℕ)) → SkipsNamed names cause old did new → Spared v was kept new
    named_spared none [] (moved, skips, is) =
        same_on (ap (λ (x : Seen). x.levels.around) is) (λ empty. ap (λ (x : Seen). x.levels.inner.names.names) is ∙ empty) (ap (λ (x : Seen). x.stage) is) (λ passed. ap (λ (x : Seen). x.item) is ∙ none)
    named_spared none (name ∷ names) (inr (inl (long, rest))) = rest_spared none rest
    named_spared none (name ∷ names) (inr (inr room)) = no_room room
    named_spared none (name ∷ names) (inl (did_is, is)) =
        same_on (ap (λ (x : Seen). x.levels.around) is) (λ empty. ap (λ (x : Seen). x.levels.inner.names.names) is ∙ ap (λ (xs : List (List ℕ)). drop 1 xs) empty) (ap (λ (x : Seen). x.stage) is) (λ passed. ap (λ (x : Seen). x.item) is ∙ none)

    pub skips_spared : (item : ItemAtWork) → old.item ≡ item → SkipsAt item cause old did new → Spared v was kept new
    skips_spared Next is skips = named_spared is old.levels.inner.names.names skips
    skips_spared (File f) is (moved, skips, stands) = put_back (progress moved.stage) (File moved) (at_work old (File f) is (λ e. let g : ⊥ = cc in g)) stands
    skips_spared (Link l) is (moved, skips, stands) = put_back (link_progress moved.stage) (Link moved) (at_work old (Link l) is (λ e. let g : ⊥ = cc in g)) stands
    skips_spared (Stays part) is skips = absurd skips

  pub retries_spared : (item : ItemAtWork) → old.item ≡ item → new ≡ retried_at item old → Spared v was kept new
  retries_spared Next is stands = subst (Spared v was kept) (sym stands) s
  retries_spared (File f) is stands = put_back _ _ (at_work old (File f) is (λ e. let g : ⊥ = cc in g)) stands
  retries_spared (Link l) is stands = put_back _ _ (at_work old (Link l) is (λ e. let g : ⊥ = cc in g)) stands
  retries_spared (Stays part) is stands = subst (Spared v was kept) (sym stands) s
