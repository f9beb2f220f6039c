-- What is calm while a tree is copied: as it begins, and after each step, skip and retry. So no mode waits where the copy works.
use Rattle.std.proofs.Common.{◌≡◌, ℕ, ◌≤◌, suc, zero, Bool, true, false, List, [], ◌∷◌, length, refl, sym, ◌∙◌, ap, subst, inl, inr, Option, Some, None, arith}
use Rattle.std.proofs.lemmas.Bool.{both_ways, false≢true}
use Rattle.mc_text.specs.Routes.{Route}
use Rattle.tree_trait.specs.Change.{CallLog}
use Rattle.job_answers.specs.declared.replies.Replies.{Replies}
use Rattle.job_reports.specs.declared.report.Cause.{Cause}
use Rattle.job_reports.specs.declared.report.Did.{Did}
use Rattle.copy_file.specs.Copying as file
use Rattle.copy_file.specs.Copying.{Copying, part_at, skipped_stage as file_skipped, taken_anew as file_anew}
use Rattle.copy_file.specs.CopySteps.{Skips as FileSkips}
use Rattle.copy_file.specs.declared.stage.Stage.{Stage as FileStage}
use Rattle.copy_file.specs.declared.stage.Stage.TheVariants as file_stage
use Rattle.copy_folders.specs.FolderCopying.{FolderCopying, skipped_stage as folder_skipped}
use Rattle.copy_folders.specs.FolderSteps as folder
use Rattle.copy_folders.specs.declared.stage.NamesState.{NamesState}
use Rattle.copy_folders.specs.declared.stage.Stage.{Stage}
use Rattle.copy_folders.specs.declared.stage.Stage.TheVariants as at
use Rattle.copy_link.specs.LinkCopying as link
use Rattle.copy_link.specs.LinkCopying.{LinkCopying, has_part, skipped_stage as link_skipped, taken_anew as link_anew}
use Rattle.copy_link.specs.LinkSteps.{Skips as LinkSkips}
use Rattle.copy_link.specs.declared.stage.Stage.{Stage as LinkStage}
use Rattle.copy_link.specs.declared.stage.Stage.TheVariants as link_stage
use Rattle.copy_folders.specs.declared.level.Level.{Level}
use Rattle.copy_folders.specs.Levels.{is_around_dirty, level}
use Rattle.copy_tree.specs.declared.item.ItemAtWork.{ItemAtWork}
use Rattle.copy_tree.specs.declared.item.ItemAtWork.TheVariants.{Next, File, Link, Stays}
use Rattle.copy_tree.specs.declared.progress.Progress.{Progress}
use Rattle.copy_tree.specs.declared.progress.Progress.TheVariants.{UnderWay, Decided, Anew}
use Rattle.copy_tree.specs.Parts.{IsPartPlace}
use Rattle.copy_tree.specs.Progress.{link_progress, progress}
use Rattle.copy_tree.specs.Skipping.{SkipsAt, SkipsNamed, SkipsRest, retried_at}
use Rattle.copy_tree.specs.Standing.{Seen}
use Rattle.copy_tree.specs.TreeCopySteps.{LeavesAll, LinkWorks, TakesNext, WorksOn, idle, link_begun, noted_copy, copy_after_progress}
use Rattle.laws_sessions.proofs.FileMoves.{FileMoves, taken_moves, worked_moves}
use Rattle.laws_sessions.proofs.AtWork.{ItemKnown}
use Rattle.laws_sessions.proofs.Calm.{CalmLaw, IsCalm, IsSetAt, IsSetIn, MayWait, PartCalm, QuietModesLaw, filled_part, was_set}
use Rattle.laws_sessions.proofs.FoldersEnd.{AllFilled, is_filled}
use Rattle.laws_sessions.proofs.FoldersLie.{AreNested}
use Rattle.laws_sessions.proofs.CalmChanges.{calm_map}
use Rattle.laws_sessions.proofs.CalmFolders.{set_inner}
use Rattle.laws_sessions.proofs.CalmLinks.{calm_free, part_calm}
use Rattle.laws_sessions.proofs.CalmSteps.{file_waits, leaves_wait, link_waits, works_calm}
use Rattle.laws_sessions.proofs.StepsKnown.{step_begins}
use Rattle.laws_sessions.proofs.TreeLinks.{LinkKnown}
use Rattle.laws_sessions.proofs.TreePlaces.{nested_of}
use Rattle.laws_sessions.proofs.TreeSteps.{StepKnown, taken_link, worked_link}

-- nothing is at work
none_calm : (log : CallLog) (item : ItemAtWork) → item ≡ Next → PartCalm log item
none_calm log item is = subst (PartCalm log) (sym is) tt

settled_calm : (log : CallLog) (p : Progress) (item : ItemAtWork) (c : Seen) → c.item ≡ Next → PartCalm log item → (let s : Seen = copy_after_progress p item c in PartCalm log s.item)
settled_calm log UnderWay item c none calm = calm
settled_calm log Decided item c none calm = none_calm log c.item none
settled_calm log Anew item c none calm = none_calm log c.item none

pub left_calm : (n : ℕ) (log : CallLog) (old mid : Seen) → LeavesAll n old mid → PartCalm log old.item → PartCalm log mid.item
left_calm zero log old mid is calm = subst (λ (c : Seen). PartCalm log c.item) (sym is) calm
left_calm (suc n) log old mid (last, all, none, one) calm = let r = one.returns in none_calm log mid.item (ap (λ (c : Seen). c.item) r.stands ∙ none)

-- a link's part after a step
module _ (free : Route → Bool) (replies : Replies) (old new : Seen) (did : Did) (log now : CallLog) (known : StepKnown log old) where
  abbrev Unclaimed : Route → Type 0
  Unclaimed = IsPartPlace free old

  file_part : (f : Copying) → FileMoves Unclaimed f old new did (Some log) (Some now) → PartCalm now new.item
  file_part f w =
      let m = w.moved in
      subst (λ (c : Seen). PartCalm now c.item) (sym w.stands) (settled_calm now (progress m.stage) (File m) (noted_copy did (file.is_dirty m.folder) (idle old)) refl tt)

  link_part : (l : LinkCopying) → LinkKnown log old.name old.levels l → PartCalm log (Link l) → LinkWorks l old new did (Some log) (Some now) → PartCalm now new.item
  link_part l about part w =
      let m = w.moved in
      subst (λ (c : Seen). PartCalm now c.item) (sym w.stands)
      (settled_calm now (link_progress m.stage) (Link m) (noted_copy did (link.is_dirty m.folder) (idle old)) refl (part_calm log now known.files old.name old.levels l about m did w.tells (w.called log refl) part))

  same : old.item ≡ Next → new.item ≡ old.item → PartCalm now new.item
  same none is = none_calm now new.item (is ∙ none)

  next_part : old.item ≡ Next → is_around_dirty old.levels.around ≡ false → TakesNext Unclaimed replies old new did (Some log) (Some now) → PartCalm now new.item
  next_part none clean (inl s) = same none (ap (λ (c : Seen). c.item) s.stands)
  next_part none clean (inr (inl t)) = file_part _ (taken_moves Unclaimed replies old new did (Some log) (Some now) t)
  next_part none clean (inr (inr (inl t))) = link_part (link_begun t.pair t.part) (taken_link free replies old new did log now known clean t) (λ has. absurd (false≢true has)) t.works
  next_part none clean (inr (inr (inr (inl t)))) = same none (let w = t.works in ap (λ (c : Seen). c.item) w.stands)
  next_part none clean (inr (inr (inr (inr (inl t))))) = same none (ap (λ (c : Seen). c.item) t.stands)
  next_part none clean (inr (inr (inr (inr (inr (inl t)))))) = same none (ap (λ (c : Seen). c.item) t.stands)
  next_part none clean (inr (inr (inr (inr (inr (inr (inl t))))))) = same none (ap (λ (c : Seen). c.item) t.stands)
  next_part none clean (inr (inr (inr (inr (inr (inr (inr (next, inl (debt, ends))))))))) = same none (ap (λ (c : Seen). c.item) ends.stands)
  next_part none clean (inr (inr (inr (inr (inr (inr (inr (next, inr (debt, f, stays))))))))) = same none (ap (λ (c : Seen). c.item) f.stands)

  works_part : (item : ItemAtWork) → old.item ≡ item → ItemKnown log old item → PartCalm log item → WorksOn item Unclaimed replies old new did (Some log) (Some now) → PartCalm now new.item
  works_part Next is item part (inl s) = same is (ap (λ (c : Seen). c.item) s.stands)
  works_part Next is item part (inr (clean, t)) = next_part is clean t
  works_part (File f) is item part w = file_part f (worked_moves Unclaimed f old new did (Some log) (Some now) w)
  works_part (Link l) is item part w = link_part l (worked_link free replies old new did log now known l item) part w
  works_part (Stays left) is item part w = absurd w

-- what is left, or taken anew, has the part that it had
skipped_part : (stage : FileStage) → part_at (file_skipped stage) ≡ part_at stage
skipped_part file_stage.Begin = refl
skipped_part (file_stage.Fill part facts done) = refl
skipped_part (file_stage.Clean part next) = refl
skipped_part (file_stage.Left part) = refl
skipped_part file_stage.Decided = refl

anew_part : (stage : FileStage) → part_at (file_anew stage) ≡ part_at stage
anew_part file_stage.Begin = refl
anew_part (file_stage.Fill part facts done) = refl
anew_part (file_stage.Clean part next) = refl
anew_part (file_stage.Left part) = refl
anew_part file_stage.Decided = refl

skipped_has : (stage : LinkStage) → has_part (link_skipped stage) ≡ true → has_part stage ≡ true
skipped_has link_stage.Make is = is
skipped_has link_stage.Place is = refl
skipped_has (link_stage.Clean next) is = refl
skipped_has link_stage.Left is = refl
skipped_has link_stage.Again is = is
skipped_has link_stage.Decided is = is

anew_has : (stage : LinkStage) → has_part (link_anew stage) ≡ true → has_part stage ≡ true
anew_has link_stage.Make is = is
anew_has link_stage.Place is = refl
anew_has (link_stage.Clean next) is = refl
anew_has link_stage.Left is = refl
anew_has link_stage.Again is = is
anew_has link_stage.Decided is = is

skipped_set : (stage : Stage) (names : NamesState) → was_set stage names ≡ true → was_set (folder_skipped stage) names ≡ true
skipped_set (at.Close None) names is = is
skipped_set (at.Close (Some mode)) names is = absurd (false≢true is)
skipped_set (at.Make mode) names is = is
skipped_set (at.Fill owed) names is = is
skipped_set at.Done names is = is

file_skip : (cause : Cause) (f moved : Copying) (did : Did) → FileSkips cause f did moved → part_at moved.stage ≡ part_at f.stage
file_skip cause f moved did (inl done) = ap (λ (x : Copying). part_at x.stage) done.1 ∙ skipped_part f.stage
file_skip cause f moved did (inr room) = ap (λ (x : Copying). part_at x.stage) room.1

link_skip : (log : CallLog) (cause : Cause) (l moved : LinkCopying) (did : Did) → LinkSkips cause l did moved → PartCalm log (Link l) → PartCalm log (Link moved)
link_skip log cause l moved did (inl done) calm = subst (λ (m : LinkCopying). PartCalm log (Link m)) (sym done.1) (λ has. calm (skipped_has l.stage has))
link_skip log cause l moved did (inr room) calm = subst (λ (m : LinkCopying). PartCalm log (Link m)) (sym room.1) calm

module _ (log : CallLog) where
  -- nothing is called: the part stays calm, and what may wait is what might
  abbrev Keeps : Seen → Seen → Type 0
  Keeps old new = PartCalm log new.item × ((path : Route) → IsCalm log old path → IsCalm log new path)

  keeps : (old new : Seen) → PartCalm log new.item → ((path : Route) → MayWait old path → MayWait new path) → Keeps old new
  keeps old new part waits = (part, λ path calm. calm_map path log (MayWait old path) (MayWait new path) (waits path) calm)

  -- the innermost folder is another level with its place
  keeps_inner : (old : Seen) (l : Level) → PartCalm log old.item → ((path : Route) → IsSetAt path old.levels.inner → IsSetAt path l) → Keeps old (record old { levels = record old.levels { inner = l } })
  keeps_inner old l part same = keeps old (record old { levels = record old.levels { inner = l } }) part (λ path e. elim e [ inl at ↦ inl at | inr set ↦ inr (set_inner path old.levels.inner l old.levels.around (same path) set) ])

  keeps_file : (old : Seen) (f moved : Copying) → old.item ≡ File f → part_at moved.stage ≡ part_at f.stage → Keeps old (copy_after_progress (progress moved.stage) (File moved) (idle old))
  keeps_file old f moved is same =
      keeps old (copy_after_progress (progress moved.stage) (File moved) (idle old)) (settled_calm log (progress moved.stage) (File moved) (idle old) refl tt)
      (λ path e. file_waits path (progress moved.stage) moved (idle old) refl (elim e [ inl at ↦ inl (same ∙ (sym (ap filled_part is) ∙ at)) | inr set ↦ inr set ]))

  keeps_link : (old : Seen) (l moved : LinkCopying) → old.item ≡ Link l → PartCalm log (Link moved) → Keeps old (copy_after_progress (link_progress moved.stage) (Link moved) (idle old))
  keeps_link old l moved is part =
      keeps old (copy_after_progress (link_progress moved.stage) (Link moved) (idle old)) (settled_calm log (link_progress moved.stage) (Link moved) (idle old) refl part)
      (λ path e. link_waits path (link_progress moved.stage) moved (idle old)
      (elim e [ inl at ↦ absurd (let x : (let o : Option Route = None in o) ≡ Some path = sym (ap filled_part is) ∙ at in let f : ⊥ = cc in f) | inr set ↦ set ]))

  -- the log and the copy are as they were
  keeps_as : (old new mid : Seen) → new ≡ mid → Keeps old mid → Keeps old new
  keeps_as old new mid is k = subst (λ (c : Seen). Keeps old c) (sym is) k

  keeps_all : (old : Seen) → PartCalm log old.item → Keeps old old
  keeps_all old part = (part, λ path calm. calm)

  skips_rest : (cause : Cause) (old new : Seen) (did : Did) → PartCalm log old.item → SkipsRest cause old did new → Keeps old new
  skips_rest cause old new did part (inl done) = keeps_as old new _ done.1 (keeps_inner old _ part (λ path is. is))
  skips_rest cause old new did part (inr room) = keeps_as old new old room.1 (keeps_all old part)

  end_set : (cause : Cause) (c moved : FolderCopying) (did : Did) (names : _) → folder.Skips cause c did moved → (path : Route) → IsSetAt path (level names c) → IsSetAt path (level names moved)
  end_set cause c moved did names (inl done) path is = subst (λ (m : FolderCopying). IsSetAt path (level names m)) (sym done.1) (is.0, skipped_set c.stage c.names is.1)
  end_set cause c moved did names (inr room) path is = subst (λ (m : FolderCopying). IsSetAt path (level names m)) (sym room.1) is

  skips_named : (names : List (List ℕ)) (cause : Cause) (old new : Seen) (did : Did) → PartCalm log old.item → SkipsNamed names cause old did new → Keeps old new
  skips_named [] cause old new did part (moved, skips, stands) =
      keeps_as old new _ stands (keeps_inner old (level old.levels.inner.names moved) part (end_set cause old.levels.inner.copy moved did old.levels.inner.names skips))
  skips_named (name ∷ names) cause old new did part (inl done) = keeps_as old new _ done.1 (keeps_inner old _ part (λ path is. is))
  skips_named (name ∷ names) cause old new did part (inr (inl rest)) = skips_rest cause old new did part rest.1
  skips_named (name ∷ names) cause old new did part (inr (inr room)) = keeps_as old new old room.1 (keeps_all old part)

  skips_calm : (item : ItemAtWork) (cause : Cause) (old new : Seen) (did : Did) → old.item ≡ item → PartCalm log old.item → SkipsAt item cause old did new → Keeps old new
  skips_calm Next cause old new did is part s = skips_named old.levels.inner.names.names cause old new did part s
  skips_calm (File f) cause old new did is part (moved, skips, stands) = keeps_as old new _ stands (keeps_file old f moved is (file_skip cause f moved did skips))
  skips_calm (Link l) cause old new did is part (moved, skips, stands) = keeps_as old new _ stands (keeps_link old l moved is (link_skip log cause l moved did skips (subst (PartCalm log) is part)))
  skips_calm (Stays left) cause old new did is part s = absurd s

  retries_calm : (item : ItemAtWork) (c : Seen) → c.item ≡ item → PartCalm log c.item → Keeps c (retried_at item c)
  retries_calm Next c is part = keeps_all c part
  retries_calm (File f) c is part = keeps_file c f (record f { stage = file_anew f.stage }) is (anew_part f.stage)
  retries_calm (Link l) c is part = keeps_link c l (record l { stage = link_anew l.stage }) is (λ has. subst (PartCalm log) is part (anew_has l.stage has))
  retries_calm (Stays left) c is part = keeps_all c part

pub calm_law : CalmLaw
calm_law = record {
  free = λ log c path none. calm_free path log (MayWait c path) none;
  step = λ free replies old new did calls log now f0 f1 s tree files known part.
      let b = step_begins free replies old new did calls log now f0 f1 s tree files known in
      let mid = s.mid in
      let here = left_calm s.folders log old mid s.leaves part in (
        works_part free replies mid new did log now b.0 mid.item refl b.1 here s.works,
        λ path calm. works_calm path free replies mid new did log now b.0 (calm_map path log (MayWait old path) (MayWait mid path) (leaves_wait path s.folders old mid s.leaves) calm) mid.item refl b.1 here s.works,
      );
  skip = λ log cause old new did s part. skips_calm log old.item cause old new did refl part s;
  retry = λ log c part. retries_calm log c.item c refl part;
}

-- a folder that was given its mode lies no lower than the one that is worked
set_low : (path : Route) (l : Level) (around : List Level) → AreNested l.copy.target around → IsSetIn path l around → length path ≤ length l.copy.target
set_low path l [] nested h = (let e = ap (λ (r : Route). length r) h.0 in omega (arith, e))
set_low path l (outer ∷ around) nested (inl h) = (let e = ap (λ (r : Route). length r) h.0 in omega (arith, e))
set_low path l (outer ∷ around) nested (inr h) =
    let e = ap (λ (r : Route). length r) nested.0.1 in
    let less = set_low path outer around nested.1 h in omega (arith, e, less)

-- none that is filled was
pub filled_unset : (stage : Stage) (names : NamesState) → is_filled stage ≡ true → was_set stage names ≡ false
filled_unset (at.Fill owed) names is = refl
filled_unset (at.Make mode) names is = refl
filled_unset (at.Close owed) names is = absurd (false≢true is)
filled_unset at.Done names is = refl

none_set : (path : Route) (inner : Level) (around : List Level) → was_set inner.copy.stage inner.copy.names ≡ false → AllFilled around → IsSetIn path inner around → ⊥
none_set path inner [] unset filled h = both_ways _ unset h.1
none_set path inner (outer ∷ around) unset filled (inl h) = both_ways _ unset h.1
none_set path inner (outer ∷ around) unset filled (inr h) = none_set path outer around (filled_unset outer.copy.stage outer.copy.names filled.0) filled.1 h

no_part : {A : Type 0} (item : ItemAtWork) (path : Route) → filled_part item ≡ None → filled_part item ≡ Some path → A
no_part item path none is = absurd (let e : (let o : Option Route = None in o) ≡ Some path = sym none ∙ is in let f : ⊥ = cc in f)

pub quiet_modes_law : QuietModesLaw
quiet_modes_law = record {
  within = λ told dirty marks log c kept folders none calm name i at. elim (calm name i at) [
    | inl clean ↦ inl (kept.modes i clean)
    | inr (inl part) ↦ no_part c.item (name ∷ c.levels.inner.copy.target) none part
    | inr (inr set) ↦
        let low = set_low (name ∷ c.levels.inner.copy.target) c.levels.inner c.levels.around (nested_of c.name c.levels.inner c.levels.around folders.1) set in absurd (omega (arith, low))
  ];
  elsewhere = λ told dirty marks log c path i kept ends unfilled unset calm at. elim (calm i at) [
    | inl clean ↦ kept.modes i clean
    | inr (inl part) ↦ absurd (unfilled part)
    | inr (inr set) ↦ absurd (none_set path c.levels.inner c.levels.around unset ends.around set)
  ];
}
