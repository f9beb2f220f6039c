-- Names wait only in open folders that are marked: after each step, skip and retry of a tree's copy.
use Rattle.std.proofs.Common.{◌≡◌, ◌⊎◌, ℕ, suc, zero, true, List, [], ◌∷◌, refl, sym, ◌∙◌, ap, subst, inl, inr, Option, Some}
use Rattle.mc_text.specs.Routes.{Route}
use Rattle.tree_trait.specs.Change.{CallLog}
use Rattle.job_reports.specs.declared.report.Cause.{Cause}
use Rattle.job_reports.specs.declared.report.Did.{Did}
use Rattle.job_reports.specs.declared.report.Did.TheVariants.{Began, Chunk, Placed, Removed, Made, Set, Kept, Skipped, Cleaned, Barrier, Asked, Merges, Moved, Troubled, Ended}
use Rattle.job_reports.specs.declared.report.Ending.TheVariants.{Finished, Aborted, Killed, NoMemory}
use Rattle.copy_file.specs.Copying as file
use Rattle.copy_file.specs.Copying.{Copying}
use Rattle.copy_file.specs.declared.stage.Next.{Next as FileFollows}
use Rattle.copy_file.specs.declared.stage.Next.TheVariants as file_follows
use Rattle.copy_link.specs.LinkCopying as link
use Rattle.copy_link.specs.LinkCopying.{LinkCopying}
use Rattle.copy_link.specs.declared.stage.Next.{Next as LinkFollows}
use Rattle.copy_link.specs.declared.stage.Next.TheVariants as link_follows
use Rattle.copy_folders.specs.FolderCopying.{FolderCopying, is_dirty}
use Rattle.copy_folders.specs.FolderSteps as folder
use Rattle.copy_folders.specs.declared.level.Level.{Level}
use Rattle.copy_folders.specs.Levels.{level}
use Rattle.copy_tree.specs.declared.item.ItemAtWork.{ItemAtWork}
use Rattle.copy_tree.specs.declared.item.ItemAtWork.TheVariants.{Next, File, Link, Stays}
use Rattle.copy_tree.specs.declared.progress.Progress.{Progress}
use Rattle.copy_tree.specs.declared.progress.Progress.TheVariants.{UnderWay, Decided, Anew}
use Rattle.copy_tree.specs.Parts.{IsPartPlace}
use Rattle.copy_tree.specs.Progress.{link_progress, progress}
use Rattle.copy_tree.specs.Skipping.{SkipsAt, SkipsNamed, SkipsRest, retried_at}
use Rattle.copy_tree.specs.Standing.{Seen}
use Rattle.copy_tree.specs.TreeCopySteps.{LeavesAll, LinkWorks, TakesNext, WorksOn, idle, link_begun, noted_copy, copy_after_progress}
use Rattle.job_answers.specs.declared.replies.Replies.{Replies}
use Rattle.laws_sessions.proofs.FileMoves.{FileMoves, taken_moves, worked_moves}
use Rattle.laws_sessions.proofs.Names.{IsMarked, IsMarkedAt, NamesLaw, WaitsMarked, WorkedMarked}
use Rattle.laws_sessions.proofs.NameChanges.{waits_map}
use Rattle.laws_sessions.proofs.NameMarks.{Marked, dirty_if, dirty_stays, mark_inner}
use Rattle.laws_sessions.proofs.NameSteps.{leaves_marks, settled_marks, works_names}
use Rattle.laws_sessions.proofs.StepsKnown.{step_begins}

none_marked : (item : ItemAtWork) (inner : Level) → item ≡ Next → WorkedMarked item inner
none_marked item inner is = subst (λ i. WorkedMarked i inner) (sym is) tt

settled_marked : (p : Progress) (item : ItemAtWork) (c : Seen) → c.item ≡ Next → (p ≡ UnderWay → WorkedMarked item c.levels.inner) → IsMarked (copy_after_progress p item c)
settled_marked UnderWay item c none h = h refl
settled_marked Decided item c none h = none_marked c.item (let s : Seen = copy_after_progress Decided item c in s.levels.inner) none
settled_marked Anew item c none h = none_marked c.item c.levels.inner none

pub left_marked : (n : ℕ) (old mid : Seen) → LeavesAll n old mid → IsMarked old → IsMarked mid
left_marked zero old mid is h = subst IsMarked (sym is) h
left_marked (suc n) old mid (last, all, none, one) h = let r = one.returns in none_marked mid.item mid.levels.inner (ap (λ (c : Seen). c.item) r.stands ∙ none)

-- a part is under way only where it was, or its folder was changed just now
not_under : (p : Progress) → Decided ≡ p → p ≡ UnderWay → ⊥
not_under p is going = (let e : Decided ≡ UnderWay = is ∙ going in let f : ⊥ = cc in f)

file_cleaned : (next : FileFollows) → progress (file.after_clean next) ≡ UnderWay → ⊥
file_cleaned file_follows.Begin going = (let f : ⊥ = cc in f)
file_cleaned file_follows.Decided going = (let f : ⊥ = cc in f)

link_cleaned : (next : LinkFollows) → link_progress (link.after_clean next) ≡ UnderWay → ⊥
link_cleaned link_follows.Again going = (let f : ⊥ = cc in f)
link_cleaned link_follows.Decided going = (let f : ⊥ = cc in f)

file_under : (f moved : Copying) (did : Did) → file.Tells f did moved → progress moved.stage ≡ UnderWay → (file.is_dirty moved.folder ≡ true) ⊎ (progress f.stage ≡ UnderWay)
file_under f moved (Began part) (stage, (facts, new_is)) going = inl (ap (λ (x : Copying). file.is_dirty x.folder) new_is)
file_under f moved (Chunk count) (part, facts, done, stage, least, most, fits, new_is) going = inr (ap progress stage)
file_under f moved (Placed path) (part, facts, stage, path_is, new_is) going = absurd (not_under _ (sym (ap (λ (x : Copying). progress x.stage) new_is)) going)
file_under f moved (Cleaned part) (follows, stage, new_is) going = absurd (file_cleaned follows (sym (ap (λ (x : Copying). progress x.stage) new_is) ∙ going))
file_under f moved Barrier (stage, dirty, new_is) going = inr (sym (ap (λ (x : Copying). progress x.stage) new_is) ∙ going)
file_under f moved (Troubled trouble) (barrier, new_is) going = inr (sym (ap (λ (x : Copying). progress x.stage) new_is) ∙ going)
file_under f moved (Ended Finished part) (stage, clean, none, new_is) going = inr (sym (ap (λ (x : Copying). progress x.stage) new_is) ∙ going)
file_under f moved did tells going = absurd tells

link_under : (l moved : LinkCopying) (did : Did) → link.Tells l did moved → link_progress moved.stage ≡ UnderWay → (link.is_dirty moved.folder ≡ true) ⊎ (link_progress l.stage ≡ UnderWay)
link_under l moved (Began part) (stage, part_is, new_is) going = inl (ap (λ (x : LinkCopying). link.is_dirty x.folder) new_is)
link_under l moved (Placed path) (stage, path_is, new_is) going = inl (ap (λ (x : LinkCopying). link.is_dirty x.folder) new_is)
link_under l moved (Cleaned part) (follows, stage, part_is, new_is) going = inl (ap (λ (x : LinkCopying). link.is_dirty x.folder) new_is)
link_under l moved Barrier (stage, dirty, new_is) going = inr (sym (ap (λ (x : LinkCopying). link_progress x.stage) new_is) ∙ going)
link_under l moved (Troubled trouble) (barrier, new_is) going = inr (sym (ap (λ (x : LinkCopying). link_progress x.stage) new_is) ∙ going)
link_under l moved did tells going = absurd tells

module _ (unclaimed : Route → Type 0) (replies : Replies) (old new : Seen) (did : Did) (before after : Option CallLog) where
  file_marked : (f : Copying) → (progress f.stage ≡ UnderWay → is_dirty old.levels.inner.copy.names ≡ true) → FileMoves unclaimed f old new did before after → IsMarked new
  file_marked f dirty w =
      let m = w.moved in
      let c = noted_copy did (file.is_dirty m.folder) (idle old) in
      subst IsMarked (sym w.stands) (settled_marked (progress m.stage) (File m) c refl (λ going. elim (file_under f m did w.tells going) [
        | inl changed ↦ dirty_if (file.is_dirty m.folder) old.levels changed
        | inr on ↦ dirty_stays (file.is_dirty m.folder) old.levels (dirty on)
      ]))

  link_marked : (l : LinkCopying) → (link_progress l.stage ≡ UnderWay → is_dirty old.levels.inner.copy.names ≡ true) → LinkWorks l old new did before after → IsMarked new
  link_marked l dirty w =
      let m = w.moved in
      let c = noted_copy did (link.is_dirty m.folder) (idle old) in
      subst IsMarked (sym w.stands) (settled_marked (link_progress m.stage) (Link m) c refl (λ going. elim (link_under l m did w.tells going) [
        | inl changed ↦ dirty_if (link.is_dirty m.folder) old.levels changed
        | inr on ↦ dirty_stays (link.is_dirty m.folder) old.levels (dirty on)
      ]))

  same : old.item ≡ Next → new.item ≡ old.item → IsMarked new
  same none is = none_marked new.item new.levels.inner (is ∙ none)

  takes_marked : old.item ≡ Next → TakesNext unclaimed replies old new did before after → IsMarked new
  takes_marked none (inl s) = same none (ap (λ (c : Seen). c.item) s.stands)
  takes_marked none (inr (inl t)) = file_marked (file.begun_copy old.job t.pair.source t.pair.target) (λ going. absurd (let f : ⊥ = cc in f)) (taken_moves unclaimed replies old new did before after t)
  takes_marked none (inr (inr (inl t))) = link_marked (link_begun t.pair t.part) (λ going. absurd (let f : ⊥ = cc in f)) t.works
  takes_marked none (inr (inr (inr (inl t)))) = same none (let w = t.works in ap (λ (c : Seen). c.item) w.stands)
  takes_marked none (inr (inr (inr (inr (inl t))))) = same none (ap (λ (c : Seen). c.item) t.stands)
  takes_marked none (inr (inr (inr (inr (inr (inl t)))))) = same none (ap (λ (c : Seen). c.item) t.stands)
  takes_marked none (inr (inr (inr (inr (inr (inr (inl t))))))) = same none (ap (λ (c : Seen). c.item) t.stands)
  takes_marked none (inr (inr (inr (inr (inr (inr (inr (next, inl (debt, e))))))))) = same none (ap (λ (c : Seen). c.item) e.stands)
  takes_marked none (inr (inr (inr (inr (inr (inr (inr (next, inr (debt, f, stays))))))))) = same none (ap (λ (c : Seen). c.item) f.stands)

  works_marked : (item : ItemAtWork) → old.item ≡ item → IsMarked old → WorksOn item unclaimed replies old new did before after → IsMarked new
  works_marked Next is marked (inl s) = same is (ap (λ (c : Seen). c.item) s.stands)
  works_marked Next is marked (inr takes) = takes_marked is takes.1
  works_marked (File f) is marked w = file_marked f (λ going. subst (λ i. WorkedMarked i old.levels.inner) is marked) (worked_moves unclaimed f old new did before after w)
  works_marked (Link l) is marked w = link_marked l (λ going. subst (λ i. WorkedMarked i old.levels.inner) is marked) w
  works_marked (Stays part) is marked w = absurd w

module _ (log : CallLog) where
  abbrev Keeps : Seen → Seen → Type 0
  Keeps old new = IsMarked new × ((name : List ℕ) (up : Route) → WaitsMarked log old name up → WaitsMarked log new name up)

  keeps : (old new : Seen) → IsMarked new → ((up : Route) → Marked up old.levels → Marked up new.levels) → Keeps old new
  keeps old new marked goes = (marked, λ name up h. waits_map name up log (Marked up old.levels) (Marked up new.levels) (goes up) h)

  keeps_inner : (old : Seen) (l : Level) → old.item ≡ Next → ((up : Route) → IsMarkedAt up old.levels.inner → IsMarkedAt up l) → Keeps old (record old { levels = record old.levels { inner = l } })
  keeps_inner old l none goes = keeps old (record old { levels = record old.levels { inner = l } }) (none_marked old.item l none) (λ up h. mark_inner up old.levels.inner l old.levels.around (goes up) h)

  keeps_item : (old : Seen) (p : Progress) (item : ItemAtWork) → WorkedMarked item old.levels.inner → Keeps old (copy_after_progress p item (idle old))
  keeps_item old p item marked = keeps old (copy_after_progress p item (idle old)) (settled_marked p item (idle old) refl (λ going. marked)) (λ up h. settled_marks [] up p item (idle old) h)

  keeps_as : (old new mid : Seen) → new ≡ mid → Keeps old mid → Keeps old new
  keeps_as old new mid is k = subst (λ (c : Seen). Keeps old c) (sym is) k

  keeps_all : (old : Seen) → IsMarked old → Keeps old old
  keeps_all old marked = (marked, λ name up h. h)

  skips_rest : (cause : Cause) (old new : Seen) (did : Did) → old.item ≡ Next → IsMarked old → SkipsRest cause old did new → Keeps old new
  skips_rest cause old new did none marked (inl s) = keeps_as old new _ s.1 (keeps_inner old _ none (λ up is. is))
  skips_rest cause old new did none marked (inr room) = keeps_as old new old room.1 (keeps_all old marked)

  end_marks : (cause : Cause) (c moved : FolderCopying) (did : Did) (names : _) → folder.Skips cause c did moved → (up : Route) → IsMarkedAt up (level names c) → IsMarkedAt up (level names moved)
  end_marks cause c moved did names (inl s) up is = subst (λ (m : FolderCopying). IsMarkedAt up (level names m)) (sym s.1) is
  end_marks cause c moved did names (inr room) up is = subst (λ (m : FolderCopying). IsMarkedAt up (level names m)) (sym room.1) is

  skips_named : (names : List (List ℕ)) (cause : Cause) (old new : Seen) (did : Did) → old.item ≡ Next → IsMarked old → SkipsNamed names cause old did new → Keeps old new
  skips_named [] cause old new did none marked (moved, skips, stands) =
      keeps_as old new _ stands (keeps_inner old (level old.levels.inner.names moved) none (end_marks cause old.levels.inner.copy moved did old.levels.inner.names skips))
  skips_named (first ∷ names) cause old new did none marked (inl s) = keeps_as old new _ s.1 (keeps_inner old _ none (λ up is. is))
  skips_named (first ∷ names) cause old new did none marked (inr (inl rest)) = skips_rest cause old new did none marked rest.1
  skips_named (first ∷ names) cause old new did none marked (inr (inr room)) = keeps_as old new old room.1 (keeps_all old marked)

  skips_marked : (item : ItemAtWork) (cause : Cause) (old new : Seen) (did : Did) → old.item ≡ item → IsMarked old → SkipsAt item cause old did new → Keeps old new
  skips_marked Next cause old new did is marked s = skips_named old.levels.inner.names.names cause old new did is marked s
  skips_marked (File f) cause old new did is marked (moved, skips, stands) = keeps_as old new _ stands (keeps_item old (progress moved.stage) (File moved) (subst (λ i. WorkedMarked i old.levels.inner) is marked))
  skips_marked (Link l) cause old new did is marked (moved, skips, stands) = keeps_as old new _ stands (keeps_item old (link_progress moved.stage) (Link moved) (subst (λ i. WorkedMarked i old.levels.inner) is marked))
  skips_marked (Stays part) cause old new did is marked s = absurd s

  retries_marked : (item : ItemAtWork) (c : Seen) → c.item ≡ item → IsMarked c → Keeps c (retried_at item c)
  retries_marked Next c is marked = keeps_all c marked
  retries_marked (File f) c is marked = keeps_item c (progress (file.taken_anew f.stage)) (File (record f { stage = file.taken_anew f.stage })) (subst (λ i. WorkedMarked i c.levels.inner) is marked)
  retries_marked (Link l) c is marked = keeps_item c (link_progress (link.taken_anew l.stage)) (Link (record l { stage = link.taken_anew l.stage })) (subst (λ i. WorkedMarked i c.levels.inner) is marked)
  retries_marked (Stays part) c is marked = keeps_all c marked

pub names_law : NamesLaw
names_law = record {
  begins = λ job source target. tt;
  step = λ free replies old new did calls log now f0 f1 s tree files known ends marked.
      let b = step_begins free replies old new did calls log now f0 f1 s tree files known in
      let mid = s.mid in
      let here = left_marked s.folders old mid s.leaves marked in (
        works_marked (IsPartPlace free mid) replies mid new did (Some log) (Some now) mid.item refl here s.works,
        λ name up h. works_names name up free replies mid new did log now b.0 (waits_map name up log (Marked up old.levels) (Marked up mid.levels) (leaves_marks name up s.folders old mid s.leaves ends) h) mid.item refl b.1 here s.works,
      );
  skip = λ log cause old new did s marked. skips_marked log old.item cause old new did refl marked s;
  retry = λ log c marked. retries_marked log c.item c refl marked;
}
