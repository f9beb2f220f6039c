-- A step, a skip and a retry keep the marks listed.
use Rattle.std.proofs.Common.{◌≡◌, ℕ, suc, zero, ◌<◌, Bool, true, false, List, [], ◌∷◌, length, refl, sym, ◌∙◌, ap, subst, inl, inr, Option, arith}
use Rattle.std.proofs.lemmas.Bool.{false≢true}
use Rattle.mc_text.specs.Routes.{Route}
use Rattle.tree_trait.specs.Change.{CallLog}
use Rattle.tree_trait.specs.CrashImages.{Among}
use Rattle.job_answers.specs.declared.skips.Skips.{Skips as Kinds}
use Rattle.job_answers.specs.declared.replies.Replies.{Replies}
use Rattle.job_reports.specs.declared.job.Pair.{Pair}
use Rattle.job_reports.specs.declared.report.Cause.{Cause}
use Rattle.job_reports.specs.declared.report.Did.{Did}
use Rattle.job_reports.specs.declared.report.Did.TheVariants.{Began, Chunk, Placed, Removed, Made, Set, Kept, Skipped, Cleaned, Barrier, Asked, Merges, Moved, Troubled, Ended}
use Rattle.job_reports.specs.declared.report.StepResult.{StepResult}
use Rattle.copy_file.specs.Copying as file
use Rattle.copy_file.specs.Copying.{Copying}
use Rattle.copy_folders.specs.FolderCopying as folder
use Rattle.copy_folders.specs.FolderCopying.{FolderCopying, is_dirty}
use Rattle.copy_folders.specs.FolderSteps as folder_steps
use Rattle.copy_folders.specs.declared.stage.FolderDid.{FolderDid}
use Rattle.copy_folders.specs.declared.stage.FolderDid.TheVariants as folder_did
use Rattle.copy_folders.specs.declared.stage.NamesState.TheVariants.{Dirty, Synced}
use Rattle.copy_folders.specs.declared.stage.Stage.{Stage}
use Rattle.copy_folders.specs.declared.stage.Stage.TheVariants as at
use Rattle.copy_link.specs.LinkCopying as link
use Rattle.copy_link.specs.LinkCopying.{LinkCopying}
use Rattle.tree_walk.specs.Places.{opened_folder, without_next}
use Rattle.copy_folders.specs.declared.level.Level.{Level}
use Rattle.copy_folders.specs.Levels.{is_around_dirty, level, made_levels, passed_levels, target_around}
use Rattle.job_unsynced.specs.Folders.{with_change}
use Rattle.copy_tree.specs.declared.item.ItemAtWork.{ItemAtWork}
use Rattle.copy_tree.specs.declared.item.ItemAtWork.TheVariants.{Next, File, Link, Stays}
use Rattle.copy_tree.specs.declared.progress.Progress.{Progress}
use Rattle.copy_tree.specs.declared.progress.Progress.TheVariants.{UnderWay, Decided, Anew}
use Rattle.copy_tree.specs.Parts.{IsPartPlace}
use Rattle.copy_tree.specs.Progress.{link_progress, progress}
use Rattle.copy_tree.specs.Reports.{IsToldAs}
use Rattle.copy_tree.specs.Skipping as machine
use Rattle.copy_tree.specs.Standing.{Seen, after_report}
use Rattle.copy_tree.specs.TreeCopySteps.{FolderEnds, FolderMakes, LeavesAll, LinkWorks, SyncsAround, TakesNext, WorksOn, at_end, idle, noted_copy, copy_after_progress}
use Rattle.copy_tree.proofs.InPlaces.{folder_paths}
use Rattle.copy_job.specs.Leaving.{may_leave}
use Rattle.copy_job.specs.Marks.{brings_in, brings_made, folder_worked, is_dirty_after, is_left_dirty, was_dirty}
use Rattle.copy_job.specs.Passing.{OrPassedOver}
use Rattle.copy_job.specs.SubtreeSteps.{ListSteps, step_result}
use Rattle.copy_job.proofs.Listed.{of_around, of_inner}
use Rattle.copy_job.proofs.Targets.{works_at_once}
use Rattle.laws_sessions.proofs.FileMoves.{FileMoves, taken_moves, worked_moves}
use Rattle.laws_sessions.proofs.FoldersLie.{AreNested}
use Rattle.laws_sessions.proofs.DirtyListed.{AreApart, AreListed, IsListed, ListLaw, MarksListed}
use Rattle.laws_sessions.proofs.Listings.{below_listed, worked_listed}

-- what stands at the head of a list of open folders, and around it
pub inner_listed : (dirty : List Route) (inner : Level) (around : List Level) → AreListed dirty inner around → IsListed dirty inner
inner_listed dirty inner [] h = h
inner_listed dirty inner (outer ∷ around) h = h.0

around_listed : (dirty : List Route) (inner : Level) (around : List Level) → AreListed dirty inner around → (outer : Level) (rest : List Level) → around ≡ outer ∷ rest → AreListed dirty outer rest
around_listed dirty inner [] h outer rest is = (let f : ⊥ = cc in absurd f)
around_listed dirty inner (first ∷ around) h outer rest is = (let same : first ≡ outer = cc in let more : around ≡ rest = cc in subst (λ (o : Level). AreListed dirty o rest) same (subst (λ (os : List Level). AreListed dirty first os) more h.1))

-- names alone are other ones
other_level : (dirty : List Route) (inner new : Level) (around : List Level) → new.copy.target ≡ inner.copy.target → is_dirty new.copy.names ≡ is_dirty inner.copy.names → AreListed dirty inner around → AreListed dirty new around
other_level dirty inner new [] same mark h = λ marked. subst (λ q. Among dirty q) (sym same) (h (sym mark ∙ marked))
other_level dirty inner new (outer ∷ around) same mark h = (λ marked. subst (λ q. Among dirty q) (sym same) (h.0 (sym mark ∙ marked)), h.1)

-- folders that are left
pub leaves_listed : (dirty : List Route) (n : ℕ) (old mid : Seen) → LeavesAll n old mid → AreApart old → MarksListed dirty old → AreApart mid × MarksListed dirty mid
leaves_listed dirty zero old mid is apart h = (subst AreApart (sym is) apart, subst (MarksListed dirty) (sym is) h)
leaves_listed dirty (suc n) old mid (last, all, none, one) apart h =
    let r = one.returns in
    let left = r.left in
    let k = leaves_listed dirty n old last all apart h in
    let nested = subst (AreNested last.levels.inner.copy.target) left.was k.0 in
    (nested.1, around_listed dirty last.levels.inner last.levels.around k.1 mid.levels.inner mid.levels.around left.was)

-- a folder whose mark is set after a step counts as dirty after it
pub left_marks : (did : Did) (c : Seen) → is_dirty c.levels.inner.copy.names ≡ true → is_left_dirty did c ≡ true
left_marks (Made path) c marked = refl
left_marks did c marked = marked

-- the same folders are open
abbrev SameFolders : Seen → Seen → Type 0
SameFolders old new = (new.levels.around ≡ old.levels.around) × (new.levels.inner.copy.target ≡ old.levels.inner.copy.target)

settled_same : (p : Progress) (item : ItemAtWork) (did : Did) (changed : Bool) (c : Seen) → SameFolders c (copy_after_progress p item (noted_copy did changed c))
settled_same UnderWay item did true c = (refl, refl)
settled_same UnderWay item did false c = (refl, refl)
settled_same Decided item did true c = (refl, refl)
settled_same Decided item did false c = (refl, refl)
settled_same Anew item did true c = (refl, refl)
settled_same Anew item did false c = (refl, refl)

now_same : (old mid new : Seen) → new ≡ mid → SameFolders old mid → SameFolders old new
now_same old mid new is same = (ap (λ (c : Seen). c.levels.around) is ∙ same.0, ap (λ (c : Seen). c.levels.inner.copy.target) is ∙ same.1)

module _ (old new : Seen) (did : Did) (dirty dirty_after : List Route) (before after : Option CallLog)
    (list : dirty_after ≡ with_change (was_dirty old) (is_dirty_after old did new) (folder_worked old) dirty) (apart : AreApart old) (h : MarksListed dirty old) where
  abbrev inner : Level
  inner = old.levels.inner

  abbrev listed_in : List Route
  listed_in = with_change (is_dirty inner.copy.names) (is_left_dirty did new) inner.copy.target dirty

  inner_list : brings_made old ≡ false → listed_in ≡ dirty_after
  inner_list brings = of_inner old new did dirty brings ∙ sym list

  -- the innermost was worked, and the same folders are open
  same_listed : brings_made old ≡ false → SameFolders old new → MarksListed dirty_after new
  same_listed brings same =
      subst (λ d. MarksListed d new) (inner_list brings)
      (subst (λ (os : List Level). AreListed listed_in new.levels.inner os) (sym same.0)
      (worked_listed (is_dirty inner.copy.names) (is_left_dirty did new) inner.copy.target dirty new.levels.inner old.levels.around same.1 (left_marks did new) (inner_listed dirty inner old.levels.around h) apart
      (around_listed dirty inner old.levels.around h)))

  file_listed : (unclaimed : Route → Type 0) (f : Copying) → brings_made old ≡ false → FileMoves unclaimed f old new did before after → MarksListed dirty_after new
  file_listed unclaimed f brings w =
      let m = w.moved in same_listed brings (now_same old _ new w.stands (settled_same (progress m.stage) (File m) did (file.is_dirty m.folder) (idle old)))

  link_listed : (l : LinkCopying) → brings_made old ≡ false → LinkWorks l old new did before after → MarksListed dirty_after new
  link_listed l brings w =
      let m = w.moved in same_listed brings (now_same old _ new w.stands (settled_same (link_progress m.stage) (Link m) did (link.is_dirty m.folder) (idle old)))

  -- a folder that was made is clean, and the one around it is marked
  made_clean : (source target : Route) (mode : ℕ) (owed : _) (moved : FolderCopying) (report : FolderDid) → folder.Tells (folder.copying source target (at.Make mode) Synced) report moved → IsToldAs report did → moved.stage ≡ at.Fill owed
      → (is_dirty moved.names ≡ false) × (is_left_dirty did new ≡ true)
  made_clean source target mode owed moved (folder_did.Made path) t told is = (ap (λ (c : FolderCopying). is_dirty c.names) t.3, ap (λ d. is_left_dirty d new) told)
  made_clean source target mode owed moved (folder_did.Set path) t told is = (let f : ⊥ = cc in absurd f)
  made_clean source target mode owed moved folder_did.Barrier t told is = (let f : ⊥ = cc in absurd f)
  made_clean source target mode owed moved folder_did.Closed t told is = absurd told
  made_clean source target mode owed moved (folder_did.Troubled trouble) t told is = (let e : at.Make mode ≡ at.Fill owed = sym (ap (λ (c : FolderCopying). c.stage) t.1) ∙ is in let f : ⊥ = cc in absurd f)

  abbrev marked_inner : Level
  marked_inner = level (without_next inner.names) (record inner.copy { names = Dirty })

  -- where the copy stands, once the machine of a folder to be made stands at a stage
  abbrev made_at : Pair → List (List ℕ) → FolderCopying → Stage → Seen
  made_at pair names moved stage = record old { stage = after_report did old.stage; levels = made_levels stage (opened_folder pair.source names) moved old.levels }

  makes_listed : (pair : Pair) (names : List (List ℕ)) (mode : ℕ) → brings_made old ≡ false → FolderMakes pair names mode old new did before after → MarksListed dirty_after new
  makes_listed pair names mode brings w = by (let m = w.moved in m.stage) refl
    where
      by : (stage : Stage) → (let m = w.moved in m.stage) ≡ stage → MarksListed dirty_after new
      by (at.Fill owed) is =
          let clean = made_clean pair.source pair.target mode owed w.moved w.report w.tells w.says is in
          subst (MarksListed dirty_after) (sym (w.stands ∙ ap (made_at pair names w.moved) is)) (
            (λ marked. absurd (false≢true (sym clean.0 ∙ marked))),
            subst (λ d. AreListed d marked_inner old.levels.around) (inner_list brings)
                (worked_listed (is_dirty inner.copy.names) (is_left_dirty did new) inner.copy.target dirty marked_inner old.levels.around refl (λ marked. clean.1) (inner_listed dirty inner old.levels.around h) apart
                (around_listed dirty inner old.levels.around h)),
          )
      by (at.Make other) is = same_listed brings (now_same old (made_at pair names w.moved (at.Make other)) new (w.stands ∙ ap (made_at pair names w.moved) is) (refl, refl))
      by (at.Close owed) is = same_listed brings (now_same old (made_at pair names w.moved (at.Close owed)) new (w.stands ∙ ap (made_at pair names w.moved) is) (refl, refl))
      by at.Done is = same_listed brings (now_same old (made_at pair names w.moved at.Done) new (w.stands ∙ ap (made_at pair names w.moved) is) (refl, refl))

  ends_listed : brings_made old ≡ false → FolderEnds (at_end old) new did before after → MarksListed dirty_after new
  ends_listed brings e = same_listed brings (now_same old _ new e.stands (refl, (folder_paths (let c = at_end old in c.levels.inner.copy) e.moved e.report e.tells).1))

  takes_listed : (unclaimed : Route → Type 0) (replies : Replies) → brings_made old ≡ false → TakesNext unclaimed replies old new did before after → MarksListed dirty_after new
  takes_listed unclaimed replies brings (inl s) = same_listed brings (now_same old old new s.stands (refl, refl))
  takes_listed unclaimed replies brings (inr (inl t)) = file_listed unclaimed _ brings (taken_moves unclaimed replies old new did before after t)
  takes_listed unclaimed replies brings (inr (inr (inl t))) = link_listed _ brings t.works
  takes_listed unclaimed replies brings (inr (inr (inr (inl t)))) = makes_listed t.pair t.names t.mode brings t.works
  takes_listed unclaimed replies brings (inr (inr (inr (inr (inl t))))) = same_listed brings (now_same old (record old { levels = passed_levels false old.levels }) new t.stands (refl, refl))
  takes_listed unclaimed replies brings (inr (inr (inr (inr (inr (inl t)))))) = same_listed brings (now_same old (record old { levels = passed_levels false old.levels }) new t.stands (refl, refl))
  takes_listed unclaimed replies brings (inr (inr (inr (inr (inr (inr (inl t))))))) = same_listed brings (now_same old old new t.stands (refl, refl))
  takes_listed unclaimed replies brings (inr (inr (inr (inr (inr (inr (inr (next, inl (debt, e))))))))) = ends_listed brings e
  takes_listed unclaimed replies brings (inr (inr (inr (inr (inr (inr (inr (next, inr (debt, f, same))))))))) = same_listed brings (now_same old (at_end old) new f.stands (refl, refl))

  -- the folder around was synced
  syncs_listed : brings_made old ≡ true → SyncsAround old new did before after → MarksListed dirty_after new
  syncs_listed brings s =
      let outer = s.outer in
      let now = is_dirty s.names in
      let nested = subst (AreNested inner.copy.target) s.was apart in
      let marked = subst (AreListed dirty inner) s.was h in
      let less : length outer.copy.target < length inner.copy.target = (let e = ap (λ (r : Route). length r) nested.0.1 in omega (arith, e)) in
      let was_marked : is_dirty outer.copy.names ≡ true = ap is_around_dirty (sym s.was) ∙ s.dirty in
      let there = ap (λ (os : List Level). target_around os) s.was in
      let mark : is_around_dirty new.levels.around ≡ now = ap (λ (c : Seen). is_around_dirty c.levels.around) s.stands in
      let is : with_change true now outer.copy.target dirty ≡ dirty_after =
      ap (λ b. with_change true b outer.copy.target dirty) (sym mark)
      ∙ (ap (λ q. with_change true (is_around_dirty new.levels.around) q dirty) (sym there) ∙ (of_around old new did dirty brings ∙ sym list)) in
      subst (MarksListed dirty_after) (sym s.stands) (
        subst (λ d. IsListed d inner) is (below_listed true now outer.copy.target dirty inner less marked.0),
        subst (λ d. AreListed d (level outer.names (record outer.copy { names = s.names })) s.around) is
            (worked_listed true now outer.copy.target dirty (level outer.names (record outer.copy { names = s.names })) s.around refl (λ on. on) (λ on. inner_listed dirty outer s.around marked.1 was_marked) nested.1
            (around_listed dirty outer s.around marked.1)),
      )

  works_listed : (unclaimed : Route → Type 0) (replies : Replies) (item : ItemAtWork) → old.item ≡ item → WorksOn item unclaimed replies old new did before after → MarksListed dirty_after new
  works_listed unclaimed replies Next is (inl s) = syncs_listed (ap (λ (i : ItemAtWork). brings_in i old.levels) is ∙ s.dirty) s
  works_listed unclaimed replies Next is (inr (clean, t)) = takes_listed unclaimed replies (ap (λ (i : ItemAtWork). brings_in i old.levels) is ∙ clean) t
  works_listed unclaimed replies (File f) is w = file_listed unclaimed f (ap (λ (i : ItemAtWork). brings_in i old.levels) is) (worked_moves unclaimed f old new did before after w)
  works_listed unclaimed replies (Link l) is w = link_listed l (ap (λ (i : ItemAtWork). brings_in i old.levels) is) w
  works_listed unclaimed replies (Stays part) is w = absurd w

-- a step with the list
list_listed : (free : Route → Bool) (replies : Replies) (old new : Seen) (result : StepResult) (dirty dirty_after : List Route) (before after : Option CallLog) (f0 f1 : ℕ) → ListSteps free replies old new result dirty dirty_after before after f0 f1 → may_leave old ≡ false
    → AreApart old → MarksListed dirty old → MarksListed dirty_after new
list_listed free replies old new result dirty dirty_after before after f0 f1 (inl s) settled_at apart h = subst (λ d. MarksListed d new) (sym s.list) (subst (MarksListed dirty) (sym s.stays) h)
list_listed free replies old new result dirty dirty_after before after f0 f1 (inr s) settled_at apart h =
    works_listed old new result.did dirty dirty_after before after s.list apart h (IsPartPlace free old) replies old.item refl (works_at_once free replies old new result.did result.calls before after f0 f1 s.steps settled_at)

-- what is left, or taken anew
module _ (dirty : List Route) where
  named_listed : (old : Seen) (left : Bool) → MarksListed dirty old → MarksListed dirty (record old { levels = passed_levels left old.levels })
  named_listed old left h = other_level dirty old.levels.inner _ old.levels.around refl refl h

  settled_listed : (p : Progress) (item : ItemAtWork) (c : Seen) → MarksListed dirty c → MarksListed dirty (copy_after_progress p item c)
  settled_listed UnderWay item c h = h
  settled_listed Decided item c h = named_listed c false h
  settled_listed Anew item c h = h

  rest_listed : (cause : Cause) (old new : Seen) (did : Did) → machine.SkipsRest cause old did new → MarksListed dirty old → MarksListed dirty new
  rest_listed cause old new did (inl s) h = subst (MarksListed dirty) (sym s.1) (other_level dirty old.levels.inner _ old.levels.around refl refl h)
  rest_listed cause old new did (inr room) h = subst (MarksListed dirty) (sym room.1) h

  end_same : (cause : Cause) (c moved : FolderCopying) (did : Did) → folder_steps.Skips cause c did moved → (moved.target ≡ c.target) × (is_dirty moved.names ≡ is_dirty c.names)
  end_same cause c moved did (inl s) = (ap (λ (x : FolderCopying). x.target) s.1, ap (λ (x : FolderCopying). is_dirty x.names) s.1)
  end_same cause c moved did (inr room) = (ap (λ (x : FolderCopying). x.target) room.1, ap (λ (x : FolderCopying). is_dirty x.names) room.1)

  next_listed : (names : List (List ℕ)) (cause : Cause) (old new : Seen) (did : Did) → machine.SkipsNamed names cause old did new → MarksListed dirty old → MarksListed dirty new
  next_listed [] cause old new did (moved, skips, stands) h =
      let same = end_same cause old.levels.inner.copy moved did skips in
      subst (MarksListed dirty) (sym stands) (other_level dirty old.levels.inner (level old.levels.inner.names moved) old.levels.around same.0 same.1 h)
  next_listed (name ∷ names) cause old new did (inl s) h = subst (MarksListed dirty) (sym s.1) (named_listed old true h)
  next_listed (name ∷ names) cause old new did (inr (inl s)) h = rest_listed cause old new did s.1 h
  next_listed (name ∷ names) cause old new did (inr (inr room)) h = subst (MarksListed dirty) (sym room.1) h

  skips_listed : (item : ItemAtWork) (cause : Cause) (old new : Seen) (did : Did) → machine.SkipsAt item cause old did new → MarksListed dirty old → MarksListed dirty new
  skips_listed Next cause old new did s h = next_listed old.levels.inner.names.names cause old new did s h
  skips_listed (File f) cause old new did (moved, skips, stands) h = subst (MarksListed dirty) (sym stands) (settled_listed (progress moved.stage) (File moved) (idle old) h)
  skips_listed (Link l) cause old new did (moved, skips, stands) h = subst (MarksListed dirty) (sym stands) (settled_listed (link_progress moved.stage) (Link moved) (idle old) h)
  skips_listed (Stays part) cause old new did s h = absurd s

  retries_listed : (item : ItemAtWork) (c : Seen) → MarksListed dirty c → MarksListed dirty (machine.retried_at item c)
  retries_listed Next c h = h
  retries_listed (File f) c h = settled_listed _ _ (idle c) h
  retries_listed (Link l) c h = settled_listed _ _ (idle c) h
  retries_listed (Stays part) c h = h

  passes_listed : (skips : Kinds) (worked : StepResult) (old new : Seen) (result : StepResult) → OrPassedOver skips worked old new result → MarksListed dirty old → MarksListed dirty new
  passes_listed skips worked old new result (inl s) h = subst (MarksListed dirty) (sym s.2) h
  passes_listed skips worked old new result (inr s) h = skips_listed old.item s.0 old new result.did s.3 h

pub list_law : ListLaw
list_law = record {
  begins = λ job top dirty marked. (let f : ⊥ = cc in absurd f);
  step = λ free replies old new did calls dirty dirty_after before after f0 f1 s apart h.
      let l = s.leaves in
      let k = leaves_listed dirty l.0 old.at s.mid l.1 apart h in
      passes_listed dirty_after replies.skips s.worked s.moved new.at (step_result did calls) s.passes (list_listed free replies s.mid s.moved s.worked dirty dirty_after before after f0 f1 s.works s.settled k.0 k.1);
  skip = λ cause old new did dirty s h. skips_listed dirty old.at.item cause old.at new.at did s.skips h;
  retry = λ c dirty h. retries_listed dirty c.at.item c.at h;
}
