-- Each last step but the end leaves fewer.
use Rattle.std.specs.Prelude.{◌⊎◌}
use Rattle.std.proofs.Common.{◌≡◌, ℕ, ◌+◌, ◌<◌, ◌≤◌, zero, suc, refl, sym, ◌∙◌, ap, inl, inr, Bool, true, false, arith, Option, Some, None}
use Rattle.std.proofs.lemmas.Bool.{true≢false}
use Rattle.mc_text.specs.Routes.{Route}
use Rattle.tree_trait.specs.Change.{CallLog}
use Rattle.job_reports.specs.declared.report.Ending.{Ending}
use Rattle.job_reports.specs.declared.report.LastStepResult.{LastStepResult}
use Rattle.job_reports.specs.Reports.{ends}
use Rattle.copy_file.specs.Copying as file
use Rattle.copy_file.specs.Copying.{part_at}
use Rattle.copy_folders.specs.FolderCopying.{FolderCopying}
use Rattle.copy_folders.specs.declared.stage.NamesState.TheVariants.{Synced}
use Rattle.copy_folders.specs.Levels.{LeftAll, Levels, dirtied_levels, with_copy}
use Rattle.copy_tree.specs.declared.item.ItemAtWork.{ItemAtWork}
use Rattle.copy_tree.specs.declared.item.ItemAtWork.TheVariants.{Next, File, Link, Stays}
use Rattle.copy_tree.specs.Ending.{EndsAll, FoldersWind, TriesFolder, WindsAt, stays_if}
use Rattle.copy_tree.specs.Standing.{Seen}
use Rattle.copy_tree.specs.TreeCopySteps.{idle}
use Rattle.copy_job.specs.Ranks.{LastRankLaw, dirt, last_of, last_rank, marks, marks_around}
use Rattle.copy_job.proofs.Fewer.{dirty_counts}

-- folders that are left leave no more marks
left_marks : (n : ℕ) (old mid : Levels) → LeftAll n old mid → marks mid ≤ marks old
left_marks zero old mid is = let e : marks mid ≡ marks old = ap marks is in omega (arith, e)
left_marks (suc n) old mid l =
    let before = left_marks n old l.0 l.1 in
    let left = l.3 in
    let around : marks_around l.0.around ≡ dirt mid.inner.copy.names + marks_around mid.around = ap marks_around left.was in
    omega (arith, before, around)

none_at_work : (part : Option Route) → last_of (stays_if part) ≡ 0
none_at_work (Some part) = refl
none_at_work None = refl

-- the next folder that is dirty is tried, or all ends
folders_fewer : (ending : Ending) (part : Option Route) (old new : Seen) (last : LastStepResult) (before after : Option CallLog) (f0 f1 : ℕ) → FoldersWind ending part old new last before after f0 f1 → ends last.did ≡ false
    → last_rank new < marks old.levels
folders_fewer ending part old new last before after f0 f1 w h = go w.winds
  where
    go : TriesFolder part w.mid old new last before after f0 f1 ⊎ EndsAll ending part w.mid old new last before after f0 f1 → last_rank new < marks old.levels
    go (inl t) =
        let tried = t.tried in
        let now : last_rank new ≡ last_of (stays_if part) + (dirt (let m = t.moved in m.names) + marks_around (let l = w.mid in l.around)) = ap last_rank t.stands in
        let none = none_at_work part in
        let clean : dirt (let m = t.moved in m.names) ≡ 0 = ap (λ (x : FolderCopying). dirt x.names) tried.stands in
        let dirty = dirty_counts (let l = w.mid in l.inner.copy.names) t.dirty in
        let left = left_marks w.count old.levels w.mid w.left in
        omega (arith, now, none, clean, dirty, left)
    go (inr e) = absurd (true≢false (sym (ap (λ (r : LastStepResult). ends r.did) e.says) ∙ h))

-- a file's part is removed, or its folder was tried
file_marks : (changed : Bool) (old : Levels) → marks (dirtied_levels changed (with_copy (record old.inner.copy { names = Synced }) old)) ≤ 1 + marks_around old.around
file_marks true old = omega arith
file_marks false old = omega arith

item_winds : (item : ItemAtWork) (ending : Ending) (old new : Seen) (last : LastStepResult) (before after : Option CallLog) (f0 f1 : ℕ) → WindsAt item ending old new last before after f0 f1 → ends last.did ≡ false
    → last_rank new < last_of item + marks old.levels
item_winds Next ending old new last before after f0 f1 w h = let less = folders_fewer ending None old new last before after f0 f1 w h in omega (arith, less)
item_winds (File f) ending old new last before after f0 f1 w h =
    let m = w.moved in
    let now : last_rank new ≡ last_of (stays_if (part_at m.stage)) + marks (dirtied_levels (file.is_dirty m.folder) (with_copy (record old.levels.inner.copy { names = Synced }) old.levels)) = ap last_rank w.stands in
    let none = none_at_work (part_at m.stage) in
    let few = file_marks (file.is_dirty m.folder) old.levels in
    omega (arith, now, none, few)
item_winds (Link l) ending old new last before after f0 f1 (inl c) h =
    let now : last_rank new ≡ last_of Next + marks (dirtied_levels true old.levels) = ap last_rank c.stands in
    omega (arith, now)
item_winds (Link l) ending old new last before after f0 f1 (inr s) h =
    let later = s.winds in
    let says : ends last.did ≡ ends (let n = later.next in n.did) = ap (λ (r : LastStepResult). ends r.did) later.says in
    let less = folders_fewer ending (Some l.part) (idle old) new later.next s.mid after s.since f1 later.winds (sym says ∙ h) in
    omega (arith, less)
item_winds (Stays part) ending old new last before after f0 f1 w h = let less = folders_fewer ending (Some part) (idle old) new last before after f0 f1 w h in omega (arith, less)

pub last_rank_law : LastRankLaw
last_rank_law ending old new last dirty dirty_after before after f0 f1 s h = item_winds old.at.item ending old.at new.at last before after f0 f1 s.winds h
