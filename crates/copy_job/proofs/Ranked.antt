-- Each step after which the copy goes on leaves fewer: one that passes over a trouble, too.
use Rattle.std.proofs.Common.{◌≡◌, ℕ, ◌+◌, ◌*◌, ◌^◌, ◌<◌, ◌≤◌, zero, suc, refl, sym, ◌∙◌, ap, subst, inl, inr, Bool, true, false, List, [], ◌∷◌, length, arith, Option, Some, None}
use Rattle.std.proofs.Math.Nat.{mul-le-mul_right, suc-mul}
use Rattle.std.proofs.lemmas.Bool.{false≢true, true≢false}
use Rattle.mc_text.specs.Routes.{Route}
use Rattle.tree_trait.specs.Change.{CallLog}
use Rattle.job_answers.specs.declared.replies.Replies.{Replies}
use Rattle.job_reports.specs.declared.job.Pair.{Pair}
use Rattle.job_reports.specs.declared.report.Cause.{Cause}
use Rattle.job_reports.specs.declared.report.Did.{Did}
use Rattle.job_reports.specs.declared.report.Did.TheVariants.{Troubled}
use Rattle.job_reports.specs.declared.report.StepResult.{StepResult}
use Rattle.job_reports.specs.declared.report.Trouble.{Trouble}
use Rattle.copy_file.specs.Copying as file
use Rattle.copy_file.specs.Copying.{Copying}
use Rattle.copy_file.specs.CopySteps as file_steps
use Rattle.copy_file.specs.declared.stage.Stage.{Stage as FileStage}
use Rattle.copy_file.specs.declared.stage.Stage.TheVariants as file_stage
use Rattle.copy_folders.specs.FolderCopying as folder
use Rattle.copy_folders.specs.FolderCopying.{FolderCopying, is_dirty}
use Rattle.copy_folders.specs.FolderSteps as folder_steps
use Rattle.copy_folders.specs.FolderSteps.{at_sync}
use Rattle.copy_folders.specs.declared.stage.NamesState.{NamesState}
use Rattle.copy_folders.specs.declared.stage.NamesState.TheVariants.{Dirty, Synced}
use Rattle.copy_folders.specs.declared.stage.Stage.{Stage}
use Rattle.copy_folders.specs.declared.stage.Stage.TheVariants.{Make, Fill, Close, Done}
use Rattle.copy_link.specs.LinkCopying as link
use Rattle.copy_link.specs.LinkCopying.{LinkCopying}
use Rattle.copy_link.specs.LinkSteps as link_steps
use Rattle.copy_link.specs.declared.stage.Stage.{Stage as LinkStage}
use Rattle.copy_link.specs.declared.stage.Stage.TheVariants as link_stage
use Rattle.tree_walk.specs.Places.{opened_folder}
use Rattle.tree_walk.specs.Ranks.{rank_around, weight}
use Rattle.tree_walk.proofs.Falling.{pass_falls}
use Rattle.copy_folders.specs.declared.level.Level.{Level}
use Rattle.copy_folders.specs.Levels.{Levels, emptied_levels, is_around_dirty, level, made_levels, passed_levels, walked_place}
use Rattle.copy_tree.specs.declared.item.ItemAtWork.{ItemAtWork}
use Rattle.copy_tree.specs.declared.item.ItemAtWork.TheVariants.{Next, File, Link, Stays}
use Rattle.copy_tree.specs.Falling.{HasName, IsSteady, things_left}
use Rattle.copy_tree.specs.Parts.{IsPartPlace}
use Rattle.copy_tree.specs.Progress.{link_progress, progress}
use Rattle.copy_tree.specs.Skipping as machine
use Rattle.copy_tree.specs.Standing.{Seen, after_report}
use Rattle.copy_tree.specs.TreeCopySteps.{FileWorks, FolderEnds, FolderMakes, GoesOn, IsWorkable, LeavesAll, LinkWorks, SyncsAround, TakesNext, WorksOn, at_end, idle, link_begun, copy_after_progress}
use Rattle.copy_tree.proofs.Fallings.{all_leave, falling_law}
use Rattle.copy_job.specs.Leaving.{may_leave}
use Rattle.copy_job.specs.Passing.{OrPassedOver}
use Rattle.copy_job.specs.Ranks.{RankLaw, anew, around_rank, file_rank, goes_on, item_rank, level_rank, levels_rank, link_rank, rank_by, stage_rank}
use Rattle.copy_job.specs.Standing.{SubtreeCopying, at_barrier, barrier_at, barrier_at_end, barrier_at_name}
use Rattle.copy_job.specs.SubtreeSteps.{ListSteps, SubtreeSteps, step_result}
use Rattle.copy_tree.proofs.PartsBegin.{file_taken}
use Rattle.copy_job.proofs.Barred.{IsOpenAt, Says, file_same, folder_same, left_workable, link_same, list_barred, opens_at, passed_trouble}
use Rattle.copy_job.proofs.Fewer.{Before, FitsFile, FitsLink, closing_rank, copy_rank, fewer_falls, file_settles, link_settles, same_things, some_name, works_falls}
use Rattle.copy_job.proofs.Targets.{works_at_once}

-- folders that are left leave no more
abbrev NoMore : ℕ → Seen → Seen → Type 0
NoMore most old new = (item_rank most new.item ≡ item_rank most old.item) × (levels_rank new.levels ≤ levels_rank old.levels)

left_rank : (most : ℕ) (n : ℕ) (old mid : Seen) → LeavesAll n old mid → NoMore most old mid
left_rank most zero old mid is = (ap (λ (c : Seen). item_rank most c.item) is, (let e : levels_rank mid.levels ≡ levels_rank old.levels = ap (λ (c : Seen). levels_rank c.levels) is in omega (arith, e)))
left_rank most (suc n) old mid l =
    let before = left_rank most n old l.0 l.1 in
    let left = l.3 in
    let r = left.returns in
    let at = r.left in
    let more = before.1 in
    let around : around_rank l.0.levels.around ≡ level_rank mid.levels.inner + around_rank mid.levels.around = ap around_rank at.was in
    (ap (λ (c : Seen). item_rank most c.item) r.stands ∙ before.0, omega (arith, more, around))

-- what is in a trouble has a step more at most
file_troubled : (most : ℕ) (unclaimed : Route → Type 0) (f : Copying) (old new : Seen) (did : Did) (before after : Option CallLog) (t : Trouble) → FileWorks unclaimed f old new did before after → Says did t
    → 1 ≤ length old.levels.inner.names.names → rank_by most new < Before most (file_rank most f.stage + 2) old
file_troubled most unclaimed f old new did before after t w says some =
    let m = w.moved in
    let same = file_same f m did t w.tells says in
    let stage : m.stage ≡ f.stage = ap (λ (x : Copying). x.stage) same.1 in
    subst (λ (s : Seen). rank_by most s < Before most (file_rank most f.stage + 2) old) (sym w.stands)
    (file_settles most (file_rank most f.stage + 2) did (file.is_dirty m.folder) old some m m.stage refl (subst (λ s. FitsFile most (file_rank most f.stage + 2) s) (sym stage) (fits f.stage)))
  where
    fits : (s : FileStage) → FitsFile most (file_rank most s + 2) s
    fits file_stage.Begin = omega arith
    fits (file_stage.Fill part facts done) = omega arith
    fits (file_stage.Clean part follows) = omega arith
    fits (file_stage.Left part) = omega arith
    fits file_stage.Decided = omega arith

link_troubled : (most : ℕ) (l : LinkCopying) (old new : Seen) (did : Did) (before after : Option CallLog) (t : Trouble) → LinkWorks l old new did before after → Says did t
    → 1 ≤ length old.levels.inner.names.names → rank_by most new < Before most (link_rank most l.stage + 2) old
link_troubled most l old new did before after t w says some =
    let m = w.moved in
    let same = link_same l m did t w.tells says in
    let stage : m.stage ≡ l.stage = ap (λ (x : LinkCopying). x.stage) same.1 in
    subst (λ (s : Seen). rank_by most s < Before most (link_rank most l.stage + 2) old) (sym w.stands)
    (link_settles most (link_rank most l.stage + 2) did (link.is_dirty m.folder) old some m m.stage refl (subst (λ s. FitsLink most (link_rank most l.stage + 2) s) (sym stage) (fits l.stage)))
  where
    fits : (s : LinkStage) → FitsLink most (link_rank most s + 2) s
    fits link_stage.Make = omega arith
    fits link_stage.Place = omega arith
    fits (link_stage.Clean follows) = omega arith
    fits link_stage.Left = omega arith
    fits link_stage.Decided = omega arith
    fits link_stage.Again = omega arith

-- so many steps more at most
abbrev OneMore : ℕ → Seen → Seen → Type 0
OneMore most old new = rank_by most new ≤ rank_by most old + 1

some_more : (a b x l n : ℕ) → n < a * b + ((x + 2) + l) → n ≤ (a * b + (x + l)) + 1
some_more a b x l n h = omega (arith, h)

no_more : (n m : ℕ) → n ≡ m → n ≤ m + 1
no_more n m e = omega (arith, e)

makes_troubled : (most : ℕ) (pair : Pair) (names : List (List ℕ)) (mode : ℕ) (old new : Seen) (did : Did) (before after : Option CallLog) (t : Trouble) → FolderMakes pair names mode old new did before after → Says did t
    → OneMore most old new
makes_troubled most pair names mode old new did before after t w says =
    let m = w.moved in
    let same = folder_same (folder.copying pair.source pair.target (Make mode) Synced) m w.report did t w.says w.tells says in
    no_more (rank_by most new) (rank_by most old) (ap (λ (c : Seen). rank_by most c) w.stands
    ∙ ap (λ (s : Stage). rank_by most (record old { stage = after_report did old.stage; levels = made_levels s (opened_folder pair.source names) m old.levels })) (ap (λ (x : FolderCopying). x.stage) same.1))

ends_troubled : (most : ℕ) (old new : Seen) (did : Did) (before after : Option CallLog) (t : Trouble) → FolderEnds (at_end old) new did before after → Says did t → OneMore most old new
ends_troubled most old new did before after t e says =
    let c : FolderCopying = (let s = at_end old in s.levels.inner.copy) in
    let same = folder_same c e.moved e.report did t e.says e.tells says in
    let closed = closing_rank old.levels.inner.copy.stage in
    let now : rank_by most new ≡ things_left old * anew most + (item_rank most old.item + (copy_rank c + around_rank old.levels.around)) =
    ap (λ (s : Seen). rank_by most s) e.stands ∙ ap (λ (x : FolderCopying). things_left old * anew most + (item_rank most old.item + (copy_rank x + around_rank old.levels.around))) same.1 in
    omega (arith, closed, now)

takes_troubled : (most : ℕ) (unclaimed : Route → Type 0) (replies : Replies) (old new : Seen) (did : Did) (before after : Option CallLog) (t : Trouble) → TakesNext unclaimed replies old new did before after → Says did t → old.item ≡ Next
    → OneMore most old new
takes_troubled most unclaimed replies old new did before after t (inl s) says free = no_more _ _ (ap (λ (c : Seen). rank_by most c) s.stands)
takes_troubled most unclaimed replies old new did before after t (inr (inl w)) says free =
    let free_rank : item_rank most old.item ≡ anew most = ap (item_rank most) free in
    let l = file_troubled most unclaimed (file.begun_copy old.job w.pair.source w.pair.target) old new did None None t (file_taken unclaimed replies old new did before after w) says (some_name old.levels.inner.names.names old w.pair w.next) in
    omega (arith, free_rank, l)
takes_troubled most unclaimed replies old new did before after t (inr (inr (inl w))) says free =
    let free_rank : item_rank most old.item ≡ anew most = ap (item_rank most) free in
    let l = link_troubled most (link_begun w.pair w.part) old new did before after t w.works says (some_name old.levels.inner.names.names old w.pair w.next) in
    omega (arith, free_rank, l)
takes_troubled most unclaimed replies old new did before after t (inr (inr (inr (inl w)))) says free = makes_troubled most w.pair w.names w.mode old new did before after t w.works says
takes_troubled most unclaimed replies old new did before after t (inr (inr (inr (inr (inl m))))) says free = absurd (let e = sym m.says ∙ says in let g : ⊥ = cc in g)
takes_troubled most unclaimed replies old new did before after t (inr (inr (inr (inr (inr (inl m)))))) says free = absurd (let e = sym m.says ∙ says in let g : ⊥ = cc in g)
takes_troubled most unclaimed replies old new did before after t (inr (inr (inr (inr (inr (inr (inl m))))))) says free = absurd (let e = sym m.says ∙ says in let g : ⊥ = cc in g)
takes_troubled most unclaimed replies old new did before after t (inr (inr (inr (inr (inr (inr (inr (next, inl (debt, e))))))))) says free = ends_troubled most old new did before after t e says
takes_troubled most unclaimed replies old new did before after t (inr (inr (inr (inr (inr (inr (inr (next, inr (debt, f, same))))))))) says free = absurd (let e = sym f.says ∙ says in let g : ⊥ = cc in g)

dirty_is : (names : NamesState) → is_dirty names ≡ true → names ≡ Dirty
dirty_is Dirty h = refl
dirty_is Synced h = absurd (false≢true h)

syncs_troubled : (most : ℕ) (old new : Seen) (did : Did) (before after : Option CallLog) (t : Trouble) → SyncsAround old new did before after → Says did t → OneMore most old new
syncs_troubled most old new did before after t s says =
    let same = folder_same (at_sync s.outer.copy) (record (at_sync s.outer.copy) { names = s.names }) s.report did t s.says s.tells says in
    let marked : is_dirty s.outer.copy.names ≡ true = ap is_around_dirty (sym s.was) ∙ s.dirty in
    let names : s.names ≡ s.outer.copy.names = ap (λ (c : FolderCopying). c.names) same.1 ∙ sym (dirty_is s.outer.copy.names marked) in
    no_more (rank_by most new) (rank_by most old) (ap (λ (c : Seen). rank_by most c) s.stands
    ∙ (ap (λ (n : NamesState). rank_by most (record old { stage = after_report did old.stage; levels = record old.levels { around = level s.outer.names (record s.outer.copy { names = n }) ∷ s.around } })) names
    ∙ ap (λ (os : List Level). rank_by most (record old { stage = after_report did old.stage; levels = record old.levels { around = os } })) (sym s.was)))

goes_troubled : (most : ℕ) (unclaimed : Route → Type 0) (replies : Replies) (old new : Seen) (did : Did) (before after : Option CallLog) (t : Trouble) → GoesOn unclaimed replies old new did before after → Says did t → old.item ≡ Next
    → OneMore most old new
goes_troubled most unclaimed replies old new did before after t (inl s) says free = syncs_troubled most old new did before after t s says
goes_troubled most unclaimed replies old new did before after t (inr s) says free = takes_troubled most unclaimed replies old new did before after t s.1 says free

works_troubled : (most : ℕ) (unclaimed : Route → Type 0) (replies : Replies) (item : ItemAtWork) (old new : Seen) (did : Did) (before after : Option CallLog) (t : Trouble) → WorksOn item unclaimed replies old new did before after → Says did t
    → old.item ≡ item → HasName item old.levels → OneMore most old new
works_troubled most unclaimed replies Next old new did before after t w says is named = goes_troubled most unclaimed replies old new did before after t w says is
works_troubled most unclaimed replies (File f) old new did before after t w says is named =
    let same : item_rank most old.item ≡ file_rank most f.stage = ap (item_rank most) is in
    let l = file_troubled most unclaimed f old new did before after t w says named in
    omega (arith, same, l)
works_troubled most unclaimed replies (Link k) old new did before after t w says is named =
    let same : item_rank most old.item ≡ link_rank most k.stage = ap (item_rank most) is in
    let l = link_troubled most k old new did before after t w says named in
    omega (arith, same, l)
works_troubled most unclaimed replies (Stays part) old new did before after t w says is named = absurd w

-- a skip leaves two fewer at least
abbrev pub TwoFewer : ℕ → Seen → Seen → Type 0
TwoFewer most old new = rank_by most new + 2 ≤ rank_by most old

some_weight : (left : ℕ) → 1 ≤ weight left
some_weight zero = omega arith
some_weight (suc left) = omega arith

emptied_falls : (names : List (List ℕ)) (name : List ℕ) (rest : List (List ℕ)) (l : Levels) → l.inner.names.names ≡ names → names ≡ name ∷ rest
    → (1 + 0 * weight l.left) + rank_around (suc l.left) (let w = walked_place l in w.around) < (1 + length names * weight l.left) + rank_around (suc l.left) (let w = walked_place l in w.around)
emptied_falls names name rest l at is =
    let n : length names ≡ suc (length rest) = ap (λ (xs : List (List ℕ)). length xs) is in
    let s = suc-mul (length rest) (weight l.left) in
    let e : length names * weight l.left ≡ suc (length rest) * weight l.left = ap (λ k. k * weight l.left) n in
    let some = some_weight l.left in
    omega (arith, s, e, some)

-- a thing fewer
thing_fewer : (most : ℕ) (old new : Seen) → old.item ≡ Next → things_left new < things_left old → item_rank most new.item ≡ anew most → levels_rank new.levels ≡ levels_rank old.levels → TwoFewer most old new
thing_fewer most old new free less item same =
    let was : item_rank most old.item ≡ anew most = ap (item_rank most) free in
    let l = fewer_falls (anew most) (things_left old) (things_left new) (item_rank most old.item + levels_rank old.levels) (item_rank most new.item + levels_rank new.levels + 1) less (omega (arith, item, same, was)) in
    omega (arith, l)

rest_falls : (most : ℕ) (cause : Cause) (old new : Seen) (did : Did) (name : List ℕ) (rest : List (List ℕ)) → machine.SkipsRest cause old did new → old.item ≡ Next → old.levels.inner.names.names ≡ name ∷ rest → goes_on did ≡ true
    → TwoFewer most old new
rest_falls most cause old new did name rest (inl s) free is h =
    let item : item_rank most new.item ≡ anew most = ap (item_rank most) (ap (λ (c : Seen). c.item) s.1 ∙ free) in
    let fewer = emptied_falls old.levels.inner.names.names name rest old.levels refl is in
    let now : things_left new ≡ things_left (record old { levels = emptied_levels old.levels }) = ap things_left s.1 in
    thing_fewer most old new free (subst (λ n. n < things_left old) (sym now) fewer) item (ap (λ (c : Seen). levels_rank c.levels) s.1)
rest_falls most cause old new did name rest (inr n) free is h = absurd (false≢true (sym (ap goes_on n.0) ∙ h))

name_falls : (most : ℕ) (cause : Cause) (old new : Seen) (did : Did) (name : List ℕ) (rest : List (List ℕ)) → machine.SkipsName name cause old did new → old.item ≡ Next → old.levels.inner.names.names ≡ name ∷ rest → goes_on did ≡ true
    → TwoFewer most old new
name_falls most cause old new did name rest (inl s) free is h =
    let item : item_rank most new.item ≡ anew most = ap (item_rank most) (ap (λ (c : Seen). c.item) s.1 ∙ free) in
    let n : length old.levels.inner.names.names ≡ suc (length rest) = ap (λ (xs : List (List ℕ)). length xs) is in
    let some : 1 ≤ length old.levels.inner.names.names = omega (arith, n) in
    let fewer = pass_falls true (walked_place old.levels) some in
    let now : things_left new ≡ things_left (record old { levels = passed_levels true old.levels }) = ap things_left s.1 in
    thing_fewer most old new free (subst (λ k. k < things_left old) (sym now) fewer) item (ap (λ (c : Seen). levels_rank c.levels) s.1)
name_falls most cause old new did name rest (inr (inl s)) free is h = rest_falls most cause old new did name rest s.1 free is h
name_falls most cause old new did name rest (inr (inr n)) free is h = absurd (false≢true (sym (ap goes_on n.0) ∙ h))

left_rank_at : (stage : Stage) → barrier_at_end stage ≡ false → stage_rank (folder.skipped_stage stage) + 1 ≤ stage_rank stage
left_rank_at (Close (Some mode)) open_at = omega arith
left_rank_at (Close None) open_at = absurd (true≢false open_at)
left_rank_at (Fill owed) open_at = absurd (true≢false open_at)
left_rank_at (Make mode) open_at = absurd (true≢false open_at)
left_rank_at Done open_at = absurd (true≢false open_at)

end_skipped : (most : ℕ) (cause : Cause) (old new : Seen) (did : Did) → machine.SkipsEnd cause old did new → old.levels.inner.names.names ≡ [] → IsOpenAt old → goes_on did ≡ true → TwoFewer most old new
end_skipped most cause old new did s none open_at h = go s.1
  where
    go : folder_steps.Skips cause old.levels.inner.copy did s.0 → TwoFewer most old new
    go (inl k) =
        let less = left_rank_at old.levels.inner.copy.stage (sym (ap (λ names. barrier_at_name names old.levels.inner.copy.stage) none) ∙ open_at.1) in
        let now : rank_by most new ≡ things_left old * anew most + (item_rank most old.item + (copy_rank (record old.levels.inner.copy { stage = folder.skipped_stage old.levels.inner.copy.stage }) + around_rank old.levels.around)) =
        ap (λ (c : Seen). rank_by most c) s.2 ∙ ap (λ (x : FolderCopying). things_left old * anew most + (item_rank most old.item + (copy_rank x + around_rank old.levels.around))) k.1 in
        omega (arith, less, now)
    go (inr k) = absurd (false≢true (sym (ap goes_on k.0) ∙ h))

named_falls : (most : ℕ) (names : List (List ℕ)) (cause : Cause) (old new : Seen) (did : Did) → machine.SkipsNamed names cause old did new → old.levels.inner.names.names ≡ names → old.item ≡ Next → IsOpenAt old → goes_on did ≡ true
    → TwoFewer most old new
named_falls most [] cause old new did s is free open_at h = end_skipped most cause old new did s is open_at h
named_falls most (name ∷ names) cause old new did s is free open_at h = name_falls most cause old new did name names s free is h

-- a file or a link that is left
passes_two : (most : ℕ) (old : Seen) (item : ItemAtWork) → 1 ≤ length old.levels.inner.names.names → old.item ≡ item → 4 ≤ item_rank most item → TwoFewer most old (record (idle old) { levels = passed_levels false old.levels })
passes_two most old item some is four =
    let same : item_rank most old.item ≡ item_rank most item = ap (item_rank most) is in
    let fewer = fewer_falls (anew most) (things_left old) _ (item_rank most old.item + levels_rank old.levels) (anew most + levels_rank old.levels + 2) (pass_falls false (walked_place old.levels) some) (omega (arith, same, four)) in
    omega (arith, fewer)

stays_two : (most : ℕ) (old : Seen) (item new : ItemAtWork) → old.item ≡ item → item_rank most new ≡ 4 → 8 ≤ item_rank most item → TwoFewer most old (record (idle old) { item = new })
stays_two most old item new is now eight =
    let same : item_rank most old.item ≡ item_rank most item = ap (item_rank most) is in
    omega (arith, same, now, eight)

file_skipped : (most : ℕ) (f m : Copying) (old : Seen) (stage : FileStage) → f.stage ≡ stage → m.stage ≡ file.skipped_stage stage → file.at_barrier stage ≡ false → old.item ≡ File f → 1 ≤ length old.levels.inner.names.names
    → TwoFewer most old (copy_after_progress (progress (file.skipped_stage stage)) (File m) (idle old))
file_skipped most f m old file_stage.Begin at now open_at is some =
    let x : file_rank most f.stage ≡ anew most = ap (file_rank most) at in
    passes_two most old (File f) some is (omega (arith, x))
file_skipped most f m old (file_stage.Fill part facts done) at now open_at is some =
    let x : file_rank most f.stage ≡ file_rank most (file_stage.Fill part facts done) = ap (file_rank most) at in
    stays_two most old (File f) (File m) is (ap (file_rank most) now) (omega (arith, x))
file_skipped most f m old (file_stage.Clean part follows) at now open_at is some = absurd (true≢false open_at)
file_skipped most f m old (file_stage.Left part) at now open_at is some = absurd (true≢false open_at)
file_skipped most f m old file_stage.Decided at now open_at is some = absurd (true≢false open_at)

link_skipped : (most : ℕ) (l m : LinkCopying) (old : Seen) (stage : LinkStage) → l.stage ≡ stage → m.stage ≡ link.skipped_stage stage → link.at_barrier stage ≡ false → old.item ≡ Link l → 1 ≤ length old.levels.inner.names.names
    → TwoFewer most old (copy_after_progress (link_progress (link.skipped_stage stage)) (Link m) (idle old))
link_skipped most l m old link_stage.Make at now open_at is some =
    let x : link_rank most l.stage ≡ anew most = ap (link_rank most) at in
    passes_two most old (Link l) some is (omega (arith, x))
link_skipped most l m old link_stage.Place at now open_at is some =
    let x : link_rank most l.stage ≡ 8 = ap (link_rank most) at in
    stays_two most old (Link l) (Link m) is (ap (link_rank most) now) (omega (arith, x))
link_skipped most l m old link_stage.Again at now open_at is some =
    let x : link_rank most l.stage ≡ anew most = ap (link_rank most) at in
    passes_two most old (Link l) some is (omega (arith, x))
link_skipped most l m old (link_stage.Clean follows) at now open_at is some = absurd (true≢false open_at)
link_skipped most l m old link_stage.Left at now open_at is some = absurd (true≢false open_at)
link_skipped most l m old link_stage.Decided at now open_at is some = absurd (true≢false open_at)

file_two : (most : ℕ) (cause : Cause) (f : Copying) (old new : Seen) (did : Did) → machine.SkipsFile cause f (idle old) did new → old.item ≡ File f → file.at_barrier f.stage ≡ false → 1 ≤ length old.levels.inner.names.names → goes_on did ≡ true
    → TwoFewer most old new
file_two most cause f old new did s is open_at some h = go s.1
  where
    go : file_steps.Skips cause f did s.0 → TwoFewer most old new
    go (inl k) =
        let m : Copying = record f { stage = file.skipped_stage f.stage } in
        subst (λ (c : Seen). TwoFewer most old c) (sym (s.2 ∙ ap (λ (x : Copying). copy_after_progress (progress x.stage) (File x) (idle old)) k.1)) (file_skipped most f m old f.stage refl refl open_at is some)
    go (inr k) = absurd (false≢true (sym (ap goes_on k.0) ∙ h))

link_two : (most : ℕ) (cause : Cause) (l : LinkCopying) (old new : Seen) (did : Did) → machine.SkipsLink cause l (idle old) did new → old.item ≡ Link l → link.at_barrier l.stage ≡ false → 1 ≤ length old.levels.inner.names.names → goes_on did ≡ true
    → TwoFewer most old new
link_two most cause l old new did s is open_at some h = go s.1
  where
    go : link_steps.Skips cause l did s.0 → TwoFewer most old new
    go (inl k) =
        let m : LinkCopying = record l { stage = link.skipped_stage l.stage } in
        subst (λ (c : Seen). TwoFewer most old c) (sym (s.2 ∙ ap (λ (x : LinkCopying). copy_after_progress (link_progress x.stage) (Link x) (idle old)) k.1)) (link_skipped most l m old l.stage refl refl open_at is some)
    go (inr k) = absurd (false≢true (sym (ap goes_on k.0) ∙ h))

pub skip_falls : (most : ℕ) (item : ItemAtWork) (cause : Cause) (old new : Seen) (did : Did) → machine.SkipsAt item cause old did new → old.item ≡ item → at_barrier old ≡ false → HasName item old.levels → goes_on did ≡ true → TwoFewer most old new
skip_falls most Next cause old new did s is open_at named h = named_falls most old.levels.inner.names.names cause old new did s refl is (opens_at old is open_at) h
skip_falls most (File f) cause old new did s is open_at named h = file_two most cause f old new did s is (sym (ap (λ (i : ItemAtWork). barrier_at i old.levels) is) ∙ open_at) named h
skip_falls most (Link l) cause old new did s is open_at named h = link_two most cause l old new did s is (sym (ap (λ (i : ItemAtWork). barrier_at i old.levels) is) ∙ open_at) named h
skip_falls most (Stays part) cause old new did s is open_at named h = absurd s

-- a step with the list, of a copy that is steady
module _ (most : ℕ) (enough : 2 ^ 64 ≤ most) (free : Route → Bool) (replies : Replies) (old new : Seen) (worked : StepResult) (dirty dirty_after : List Route) (before after : Option CallLog) (f0 f1 : ℕ)
    (w : ListSteps free replies old new worked dirty dirty_after before after f0 f1) (settled_at : may_leave old ≡ false) (steady : IsSteady old) where
  list_falls : goes_on worked.did ≡ true → rank_by most new < rank_by most old
  list_falls h = go w
    where
      go : ListSteps free replies old new worked dirty dirty_after before after f0 f1 → rank_by most new < rank_by most old
      go (inl s) = absurd (false≢true (sym (ap (λ (r : StepResult). goes_on r.did) s.says) ∙ h))
      go (inr s) =
          let l = falling_law free replies old new worked.did worked.calls before after f0 f1 s.steps steady in
          works_falls most enough (IsPartPlace free old) replies old.item old new worked.did before after (works_at_once free replies old new worked.did worked.calls before after f0 f1 s.steps settled_at) refl steady.named h (l.1, l.2)

  pub list_troubled : (t : Trouble) → worked.did ≡ Troubled t → OneMore most old new × IsSteady new
  list_troubled t says = go w
    where
      go : ListSteps free replies old new worked dirty dirty_after before after f0 f1 → OneMore most old new × IsSteady new
      go (inl s) = (no_more _ _ (ap (λ (c : Seen). rank_by most c) s.stays), subst IsSteady (sym s.stays) steady)
      go (inr s) =
          let l = falling_law free replies old new worked.did worked.calls before after f0 f1 s.steps steady in (
            works_troubled most (IsPartPlace free old) replies old.item old new worked.did before after t (works_at_once free replies old new worked.did worked.calls before after f0 f1 s.steps settled_at) says refl steady.named,
            l.0,
          )

-- folders that are left leave no more steps
pub left_lower : (most : ℕ) (n : ℕ) (old mid : Seen) → LeavesAll n old mid → IsSteady old → (rank_by most mid ≤ rank_by most old) × IsSteady mid
left_lower most n old mid l steady =
    let m = all_leave n old mid l steady in
    let there = left_rank most n old mid l in
    let things = m.1 in
    let more = mul-le-mul_right (anew most) things in
    let item = there.0 in
    let levels = there.1 in
    (omega (arith, more, item, levels), m.0)

ranked : (most : ℕ) → 2 ^ 64 ≤ most → (free : Route → Bool) (replies : Replies) (old new : SubtreeCopying) (did : Did) (calls : ℕ) (dirty dirty_after : List Route) (before after : Option CallLog) (f0 f1 : ℕ)
    → SubtreeSteps free replies old new did calls dirty dirty_after before after f0 f1 → IsSteady old.at → IsWorkable old.at.item → goes_on did ≡ true → rank_by most new.at < rank_by most old.at
ranked most enough free replies old new did calls dirty dirty_after before after f0 f1 s steady can h =
    let l = s.leaves in
    let there = left_lower most l.0 old.at s.mid l.1 steady in
    go there.1 (left_workable l.0 old.at s.mid l.1 can) there.0 s.passes
  where
    go : IsSteady s.mid → IsWorkable s.mid.item → rank_by most s.mid ≤ rank_by most old.at → OrPassedOver replies.skips s.worked s.moved new.at (step_result did calls) → rank_by most new.at < rank_by most old.at
    go steady_there can_there no_higher (inl p) =
        let same : s.worked.did ≡ did = sym (ap (λ (r : StepResult). r.did) p.1) in
        let less = list_falls most enough free replies s.mid s.moved s.worked dirty dirty_after before after f0 f1 s.works s.settled steady_there (ap goes_on same ∙ h) in
        let now : rank_by most new.at ≡ rank_by most s.moved = ap (λ (c : Seen). rank_by most c) p.2 in
        omega (arith, less, now, no_higher)
    go steady_there can_there no_higher (inr p) =
        let t = passed_trouble replies.skips s.worked.did p.0 p.1 in
        let more = list_troubled most enough free replies s.mid s.moved s.worked dirty dirty_after before after f0 f1 s.works s.settled steady_there t.0 t.1 in
        let open_at = sym (list_barred free replies s.mid s.moved s.worked dirty dirty_after before after f0 f1 t.0 s.works t.1 s.settled steady_there can_there) ∙ t.2 in
        let moved_steady = more.1 in
        let less = skip_falls most s.moved.item p.0 s.moved new.at did p.3 refl open_at moved_steady.named h in
        let one = more.0 in
        omega (arith, less, one, no_higher)

pub rank_law : RankLaw
rank_law free replies old new did calls dirty dirty_after before after f0 f1 s steady can h =
    ranked (2 ^ 64) (same_things (2 ^ 64)) free replies old new did calls dirty dirty_after before after f0 f1 s steady can h
