-- Each step leaves fewer steps.
use Rattle.std.proofs.Common.{◌≡◌, ℕ, ◌+◌, ◌*◌, ◌^◌, ◌<◌, ◌≤◌, suc, refl, sym, ◌∙◌, ap, subst, inl, inr, Bool, true, false, List, [], ◌∷◌, length, arith, Option, Some, None}
use Rattle.std.proofs.Math.Nat.{mul-le-mul_right, suc-mul}
use Rattle.std.proofs.lemmas.Bool.{false≢true}
use Rattle.mc_text.specs.Routes.{Route}
use Rattle.tree_trait.specs.Change.{CallLog}
use Rattle.job_reports.specs.declared.job.Pair.{Pair}
use Rattle.job_answers.specs.declared.replies.Replies.{Replies}
use Rattle.job_reports.specs.declared.report.Did.{Did}
use Rattle.job_reports.specs.declared.report.Did.TheVariants.{Began, Chunk, Placed, Removed, Made, Set, Kept, Skipped, Cleaned, Barrier, Asked, Merges, Moved, Troubled, Ended}
use Rattle.copy_file.specs.Copying as file
use Rattle.copy_file.specs.Copying.{Copying, IsSound}
use Rattle.copy_file.specs.declared.stage.Next.{Next as FileNext}
use Rattle.copy_file.specs.declared.stage.Next.TheVariants as file_next
use Rattle.copy_file.specs.declared.stage.Stage.{Stage as FileStage}
use Rattle.copy_file.specs.declared.stage.Stage.TheVariants as file_stage
use Rattle.copy_folders.specs.FolderCopying as folder
use Rattle.copy_folders.specs.FolderCopying.{FolderCopying, is_dirty}
use Rattle.copy_folders.specs.FolderSteps.{at_sync}
use Rattle.copy_folders.specs.declared.stage.FolderDid.{FolderDid}
use Rattle.copy_folders.specs.declared.stage.FolderDid.TheVariants as folder_did
use Rattle.copy_folders.specs.declared.stage.NamesState.{NamesState}
use Rattle.copy_folders.specs.declared.stage.NamesState.TheVariants.{Synced, Dirty}
use Rattle.copy_folders.specs.declared.stage.Stage.{Stage}
use Rattle.copy_folders.specs.declared.stage.Stage.TheVariants.{Make, Fill, Close, Done}
use Rattle.copy_link.specs.LinkCopying as link
use Rattle.copy_link.specs.LinkCopying.{LinkCopying}
use Rattle.copy_link.specs.declared.stage.Next.{Next as LinkNext}
use Rattle.copy_link.specs.declared.stage.Next.TheVariants as link_next
use Rattle.copy_link.specs.declared.stage.Stage.{Stage as LinkStage}
use Rattle.copy_link.specs.declared.stage.Stage.TheVariants as link_stage
use Rattle.tree_walk.specs.Places.{OpenFolder, opened_folder}
use Rattle.tree_walk.proofs.Falling.{pass_falls}
use Rattle.copy_folders.specs.Levels.{Levels, dirtied_levels, is_around_dirty, made_levels, walked_place}
use Rattle.copy_tree.specs.declared.due.Due.TheVariants.{Thing}
use Rattle.copy_tree.specs.declared.item.ItemAtWork.{ItemAtWork}
use Rattle.copy_tree.specs.declared.item.ItemAtWork.TheVariants.{Next, File, Link, Stays}
use Rattle.copy_tree.specs.Falling.{HasName, decides, things_left}
use Rattle.copy_tree.specs.Progress.{link_progress, progress}
use Rattle.copy_tree.specs.Reports.{IsToldAs}
use Rattle.copy_tree.specs.Standing.{Seen, due_at}
use Rattle.copy_tree.specs.TreeCopySteps.{FileWorks, FolderEnds, FolderMakes, GoesOn, LinkWorks, SyncsAround, TakesNext, WorksOn, at_end, idle, link_begun, noted_copy, copy_after_progress}
use Rattle.copy_job.specs.Ranks.{anew, around_rank, dirt, file_rank, goes_on, item_rank, level_rank, levels_rank, link_rank, rank_by, stage_rank}
use Rattle.copy_tree.proofs.PartsBegin.{file_taken}

-- one thing fewer is so many steps fewer
one_fewer : (b t u : ℕ) → u < t → u * b + b ≤ t * b
one_fewer b t u less = let e : suc u ≤ t = omega (arith, less) in let more = mul-le-mul_right b e in let s = suc-mul u b in omega (arith, more, s)

-- with no more things, and with fewer
pub same_falls : (b t u x y : ℕ) → u ≤ t → y < x → u * b + y < t * b + x
same_falls b t u x y most less = let more = mul-le-mul_right b most in omega (arith, more, less)

pub fewer_falls : (b t u x y : ℕ) → u < t → y < b + x → u * b + y < t * b + x
fewer_falls b t u x y most less = let more = one_fewer b t u most in omega (arith, more, less)

-- a mark counts one
pub dirt_few : (names : NamesState) → dirt names ≤ 1
dirt_few Dirty = omega arith
dirt_few Synced = omega arith

marked : (changed : Bool) (l : Levels) → levels_rank (dirtied_levels changed l) ≤ levels_rank l + 1
marked true l = omega arith
marked false l = omega arith

-- how many steps are left at most once a file's copy stands so, of which there were so many
abbrev pub FitsFile : ℕ → ℕ → FileStage → Type 0
FitsFile most x (file_stage.Fill part facts done) = file_rank most (file_stage.Fill part facts done) + 1 < x
FitsFile most x (file_stage.Clean part follows) = file_rank most (file_stage.Clean part follows) + 1 < x
FitsFile most x (file_stage.Left part) = file_rank most (file_stage.Left part) + 1 < x
FitsFile most x file_stage.Decided = 1 < x
FitsFile most x file_stage.Begin = anew most + 1 < x

abbrev pub FitsLink : ℕ → ℕ → LinkStage → Type 0
FitsLink most x link_stage.Place = link_rank most link_stage.Place + 1 < x
FitsLink most x (link_stage.Clean follows) = link_rank most (link_stage.Clean follows) + 1 < x
FitsLink most x link_stage.Left = link_rank most link_stage.Left + 1 < x
FitsLink most x link_stage.Decided = 1 < x
FitsLink most x link_stage.Make = anew most + 1 < x
FitsLink most x link_stage.Again = anew most + 1 < x

pub same_things : (n : ℕ) → n ≤ n
same_things n = omega arith

-- fewer are left where a file's copy is noted and put back, or is passed
module _ (most x : ℕ) (did : Did) (changed : Bool) (old : Seen) (some : 1 ≤ length old.levels.inner.names.names) where
  -- the copy once the report is noted
  abbrev told : Seen
  told = noted_copy did changed (idle old)

  passes : 1 < x → rank_by most (copy_after_progress (progress file_stage.Decided) Next told) < things_left old * anew most + (x + levels_rank old.levels)
  passes less =
      let l = marked changed old.levels in
      fewer_falls (anew most) (things_left old) _ (x + levels_rank old.levels) (anew most + levels_rank (dirtied_levels changed old.levels)) (pass_falls false (walked_place (dirtied_levels changed old.levels)) some) (omega (arith, l, less))

  begins_anew : anew most + 1 < x → rank_by most told < things_left old * anew most + (x + levels_rank old.levels)
  begins_anew less =
      let l = marked changed old.levels in
      same_falls (anew most) (things_left old) (things_left old) (x + levels_rank old.levels) (anew most + levels_rank (dirtied_levels changed old.levels)) (same_things (things_left old)) (omega (arith, l, less))

  goes : (item : ItemAtWork) (y : ℕ) → item_rank most item ≡ y → y + 1 < x → rank_by most (record told { item = item }) < things_left old * anew most + (x + levels_rank old.levels)
  goes item y is less =
      let l = marked changed old.levels in
      same_falls (anew most) (things_left old) (things_left old) (x + levels_rank old.levels) (item_rank most item + levels_rank (dirtied_levels changed old.levels)) (same_things (things_left old)) (omega (arith, l, less, is))

  pub file_settles : (m : Copying) (stage : FileStage) → m.stage ≡ stage → FitsFile most x stage → rank_by most (copy_after_progress (progress stage) (File m) told) < things_left old * anew most + (x + levels_rank old.levels)
  file_settles m (file_stage.Fill part facts done) is fits = goes (File m) (file_rank most (file_stage.Fill part facts done)) (ap (file_rank most) is) fits
  file_settles m (file_stage.Clean part follows) is fits = goes (File m) (file_rank most (file_stage.Clean part follows)) (ap (file_rank most) is) fits
  file_settles m (file_stage.Left part) is fits = goes (File m) (file_rank most (file_stage.Left part)) (ap (file_rank most) is) fits
  file_settles m file_stage.Decided is fits = passes fits
  file_settles m file_stage.Begin is fits = begins_anew fits

  pub link_settles : (m : LinkCopying) (stage : LinkStage) → m.stage ≡ stage → FitsLink most x stage → rank_by most (copy_after_progress (link_progress stage) (Link m) told) < things_left old * anew most + (x + levels_rank old.levels)
  link_settles m link_stage.Place is fits = goes (Link m) (link_rank most link_stage.Place) (ap (link_rank most) is) fits
  link_settles m (link_stage.Clean follows) is fits = goes (Link m) (link_rank most (link_stage.Clean follows)) (ap (link_rank most) is) fits
  link_settles m link_stage.Left is fits = goes (Link m) (link_rank most link_stage.Left) (ap (link_rank most) is) fits
  link_settles m link_stage.Decided is fits = passes fits
  link_settles m link_stage.Make is fits = begins_anew fits
  link_settles m link_stage.Again is fits = begins_anew fits

-- what a report says of the steps that are left of a file
fits_from : (most : ℕ) (from to : FileStage) (f m : Copying) → f.stage ≡ from → m.stage ≡ to → FitsFile most (file_rank most from) to → FitsFile most (file_rank most f.stage) m.stage
fits_from most from to f m e1 e2 h = subst (λ s. FitsFile most (file_rank most s) m.stage) (sym e1) (subst (λ s. FitsFile most (file_rank most from) s) (sym e2) h)

cleaned : (most : ℕ) (f m : Copying) (part : Route) (follows : FileNext) → f.stage ≡ file_stage.Clean part follows → m.stage ≡ file.after_clean follows → FitsFile most (file_rank most f.stage) m.stage
cleaned most f m part file_next.Begin e1 e2 = fits_from most (file_stage.Clean part file_next.Begin) file_stage.Begin f m e1 e2 (omega arith)
cleaned most f m part file_next.Decided e1 e2 = fits_from most (file_stage.Clean part file_next.Decided) file_stage.Decided f m e1 e2 (omega arith)

file_fits : (most : ℕ) → 2 ^ 64 ≤ most → (f m : Copying) (report : Did) → file.Tells f report m → IsSound m.stage m.folder → goes_on report ≡ true → FitsFile most (file_rank most f.stage) m.stage
file_fits most enough f m (Began part) t sound h =
    let e : m.stage ≡ file_stage.Fill part t.1.0 0 = ap (λ (x : Copying). x.stage) t.1.1 in
    let bounds = subst (λ s. IsSound s m.folder) e sound in
    let few = bounds.1 in
    fits_from most file_stage.Begin (file_stage.Fill part t.1.0 0) f m t.0 e (omega (arith, few, enough))
file_fits most enough f m (Chunk count) (part, facts, done, at, some, few, within, is) sound h =
    fits_from most (file_stage.Fill part facts done) (file_stage.Fill part facts (done + count)) f m at (ap (λ (x : Copying). x.stage) is) (omega (arith, some, within))
file_fits most enough f m (Placed path) (part, facts, at, target, is) sound h =
    fits_from most (file_stage.Fill part facts facts.size) file_stage.Decided f m at (ap (λ (x : Copying). x.stage) is) (omega arith)
file_fits most enough f m (Cleaned part) (follows, at, is) sound h = cleaned most f m part follows at (ap (λ (x : Copying). x.stage) is)
file_fits most enough f m Barrier (at, dirty, is) sound h =
    fits_from most file_stage.Decided file_stage.Decided f m at (ap (λ (x : Copying). x.stage) is ∙ at) (omega arith)
file_fits most enough f m (Troubled trouble) t sound h = absurd (false≢true h)
file_fits most enough f m (Ended ending part) t sound h = absurd (false≢true h)
file_fits most enough f m (Removed path) t sound h = absurd t
file_fits most enough f m (Made path) t sound h = absurd t
file_fits most enough f m (Set path) t sound h = absurd t
file_fits most enough f m (Kept path) t sound h = absurd t
file_fits most enough f m (Asked question) t sound h = absurd t
file_fits most enough f m (Merges transfer pair names) t sound h = absurd t
file_fits most enough f m (Moved pair) t sound h = absurd t
file_fits most enough f m (Skipped path cause) t sound h = absurd t

link_from : (most : ℕ) (from to : LinkStage) (l m : LinkCopying) → l.stage ≡ from → m.stage ≡ to → FitsLink most (link_rank most from) to → FitsLink most (link_rank most l.stage) m.stage
link_from most from to l m e1 e2 h = subst (λ s. FitsLink most (link_rank most s) m.stage) (sym e1) (subst (λ s. FitsLink most (link_rank most from) s) (sym e2) h)

link_cleaned : (most : ℕ) (l m : LinkCopying) (follows : LinkNext) → l.stage ≡ link_stage.Clean follows → m.stage ≡ link.after_clean follows → FitsLink most (link_rank most l.stage) m.stage
link_cleaned most l m link_next.Again e1 e2 = link_from most (link_stage.Clean link_next.Again) link_stage.Again l m e1 e2 (omega arith)
link_cleaned most l m link_next.Decided e1 e2 = link_from most (link_stage.Clean link_next.Decided) link_stage.Decided l m e1 e2 (omega arith)

link_fits : (most : ℕ) (l m : LinkCopying) (report : Did) → link.Tells l report m → goes_on report ≡ true → FitsLink most (link_rank most l.stage) m.stage
link_fits most l m (Began part) t h = link_from most link_stage.Make link_stage.Place l m t.0 (ap (λ (x : LinkCopying). x.stage) t.2) (omega arith)
link_fits most l m (Placed path) t h = link_from most link_stage.Place link_stage.Decided l m t.0 (ap (λ (x : LinkCopying). x.stage) t.2) (omega arith)
link_fits most l m (Cleaned part) (follows, at, same, is) h = link_cleaned most l m follows at (ap (λ (x : LinkCopying). x.stage) is)
link_fits most l m Barrier t h = link_from most link_stage.Decided link_stage.Decided l m t.0 (ap (λ (x : LinkCopying). x.stage) t.2 ∙ t.0) (omega arith)
link_fits most l m (Troubled trouble) t h = absurd (false≢true h)
link_fits most l m (Chunk count) t h = absurd t
link_fits most l m (Ended ending part) t h = absurd t
link_fits most l m (Removed path) t h = absurd t
link_fits most l m (Made path) t h = absurd t
link_fits most l m (Set path) t h = absurd t
link_fits most l m (Kept path) t h = absurd t
link_fits most l m (Asked question) t h = absurd t
link_fits most l m (Merges transfer pair names) t h = absurd t
link_fits most l m (Moved pair) t h = absurd t
link_fits most l m (Skipped path cause) t h = absurd t

-- what was left before
abbrev pub Before : ℕ → ℕ → Seen → ℕ
Before most x old = things_left old * anew most + (x + levels_rank old.levels)

file_falls : (most : ℕ) → 2 ^ 64 ≤ most → (unclaimed : Route → Type 0) (f : Copying) (old new : Seen) (did : Did) (before after : Option CallLog) → FileWorks unclaimed f old new did before after
    → 1 ≤ length old.levels.inner.names.names → goes_on did ≡ true → rank_by most new < Before most (file_rank most f.stage) old
file_falls most enough unclaimed f old new did before after w some h =
    let m = w.moved in
    let fits = file_fits most enough f m did w.tells w.sound h in
    subst (λ (s : Seen). rank_by most s < Before most (file_rank most f.stage) old) (sym w.stands) (file_settles most (file_rank most f.stage) did (file.is_dirty m.folder) old some m m.stage refl fits)

link_falls : (most : ℕ) (l : LinkCopying) (old new : Seen) (did : Did) (before after : Option CallLog) → LinkWorks l old new did before after
    → 1 ≤ length old.levels.inner.names.names → goes_on did ≡ true → rank_by most new < Before most (link_rank most l.stage) old
link_falls most l old new did before after w some h =
    let m = w.moved in
    let fits = link_fits most l m did w.tells h in
    subst (λ (s : Seen). rank_by most s < Before most (link_rank most l.stage) old) (sym w.stands) (link_settles most (link_rank most l.stage) did (link.is_dirty m.folder) old some m m.stage refl fits)

-- a folder that was made is open
made_rank : (names : OpenFolder) (m : FolderCopying) (l : Levels) (stage : Stage) → m.stage ≡ stage → levels_rank (made_levels stage names m l) ≤ levels_rank l + 8
made_rank names m l (Fill owed) is =
    let s : stage_rank m.stage ≡ 3 = ap stage_rank is in
    let few = dirt_few m.names in
    omega (arith, s, few)
made_rank names m l (Make mode) is = omega arith
made_rank names m l (Close owed) is = omega arith
made_rank names m l Done is = omega arith

made_says : (c m : FolderCopying) (report : FolderDid) (did : Did) (mode : ℕ) → IsToldAs report did → folder.Tells c report m → c.stage ≡ Make mode → goes_on did ≡ true → decides did ≡ true
made_says c m (folder_did.Made path) did mode told t is h = ap decides told
made_says c m (folder_did.Set path) did mode told t is h = absurd (let e = sym is ∙ t.1 in let f : ⊥ = cc in f)
made_says c m folder_did.Barrier did mode told t is h = absurd (let e = sym is ∙ t.0 in let f : ⊥ = cc in f)
made_says c m folder_did.Closed did mode told t is h = absurd told
made_says c m (folder_did.Troubled trouble) did mode told t is h = absurd (false≢true (sym (ap goes_on told) ∙ h))

makes_falls : (most : ℕ) (pair : Pair) (names : List (List ℕ)) (mode : ℕ) (old new : Seen) (did : Did) (before after : Option CallLog) → FolderMakes pair names mode old new did before after → old.item ≡ Next → goes_on did ≡ true
    → (decides did ≡ true → things_left new < things_left old) → rank_by most new < Before most (anew most) old
makes_falls most pair names mode old new did before after w free h fewer =
    let m = w.moved in
    let less = fewer (made_says (folder.copying pair.source pair.target (Make mode) Synced) m w.report did mode w.says w.tells refl h) in
    let item : item_rank most new.item ≡ anew most = ap (item_rank most) (ap (λ (c : Seen). c.item) w.stands ∙ free) in
    let same : levels_rank new.levels ≡ levels_rank (made_levels m.stage (opened_folder pair.source names) m old.levels) = ap (λ (c : Seen). levels_rank c.levels) w.stands in
    let l = made_rank (opened_folder pair.source names) m old.levels m.stage refl in
    fewer_falls (anew most) (things_left old) (things_left new) (anew most + levels_rank old.levels) (item_rank most new.item + levels_rank new.levels) less (omega (arith, item, same, l))

-- a folder at its end
pub closing_rank : (stage : Stage) → stage_rank (folder.closing stage) ≤ stage_rank stage
closing_rank (Make mode) = omega arith
closing_rank (Fill None) = omega arith
closing_rank (Fill (Some mode)) = omega arith
closing_rank (Close owed) = same_things (stage_rank (Close owed))
closing_rank Done = omega arith

abbrev pub copy_rank : FolderCopying → ℕ
copy_rank c = 2 * stage_rank c.stage + dirt c.names

end_falls : (c m : FolderCopying) (report : FolderDid) (did : Did) → IsToldAs report did → folder.Tells c report m → goes_on did ≡ true → copy_rank m < copy_rank c
end_falls c m (folder_did.Made path) did told (mode, at, same, is) h =
    let e1 : stage_rank c.stage ≡ 4 = ap stage_rank at in
    let e2 : stage_rank m.stage ≡ 3 = ap (λ (x : FolderCopying). stage_rank x.stage) is in
    let e3 : dirt m.names ≡ dirt c.names = ap (λ (x : FolderCopying). dirt x.names) is in
    omega (arith, e1, e2, e3)
end_falls c m (folder_did.Set path) did told (mode, at, same, is) h =
    let e1 : stage_rank c.stage ≡ 2 = ap stage_rank at in
    let e2 : stage_rank m.stage ≡ 1 = ap (λ (x : FolderCopying). stage_rank x.stage) is in
    let e3 : dirt m.names ≡ 1 = ap (λ (x : FolderCopying). dirt x.names) is in
    omega (arith, e1, e2, e3)
end_falls c m folder_did.Barrier did told (at, dirty, is) h =
    let e1 : dirt c.names ≡ 1 = ap dirt dirty in
    let e2 : stage_rank m.stage ≡ stage_rank c.stage = ap (λ (x : FolderCopying). stage_rank x.stage) is in
    let e3 : dirt m.names ≡ 0 = ap (λ (x : FolderCopying). dirt x.names) is in
    omega (arith, e1, e2, e3)
end_falls c m folder_did.Closed did told t h = absurd told
end_falls c m (folder_did.Troubled trouble) did told t h = absurd (false≢true (sym (ap goes_on told) ∙ h))

ends_falls : (most : ℕ) (old new : Seen) (did : Did) (before after : Option CallLog) → FolderEnds (at_end old) new did before after → old.item ≡ Next → goes_on did ≡ true → things_left new ≤ things_left old
    → rank_by most new < Before most (anew most) old
ends_falls most old new did before after e free h fewer =
    let c : FolderCopying = (let s = at_end old in s.levels.inner.copy) in
    let less = end_falls c e.moved e.report did e.says e.tells h in
    let closed = closing_rank old.levels.inner.copy.stage in
    let item : item_rank most new.item ≡ anew most = ap (item_rank most) (ap (λ (s : Seen). s.item) e.stands ∙ free) in
    let same : levels_rank new.levels ≡ copy_rank e.moved + around_rank old.levels.around = ap (λ (s : Seen). levels_rank s.levels) e.stands in
    same_falls (anew most) (things_left old) (things_left new) (anew most + levels_rank old.levels) (item_rank most new.item + levels_rank new.levels) fewer (omega (arith, item, same, less, closed))

-- the folder around
synced : (c : FolderCopying) (names : NamesState) (report : FolderDid) (did : Did) → IsToldAs report did → folder.Tells (at_sync c) report (record (at_sync c) { names = names }) → goes_on did ≡ true → dirt names ≡ 0
synced c names (folder_did.Made path) did told t h = absurd (let e = t.1 in let f : ⊥ = cc in f)
synced c names (folder_did.Set path) did told t h = absurd (let e = t.1 in let f : ⊥ = cc in f)
synced c names folder_did.Barrier did told t h = ap (λ (x : FolderCopying). dirt x.names) t.2
synced c names folder_did.Closed did told t h = absurd told
synced c names (folder_did.Troubled trouble) did told t h = absurd (false≢true (sym (ap goes_on told) ∙ h))

pub dirty_counts : (names : NamesState) → is_dirty names ≡ true → dirt names ≡ 1
dirty_counts Dirty is = refl
dirty_counts Synced is = absurd (false≢true is)

syncs_falls : (most : ℕ) (old new : Seen) (did : Did) (before after : Option CallLog) → SyncsAround old new did before after → old.item ≡ Next → goes_on did ≡ true → things_left new ≤ things_left old
    → rank_by most new < Before most (anew most) old
syncs_falls most old new did before after s free h fewer =
    let item : item_rank most new.item ≡ anew most = ap (item_rank most) (ap (λ (c : Seen). c.item) s.stands ∙ free) in
    let now : levels_rank new.levels ≡ level_rank old.levels.inner + ((2 * stage_rank s.outer.copy.stage + dirt s.names) + around_rank s.around) = ap (λ (c : Seen). levels_rank c.levels) s.stands in
    let was : around_rank old.levels.around ≡ (2 * stage_rank s.outer.copy.stage + dirt s.outer.copy.names) + around_rank s.around = ap around_rank s.was in
    let dirty = dirty_counts s.outer.copy.names (sym (ap is_around_dirty s.was) ∙ s.dirty) in
    let clean = synced s.outer.copy s.names s.report did s.says s.tells h in
    same_falls (anew most) (things_left old) (things_left new) (anew most + levels_rank old.levels) (item_rank most new.item + levels_rank new.levels) fewer (omega (arith, item, now, was, dirty, clean))

-- what is taken up has a name
pub some_name : (names : List (List ℕ)) (c : Seen) (pair : Pair) → due_at names c ≡ Thing pair → 1 ≤ length names
some_name [] c pair is = absurd (let f : ⊥ = cc in f)
some_name (name ∷ names) c pair is = omega arith

-- no more things are left, and fewer where one was decided
abbrev pub Things : Seen → Seen → Did → Type 0
Things old new did = (things_left new ≤ things_left old) × (decides did ≡ true → things_left new < things_left old)

takes_falls : (most : ℕ) → 2 ^ 64 ≤ most → (unclaimed : Route → Type 0) (replies : Replies) (old new : Seen) (did : Did) (before after : Option CallLog) → TakesNext unclaimed replies old new did before after → old.item ≡ Next → goes_on did ≡ true
    → Things old new did → rank_by most new < Before most (anew most) old
takes_falls most enough unclaimed replies old new did before after (inl s) free h fewer = absurd (false≢true (sym (ap goes_on s.says) ∙ h))
takes_falls most enough unclaimed replies old new did before after (inr (inl t)) free h fewer =
    file_falls most enough unclaimed (file.begun_copy old.job t.pair.source t.pair.target) old new did None None (file_taken unclaimed replies old new did before after t) (some_name old.levels.inner.names.names old t.pair t.next) h
takes_falls most enough unclaimed replies old new did before after (inr (inr (inl t))) free h fewer =
    link_falls most (link_begun t.pair t.part) old new did before after t.works (some_name old.levels.inner.names.names old t.pair t.next) h
takes_falls most enough unclaimed replies old new did before after (inr (inr (inr (inl t)))) free h fewer = makes_falls most t.pair t.names t.mode old new did before after t.works free h fewer.1
takes_falls most enough unclaimed replies old new did before after (inr (inr (inr (inr (inl t))))) free h fewer =
    let less = subst (λ (c : Seen). things_left c < things_left old) (sym t.stands) (pass_falls false (walked_place old.levels) (some_name old.levels.inner.names.names old t.pair t.next)) in
    let item : item_rank most new.item ≡ anew most = ap (item_rank most) (ap (λ (c : Seen). c.item) t.stands ∙ free) in
    let same : levels_rank new.levels ≡ levels_rank old.levels = ap (λ (c : Seen). levels_rank c.levels) t.stands in
    fewer_falls (anew most) (things_left old) (things_left new) (anew most + levels_rank old.levels) (item_rank most new.item + levels_rank new.levels) less (omega (arith, item, same))
takes_falls most enough unclaimed replies old new did before after (inr (inr (inr (inr (inr (inl t)))))) free h fewer =
    let less = subst (λ (c : Seen). things_left c < things_left old) (sym t.stands) (pass_falls false (walked_place old.levels) (some_name old.levels.inner.names.names old t.pair t.next)) in
    let item : item_rank most new.item ≡ anew most = ap (item_rank most) (ap (λ (c : Seen). c.item) t.stands ∙ free) in
    let same : levels_rank new.levels ≡ levels_rank old.levels = ap (λ (c : Seen). levels_rank c.levels) t.stands in
    fewer_falls (anew most) (things_left old) (things_left new) (anew most + levels_rank old.levels) (item_rank most new.item + levels_rank new.levels) less (omega (arith, item, same))
takes_falls most enough unclaimed replies old new did before after (inr (inr (inr (inr (inr (inr (inl t))))))) free h fewer = absurd (false≢true (sym (ap goes_on t.says) ∙ h))
takes_falls most enough unclaimed replies old new did before after (inr (inr (inr (inr (inr (inr (inr (next, inl (debt, e))))))))) free h fewer = ends_falls most old new did before after e free h fewer.0
takes_falls most enough unclaimed replies old new did before after (inr (inr (inr (inr (inr (inr (inr (next, inr (debt, f, same))))))))) free h fewer = absurd (false≢true (sym (ap goes_on f.says) ∙ h))

goes_falls : (most : ℕ) → 2 ^ 64 ≤ most → (unclaimed : Route → Type 0) (replies : Replies) (old new : Seen) (did : Did) (before after : Option CallLog) → GoesOn unclaimed replies old new did before after → old.item ≡ Next → goes_on did ≡ true
    → Things old new did → rank_by most new < Before most (anew most) old
goes_falls most enough unclaimed replies old new did before after (inl s) free h fewer = syncs_falls most old new did before after s free h fewer.0
goes_falls most enough unclaimed replies old new did before after (inr s) free h fewer = takes_falls most enough unclaimed replies old new did before after s.1 free h fewer

-- a step of the machine after which it goes on
pub works_falls : (most : ℕ) → 2 ^ 64 ≤ most → (unclaimed : Route → Type 0) (replies : Replies) (item : ItemAtWork) (old new : Seen) (did : Did) (before after : Option CallLog) → WorksOn item unclaimed replies old new did before after → old.item ≡ item
    → HasName item old.levels → goes_on did ≡ true → Things old new did → rank_by most new < Before most (item_rank most item) old
works_falls most enough unclaimed replies Next old new did before after w is named h fewer = goes_falls most enough unclaimed replies old new did before after w is h fewer
works_falls most enough unclaimed replies (File f) old new did before after w is named h fewer = file_falls most enough unclaimed f old new did before after w named h
works_falls most enough unclaimed replies (Link l) old new did before after w is named h fewer = link_falls most l old new did before after w named h
works_falls most enough unclaimed replies (Stays part) old new did before after w is named h fewer = absurd w
