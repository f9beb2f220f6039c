-- What a copy knows of its open folders: as it begins, after each step, and of the name that is met next.
use Rattle.std.proofs.Common.{◌≡◌, ℕ, suc, zero, Bool, List, ◌∷◌, refl, sym, ◌∙◌, ap, subst, inl, inr, Option, Some}
use Rattle.mc_text.specs.Routes.{Route}
use Rattle.tree_trait.specs.Change.{CallLog, current}
use Rattle.job_answers.specs.declared.replies.Replies.{Replies}
use Rattle.copy_file.specs.Copying as file
use Rattle.copy_file.specs.Copying.{Copying}
use Rattle.copy_link.specs.LinkCopying as link
use Rattle.copy_link.specs.LinkCopying.{LinkCopying}
use Rattle.copy_folders.specs.Levels.{levels_closed, is_around_dirty}
use Rattle.copy_tree.specs.declared.item.ItemAtWork.{ItemAtWork}
use Rattle.copy_tree.specs.declared.item.ItemAtWork.TheVariants.{Next, File, Link, Stays}
use Rattle.copy_tree.specs.declared.progress.Progress.{Progress}
use Rattle.copy_tree.specs.declared.progress.Progress.TheVariants.{UnderWay, Decided, Anew}
use Rattle.job_reports.specs.declared.report.Did.{Did}
use Rattle.copy_tree.specs.Parts.{IsPartPlace, ahead}
use Rattle.copy_tree.specs.Progress.{link_progress, progress}
use Rattle.copy_tree.specs.Standing.{Seen, target_name}
use Rattle.tree_trait.specs.Shape.{IsTree}
use Rattle.copy_tree.specs.TreeCopySteps.{CopySteps, LeavesAll, LinkWorks, TakesNext, WorksOn, idle, link_begun, noted_copy, copy_after_progress}
use Rattle.laws_sessions.proofs.FileMoves.{FileMoves, taken_moves, worked_moves}
use Rattle.laws_sessions.proofs.Changing.{folder_anchored}
use Rattle.laws_sessions.proofs.Resting.{IsOfFiles, stands_at, sure_path}
use Rattle.laws_sessions.proofs.AtWork.{ItemKnown}
use Rattle.laws_sessions.proofs.OpenFolders.{LevelsKnow}
use Rattle.laws_sessions.proofs.CopyLaws.{BeginningLaw, CopyKnown, FoldersKnown, MetLaw, StandingLaw, StepLaw}
use Rattle.laws_sessions.proofs.FoldersLie.{AreLaid}
use Rattle.laws_sessions.proofs.TreeFolders.{closed_levels}
use Rattle.laws_sessions.proofs.TreeKnows.{filled_inner, levels_left}
use Rattle.laws_sessions.proofs.TreePlaces.{laid_closed, laid_left, laid_works, nested_of, next_once, placed_of}
use Rattle.laws_sessions.proofs.ItemSteps.{works_item}
use Rattle.laws_sessions.proofs.TreeSteps.{StepKnown, among_next, copy_step}

-- a copy that was begun
pub beginning_law : BeginningLaw
beginning_law log job source target filled = (
  (record { inner = filled; around = tt }, record { once = ((λ among. among), tt); made = λ mode is. let f : ⊥ = cc in f }),
  tt,
)

-- with this name at its target
abbrev KnownAs : CallLog → Seen → List ℕ → Type 0
KnownAs log c name = LevelsKnow log name c.levels × AreLaid name c.levels.inner c.levels.around

-- The folders that a step leaves first owe nothing, and those around them are as they were.
pub leaves_all : (n : ℕ) (log : CallLog) (old new : Seen) → LeavesAll n old new → FoldersKnown log old → FoldersKnown log new
leaves_all zero log old new is known = subst (FoldersKnown log) (sym is) known
leaves_all (suc n) log old new (mid, all, none, one) known =
    let r = one.returns in
    let k = leaves_all n log old mid all known in
    let same : new.name ≡ mid.name = ap (λ (c : Seen). c.name) r.stands in
    subst (KnownAs log new) (sym same) (
      levels_left log mid.name (levels_closed mid.levels) new.levels r.left (closed_levels log mid.name mid.levels k.0),
      laid_left mid.name (levels_closed mid.levels) new.levels r.left (laid_closed mid.name mid.levels k.1),
    )

-- nothing is at work where folders were left
pub item_left : (n : ℕ) (log : CallLog) (old new : Seen) → LeavesAll n old new → ItemKnown log old old.item → ItemKnown log new new.item
item_left zero log old new is item = subst (λ (c : Seen). ItemKnown log c c.item) (sym is) item
item_left (suc n) log old new (mid, all, none, one) item =
    let r = one.returns in
    let next : new.item ≡ Next = ap (λ (c : Seen). c.item) r.stands ∙ none in
    subst (ItemKnown log new) (sym next) tt

-- what is copied keeps its name
settled_name : (p : Progress) (item : ItemAtWork) (c : Seen) → (let s : Seen = copy_after_progress p item c in s.name) ≡ c.name
settled_name UnderWay item c = refl
settled_name Decided item c = refl
settled_name Anew item c = refl

module _ (unclaimed : Route → Type 0) (replies : Replies) (old new : Seen) (did : Did) (before after : Option CallLog) where
  file_name : (f : Copying) → FileMoves unclaimed f old new did before after → new.name ≡ old.name
  file_name f w =
      let moved = w.moved in
      ap (λ (c : Seen). c.name) w.stands ∙ settled_name (progress moved.stage) (File moved) (noted_copy did (file.is_dirty moved.folder) (idle old))

  link_name : (l : LinkCopying) → LinkWorks l old new did before after → new.name ≡ old.name
  link_name l w =
      let moved = w.moved in
      ap (λ (c : Seen). c.name) w.stands ∙ settled_name (link_progress moved.stage) (Link moved) (noted_copy did (link.is_dirty moved.folder) (idle old))

  next_name : TakesNext unclaimed replies old new did before after → new.name ≡ old.name
  next_name (inl s) = ap (λ (c : Seen). c.name) s.stands
  next_name (inr (inl t)) = file_name (file.begun_copy old.job t.pair.source t.pair.target) (taken_moves unclaimed replies old new did before after t)
  next_name (inr (inr (inl t))) = link_name (link_begun t.pair t.part) t.works
  next_name (inr (inr (inr (inl t)))) = (let w = t.works in ap (λ (c : Seen). c.name) w.stands)
  next_name (inr (inr (inr (inr (inl t))))) = ap (λ (c : Seen). c.name) t.stands
  next_name (inr (inr (inr (inr (inr (inl t)))))) = ap (λ (c : Seen). c.name) t.stands
  next_name (inr (inr (inr (inr (inr (inr (inl t))))))) = ap (λ (c : Seen). c.name) t.stands
  next_name (inr (inr (inr (inr (inr (inr (inr (next, inl (debt, ends))))))))) = ap (λ (c : Seen). c.name) ends.stands
  next_name (inr (inr (inr (inr (inr (inr (inr (next, inr (debt, f, same))))))))) = ap (λ (c : Seen). c.name) f.stands

  pub works_name : (item : ItemAtWork) → WorksOn item unclaimed replies old new did before after → new.name ≡ old.name
  works_name Next (inl s) = ap (λ (c : Seen). c.name) s.stands
  works_name Next (inr takes) = next_name takes.1
  works_name (File f) w = file_name f (worked_moves unclaimed f old new did before after w)
  works_name (Link l) w = link_name l w
  works_name (Stays part) w = absurd w

-- what is known as a step begins, once the folders are left that owe nothing
begins_at : (free : Route → Bool) (replies : Replies) (old new : Seen) (did : Did) (calls : ℕ) (log now : CallLog) (faults faults_after : ℕ) (s : CopySteps free replies old new did calls (Some log) (Some now) faults faults_after) → IsTree (current log) → IsOfFiles log
    → CopyKnown log old → StepKnown log s.mid × AreLaid (let m : Seen = s.mid in m.name) (let m : Seen = s.mid in m.levels.inner) (let m : Seen = s.mid in m.levels.around) × ItemKnown log s.mid (let m : Seen = s.mid in m.item)
begins_at free replies old new did calls log now faults faults_after s tree files (known, item) =
    let mid = s.mid in
    let k = leaves_all s.folders log old mid s.leaves known in
    let place = placed_of mid.name mid.levels.inner mid.levels.around k.1 in (
      record {
        tree = tree;
        files = files;
        nested = nested_of mid.name mid.levels.inner mid.levels.around k.1;
        levels = k.0;
        made = place.made;
        once = λ name names is. next_once mid name names is place.once;
      },
      k.1,
      item_left s.folders log old mid s.leaves item,
    )

pub step_begins : (free : Route → Bool) (replies : Replies) (old new : Seen) (did : Did) (calls : ℕ) (log now : CallLog) (faults faults_after : ℕ) (s : CopySteps free replies old new did calls (Some log) (Some now) faults faults_after) → IsTree (current log) → IsOfFiles log
    → CopyKnown log old → StepKnown log s.mid × ItemKnown log s.mid (let m : Seen = s.mid in m.item)
step_begins free replies old new did calls log now faults faults_after s tree files known = let b = begins_at free replies old new did calls log now faults faults_after s tree files known in (b.0, b.2)

pub step_law : StepLaw
step_law free replies old new did calls log now faults faults_after s tree files known =
    let mid = s.mid in
    let b = begins_at free replies old new did calls log now faults faults_after s tree files known in
    let levels = copy_step free replies old new did calls log now faults faults_after s b.0 b.2 in
    let laid = laid_works (IsPartPlace free mid) replies mid new did (Some log) (Some now) b.1 mid.item s.works in
    (subst (KnownAs now new) (sym (works_name (IsPartPlace free mid) replies mid new did (Some log) (Some now) mid.item s.works)) (levels, laid), works_item free replies mid new did log now b.0 mid.item refl b.2 s.works)

pub met_law : MetLaw
met_law log c name names known clean is =
    let l = known.0 in
    let filling = filled_inner (is_around_dirty c.levels.around) log c.levels.inner.copy.target (ahead c) clean l.inner in
    let firm = filling.firm in
    sure_path log (target_name c name ∷ c.levels.inner.copy.target) firm.sure (filling.calm (target_name c name) (among_next c name names is))

pub standing_law : StandingLaw
standing_law told dirty marks log c kept folders clean =
    let l = folders.0 in
    let filling = filled_inner (is_around_dirty c.levels.around) log c.levels.inner.copy.target (ahead c) clean l.inner in
    let firm = filling.firm in
    let there = stands_at (current log) c.levels.inner.copy.target firm.stands in
    (there.i, record { at = there.at; anchored = folder_anchored told dirty marks log kept.known kept.roams c.levels.inner.copy.target there.i there.at there.folder firm.sure })
