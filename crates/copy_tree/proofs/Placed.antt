-- Where the copy of a tree stands.
use Rattle.std.proofs.Common.{◌≡◌, refl, sym, ◌∙◌, ap, Bool, true}
use Rattle.copy_file.specs.Copying as file
use Rattle.copy_file.specs.Copying.{Copying}
use Rattle.copy_link.specs.LinkCopying as link
use Rattle.copy_link.specs.LinkCopying.{LinkCopying, Tells, at_barrier, is_ready}
use Rattle.copy_link.specs.declared.stage.Stage.{Stage}
use Rattle.copy_link.specs.declared.stage.Stage.TheVariants.{Make, Place, Clean, Left, Again, Decided}
use Rattle.copy_link.specs.declared.stage.Next.{Next as Follows}
use Rattle.copy_link.specs.declared.stage.Next.TheVariants as follows
use Rattle.copy_file.specs.declared.stage.FolderState.{FolderState}
use Rattle.job_reports.specs.declared.report.Did.{Did}
use Rattle.job_reports.specs.declared.report.Did.TheVariants.{Began, Chunk, Placed, Removed, Made, Set, Kept, Skipped, Cleaned, Barrier, Asked, Merges, Moved, Troubled, Ended}
use Rattle.copy_tree.specs.declared.item.ItemAtWork.{ItemAtWork}
use Rattle.copy_tree.specs.declared.item.ItemAtWork.TheVariants.{Next, File, Link}
use Rattle.copy_tree.specs.declared.progress.Progress.TheVariants.{UnderWay}
use Rattle.copy_tree.specs.Progress.{link_progress, progress}
use Rattle.copy_tree.specs.Standing.{Seen}
use Rattle.copy_tree.specs.TreeCopySteps.{after_file, after_link, idle, noted_copy, copy_after_progress, stays_ready}

-- nothing is at work
pub idle_same : (c : Seen) → c.item ≡ Next → idle c ≡ c
idle_same c free = ap (λ (i : ItemAtWork). record c { item = i }) (sym free)

pub file_stands : (m : Copying) (did : Did) (changed : Bool) (old mid new : Seen) → old.item ≡ Next → changed ≡ file.is_dirty m.folder → mid ≡ noted_copy did changed old → new ≡ copy_after_progress (progress m.stage) (File m) mid
    → new ≡ after_file did m (idle old)
file_stands m did changed old mid new free dirty was is =
    is ∙ ap (λ (s : Seen). copy_after_progress (progress m.stage) (File m) s) (was ∙ (ap (λ b. noted_copy did b old) dirty ∙ ap (λ (s : Seen). noted_copy did (file.is_dirty m.folder) s) (sym (idle_same old free))))

pub link_stands : (m : LinkCopying) (did : Did) (changed : Bool) (old mid new : Seen) → old.item ≡ Next → changed ≡ link.is_dirty m.folder → mid ≡ noted_copy did changed old → new ≡ copy_after_progress (link_progress m.stage) (Link m) mid
    → new ≡ after_link did m (idle old)
link_stands m did changed old mid new free dirty was is =
    is ∙ ap (λ (s : Seen). copy_after_progress (link_progress m.stage) (Link m) s) (was ∙ (ap (λ b. noted_copy did b old) dirty ∙ ap (λ (s : Seen). noted_copy did (link.is_dirty m.folder) s) (sym (idle_same old free))))

-- a link's copy that steps has no part that was tried in vain
ready_stays : (stage : Stage) (folder : FolderState) → is_ready stage folder ≡ true → stays_ready stage ≡ true
ready_stays Make folder ready = refl
ready_stays Place folder ready = refl
ready_stays (Clean next) folder ready = refl
ready_stays Left folder ready = absurd (let f : ⊥ = cc in f)
ready_stays Again folder ready = refl
ready_stays Decided folder ready = refl

clean_stays : (next : Follows) → stays_ready (link.after_clean next) ≡ true
clean_stays follows.Again = refl
clean_stays follows.Decided = refl

pub link_stays : (l new : LinkCopying) (did : Did) → is_ready l.stage l.folder ≡ true → Tells l did new → stays_ready new.stage ≡ true
link_stays l new (Began part) ready t = ap (λ (x : LinkCopying). stays_ready x.stage) t.2
link_stays l new (Placed path) ready t = ap (λ (x : LinkCopying). stays_ready x.stage) t.2
link_stays l new (Cleaned part) ready t = ap (λ (x : LinkCopying). stays_ready x.stage) t.3 ∙ clean_stays t.0
link_stays l new Barrier ready t = ap (λ (x : LinkCopying). stays_ready x.stage) t.2 ∙ ready_stays l.stage l.folder ready
link_stays l new (Troubled trouble) ready t = ap (λ (x : LinkCopying). stays_ready x.stage) t.1 ∙ ready_stays l.stage l.folder ready
link_stays l new (Chunk count) ready t = absurd t
link_stays l new (Set path) ready t = absurd t
link_stays l new (Removed path) ready t = absurd t
link_stays l new (Made made) ready t = absurd t
link_stays l new (Kept path) ready t = absurd t
link_stays l new (Asked question) ready t = absurd t
link_stays l new (Merges transfer pair names) ready t = absurd t
link_stays l new (Moved pair) ready t = absurd t
link_stays l new (Skipped path cause) ready t = absurd t
link_stays l new (Ended ending part) ready t = absurd t

-- a part that stands and may be tried again makes the copy ready
pub under_way : (stage : Stage) (folder : FolderState) → stays_ready stage ≡ true → link_progress stage ≡ UnderWay → is_ready stage folder ≡ true
under_way Place folder stays is = refl
under_way (Clean next) folder stays is = refl
under_way Left folder stays is = absurd (let f : ⊥ = cc in f)
under_way Make folder stays is = absurd (let f : ⊥ = cc in f)
under_way Again folder stays is = absurd (let f : ⊥ = cc in f)
under_way Decided folder stays is = absurd (let f : ⊥ = cc in f)
