-- What is left as it is, and what is tried again.
use Rattle.std.specs.Prelude.{◌≡◌, ◌⊎◌, ◌<◌, ℕ, true, false, List, [], ◌∷◌, length}
use Rattle.mc_text.specs.Routes.{spelled_route}
use Rattle.job_reports.specs.declared.report.Cause.{Cause}
use Rattle.job_reports.specs.declared.report.Did.{Did}
use Rattle.job_reports.specs.declared.report.Did.TheVariants.{Skipped, Troubled}
use Rattle.job_reports.specs.Stops.{out_of_memory_at}
use Rattle.copy_file.specs.Copying.{Copying, taken_anew as file_anew}
use Rattle.copy_file.specs.CopySteps as file
use Rattle.copy_folders.specs.FolderCopying.{FolderCopying}
use Rattle.copy_folders.specs.FolderSteps as folder
use Rattle.copy_link.specs.LinkCopying.{LinkCopying, taken_anew as link_anew}
use Rattle.copy_link.specs.LinkSteps as link
use Rattle.copy_tree.specs.declared.item.ItemAtWork.{ItemAtWork}
use Rattle.copy_tree.specs.declared.item.ItemAtWork.TheVariants.{Next, File, Link, Stays}
use Rattle.copy_folders.specs.Levels.{emptied_levels, passed_levels, with_copy}
use Rattle.copy_tree.specs.Progress.{link_progress, progress}
use Rattle.copy_tree.specs.Standing.{Seen}
use Rattle.copy_tree.specs.TreeCopySteps.{idle, copy_after_progress}

-- there is no memory for the report, and nothing was left
abbrev pub NoRoom : Seen → Did → Seen → Type 0
NoRoom old did new = (did ≡ Troubled (out_of_memory_at false)) × (new ≡ old)

-- All that is yet to be met in the folder that is worked is left, and that folder is told.
abbrev pub SkipsRest : Cause → Seen → Did → Seen → Type 0
SkipsRest cause old did new =
    ((did ≡ Skipped old.levels.inner.copy.source cause)
    × (new ≡ record old { levels = emptied_levels old.levels })) ⊎ NoRoom old did new

-- The next name is left, with all that lies in it; where its path would be too long to be told, all
-- that is left in its folder.
abbrev pub SkipsName : List ℕ → Cause → Seen → Did → Seen → Type 0
SkipsName name cause old did new =
    ((did ≡ Skipped (name ∷ old.levels.inner.copy.source) cause)
    × (new ≡ record old { levels = passed_levels true old.levels }))
    ⊎ ((4096 < length (spelled_route (name ∷ old.levels.inner.copy.source))) × SkipsRest cause old did new)
    ⊎ NoRoom old did new

-- the folder that is worked keeps the mode that it was made with
abbrev pub SkipsEnd : Cause → Seen → Did → Seen → Type 0
SkipsEnd cause old did new = (moved : FolderCopying) × folder.Skips cause old.levels.inner.copy did moved
    × (new ≡ record old { levels = with_copy moved old.levels })

abbrev pub SkipsNamed : List (List ℕ) → Cause → Seen → Did → Seen → Type 0
SkipsNamed [] cause old did new = SkipsEnd cause old did new
SkipsNamed (name ∷ names) cause old did new = SkipsName name cause old did new

-- what is taken up next is left
abbrev pub SkipsNext : Cause → Seen → Did → Seen → Type 0
SkipsNext cause old did new = SkipsNamed old.levels.inner.names.names cause old did new

-- a file is left; its part is to be removed
abbrev pub SkipsFile : Cause → Copying → Seen → Did → Seen → Type 0
SkipsFile cause f old did new = (moved : Copying) × file.Skips cause f did moved
    × (new ≡ copy_after_progress (progress moved.stage) (File moved) old)

-- a link is left; its part is to be removed
abbrev pub SkipsLink : Cause → LinkCopying → Seen → Did → Seen → Type 0
SkipsLink cause l old did new = (moved : LinkCopying) × link.Skips cause l did moved
    × (new ≡ copy_after_progress (link_progress moved.stage) (Link moved) old)

-- what is in trouble is left, by what is at work
abbrev pub SkipsAt : ItemAtWork → Cause → Seen → Did → Seen → Type 0
SkipsAt Next cause old did new = SkipsNext cause old did new
SkipsAt (File f) cause old did new = SkipsFile cause f (idle old) did new
SkipsAt (Link l) cause old did new = SkipsLink cause l (idle old) did new
SkipsAt (Stays part) cause old did new = ⊥

abbrev pub Skips : Cause → Seen → Did → Seen → Type 0
Skips cause old did new = SkipsAt old.item cause old did new

-- a file or a link is copied anew, once its part was removed
abbrev pub retried_file : Copying → Seen → Seen
retried_file f c =
    copy_after_progress (progress (file_anew f.stage)) (File (record f { stage = file_anew f.stage })) c

abbrev pub retried_link : LinkCopying → Seen → Seen
retried_link l c =
    copy_after_progress (link_progress (link_anew l.stage)) (Link (record l { stage = link_anew l.stage })) c

abbrev pub retried_at : ItemAtWork → Seen → Seen
retried_at Next c = c
retried_at (File f) c = retried_file f (idle c)
retried_at (Link l) c = retried_link l (idle c)
retried_at (Stays part) c = c

abbrev pub retried_copy : Seen → Seen
retried_copy c = retried_at c.item c
