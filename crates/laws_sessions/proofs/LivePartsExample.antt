-- Why a part stays one: one job has placed its part, and another one makes a folder at the part's path before that is on the disk. A crash may bring back the part there.
use Rattle.std.proofs.Common.{◌≡◌, ℕ, true, false, List, [], ◌∷◌, ◌++◌, refl, inl, inr, Some, None}
use Rattle.mc_text.specs.Routes.{Route}
use Rattle.tree_trait.specs.declared.file_system.FileSystem.{FileSystem}
use Rattle.tree_trait.specs.FileSystem.{value, value_at}
use Rattle.tree_trait.specs.Change.{Makes, Moves, Syncs, CallLog, after_change, with_change}
use Rattle.tree_trait.specs.CrashImages.{IsCrashImage}
use Rattle.tree_trait.proofs.BareRoot.{bare}
use Rattle.job_reports.specs.declared.job.Job.TheVariants.{Copy, MakeFolder}
use Rattle.job_reports.specs.declared.job.Pair.{Pair}
use Rattle.job_reports.specs.declared.report.Did.TheVariants.{Began, Ended, Placed, Made}
use Rattle.job_reports.specs.declared.report.Ending.TheVariants.{Finished}
use Rattle.session_entries.specs.declared.history.Event.TheVariants.{Step}
use Rattle.session_entries.specs.declared.history.Event.TheVariants as event
use Rattle.session_entries.specs.declared.history.Entry.{Entry}
use Rattle.session_entries.specs.Named.{live_parts, named_parts}
use Rattle.laws_sessions.specs.Replayed.{new_folder, replayed_tree}
use Rattle.laws_sessions.specs.Safe.{IsPart}
use Rattle.laws_sessions.proofs.ExampleParts.{entry, file, folder}

-- the paths 1, 3 and 5 at the root
abbrev top : ℕ → Route
top name = (name ∷ []) ∷ []

abbrev copied : Pair
copied = record { source = top 1; target = top 3 }

-- Job 1 copies the file 1 to 3 by the part 5, and hasn't synced the root.
abbrev placed : List Entry
placed = entry 3 (Step 1 (Placed (top 3))) ∷ entry 1 (Step 1 (Began (top 5))) ∷ entry 0 (event.Began 1 (Copy (copied ∷ [])) false) ∷ []

-- Job 2 makes a folder where the part was.
abbrev story : List Entry
story = entry 4 (Step 2 (Made (top 5))) ∷ entry 3 (event.Began 2 (MakeFolder (top 5)) true) ∷ placed

-- the path stays a part
pub stays_named : named_parts story ≡ top 5 ∷ []
stays_named = refl

-- with the end of the job it is no live one's any more
pub none_live : live_parts (entry 4 (Step 1 (Ended Finished None)) ∷ story) ≡ []
none_live = refl

-- What the job itself makes there, after it has synced the folder, is none.
pub own_is_none : named_parts (entry 4 (Step 1 (Made (top 5))) ∷ placed) ≡ []
own_is_none = refl

abbrev opening : CallLog
opening = record { opening = after_change bare (Makes 0 (1 ∷ []) file); changes = [] }

abbrev now : CallLog
now = with_change (with_change (with_change (with_change opening (Makes 0 (5 ∷ []) file)) (Syncs 2)) (Moves 0 (5 ∷ []) 0 (3 ∷ []) 2 None)) (Makes 0 (5 ∷ []) folder)

-- the making of the part alone has reached the disk
abbrev with_part : FileSystem
with_part = after_change (after_change opening.opening (Makes 0 (5 ∷ []) file)) (Syncs 2)

abbrev image : FileSystem
image = record with_part { nodes = with_part.nodes ++ folder ∷ [] }

pub may_be : IsCrashImage now 4 image
may_be = inl (inl (inr (refl, (with_part, refl, inr (refl, (image, refl, refl))))))

-- The history says that a folder stands there, the image has the part: so it has to be one.
pub told : (replayed_tree opening now story (top 5)).value ≡ Some new_folder
told = refl

pub comes_back : value_at image (top 5) ≡ Some (value file)
comes_back = refl

pub is_part : IsPart story now (top 5)
is_part = record { named = inl refl; stays = inl refl }
