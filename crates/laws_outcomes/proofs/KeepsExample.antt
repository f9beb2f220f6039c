-- Small sessions with each kind of source, so that none of the six sentences on a power cut is empty: what each says of every image of a crash in the midst of the job.
use Rattle.std.proofs.Common.{◌≡◌, ◌⊎◌, ℕ, true, false, List, [], ◌∷◌, ◌++◌, refl, sym, ◌∙◌, ap, subst, inl, inr, Option, Some, None}
use Rattle.mc_text.specs.Routes.{Route}
use Rattle.tree_trait.specs.declared.file_system.FileSystem.{FileSystem}
use Rattle.tree_trait.specs.FileSystem.{Value, value, value_at}
use Rattle.tree_trait.specs.Change.{Syncs}
use Rattle.tree_trait.specs.CrashImages.{Among, IsCrashImage}
use Rattle.laws_crash.specs.Guarded.{with_mode}
use Rattle.job_reports.specs.Jobs as jobs
use Rattle.session_entries.specs.LiveJobs.{LiveJob, live_jobs}
use Rattle.session_entries.specs.Named.{names_path}
use Rattle.laws_outcomes.specs.Touched.{LastsSince, touches}
use Rattle.move_job.specs.declared.moving.MovingStage.TheVariants.{Finish}
use Rattle.laws_sessions.specs.Replayed.{new_folder, new_link}
use Rattle.laws_sessions.proofs.ExampleParts.{file, folder, stand}
use Rattle.laws_sessions.proofs.CopyExample as made
use Rattle.laws_sessions.proofs.CopyExampleSteps as made_at
use Rattle.laws_sessions.proofs.Example as deleted
use Rattle.laws_sessions.proofs.ModeExample as moded
use Rattle.laws_outcomes.specs.KeepsFiles.{IsLeft, IsPromised, KeepsFiles, stood}
use Rattle.laws_outcomes.proofs.CutKeeps.{keeps_law}
use Rattle.laws_outcomes.proofs.KeptExample as asked
use Rattle.laws_outcomes.proofs.MadeExample as new
use Rattle.laws_outcomes.proofs.MergedMoveExample as emptied
use Rattle.laws_outcomes.proofs.MovedExample as moved
use Rattle.laws_outcomes.proofs.ReplacedExample as replaced
use Rattle.laws_outcomes.proofs.SourcesExample as given
use Rattle.laws_sessions.proofs.FolderExampleSteps as moved_at

-- a path that was no part, and one that none of two entries took for one
no_part : ⊥ ⊎ ⊥ → ⊥
no_part (inl none) = none
no_part (inr none) = none

two_none : ⊥ ⊎ (⊥ ⊎ ⊥) → ⊥
two_none (inl none) = none
two_none (inr (inl none)) = none
two_none (inr (inr none)) = none

some_stands : {A : Type 0} (x : Value) → (let o : Option Value = Some x in o) ≡ None → A
some_stands x none = absurd (let f : ⊥ = cc in f)

-- one of these or none is one of them
one_among : (a x : Value) → Among (a ∷ []) x → x ≡ a
one_among a x (inl is) = is
one_among a x (inr none) = absurd none

-- a file is deleted: it is whole or gone, and the one beside it is as it was
deleting : (image : FileSystem) → IsCrashImage deleted.settled_log 1 image → KeepsFiles (deleted.log []) deleted.begun_entries deleted.removed_entries deleted.removed_entries image
deleting image left =
    keeps_law (deleted.log []) deleted.settled_log deleted.settled_entries (stand (deleted.second ∷ []) []) deleted.small_tree refl deleted.settled_traced deleted.begun_entries deleted.removed_entries deleted.removed_entries 1 image
    (inr (inr (inr (inr (inr (inr (inr (inr (inr (inr (inr (inr (inl (refl, refl, refl)))))))))))))) left

pub deleted_file : (image : FileSystem) → IsCrashImage deleted.settled_log 1 image → (value_at image deleted.the_file ≡ Some (value file)) ⊎ (value_at image deleted.the_file ≡ None)
deleted_file image left =
    let k = deleting image left in
    k.deleted (jobs.Removes deleted.the_file) deleted.the_file refl refl
    (record { firm = record { on_disk = refl; no_part = no_part }; since = inr (inr (inl refl), inl refl); later = inr (inr (inl refl), inl refl); bare = λ none was. two_none was })

off_job : (job : LiveJob) → Among (live_jobs deleted.begun_entries) job → touches job.item deleted.another ≡ false
off_job job (inl is) = ap (λ (l : LiveJob). touches l.item deleted.another) is
off_job job (inr none) = absurd none

pub file_beside : (image : FileSystem) → IsCrashImage deleted.settled_log 1 image → value_at image deleted.another ≡ Some (value file)
file_beside image left =
    let k = deleting image left in
    k.rest deleted.another off_job
    (record { firm = record { on_disk = refl; no_part = no_part }; since = inr (inr (inl refl), inl refl); later = inr (inr (inl refl), inl refl); bare = λ none was. two_none was })

-- a file is moved: it is whole at its source or at its target
pub moved_file : (image : FileSystem) → IsCrashImage moved.done_log 1 image → (value_at image moved_at.first ≡ Some (value file)) ⊎ (value_at image moved.target ≡ Some (value file))
moved_file image left = elim m.1 [
  | inl is ↦ inl (ap (value_at image) (sym is) ∙ there)
  | inr is ↦ inr (ap (value_at image) (sym is) ∙ there)
]
  where
    k : KeepsFiles (moved_at.log []) moved.begun_entries moved.moved_entries moved.moved_entries image
    k = keeps_law (moved_at.log []) moved.done_log moved.done_entries (stand (moved.job Finish ∷ []) []) moved_at.small_tree refl moved.done_traced moved.begun_entries moved.moved_entries moved.moved_entries 1 image (inr (inr (inr (inr (inl (refl, refl, refl)))))) left

    m : (there : Route) × ((there ≡ moved_at.first) ⊎ (there ≡ moved.target)) × ((rest : Route) → IsPromised (moved_at.log []) moved.begun_entries (rest ++ moved_at.first) → value_at image (rest ++ there) ≡ stood (moved_at.log []) (rest ++ moved_at.first))
    m = k.moved moved_at.first moved.target refl (inr (inr (inl refl), inl refl)) (inr (inr (inl refl), inl refl))

    there : value_at image m.0 ≡ Some (value file)
    there = m.2 [] (record { on_disk = refl; no_part = no_part })

-- a folder is copied to where nothing stands: nothing stands there, or the folder, with all that its owner may do or with its source's mode; and its source is as it was
copying : (image : FileSystem) → IsCrashImage made_at.synced_log 1 image → KeepsFiles (made_at.log []) made.begun_entries made.made_entries made.made_entries image
copying image left =
    keeps_law (made_at.log []) made_at.synced_log made.finished_entries (stand [] []) made_at.small_tree refl made.finished_traced made.begun_entries made.made_entries made.made_entries 1 image
    (inr (inr (inr (inr (inr (inr (inr (inr (inl (refl, refl, refl)))))))))) left

pub made_folder : (image : FileSystem) (x : Value) → IsCrashImage made_at.synced_log 1 image → value_at image made_at.target ≡ Some x → Among (value made_at.made ∷ value made_at.shut ∷ []) x
made_folder image x left is =
    let k = copying image left in
    k.new (jobs.Copies made_at.source made_at.target) made_at.target x refl refl refl
    (record { firm = record { on_disk = refl; no_part = no_part }; since = inr (inr (inl refl), inl refl); later = inr (inr (inl refl), inl refl); bare = λ none was. two_none was }) is

pub copied_folder_stays : (image : FileSystem) → IsCrashImage made_at.synced_log 1 image → value_at image made_at.source ≡ Some (value made_at.shut)
copied_folder_stays image left =
    let k = copying image left in
    k.source made_at.source made_at.target made_at.source refl refl refl
    (record { firm = record { on_disk = refl; no_part = no_part }; since = inr (inr (inl refl), inl refl); later = inr (inr (inl refl), inl refl); bare = λ none was. two_none was })

-- a file is copied over another one: that stands there, or the copy
pub replaced_file : (image : FileSystem) → IsCrashImage replaced.done_log 4 image → (x : Value) × (value_at image asked.target ≡ Some x) × ((x ≡ value asked.old_file) ⊎ Among (value file ∷ []) x)
replaced_file image left =
    k.overwritten (jobs.Copies asked.source asked.target) asked.target (value asked.old_file) refl refl refl no_part
    (record { firm = record { on_disk = refl; no_part = no_part }; since = since; later = since; bare = λ none was. some_stands (value asked.old_file) none })
  where
    k : KeepsFiles (asked.log []) asked.begun_entries replaced.placed_entries replaced.placed_entries image
    k = keeps_law (asked.log []) replaced.done_log (replaced.end ∷ replaced.done_entries) (stand [] []) asked.small_tree refl replaced.ended_traced asked.begun_entries replaced.placed_entries replaced.placed_entries 4 image (inr (inr (inr (inr (inl (refl, refl, refl)))))) left

    since : LastsSince asked.begun_entries (λ what. names_path what asked.target ≡ false) replaced.placed_entries
    since = inr (inr (inr (refl, inr (refl, inr (refl, inr (refl, inl refl))))), inr (inr (inr (refl, inr (refl, inr (refl, inl refl)))), inr (inr (inr (refl, inr (refl, inl refl))), inr (inr (inr (refl, inl refl)), inr (inr (inl refl), inl refl)))))

-- a folder is made, and a link: nothing stands there, or what is made
pub new_folder_there : (image : FileSystem) (x : Value) → IsCrashImage new.folder_log 1 image → value_at image new.new_path ≡ Some x → x ≡ new_folder
new_folder_there image x left is =
    one_among new_folder x (k.new (jobs.Makes new.new_path) new.new_path x refl refl refl
    (record { firm = record { on_disk = refl; no_part = no_part }; since = inr (inr (inl refl), inl refl); later = inr (inr (inl refl), inl refl); bare = λ none was. two_none was }) is)
  where
    k : KeepsFiles (deleted.log []) (new.begun_with new.folder_plan) (new.made_with new.folder_plan) (new.made_with new.folder_plan) image
    k = keeps_law (deleted.log []) new.folder_log (new.made_with new.folder_plan) new.folder_stand deleted.small_tree refl new.folder_traced (new.begun_with new.folder_plan) (new.made_with new.folder_plan) (new.made_with new.folder_plan) 1 image (inl (refl, refl, refl)) left

pub new_link_there : (image : FileSystem) (x : Value) → IsCrashImage new.link_log 1 image → value_at image new.new_path ≡ Some x → x ≡ new_link new.text
new_link_there image x left is =
    one_among (new_link new.text) x (k.new (jobs.MakesLink new.new_path new.text) new.new_path x refl refl refl
    (record { firm = record { on_disk = refl; no_part = no_part }; since = inr (inr (inl refl), inl refl); later = inr (inr (inl refl), inl refl); bare = λ none was. two_none was }) is)
  where
    k : KeepsFiles (deleted.log []) (new.begun_with new.link_plan) (new.made_with new.link_plan) (new.made_with new.link_plan) image
    k = keeps_law (deleted.log []) new.link_log (new.made_with new.link_plan) new.link_stand deleted.small_tree refl new.link_traced (new.begun_with new.link_plan) (new.made_with new.link_plan) (new.made_with new.link_plan) 1 image (inl (refl, refl, refl)) left

-- a file is given a mode: it has that, or the one before
pub moded_file : (image : FileSystem) → IsCrashImage given.synced_log 3 image → (x : Value) × (value_at image deleted.another ≡ Some x) × ((x ≡ value file) ⊎ Among (value (with_mode moded.mode file) ∷ []) x)
moded_file image left =
    k.overwritten (jobs.Sets deleted.another moded.mode) deleted.another (value file) refl refl refl no_part
    (record { firm = record { on_disk = refl; no_part = no_part }; since = inr (inr (inl refl), inl refl); later = inr (inr (inl refl), inl refl); bare = λ none was. some_stands (value file) none })
  where
    k : KeepsFiles (deleted.log (moded.given ∷ Syncs 1 ∷ [])) moded.turned_entries given.given_entries given.given_entries image
    k = keeps_law (deleted.log []) given.synced_log (given.end ∷ given.both_entries) (stand [] []) deleted.small_tree refl given.ended_traced moded.turned_entries given.given_entries given.given_entries 3 image (inr (inr (inr (inr (inl (refl, refl, refl)))))) left

-- a folder that a move emptied is removed: it is there, or gone
pub emptied_folder : (image : FileSystem) → IsCrashImage emptied.last_log 4 image → (value_at image emptied.outer.source ≡ Some (value folder)) ⊎ (value_at image emptied.outer.source ≡ None)
emptied_folder image left =
    k.deleted (jobs.RemovesEmptied emptied.outer.source) emptied.outer.source refl refl
    (record { firm = record { on_disk = refl; no_part = no_part }; since = inr (inr (inl refl), inl refl); later = inr (inr (inl refl), inl refl); bare = λ none was. some_stands (value folder) none })
  where
    k : KeepsFiles (emptied.log (emptied.renamed ∷ Syncs 2 ∷ Syncs 1 ∷ [])) emptied.emptied_entries emptied.removed_entries emptied.removed_entries image
    k = keeps_law (emptied.log []) emptied.last_log (emptied.end ∷ emptied.last_entries) (stand [] []) emptied.small_tree refl emptied.ended_traced emptied.emptied_entries emptied.removed_entries emptied.removed_entries 4 image (inr (inr (inr (inr (inl (refl, refl, refl)))))) left
