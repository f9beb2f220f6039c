-- What a step makes of the list of dirty folders.
use Rattle.std.proofs.Common.{◌≡◌, ◌&&◌, ◌-◌, not, refl, ◌∙◌, ap, Bool, true, false, List, length, take}
use Rattle.std.specs.Prelude.{if◌then◌else◌}
use Rattle.std.proofs.lemmas.Bool.{false≢true, true≢false}
use Rattle.mc_text.specs.Routes.{Route}
use Rattle.job_reports.specs.Paths.{without}
use Rattle.copy_folders.specs.FolderCopying.{is_dirty}
use Rattle.job_reports.specs.declared.report.Did.{Did}
use Rattle.copy_folders.specs.Levels.{is_around_dirty, target_around}
use Rattle.copy_tree.specs.Standing.{Seen}
use Rattle.job_unsynced.specs.Folders.{joined_folders, with_change}
use Rattle.copy_job.specs.Marks.{brings_made, folder_worked, is_dirty_after, is_left_dirty, was_dirty}

-- a folder that is dirty leaves the list where it was synced
pub leaves_list : (now : Bool) (there folder : Route) (dirty : List Route) → (now ≡ false → there ≡ folder) → (if not now then without there dirty else dirty) ≡ with_change true now folder dirty
leaves_list true there folder dirty same = refl
leaves_list false there folder dirty same = ap (λ f. without f dirty) (same refl)

-- one that stays as it is leaves the list so
pub unchanged : (was : Bool) (folder : Route) (dirty : List Route) → dirty ≡ with_change was was folder dirty
unchanged true folder dirty = refl
unchanged false folder dirty = refl

-- a clean one joins it, and stays there where it was changed
pub joins_list : (now new dropped : Bool) (folder : Route) (dirty more dirty_after : List Route) → more ≡ joined_folders folder dirty → (if new then take (length more - 1) more else more) ≡ dirty → dropped ≡ (new && not now)
    → dirty_after ≡ (if dropped then take (length more - 1) more else more) → dirty_after ≡ with_change false now folder dirty
joins_list true true dropped folder dirty more dirty_after is back off h = h ∙ (ap (λ b. if b then take (length more - 1) more else more) off ∙ is)
joins_list true false dropped folder dirty more dirty_after is back off h = h ∙ (ap (λ b. if b then take (length more - 1) more else more) off ∙ is)
joins_list false true dropped folder dirty more dirty_after is back off h = h ∙ (ap (λ b. if b then take (length more - 1) more else more) off ∙ back)
joins_list false false dropped folder dirty more dirty_after is back off h = h ∙ (ap (λ b. if b then take (length more - 1) more else more) off ∙ back)

-- by which folder is worked
chosen_outer : (brings was now there : Bool) (folder inner : Route) (dirty : List Route) → brings ≡ true
    → with_change true now folder dirty ≡ with_change (if brings then true else was) (if brings then now else there) (if brings then folder else inner) dirty
chosen_outer true was now there folder inner dirty is = refl
chosen_outer false was now there folder inner dirty is = absurd (false≢true is)

chosen_inner : (brings was now there : Bool) (folder outer : Route) (dirty : List Route) → brings ≡ false
    → with_change was now folder dirty ≡ with_change (if brings then true else was) (if brings then there else now) (if brings then outer else folder) dirty
chosen_inner false was now there folder outer dirty is = refl
chosen_inner true was now there folder outer dirty is = absurd (true≢false is)

-- that of the folder around
pub of_around : (old new : Seen) (did : Did) (dirty : List Route) → brings_made old ≡ true
    → with_change true (is_around_dirty new.levels.around) (target_around old.levels.around) dirty ≡ with_change (was_dirty old) (is_dirty_after old did new) (folder_worked old) dirty
of_around old new did dirty is =
    chosen_outer (brings_made old) (is_dirty old.levels.inner.copy.names) (is_around_dirty new.levels.around) (is_left_dirty did new) (target_around old.levels.around) old.levels.inner.copy.target dirty is

-- that of the innermost folder
pub of_inner : (old new : Seen) (did : Did) (dirty : List Route) → brings_made old ≡ false
    → with_change (is_dirty old.levels.inner.copy.names) (is_left_dirty did new) old.levels.inner.copy.target dirty ≡ with_change (was_dirty old) (is_dirty_after old did new) (folder_worked old) dirty
of_inner old new did dirty is =
    chosen_inner (brings_made old) (is_dirty old.levels.inner.copy.names) (is_left_dirty did new) (is_around_dirty new.levels.around) old.levels.inner.copy.target (target_around old.levels.around) dirty is
