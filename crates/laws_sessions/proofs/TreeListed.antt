-- What a step of a copy of folders makes of the list of dirty folders, where nothing is at work.
use Rattle.std.proofs.Common.{◌≡◌, Bool, true, false, List, [], ◌∷◌, ◌++◌, refl, sym, ◌∙◌, ap, subst, inl, inr, None}
use Rattle.std.specs.Prelude.{if◌then◌else◌}
use Rattle.std.proofs.lemmas.Bool.{or_left, or_right}
use Rattle.mc_text.specs.Routes.{Route, same_path}
use Rattle.tree_trait.specs.Change.{CallLog, current}
use Rattle.tree_trait.specs.CrashImages.{Among}
use Rattle.tree_trait.proofs.Visible.{same_path-self}
use Rattle.laws_crash.specs.Guarded.{Marks}
use Rattle.job_reports.specs.declared.report.Did.{Did}
use Rattle.copy_folders.specs.FolderCopying as folder
use Rattle.copy_folders.specs.Levels.{Levels, dirtied_levels, is_around_dirty}
use Rattle.job_unsynced.specs.Folders.{is_one_of, joined_folders, with_change as change_list}
use Rattle.copy_tree.specs.Standing.{Seen}
use Rattle.copy_tree.specs.TreeCopySteps.{idle, noted_copy, copy_after_progress}
use Rattle.copy_tree.specs.declared.item.ItemAtWork.{ItemAtWork}
use Rattle.copy_tree.specs.declared.item.ItemAtWork.TheVariants.{Next}
use Rattle.copy_tree.specs.declared.progress.Progress.{Progress}
use Rattle.copy_tree.specs.declared.progress.Progress.TheVariants.{UnderWay, Decided, Anew}
use Rattle.copy_job.specs.Marks.{brings_in, folder_worked, is_dirty_after, is_left_dirty, was_dirty}
use Rattle.copy_job.specs.Standing.{SubtreeCopying}
use Rattle.copy_job.proofs.Listed.{of_inner}
use Rattle.copy_move.specs.declared.run.Course.TheVariants.{GoesOn}
use Rattle.laws_sessions.proofs.DeletionSteps.{same_dirty}
use Rattle.laws_sessions.proofs.Knowing.{IsKept, HistoryFacts}
use Rattle.laws_sessions.proofs.ListSteps.{inner_listed, leaves_listed}
use Rattle.laws_sessions.proofs.TreeBefore.{Before, Result}
use Rattle.laws_sessions.proofs.TreeKnown.{ItemHas}
use Rattle.laws_sessions.proofs.TreePlaces.{nested_of}

-- what is one of these doesn't join them
one_of_among : (up : Route) (dirty : List Route) → Among dirty up → is_one_of up dirty ≡ true
one_of_among up [] among = absurd among
one_of_among up (first ∷ dirty) (inl here) = or_left (same_path first up) (is_one_of up dirty) (subst (λ q. same_path q up ≡ true) here (same_path-self up))
one_of_among up (first ∷ dirty) (inr more) = or_right (same_path first up) (is_one_of up dirty) (one_of_among up dirty more)

joined_same : (up : Route) (dirty : List Route) → Among dirty up → joined_folders up dirty ≡ dirty
joined_same up dirty among = ap (λ b. if b then dirty else dirty ++ up ∷ []) (one_of_among up dirty among)

-- a folder that is listed where it is marked, and is changed, joins the list
pub joins_list : (was : Bool) (up : Route) (dirty : List Route) → (was ≡ true → Among dirty up) → change_list was true up dirty ≡ joined_folders up dirty
joins_list true up dirty listed = sym (joined_same up dirty (listed refl))
joins_list false up dirty listed = refl

noted_names : (p : Progress) (item : ItemAtWork) (did : Did) (changed : Bool) (c : Seen)
    → (let s : Seen = copy_after_progress p item (noted_copy did changed c) in s.levels.inner.copy.names) ≡ (let d : Levels = dirtied_levels changed c.levels in d.inner.copy.names)
noted_names UnderWay item did changed c = refl
noted_names Decided item did changed c = refl
noted_names Anew item did changed c = refl

-- a name in the folder that is worked was changed, or none was
pub noted_dirty : (p : Progress) (item : ItemAtWork) (did : Did) (changed : Bool) (c new : Seen) → new ≡ copy_after_progress p item (noted_copy did changed (idle c)) → changed ≡ true → folder.is_dirty new.levels.inner.copy.names ≡ true
noted_dirty p item did changed c new is so =
    ap (λ (x : Seen). folder.is_dirty x.levels.inner.copy.names) is
    ∙ (ap folder.is_dirty (noted_names p item did changed (idle c)) ∙ ap (λ b. (let d : Levels = dirtied_levels b c.levels in folder.is_dirty d.inner.copy.names)) so)

pub noted_clean : (p : Progress) (item : ItemAtWork) (did : Did) (changed : Bool) (c new : Seen) → new ≡ copy_after_progress p item (noted_copy did changed (idle c)) → changed ≡ false
    → folder.is_dirty new.levels.inner.copy.names ≡ folder.is_dirty c.levels.inner.copy.names
noted_clean p item did changed c new is so =
    ap (λ (x : Seen). folder.is_dirty x.levels.inner.copy.names) is
    ∙ (ap folder.is_dirty (noted_names p item did changed (idle c)) ∙ ap (λ b. (let d : Levels = dirtied_levels b c.levels in folder.is_dirty d.inner.copy.names)) so)

module _ (told : HistoryFacts) (dirty dirty_after : List Route) (marks : Marks) (log now : CallLog) (kept : IsKept told dirty marks log) (c : SubtreeCopying) (mid : Seen) (b : Before told dirty marks log c mid) (none : mid.item ≡ Next)
    (clean : is_around_dirty mid.levels.around ≡ false) (free : Route → Bool) where
  abbrev Comes_to : Did → Seen → Type 0
  Comes_to did new = Result told dirty dirty_after log now c did new

  abbrev Listed : Did → Seen → Type 0
  Listed did new = dirty_after ≡ change_list (was_dirty mid) (is_dirty_after mid did new) (folder_worked mid) dirty

  abbrev up : Route
  up = mid.levels.inner.copy.target

  abbrev was : Bool
  was = folder.is_dirty mid.levels.inner.copy.names

  pub no_part : told.part ≡ None
  no_part = subst (λ i. ItemHas told dirty marks (current log) GoesOn i) none b.part

  -- the innermost folder is listed where it is marked
  pub inner_there : was ≡ true → Among dirty up
  inner_there = let s = b.stands in
      inner_listed dirty mid.levels.inner mid.levels.around (leaves_listed dirty b.n c.at mid b.leaves (nested_of c.at.name c.at.levels.inner c.at.levels.around s.laid) s.listed).1

  -- it is the one that the list is changed by
  pub list_here : (did : Did) (new : Seen) → Listed did new → dirty_after ≡ change_list was (is_left_dirty did new) up dirty
  list_here did new list = list ∙ sym (of_inner mid new did dirty (ap (λ i. brings_in i mid.levels) none ∙ clean))

  pub list_joins : (did : Did) (new : Seen) → Listed did new → is_left_dirty did new ≡ true → dirty_after ≡ joined_folders up dirty
  list_joins did new list dirtied_now = list_here did new list ∙ (ap (λ x. change_list was x up dirty) dirtied_now ∙ joins_list was up dirty inner_there)

  pub list_stays : (did : Did) (new : Seen) → Listed did new → is_left_dirty did new ≡ was → dirty_after ≡ dirty
  list_stays did new list same = list_here did new list ∙ (ap (λ x. change_list was x up dirty) same ∙ same_dirty was up dirty)
