-- The folder of the file or link at work is the one that is worked.
use Rattle.std.proofs.Common.{◌≡◌, ℕ, zero, suc, refl, sym, ◌∙◌, ap, subst, inl, inr, Bool, true, false, List, [], ◌∷◌, Option, None}
use Rattle.mc_text.specs.Routes.{Route}
use Rattle.job_answers.specs.declared.replies.Replies.{Replies}
use Rattle.tree_trait.specs.Change.{CallLog}
use Rattle.job_reports.specs.declared.job.Pair.{Pair}
use Rattle.job_reports.specs.declared.report.Cause.{Cause}
use Rattle.job_reports.specs.declared.report.Did.{Did}
use Rattle.job_reports.specs.Paths.{folder_of}
use Rattle.copy_file.specs.Copying as file
use Rattle.copy_file.specs.Copying.{Copying}
use Rattle.copy_file.specs.CopySteps as file_steps
use Rattle.copy_link.specs.LinkCopying as link
use Rattle.copy_link.specs.LinkCopying.{LinkCopying}
use Rattle.copy_link.specs.LinkSteps as link_steps
use Rattle.copy_tree.specs.declared.due.Due.TheVariants.{Thing}
use Rattle.copy_tree.specs.declared.item.ItemAtWork.{ItemAtWork}
use Rattle.copy_tree.specs.declared.item.ItemAtWork.TheVariants.{Next, File, Link, Stays}
use Rattle.copy_tree.specs.declared.progress.Progress.{Progress}
use Rattle.copy_tree.specs.declared.progress.Progress.TheVariants.{UnderWay, Decided, Anew}
use Rattle.copy_folders.specs.Levels.{Levels, dirtied_levels}
use Rattle.copy_tree.specs.Parts.{IsPartPlace}
use Rattle.copy_tree.specs.Progress.{link_progress, progress}
use Rattle.copy_tree.specs.Skipping.{SkipsAt, SkipsName, SkipsNamed, SkipsRest, retried_at}
use Rattle.copy_tree.specs.Standing.{Seen, due_at, pair_of}
use Rattle.copy_tree.specs.TreeCopySteps.{FileWorks, GoesOn, LeavesAll, LinkWorks, TakesNext, WorksOn, at_end, idle, link_begun, noted_copy, copy_after_progress}
use Rattle.copy_tree.specs.WorkedFolder.{IsInWorked, ItemIn, WorkedFolderLaw}
use Rattle.copy_tree.proofs.InPlaces.{file_paths, link_paths}
use Rattle.copy_tree.proofs.PartsBegin.{file_taken}

-- the folder that is worked
abbrev folder_at : Seen → Route
folder_at c = c.levels.inner.copy.target

-- nothing is at work
none_in : (c : Seen) → c.item ≡ Next → IsInWorked c
none_in c free = subst (ItemIn (folder_at c)) (sym free) tt

same_folder : (changed : Bool) (did : Did) (c : Seen) → folder_at (noted_copy did changed c) ≡ folder_at c
same_folder true did c = refl
same_folder false did c = refl

settled_in : (p : Progress) (item : ItemAtWork) (c : Seen) → c.item ≡ Next → ItemIn (folder_at c) item → IsInWorked (copy_after_progress p item c)
settled_in UnderWay item c free is = is
settled_in Decided item c free is = none_in (copy_after_progress Decided item c) free
settled_in Anew item c free is = none_in c free

-- what is taken up lies in the folder that is worked
pair_in : (names : List (List ℕ)) (c : Seen) (pair : Pair) → due_at names c ≡ Thing pair → folder_of pair.target ≡ folder_at c
pair_in [] c pair is = absurd (let f : ⊥ = cc in f)
pair_in (name ∷ names) c pair is = let same : pair_of c name ≡ pair = cc in ap (λ (p : Pair). folder_of p.target) (sym same)

file_step : (unclaimed : Route → Type 0) (f : Copying) (old new : Seen) (did : Did) (before after : Option CallLog) → FileWorks unclaimed f old new did before after → folder_of f.target ≡ folder_at old
    → IsInWorked new
file_step unclaimed f old new did before after w here =
    let same = file_paths f w.moved did w.tells in
    let changed = file.is_dirty w.moved.folder in
    subst IsInWorked (sym w.stands) (settled_in (progress w.moved.stage) (File w.moved) (noted_copy did changed (idle old)) refl ((ap folder_of same.1 ∙ here) ∙ sym (same_folder changed did (idle old))))

link_step : (l : LinkCopying) (old new : Seen) (did : Did) (before after : Option CallLog) → LinkWorks l old new did before after → folder_of l.target ≡ folder_at old → IsInWorked new
link_step l old new did before after w here =
    let same = link_paths l w.moved did w.tells in
    let changed = link.is_dirty w.moved.folder in
    subst IsInWorked (sym w.stands) (settled_in (link_progress w.moved.stage) (Link w.moved) (noted_copy did changed (idle old)) refl ((ap folder_of same.1 ∙ here) ∙ sym (same_folder changed did (idle old))))

takes : (unclaimed : Route → Type 0) (replies : Replies) (old new : Seen) (did : Did) (before after : Option CallLog) → TakesNext unclaimed replies old new did before after → old.item ≡ Next → IsInWorked new
takes unclaimed replies old new did before after (inl s) free = subst IsInWorked (sym s.stands) (none_in old free)
takes unclaimed replies old new did before after (inr (inl t)) free =
    file_step unclaimed (file.begun_copy old.job t.pair.source t.pair.target) old new did None None (file_taken unclaimed replies old new did before after t) (pair_in old.levels.inner.names.names old t.pair t.next)
takes unclaimed replies old new did before after (inr (inr (inl t))) free =
    link_step (link_begun t.pair t.part) old new did before after t.works (pair_in old.levels.inner.names.names old t.pair t.next)
takes unclaimed replies old new did before after (inr (inr (inr (inl t)))) free = let w = t.works in none_in new (ap (λ (c : Seen). c.item) w.stands ∙ free)
takes unclaimed replies old new did before after (inr (inr (inr (inr (inl t))))) free = none_in new (ap (λ (c : Seen). c.item) t.stands ∙ free)
takes unclaimed replies old new did before after (inr (inr (inr (inr (inr (inl t)))))) free = none_in new (ap (λ (c : Seen). c.item) t.stands ∙ free)
takes unclaimed replies old new did before after (inr (inr (inr (inr (inr (inr (inl t))))))) free = none_in new (ap (λ (c : Seen). c.item) t.stands ∙ free)
takes unclaimed replies old new did before after (inr (inr (inr (inr (inr (inr (inr (next, inl (debt, e))))))))) free = none_in new (ap (λ (c : Seen). c.item) e.stands ∙ free)
takes unclaimed replies old new did before after (inr (inr (inr (inr (inr (inr (inr (next, inr (debt, f, same))))))))) free = none_in new (ap (λ (c : Seen). c.item) f.stands ∙ free)

goes : (unclaimed : Route → Type 0) (replies : Replies) (old new : Seen) (did : Did) (before after : Option CallLog) → GoesOn unclaimed replies old new did before after → old.item ≡ Next → IsInWorked new
goes unclaimed replies old new did before after (inl s) free = none_in new (ap (λ (c : Seen). c.item) s.stands ∙ free)
goes unclaimed replies old new did before after (inr s) free = takes unclaimed replies old new did before after s.1 free

works : (unclaimed : Route → Type 0) (replies : Replies) (item : ItemAtWork) (old new : Seen) (did : Did) (before after : Option CallLog) → WorksOn item unclaimed replies old new did before after → old.item ≡ item
    → ItemIn (folder_at old) item → IsInWorked new
works unclaimed replies Next old new did before after w is here = goes unclaimed replies old new did before after w is
works unclaimed replies (File f) old new did before after w is here = file_step unclaimed f old new did before after w here
works unclaimed replies (Link l) old new did before after w is here = link_step l old new did before after w here
works unclaimed replies (Stays part) old new did before after w is here = absurd w

leaves : (n : ℕ) (old new : Seen) → LeavesAll n old new → IsInWorked old → IsInWorked new
leaves zero old new is here = subst IsInWorked (sym is) here
leaves (suc n) old new l here = let left = l.3 in let r = left.returns in none_in new (ap (λ (c : Seen). c.item) r.stands ∙ l.2)

-- skips and retries
rest_in : (cause : Cause) (old new : Seen) (did : Did) → SkipsRest cause old did new → old.item ≡ Next → IsInWorked new
rest_in cause old new did (inl s) free = none_in new (ap (λ (c : Seen). c.item) s.1 ∙ free)
rest_in cause old new did (inr s) free = none_in new (ap (λ (c : Seen). c.item) s.1 ∙ free)

name_in : (name : List ℕ) (cause : Cause) (old new : Seen) (did : Did) → SkipsName name cause old did new → old.item ≡ Next → IsInWorked new
name_in name cause old new did (inl s) free = none_in new (ap (λ (c : Seen). c.item) s.1 ∙ free)
name_in name cause old new did (inr (inl s)) free = rest_in cause old new did s.1 free
name_in name cause old new did (inr (inr s)) free = none_in new (ap (λ (c : Seen). c.item) s.1 ∙ free)

named_in : (names : List (List ℕ)) (cause : Cause) (old new : Seen) (did : Did) → SkipsNamed names cause old did new → old.item ≡ Next → IsInWorked new
named_in [] cause old new did s free = none_in new (ap (λ (c : Seen). c.item) s.2 ∙ free)
named_in (name ∷ names) cause old new did s free = name_in name cause old new did s free

file_in : (cause : Cause) (f new : Copying) (did : Did) → file_steps.Skips cause f did new → new.target ≡ f.target
file_in cause f new did (inl s) = ap (λ (x : Copying). x.target) s.1
file_in cause f new did (inr s) = ap (λ (x : Copying). x.target) s.1

link_in : (cause : Cause) (l new : LinkCopying) (did : Did) → link_steps.Skips cause l did new → new.target ≡ l.target
link_in cause l new did (inl s) = ap (λ (x : LinkCopying). x.target) s.1
link_in cause l new did (inr s) = ap (λ (x : LinkCopying). x.target) s.1

skips_in : (item : ItemAtWork) (cause : Cause) (old new : Seen) (did : Did) → SkipsAt item cause old did new → old.item ≡ item → ItemIn (folder_at old) item → IsInWorked new
skips_in Next cause old new did s is here = named_in old.levels.inner.names.names cause old new did s is
skips_in (File f) cause old new did s is here =
    subst IsInWorked (sym s.2) (settled_in (progress s.0.stage) (File s.0) (idle old) refl (ap folder_of (file_in cause f s.0 did s.1) ∙ here))
skips_in (Link l) cause old new did s is here =
    subst IsInWorked (sym s.2) (settled_in (link_progress s.0.stage) (Link s.0) (idle old) refl (ap folder_of (link_in cause l s.0 did s.1) ∙ here))
skips_in (Stays part) cause old new did s is here = absurd s

retries_in : (item : ItemAtWork) (c : Seen) → c.item ≡ item → ItemIn (folder_at c) item → IsInWorked (retried_at item c)
retries_in Next c is here = none_in c is
retries_in (File f) c is here = settled_in (progress (file.taken_anew f.stage)) (File (record f { stage = file.taken_anew f.stage })) (idle c) refl here
retries_in (Link l) c is here = settled_in (link_progress (link.taken_anew l.stage)) (Link (record l { stage = link.taken_anew l.stage })) (idle c) refl here
retries_in (Stays part) c is here = subst (ItemIn (folder_at c)) (sym is) tt

pub worked_folder_law : WorkedFolderLaw
worked_folder_law = record {
  begins = λ job source target. tt;
  step = λ free replies old new did calls before after f0 f1 s here.
      let mid = leaves s.folders old s.mid s.leaves here in
      works (IsPartPlace free s.mid) replies s.mid.item s.mid new did before after s.works refl mid;
  skip = λ cause old new did s here. skips_in old.item cause old new did s refl here;
  retry = λ old here. retries_in old.item old refl here;
}
