-- The copy of a tree stays that of one job: each step, skip and retry leaves its number.
use Rattle.std.proofs.Common.{◌≡◌, ℕ, suc, zero, Bool, List, [], ◌∷◌, refl, ◌∙◌, ap, inl, inr, Option}
use Rattle.mc_text.specs.Routes.{Route}
use Rattle.tree_trait.specs.Change.{CallLog}
use Rattle.job_answers.specs.declared.replies.Replies.{Replies}
use Rattle.job_reports.specs.declared.report.Cause.{Cause}
use Rattle.job_reports.specs.declared.report.Did.{Did}
use Rattle.copy_file.specs.Copying as file
use Rattle.copy_file.specs.Copying.{Copying}
use Rattle.copy_link.specs.LinkCopying as link
use Rattle.copy_link.specs.LinkCopying.{LinkCopying}
use Rattle.copy_tree.specs.Parts.{IsPartPlace}
use Rattle.copy_tree.specs.Progress.{link_progress, progress}
use Rattle.copy_tree.specs.Skipping as machine
use Rattle.copy_tree.specs.Skipping.{SkipsNamed, retried_at}
use Rattle.copy_tree.specs.Standing.{Seen}
use Rattle.copy_tree.specs.TreeCopySteps.{CopySteps, LeavesAll, LinkWorks, TakesNext, WorksOn, copy_after_progress, idle, link_begun, noted_copy}
use Rattle.copy_tree.specs.declared.item.ItemAtWork.{ItemAtWork}
use Rattle.copy_tree.specs.declared.item.ItemAtWork.TheVariants.{Next, File, Link, Stays}
use Rattle.copy_tree.specs.declared.progress.Progress.{Progress}
use Rattle.copy_tree.specs.declared.progress.Progress.TheVariants.{UnderWay, Decided, Anew}
use Rattle.laws_sessions.proofs.FileMoves.{FileMoves, taken_moves, worked_moves}

settled_number : (p : Progress) (item : ItemAtWork) (c : Seen) → (let s : Seen = copy_after_progress p item c in s.job) ≡ c.job
settled_number UnderWay item c = refl
settled_number Decided item c = refl
settled_number Anew item c = refl

module _ (unclaimed : Route → Type 0) (replies : Replies) (old new : Seen) (did : Did) (before after : Option CallLog) where
  file_number : (f : Copying) → FileMoves unclaimed f old new did before after → new.job ≡ old.job
  file_number f w =
      let moved = w.moved in
      ap (λ (c : Seen). c.job) w.stands ∙ settled_number (progress moved.stage) (File moved) (noted_copy did (file.is_dirty moved.folder) (idle old))

  link_number : (l : LinkCopying) → LinkWorks l old new did before after → new.job ≡ old.job
  link_number l w =
      let moved = w.moved in
      ap (λ (c : Seen). c.job) w.stands ∙ settled_number (link_progress moved.stage) (Link moved) (noted_copy did (link.is_dirty moved.folder) (idle old))

  next_number : TakesNext unclaimed replies old new did before after → new.job ≡ old.job
  next_number (inl s) = ap (λ (c : Seen). c.job) s.stands
  next_number (inr (inl t)) = file_number (file.begun_copy old.job t.pair.source t.pair.target) (taken_moves unclaimed replies old new did before after t)
  next_number (inr (inr (inl t))) = link_number (link_begun t.pair t.part) t.works
  next_number (inr (inr (inr (inl t)))) = (let w = t.works in ap (λ (c : Seen). c.job) w.stands)
  next_number (inr (inr (inr (inr (inl t))))) = ap (λ (c : Seen). c.job) t.stands
  next_number (inr (inr (inr (inr (inr (inl t)))))) = ap (λ (c : Seen). c.job) t.stands
  next_number (inr (inr (inr (inr (inr (inr (inl t))))))) = ap (λ (c : Seen). c.job) t.stands
  next_number (inr (inr (inr (inr (inr (inr (inr (next, inl (debt, ends))))))))) = ap (λ (c : Seen). c.job) ends.stands
  next_number (inr (inr (inr (inr (inr (inr (inr (next, inr (debt, f, same))))))))) = ap (λ (c : Seen). c.job) f.stands

  works_number : (item : ItemAtWork) → WorksOn item unclaimed replies old new did before after → new.job ≡ old.job
  works_number Next (inl s) = ap (λ (c : Seen). c.job) s.stands
  works_number Next (inr takes) = next_number takes.1
  works_number (File f) w = file_number f (worked_moves unclaimed f old new did before after w)
  works_number (Link l) w = link_number l w
  works_number (Stays part) w = absurd w

pub leaves_number : (n : ℕ) (old mid : Seen) → LeavesAll n old mid → mid.job ≡ old.job
leaves_number zero old mid is = ap (λ (c : Seen). c.job) is
leaves_number (suc n) old mid (last, all, none, one) = let r = one.returns in ap (λ (c : Seen). c.job) r.stands ∙ leaves_number n old last all

pub step_number : (free : Route → Bool) (replies : Replies) (old new : Seen) (did : Did) (count : ℕ) (before after : Option CallLog) (f0 f1 : ℕ) → CopySteps free replies old new did count before after f0 f1 → new.job ≡ old.job
step_number free replies old new did count before after f0 f1 s =
    let mid = s.mid in works_number (IsPartPlace free mid) replies mid new did before after mid.item s.works ∙ leaves_number s.folders old mid s.leaves

next_skips : (names : List (List ℕ)) (cause : Cause) (old new : Seen) (did : Did) → SkipsNamed names cause old did new → new.job ≡ old.job
next_skips [] cause old new did (moved, skips, stands) = ap (λ (c : Seen). c.job) stands
next_skips (name ∷ names) cause old new did (inl done) = ap (λ (c : Seen). c.job) done.1
next_skips (name ∷ names) cause old new did (inr (inl (long, inl done))) = ap (λ (c : Seen). c.job) done.1
next_skips (name ∷ names) cause old new did (inr (inl (long, inr room))) = ap (λ (c : Seen). c.job) room.1
next_skips (name ∷ names) cause old new did (inr (inr room)) = ap (λ (c : Seen). c.job) room.1

pub skips_number : (item : ItemAtWork) (cause : Cause) (old new : Seen) (did : Did) → machine.SkipsAt item cause old did new → new.job ≡ old.job
skips_number Next cause old new did s = next_skips old.levels.inner.names.names cause old new did s
skips_number (File f) cause old new did (moved, skips, stands) = ap (λ (c : Seen). c.job) stands ∙ settled_number (progress moved.stage) (File moved) (idle old)
skips_number (Link l) cause old new did (moved, skips, stands) = ap (λ (c : Seen). c.job) stands ∙ settled_number (link_progress moved.stage) (Link moved) (idle old)
skips_number (Stays part) cause old new did s = absurd s

pub retried_number : (item : ItemAtWork) (c : Seen) → (let s : Seen = retried_at item c in s.job) ≡ c.job
retried_number Next c = refl
retried_number (File f) c = settled_number (progress (file.taken_anew f.stage)) (File (record f { stage = file.taken_anew f.stage })) (idle c)
retried_number (Link l) c = settled_number (link_progress (link.taken_anew l.stage)) (Link (record l { stage = link.taken_anew l.stage })) (idle c)
retried_number (Stays part) c = refl
