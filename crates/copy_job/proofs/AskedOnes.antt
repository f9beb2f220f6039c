-- A step that asks, or that keeps what stands at a target: it is of what is taken up, and of nothing that is passed over.
use Rattle.std.proofs.Common.{◌≡◌, ℕ, refl, sym, ◌∙◌, ap, subst, inl, inr, Bool, true, false, List, [], ◌∷◌, Option}
use Rattle.mc_text.specs.Routes.{Route}
use Rattle.tree_trait.specs.Change.{CallLog}
use Rattle.job_answers.specs.declared.replies.Replies.{Replies}
use Rattle.job_reports.specs.declared.question.Question.{Question}
use Rattle.job_reports.specs.declared.report.Cause.{Cause}
use Rattle.job_reports.specs.declared.report.Did.{Did}
use Rattle.job_reports.specs.declared.report.Did.TheVariants.{Began, Chunk, Placed, Removed, Made, Set, Kept, Skipped, Cleaned, Barrier, Asked, Merges, Moved, Troubled, Ended}
use Rattle.job_reports.specs.declared.report.StepResult.{StepResult}
use Rattle.copy_folders.specs.declared.stage.FolderDid.{FolderDid}
use Rattle.copy_folders.specs.declared.stage.FolderDid.TheVariants as folder_did
use Rattle.copy_tree.specs.declared.item.ItemAtWork.{ItemAtWork}
use Rattle.copy_tree.specs.declared.item.ItemAtWork.TheVariants.{Next, File, Link, Stays}
use Rattle.copy_tree.specs.Parts.{IsPartPlace}
use Rattle.copy_tree.specs.Reports.{IsToldAs}
use Rattle.copy_tree.specs.Skipping as machine
use Rattle.copy_tree.specs.Standing.{Seen}
use Rattle.copy_tree.specs.TreeCopySteps.{TakesAsked, TakesKept, TakesNext, WorksOn}
use Rattle.copy_job.specs.Leaving.{may_leave}
use Rattle.copy_job.specs.SubtreeSteps.{ListSteps}
use Rattle.copy_job.proofs.Targets.{works_at_once}

-- neither is told of a folder itself
folder_no_ask : (report : FolderDid) (question : Question) → IsToldAs report (Asked question) → ⊥
folder_no_ask (folder_did.Made path) question told = let g : ⊥ = cc in g
folder_no_ask (folder_did.Set path) question told = let g : ⊥ = cc in g
folder_no_ask folder_did.Barrier question told = let g : ⊥ = cc in g
folder_no_ask folder_did.Closed question told = told
folder_no_ask (folder_did.Troubled trouble) question told = let g : ⊥ = cc in g

folder_no_keep : (report : FolderDid) (path : Route) → IsToldAs report (Kept path) → ⊥
folder_no_keep (folder_did.Made made) path told = let g : ⊥ = cc in g
folder_no_keep (folder_did.Set set) path told = let g : ⊥ = cc in g
folder_no_keep folder_did.Barrier path told = let g : ⊥ = cc in g
folder_no_keep folder_did.Closed path told = told
folder_no_keep (folder_did.Troubled trouble) path told = let g : ⊥ = cc in g

module _ (unclaimed : Route → Type 0) (replies : Replies) (old new : Seen) (question : Question) (before after : Option CallLog) where
  abbrev Asks : Type 0
  Asks = TakesAsked replies old new (Asked question) before after

  takes_asked : TakesNext unclaimed replies old new (Asked question) before after → Asks
  takes_asked (inl s) = absurd (let e = s.says in let g : ⊥ = cc in g)
  takes_asked (inr (inl t)) = (let w = t.works in absurd w.tells)
  takes_asked (inr (inr (inl t))) = (let w = t.works in absurd w.tells)
  takes_asked (inr (inr (inr (inl t)))) = (let w = t.works in absurd (folder_no_ask w.report question w.says))
  takes_asked (inr (inr (inr (inr (inl t))))) = absurd (let e = t.says in let g : ⊥ = cc in g)
  takes_asked (inr (inr (inr (inr (inr (inl t)))))) = absurd (let e = t.says in let g : ⊥ = cc in g)
  takes_asked (inr (inr (inr (inr (inr (inr (inl t))))))) = t
  takes_asked (inr (inr (inr (inr (inr (inr (inr (next, inl (debt, e))))))))) = absurd (folder_no_ask e.report question e.says)
  takes_asked (inr (inr (inr (inr (inr (inr (inr (next, inr (debt, f, same))))))))) = absurd (let e = f.says in let g : ⊥ = cc in g)

  works_asked : (item : ItemAtWork) → WorksOn item unclaimed replies old new (Asked question) before after → (item ≡ Next) × Asks
  works_asked Next (inl s) = absurd (folder_no_ask s.report question s.says)
  works_asked Next (inr t) = (refl, takes_asked t.1)
  works_asked (File f) w = absurd w.tells
  works_asked (Link l) w = absurd w.tells
  works_asked (Stays part) w = absurd w

module _ (unclaimed : Route → Type 0) (replies : Replies) (old new : Seen) (path : Route) (before after : Option CallLog) where
  abbrev Keeps : Type 0
  Keeps = TakesKept replies old new (Kept path) before after

  takes_kept : TakesNext unclaimed replies old new (Kept path) before after → Keeps
  takes_kept (inl s) = absurd (let e = s.says in let g : ⊥ = cc in g)
  takes_kept (inr (inl t)) = (let w = t.works in absurd w.tells)
  takes_kept (inr (inr (inl t))) = (let w = t.works in absurd w.tells)
  takes_kept (inr (inr (inr (inl t)))) = (let w = t.works in absurd (folder_no_keep w.report path w.says))
  takes_kept (inr (inr (inr (inr (inl t))))) = absurd (let e = t.says in let g : ⊥ = cc in g)
  takes_kept (inr (inr (inr (inr (inr (inl t)))))) = t
  takes_kept (inr (inr (inr (inr (inr (inr (inl t))))))) = absurd (let e = t.says in let g : ⊥ = cc in g)
  takes_kept (inr (inr (inr (inr (inr (inr (inr (next, inl (debt, e))))))))) = absurd (folder_no_keep e.report path e.says)
  takes_kept (inr (inr (inr (inr (inr (inr (inr (next, inr (debt, f, same))))))))) = absurd (let e = f.says in let g : ⊥ = cc in g)

  works_kept : (item : ItemAtWork) → WorksOn item unclaimed replies old new (Kept path) before after → (item ≡ Next) × Keeps
  works_kept Next (inl s) = absurd (folder_no_keep s.report path s.says)
  works_kept Next (inr t) = (refl, takes_kept t.1)
  works_kept (File f) w = absurd w.tells
  works_kept (Link l) w = absurd w.tells
  works_kept (Stays part) w = absurd w

-- a step with the list of dirty folders
pub list_asked : (free : Route → Bool) (replies : Replies) (old new : Seen) (worked : StepResult) (question : Question) (dirty dirty_after : List Route) (before after : Option CallLog) (f0 f1 : ℕ)
    → ListSteps free replies old new worked dirty dirty_after before after f0 f1 → may_leave old ≡ false → worked.did ≡ Asked question → (old.item ≡ Next) × TakesAsked replies old new (Asked question) before after
list_asked free replies old new worked question dirty dirty_after before after f0 f1 (inl s) settled is = absurd (let e = sym is ∙ ap (λ (r : StepResult). r.did) s.says in let g : ⊥ = cc in g)
list_asked free replies old new worked question dirty dirty_after before after f0 f1 (inr s) settled is =
    works_asked (IsPartPlace free old) replies old new question before after old.item
    (subst (λ (d : Did). WorksOn old.item (IsPartPlace free old) replies old new d before after) is (works_at_once free replies old new worked.did worked.calls before after f0 f1 s.steps settled))

pub list_kept : (free : Route → Bool) (replies : Replies) (old new : Seen) (worked : StepResult) (path : Route) (dirty dirty_after : List Route) (before after : Option CallLog) (f0 f1 : ℕ)
    → ListSteps free replies old new worked dirty dirty_after before after f0 f1 → may_leave old ≡ false → worked.did ≡ Kept path → (old.item ≡ Next) × TakesKept replies old new (Kept path) before after
list_kept free replies old new worked path dirty dirty_after before after f0 f1 (inl s) settled is = absurd (let e = sym is ∙ ap (λ (r : StepResult). r.did) s.says in let g : ⊥ = cc in g)
list_kept free replies old new worked path dirty dirty_after before after f0 f1 (inr s) settled is =
    works_kept (IsPartPlace free old) replies old new path before after old.item
    (subst (λ (d : Did). WorksOn old.item (IsPartPlace free old) replies old new d before after) is (works_at_once free replies old new worked.did worked.calls before after f0 f1 s.steps settled))

-- nor of what is passed over
named_no_ask : (names : List (List ℕ)) (cause : Cause) (old new : Seen) (question : Question) → machine.SkipsNamed names cause old (Asked question) new → ⊥
named_no_ask [] cause old new question (moved, inl s, stands) = let e = s.0 in let g : ⊥ = cc in g
named_no_ask [] cause old new question (moved, inr s, stands) = let e = s.0 in let g : ⊥ = cc in g
named_no_ask (name ∷ names) cause old new question (inl s) = let e = s.0 in let g : ⊥ = cc in g
named_no_ask (name ∷ names) cause old new question (inr (inl (long, inl s))) = let e = s.0 in let g : ⊥ = cc in g
named_no_ask (name ∷ names) cause old new question (inr (inl (long, inr s))) = let e = s.0 in let g : ⊥ = cc in g
named_no_ask (name ∷ names) cause old new question (inr (inr s)) = let e = s.0 in let g : ⊥ = cc in g

pub skip_no_ask : (item : ItemAtWork) (cause : Cause) (old new : Seen) (question : Question) → machine.SkipsAt item cause old (Asked question) new → ⊥
skip_no_ask Next cause old new question s = named_no_ask old.levels.inner.names.names cause old new question s
skip_no_ask (File f) cause old new question (moved, inl s, stands) = let e = s.0 in let g : ⊥ = cc in g
skip_no_ask (File f) cause old new question (moved, inr s, stands) = let e = s.0 in let g : ⊥ = cc in g
skip_no_ask (Link l) cause old new question (moved, inl s, stands) = let e = s.0 in let g : ⊥ = cc in g
skip_no_ask (Link l) cause old new question (moved, inr s, stands) = let e = s.0 in let g : ⊥ = cc in g
skip_no_ask (Stays part) cause old new question s = s

named_no_keep : (names : List (List ℕ)) (cause : Cause) (old new : Seen) (path : Route) → machine.SkipsNamed names cause old (Kept path) new → ⊥
named_no_keep [] cause old new path (moved, inl s, stands) = let e = s.0 in let g : ⊥ = cc in g
named_no_keep [] cause old new path (moved, inr s, stands) = let e = s.0 in let g : ⊥ = cc in g
named_no_keep (name ∷ names) cause old new path (inl s) = let e = s.0 in let g : ⊥ = cc in g
named_no_keep (name ∷ names) cause old new path (inr (inl (long, inl s))) = let e = s.0 in let g : ⊥ = cc in g
named_no_keep (name ∷ names) cause old new path (inr (inl (long, inr s))) = let e = s.0 in let g : ⊥ = cc in g
named_no_keep (name ∷ names) cause old new path (inr (inr s)) = let e = s.0 in let g : ⊥ = cc in g

pub skip_no_keep : (item : ItemAtWork) (cause : Cause) (old new : Seen) (path : Route) → machine.SkipsAt item cause old (Kept path) new → ⊥
skip_no_keep Next cause old new path s = named_no_keep old.levels.inner.names.names cause old new path s
skip_no_keep (File f) cause old new path (moved, inl s, stands) = let e = s.0 in let g : ⊥ = cc in g
skip_no_keep (File f) cause old new path (moved, inr s, stands) = let e = s.0 in let g : ⊥ = cc in g
skip_no_keep (Link l) cause old new path (moved, inl s, stands) = let e = s.0 in let g : ⊥ = cc in g
skip_no_keep (Link l) cause old new path (moved, inr s, stands) = let e = s.0 in let g : ⊥ = cc in g
skip_no_keep (Stays part) cause old new path s = s
