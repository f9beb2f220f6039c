-- What a step of a copy changes lies at or below its target.
use Rattle.std.proofs.Common.{◌≡◌, ℕ, Bool, true, List, [], ◌∷◌, sym, ◌∙◌, ap, subst, inl, inr, Option}
use Rattle.mc_text.specs.Routes.{Route, is_prefix}
use Rattle.tree_trait.specs.Change.{CallLog}
use Rattle.tree_trait.specs.CrashImages.{Among}
use Rattle.job_answers.specs.declared.replies.Replies.{Replies}
use Rattle.job_reports.specs.declared.job.Pair.{Pair}
use Rattle.job_reports.specs.declared.report.Did.{Did}
use Rattle.job_reports.specs.declared.report.Did.TheVariants.{Began, Chunk, Placed, Removed, Made, Set, Kept, Skipped, Cleaned, Barrier, Asked, Merges, Moved, Troubled, Ended}
use Rattle.job_reports.specs.declared.report.StepResult.{StepResult}
use Rattle.copy_tree.specs.InPlace.{IsInPlace, IsMoved, IsTargetOf, NamesTarget}
use Rattle.copy_tree.specs.Standing.{Seen}
use Rattle.copy_tree.proofs.InPlaces.{leaves_all, place_law}
use Rattle.copy_job.specs.Passing.{OrPassedOver}
use Rattle.copy_job.specs.Reporting.{MayTell}
use Rattle.copy_job.specs.Standing.{SubtreeCopying}
use Rattle.copy_job.specs.SubtreeSteps.{ListSteps, SubtreeSteps, step_result}
use Rattle.laws_sessions.proofs.Intact.{prefix_append}
use Rattle.laws_sessions.proofs.TreeMachine.{SaysPassed, skip_says}
use Rattle.laws_sessions.proofs.ChangedPaths.{IsChanged}

-- one path was changed
one_path : (p q : Route) → Among (p ∷ []) q → p ≡ q
one_path p q (inl is) = sym is
one_path p q (inr none) = absurd none

is_target : (top : Pair) (named path : Route) → IsTargetOf top named → named ≡ path → is_prefix top.target path ≡ true
is_target top named path target is = (let m : IsMoved top target.0 named = target.1 in subst (λ p. is_prefix top.target p ≡ true) (sym m.to ∙ is) (prefix_append top.target m.rest))

by_names : (top : Pair) (did : Did) (path : Route) → MayTell did → NamesTarget top did → IsChanged did path → is_prefix top.target path ≡ true
by_names top (Placed placed) path may names changed = is_target top placed path names (one_path placed path changed)
by_names top (Made made) path may names changed = is_target top made path names (one_path made path changed)
by_names top (Set set) path may names changed = is_target top set path names (one_path set path changed)
by_names top (Removed gone) path may names changed = absurd may
by_names top (Moved pair) path may names changed = absurd may
by_names top did path may names changed = absurd changed

module _ (c new : SubtreeCopying) (did : Did) (path : Route) (free : Route → Bool) (replies : Replies) (count : ℕ) (dirty dirty_after : List Route) (before after : Option CallLog) (f0 f1 : ℕ)
    (s : SubtreeSteps free replies c new did count dirty dirty_after before after f0 f1) (in_place : IsInPlace c.top c.at) (may : MayTell did) (changed : IsChanged did path) where
  abbrev r : StepResult
  r = s.worked

  of_works : did ≡ r.did → ListSteps free replies s.mid s.moved r dirty dirty_after before after f0 f1 → is_prefix c.top.target path ≡ true
  of_works same (inl out) = absurd (subst (λ d. IsChanged d path) (same ∙ ap (λ (x : StepResult). x.did) out.says) changed)
  of_works same (inr m) =
      let names = (place_law free replies c.top s.mid s.moved r.did r.calls before after f0 f1 m.steps (let l = s.leaves in leaves_all c.top l.0 c.at s.mid l.1 in_place)).1 in
      by_names c.top did path may (subst (NamesTarget c.top) (sym same) names) changed

  of_skip : SaysPassed did → is_prefix c.top.target path ≡ true
  of_skip (inl (left, cause, is)) = absurd (subst (λ d. IsChanged d path) is changed)
  of_skip (inr (trouble, is)) = absurd (subst (λ d. IsChanged d path) is changed)

  of_passes : OrPassedOver replies.skips r s.moved new.at (step_result did count) → is_prefix c.top.target path ≡ true
  of_passes (inl (none, same, at)) = of_works (ap (λ (x : StepResult). x.did) same) s.works
  of_passes (inr (cause, is, calls, skips)) = (let moved : Seen = s.moved in of_skip (skip_says moved.item cause moved new.at did skips))

  pub tree_touches : is_prefix c.top.target path ≡ true
  tree_touches = of_passes s.passes
