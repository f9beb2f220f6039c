-- The one call of a step, with its answer.
use Rattle.std.proofs.Common.{◌≡◌, List, refl, sym, ◌∙◌, ap, subst, Option, Some, None, Result, Ok, Err}
use Rattle.mc_text.specs.Routes.{Route, parent_of}
use Rattle.tree_trait.specs.Answered.{Answered, with_answer}
use Rattle.tree_trait.specs.Calls.{Call, SyncFolder}
use Rattle.tree_trait.specs.declared.calls.TreeError.{TreeError}
use Rattle.tree_trait.specs.declared.calls.TreeError.TheVariants as refused
use Rattle.job_reports.specs.declared.report.Trouble.{Trouble}
use Rattle.job_reports.specs.declared.report.Did.{Did}
use Rattle.job_reports.specs.declared.report.Did.TheVariants.{Made, Barrier, Troubled, Ended}
use Rattle.job_reports.specs.declared.report.Ending.{Ending}
use Rattle.job_reports.specs.Stops.{cause_of, refusal_in}
use Rattle.job_reports.proofs.Tried.{answered}
use Rattle.make_job.specs.Makings.{Making, call_of, sync_of}
use Rattle.make_job.specs.MakingAnswers.{MakingAnswered, LastMakingAnswered, with_answer_of}
use Rattle.make_job.specs.NewThings.{making_call}
use Rattle.make_job.proofs.MakingRuns.{sync_call}

module _ (m : Making) (before after : List Answered) (did : Did) where
  -- the thing was made
  pub answered_made : (call : Call) → did ≡ Made m.path → call ≡ making_call m.thing m.path → after ≡ with_answer call (Ok tt) before → MakingAnswered m did before after
  answered_made call is made told =
      subst (λ d. MakingAnswered m d before after) (sym is) (told ∙ ap (λ c. with_answer c (Ok tt) before) made)

  -- the folder was synced
  pub answered_synced : (folder : Route) → did ≡ Barrier → parent_of m.path ≡ Some folder → after ≡ with_answer (SyncFolder folder) (Ok tt) before → MakingAnswered m did before after
  answered_synced folder is within told =
      subst (λ d. MakingAnswered m d before after) (sym is)
      (told ∙ ap (λ call. with_answer_of call (Ok tt) before) (sym (sync_call m.path folder within)))

  -- the call was refused
  pub answered_refused : (t : Trouble) (call : Call) (e : TreeError) → did ≡ Troubled t → call_of m.thing m.stage m.path ≡ Some call → t.cause ≡ cause_of e
      → after ≡ with_answer call (Err e) before → MakingAnswered m did before after
  answered_refused t call e is next cause told =
      subst (λ d. MakingAnswered m d before after) (sym is)
      (e, cause, told ∙ ap (λ o. with_answer_of o (Err e) before) (sym next))

  -- there was no memory, and no call was made
  pub answered_unmade : (t : Trouble) → did ≡ Troubled t → t.cause ≡ cause_of refused.Memory → after ≡ before → MakingAnswered m did before after
  answered_unmade t is cause same =
      subst (λ d. MakingAnswered m d before after) (sym is) (refused.Memory, cause, same ∙ unmade (call_of m.thing m.stage m.path))
    where
      unmade : (call : Option Call) → before ≡ with_answer_of call (Err refused.Memory) before
      unmade None = refl
      unmade (Some call) = refl

  -- nothing was left to be done
  pub answered_ended : (ending : Ending) → did ≡ Ended ending None → after ≡ before → MakingAnswered m did before after
  answered_ended ending is same = subst (λ d. MakingAnswered m d before after) (sym is) same

  -- the sync was tried, and its refusal is told
  pub answered_tried : (left : Option TreeError) (folder : Route) (answer : Result (Unit {0}) TreeError) → did ≡ Barrier → left ≡ refusal_in answer → parent_of m.path ≡ Some folder
      → after ≡ with_answer (SyncFolder folder) answer before → LastMakingAnswered m did left before after
  answered_tried left folder answer is left_is within told =
      subst (λ d. LastMakingAnswered m d left before after) (sym is)
      (subst (λ a. after ≡ with_answer_of (sync_of m.path) a before) (answered answer left left_is)
      (told ∙ ap (λ call. with_answer_of call answer before) (sym (sync_call m.path folder within))))

  pub last_ended : (ending : Ending) (left : Option TreeError) → did ≡ Ended ending None → after ≡ before → LastMakingAnswered m did left before after
  last_ended ending left is same = subst (λ d. LastMakingAnswered m d left before after) (sym is) same
