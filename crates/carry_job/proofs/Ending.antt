-- What is left as it is, and the last steps.
use Rattle.std.proofs.Common.{◌≡◌, ℕ, ◌+◌, ◌≤◌, true, refl, sym, ◌∙◌, ap, subst, inl, inr, arith, Option, None, Some, Result, Ok, Err}
use Rattle.std.proofs.lemmas.Bool.{false≢true}
use Rattle.mc_text.specs.Routes.{Route}
use Rattle.tree_trait.specs.Calls.{Call, RemoveFile, SyncFolder}
use Rattle.tree_trait.specs.Change.{CallLog}
use Rattle.tree_trait.specs.Answers.{HasCause, HasRisen, Performs}
use Rattle.tree_trait.specs.declared.calls.TreeError.{TreeError}
use Rattle.tree_trait.specs.declared.calls.TreeError.TheVariants as refused
use Rattle.job_reports.specs.declared.report.Cause.{Cause}
use Rattle.job_reports.specs.declared.report.Did.{Did}
use Rattle.job_reports.specs.declared.report.Ending.{Ending}
use Rattle.job_reports.specs.CallRuns.{HasMore}
use Rattle.job_reports.specs.Paths.{folder_of}
use Rattle.job_reports.specs.Stops.{calls_made_for, refusal_in}
use Rattle.job_reports.proofs.Runs.{one_more, no_more, same_more, risen_before}
use Rattle.copy_file.specs.Copying as file
use Rattle.copy_file.specs.Copying.{Copying, Places}
use Rattle.copy_file.specs.CopySteps as file_steps
use Rattle.copy_file.specs.declared.stage.FolderState.TheVariants.{Synced, Dirty}
use Rattle.copy_file.specs.declared.stage.Stage.{Stage as FileStage}
use Rattle.copy_file.specs.declared.stage.Stage.TheVariants as file_stage
use Rattle.copy_link.specs.LinkCopying as link
use Rattle.copy_link.specs.LinkCopying.{LinkCopying, is_removable}
use Rattle.copy_link.specs.LinkSteps as link_steps
use Rattle.copy_link.specs.declared.stage.Stage.{Stage as LinkStage}
use Rattle.copy_link.specs.declared.stage.Stage.TheVariants as link_stage
use Rattle.carry_job.specs.declared.stage.CarryStage.{CarryStage}
use Rattle.carry_job.specs.declared.stage.CarryStage.TheVariants.{Take, File, Link, SyncTarget, Remove, SyncSource, Finish, Settle, PassedOver, Stays}
use Rattle.carry_job.specs.declared.winding.AfterLastStep.{AfterLastStep}
use Rattle.carry_job.specs.Carryings.{Carrying, IsFileOf, IsLinkOf, IsOwn, carrying, has_part, left_at, skipped_stage, taken_anew}
use Rattle.carry_job.specs.CarrySteps.{CarrySkips, Passes, SkipsAt}
use Rattle.carry_job.specs.LastCarrySteps.{EndsSo, LastCarryStep, LastCounts, LeavesPart, TriesPart, TriesSync, WindsAt}

-- a part that is to be removed stands
skipped_part : (stage : FileStage) → has_part stage ≡ true → has_part (file.skipped_stage stage) ≡ true
skipped_part (file_stage.Fill part facts done) h = refl
skipped_part (file_stage.Clean part follows) h = refl
skipped_part file_stage.Begin h = absurd (false≢true h)
skipped_part (file_stage.Left part) h = absurd (false≢true h)
skipped_part file_stage.Decided h = absurd (false≢true h)

skipped_link : (stage : LinkStage) → is_removable stage ≡ true → is_removable (link.skipped_stage stage) ≡ true
skipped_link link_stage.Place h = refl
skipped_link (link_stage.Clean follows) h = refl
skipped_link link_stage.Make h = absurd (false≢true h)
skipped_link link_stage.Left h = absurd (false≢true h)
skipped_link link_stage.Again h = absurd (false≢true h)
skipped_link link_stage.Decided h = absurd (false≢true h)

-- the copy that is skipped is of the same paths
pub skips_file : (p : Places) (old new : Copying) (cause : Cause) (did : Did) → IsFileOf p old → file_steps.Skips cause old did new → IsFileOf p new
skips_file p old new cause did own (inl (is, stands)) = record {
  job = ap (λ (c : Copying). c.job) stands ∙ own.job;
  source = ap (λ (c : Copying). c.source) stands ∙ own.source;
  target = ap (λ (c : Copying). c.target) stands ∙ own.target;
  part = ap (λ (c : Copying). has_part c.stage) stands ∙ skipped_part old.stage own.part;
}
skips_file p old new cause did own (inr (is, stands)) = subst (IsFileOf p) (sym stands) own

pub skips_link : (p : Places) (old new : LinkCopying) (cause : Cause) (did : Did) → IsLinkOf p old → link_steps.Skips cause old did new → IsLinkOf p new
skips_link p old new cause did own (inl (is, stands)) = record {
  source = ap (λ (c : LinkCopying). c.source) stands ∙ own.source;
  target = ap (λ (c : LinkCopying). c.target) stands ∙ own.target;
  part = ap (λ (c : LinkCopying). is_removable c.stage) stands ∙ skipped_link old.stage own.part;
}
skips_link p old new cause did own (inr (is, stands)) = subst (IsLinkOf p) (sym stands) own

-- a skip leaves no part behind that it knew of before as left
skipped_left : (stage : CarryStage) → left_at (skipped_stage stage) ≡ left_at stage
skipped_left (Take Dirty) = refl
skipped_left (Take Synced) = refl
skipped_left (File f) = refl
skipped_left (Link l) = refl
skipped_left SyncTarget = refl
skipped_left Remove = refl
skipped_left SyncSource = refl
skipped_left Finish = refl
skipped_left Settle = refl
skipped_left PassedOver = refl
skipped_left (Stays part) = refl

passes_left : (p : Places) (stage new : CarryStage) (cause : Cause) (did : Did) → Passes p stage cause did new → left_at new ≡ left_at stage
passes_left p stage new cause did (inl (is, stands)) = ap left_at stands ∙ skipped_left stage
passes_left p stage new cause did (inr (is, stands)) = ap left_at stands

pub skips_left : (p : Places) (stage new : CarryStage) (cause : Cause) (did : Did) → SkipsAt p stage cause did new → left_at new ≡ left_at stage
skips_left p (File f) new cause did (moved, skips, stands) = ap left_at stands
skips_left p (Link l) new cause did (moved, skips, stands) = ap left_at stands
skips_left p (Take folder) new cause did h = passes_left p (Take folder) new cause did h
skips_left p SyncTarget new cause did h = passes_left p SyncTarget new cause did h
skips_left p Remove new cause did h = passes_left p Remove new cause did h
skips_left p SyncSource new cause did h = passes_left p SyncSource new cause did h
skips_left p Finish new cause did h = passes_left p Finish new cause did h
skips_left p Settle new cause did h = passes_left p Settle new cause did h
skips_left p PassedOver new cause did h = passes_left p PassedOver new cause did h
skips_left p (Stays part) new cause did h = passes_left p (Stays part) new cause did h

pub skips_from : (old : Carrying) (p : Places) (stage out new : CarryStage) (cause : Cause) (did : Did) → out ≡ stage → carrying p stage ≡ old → SkipsAt p out cause did new
    → CarrySkips cause old did (carrying p new)
skips_from old p stage out new cause did is view skips =
    subst (λ (c : Carrying). CarrySkips cause c did (carrying p new)) view (record { skips = subst (λ s. SkipsAt p s cause did new) is skips; places = refl })

-- what is tried again
pub anew_left : (stage : CarryStage) → left_at (taken_anew stage) ≡ left_at stage
anew_left (Take folder) = refl
anew_left (File f) = refl
anew_left (Link l) = refl
anew_left SyncTarget = refl
anew_left Remove = refl
anew_left SyncSource = refl
anew_left Finish = refl
anew_left Settle = refl
anew_left PassedOver = refl
anew_left (Stays part) = refl

anew_part : (stage : FileStage) → has_part stage ≡ true → has_part (file.taken_anew stage) ≡ true
anew_part (file_stage.Fill part facts done) h = refl
anew_part (file_stage.Clean part follows) h = refl
anew_part file_stage.Begin h = absurd (false≢true h)
anew_part (file_stage.Left part) h = absurd (false≢true h)
anew_part file_stage.Decided h = absurd (false≢true h)

anew_link : (stage : LinkStage) → is_removable stage ≡ true → is_removable (link.taken_anew stage) ≡ true
anew_link link_stage.Place h = refl
anew_link (link_stage.Clean follows) h = refl
anew_link link_stage.Make h = absurd (false≢true h)
anew_link link_stage.Left h = absurd (false≢true h)
anew_link link_stage.Again h = absurd (false≢true h)
anew_link link_stage.Decided h = absurd (false≢true h)

pub anew_own : (p : Places) (stage : CarryStage) → IsOwn p stage → IsOwn p (taken_anew stage)
anew_own p (File f) own = record { job = own.job; source = own.source; target = own.target; part = anew_part f.stage own.part }
anew_own p (Link l) own = record { source = own.source; target = own.target; part = anew_link l.stage own.part }
anew_own p (Take folder) own = tt
anew_own p SyncTarget own = tt
anew_own p Remove own = tt
anew_own p SyncSource own = tt
anew_own p Finish own = tt
anew_own p Settle own = tt
anew_own p PassedOver own = tt
anew_own p (Stays part) own = tt

-- one call, counted by its answer
answer_few : (answer : Result (Unit {0}) TreeError) → calls_made_for answer ≤ 1
answer_few (Ok done) = omega arith
answer_few (Err refused.Memory) = omega arith
answer_few (Err e) = omega arith

answer_counts : (call : Call) (answer : Result (Unit {0}) TreeError) (log now : CallLog) (after : Option CallLog) → Performs {A = Unit {0}} log call answer after → after ≡ Some now
    → HasMore log (calls_made_for answer) now
answer_counts call (Ok done) log now after h is = one_more log _ now (sym h.1.1 ∙ is)
answer_counts call (Err refused.Memory) log now after h is = no_more log now (sym h ∙ is)
answer_counts call (Err refused.Fault) log now after h is = one_more log _ now (sym h.1.1 ∙ is)
answer_counts call (Err e) log now after h is = one_more log _ now (sym h.1 ∙ is)

-- what is left of an answer is a fault where it was one
left_fault : (answer : Result (Unit {0}) TreeError) (f0 f1 : ℕ) → HasCause refused.Fault f0 f1 answer → refusal_in answer ≡ Some refused.Fault → HasRisen f0 f1
left_fault (Ok done) f0 f1 cause h = absurd cc
left_fault (Err e) f0 f1 cause h = let is : e ≡ refused.Fault = cc in cause.risen (ap Err is)

sync_counts : (folder : Route) (next : CarryStage) (last : AfterLastStep) (before after : Option CallLog) (f0 f1 : ℕ) → TriesSync folder next last before after f0 f1
    → LastCounts last.calls last.left before after f0 f1
sync_counts folder next last before after f0 f1 h =
    subst (λ (l : AfterLastStep). LastCounts l.calls l.left before after f0 f1) (sym h.says) (record {
      counted = λ log known now is. answer_counts (SyncFolder folder) h.answer log now after (h.called log known) is;
      few = (let few = answer_few h.answer in omega (arith, few));
      unknown = h.unknown;
      later = (let k = h.cause in k.later);
      fault = left_fault h.answer f0 f1 h.cause;
    })

tried_few : (folder : Route) (next : CarryStage) (last : AfterLastStep) (before after : Option CallLog) (f0 f1 : ℕ) → TriesSync folder next last before after f0 f1 → last.calls ≤ 1
tried_few folder next last before after f0 f1 h = let few = answer_few h.answer in let is = ap (λ (l : AfterLastStep). l.calls) h.says in omega (arith, few, is)

-- a refused call leaves a log
refused_log : (call : Call) (e : TreeError) (log : CallLog) (after : Option CallLog) → Performs {A = Unit {0}} log call (Err e) after → (now : CallLog) × (after ≡ Some now)
refused_log call refused.Memory log after h = (log, h)
refused_log call refused.Fault log after h = (_, h.1.1)
refused_log call e log after h = (_, h.1)

more_twice : (log mid now : CallLog) (a b : ℕ) → HasMore log a mid → HasMore mid b now → HasMore log (a + b) now
more_twice log mid now a b h k = omega (arith, h, k)

left_counts : (p : Places) (part : Route) (last : AfterLastStep) (before after : Option CallLog) (f0 f1 : ℕ) → LeavesPart p part last before after f0 f1 → LastCounts last.calls last.left before after f0 f1
left_counts p part last before after f0 f1 h =
    let syncs = sync_counts (folder_of p.target) (Stays part) h.tried h.mid after h.since f1 h.syncs in
    subst (λ (l : AfterLastStep). LastCounts l.calls l.left before after f0 f1) (sym h.says) (record {
      counted = λ log known now is.
          let gone = h.refused log known in
          let left = refused_log (RemoveFile part) h.error log h.mid gone in
          more_twice log left.0 now (calls_made_for (Err h.error)) h.tried.calls (answer_counts (RemoveFile part) (Err h.error) log left.0 h.mid gone left.1) (syncs.counted left.0 left.1 now is);
      few = (let one = answer_few (Err h.error) in let two = tried_few (folder_of p.target) (Stays part) h.tried h.mid after h.since f1 h.syncs in omega (arith, one, two));
      unknown = λ none. syncs.unknown (h.unknown none);
      later = (let one = h.later in let two = syncs.later in omega (arith, one, two));
      fault = λ is. risen_before f0 h.since f1 h.later (syncs.fault is);
    })

part_counts : (p : Places) (part : Route) (last : AfterLastStep) (before after : Option CallLog) (f0 f1 : ℕ) → TriesPart p part last before after f0 f1 → LastCounts last.calls last.left before after f0 f1
part_counts p part last before after f0 f1 (inl h) =
    subst (λ (l : AfterLastStep). LastCounts l.calls l.left before after f0 f1) (sym h.says) (record {
      counted = λ log known now is. answer_counts (RemoveFile part) (Ok tt) log now after (h.called log known) is;
      few = omega arith;
      unknown = h.unknown;
      later = h.later;
      fault = λ e. absurd cc;
    })
part_counts p part last before after f0 f1 (inr h) = left_counts p part last before after f0 f1 h

ends_counts : (ending : Ending) (part : Option Route) (stage : CarryStage) (last : AfterLastStep) (before after : Option CallLog) (f0 f1 : ℕ) → EndsSo ending part stage last before after f0 f1
    → LastCounts last.calls last.left before after f0 f1
ends_counts ending part stage last before after f0 f1 h =
    subst (λ (l : AfterLastStep). LastCounts l.calls l.left before after f0 f1) (sym h.says) (subst (λ (x : Option CallLog). LastCounts 0 None before x f0 f1) (sym h.same) (record {
      counted = same_more before;
      few = omega arith;
      unknown = λ none. none;
      later = (let same = h.later in omega (arith, same));
      fault = λ e. absurd cc;
    }))

module _ (p : Places) (ending : Ending) (last : AfterLastStep) (before after : Option CallLog) (f0 f1 : ℕ) where
  -- whatever a last step does
  winds_counts : (stage : CarryStage) → WindsAt p ending stage last before after f0 f1 → LastCounts last.calls last.left before after f0 f1
  winds_counts (File f) (part, has, h) = part_counts p part last before after f0 f1 h
  winds_counts (Link l) h = part_counts p l.part last before after f0 f1 h
  winds_counts (Take Dirty) h = sync_counts (folder_of p.target) PassedOver last before after f0 f1 h
  winds_counts (Take Synced) h = ends_counts ending None (Take Synced) last before after f0 f1 h
  winds_counts SyncTarget h = sync_counts (folder_of p.target) PassedOver last before after f0 f1 h
  winds_counts Settle h = sync_counts (folder_of p.target) PassedOver last before after f0 f1 h
  winds_counts SyncSource h = sync_counts (folder_of p.source) Finish last before after f0 f1 h
  winds_counts Remove h = ends_counts ending None Remove last before after f0 f1 h
  winds_counts Finish h = ends_counts ending None Finish last before after f0 f1 h
  winds_counts PassedOver h = ends_counts ending None PassedOver last before after f0 f1 h
  winds_counts (Stays part) h = ends_counts ending (Some part) PassedOver last before after f0 f1 h

  pub winds_from : (old : Carrying) (stage out : CarryStage) → out ≡ stage → carrying p stage ≡ old → WindsAt p ending out last before after f0 f1
      → LastCarryStep ending old (carrying p last.stage) last.did last.calls last.left before after f0 f1
  winds_from old stage out is view winds =
      subst (λ (c : Carrying). LastCarryStep ending c (carrying p last.stage) last.did last.calls last.left before after f0 f1) view (record {
        winds = subst (λ s. WindsAt p ending s last before after f0 f1) is winds;
        places = refl;
        counts = winds_counts out winds;
      })

  pub winds_at : (stage at : CarryStage) → stage ≡ at → WindsAt p ending at last before after f0 f1 → WindsAt p ending stage last before after f0 f1
  winds_at stage at is h = subst (λ s. WindsAt p ending s last before after f0 f1) (sym is) h
