-- The calls that a step made, counted.
use Rattle.std.proofs.Common.{◌≡◌, ℕ, ◌≤◌, Bool, [], ◌∷◌, sym, subst, inl, inr, arith, Option, None, Result, Ok, Err, false}
use Rattle.mc_text.specs.Routes.{Route}
use Rattle.tree_trait.specs.Calls.{Call, RemoveFile, SyncFolder}
use Rattle.tree_trait.specs.Change.{CallLog}
use Rattle.tree_trait.specs.Answers.{HasRisen}
use Rattle.job_reports.specs.declared.report.Did.{Did}
use Rattle.job_reports.specs.declared.report.Did.TheVariants.{Troubled, Removed, Barrier, Kept, Asked, Ended}
use Rattle.job_reports.specs.declared.report.Ending.TheVariants.{Finished}
use Rattle.job_reports.specs.declared.stop.Stop.{Stop}
use Rattle.job_reports.specs.Paths.{folder_of}
use Rattle.job_reports.specs.Reports.{IsFault}
use Rattle.job_reports.specs.Stops.{Ran, out_of_memory_at}
use Rattle.job_reports.proofs.Runs.{risen_before, same_more}
use Rattle.job_answers.specs.declared.replies.Replies.{Replies}
use Rattle.copy_file.specs.Copying.{Copying, Places}
use Rattle.copy_file.specs.CopySteps as file_steps
use Rattle.copy_file.specs.PartSteps.{MakesPart}
use Rattle.copy_file.specs.declared.stage.FolderState.{FolderState}
use Rattle.copy_file.specs.declared.stage.SourceFacts.{SourceFacts}
use Rattle.copy_link.specs.LinkCopying.{LinkCopying}
use Rattle.copy_link.specs.LinkSteps as link_steps
use Rattle.carry_job.specs.declared.stage.AfterStep.{AfterStep}
use Rattle.carry_job.specs.declared.stage.CarryStage.{CarryStage}
use Rattle.carry_job.specs.declared.stage.CarryStage.TheVariants.{Take, File, Link, SyncTarget, Remove, SyncSource, Finish, Settle, PassedOver, Stays}
use Rattle.carry_job.specs.declared.taking.Taken.{Taken}
use Rattle.carry_job.specs.declared.taking.Taken.TheVariants as taken
use Rattle.carry_job.specs.Carryings.{passed}
use Rattle.carry_job.specs.CarrySteps.{Begins, Counts, IsLinkBegun, KeepsTarget, MakesCall, SaysOnly, Works, after_step, out_of_memory_in, told_call}

-- a report that tells no fault
abbrev NoFault : Did → Type 0
NoFault did = IsFault did → ⊥

-- a step that made no call
said_counts : (did : Did) (stage : CarryStage) (moved : AfterStep) (before after : Option CallLog) (f0 f1 : ℕ) → moved ≡ after_step did 0 stage → after ≡ before → f0 ≤ f1
    → (IsFault did → HasRisen f0 f1) → Counts moved.did moved.calls before after f0 f1
said_counts did stage moved before after f0 f1 is same later fault =
    subst (λ (m : AfterStep). Counts m.did m.calls before after f0 f1) (sym is) (subst (λ (x : Option CallLog). Counts did 0 before x f0 f1) (sym same) (record {
      counted = same_more before;
      few = omega arith;
      unknown = λ h. h;
      later = later;
      fault = fault;
    }))

only_counts : (did : Did) (stage : CarryStage) (moved : AfterStep) (before after : Option CallLog) (f0 f1 : ℕ) → SaysOnly (after_step did 0 stage) moved before after f0 f1
    → (IsFault did → HasRisen f0 f1) → Counts moved.did moved.calls before after f0 f1
only_counts did stage moved before after f0 f1 h fault = said_counts did stage moved before after f0 f1 h.says h.same h.later fault

-- a step that comes after looks, which may have failed
counts_later : (did : Did) (calls : ℕ) (before after : Option CallLog) (f0 f1 f2 : ℕ) → f0 ≤ f1 → Counts did calls before after f1 f2 → Counts did calls before after f0 f2
counts_later did calls before after f0 f1 f2 later k = record {
  counted = k.counted;
  few = k.few;
  unknown = k.unknown;
  later = (let l = k.later in omega (arith, later, l));
  fault = λ h. risen_before f0 f1 f2 later (k.fault h);
}

makes_counts : (unclaimed : Route → Type 0) (facts : SourceFacts) (old new : Copying) (did : Did) (calls : ℕ) (before after : Option CallLog) (f0 f1 : ℕ)
    → MakesPart unclaimed facts old new did calls before after f0 f1 → Counts did calls before after f0 f1
makes_counts unclaimed facts old new did calls before after f0 f1 s = record { counted = s.counted; few = (let f = s.few in omega (arith, f)); unknown = s.unknown; later = s.later; fault = s.fault }

file_counts : (unclaimed : Route → Type 0) (old new : Copying) (did : Did) (calls : ℕ) (before after : Option CallLog) (f0 f1 : ℕ) → file_steps.StepsOn unclaimed old new did calls before after f0 f1
    → Counts did calls before after f0 f1
file_counts unclaimed old new did calls before after f0 f1 s = record { counted = s.counted; few = s.few; unknown = s.unknown; later = s.later; fault = s.fault }

link_counts : (old new : LinkCopying) (did : Did) (calls : ℕ) (before after : Option CallLog) (f0 f1 : ℕ) → link_steps.StepsOn old new did calls before after f0 f1 → Counts did calls before after f0 f1
link_counts old new did calls before after f0 f1 s = record { counted = s.counted; few = (let f = s.few in omega (arith, f)); unknown = s.unknown; later = s.later; fault = s.fault }

-- one call
told_counts : (call : Call) (b : Bool) (did : Did) (at next : CarryStage) (answer : Result ℕ Stop) (before after : Option CallLog) (f0 f1 : ℕ) → NoFault did
    → Ran (call ∷ []) b answer before after f0 f1 → Counts (told_call did at next answer).did (told_call did at next answer).calls before after f0 f1
told_counts call b did at next (Ok calls) before after f0 f1 none r = record { counted = r.counted; few = (let f = r.few in omega (arith, f)); unknown = r.unknown; later = r.later; fault = λ h. absurd (none h) }
told_counts call b did at next (Err stop) before after f0 f1 none r = record { counted = r.counted; few = (let f = r.few in omega (arith, f)); unknown = r.unknown; later = r.later; fault = λ h. r.fault h }

call_counts : (call : Call) (b : Bool) (did : Did) (at next : CarryStage) (moved : AfterStep) (before after : Option CallLog) (f0 f1 : ℕ) → NoFault did
    → MakesCall call b did at next moved before after f0 f1 → Counts moved.did moved.calls before after f0 f1
call_counts call b did at next moved before after f0 f1 none h =
    subst (λ (m : AfterStep). Counts m.did m.calls before after f0 f1) (sym h.told) (told_counts call b did at next h.answer before after f0 f1 none h.ran)

module _ (unclaimed : Route → Type 0) (p : Places) (folder : FolderState) (moved : AfterStep) (before after : Option CallLog) where
  short_counts : (f0 f1 : ℕ) → SaysOnly (out_of_memory_in (Take folder)) moved before after f0 f1 → Counts moved.did moved.calls before after f0 f1
  short_counts f0 f1 h = only_counts (Troubled (out_of_memory_at false)) (Take folder) moved before after f0 f1 h (λ e. absurd cc)

  link_begun_counts : (part : Route) (f0 f1 : ℕ) → IsLinkBegun p part folder moved before after f0 f1 → Counts moved.did moved.calls before after f0 f1
  link_begun_counts part f0 f1 (inl h) = short_counts f0 f1 h
  link_begun_counts part f0 f1 (inr h) = link_counts _ h.begun moved.did moved.calls before after f0 f1 h.makes

  kept_counts : (f0 f1 : ℕ) → KeepsTarget p folder moved → after ≡ before → f0 ≤ f1 → Counts moved.did moved.calls before after f0 f1
  kept_counts f0 f1 (inl is) same later = said_counts (Kept p.target) (passed folder) moved before after f0 f1 is same later (λ h. absurd h)
  kept_counts f0 f1 (inr is) same later = said_counts (Troubled (out_of_memory_at false)) (Take folder) moved before after f0 f1 is same later (λ e. absurd cc)

  begins_counts : (what : Taken) (f0 f1 : ℕ) → Begins unclaimed p folder what moved before after f0 f1 → Counts moved.did moved.calls before after f0 f1
  begins_counts (taken.File facts) f0 f1 (inl h) = short_counts f0 f1 h
  begins_counts (taken.File facts) f0 f1 (inr h) = makes_counts unclaimed facts _ h.begun moved.did moved.calls before after f0 f1 h.makes
  begins_counts taken.Link f0 f1 (inl h) = only_counts (Troubled h.trouble) (Take folder) moved before after f0 f1 h.says h.fault
  begins_counts taken.Link f0 f1 (inr h) = counts_later moved.did moved.calls before after f0 h.since f1 h.looked (link_begun_counts h.part h.since f1 h.begins)
  begins_counts taken.Keeps f0 f1 (keeps, same, later) = kept_counts f0 f1 keeps same later
  begins_counts (taken.Asks question) f0 f1 h = only_counts (Asked question) (Take folder) moved before after f0 f1 h (λ e. absurd e)

module _ (unclaimed : Route → Type 0) (replies : Replies) (p : Places) (moved : AfterStep) (before after : Option CallLog) (f0 f1 : ℕ) where
  -- whatever a step does
  pub works_counts : (stage : CarryStage) → Works unclaimed replies p stage moved before after f0 f1 → Counts moved.did moved.calls before after f0 f1
  works_counts (Take folder) (inl h) = only_counts (Troubled h.trouble) (Take folder) moved before after f0 f1 h.says h.fault
  works_counts (Take folder) (inr h) = counts_later moved.did moved.calls before after f0 h.since f1 h.looked (begins_counts unclaimed p folder moved before after h.what h.since f1 h.begins)
  works_counts (File f) h = file_counts unclaimed f h.copied moved.did moved.calls before after f0 f1 h.steps
  works_counts (Link l) h = link_counts l h.copied moved.did moved.calls before after f0 f1 h.steps
  works_counts SyncTarget h = call_counts (SyncFolder (folder_of p.target)) _ Barrier SyncTarget Remove moved before after f0 f1 (λ e. e) h
  works_counts Remove (inl h) = only_counts (Troubled (out_of_memory_at false)) Remove moved before after f0 f1 h (λ e. absurd cc)
  works_counts Remove (inr h) = call_counts (RemoveFile p.source) _ (Removed p.source) Remove SyncSource moved before after f0 f1 (λ e. e) h
  works_counts SyncSource h = call_counts (SyncFolder (folder_of p.source)) _ Barrier SyncSource Finish moved before after f0 f1 (λ e. e) h
  works_counts Finish h = only_counts (Ended Finished None) Finish moved before after f0 f1 h (λ e. absurd e)
  works_counts Settle h = call_counts (SyncFolder (folder_of p.target)) _ Barrier Settle PassedOver moved before after f0 f1 (λ e. e) h
  works_counts PassedOver h = only_counts (Ended Finished None) PassedOver moved before after f0 f1 h (λ e. absurd e)
  works_counts (Stays part) h = absurd h
