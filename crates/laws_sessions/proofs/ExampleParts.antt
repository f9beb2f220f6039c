-- What examples of sessions share: entries, jobs that delete, and what is said of two known logs.
use Rattle.std.proofs.Common.{◌≡◌, ℕ, zero, suc, ◌+◌, ◌<◌, pos, List, [], ◌∷◌, length, refl, subst, inl, Option, Some, None, arith}
use Rattle.mc_text.specs.declared.kind.Kind.TheVariants.{File, Folder}
use Rattle.mc_text.specs.Routes.{Route}
use Rattle.tree_trait.specs.declared.file_system.Node.{Node}
use Rattle.tree_trait.specs.Answers.{IfKnown}
use Rattle.tree_trait.specs.Change.{CallLog}
use Rattle.job_reports.specs.CallRuns.{HasMore}
use Rattle.job_reports.specs.declared.report.Did.{Did}
use Rattle.tree_walk.specs.Ranks.{weight}
use Rattle.session_entries.specs.Entries.{is_closed}
use Rattle.session_entries.specs.declared.history.Entry.{Entry}
use Rattle.session_entries.specs.declared.history.Event.{Event}
use Rattle.session_entries.specs.declared.history.Event.TheVariants.{Step}
use Rattle.job_answers.specs.Decisions.{no_replies}
use Rattle.delete_job.specs.Deletions.{Deleting}
use Rattle.copy_move.specs.Jobs.{Running}
use Rattle.copy_move.specs.declared.run.Course.{Course}
use Rattle.copy_move.specs.declared.work.Work.TheVariants.{Delete}
use Rattle.laws_sessions.specs.Traces.{IsJob, IsTraced, Stand, WorkLeads, if_closed, unless_ended, with_job}

abbrev pub folder : Node
folder = record { kind = Folder; bytes = []; mode = 0o755; mtime = pos 0; unnamed = 0 }

abbrev pub file : Node
file = record { kind = File; bytes = 7 ∷ []; mode = 0o644; mtime = pos 0; unnamed = 0 }

abbrev pub entry : ℕ → Event → Entry
entry calls what = record { seat = 0; calls = calls; faults = 0; shown = 0; what = what }

-- the job with this number, which deletes so
abbrev pub deleting_job : ℕ → Deleting → Course → Running
deleting_job id d course = record { id = id; work = Delete d; course = course; replies = no_replies }

abbrev pub stand : List Running → List Route → Stand
stand jobs dirty = record { jobs = jobs; dirty = dirty }

pub some_log : (x y : CallLog) → (let o : Option CallLog = Some x in o) ≡ Some y → x ≡ y
some_log x y h = cc

-- what holds of a log that is known
pub known_is : (x : CallLog) (P : CallLog → Type 0) → P x → IfKnown (let o : Option CallLog = Some x in o) P
known_is x P h = λ y is. subst P (some_log x y is) h

-- so many calls were made
pub more_known : (x now : CallLog) (calls : ℕ) → HasMore x calls now → IfKnown (let o : Option CallLog = Some x in o) (λ l. IfKnown (let o : Option CallLog = Some now in o) (HasMore l calls))
more_known x now calls h = known_is x (λ l. IfKnown (Some now) (HasMore l calls)) (known_is now (HasMore x calls) h)

pub no_step : (a b : CallLog) → (let o : Option CallLog = Some a in o) ≡ None → (let o : Option CallLog = Some b in o) ≡ None
no_step a b h = absurd (let f : ⊥ = cc in f)

pub some_weight : (left : ℕ) → 0 < weight left
some_weight zero = omega arith
some_weight (suc left) = omega arith

-- a step of a job's own work
pub own_step :
    (opening : CallLog) (id calls : ℕ) (did : Did) (older : List Entry) (was after : Stand) (before now : CallLog) (old new : Running)
    → IsTraced opening older was before → IsJob id was.jobs old → WorkLeads old did new was.dirty after.dirty before now
    → after.jobs ≡ with_job id (unless_ended did new) was.jobs → after ≡ if_closed (is_closed (entry calls (Step id did) ∷ older)) after
    → length now.changes ≡ length opening.changes + calls → IsTraced opening (entry calls (Step id did) ∷ older) after now
own_step opening id calls did older was after before now old new traced its leads jobs closed counts =
    (was, before, traced, record { after = after; leads = record { job = old; its = its; new = unless_ended did new; leads = inl (new, inl leads, refl); jobs_is = jobs }; stand_is = closed; counts = counts })
