-- A mode that wasn't given: the trouble is told, or the thing keeps its mode.
use Rattle.std.proofs.Common.{◌≡◌, ℕ, Bool, true, false, not, ◌&&◌, [], ◌∷◌, refl, sym, subst, inl, inr, Option, Result, Err}
use Rattle.std.proofs.lemmas.Bool.{false≢true}
use Rattle.mc_text.specs.Routes.{Route}
use Rattle.tree_trait.specs.Calls.{SetMode}
use Rattle.tree_trait.specs.Change.{CallLog}
use Rattle.job_reports.specs.declared.stop.Stop.{Stop}
use Rattle.job_reports.specs.Stops.{Ran}
use Rattle.job_answers.specs.declared.replies.Replies.{Replies}
use Rattle.job_answers.specs.Skipping.{holds, kind_in}
use Rattle.mode_job.specs.declared.setting.Stage.TheVariants.{Give}
use Rattle.mode_job.specs.declared.work.AfterStep.{AfterStep}
use Rattle.mode_job.specs.Settings.{setting}
use Rattle.mode_job.specs.SettingSteps.{MovesOn, NotGiven}

kind_held : (barrier held : Bool) → (not barrier && held) ≡ true → held ≡ true
kind_held false held h = h
kind_held true held h = absurd (false≢true h)

pub stays_as_it_was : (path : Route) (mode : ℕ) (replies : Replies) (stop : Stop) (moved : AfterStep) (before after : Option CallLog) (f0 f1 : ℕ)
    → Ran (SetMode path mode ∷ []) false (let r : Result ℕ Stop = Err stop in r) before after f0 f1 → NotGiven replies (setting path mode Give) stop moved
    → MovesOn replies (setting path mode Give) moved before after f0 f1
stays_as_it_was path mode replies stop moved before after f0 f1 ran (inl (told, is)) =
    subst (λ (m : AfterStep). MovesOn replies (setting path mode Give) m before after f0 f1) (sym is) (record {
      tells = (ran.barrier, told, refl);
      called = ran.stopped;
      counted = ran.counted;
      few = ran.few;
      unknown = ran.unknown;
      later = ran.later;
      fault = ran.fault;
    })
stays_as_it_was path mode replies stop moved before after f0 f1 ran (inr (passed, is)) =
    subst (λ (m : AfterStep). MovesOn replies (setting path mode Give) m before after f0 f1) (sym is) (record {
      tells = (refl, refl, kind_held stop.trouble.barrier (holds replies.skips (kind_in stop.trouble.cause)) passed, refl);
      called = λ log known. (stop.trouble.path, ran.stopped log known);
      counted = ran.counted;
      few = ran.few;
      unknown = ran.unknown;
      later = ran.later;
      fault = ran.fault;
    })
