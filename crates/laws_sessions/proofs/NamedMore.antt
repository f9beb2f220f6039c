-- What is known goes on to be known where a history names more paths as parts.
use Rattle.std.proofs.Common.{List, [], ◌∷◌, refl}
use Rattle.mc_text.specs.Routes.{Route}
use Rattle.tree_trait.specs.Change.{CallLog}
use Rattle.tree_trait.specs.CrashImages.{Among}
use Rattle.laws_crash.specs.Guarded.{Marks}
use Rattle.copy_move.specs.Jobs.{Running}
use Rattle.laws_sessions.proofs.JobKnows.{work_said}
use Rattle.laws_sessions.proofs.Knowing.{HasMode, IsKept, HistoryFacts}
use Rattle.laws_sessions.proofs.Reports.{JobsKnow}

-- what a history says, where it names these as parts
abbrev pub naming : List Route → HistoryFacts → HistoryFacts
naming named told = record told { named = named }

module _ (told : HistoryFacts) (named : List Route) where
  pub kept_naming : ((p : Route) → Among told.named p → Among named p) → (dirty : List Route) (marks : Marks) (log : CallLog) → IsKept told dirty marks log → IsKept (naming named told) dirty marks log
  kept_naming more dirty marks log kept =
      let k = kept.known in
      record {
        known = record {
          guarded = k.guarded;
          files = k.files;
          moded = λ i before is unclean.
              let h : HasMode told dirty marks log i before = k.moded i before is unclean in
              record { path = h.path; leads = h.leads; out = h.out; listed = h.listed; told = h.told; shown = h.shown };
          calm = k.calm;
          folders = k.folders;
          aside = λ p is. more p (k.aside p is);
          left = k.left;
          was_there = k.was_there;
          was_shown = k.was_shown;
          shows = k.shows;
          part = k.part;
          tracked = k.tracked;
          joint = k.joint;
          doubts = k.doubts;
          written = k.written;
          stand = k.stand;
        };
        aside = kept.aside;
        was = kept.was;
        modes = kept.modes;
        roams = kept.roams;
      }

  pub jobs_naming : (dirty : List Route) (marks : Marks) (log : CallLog) (jobs : List Running) → JobsKnow told dirty marks log jobs → JobsKnow (naming named told) dirty marks log jobs
  jobs_naming dirty marks log [] k = k
  jobs_naming dirty marks log (job ∷ []) k = work_said told (naming named told) refl refl refl refl dirty marks log job.course job.work k
  jobs_naming dirty marks log (job ∷ other ∷ jobs) k = absurd k
