-- The promises of a run that hold together: of the tree, of the end, of what is printed in place of a
-- session, of a start that is refused, and of the status.
use Rattle.std.specs.Prelude.{◌≡◌, ◌⊎◌, ℕ, ◌≤◌, ◌++◌, true, List, reverse, Option, Some, None, IsSome}
use Rattle.tree_trait.specs.Change.{CallLog}
use Rattle.tree_trait.specs.Answers.{IfKnown}
use Rattle.session_entries.specs.declared.history.Entry.{Entry}
use Rattle.laws_sessions.specs.ToldJob.{live_job}
use Rattle.session_log.specs.Logs.{jobs_begun}
use Rattle.mc_desk.specs.KeysAndFaults.{faults_in, has_lost}
use Rattle.mc_desk.specs.declared.starts.Start.{Start}
use Rattle.main_words.specs.declared.words.Words.{Words}
use Rattle.mc_main.specs.declared.words.Printed.TheVariants.{Usage}
use Rattle.mc_main.specs.declared.words.Surroundings.{Surroundings}
use Rattle.mc_main.specs.Beginnings.{printed_for, session_start, status_with, text_of}
use Rattle.mc_main.specs.Headline.{IsSafeRun, IsFinishedRun, IsStayingRun, IsCalmedRun}
use Rattle.mc_main.specs.Headline.{IsReplayedRun, IsWholeRun}
use Rattle.mc_main.specs.OutcomeRuns.{IsAnsweredRun, IsOutcomeRun}
use Rattle.mc_main.specs.Printed.{PrintsStart}
use Rattle.mc_main.specs.StartRefusals.{IsComplete, MayRefuseStart, RefusesStart}
use Rattle.mc_main.specs.Statuses.{IsStatusOr}

-- Of the tree, where it tells what it holds; each where it had the shape of a tree at the opening, and
-- nothing was pending then.
pub record KeepsTree (opening now : CallLog) (newest : List Entry) : Type 0 where
  -- At each moment, inside a call too, each path holds after a crash what the history says, or what it held
  -- before its last change as long as that isn't on the disk: a copied source is unchanged, a target is as it
  -- was or has the source's bytes and mode, a file that is deleted is whole or gone, and so is one that is
  -- moved at its source. Parts that an entry named may be missing or hold anything, until they are gone or
  -- replaced and that is on the disk; one that was left and then replaced, as long as something stands there.
  pub safe : IsSafeRun opening now newest
  -- A thing that is moved is whole at its source or at its target, in one and the same image, with all that
  -- lies in it, at each moment from its renaming on, inside that too, whatever is done elsewhere, until an
  -- entry names a path that is one of the two, or lies above one or below it; but for one that was named as
  -- a part.
  pub whole : IsWholeRun opening now newest
  -- What a job did for a source with which it is done stays done, at each later moment, until an entry names
  -- the path again, or one above it: at each path that the source touches, and at each that the job named as
  -- a part; but for a part that still stood then, or whose last change wasn't on the disk, or that the end
  -- names, and, unless it was the job's own, the mode of a folder at which another mount begins.
  pub finished : IsFinishedRun opening now newest
  -- What is on the disk stays there, at each later moment, until an entry names the path again, whichever job
  -- brought it there: a name, but for a live job's part, and the bytes and mode of what stands there, but for
  -- what was named as a part.
  pub stays : IsStayingRun opening now newest
  -- Where a job is done with one of its sources, all that it was to do with it is done, but for what it
  -- passed over: a copy stands of all that stands at the source, what was moved stands at its target, and not
  -- at its source, nothing stands that was to be removed, and what was to be made, or given a mode, is so.
  -- All else is as it was where the job began with it, but for what another job named meanwhile: no report
  -- of the job changes it, but for the part that its end names. So at its end all is done with all its
  -- sources, where no later one touches what concerns an earlier one.
  pub outcome : IsOutcomeRun opening now newest
  -- A job asks what is to become of a file or a link at the target of its copy or its move where no answer
  -- decides that, keeps it where one says so, and begins a part beside it, or moves something onto it, only
  -- where one says that it is replaced.
  pub answered : IsAnsweredRun opening now newest
  -- Once a job has made its first change, nothing is in doubt on its mount but what that change names, and
  -- what another live job named last.
  pub calmed : IsCalmedRun opening now newest
  -- The tree shows at the end what the history makes of the opening.
  pub replayed : IsReplayedRun opening now newest

-- How the history ends, of which these are the entries, the oldest first.
pub record HasEnded (started : ℕ) (entries : List Entry) (faults faults_after : ℕ) : Type 0 where
  -- no job is live
  pub idle : live_job (reverse entries) ≡ None
  -- it says how many jobs it began
  pub counted : started ≡ jobs_begun entries
  -- it has counted no more faults than the tree
  pub counts : faults_in faults (reverse entries) ≤ faults_after

-- Words that ask for no session: how the program is called, with status 1, or the help or the version, with
-- status 0; or 4 or 5, where that could not be printed. Then nothing else is done.
pub record PrintsInstead (asked : Option Words) (status : ℕ) (given given_after : Option (List ℕ))
    (same : Type 0) : Type 0 where
  pub usage : status ≡ 1 → printed_for asked ≡ Some Usage
  pub prints : IfKnown (printed_for asked) (λ printed. IsStatusOr (status_with printed) status)
  pub text : IfKnown (printed_for asked) (λ printed. status ≡ status_with printed
      → IfKnown given (λ before. given_after ≡ Some (before ++ text_of printed)))
  pub untouched : IsSome (printed_for asked) → same

-- Status 2, and what is printed then.
pub record RefusesRun (contents : Option CallLog) (around : Surroundings) (asked : Option Words)
    (faults faults_after status : ℕ) (given given_after : Option (List ℕ)) : Type 0 where
  -- it comes only where a path leads to nothing that can be read so, or where the tree failed meanwhile
  pub cause : status ≡ 2 → IfKnown contents (λ log.
      MayRefuseStart log (session_start around asked) faults faults_after)
  -- where a path leads to nothing that can be read so it is 2, or 4 or 5
  pub refuses : IfKnown contents (λ log. RefusesStart log (session_start around asked) status)
  -- the line names the path and its cause
  pub line : status ≡ 2 → IfKnown given (λ before.
      PrintsStart contents around asked faults faults_after before given_after)

-- The status of a run that is to start so, by which of its devices failed.
pub record HasStatus (status : ℕ) (newest : List Entry) (contents : Option CallLog) (start : Option Start)
    (tree_failed keys_failed screen_failed : Type 0) : Type 0 where
  pub most : status ≤ 5
  pub keyboard : status ≡ 3 → keys_failed
  pub screen : status ≡ 4 → screen_failed
  -- where all paths can be read and no device failed it is 0, or 5 (which no clause ties to want of memory)
  pub complete : IfKnown contents (λ log.
      IsComplete log start status (tree_failed ⊎ (keys_failed ⊎ screen_failed)))
  -- a key that was lost makes it 5
  pub lost : has_lost newest ≡ true → status ≡ 5
