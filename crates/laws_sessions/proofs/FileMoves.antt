-- The steps of a file's copy, as the copy of a tree makes them: the first, of which its own looks said what stands at the source and the target, and each later one.
use Rattle.std.proofs.Common.{◌≡◌, ◌⊎◌, ℕ, [], ◌∷◌, refl, sym, ◌∙◌, ap, subst, inl, inr, Option, Some}
use Rattle.mc_text.specs.Routes.{Route}
use Rattle.tree_trait.specs.Answers.{IfKnown}
use Rattle.tree_trait.specs.Change.{CallLog, current}
use Rattle.job_answers.specs.declared.replies.Replies.{Replies}
use Rattle.job_reports.specs.CallRuns.{AllDone, RunStops}
use Rattle.job_reports.specs.declared.job.Pair.{Pair}
use Rattle.job_reports.specs.declared.report.Cause.{Cause}
use Rattle.job_reports.specs.declared.report.Did.{Did}
use Rattle.job_reports.specs.declared.report.Did.TheVariants.{Began, Chunk, Placed, Removed, Made, Set, Kept, Skipped, Cleaned, Barrier, Asked, Merges, Moved, Troubled, Ended}
use Rattle.copy_file.specs.CopyCalls.{BeganOf, CopyCalls, CopyStops, making, making_with}
use Rattle.copy_file.specs.Copying as file
use Rattle.copy_file.specs.Copying.{Copying, Places, Tells, places_of}
use Rattle.copy_file.specs.Looking.{AreFactsOf}
use Rattle.copy_file.specs.PartNames.{IsFirstFree, part_path}
use Rattle.copy_file.specs.PartSteps.{MadeCalls, TellsMade}
use Rattle.copy_file.specs.declared.stage.SourceFacts.{SourceFacts}
use Rattle.copy_file.specs.declared.stage.Stage.{Stage}
use Rattle.copy_file.specs.declared.stage.Stage.TheVariants as at
use Rattle.copy_tree.specs.Parts.{IsShortPart}
use Rattle.copy_tree.specs.Standing.{Seen}
use Rattle.copy_tree.specs.TreeCopySteps.{FileWorks, TakesFile, after_file, idle, is_top}
use Rattle.copy_tree.specs.Taking.{IsTaken}
use Rattle.copy_tree.specs.declared.looking.Taken.TheVariants as taken
use Rattle.laws_sessions.proofs.OpenTargets.{IsOpen, open_free, taken_bare}

-- the trouble of a step, whatever the looks before the part stands said
abbrev pub MoveStops : (Route → Type 0) → Places → Stage → Cause → Option Route → CallLog → Option CallLog → Type 0
MoveStops unclaimed p at.Begin cause path log after = (after ≡ Some log) ⊎ ((k : ℕ) × IsFirstFree (current log) unclaimed p k × RunStops (making (current log) p k ∷ []) cause path log after)
MoveStops unclaimed p (at.Fill part facts done) cause path log after = CopyStops unclaimed p (at.Fill part facts done) cause path log after
MoveStops unclaimed p (at.Clean part follows) cause path log after = CopyStops unclaimed p (at.Clean part follows) cause path log after
MoveStops unclaimed p (at.Left part) cause path log after = CopyStops unclaimed p (at.Left part) cause path log after
MoveStops unclaimed p at.Decided cause path log after = CopyStops unclaimed p at.Decided cause path log after

-- What it says of the tree's calls: a part is made where nothing stands at the target, or what is replaced.
abbrev pub MoveCalls : (Route → Type 0) → Copying → Did → Copying → CallLog → Option CallLog → Type 0
MoveCalls unclaimed c (Began part) new log after =
    IsOpen (current log) (places_of c) × BeganOf (current log) (places_of c) new.stage
    × ((k : ℕ) × (part ≡ part_path (places_of c) k) × IsFirstFree (current log) unclaimed (places_of c) k × AllDone log (making (current log) (places_of c) k ∷ []) after)
MoveCalls unclaimed c (Troubled trouble) new log after = MoveStops unclaimed (places_of c) c.stage trouble.cause trouble.path log after
MoveCalls unclaimed c (Chunk count) new log after = CopyCalls unclaimed c (Chunk count) new log after
MoveCalls unclaimed c (Placed path) new log after = CopyCalls unclaimed c (Placed path) new log after
MoveCalls unclaimed c (Cleaned part) new log after = CopyCalls unclaimed c (Cleaned part) new log after
MoveCalls unclaimed c Barrier new log after = CopyCalls unclaimed c Barrier new log after
MoveCalls unclaimed c (Removed path) new log after = CopyCalls unclaimed c (Removed path) new log after
MoveCalls unclaimed c (Made path) new log after = CopyCalls unclaimed c (Made path) new log after
MoveCalls unclaimed c (Set path) new log after = CopyCalls unclaimed c (Set path) new log after
MoveCalls unclaimed c (Kept path) new log after = CopyCalls unclaimed c (Kept path) new log after
MoveCalls unclaimed c (Asked question) new log after = CopyCalls unclaimed c (Asked question) new log after
MoveCalls unclaimed c (Merges transfer pair names) new log after = CopyCalls unclaimed c (Merges transfer pair names) new log after
MoveCalls unclaimed c (Moved pair) new log after = CopyCalls unclaimed c (Moved pair) new log after
MoveCalls unclaimed c (Skipped path cause) new log after = CopyCalls unclaimed c (Skipped path cause) new log after
MoveCalls unclaimed c (Ended ending part) new log after = CopyCalls unclaimed c (Ended ending part) new log after

-- A step of this file's copy, in the copy of a tree.
pub record FileMoves (unclaimed : Route → Type 0) (f : Copying) (old new : Seen) (did : Did) (before after : Option CallLog) : Type 0 where
  pub moved : Copying
  pub tells : Tells f did moved
  pub called : IfKnown before (λ log. MoveCalls unclaimed f did moved log after)
  pub short : IsShortPart (file.part_at moved.stage)
  pub stands : new ≡ after_file did moved (idle old)

-- of a file at work
stops_moves : (unclaimed : Route → Type 0) (p : Places) (stage : Stage) (cause : Cause) (path : Option Route) (log : CallLog) (after : Option CallLog) → CopyStops unclaimed p stage cause path log after → MoveStops unclaimed p stage cause path log after
stops_moves unclaimed p at.Begin cause path log after (inl look) = inl look.1
stops_moves unclaimed p at.Begin cause path log after (inr (inl name)) = inl name.2
stops_moves unclaimed p at.Begin cause path log after (inr (inr (k, ready, free, run))) = inr (k, free, run)
stops_moves unclaimed p (at.Fill part facts done) cause path log after stop = stop
stops_moves unclaimed p (at.Clean part follows) cause path log after stop = stop
stops_moves unclaimed p (at.Left part) cause path log after stop = stop
stops_moves unclaimed p at.Decided cause path log after stop = stop

calls_moves : (unclaimed : Route → Type 0) (c new : Copying) (did : Did) (log : CallLog) (after : Option CallLog) → CopyCalls unclaimed c did new log after → MoveCalls unclaimed c did new log after
calls_moves unclaimed c new (Began part) log after (ready, began_of, rest) = (open_free (current log) (places_of c) ready, began_of, rest)
calls_moves unclaimed c new (Troubled trouble) log after stop = stops_moves unclaimed (places_of c) c.stage trouble.cause trouble.path log after stop
calls_moves unclaimed c new did log after calls = calls

pub worked_moves : (unclaimed : Route → Type 0) (f : Copying) (old new : Seen) (did : Did) (before after : Option CallLog) → FileWorks unclaimed f old new did before after → FileMoves unclaimed f old new did before after
worked_moves unclaimed f old new did before after w = record {
  moved = w.moved;
  tells = w.tells;
  called = λ log is. calls_moves unclaimed f w.moved did log after (w.called log is);
  short = w.short;
  stands = w.stands;
}

-- of a file that is taken up
tells_made : (facts : SourceFacts) (f moved : Copying) (did : Did) → f.stage ≡ at.Begin → TellsMade facts f did moved → Tells f did moved
tells_made facts f moved (Began part) begin is = (begin, (facts, is))
tells_made facts f moved (Troubled trouble) begin (barrier, is) = (barrier ∙ sym (ap file.at_barrier begin), is)
tells_made facts f moved did begin is = absurd is

module _ (unclaimed : Route → Type 0) (replies : Replies) (facts : SourceFacts) (job : ℕ) (pair : Pair) (moved : Copying) (log : CallLog) (after : Option CallLog) where
  abbrev f : Copying
  f = file.begun_copy job pair.source pair.target

  abbrev p : Places
  p = places_of f

  same_call : AreFactsOf (current log) pair.source facts → (k : ℕ) → making_with facts.mode p k ≡ making (current log) p k
  same_call is k = ap (λ mode. making_with mode p k) is.mode

  calls_made : (did : Did) (top : _) → TellsMade facts f did moved → MadeCalls unclaimed facts f did log after → IsTaken (current log) top replies pair (taken.File facts) → MoveCalls unclaimed f did moved log after
  calls_made (Began part) top is (k, part_is, first, rows) (there, said, open_to) = (
    record { source = there.0; file = there.1; bare = taken_bare (current log) top replies pair open_to },
    subst (λ (x : Copying). BeganOf (current log) p x.stage) (sym is) said,
    (k, part_is, first, subst (λ call. AllDone log (call ∷ []) after) (same_call said k) rows),
  )
  calls_made (Troubled trouble) top is (inl name) taken = inl name.1
  calls_made (Troubled trouble) top is (inr (k, first, run)) (there, said, open_to) = inr (k, first, subst (λ call. RunStops (call ∷ []) trouble.cause trouble.path log after) (same_call said k) run)
  calls_made did top is calls taken = absurd is

pub taken_moves : (unclaimed : Route → Type 0) (replies : Replies) (old new : Seen) (did : Did) (before after : Option CallLog) (t : TakesFile unclaimed replies old new did before after)
    → FileMoves unclaimed (file.begun_copy old.job t.pair.source t.pair.target) old new did before after
taken_moves unclaimed replies old new did before after t =
    let w = t.works in
    record {
      moved = w.moved;
      tells = tells_made t.facts (file.begun_copy old.job t.pair.source t.pair.target) w.moved did refl w.tells;
      called = λ log is. calls_made unclaimed replies t.facts old.job t.pair w.moved log after did (is_top old) w.tells (w.called log is) (t.is log is);
      short = w.short;
      stands = w.stands;
    }
