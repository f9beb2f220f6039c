-- One chunk of a copy: its bytes, and what its writing comes to.
use Rattle.std.specs.Prelude.{◌≡◌, ℕ, ◌+◌, ◌≤◌, ◌∷◌, [], length, Option, None, Result, Ok, Err, IfErr, false}
use Rattle.mc_text.specs.Routes.{Route}
use Rattle.tree_trait.specs.Change.{CallLog, current}
use Rattle.tree_trait.specs.Answers.{IfKnown, HasRisen}
use Rattle.tree_trait.specs.declared.calls.TreeError.TheVariants as refused
use Rattle.job_reports.specs.declared.report.Cause.TheVariants.{Tree}
use Rattle.copy_file.specs.declared.stage.SourceFacts.{SourceFacts}
use Rattle.job_reports.specs.declared.stop.Stop.{Stop}
use Rattle.job_reports.specs.CallRuns.{AllDone, HasMore}
use Rattle.copy_file.specs.Copying.{Places, chunk_bytes}
use Rattle.copy_file.specs.CopyCalls.{ChunkStops, next_bytes, writing}

-- a chunk has at least one byte and at most 65,536, and none more than the source was said to have
pub record HasCount (facts : SourceFacts) (done count : ℕ) : Type 0 where
  pub some : 1 ≤ count
  pub few : count ≤ chunk_bytes
  pub within : done + count ≤ facts.size

-- a chunk was written, or its trouble is one that may come
abbrev pub ChunkRuns : Places → Route → SourceFacts → ℕ → Result ℕ Stop → CallLog → Option CallLog → Type 0
ChunkRuns p part facts done (Ok count) log after =
    (count ≡ length (next_bytes (current log) p.source facts done))
    × AllDone log (writing (current log) p part facts done ∷ []) after
ChunkRuns p part facts done (Err stop) log after =
    ChunkStops p part facts done stop.trouble.cause stop.trouble.path log after

-- how many changing calls a chunk made: one, or those until its trouble
abbrev pub chunk_calls : Result ℕ Stop → ℕ
chunk_calls (Ok count) = 1
chunk_calls (Err stop) = stop.calls

-- what is counted of a chunk
abbrev pub IfWritten : SourceFacts → ℕ → Result ℕ Stop → Type 0
IfWritten facts done (Ok count) = HasCount facts done count
IfWritten facts done (Err stop) = stop.trouble.barrier ≡ false

-- What the writing of a chunk comes to, as in `Ran`.
pub record Wrote (p : Places) (part : Route) (facts : SourceFacts) (done : ℕ) (result : Result ℕ Stop)
    (before after : Option CallLog) (faults faults_after : ℕ) : Type 0 where
  pub runs : IfKnown before (λ log. ChunkRuns p part facts done result log after)
  pub written : IfWritten facts done result
  pub counted : IfKnown before (λ log. IfKnown after (HasMore log (chunk_calls result)))
  pub few : chunk_calls result ≤ 1
  pub unknown : before ≡ None → after ≡ None
  pub later : faults ≤ faults_after
  pub fault : IfErr result (λ stop. stop.trouble.cause ≡ Tree refused.Fault → HasRisen faults faults_after)
