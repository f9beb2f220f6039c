-- The making of a file's part, of which the looks have said what it is, as a step of the file's copy of which no calls are told.
use Rattle.std.proofs.Common.{◌≡◌, sym, ◌∙◌, ap, refl, Option, None}
use Rattle.mc_text.specs.Routes.{Route}
use Rattle.tree_trait.specs.Change.{CallLog}
use Rattle.job_answers.specs.declared.replies.Replies.{Replies}
use Rattle.job_reports.specs.declared.report.Did.{Did}
use Rattle.job_reports.specs.declared.report.Did.TheVariants.{Began, Chunk, Placed, Removed, Made, Set, Kept, Skipped, Cleaned, Barrier, Asked, Merges, Moved, Troubled, Ended}
use Rattle.copy_file.specs.Copying as file
use Rattle.copy_file.specs.Copying.{Copying}
use Rattle.copy_file.specs.CopySteps.{Falls}
use Rattle.copy_file.specs.PartSteps.{TellsMade}
use Rattle.copy_file.specs.declared.stage.SourceFacts.{SourceFacts}
use Rattle.copy_file.specs.declared.stage.Stage.TheVariants.{Begin}
use Rattle.copy_tree.specs.Standing.{Seen}
use Rattle.copy_tree.specs.TreeCopySteps.{FileWorks, TakesFile}

pub tells_part : (facts : SourceFacts) (f moved : Copying) (did : Did) → f.stage ≡ Begin → TellsMade facts f did moved → file.Tells f did moved
tells_part facts f moved (Began part) begin t = (begin, (facts, t))
tells_part facts f moved (Troubled trouble) begin t = (t.0 ∙ sym (ap file.at_barrier begin), t.1)
tells_part facts f moved (Chunk count) begin t = absurd t
tells_part facts f moved (Placed path) begin t = absurd t
tells_part facts f moved (Removed path) begin t = absurd t
tells_part facts f moved (Made path) begin t = absurd t
tells_part facts f moved (Set path) begin t = absurd t
tells_part facts f moved (Kept path) begin t = absurd t
tells_part facts f moved (Skipped path cause) begin t = absurd t
tells_part facts f moved (Cleaned part) begin t = absurd t
tells_part facts f moved Barrier begin t = absurd t
tells_part facts f moved (Asked question) begin t = absurd t
tells_part facts f moved (Merges transfer pair names) begin t = absurd t
tells_part facts f moved (Moved pair) begin t = absurd t
tells_part facts f moved (Ended ending part) begin t = absurd t

falls_part : (facts : SourceFacts) (f moved : Copying) (did : Did) → TellsMade facts f did moved → Falls did f moved
falls_part facts f moved (Began part) t = tt
falls_part facts f moved (Troubled trouble) t = tt
falls_part facts f moved (Chunk count) t = absurd t
falls_part facts f moved (Placed path) t = absurd t
falls_part facts f moved (Removed path) t = absurd t
falls_part facts f moved (Made path) t = absurd t
falls_part facts f moved (Set path) t = absurd t
falls_part facts f moved (Kept path) t = absurd t
falls_part facts f moved (Skipped path cause) t = absurd t
falls_part facts f moved (Cleaned part) t = absurd t
falls_part facts f moved Barrier t = absurd t
falls_part facts f moved (Asked question) t = absurd t
falls_part facts f moved (Merges transfer pair names) t = absurd t
falls_part facts f moved (Moved pair) t = absurd t
falls_part facts f moved (Ended ending part) t = absurd t

pub file_taken : (unclaimed : Route → Type 0) (replies : Replies) (old new : Seen) (did : Did) (before after : Option CallLog) → (t : TakesFile unclaimed replies old new did before after)
    → FileWorks unclaimed (file.begun_copy old.job t.pair.source t.pair.target) old new did None None
file_taken unclaimed replies old new did before after t =
    let w = t.works in
    let f = file.begun_copy old.job t.pair.source t.pair.target in
    record {
      moved = w.moved;
      tells = tells_part t.facts f w.moved did refl w.tells;
      called = λ log is. absurd (let g : ⊥ = cc in g);
      falls = falls_part t.facts f w.moved did w.tells;
      sound = w.sound;
      short = w.short;
      stands = w.stands;
    }
