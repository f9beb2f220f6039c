-- The size of an output.
use Rattle.std.proofs.Common.{length, ap, ◌∙◌}
use Rattle.mc_viewer.proofs.ReadingLemmas.{held-output, readable-output}
use Rattle.mc_viewer.proofs.reading.size_of.Goals as goal

pub returns-in-Output-clause-shown : goal.returns-in-Output-clause-shown
returns-in-Output-clause-shown g c = λ bytes known.
    c.output_size.ensures.value ∙ ap length (held-output (g.T.ReadTree.contents c.args.tree.now) c.args.subject.now _ bytes c.in-Output.is known)

pub returns-in-Output-clause-readable : goal.returns-in-Output-clause-readable
returns-in-Output-clause-readable g c = λ log known. readable-output log c.args.subject.now _ c.in-Output.is
