-- A part of an output.
use Rattle.std.proofs.Common.{◌≡◌, take, drop, ap, ◌∙◌}
use Rattle.mc_viewer.proofs.ReadingLemmas.{held-output, readable-output}
use Rattle.mc_viewer.proofs.reading.piece.Goals as goal

pub returns-in_ok-part-in-Output-clause-shown : goal.returns-in_ok-part-in-Output-clause-shown
returns-in_ok-part-in-Output-clause-shown g c = λ bytes known.
    let out = held-output (g.T.ReadTree.contents c.args.tree.now) c.args.subject.now _ bytes c.in-Output.is known in
    let same : c.as_slice.result.now ≡ bytes = cc in
    c.in_ok-part-in-Output.ensures.value ∙ ap (λ l. take c.args.count (drop c.args.at l)) same

pub returns-in_ok-part-in-Output-clause-readable : goal.returns-in_ok-part-in-Output-clause-readable
returns-in_ok-part-in-Output-clause-readable g c = λ log known. readable-output log c.args.subject.now _ c.in-Output.is
