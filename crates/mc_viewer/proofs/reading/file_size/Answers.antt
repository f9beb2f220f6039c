-- The size that a tree says is that of the bytes that it holds.
use Rattle.std.proofs.Common.{length, ap, sym, ◌∙◌}
use Rattle.tree_trait.specs.Change.{current}
use Rattle.tree_trait.specs.Answers.{IsMeta}
use Rattle.tree_trait.specs.declared.calls.Meta.{Meta}
use Rattle.mc_viewer.proofs.ReadingLemmas.{known-file, refused-stat, refused-said}
use Rattle.mc_viewer.proofs.reading.file_size.Goals as goal

pub returns-in_err-meta-clause-refused : goal.returns-in_err-meta-clause-refused
returns-in_err-meta-clause-refused g c = λ log known.
    let path = c.args.path.now in
    let e = c.in_err-meta.field-0.0 in
    refused-said log path e c.from_residual-in_err-meta.result c.from_residual-in_err-meta.ensures.1
    (refused-stat log path Meta e (IsMeta (current log) path) (c.in_err-meta.ensures.answer log (c.in_ok-file_piece.ensures.same ∙ known)))

pub returns-clause-shown : goal.returns-clause-shown
returns-clause-shown g c = λ bytes known.
    let there = known-file (g.T.ReadTree.contents c.args.tree.now) c.args.path.now bytes known in
    (c.in_ok-meta.ensures.answer there.log (c.in_ok-file_piece.ensures.same ∙ there.is)).1.size ∙ ap length (sym there.holds)
