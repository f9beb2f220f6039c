-- What stands and is a link is refused nothing but by a fault or want of memory.
use Rattle.std.proofs.Common.{◌≡◌, Err, sym, subst}
use Rattle.tree_trait.specs.FileSystem.{node}
use Rattle.tree_trait.specs.Change.{current, found_node}
use Rattle.resolving.specs.declared.looking.Step.{Step}
use Rattle.resolving.specs.declared.error.ResolveError.{ResolveError}
use Rattle.resolving.specs.Errors.{Answers}
use Rattle.resolving.specs.Resolution.{look_at}
use Rattle.resolving.proofs.Walks.{link_readable, link_refused}
use Rattle.resolving.proofs.looking.read_text.Goals as goal

pub returns-in-Err-clause-answer : goal.returns-in-Err-clause-answer
returns-in-Err-clause-answer g c log tells stands kind =
    subst (λ (e : ResolveError). Answers {A = Step} (look_at (current log) c.args.path) (Err e)) (sym c.refused.ensures)
    (link_refused log c.args.path (λ text. text ≡ (node (current log) (found_node (current log) c.args.path)).bytes) (look_at (current log) c.args.path) c.in-Err.error
    (link_readable (current log) c.args.path stands kind) (c.in-Err.ensures.answer log tells))
