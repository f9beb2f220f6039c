use Rattle.std.proofs.Common.{sym, ◌∙◌}
use Rattle.copy_folders.proofs.Coming.{top_coming}
use Rattle.copy_folders.proofs.stack.Stack.is_top_coming.Goals as goal

pub returns-in-Some : goal.returns-in-Some
returns-in-Some c = c.same.ensures ∙ sym (top_coming c.args.top.now c.args.name.now c.in-Some.field-0.now c.args.self.now.levels.inner.names c.in-Some.ensures.some)
