-- The matcher searches for the expression.
use Rattle.std.proofs.Common.{◌≡◌, drop, subst, IfOk}
use Rattle.text_search.specs.Lines.{in_lines}
use Rattle.mc_viewer.proofs.window.regex_sought.Goals as goal

pub returns-clause-shown : goal.returns-clause-shown
returns-clause-shown g c = λ bytes known size_is.
    subst (λ text. IfOk c.through_lines.result (λ found. found ≡ in_lines text c.args.from 0 (drop c.args.from bytes))) c.in_ok-matcher.ensures
    (c.through_lines.ensures.shown bytes known size_is)
