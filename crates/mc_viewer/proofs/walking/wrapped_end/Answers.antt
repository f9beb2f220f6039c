-- The window holds the row.
use Rattle.std.proofs.Common.{◌≡◌, ◌+◌, ◌*◌, drop, ap, ◌∙◌, arith}
use Rattle.mc_viewer.specs.Rows.{wrapped_length}
use Rattle.mc_viewer.proofs.LocalLemmas.{wrapped-local}
use Rattle.mc_viewer.proofs.LineTextLemmas.{row_end-is}
use Rattle.mc_viewer.proofs.walking.wrapped_end.Goals as goal

pub returns-clause-shown : goal.returns-clause-shown
returns-clause-shown g c = λ bytes known size_is.
    let columns = c.args.columns in
    let rest = drop c.args.at bytes in
    let count_is : c.wrapped_length.result ≡ wrapped_length columns 0 0 rest =
    c.wrapped_length.ensures.value
    ∙ ap (wrapped_length columns 0 0) (c.as_slice.ensures.value ∙ c.in_ok-window.ensures.shown bytes known)
    ∙ wrapped-local columns 0 0 (4 * columns + 9) rest c.requires.wide (omega arith) in
    row_end-is columns c.args.size c.args.at c.wrapped_length.result c.end_behind.result bytes size_is c.requires.inside count_is c.end_behind.ensures
