-- The window holds a wrapped row.
use Rattle.std.proofs.Common.{◌≡◌, ◌+◌, ◌*◌, take, drop, ap, sym, ◌∙◌, arith}
use Rattle.mc_viewer.specs.Rows.{row_length, wrapped_length}
use Rattle.mc_viewer.specs.Windows.{window_of}
use Rattle.mc_viewer.proofs.LocalLemmas.{wrapped-local}
use Rattle.mc_viewer.proofs.LineTextLemmas.{row_end-is}
use Rattle.mc_viewer.proofs.pages.end_seen.Goals as goal

pub returns-in-Wrapped-clause-end : goal.returns-in-Wrapped-clause-end
returns-in-Wrapped-clause-end g c = λ bytes known size_is.
    let columns = c.args.layout.columns in
    let rest = drop c.args.row bytes in
    let window_is = c.requires.window bytes known size_is ∙ ap (λ s. take (window_of s columns c.args.layout.left) rest) c.in-Wrapped.is in
    let count_is : c.wrapped_length.result ≡ wrapped_length columns 0 0 rest =
    c.wrapped_length.ensures.value ∙ ap (wrapped_length columns 0 0) window_is
    ∙ wrapped-local columns 0 0 (4 * columns + 9) rest c.requires.wide (omega arith) in
    row_end-is columns c.args.size c.args.row c.wrapped_length.result c.end_behind.result bytes size_is c.requires.inside count_is c.end_behind.ensures
    ∙ ap (λ s. c.args.row + row_length s columns rest) (sym c.in-Wrapped.is)
