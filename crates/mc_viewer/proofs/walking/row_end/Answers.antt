-- By the shape.
use Rattle.std.proofs.Common.{◌+◌, drop, ap, sym, ◌∙◌}
use Rattle.std.proofs.lemmas.Result.{IfOk-weaker}
use Rattle.mc_viewer.specs.Rows.{row_length}
use Rattle.mc_viewer.proofs.LineTextLemmas.{unwrapped_is, hex_is}
use Rattle.mc_viewer.proofs.walking.row_end.Goals as goal

pub returns-in-Unwrapped-clause-shown : goal.returns-in-Unwrapped-clause-shown
returns-in-Unwrapped-clause-shown g c = λ bytes known size_is.
    let columns = c.args.layout.columns in
    let rest = drop c.args.at bytes in
    IfOk-weaker c.line_end.result _ _
    (λ end is. is ∙ ap (λ n. c.args.at + n) (unwrapped_is columns rest ∙ ap (λ s. row_length s columns rest) (sym c.in-Unwrapped.is)))
    (c.line_end.ensures.shown bytes known size_is)

pub returns-in-Hex-clause-shown : goal.returns-in-Hex-clause-shown
returns-in-Hex-clause-shown g c = λ bytes known size_is.
    let columns = c.args.layout.columns in
    c.min.ensures ∙ hex_is columns c.args.size c.args.at bytes size_is c.requires.inside
    ∙ ap (λ s. c.args.at + row_length s columns (drop c.args.at bytes)) (sym c.in-Hex.is)
