use Rattle.std.proofs.Common.{◌++◌, codes, ap, ◌∙◌}
use Rattle.std.specs.String.{string_bytes}
use Rattle.hotlist.proofs.PrintLemmas.{end-pieces}
use Rattle.hotlist.proofs.print.print_end_line.Goals as goal

pub returns : goal.returns
returns c =
    c.in_ok-push_str.ensures.bytes ∙ ap (λ text. text ++ codes "ENDGROUP\n") c.in_ok-push_indent.ensures
    ∙ end-pieces (string_bytes c.args.text.now) c.args.depth
