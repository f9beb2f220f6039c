use Rattle.std.proofs.Common.{◌++◌, codes, ap, ◌∙◌}
use Rattle.std.specs.List.{flat_map}
use Rattle.std.specs.String.{string_bytes}
use Rattle.hotlist.specs.Printed.{escaped_byte}
use Rattle.hotlist.proofs.PrintLemmas.{entry-pieces}
use Rattle.hotlist.proofs.print.print_entry.Goals as goal

pub returns : goal.returns
returns c =
    c.in_ok-push_str-3.ensures.bytes
    ∙ ap (λ text. text ++ codes "\"\n") (c.in_ok-push_escaped-2.ensures
    ∙ ap (λ path. string_bytes c.push_str-2.new.self ++ flat_map escaped_byte path) c.as_str-2.ensures
    ∙ ap (λ text. text ++ flat_map escaped_byte c.args.path.now) (c.in_ok-push_str-2.ensures.bytes
    ∙ ap (λ text. text ++ codes "\" URL \"") (c.in_ok-push_escaped.ensures
    ∙ ap (λ label. string_bytes c.push_str.new.self ++ flat_map escaped_byte label) c.as_str.ensures
    ∙ ap (λ text. text ++ flat_map escaped_byte c.args.label.now) (c.in_ok-push_str.ensures.bytes
    ∙ ap (λ text. text ++ codes "ENTRY \"") c.in_ok-push_indent.ensures))))
    ∙ entry-pieces (string_bytes c.args.text.now) c.args.depth c.args.label.now c.args.path.now
