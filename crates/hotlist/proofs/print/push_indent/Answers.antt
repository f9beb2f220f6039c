use Rattle.std.proofs.Common.{◌≡◌, suc, ◌+◌, ◌∷◌, ◌++◌, [], ap, ◌∙◌, append_assoc, arith}
use Rattle.std.specs.String.{string_bytes}
use Rattle.hotlist.specs.Printed.{indent}
use Rattle.hotlist.proofs.PrintLemmas.{indent-more}
use Rattle.hotlist.proofs.print.push_indent.Goals as goal

pub loop-preserved : goal.loop-preserved
loop-preserved c =
    let old = string_bytes c.args.text.now in
    let next : suc c.loop.counter ≡ c.loop.counter + 1 = omega arith in
    c.in_ok-push_str.ensures.bytes ∙ ap (λ text. text ++ 32 ∷ 32 ∷ []) c.loop.invariant
    ∙ append_assoc old (indent c.loop.counter []) (32 ∷ 32 ∷ []) ∙ ap (λ blanks. old ++ blanks) (indent-more c.loop.counter ∙ ap (λ n. indent n []) next)
