-- Each name is written behind a slash.
use Rattle.std.proofs.Common.{◌≡◌, ◌+◌, [], ◌∷◌, ◌++◌, take, reverse, ap, ◌∙◌, arith}
use Rattle.std.specs.String.{string_bytes}
use Rattle.std.proofs.lemmas.Grind.{common_steps}
use Rattle.std.proofs.lemmas.List.{reverse-append}
use Rattle.host_tree.proofs.real_path.text_at_once.Goals as goal

pub loop-name-preserved : goal.loop-name-preserved
loop-name-preserved c =
    let name = c.name-item.result in
    let before = string_bytes c.loop-name.text in
    let items = c.names-names.result.now in
    let written : string_bytes c.push_str.new.self ≡ before ++ 47 ∷ name = grind (arith, common_steps) in
    let read : take (c.loop-name.name-index + 1) items ≡ take c.loop-name.name-index items ++ name ∷ [] = grind (arith, common_steps) in
    let route : reverse (take (c.loop-name.name-index + 1) items) ≡ name ∷ reverse (take c.loop-name.name-index items) =
    ap reverse read ∙ reverse-append (take c.loop-name.name-index items) (name ∷ []) in
    rw (written, route) (ap (λ t. t ++ 47 ∷ name) c.loop-name.invariant)
