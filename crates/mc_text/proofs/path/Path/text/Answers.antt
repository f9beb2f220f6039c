-- Each name is written behind a slash, and is read from there.
use Rattle.std.proofs.Common.{◌≡◌, ◌≢◌, ◌+◌, ◌≤◌, [], ◌∷◌, ◌++◌, length, take, take_all, reverse, ap, ◌∙◌, arith}
use Rattle.std.specs.String.{string_bytes}
use Rattle.std.proofs.lemmas.Grind.{common_steps}
use Rattle.std.proofs.lemmas.List.{reverse-append, length-reverse}
use Rattle.mc_text.specs.Routes.{spelled_route}
use Rattle.mc_text.proofs.Components.{route-name, fault-more, fault-spelled}
use Rattle.mc_text.proofs.path.Path.text.Goals as goal

pub loop-name-preserved : goal.loop-name-preserved
loop-name-preserved c =
    let name = c.name-item.result in
    let before = string_bytes c.loop-name.text in
    let items = c.deref-name-items.result.now in
    let here = c.loop-name.invariant in
    let written : string_bytes c.push_str.new.self ≡ before ++ 47 ∷ name = grind (arith, common_steps) in
    let read : take (c.loop-name.name-index + 1) items ≡ take c.loop-name.name-index items ++ name ∷ [] = grind (arith, common_steps) in
    let route : reverse (take (c.loop-name.name-index + 1) items) ≡ name ∷ reverse (take c.loop-name.name-index items) =
    ap reverse read ∙ reverse-append (take c.loop-name.name-index items) (name ∷ []) in
    rw (written, route)
    (record {
      text = ap (λ t. t ++ 47 ∷ name) here.text;
      names = route-name before name c.text.ensures.sound ∙ ap (λ r. name ∷ r) here.names;
      fault = fault-more before name here.fault c.text.ensures.sound;
    })

pub returns-clause-sound : goal.returns-clause-sound
returns-clause-sound c =
    let items = c.deref-name-items.result.now in
    let here = c.loop-name.invariant in
    let all : take c.loop-name.name-index items ≡ items = take_all c.loop-name.name-index items (omega arith) in
    let route : string_bytes c.loop-name.text ≡ spelled_route (reverse items) = here.text ∙ ap (λ r. spelled_route (reverse r)) all in
    let some : length (reverse items) ≢ 0 = rw (length-reverse items) (grind (arith, common_steps)) in
    let short : length (spelled_route (reverse items)) ≤ 4096 = grind (arith, common_steps) in
    rw route (fault-spelled (reverse items) some short (rw route at here.fault))
