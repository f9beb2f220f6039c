use Rattle.std.proofs.Common.{◌≡◌, ◌++◌, ◌∷◌, ap, ◌∙◌, sym, arith}
use Rattle.std.specs.List.{flat_map}
use Rattle.std.specs.String.{string_bytes}
use Rattle.std.proofs.lemmas.Grind.{common_steps}
use Rattle.percent_macros.specs.Quoting.{name_in_quotes}
use Rattle.percent_macros.specs.Inserted.{joined_names}
use Rattle.percent_macros.proofs.JoinLemmas.{joined-cons}
use Rattle.percent_macros.proofs.inserted.joined.Goals as goal

pub loop-name-init : goal.loop-name-init
loop-name-init c =
    let names : c.args.names.now ≡ c.in-Some.first.now ∷ c.in-Some.others.now = grind (arith, common_steps, c.in-Some.ensures.cases) in
    let written : string_bytes c.push_str.new.self ≡ name_in_quotes c.in-Some.first.now = grind (arith, common_steps) in
    ap (λ text. text ++ flat_map (λ name. 32 ∷ name_in_quotes name) c.in-Some.others.now) written
    ∙ joined-cons c.in-Some.first.now c.in-Some.others.now ∙ ap joined_names (sym names)
