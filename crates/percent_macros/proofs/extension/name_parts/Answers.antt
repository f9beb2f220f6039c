use Rattle.std.proofs.Common.{◌≡◌, ap, sym, ◌∙◌, arith, [], ◌∷◌, ◌++◌, length, ◌<◌}
use Rattle.std.proofs.lemmas.Grind.{common_steps}
use Rattle.std.proofs.lemmas.List.{nil_from_length}
use Rattle.percent_macros.specs.Extensions.{NameParts, name_parts}
use Rattle.percent_macros.proofs.NameLemmas.{name_parts-none, name_parts-first, name_parts-split}
use Rattle.percent_macros.proofs.extension.name_parts.Goals as goal

pub returns-in_default-clause-stem : goal.returns-in_default-clause-stem
returns-in_default-clause-stem c = sym (ap (λ (p : NameParts). p.stem) (name_parts-none c.args.name.now c.in_default.ensures.found))

pub returns-in_default-clause-extension : goal.returns-in_default-clause-extension
returns-in_default-clause-extension c =
    sym (ap (λ (p : NameParts). p.extension) (name_parts-none c.args.name.now c.in_default.ensures.found))

pub returns-then-is_empty-clause-stem : goal.returns-then-is_empty-clause-stem
returns-then-is_empty-clause-stem c =
    let nothing : c.in-Some.stem.now ≡ [] = nil_from_length _ (grind (arith, common_steps)) in
    let name : c.args.name.now ≡ 46 ∷ c.in-Some.extension.now = c.in-Some.ensures.found.1 ∙ ap (λ stem. stem ++ 46 ∷ c.in-Some.extension.now) nothing in
    name ∙ sym (ap (λ (p : NameParts). p.stem) (ap name_parts name ∙ name_parts-first c.in-Some.extension.now c.in-Some.ensures.found.0))

pub returns-then-is_empty-clause-extension : goal.returns-then-is_empty-clause-extension
returns-then-is_empty-clause-extension c =
    let nothing : c.in-Some.stem.now ≡ [] = nil_from_length _ (grind (arith, common_steps)) in
    let name : c.args.name.now ≡ 46 ∷ c.in-Some.extension.now = c.in-Some.ensures.found.1 ∙ ap (λ stem. stem ++ 46 ∷ c.in-Some.extension.now) nothing in
    sym (ap (λ (p : NameParts). p.extension) (ap name_parts name ∙ name_parts-first c.in-Some.extension.now c.in-Some.ensures.found.0))

pub returns-clause-stem : goal.returns-clause-stem
returns-clause-stem c =
    let some : 0 < length c.in-Some.stem.now = grind (arith, common_steps) in
    sym (ap (λ (p : NameParts). p.stem) (name_parts-split c.args.name.now c.in-Some.stem.now c.in-Some.extension.now c.in-Some.ensures.found.1 c.in-Some.ensures.found.0 some))

pub returns-clause-extension : goal.returns-clause-extension
returns-clause-extension c =
    let some : 0 < length c.in-Some.stem.now = grind (arith, common_steps) in
    sym (ap (λ (p : NameParts). p.extension) (name_parts-split c.args.name.now c.in-Some.stem.now c.in-Some.extension.now c.in-Some.ensures.found.1 c.in-Some.ensures.found.0 some))
