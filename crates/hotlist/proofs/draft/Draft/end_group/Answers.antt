use Rattle.std.proofs.Common.{◌≡◌, ℕ, suc, ◌-◌, ◌∷◌, ◌++◌, [], List, length, map, reverse, ap, ◌∙◌, arith}
use Rattle.std.proofs.lemmas.List.{length-append, reverse-append, map-append}
use Rattle.hotlist.specs.declared.draft.OpenGroup.{OpenGroup}
use Rattle.hotlist.specs.HotLines.{Parsed, EndLine}
use Rattle.hotlist.specs.HotFiles.{fault_at}
use Rattle.hotlist.proofs.draft.Draft.end_group.Goals as goal

pub returns-clause-goes_on : goal.returns-clause-goes_on
returns-clause-goes_on c = λ behind.
    let outer = c.pop.new.self.items in
    let lines : List OpenGroup → List ℕ = map (λ (group : OpenGroup). group.line) in
    let groups : c.args.self.now.groups.items ≡ outer ++ c.in-Some.group ∷ [] = c.in-Some.ensures.items in
    let unclosed : reverse (lines c.args.self.now.groups.items) ≡ c.in-Some.group.line ∷ reverse (lines outer) =
    ap (λ gs. reverse (lines gs)) groups ∙ ap reverse (map-append (λ (group : OpenGroup). group.line) outer (c.in-Some.group ∷ []))
    ∙ reverse-append (lines outer) (c.in-Some.group.line ∷ []) in
    let room : suc (32 - length c.args.self.now.groups.items) ≡ 32 - length outer =
    omega (arith, ap length groups, length-append outer (c.in-Some.group ∷ [])) in
    ap (λ u. fault_at (Parsed EndLine) c.args.at (32 - length c.args.self.now.groups.items) u behind) unclosed
    ∙ ap (λ r. behind r (reverse (lines outer))) room
