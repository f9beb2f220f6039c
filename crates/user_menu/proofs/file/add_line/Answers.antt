use Rattle.std.proofs.Common.{◌≡◌, ◌∷◌, [], ◌-◌, List, ℕ, set, ap, ◌∙◌, sym, arith}
use Rattle.std.proofs.lemmas.Result.{on_ok_weaker}
use Rattle.user_menu.specs.Menus.{MenuEntry}
use Rattle.user_menu.specs.Drafts.{extended_entries}
use Rattle.user_menu.proofs.DraftLemmas.{with_more, extended-put}
use Rattle.user_menu.proofs.file.add_line.Goals as goal

pub returns-clause-extended : goal.returns-clause-extended
returns-clause-extended c =
    let entries = c.args.entries.now.items in
    let last = c.len-last.result - 1 in
    let entry : MenuEntry = c.index_mut.result.now in
    on_ok_weaker
    {P = c.add_line.new.self ≡ with_more entry (c.args.line ∷ [])}
    {Q = (more : List (List ℕ)) → extended_entries (set entries last c.add_line.new.self) more ≡ extended_entries entries (c.args.line ∷ more)}
    c.add_line.result
    (λ is more. ap (λ new. extended_entries (set entries last new) more) is
    ∙ extended-put entries last entry c.args.line more (omega arith) (sym c.index_mut.ensures.value))
    c.add_line.ensures
