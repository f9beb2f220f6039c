use Rattle.std.proofs.Common.{◌≡◌, ◌≤◌, ◌++◌, length, ap, ◌∙◌, sym, arith}
use Rattle.std.proofs.lemmas.Grind.{common_steps}
use Rattle.std.proofs.lemmas.List.{append-nil}
use Rattle.ui_menu.proofs.RowLemmas.{no-title}
use Rattle.ui_menu.proofs.rows.push_title.Goals as goal

pub returns-else-place-len : goal.returns-else-place-len
returns-else-place-len c =
    let past : length c.args.menu.now ≤ c.args.place = grind (arith, common_steps, c.len.ensures, c.if-place-len.false) in
    sym (ap (λ more. c.args.titles.now.items ++ more) (no-title c.args.menu.now c.args.place past) ∙ append-nil c.args.titles.now.items)
