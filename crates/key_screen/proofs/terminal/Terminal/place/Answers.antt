-- the row of the place ends behind its last column
use Rattle.std.proofs.Common.{◌≡◌, ◌≤◌, ◌+◌, ◌-◌, ◌*◌, arith, ap, subst, sym, ◌∙◌, mul-le-mul_right, length}
use Rattle.key_screen.proofs.RowLemmas.{row_end}
use Rattle.key_screen.proofs.terminal.Terminal.place.Goals as goal

pub invariant_of-self : goal.invariant_of-self
invariant_of-self c =
    let columns = c.self.inside.columns in
    let some : 1 ≤ c.args.row = omega arith in
    let first : 1 ≤ c.args.column = omega arith in
    let last : c.args.column ≤ columns = omega arith in
    let ends : (c.args.row - 1) * c.from-columns.result + (c.args.column - 1) + (c.from-columns.result - (c.args.column - 1)) ≡ c.args.row * columns =
    ap (λ n. (c.args.row - 1) * n + (c.args.column - 1) + (n - (c.args.column - 1))) c.from-columns.ensures ∙ row_end columns c.args.row c.args.column some first last in
    let row : c.args.row ≤ c.self.inside.lines = omega arith in
    let within : c.args.row * columns ≤ c.self.inside.lines * columns = mul-le-mul_right columns row in
    (c.self.invariant.0, omega arith, omega arith, (c.args.row, ends), c.self.invariant.4)
