-- a cluster that has room in its row
use Rattle.std.proofs.Common.{◌≡◌, ◌≤◌, ◌+◌, ◌-◌, ◌*◌, arith, ap, sym, ◌∙◌, length, true, subst}
use Rattle.key_screen.specs.DrawnText.{cluster_columns, is_drawable, drawn_glyph, put_glyph}
use Rattle.key_screen.specs.Layout.{IsLaidOut, IsRowEnd}
use Rattle.key_screen.proofs.RowLemmas.{given_back, cluster-laid_out}
use Rattle.key_screen.proofs.terminal.Terminal.show.Goals as goal

pub invariant_of-self : goal.invariant_of-self
invariant_of-self c =
    let columns = c.self.inside.columns in
    let old = c.deref_mut.result.now in
    let drawable : is_drawable c.args.cluster.now ≡ true = sym c.can_be_drawn.ensures ∙ c.if-not-can_be_drawn.false in
    let size : length old ≡ length c.self.inside.cells.items = ap length c.deref_mut.ensures.value in
    let before : IsLaidOut columns old = subst (IsLaidOut columns) (sym c.deref_mut.ensures.value) c.self.invariant.4 in
    let width : c.columns_of-columns.result ≡ cluster_columns c.args.cluster.now = c.columns_of-columns.ensures.value in
    let laid : IsLaidOut columns c.put.new.cells = rw c.put.ensures
    (cluster-laid_out columns old c.self.inside.at c.self.inside.room c.args.cluster.now c.in-Ok.glyph c.self.inside.mode drawable c.in-Ok.ensures
    (omega arith) c.self.invariant.2 c.self.invariant.3 (omega arith) before) in
    let len : length c.put.new.cells ≡ length old = c.put.auto.cells in
    let sum : c.self.inside.at + c.self.inside.room ≡ c.self.inside.at + c.columns_of-columns.result + (c.self.inside.room - c.columns_of-columns.result) = omega arith in
    rw (given_back c.self.inside.cells.len c.put.new.cells c.self.inside.cells.items (len ∙ c.deref_mut.ensures.len))
    (len ∙ size ∙ c.self.invariant.0, omega arith, omega arith, subst (IsRowEnd columns) sum c.self.invariant.3, laid)
