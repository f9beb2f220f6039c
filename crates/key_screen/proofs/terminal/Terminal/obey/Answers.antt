use Rattle.std.proofs.Common.{◌≡◌, arith, ap, sym, ◌∙◌, length, replicate, subst}
use Rattle.std.proofs.lemmas.List.{length-replicate}
use Rattle.key_screen.specs.Cells.{blank_cell}
use Rattle.key_screen.specs.Layout.{IsLaidOut}
use Rattle.key_screen.proofs.RowLemmas.{blanks-laid_out, given_back}
use Rattle.key_screen.proofs.terminal.Terminal.obey.Goals as goal

pub invariant_of-self : goal.invariant_of-self
invariant_of-self c =
    let same : length c.clear.new.cells ≡ length c.deref_mut.result.now = ap length c.clear.ensures ∙ length-replicate _ blank_cell in
    let len : length c.clear.new.cells ≡ c.self.inside.cells.len = same ∙ c.deref_mut.ensures.len in
    let size : length c.deref_mut.result.now ≡ length c.self.inside.cells.items = ap length c.deref_mut.ensures.value in
    let laid : IsLaidOut c.self.inside.columns c.clear.new.cells = rw c.clear.ensures (blanks-laid_out c.self.inside.columns (length c.deref_mut.result.now)) in
    rw (given_back c.self.inside.cells.len c.clear.new.cells c.self.inside.cells.items len)
    (same ∙ size ∙ c.self.invariant.0, omega arith, c.self.invariant.2, c.self.invariant.3, laid)
