use Rattle.std.proofs.Common.{◌≡◌, ◌∙◌, subst, OnOk}
use Rattle.key_screen.specs.Grids.{CellGrid}
use Rattle.mc_dialogs.proofs.FieldBox.{field_over_box}
use Rattle.mc_dialogs.proofs.field.paint_field_box.Goals as goal

pub returns : goal.returns
returns c =
    subst (λ (painted : CellGrid). OnOk c.write_field.result (c.write_field.new.grid ≡ painted))
    (field_over_box c.args.grid.now c.paint_box.new.grid c.args.title.now c.args.before.now c.args.behind.now c.deref.result.now _ _ _
    c.in_ok-paint_box.ensures (c.deref.ensures.value ∙ c.in_ok-lines.ensures.value)
    c.place_of_field-place.ensures.row c.place_of_field-place.ensures.column c.place_of_field-place.ensures.inside)
    c.write_field.ensures
