-- the two texts that are painted are those of the line
use Rattle.std.proofs.Common.{◌≡◌, ◌∙◌, ap₂, subst, OnOk}
use Rattle.mc_dialogs.specs.InputKeys.{InputState}
use Rattle.mc_dialogs.specs.InputField.{with_input}
use Rattle.mc_dialogs.proofs.FieldBox.{line_state}
use Rattle.mc_dialogs.proofs.input_line.InputLine.paint.Goals as goal

pub returns : goal.returns
returns c =
    let painted : line_state c.self.inside.title c.as_str.result.now c.as_str-2.result.now ≡ c.args.self.now =
    ap₂ (line_state c.self.inside.title) c.as_str.ensures.value c.as_str-2.ensures.value ∙ c.self.view_is in
    subst (λ (s : InputState). OnOk c.paint_field_box.result (c.paint_field_box.new.grid ≡ with_input c.args.grid.now s))
    painted c.paint_field_box.ensures
