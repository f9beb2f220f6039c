-- its three lines
use Rattle.std.proofs.Common.{◌≡◌, ◌∙◌, ap, sym, subst, List, OnOk}
use Rattle.mc_text.specs.declared.kind.Kind.TheVariants.{File}
use Rattle.mc_text.specs.Permissions.{perm_text}
use Rattle.mc_dialogs.specs.declared.frame.Line.{Line}
use Rattle.mc_dialogs.specs.Boxes.{with_box}
use Rattle.mc_dialogs.specs.ModeKeys.{octal, mode_lines}
use Rattle.mc_dialogs.proofs.PaintedLines.{plain_line, three_lines}
use Rattle.mc_dialogs.proofs.mode_box.ModeBox.paint.Goals as goal

pub returns : goal.returns
returns c =
    let title = c.self.inside.title in
    let mode = c.self.inside.mode in
    let lines : c.deref.result.now ≡ mode_lines c.args.self.now =
    c.deref.ensures.value
    ∙ three_lines title (perm_text File mode) (octal mode) c.plain.result c.plain-2.result c.plain-3.result c.new-lines.result.items c.push.new.self.items c.push-2.new.self.items c.push-3.new.self.items
    c.new-lines.ensures.items c.in_ok-push.ensures.items c.in_ok-push-2.ensures.items c.in_ok-push-3.ensures.items
    (c.plain.ensures ∙ ap plain_line c.in_ok-copy.ensures) (c.plain-2.ensures ∙ ap plain_line c.in_ok-letters_of.ensures) (c.plain-3.ensures ∙ ap plain_line c.in_ok-octal_of.ensures)
    ∙ ap mode_lines c.self.view_is in
    subst (λ (painted : List Line). OnOk c.paint_box.result (c.paint_box.new.grid ≡ with_box c.args.grid.now painted)) lines c.paint_box.ensures
