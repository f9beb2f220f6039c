-- The tree's size is that of the bytes that it holds.
use Rattle.std.proofs.Common.{◌≡◌, ◌<◌, ◌≤◌, length, refl, arith, ◌∙◌}
use Rattle.std.proofs.Math.Nat.{le-max_right, max-eq_left}
use Rattle.mc_edit.specs.Edits.{largest_text}
use Rattle.mc_edit.proofs.ChangeLemmas.{largest_is}
use Rattle.ui_editor.specs.EditorOpenings.{bytes_at}
use Rattle.ui_editor.proofs.opening.too_large.Goals as goal

pub returns-in-Ok-clause-opens : goal.returns-in-Ok-clause-opens
returns-in-Ok-clause-opens g c =
    let size = c.in-Ok.meta.size in
    let large : largest_text < c.max.result = omega (arith, largest_is, c.max.ensures, le-max_right size 16777217) in (
      refl,
      large,
      λ log known.
          let held = c.requires log known in
          let size_is : size ≡ length (bytes_at log c.args.path) = (c.in-Ok.ensures.answer log known).1.size in
          let more : 16777217 ≤ size = omega (arith, largest_is, held.1, size_is) in
          (held.0, c.max.ensures ∙ max-eq_left more ∙ size_is),
    )
