-- What came is the whole file, unless it is more than a text may have.
use Rattle.std.proofs.Common.{◌≡◌, ℕ, List, length, ap, ◌∙◌, arith}
use Rattle.mc_edit.specs.Edits.{EditedText, begun_text}
use Rattle.mc_edit.specs.declared.error.EditError.TheVariants.{Memory}
use Rattle.ui_editor.specs.EditorScreens.{opened}
use Rattle.ui_editor.specs.EditorOpenings.{bytes_at}
use Rattle.ui_editor.proofs.OpeningLemmas.{large_is, opened_is}
use Rattle.ui_editor.proofs.opening.open_bytes.Goals as goal

pub too_large-requires : goal.too_large-requires
too_large-requires g c = λ log known.
    let front = c.requires log known in
    let large = c.in-Err-TooLarge.ensures.large (λ (memory : c.in-Err-TooLarge.field-0 ≡ Memory). cc) in
    let items : c.as_slice.result.now ≡ c.args.bytes.items = c.as_slice.ensures.value in
    (front.0, large_is (bytes_at log c.args.path) c.args.bytes.items front.1 (omega (arith, large.1, ap length items)))

pub returns-in_ok-of-in-Ok-clause-opens : goal.returns-in_ok-of-in-Ok-clause-opens
returns-in_ok-of-in-Ok-clause-opens g c =
    let items : c.as_slice.result.now ≡ c.args.bytes.items = c.as_slice.ensures.value in
    let is : c.in_ok-of-in-Ok.field-0 ≡ opened c.args.lines c.args.path (begun_text c.args.bytes.items) =
    c.in_ok-of-in-Ok.ensures
    ∙ ap (λ (edited : EditedText). opened c.args.lines c.args.path edited) c.in-Ok.ensures.done
    ∙ ap (λ (bytes : List ℕ). opened c.args.lines c.args.path (begun_text bytes)) items in
    opened_is (g.T.ReadTree.contents c.args.tree.now) c.args.path c.args.lines c.args.bytes.items c.in_ok-of-in-Ok.field-0 is c.requires
    (omega (arith, c.in-Ok.ensures.small, ap length items))
