-- the bytes of the frame draw it, whether they were put or not
use Rattle.std.proofs.Common.{◌≡◌, ◌++◌, take, drop, Some, [], All, length, refl, ap, sym, ◌∙◌, subst, arith, append-nil}
use Rattle.std.proofs.lemmas.Result.{err_from_is_err_and}
use Rattle.key_screen.proofs.RowLemmas.{given_back}
use Rattle.screen_draw.specs.Changes.{changes_from, IsWithin, with_changes}
use Rattle.screen_draw.specs.DrawnBytes.{clearing, drawn_bytes}
use Rattle.screen_draw.proofs.CellLemmas.{changes-within, changes-give}
use Rattle.screen_draw.proofs.DisplayLemmas.{put_bytes, put-is, same_count, is_drawing, drawn_screen}
use Rattle.screen_draw.proofs.screen.Screen.draw.Goals as goal

pub returns-in_default-clause-shown : goal.returns-in_default-clause-shown
returns-in_default-clause-shown g c = λ given is. (
  put_bytes c.self.inside.has_drawn c.self.inside.cells.items c.args.frame.now,
  0,
  is ∙ ap (λ b. Some b) (sym (append-nil given)),
  is_drawing c.self.inside.lines c.self.inside.columns c.self.inside.cells.items c.args.self.now c.self.inside.has_drawn c.args.frame.now c.self.view_is c.self.invariant
      (omega arith) (omega arith) c.requires c.cells-cells.ensures.size c.cells-cells.ensures.laid_out,
)

pub bytes_of-requires : goal.bytes_of-requires
bytes_of-requires g c =
    let items : c.deref-2.result.now ≡ changes_from c.self.inside.has_drawn 0 c.deref.result.now c.cells-cells.result.now = c.deref-2.ensures.value ∙ c.in-Ok.ensures in
    let bound = length c.cells-cells.result.now in
    subst (All (IsWithin bound)) (sym items) (changes-within bound c.self.inside.has_drawn 0 c.deref.result.now c.cells-cells.result.now (omega arith))

pub returns-in_default-bytes_of-clause-shown : goal.returns-in_default-bytes_of-clause-shown
returns-in_default-bytes_of-clause-shown g c = λ given is. (
  put_bytes c.self.inside.has_drawn c.self.inside.cells.items c.args.frame.now,
  0,
  is ∙ ap (λ b. Some b) (sym (append-nil given)),
  is_drawing c.self.inside.lines c.self.inside.columns c.self.inside.cells.items c.args.self.now c.self.inside.has_drawn c.args.frame.now c.self.view_is c.self.invariant
      (omega arith) (omega arith) c.requires c.cells-cells.ensures.size c.cells-cells.ensures.laid_out,
)

pub returns-in_err-put-clause-shown : goal.returns-in_err-put-clause-shown
returns-in_err-put-clause-shown g c = λ given is.
    let p = err_from_is_err_and c.from_residual.result c.from_residual.ensures.1 in
    let put = c.in_err-put.ensures.answer given is in
    let frame = c.args.frame.now in
    let width : c.from-columns.result ≡ frame.columns = c.from-columns.ensures ∙ c.columns.ensures in
    let bytes : c.deref-3.result.now ≡ put_bytes c.self.inside.has_drawn c.self.inside.cells.items frame =
    c.deref-3.ensures.value ∙ c.in-Ok-bytes_of.ensures ∙ ap (λ changes. clearing c.self.inside.has_drawn ++ drawn_bytes c.from-columns.result c.cells-cells.result.now changes) (c.deref-2.ensures.value ∙ c.in-Ok.ensures)
    ∙ put-is c.from-columns.result c.deref.result.now c.cells-cells.result.now c.self.inside.has_drawn c.self.inside.cells.items frame width c.deref.ensures.value c.cells-cells.ensures.value in
    rw p.1 (
      put_bytes c.self.inside.has_drawn c.self.inside.cells.items frame,
      put.0,
      put.1 ∙ ap (λ b. Some (given ++ take put.0 b)) bytes,
      is_drawing c.self.inside.lines c.self.inside.columns c.self.inside.cells.items c.args.self.now c.self.inside.has_drawn frame c.self.view_is c.self.invariant
          (omega arith) (omega arith) c.requires c.cells-cells.ensures.size c.cells-cells.ensures.laid_out,
    )

pub take_over-requires : goal.take_over-requires
take_over-requires g c =
    let count = same_count c.self.inside.lines c.self.inside.columns c.self.inside.cells.items c.args.self.now c.self.inside.has_drawn c.args.frame.now c.self.view_is c.self.invariant c.requires c.cells-cells.ensures.size in
    let lent : length c.deref_mut.result.now ≡ length c.self.inside.cells.items = ap length c.deref_mut.ensures.value in
    let drawn : length c.cells-cells.result.now ≡ length c.args.frame.now.cells = ap length c.cells-cells.ensures.value in
    subst (All (IsWithin (length c.deref_mut.result.now))) (sym c.in-Ok.ensures)
    (changes-within (length c.deref_mut.result.now) c.self.inside.has_drawn 0 c.deref.result.now c.cells-cells.result.now (omega arith))

pub returns-clause-done : goal.returns-clause-done
returns-clause-done g c =
    let frame = c.args.frame.now in
    let count = same_count c.self.inside.lines c.self.inside.columns c.self.inside.cells.items c.args.self.now c.self.inside.has_drawn frame c.self.view_is c.self.invariant c.requires c.cells-cells.ensures.size in
    let equal : length c.deref.result.now ≡ length c.cells-cells.result.now = ap length c.deref.ensures.value ∙ count ∙ sym (ap length c.cells-cells.ensures.value) in
    let changed : c.take_over.new.cells ≡ frame.cells =
    c.take_over.ensures ∙ ap (λ cells. with_changes cells c.in-Ok.changes.items) (c.deref_mut.ensures.value ∙ sym c.deref.ensures.value)
    ∙ ap (with_changes c.deref.result.now) c.in-Ok.ensures
    ∙ changes-give c.self.inside.has_drawn 0 [] c.deref.result.now c.cells-cells.result.now refl equal ∙ c.cells-cells.ensures.value in
    let back : take c.self.inside.cells.len (c.take_over.new.cells ++ drop (length c.take_over.new.cells) c.self.inside.cells.items) ≡ c.take_over.new.cells =
    given_back c.self.inside.cells.len c.take_over.new.cells c.self.inside.cells.items (c.take_over.auto.cells ∙ c.deref_mut.ensures.len) in
    drawn_screen c.self.inside.lines c.self.inside.columns c.self.inside.cells.items (take c.self.inside.cells.len (c.take_over.new.cells ++ drop (length c.take_over.new.cells) c.self.inside.cells.items))
    c.args.self.now c.self.inside.has_drawn frame c.self.view_is c.requires (back ∙ changed)

pub returns-clause-shown : goal.returns-clause-shown
returns-clause-shown g c = λ given is.
    let frame = c.args.frame.now in
    let put = c.in_ok-put.ensures.answer given is in
    let width : c.from-columns.result ≡ frame.columns = c.from-columns.ensures ∙ c.columns.ensures in
    let bytes : c.in-Ok-bytes_of.bytes.items ≡ put_bytes c.self.inside.has_drawn c.self.inside.cells.items frame =
    c.in-Ok-bytes_of.ensures ∙ ap (λ changes. clearing c.self.inside.has_drawn ++ drawn_bytes c.from-columns.result c.cells-cells.result.now changes) (c.deref-2.ensures.value ∙ c.in-Ok.ensures)
    ∙ put-is c.from-columns.result c.deref.result.now c.cells-cells.result.now c.self.inside.has_drawn c.self.inside.cells.items frame width c.deref.ensures.value c.cells-cells.ensures.value in
    let size : length (put_bytes c.self.inside.has_drawn c.self.inside.cells.items frame) ≡ length c.deref-3.result.now = ap length (sym (c.deref-3.ensures.value ∙ bytes)) in
    let lent = c.deref-3.ensures.len in
    let count = c.len.ensures in (
      put_bytes c.self.inside.has_drawn c.self.inside.cells.items frame,
      put ∙ ap (λ b. Some (given ++ b)) (c.deref-3.ensures.value ∙ bytes),
      omega arith,
      is_drawing c.self.inside.lines c.self.inside.columns c.self.inside.cells.items c.args.self.now c.self.inside.has_drawn frame c.self.view_is c.self.invariant
          (omega arith) (omega arith) c.requires c.cells-cells.ensures.size c.cells-cells.ensures.laid_out,
    )
