-- A splice changes the text unless it puts in what it takes out.
use Rattle.std.proofs.Common.{◌≡◌, ◌+◌, ◌-◌, ◌≤◌, List, ℕ, length, sym, ap, arith, subst, ◌∙◌}
use Rattle.gap_text.specs.UndoHistory.{noted_history}
use Rattle.mc_edit.specs.Edits.{EditedText, spliced_bytes, largest_text}
use Rattle.mc_edit.proofs.SpliceLemmas.{length-spliced}
use Rattle.mc_edit.proofs.ChangeLemmas.{splice-same, splice-large, splice-changed, splice_change, IsEditor-spliced, largest_is}
use Rattle.mc_edit.proofs.editor.Editor.splice.Goals as goal

pub returns-then-are_same-clause-done : goal.returns-then-are_same-clause-done
returns-then-are_same-clause-done c =
    let bytes = c.self.inside.text.bytes in
    let bytes_are : bytes ≡ c.args.self.now.text.bytes = ap (λ (e : EditedText). e.text.bytes) c.self.view_is in
    let within : c.args.splice.to ≤ length bytes = omega (arith, c.requires.within, ap length bytes_are) in
    rw (← c.self.view_is)
    (splice-same bytes c.args.splice.from c.args.splice.to c.requires.ordered within c.args.splice.new c.in_ok-removed.removed
    c.in_ok-removed.ensures c.self.inside.is_changed c.self.inside.point c.args.splice.point c.self.inside.block c.self.inside.undo.past c.self.inside.undo.future
    c.if-are_same.ensures)

pub returns-then-size-gt-LARGEST_TEXT-clause-refused :
    goal.returns-then-size-gt-LARGEST_TEXT-clause-refused
returns-then-size-gt-LARGEST_TEXT-clause-refused c =
    let bytes = c.self.inside.text.bytes in
    let from = c.args.splice.from in
    let to = c.args.splice.to in
    let bytes_are : bytes ≡ c.args.self.now.text.bytes = ap (λ (e : EditedText). e.text.bytes) c.self.view_is in
    let within : to ≤ length bytes = omega (arith, c.requires.within, ap length bytes_are) in
    let size = from + (length c.slice_of.result.now + (c.len.result - to)) in
    let is_size : size ≡ from + (length c.args.splice.new + (length bytes - to)) =
    omega (arith, ap length c.slice_of.ensures, c.len.ensures.value) in
    λ other. rw (← c.self.view_is)
    (splice-large bytes from to c.requires.ordered within c.args.splice.new c.in_ok-removed.removed
    c.in_ok-removed.ensures c.self.inside.is_changed c.self.inside.point c.args.splice.point c.self.inside.block c.self.inside.undo.past c.self.inside.undo.future
    (sym c.if-are_same.ensures) size is_size (omega (arith, largest_is, c.if-size-gt-LARGEST_TEXT.true)))

pub invariant_of-self-2 : goal.invariant_of-self-2
invariant_of-self-2 c =
    let bytes = c.self.inside.text.bytes in
    let from = c.args.splice.from in
    let to = c.args.splice.to in
    let new = c.args.splice.new in
    let point = c.args.splice.point in
    let before = c.self.inside.point in
    let history = c.self.inside.undo in
    let bytes_are : bytes ≡ c.args.self.now.text.bytes = ap (λ (e : EditedText). e.text.bytes) c.self.view_is in
    let within : to ≤ length bytes = omega (arith, c.requires.within, ap length bytes_are) in
    let long : length (spliced_bytes bytes from to new) ≡ from + (length new + (length bytes - to)) =
    length-spliced bytes from to c.requires.ordered within new in
    let small : length (spliced_bytes bytes from to new) ≤ largest_text =
    omega (arith, largest_is, long, ap length c.slice_of.ensures, c.len.ensures.value, c.if-size-gt-LARGEST_TEXT.false) in
    let whole : c.put.new.text.bytes ≡ spliced_bytes bytes from to new =
    c.in_ok-put.ensures.done ∙ ap (λ l. spliced_bytes bytes from to l) c.slice_of-2.ensures in
    let kept : c.note.new.self ≡ noted_history history (splice_change bytes from to new before point) =
    c.note.ensures ∙ ap (λ (l : List ℕ). noted_history history (record { at = from; removed = l; inserted = new; before = before; after = point })) c.in_ok-removed.ensures in
    let point_in : point ≤ length (spliced_bytes bytes from to new) =
    subst (λ (l : List ℕ). point ≤ length (spliced_bytes l from to new)) (sym bytes_are) c.requires.point in
    rw (whole, kept)
    (IsEditor-spliced bytes from to c.requires.ordered within new before point c.self.inside.block history c.self.invariant point_in small)

pub returns-clause-done : goal.returns-clause-done
returns-clause-done c =
    let bytes = c.self.inside.text.bytes in
    let from = c.args.splice.from in
    let to = c.args.splice.to in
    let new = c.args.splice.new in
    let point = c.args.splice.point in
    let before = c.self.inside.point in
    let history = c.self.inside.undo in
    let bytes_are : bytes ≡ c.args.self.now.text.bytes = ap (λ (e : EditedText). e.text.bytes) c.self.view_is in
    let within : to ≤ length bytes = omega (arith, c.requires.within, ap length bytes_are) in
    let long : length (spliced_bytes bytes from to new) ≡ from + (length new + (length bytes - to)) =
    length-spliced bytes from to c.requires.ordered within new in
    let small : length (spliced_bytes bytes from to new) ≤ largest_text =
    omega (arith, largest_is, long, ap length c.slice_of.ensures, c.len.ensures.value, c.if-size-gt-LARGEST_TEXT.false) in
    let whole : c.put.new.text.bytes ≡ spliced_bytes bytes from to new =
    c.in_ok-put.ensures.done ∙ ap (λ l. spliced_bytes bytes from to l) c.slice_of-2.ensures in
    let kept : c.note.new.self ≡ noted_history history (splice_change bytes from to new before point) =
    c.note.ensures ∙ ap (λ (l : List ℕ). noted_history history (record { at = from; removed = l; inserted = new; before = before; after = point })) c.in_ok-removed.ensures in
    rw (← c.self.view_is, whole, kept)
    (splice-changed bytes from to c.requires.ordered within new c.in_ok-removed.removed c.in_ok-removed.ensures c.self.inside.is_changed before point
    c.self.inside.block history.past history.future (sym c.if-are_same.ensures) small history.depth c.self.invariant.depth)
