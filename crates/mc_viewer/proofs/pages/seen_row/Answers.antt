-- What the row shows rests on the bytes that were read.
use Rattle.std.proofs.Common.{◌≡◌, ℕ, List, min, ap, sym, ◌∙◌, take, drop, length, arith, length-drop, subst}
use Rattle.std.proofs.lemmas.List.{take_min}
use Rattle.mc_viewer.specs.Viewing.{held_bytes}
use Rattle.mc_viewer.specs.Pages.{row_text}
use Rattle.mc_viewer.specs.Windows.{window_of, IsKept}
use Rattle.mc_viewer.proofs.SightLemmas.{row_text-window}
use Rattle.mc_viewer.proofs.NearLemmas.{window_read}
use Rattle.mc_viewer.proofs.pages.seen_row.Goals as goal

pub end_seen-requires-clause-window : goal.end_seen-requires-clause-window
end_seen-requires-clause-window g c = λ bytes known size_is.
    let before = ap (λ t. held_bytes t c.args.subject.now) (sym c.in_ok-window.ensures.same) ∙ known in
    c.as_slice-shown.ensures.value
    ∙ window_read c.args.layout c.args.size c.args.row c.window_bytes-count.result bytes c.in_ok-window.window.items size_is c.window_bytes-count.ensures
    (c.in_ok-window.ensures.shown bytes before)

pub returns-clause-text : goal.returns-clause-text
returns-clause-text g c = λ bytes known size_is.
    let shape = c.args.layout.shape in
    let columns = c.args.layout.columns in
    let left = c.args.layout.left in
    let row = c.args.row in
    let read_is = c.as_slice-shown.ensures.value
    ∙ window_read c.args.layout c.args.size row c.window_bytes-count.result bytes c.in_ok-window.window.items size_is c.window_bytes-count.ensures
    (c.in_ok-window.ensures.shown bytes known) in
    c.in_ok-text.ensures ∙ ap (row_text shape columns left row) read_is ∙ row_text-window shape columns left row (drop row bytes) c.requires.wide

pub returns-clause-end : goal.returns-clause-end
returns-clause-end g c = λ bytes known size_is.
    c.in_ok-end.ensures.end bytes (ap (λ t. held_bytes t c.args.subject.now) c.in_ok-window.ensures.same ∙ known) size_is
