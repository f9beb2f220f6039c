-- The row to which a step leads, once it is known from which row, and how far.
use Rattle.std.proofs.Common.{◌≡◌, ℕ, List, ap, ◌∙◌}
use Rattle.mc_viewer.specs.declared.layout.Layout.{Layout}
use Rattle.mc_viewer.specs.declared.state.State.{State}
use Rattle.mc_viewer.specs.declared.way.Start.{Start}
use Rattle.mc_viewer.specs.declared.way.Way.{Way}
use Rattle.mc_viewer.specs.Rows.{all_rows, row_holding}
use Rattle.mc_viewer.specs.ViewerSteps.{layout_of}
use Rattle.mc_viewer.specs.Ways.{row_along, start_byte, to_row}

pub led : (bytes : List ℕ) (s new : State) (start : Start) (way : Way) (l : Layout) (byte from row : ℕ)
    → l ≡ layout_of s → byte ≡ start_byte bytes start → from ≡ row_holding l.shape l.columns bytes byte
    → row ≡ row_along way (all_rows l.shape l.columns bytes) from → new ≡ record s { top = row } → new ≡ to_row bytes s start way
led bytes s new start way l byte from row layout_is byte_is from_is row_is new_is =
    let along : List ℕ → ℕ → ℕ = row_along way in
    new_is
    ∙ ap (λ (t : ℕ). record s { top = t })
    (row_is ∙ ap (along (all_rows l.shape l.columns bytes)) (from_is ∙ ap (row_holding l.shape l.columns bytes) byte_is)
    ∙ ap (λ (k : Layout). along (all_rows k.shape k.columns bytes) (row_holding k.shape k.columns bytes (start_byte bytes start))) layout_is)
