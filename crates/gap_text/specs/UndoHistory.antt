-- The changes of a text that stand, and those that were undone. Own; mcedit(1) has undo without its rules.
use Rattle.std.specs.Prelude.{ℕ, List, [], ◌∷◌, take}
use Rattle.gap_text.specs.declared.change.Change.{Change}

-- the newest change that stands comes first in `past`, the next to be redone first in `future`
pub record UndoHistory : Type 0 where
  pub past : List Change
  pub future : List Change
  pub depth : ℕ

-- nothing to undo or to redo
abbrev pub no_changes : ℕ → UndoHistory
no_changes depth = record { past = []; future = []; depth = depth }

-- a change is put before the past, the oldest past the depth are dropped, and so is all that was undone
abbrev pub noted_history : UndoHistory → Change → UndoHistory
noted_history history change =
    record { past = take history.depth (change ∷ history.past); future = []; depth = history.depth }

-- the first change of `from` goes before `to`
abbrev pub carried_changes : List Change → List Change → List Change × List Change
carried_changes [] to = ([], to)
carried_changes (change ∷ from) to = (from, change ∷ to)

-- the newest change goes from the past to the future
abbrev pub undone_history : UndoHistory → UndoHistory
undone_history history =
    let moved = carried_changes history.past history.future in
    record { past = moved.0; future = moved.1; depth = history.depth }

-- the change that was undone last goes from the future to the past
abbrev pub redone_history : UndoHistory → UndoHistory
redone_history history =
    let moved = carried_changes history.future history.past in
    record { past = moved.1; future = moved.0; depth = history.depth }
