-- What reading both panels again makes of them (own; a panel whose folder can't be read stays as it was).
use Rattle.std.specs.Prelude.{◌≡◌, ℕ}
use Rattle.tree_trait.specs.Change.{CallLog}
use Rattle.panel_state.specs.Rereadings.{IsAttempt, IsReadAgain, ShowsAgain, ShowsAttempt, refusal_in}
use Rattle.panel_pair.specs.declared.looking.Reread.{Reread}
use Rattle.panel_pair.specs.declared.looking.Unread.{Unread}
use Rattle.panel_pair.specs.Pairs.{PairState, left_panel, right_panel}

-- this was read for the panels
pub record IsRereadOf (pair : PairState) (reread : Reread) : Type 0 where
  pub left : IsAttempt (left_panel pair) reread.left
  pub right : IsAttempt (right_panel pair) reread.right

-- what each folder held, or why it was refused, is as the tree has it
pub record ShowsReread (log : CallLog) (pair : PairState) (reread : Reread) : Type 0 where
  pub left : ShowsAttempt log (left_panel pair).folder reread.left
  pub right : ShowsAttempt log (right_panel pair).folder reread.right

-- why a folder could not be read again, if it couldn't
abbrev pub unread_of : Reread → Unread
unread_of reread = record { left = refusal_in reread.left; right = refusal_in reread.right }

-- each panel is read again, or stays as it was where that was refused
pub record LooksAgain (page : ℕ) (unread : Unread) (before after : PairState) : Type 0 where
  pub left : IsReadAgain page unread.left (left_panel before) (left_panel after)
  pub right : IsReadAgain page unread.right (right_panel before) (right_panel after)
  pub same_side : after.side ≡ before.side

-- each then shows its folder as it was read, or the tree refuses that
pub record ShowsLooks (log : CallLog) (unread : Unread) (before after : PairState) : Type 0 where
  pub left : ShowsAgain log (left_panel before).folder unread.left (left_panel after)
  pub right : ShowsAgain log (right_panel before).folder unread.right (right_panel after)

-- where what was read is as a tree has it, the panels show that afterwards
abbrev pub TakesReread : Reread → PairState → PairState → Type 0
TakesReread reread before after = (log : CallLog) → ShowsReread log before reread
    → ShowsLooks log (unread_of reread) before after
