-- What a look takes up: what the live job waits with, and what reading the panels again
-- comes to, after a job's end.
use Rattle.std.specs.Prelude.{◌≡◌, ℕ, Bool, true, false, List, [], ◌∷◌, ◌++◌, Option, None, map}
use Rattle.tree_trait.specs.Change.{CallLog}
use Rattle.tree_trait.specs.Answers.{IfKnown}
use Rattle.job_reports.specs.declared.row.JobRow.{JobRow}
use Rattle.job_reports.specs.declared.waits.Waits.{Waits}
use Rattle.job_reports.specs.Waits.{waits_of}
use Rattle.session_entries.specs.declared.refusal.Refusal.{Refusal}
use Rattle.session_entries.specs.declared.refusal.Refusal.TheVariants.{Resolve}
use Rattle.panel_pair.specs.declared.looking.Unread.{Unread}
use Rattle.panel_pair.specs.Looks.{ShowsLooks}
use Rattle.panel_pair.specs.Looks as pair
use Rattle.panel_pair.specs.Pairs.{PairState}
use Rattle.panel_pair.specs.Readings.{list_of_error}

-- what the live job waits with, where it waits; today one job is live at a time
abbrev pub shown_waits : List JobRow → Option Waits
shown_waits [] = None
shown_waits (row ∷ rows) = waits_of row

-- what was refused, the left panel's folder first
abbrev pub told_unread : Unread → List Refusal
told_unread unread = map Resolve (list_of_error unread.left ++ list_of_error unread.right)

-- the panels are read again, as the tree has their folders; one whose folder is refused stays as it was
pub record ReadsAgain (contents : Option CallLog) (page : ℕ) (refusals : List Refusal)
    (before after : PairState) : Type 0 where
  pub unread : Unread
  pub panels : pair.LooksAgain page unread before after
  pub shows : IfKnown contents (λ log. ShowsLooks log unread before after)
  pub told : refusals ≡ told_unread unread

-- so they are after a job's end that was not taken up, and else they stay
abbrev pub LooksAgain : Option CallLog → Bool → ℕ → List Refusal → PairState → PairState → Type 0
LooksAgain contents true page refusals before after = ReadsAgain contents page refusals before after
LooksAgain contents false page refusals before after = (refusals ≡ []) × (after ≡ before)
