-- The changes that an editor keeps, read as the texts that they lead between, and what
-- always holds of an editor.
use Rattle.std.specs.Prelude.{◌≡◌, ℕ, ◌+◌, ◌≤◌, List, [], ◌∷◌, length}
use Rattle.gap_text.specs.UndoHistory.{UndoHistory}
use Rattle.gap_text.specs.declared.change.Change.{Change}
use Rattle.mc_edit.specs.declared.block.Block.{Block}
use Rattle.mc_edit.specs.declared.block.Block.TheVariants.{Absent, Open, Fixed}
use Rattle.mc_edit.specs.Edits.{Edit, spliced_bytes, largest_text, undo_depth}

-- the text before a change, from the one after it: what was put in gives way to what was removed
unfoldable pub text_before_change : Change → List ℕ → List ℕ
text_before_change change bytes =
    spliced_bytes bytes change.at (change.at + length change.inserted) change.removed

-- the text after a change, from the one before it
unfoldable pub text_after_change : Change → List ℕ → List ℕ
text_after_change change bytes =
    spliced_bytes bytes change.at (change.at + length change.removed) change.inserted

-- a change, as the texts and points around it
abbrev pub edit_between : Change → List ℕ → List ℕ → Edit
edit_between change old new =
    record {
      before = record { bytes = old; point = change.before };
      after = record { bytes = new; point = change.after };
    }

-- the changes that led to these bytes, the last one first
abbrev pub edits_back : List ℕ → List Change → List Edit
edits_back bytes [] = []
edits_back bytes (change ∷ older) =
    edit_between change (text_before_change change bytes) bytes
    ∷ edits_back (text_before_change change bytes) older

-- the changes that lead on from these bytes, the next one first
abbrev pub edits_on : List ℕ → List Change → List Edit
edits_on bytes [] = []
edits_on bytes (change ∷ later) = edit_between change bytes (text_after_change change bytes)
    ∷ edits_on (text_after_change change bytes) later

-- a change leads from one text to another, and back
pub record Leads (change : Change) (old new : List ℕ) : Type 0 where
  pub old_fits : change.at + length change.removed ≤ length old
  pub new_fits : change.at + length change.inserted ≤ length new
  pub forth : text_after_change change old ≡ new
  pub back : text_before_change change new ≡ old
  pub point_before : change.before ≤ length old
  pub point_after : change.after ≤ length new
  pub old_small : length old ≤ largest_text
  pub new_small : length new ≤ largest_text

-- each change leads to the text from which the newer one led on
abbrev pub LeadHere : List ℕ → List Change → Type 0
LeadHere bytes [] = Unit {0}
LeadHere bytes (change ∷ older) =
    Leads change (text_before_change change bytes) bytes × LeadHere (text_before_change change bytes) older

-- each change leads on from the text to which the one before it led
abbrev pub LeadOn : List ℕ → List Change → Type 0
LeadOn bytes [] = Unit {0}
LeadOn bytes (change ∷ later) =
    Leads change bytes (text_after_change change bytes) × LeadOn (text_after_change change bytes) later

-- the block lies within so many bytes
abbrev pub IsWithin : Block → ℕ → Type 0
IsWithin Absent size = Unit {0}
IsWithin (Open start) size = start ≤ size
IsWithin (Fixed start end) size = (start ≤ size) × (end ≤ size)

-- what holds of an editor between any two calls
pub record IsEditor (bytes : List ℕ) (at : ℕ) (block : Block) (history : UndoHistory) : Type 0 where
  pub small : length bytes ≤ largest_text
  pub point_within : at ≤ length bytes
  pub block_within : IsWithin block (length bytes)
  pub depth : history.depth ≡ undo_depth
  pub leads_here : LeadHere bytes history.past
  pub leads_on : LeadOn bytes history.future
