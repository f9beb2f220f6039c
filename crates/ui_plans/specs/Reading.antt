-- What calls that only read ask of the tree, and what they tell of it.
use Rattle.std.specs.Prelude.{◌≡◌, ℕ, ◌≤◌, true, List, Option, Result, IfOk}
use Rattle.std.specs.Option.{option_map}
use Rattle.tree_trait.specs.FileSystem.{View, visible_tree}
use Rattle.tree_trait.specs.Change.{CallLog, current}
use Rattle.tree_trait.specs.Answers.{IfKnown, HasRisen}
use Rattle.session_entries.specs.declared.refusal.Refusal.{Refusal}
use Rattle.session_entries.specs.Refusals.{AreRefused}
use Rattle.ui_plans.specs.Refused.{has_fault}

-- what can be seen of a tree, where it tells
abbrev pub sight : Option CallLog → Option View
sight contents = option_map (λ (log : CallLog). visible_tree (current log)) contents

-- Reading calls leave the tree as it was. What they were refused has its cause there, and tells of a fault
-- only where the tree's count has risen.
pub record ReadsTree {A E : Type 0} (refused : A → List Refusal) (result : Result A E)
    (before after : Option CallLog) (faults faults_after : ℕ) : Type 0 where
  pub same : after ≡ before
  pub later : faults ≤ faults_after
  pub called : IfKnown before (λ log. IfOk result (λ answer. AreRefused log (refused answer)))
  pub fault : IfOk result (λ answer. has_fault (refused answer) ≡ true → HasRisen faults faults_after)
