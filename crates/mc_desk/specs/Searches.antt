-- What the steps of a search make of the screen, and which entry tells of them.
use Rattle.std.specs.Prelude.{◌≡◌, ◌⊎◌, ℕ, ◌≤◌, zero, suc, Bool, true, false, ⊤, not, List, Option}
use Rattle.tree_trait.specs.Change.{CallLog}
use Rattle.session_entries.specs.declared.history.Event.{Event}
use Rattle.session_entries.specs.declared.history.Event.TheVariants.{Key, Look, Sought, Began}
use Rattle.session_entries.specs.declared.history.Event.TheVariants.{Order, Step, Next, Closed}
use Rattle.ui_find.specs.Listings.{IsKept, steps_to_end}
use Rattle.mc_ui.specs.Screens.{Screen}
use Rattle.mc_ui.specs.Seekings.{SeekLeads, is_seeking, list_in, with_list}

-- the list stays as it is, since memory ran out; how far the search came is not told
abbrev pub ListsNothing : Screen → Screen → Type 0
ListsNothing before after =
    list_in after.over ≡ record (list_in before.over) { search = (list_in after.over).search }

-- One step of the search that goes on: what it tells joins the list; or memory ran out, where it may.
-- Unless the device failed the list comes to what it would have come to. The rest of the screen stays.
pub record Seeks (may_lack : Bool) (contents : Option CallLog) (faults faults_after : ℕ)
    (before after : Screen) : Type 0 where
  pub seeking : is_seeking before ≡ true
  pub told : SeekLeads contents faults faults_after before.over after.over
      ⊎ ((may_lack ≡ true) × ListsNothing before after)
  pub kept : IsKept contents faults faults_after (list_in before.over) (list_in after.over)
  pub rest : after ≡ with_list (list_in after.over) before
  pub later : faults ≤ faults_after

-- so many steps; memory may have run out in none but the last, and not there either unless it may
abbrev pub SeeksOn : Bool → ℕ → Option CallLog → ℕ → ℕ → Screen → Screen → Type 0
SeeksOn may_lack zero contents faults faults_after before after = (after ≡ before) × (faults_after ≡ faults)
SeeksOn may_lack (suc steps) contents faults faults_after before after =
    (screen : Screen) × (count : ℕ) × SeeksOn false steps contents faults count before screen
    × Seeks may_lack contents count faults_after screen after

-- steps were made, one at least and 50,000 at most; only in the last of them may memory have run out
pub record HasSought (contents : Option CallLog) (faults faults_after : ℕ)
    (before after : Screen) : Type 0 where
  pub steps : ℕ
  pub some : 1 ≤ steps
  pub most : steps ≤ 50000
  pub made : SeeksOn true steps contents faults faults_after before after

-- the source has the same bytes left, and has failed as often
abbrev pub KeepsSource : Option (List ℕ) → Option (List ℕ) → ℕ → ℕ → Type 0
KeepsSource left left_after faults faults_after = (left_after ≡ left) × (faults_after ≡ faults)

-- An entry of a search tells of steps, while the tree's faults rose to its count. Nothing else seeks.
abbrev pub EventSeeks : Event → Option CallLog → ℕ → ℕ → Screen → Screen → Type 0
EventSeeks Sought contents failed faults before after =
    (from : ℕ) × (failed ≤ from) × HasSought contents from faults before after
EventSeeks (Key key now refusals lost) contents failed faults before after = ⊤
EventSeeks (Look refusals) contents failed faults before after = ⊤
EventSeeks (Began id plan background) contents failed faults before after = ⊤
EventSeeks (Order id order) contents failed faults before after = ⊤
EventSeeks (Step id did) contents failed faults before after = ⊤
EventSeeks (Next id plan) contents failed faults before after = ⊤
EventSeeks Closed contents failed faults before after = ⊤

-- how many steps the search of a screen has left at most
abbrev pub steps_ahead : Screen → ℕ
steps_ahead screen = steps_to_end (list_in screen.over)
