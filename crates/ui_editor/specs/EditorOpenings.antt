-- What opening a file to edit it comes to: links lead to what lies there, which is edited where it can be
-- read and is not too large.
use Rattle.std.specs.Prelude.{◌≡◌, ◌≢◌, ◌<◌, ◌≤◌, ⊤, ℕ, List, [], length, min}
use Rattle.std.specs.Prelude.{take, Option, Some, None, Result, Err, IfOk}
use Rattle.mc_text.specs.Routes.{Route}
use Rattle.tree_trait.specs.declared.calls.TreeError.{TreeError}
use Rattle.tree_trait.specs.declared.calls.TreeError.TheVariants as tree
use Rattle.tree_trait.specs.Calls.{ReadAt}
use Rattle.tree_trait.specs.FileSystem.{node}
use Rattle.tree_trait.specs.Change.{CallLog, current, found_node}
use Rattle.tree_trait.specs.Refusals.{refusal_of}
use Rattle.tree_trait.specs.Answers.{HasRisen, IfKnown}
use Rattle.resolving.specs.declared.error.ResolveError.TheVariants as resolve
use Rattle.resolving.specs.declared.walking.Wanted.TheVariants.{AnyThing}
use Rattle.resolving.specs.Errors.{Answers}
use Rattle.resolving.specs.Resolution.{resolved_path}
use Rattle.ui_viewer.specs.Openings.{LeadsTo}
use Rattle.mc_edit.specs.Edits.{largest_text, begun_text}
use Rattle.ui_editor.specs.declared.opening.Opening.{Opening}
use Rattle.ui_editor.specs.declared.opening.Opening.TheVariants.{Edited, Folder, NoWay, Unread, TooLarge}
use Rattle.ui_editor.specs.EditorScreens.{EditorScreen, opened}

-- the bytes that a tree holds at a path
abbrev pub bytes_at : CallLog → Route → List ℕ
bytes_at log path = (node (current log) (found_node (current log) path)).bytes

-- why a tree refuses to read what lies at a path, if it does
abbrev pub unread : CallLog → Route → Option TreeError
unread log path = refusal_of (current log) (ReadAt path 0 0)

-- a reading is refused so: as the tree says, or by a fault, or for want of memory
abbrev pub IsUnread : CallLog → Route → TreeError → Type 0
IsUnread log path tree.Fault = ⊤
IsUnread log path tree.Memory = ⊤
IsUnread log path why = unread log path ≡ Some why

-- the same where the tree says what it holds
abbrev pub IsRefused : Option CallLog → Route → TreeError → Type 0
IsRefused contents path why = IfKnown contents (λ log. IsUnread log path why)

-- what came of some bytes: as many of the first ones as there was room for
abbrev pub IsBeginning : List ℕ → ℕ → List ℕ → Type 0
IsBeginning bytes room read = (read ≡ take (length read) bytes) × (length read ≡ min room (length bytes))

-- a file can be read, and these are its first bytes, at most so many
abbrev pub IsFront : Option CallLog → Route → ℕ → List ℕ → Type 0
IsFront contents path most bytes =
    IfKnown contents (λ log. (unread log path ≡ None) × (bytes ≡ take most (bytes_at log path)))

-- A file is edited from its beginning on, with nothing to undo and nothing changed. Where the tree says
-- what it holds, it can be read, and the text has its bytes.
pub record IsOpened (contents : Option CallLog) (path : Route) (lines : ℕ)
    (screen : EditorScreen) : Type 0 where
  pub begins : screen ≡ opened lines path (begun_text screen.edited.text.bytes)
  pub small : length screen.edited.text.bytes ≤ largest_text
  pub readable : IfKnown contents (λ log. unread log path ≡ None)
  pub whole : IfKnown contents (λ log. screen.edited.text.bytes ≡ bytes_at log path)

-- what opening comes to at a path without links: a folder opens nothing
abbrev pub OpensPath : Option CallLog → Route → ℕ → Opening → Type 0
OpensPath contents path lines (Edited screen) = IsOpened contents path lines screen
OpensPath contents path lines Folder = IfKnown contents (λ log. unread log path ≡ Some tree.IsFolder)
OpensPath contents path lines (NoWay why) = ⊥
OpensPath contents path lines (Unread at why) =
    (at ≡ path) × (why ≢ tree.Memory) × IsRefused contents path why
OpensPath contents path lines (TooLarge at size) =
    (at ≡ path) × (largest_text < size)
    × IfKnown contents (λ log. (unread log path ≡ None) × (size ≡ length (bytes_at log path)))

-- the same with the thing of a name in a folder; or no way leads to it, as the tree says
abbrev pub OpensThing : Option CallLog → Route → List ℕ → ℕ → Opening → Type 0
OpensThing contents folder name lines (NoWay why) =
    (why ≢ resolve.Memory) × IfKnown contents (λ log.
    Answers {A = Route} (resolved_path (current log) AnyThing folder name) (Err why))
OpensThing contents folder name lines (Edited screen) =
    (path : Route) × LeadsTo contents folder name path × OpensPath contents path lines (Edited screen)
OpensThing contents folder name lines Folder =
    (path : Route) × LeadsTo contents folder name path × OpensPath contents path lines Folder
OpensThing contents folder name lines (Unread at why) =
    (path : Route) × LeadsTo contents folder name path × OpensPath contents path lines (Unread at why)
OpensThing contents folder name lines (TooLarge at size) =
    (path : Route) × LeadsTo contents folder name path × OpensPath contents path lines (TooLarge at size)

-- a file that is missing is an empty text
abbrev pub empty_where_missing : ℕ → Opening → Opening
empty_where_missing lines (Unread at tree.Missing) = Edited (opened lines at (begun_text []))
empty_where_missing lines opening = opening

-- what opening a file comes to that may be missing
abbrev pub OpensOrBegins : Option CallLog → Route → ℕ → Opening → Type 0
OpensOrBegins contents path lines opening =
    (there : Opening) × OpensPath contents path lines there × (opening ≡ empty_where_missing lines there)

-- opening leaves the tree as it was, and tells a fault only where the tree's count of faults has risen
pub record ReadsToOpen {E : Type 0} (result : Result Opening E) (before after : Option CallLog)
    (faults faults_after : ℕ) : Type 0 where
  pub same : after ≡ before
  pub later : faults ≤ faults_after
  pub way_fault : IfOk result (λ opening. opening ≡ NoWay resolve.Fault → HasRisen faults faults_after)
  pub read_fault : (at : Route)
      → IfOk result (λ opening. opening ≡ Unread at tree.Fault → HasRisen faults faults_after)
