-- What a key and a step of the search make of the screen while things are sought: a line that asks, or the
-- list of the found paths.
use Rattle.std.specs.Prelude.{◌≡◌, ◌≢◌, ◌≤◌, ℕ, ◌-◌, Bool, true, false, List}
use Rattle.std.specs.Prelude.{Option, Some, None, Result, Ok, Err, IfOk}
use Rattle.mc_text.specs.Routes.{Route}
use Rattle.tree_trait.specs.Change.{CallLog, current}
use Rattle.tree_trait.specs.Answers.{HasRisen, IfKnown}
use Rattle.key_screen.specs.declared.keys.Key.{Key}
use Rattle.mc_dialogs.specs.InputKeys.{InputState, input_after, input_shut}
use Rattle.ui_words.specs.declared.replies.LineReply.{LineReply}
use Rattle.ui_words.specs.declared.replies.LineReply.TheVariants as line
use Rattle.ui_words.specs.BoxKeys.{line_reply}
use Rattle.resolving.specs.declared.error.ResolveError.TheVariants as resolve
use Rattle.resolving.specs.declared.walking.Wanted.TheVariants.{AnyThing}
use Rattle.resolving.specs.Errors.{Answers}
use Rattle.resolving.specs.Resolution.{resolved_path}
use Rattle.resolving.specs.Homes.{with_home}
use Rattle.tagging.specs.declared.pattern.PatternKind.{PatternKind}
use Rattle.tagging.specs.Patterns.{PatternText}
use Rattle.tagging.specs.TypedPatterns.{pattern_in}
use Rattle.ui_find.specs.declared.act.FindAct.{FindAct}
use Rattle.ui_find.specs.declared.act.FindAct.TheVariants.{Stays, Refused, Goes, Leaves}
use Rattle.ui_find.specs.declared.act.FindRefusal.TheVariants.{NoWay, NoPattern}
use Rattle.ui_find.specs.declared.asking.Asked.{Asked}
use Rattle.ui_find.specs.declared.asking.Asked.TheVariants.{Start, Names, Content}
use Rattle.ui_find.specs.declared.asking.Asking.{Asking}
use Rattle.ui_find.specs.declared.command.FindCommand.{FindCommand}
use Rattle.ui_find.specs.declared.command.FindCommand.TheVariants.{Move, Choose, Stop, Leave, Nothing}
use Rattle.ui_find.specs.FindKeys.{find_command}
use Rattle.ui_find.specs.Questions.{asks}
use Rattle.ui_find.specs.Listings.{IsBegun, ListingState, chosen_path, moved_by, no_listing, stopped_search}

-- how many lines the screen has, the folder from which a typed start leads, HOME, how patterns are read,
-- whether hidden names are met, the line that asks, and the list
pub record FindScreen : Type 0 where
  pub lines : ℕ
  pub folder : Route
  pub home : Option Route
  pub kind : PatternKind
  pub hidden : Bool
  pub asking : Option Asking
  pub listing : ListingState

-- as it opens
abbrev pub opened_find_screen : ℕ → Route → Option Route → PatternKind → Bool → FindScreen
opened_find_screen lines folder home kind hidden = record {
  lines = lines;
  folder = folder;
  home = home;
  kind = kind;
  hidden = hidden;
  asking = Some (asks Start);
  listing = no_listing;
}

-- THE LINES

abbrev pub with_line : Option Asking → FindScreen → FindScreen
with_line asking before = record before { asking = asking }

-- a way leads to the start, by what was typed with HOME in place of its tilde, and the names are asked for
pub record IsStart (text : List ℕ) (contents : Option CallLog) (before after : FindScreen) : Type 0 where
  pub start : Route
  pub way : IfKnown contents (λ log. Answers {A = Route}
      (resolved_path (current log) AnyThing before.folder (with_home before.home text)) (Ok start))
  pub after_is : after ≡ with_line (Some (asks (Names start))) before

-- what an answer to the first line comes to: the thing to which it leads along links is
-- the start, whatever it is
abbrev pub StartLeads : List ℕ → Option CallLog → FindAct → FindScreen → FindScreen → Type 0
StartLeads text contents Stays before after = IsStart text contents before after
StartLeads text contents (Refused (NoWay why)) before after =
    (after ≡ before) × (why ≢ resolve.Memory)
    × IfKnown contents (λ log. Answers {A = Route}
    (resolved_path (current log) AnyThing before.folder (with_home before.home text)) (Err why))
StartLeads text contents (Refused NoPattern) before after = ⊥
StartLeads text contents (Goes path) before after = ⊥
StartLeads text contents Leaves before after = ⊥

-- what an answer to the second one comes to: a pattern, or else it is refused
abbrev pub NamesLead : Route → Option PatternText → FindAct → FindScreen → FindScreen → Type 0
NamesLead start None act before after = (act ≡ Refused NoPattern) × (after ≡ before)
NamesLead start (Some name) act before after =
    (act ≡ Stays) × (after ≡ with_line (Some (asks (Content start name))) before)

-- what an answer to the last one comes to: a search begins
abbrev pub begins : ListingState → FindScreen → FindScreen
begins listing before = record before { asking = None; listing = listing }

abbrev pub AnswerLeads : Asked → List ℕ → Option CallLog → FindAct → FindScreen → FindScreen → Type 0
AnswerLeads Start text contents act before after = StartLeads text contents act before after
AnswerLeads (Names start) text contents act before after =
    NamesLead start (pattern_in before.kind text) act before after
AnswerLeads (Content start name) text contents act before after =
    (act ≡ Stays) × (after ≡ begins after.listing before)
    × IsBegun start name text before.hidden after.listing

-- what a line's reply to a key makes of the screen
abbrev pub LineLeads : LineReply → Asked → InputState → Option CallLog → FindAct → FindScreen
    → FindScreen → Type 0
LineLeads line.Stays asked typed contents act before after =
    (act ≡ Stays) × (after ≡ with_line (Some (record { asked = asked; line = typed })) before)
LineLeads line.Shuts asked typed contents act before after = (act ≡ Leaves) × (after ≡ with_line None before)
LineLeads (line.Takes text) asked typed contents act before after =
    AnswerLeads asked text contents act before after

-- THE LIST

-- how many paths are shown at most
abbrev pub page_of : ℕ → ℕ
page_of lines = lines - 6

abbrev pub with_listing : ListingState → FindScreen → FindScreen
with_listing listing before = record before { listing = listing }

-- what Enter comes to: the current path; with none it leaves
abbrev pub choice : Option Route → FindAct
choice None = Leaves
choice (Some path) = Goes path

-- what a command makes of the screen while the list stands
abbrev pub CommandLeads : FindCommand → FindAct → FindScreen → FindScreen → Type 0
CommandLeads (Move base) act before after =
    (act ≡ Stays) × (after ≡ with_listing (moved_by (page_of before.lines) base before.listing) before)
CommandLeads Choose act before after = (act ≡ choice (chosen_path before.listing)) × (after ≡ before)
CommandLeads Stop act before after =
    (act ≡ Stays) × (after ≡ with_listing (stopped_search before.listing) before)
CommandLeads Leave act before after = (act ≡ Leaves) × (after ≡ before)
CommandLeads Nothing act before after = (act ≡ Stays) × (after ≡ before)

-- KEYS

-- what a key makes of the screen: a line takes it while one asks, and else the list
abbrev pub ByAsking : Option Asking → Option CallLog → Key → FindAct → FindScreen → FindScreen → Type 0
ByAsking None contents key act before after = CommandLeads (find_command key) act before after
ByAsking (Some asking) contents key act before after =
    LineLeads (line_reply (input_shut asking.line key)) asking.asked (input_after asking.line key) contents
    act before after

abbrev pub KeyLeads : Option CallLog → Key → FindAct → FindScreen → FindScreen → Type 0
KeyLeads contents key act before after = ByAsking before.asking contents key act before after

-- a key looks at the tree: it answers where the search is to start
abbrev pub looks_by : LineReply → Asked → Bool
looks_by (line.Takes text) Start = true
looks_by (line.Takes text) (Names start) = false
looks_by (line.Takes text) (Content start name) = false
looks_by line.Stays asked = false
looks_by line.Shuts asked = false

abbrev pub looks_in : Option Asking → Key → Bool
looks_in None key = false
looks_in (Some asking) key = looks_by (line_reply (input_shut asking.line key)) asking.asked

abbrev pub looks : Key → FindScreen → Bool
looks key s = looks_in s.asking key

-- Reading leaves the tree as it was. A fault is told only where the tree's count of faults has risen.
pub record ReadsTree {E : Type 0} (result : Result FindAct E) (before after : Option CallLog)
    (faults faults_after : ℕ) : Type 0 where
  pub same : after ≡ before
  pub later : faults ≤ faults_after
  pub fault : IfOk result (λ act. act ≡ Refused (NoWay resolve.Fault) → HasRisen faults faults_after)
