-- The found paths, as a search tells them one after the other, and the list that shows them. Own; what is
-- found, and in which order, is that of `find_file`.
use Rattle.std.specs.Prelude.{◌≡◌, ℕ, suc, Bool, false, true, nat_lt, if◌then◌else◌}
use Rattle.std.specs.Prelude.{◌||◌, List, [], ◌∷◌, ◌++◌, length, Option, Some, None, is_some, slice_get}
use Rattle.mc_text.specs.Routes.{Route}
use Rattle.tree_trait.specs.declared.file_system.FileSystem.{FileSystem}
use Rattle.tree_trait.specs.Change.{CallLog, current}
use Rattle.tree_trait.specs.Answers.{HasRisen, IfKnown, one_more}
use Rattle.key_screen.specs.declared.keys.Base.{Base}
use Rattle.mc_dialogs.specs.ListKeys.{moved_to, scrolled_to}
use Rattle.tagging.specs.Patterns.{PatternText}
use Rattle.find_file.specs.declared.finder.Finder.{Finder}
use Rattle.find_file.specs.declared.found.Found.{Found}
use Rattle.find_file.specs.declared.found.Found.TheVariants.{Path, Skipped, End}
use Rattle.find_file.specs.FoundList.{found_list}
use Rattle.find_file.specs.Walks.{steps_left, yet_to_find}
use Rattle.find_file.specs.Telling.{IsStep}
use Rattle.ui_find.specs.declared.findings.Course.{Course}
use Rattle.ui_find.specs.declared.findings.Course.TheVariants.{GoesOn, Ends}
use Rattle.ui_find.specs.Tellings.{FindingsState}

-- FINDINGS

abbrev pub no_findings : FindingsState
no_findings = record { found = []; skipped = 0; has_more = false }

-- a path is found: it is listed, up to 10,000 of them; of one behind these it is only
-- known that there are more
abbrev pub with_path : Route → FindingsState → FindingsState
with_path path f = if nat_lt (length f.found) 10000 then record f { found = f.found ++ path ∷ [] }
    else record f { has_more = true }

-- what a search tells joins what it has told
abbrev pub told_to : Found → FindingsState → FindingsState
told_to (Path path) f = with_path path f
told_to (Skipped path why) f = record f { skipped = one_more f.skipped }
told_to End f = f

abbrev pub after_telling : Option Found → FindingsState → FindingsState
after_telling None f = f
after_telling (Some found) f = told_to found f

abbrev pub by_more : Bool → Course
by_more has_more = if has_more then Ends else GoesOn

-- a search goes on until its end, or until there are more paths than are listed
abbrev pub course_after : Option Found → FindingsState → Course
course_after None f = GoesOn
course_after (Some End) f = Ends
course_after (Some (Path path)) f = by_more f.has_more
course_after (Some (Skipped path why)) f = by_more f.has_more

-- what a search comes to that is yet to tell this
unfoldable pub told_all : List Found → FindingsState → FindingsState
told_all [] f = f
told_all (found ∷ rest) f =
    if (told_to found f).has_more then told_to found f else told_all rest (told_to found f)

-- THE LIST

-- what is still searched, whether a key stopped it, what was told so far, the position of the current path,
-- and that of the first one shown
pub record ListingState : Type 0 where
  pub search : Option Finder
  pub stopped : Bool
  pub findings : FindingsState
  pub current : ℕ
  pub first : ℕ

abbrev pub no_listing : ListingState
no_listing = record { search = None; stopped = false; findings = no_findings; current = 0; first = 0 }

-- a search that begins
abbrev pub begun_search : Finder → ListingState
begun_search finder =
    record { search = Some finder; stopped = false; findings = no_findings; current = 0; first = 0 }

-- what the list comes to on a file system that stays as it is: nothing more, or all that is yet to be found
abbrev pub comes_to_by : FileSystem → Option Finder → FindingsState → FindingsState
comes_to_by s None f = f
comes_to_by s (Some finder) f = told_all (yet_to_find s finder) f

abbrev pub comes_to : FileSystem → ListingState → FindingsState
comes_to s l = comes_to_by s l.search l.findings

-- A search begins that goes into folders. The list comes to all that is found from the start on, up to
-- where there are more paths than are listed, on any file system that stays as it is.
pub record IsBegun (start : Route) (name : PatternText) (content : List ℕ) (hidden : Bool)
    (listing : ListingState) : Type 0 where
  pub finder : Finder
  pub search : finder.search ≡ record { name = name; content = content; recursive = true; hidden = hidden }
  pub list : (s : FileSystem) → comes_to s listing ≡ told_all (found_list s finder.search start) no_findings
  pub is : listing ≡ begun_search finder

-- what is left of a search that takes this course
abbrev pub left_by : Course → Finder → Option Finder
left_by GoesOn finder = Some finder
left_by Ends finder = None

-- one step of a search that tells this, if it tells anything
pub record IsTold (contents : Option CallLog) (faults faults_after : ℕ) (finder left : Finder)
    (before after : FindingsState) (course : Course) : Type 0 where
  pub told : Option Found
  pub step : IsStep contents faults faults_after finder told left
  pub findings : after ≡ after_telling told before
  pub course_is : course ≡ course_after told after

-- A step of the list: one of its search, if one goes on. The current path stays, and so
-- does the first one shown.
pub record IsStepped (contents : Option CallLog) (faults faults_after : ℕ) (finder : Finder)
    (before after : ListingState) : Type 0 where
  pub left : Finder
  pub course : Course
  pub told : IsTold contents faults faults_after finder left before.findings after.findings course
  pub after_is : after ≡ record before { search = left_by course left; findings = after.findings }

abbrev pub StepLeads : Option Finder → Option CallLog → ℕ → ℕ → ListingState → ListingState → Type 0
StepLeads None contents faults faults_after before after = after ≡ before
StepLeads (Some finder) contents faults faults_after before after =
    IsStepped contents faults faults_after finder before after

-- unless the device failed, the list comes to what it would have come to
abbrev pub IsKept : Option CallLog → ℕ → ℕ → ListingState → ListingState → Type 0
IsKept contents faults faults_after before after =
    IfKnown contents (λ log. (HasRisen faults faults_after → ⊥)
    → comes_to (current log) after ≡ comes_to (current log) before)

-- how many steps are left at most until nothing is sought any more
abbrev pub steps_by : Option Finder → ℕ
steps_by None = 0
steps_by (Some finder) = suc (steps_left finder)

abbrev pub steps_to_end : ListingState → ℕ
steps_to_end l = steps_by l.search

-- KEYS

-- another path is current
abbrev pub moved_by : ℕ → Base → ListingState → ListingState
moved_by page base l =
    let current = moved_to (length l.findings.found) page l.current base in
    record l { current = current; first = scrolled_to page l.first current }

-- the current path, where there is one
abbrev pub chosen_path : ListingState → Option Route
chosen_path l = slice_get l.findings.found l.current

-- nothing more is sought, and the list says so where something was; what was found stays
abbrev pub stopped_search : ListingState → ListingState
stopped_search l = record l { search = None; stopped = l.stopped || is_some l.search }
