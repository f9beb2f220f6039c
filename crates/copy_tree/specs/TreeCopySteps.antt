-- What a step of a tree's copy reports, where the copy stands then, and what it says of the tree's calls.
-- The copies of a file, of a link and of a folder itself say each what their steps may report and call;
-- here stands which of them is at work, on which paths, and when.
use Rattle.std.specs.Prelude.{◌≡◌, ◌⊎◌, ℕ, suc, zero, ◌^◌, ◌≤◌, ⊤, Bool, true}
use Rattle.std.specs.Prelude.{false, List, [], ◌∷◌, length, Option, Some, None}
use Rattle.mc_text.specs.Routes.{Route}
use Rattle.tree_trait.specs.Change.{CallLog, current}
use Rattle.tree_trait.specs.Answers.{IfKnown, HasRisen, IsAscending}
use Rattle.job_reports.specs.declared.job.Pair.{Pair}
use Rattle.job_answers.specs.declared.replies.Replies.{Replies}
use Rattle.job_reports.specs.declared.question.Question.{Question}
use Rattle.job_reports.specs.declared.report.Trouble.{Trouble}
use Rattle.job_reports.specs.declared.report.Did.{Did}
use Rattle.job_reports.specs.declared.report.Did.TheVariants as common
use Rattle.job_reports.specs.declared.report.Ending.TheVariants.{Finished}
use Rattle.job_reports.specs.CallRuns.{HasMore}
use Rattle.job_reports.specs.Reports.{IsFault}
use Rattle.job_reports.specs.Stops.{out_of_memory_at}
use Rattle.copy_file.specs.Copying as file
use Rattle.copy_file.specs.Copying.{Copying}
use Rattle.copy_file.specs.CopyCalls.{CopyCalls}
use Rattle.copy_file.specs.CopySteps.{Falls as FileFalls}
use Rattle.copy_file.specs.LastSteps.{left_at}
use Rattle.copy_file.specs.Looking.{HasRange}
use Rattle.copy_file.specs.PartNames.{IsChosen, NameStops}
use Rattle.copy_file.specs.PartSteps.{MadeCalls, TellsMade}
use Rattle.copy_file.specs.declared.stage.SourceFacts.{SourceFacts}
use Rattle.copy_file.specs.declared.stage.FolderState.TheVariants as names_state
use Rattle.copy_link.specs.LinkCopying as link
use Rattle.copy_link.specs.LinkCopying.{LinkCopying}
use Rattle.copy_link.specs.LinkSteps.{Falls as LinkFalls, LinkCalls}
use Rattle.copy_link.specs.declared.stage.Stage.{Stage as LinkStage}
use Rattle.copy_link.specs.declared.stage.Stage.TheVariants as link_stage
use Rattle.copy_folders.specs.FolderCopying as folder
use Rattle.copy_folders.specs.FolderCopying.{FolderCopying}
use Rattle.copy_folders.specs.FolderSteps.{Falls as FolderFalls, FolderCalls, at_sync}
use Rattle.copy_folders.specs.declared.stage.FolderDid.{FolderDid}
use Rattle.copy_folders.specs.declared.stage.Stage.TheVariants as folder_stage
use Rattle.copy_folders.specs.declared.stage.NamesState.{NamesState}
use Rattle.copy_folders.specs.declared.stage.NamesState.TheVariants as folder_names
use Rattle.tree_walk.specs.Places.{is_empty, opened_folder}
use Rattle.copy_tree.specs.declared.copy.Stage.TheVariants.{Begin}
use Rattle.copy_tree.specs.declared.due.Due.TheVariants.{End, Thing}
use Rattle.copy_tree.specs.declared.item.ItemAtWork.{ItemAtWork}
use Rattle.copy_folders.specs.declared.level.Level.{Level}
use Rattle.copy_tree.specs.declared.item.ItemAtWork.TheVariants.{Next, File, Link, Stays}
use Rattle.copy_tree.specs.declared.looking.Taken.TheVariants as taken
use Rattle.copy_tree.specs.declared.progress.Progress.{Progress}
use Rattle.copy_tree.specs.declared.progress.Progress.TheVariants.{UnderWay, Decided, Anew}
use Rattle.job_reports.specs.declared.report.StepResult.{StepResult}
use Rattle.job_reports.specs.declared.report.Transfer.TheVariants.{ByCopy}
use Rattle.copy_folders.specs.Levels.{IsLeft, levels_closed, dirtied_levels, is_around_dirty}
use Rattle.copy_folders.specs.Levels.{level, made_levels, owes, passed_levels, with_copy}
use Rattle.copy_tree.specs.Parts.{IsPartPlace, IsShortPart}
use Rattle.copy_tree.specs.Progress.{link_progress, progress}
use Rattle.copy_tree.specs.Reports.{IsToldAs}
use Rattle.copy_tree.specs.Standing.{Seen, after_report, due}
use Rattle.copy_tree.specs.Taking.{AreShort, DueStops, IsInReach, IsShort, IsTaken, LooksStop}

-- a step can be made: a file or a link is at work while its part stands, and no part is left
-- that could not be removed
abbrev pub IsWorkable : ItemAtWork → Type 0
IsWorkable Next = ⊤
IsWorkable (File f) = (progress f.stage ≡ UnderWay) × (left_at f.stage ≡ None)
IsWorkable (Link l) = (link_progress l.stage ≡ UnderWay) × (link.is_ready l.stage l.folder ≡ true)
IsWorkable (Stays part) = ⊥

-- the part of a link's copy was not tried in vain to be removed
abbrev pub stays_ready : LinkStage → Bool
stays_ready link_stage.Left = false
stays_ready link_stage.Make = true
stays_ready link_stage.Place = true
stays_ready (link_stage.Clean follows) = true
stays_ready link_stage.Again = true
stays_ready link_stage.Decided = true

-- The copy of a file or a link goes on while its part stands; what is decided is passed; what is to be
-- begun again is taken up anew.
abbrev pub copy_after_progress : Progress → ItemAtWork → Seen → Seen
copy_after_progress UnderWay item c = record c { item = item }
copy_after_progress Decided item c = record c { levels = passed_levels false c.levels }
copy_after_progress Anew item c = c

-- a name in the target of the folder that is worked was changed, if one was, and this was reported
abbrev pub noted_copy : Did → Bool → Seen → Seen
noted_copy did changed c =
    record c { stage = after_report did c.stage; levels = dirtied_levels changed c.levels }

-- where the copy stands after a step of a file's copy
abbrev pub after_file : Did → Copying → Seen → Seen
after_file did f c =
    copy_after_progress (progress f.stage) (File f) (noted_copy did (file.is_dirty f.folder) c)

-- where the copy stands after a step of a link's copy
abbrev pub after_link : Did → LinkCopying → Seen → Seen
after_link did l c =
    copy_after_progress (link_progress l.stage) (Link l) (noted_copy did (link.is_dirty l.folder) c)

-- nothing is at work yet
abbrev pub idle : Seen → Seen
idle c = record c { item = Next }

-- a step of this file's copy
pub record FileWorks (unclaimed : Route → Type 0) (f : Copying) (old new : Seen) (did : Did)
    (before after : Option CallLog) : Type 0 where
  pub moved : Copying
  pub tells : file.Tells f did moved
  pub called : IfKnown before (λ log. CopyCalls unclaimed f did moved log after)
  pub falls : FileFalls did f moved
  pub sound : file.IsSound moved.stage moved.folder
  pub short : IsShortPart (file.part_at moved.stage)
  pub stands : new ≡ after_file did moved (idle old)

-- a step of this link's copy
pub record LinkWorks (l : LinkCopying) (old new : Seen) (did : Did)
    (before after : Option CallLog) : Type 0 where
  pub moved : LinkCopying
  pub tells : link.Tells l did moved
  pub called : IfKnown before (λ log. LinkCalls l did log after)
  pub falls : LinkFalls did l moved
  pub stands : new ≡ after_link did moved (idle old)

-- the first step of the copy of a file of which this is said: its part is made
pub record FileBegins (unclaimed : Route → Type 0) (facts : SourceFacts) (f : Copying) (old new : Seen)
    (did : Did) (before after : Option CallLog) : Type 0 where
  pub moved : Copying
  pub tells : TellsMade facts f did moved
  pub called : IfKnown before (λ log. MadeCalls unclaimed facts f did log after)
  pub sound : file.IsSound moved.stage moved.folder
  pub short : IsShortPart (file.part_at moved.stage)
  pub stands : new ≡ after_file did moved (idle old)

-- what is taken up is copied itself, and doesn't lie in something that is
abbrev pub is_top : Seen → Bool
is_top c = is_empty c.levels.around

-- a file is taken up
pub record TakesFile (unclaimed : Route → Type 0) (replies : Replies) (old new : Seen) (did : Did)
    (before after : Option CallLog) : Type 0 where
  pub pair : Pair
  pub facts : SourceFacts
  pub next : due old ≡ Thing pair
  pub reach : IsInReach old.levels.left (Thing pair)
  pub is : IfKnown before (λ log. IsTaken (current log) (is_top old) replies pair (taken.File facts))
  pub range : HasRange facts
  pub works : FileBegins unclaimed facts (file.begun_copy old.job pair.source pair.target) old new
      did before after

-- the copy of the link at these paths, by way of this part
abbrev pub link_begun : Pair → Route → LinkCopying
link_begun pair part =
    link.copying (link.places pair.source pair.target part) link_stage.Make names_state.Synced

-- a link is taken up; its part has the first name that is free
pub record TakesLink (unclaimed : Route → Type 0) (replies : Replies) (old new : Seen) (did : Did)
    (before after : Option CallLog) : Type 0 where
  pub pair : Pair
  pub part : Route
  pub next : due old ≡ Thing pair
  pub reach : IsInReach old.levels.left (Thing pair)
  pub is : IfKnown before (λ log. IsTaken (current log) (is_top old) replies pair taken.Link)
  pub chosen : IfKnown before (λ log.
      IsChosen (current log) unclaimed (file.places old.job pair.source pair.target) part)
  pub short : IsShort part
  pub works : LinkWorks (link_begun pair part) old new did before after

-- a folder is made, and gone into
pub record FolderMakes (pair : Pair) (names : List (List ℕ)) (mode : ℕ) (old new : Seen) (did : Did)
    (before after : Option CallLog) : Type 0 where
  pub few : length names ≤ 2 ^ 64
  pub moved : FolderCopying
  pub report : FolderDid
  pub says : IsToldAs report did
  pub tells : folder.Tells
      (folder.copying pair.source pair.target (folder_stage.Make mode) folder_names.Synced) report moved
  pub called : IfKnown before (λ log. FolderCalls
      (folder.copying pair.source pair.target (folder_stage.Make mode) folder_names.Synced) report log after)
  pub stands : new ≡ record old {
    stage = after_report did old.stage;
    levels = made_levels moved.stage (opened_folder pair.source names) moved old.levels;
  }

-- a folder is taken up
pub record TakesFolder (replies : Replies) (old new : Seen) (did : Did)
    (before after : Option CallLog) : Type 0 where
  pub pair : Pair
  pub names : List (List ℕ)
  pub mode : ℕ
  pub next : due old ≡ Thing pair
  pub reach : IsInReach old.levels.left (Thing pair)
  pub is : IfKnown before (λ log. IsTaken (current log) (is_top old) replies pair (taken.Folder names mode))
  pub in_order : IsAscending names
  pub works : FolderMakes pair names mode old new did before after

-- A folder is to be copied onto a folder: it is told that the two are merged, and the copy is done with it.
-- What lies in it is copied by others.
pub record TakesMerged (replies : Replies) (old new : Seen) (did : Did)
    (before after : Option CallLog) : Type 0 where
  pub pair : Pair
  pub names : List (List ℕ)
  pub next : due old ≡ Thing pair
  pub reach : IsInReach old.levels.left (Thing pair)
  pub fresh : old.stage ≡ Begin
  pub is : IfKnown before (λ log. IsTaken (current log) (is_top old) replies pair (taken.Merged names))
  pub short : AreShort pair names
  pub few : length names ≤ 2 ^ 64
  pub in_order : IsAscending names
  pub says : did ≡ common.Merges ByCopy pair names
  pub same : after ≡ before
  pub stands : new ≡ record old { levels = passed_levels false old.levels }

-- What stands at the target of what is copied itself stays, by an answer that stands, and
-- the copy is done with it.
pub record TakesKept (replies : Replies) (old new : Seen) (did : Did)
    (before after : Option CallLog) : Type 0 where
  pub pair : Pair
  pub next : due old ≡ Thing pair
  pub reach : IsInReach old.levels.left (Thing pair)
  pub top : is_top old ≡ true
  pub is : IfKnown before (λ log. IsTaken (current log) (is_top old) replies pair taken.Kept)
  pub says : did ≡ common.Kept pair.target
  pub same : after ≡ before
  pub stands : new ≡ record old { levels = passed_levels false old.levels }

-- It is asked whether what is copied itself replaces what stands at its target; the
-- copy stands where it stood.
pub record TakesAsked (replies : Replies) (old new : Seen) (did : Did)
    (before after : Option CallLog) : Type 0 where
  pub pair : Pair
  pub question : Question
  pub next : due old ≡ Thing pair
  pub reach : IsInReach old.levels.left (Thing pair)
  pub top : is_top old ≡ true
  pub is : IfKnown before (λ log. IsTaken (current log) (is_top old) replies pair (taken.Asked question))
  pub says : did ≡ common.Asked question
  pub same : after ≡ before
  pub stands : new ≡ old

-- a step at a folder whose children are decided
pub record FolderEnds (old new : Seen) (did : Did) (before after : Option CallLog) : Type 0 where
  pub moved : FolderCopying
  pub report : FolderDid
  pub says : IsToldAs report did
  pub tells : folder.Tells old.levels.inner.copy report moved
  pub called : IfKnown before (λ log. FolderCalls old.levels.inner.copy report log after)
  pub falls : FolderFalls report old.levels.inner.copy moved
  pub stands : new ≡ record old { stage = after_report did old.stage; levels = with_copy moved old.levels }

-- all is copied or was left, and synced
pub record Finishes (old new : Seen) (did : Did) : Type 0 where
  pub last : old.levels.around ≡ []
  pub says : did ≡ common.Ended Finished None
  pub stands : new ≡ old

-- where the copy stands once the children of the folder that is worked are decided
abbrev pub at_end : Seen → Seen
at_end c = record c { levels = levels_closed c.levels }

-- the folder still owes something: its mode, or its sync
abbrev pub has_debt : Seen → Bool
has_debt c = owes c.levels.inner.copy.stage c.levels.inner.copy.names

-- at the end of a folder comes what it owes, and then, where it is the outermost, the end of all
abbrev pub WorksAtEnd : Seen → Seen → Did → Option CallLog → Option CallLog → Type 0
WorksAtEnd old new did before after =
    (due old ≡ End)
    × (((has_debt (at_end old) ≡ true) × FolderEnds (at_end old) new did before after)
    ⊎ ((has_debt (at_end old) ≡ false) × Finishes (at_end old) new did × (after ≡ before)))

-- A thing can't be taken up: it is out of reach; a look at it is stopped; it is a link for whose part there
-- is no name; or there is no memory.
abbrev pub WhyStopped : (Route → Type 0) → Replies → Seen → Trouble → Option CallLog → Type 0
WhyStopped unclaimed replies c t before =
    DueStops c t
    ⊎ ((pair : Pair) × (due c ≡ Thing pair) × IsInReach c.levels.left (Thing pair)
    × IfKnown before (λ log. LooksStop (current log) c.stage (is_top c) pair t))
    ⊎ ((pair : Pair) × (due c ≡ Thing pair) × IsInReach c.levels.left (Thing pair)
    × IfKnown before (λ log. IsTaken (current log) (is_top c) replies pair taken.Link
    × NameStops (current log) unclaimed (file.places c.job pair.source pair.target) t.cause t.path))
    ⊎ ((pair : Pair) × (due c ≡ Thing pair) × (t ≡ out_of_memory_at false))

-- a trouble before any call that changes the tree
pub record Stops (unclaimed : Route → Type 0) (replies : Replies) (old new : Seen) (did : Did)
    (before after : Option CallLog) : Type 0 where
  pub trouble : Trouble
  pub says : did ≡ common.Troubled trouble
  pub why : WhyStopped unclaimed replies old trouble before
  pub apart : trouble.barrier ≡ false
  pub same : after ≡ before
  pub stands : new ≡ old

-- The folder around is synced: only then is the one that is worked, which was made, on the disk.
pub record SyncsAround (old new : Seen) (did : Did) (before after : Option CallLog) : Type 0 where
  pub dirty : is_around_dirty old.levels.around ≡ true
  pub outer : Level
  pub around : List Level
  pub was : old.levels.around ≡ outer ∷ around
  pub names : NamesState
  pub report : FolderDid
  pub says : IsToldAs report did
  pub tells : folder.Tells (at_sync outer.copy) report (record (at_sync outer.copy) { names = names })
  pub called : IfKnown before (λ log. FolderCalls (at_sync outer.copy) report log after)
  pub stands : new ≡ record old {
    stage = after_report did old.stage;
    levels = record old.levels {
      around = level outer.names (record outer.copy { names = names }) ∷ around;
    };
  }

-- What a step does with the next name, or the end of a folder, in a folder that is on the disk.
abbrev pub TakesNext : (Route → Type 0) → Replies → Seen → Seen → Did → Option CallLog
    → Option CallLog → Type 0
TakesNext unclaimed replies old new did before after =
    Stops unclaimed replies old new did before after
    ⊎ TakesFile unclaimed replies old new did before after
    ⊎ TakesLink unclaimed replies old new did before after
    ⊎ TakesFolder replies old new did before after
    ⊎ TakesMerged replies old new did before after
    ⊎ TakesKept replies old new did before after
    ⊎ TakesAsked replies old new did before after
    ⊎ WorksAtEnd old new did before after

-- What a step does where nothing is at work: a folder that was made is brought onto the disk, and only then
-- something is put into it.
abbrev pub GoesOn : (Route → Type 0) → Replies → Seen → Seen → Did → Option CallLog → Option CallLog → Type 0
GoesOn unclaimed replies old new did before after =
    SyncsAround old new did before after
    ⊎ ((is_around_dirty old.levels.around ≡ false) × TakesNext unclaimed replies old new did before after)

-- What a step does, by what is at work.
abbrev pub WorksOn : ItemAtWork → (Route → Type 0) → Replies → Seen → Seen → Did → Option CallLog
    → Option CallLog → Type 0
WorksOn Next unclaimed replies old new did before after = GoesOn unclaimed replies old new did before after
WorksOn (File f) unclaimed replies old new did before after = FileWorks unclaimed f old new did before after
WorksOn (Link l) unclaimed replies old new did before after = LinkWorks l old new did before after
WorksOn (Stays part) unclaimed replies old new did before after = ⊥

-- there is no memory, and nothing was done
abbrev pub RunsOut : Seen → Seen → Did → Option CallLog → Option CallLog → Type 0
RunsOut old new did before after =
    (did ≡ common.Troubled (out_of_memory_at false)) × (new ≡ old) × (after ≡ before)

-- A step counts its calls, at most three, and reports a fault only where the tree's count has risen.
pub record Counts (did : Did) (calls : ℕ) (before after : Option CallLog)
    (faults faults_after : ℕ) : Type 0 where
  pub counted : IfKnown before (λ log. IfKnown after (HasMore log calls))
  pub few : calls ≤ 3
  pub unknown : before ≡ None → after ≡ None
  pub later : faults ≤ faults_after
  pub fault : IsFault did → HasRisen faults faults_after

-- the folder around the one that is worked is worked again
pub record Returns (old new : Seen) : Type 0 where
  pub left : IsLeft old.levels new.levels
  pub stands : new ≡ record old { levels = new.levels }

-- a folder that owes nothing, and is on the disk, is left, without a report
pub record Leaves (old new : Seen) : Type 0 where
  pub synced : is_around_dirty old.levels.around ≡ false
  pub next : due old ≡ End
  pub done : has_debt (at_end old) ≡ false
  pub returns : Returns (at_end old) new

-- a folder is left, and the outermost is the last
abbrev pub LeavesOrFinishes : Seen → Seen → Option StepResult → Type 0
LeavesOrFinishes old new None = Returns old new
LeavesOrFinishes old new (Some stepped) = Finishes old new stepped.did × (stepped.calls ≡ 0)

-- so many folders are left, one after the other
abbrev pub LeavesAll : ℕ → Seen → Seen → Type 0
LeavesAll zero old new = new ≡ old
LeavesAll (suc n) old new = (mid : Seen) × LeavesAll n old mid × (mid.item ≡ Next) × Leaves mid new

-- The next piece of a step at the end of a folder: it is left, or something is done that is reported.
abbrev pub AdvancesEnd : Seen → Seen → Option StepResult → Option CallLog → Option CallLog → ℕ → ℕ → Type 0
AdvancesEnd old new None before after faults faults_after =
    Leaves old new × (after ≡ before) × (faults ≤ faults_after)
AdvancesEnd old new (Some stepped) before after faults faults_after =
    WorksAtEnd old new stepped.did before after
    × Counts stepped.did stepped.calls before after faults faults_after

-- The next piece of a step in a folder that is on the disk: a folder is left, or something
-- is done that is reported.
abbrev pub AdvancesIn : (Route → Type 0) → Replies → Seen → Seen → Option StepResult → Option CallLog
    → Option CallLog → ℕ → ℕ → Type 0
AdvancesIn unclaimed replies old new None before after faults faults_after =
    Leaves old new × (after ≡ before) × (faults ≤ faults_after)
AdvancesIn unclaimed replies old new (Some stepped) before after faults faults_after =
    TakesNext unclaimed replies old new stepped.did before after
    × Counts stepped.did stepped.calls before after faults faults_after

-- The next piece of a step where nothing is at work: a folder is left, or something is done that is reported.
abbrev pub AdvancesNext : (Route → Type 0) → Replies → Seen → Seen → Option StepResult → Option CallLog
    → Option CallLog → ℕ → ℕ → Type 0
AdvancesNext unclaimed replies old new None before after faults faults_after =
    Leaves old new × (after ≡ before) × (faults ≤ faults_after)
AdvancesNext unclaimed replies old new (Some stepped) before after faults faults_after =
    GoesOn unclaimed replies old new stepped.did before after
    × Counts stepped.did stepped.calls before after faults faults_after

-- the same of any piece of a step
abbrev pub Advances : (Route → Bool) → Replies → Seen → Seen → Option StepResult → Option CallLog
    → Option CallLog → ℕ → ℕ → Type 0
Advances free replies old new None before after faults faults_after =
    (old.item ≡ Next) × Leaves old new × (after ≡ before) × (faults ≤ faults_after)
Advances free replies old new (Some stepped) before after faults faults_after =
    WorksOn old.item (IsPartPlace free old) replies old new stepped.did before after
    × Counts stepped.did stepped.calls before after faults faults_after

-- A step: folders that owe nothing are left, and then something is done that is reported. No job claims the
-- path of a part that is begun, and no thing has its name that is yet to be met.
pub record CopySteps (free : Route → Bool) (replies : Replies) (old new : Seen) (did : Did) (calls : ℕ)
    (before after : Option CallLog) (faults faults_after : ℕ) : Type 0 where
  pub folders : ℕ
  pub mid : Seen
  pub leaves : LeavesAll folders old mid
  pub works : WorksOn mid.item (IsPartPlace free mid) replies mid new did before after
  pub counts : Counts did calls before after faults faults_after
