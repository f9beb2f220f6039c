-- Several live jobs, in any order of their steps: what a crash leaves under their claims and elsewhere.
use Rattle.std.specs.Prelude.{◌≡◌, ◌⊎◌, ℕ, ◌<◌, Bool, true, false, ◌||◌, ◌&&◌, not}
use Rattle.std.specs.Prelude.{if◌then◌else◌, List, [], ◌∷◌, length, Option, Some, None}
use Rattle.mc_text.specs.Routes.{Route}
use Rattle.tree_trait.specs.declared.file_system.FileSystem.{FileSystem}
use Rattle.tree_trait.specs.FileSystem.{find, node, value_at}
use Rattle.tree_trait.specs.Change.{Change, Sets, Syncs, CallLog, current, with_change}
use Rattle.tree_trait.specs.CrashImages.{Among}
use Rattle.tree_trait.specs.Refusals.{is_folder}
use Rattle.laws_crash.specs.Possible.{IsImage}
use Rattle.laws_crash.specs.Guarded.{Marks, IsGuarded, IsSettledAt, IsQuiet}
use Rattle.laws_crash.specs.Guarded.{IsUnder, IsNaming, MayRemark, Holds}
use Rattle.laws_crash.specs.Modes.{marks_with_mode, marks_without_mode}

-- a live job: what lies under its claims, for writing and for reading, and the node that stood
-- at each path as it began
pub record Live : Type 0 where
  pub id : ℕ
  pub writes : Route → Bool
  pub reads : Route → Bool
  pub start : Route → Option ℕ

abbrev pub is_written : List Live → Route → Bool
is_written [] p = false
is_written (job ∷ jobs) p = job.writes p || is_written jobs p

-- The invariant of a table of jobs. In doubt is what an ended job changed and couldn't sync.
pub record IsTable (jobs : List Live) (doubt : Route → Bool) (marks : Marks) (log : CallLog) : Type 0 where
  pub guarded : IsGuarded marks log
  pub rest : (p : Route) → marks.aside p ≡ false → doubt p ≡ false → is_written jobs p ≡ false
      → marks.was p ≡ find (current log) p
  -- under a claim for writing it is what the job found, or the path is at rest already
  pub begun : (job : Live) (p : Route) → Among jobs job → marks.aside p ≡ false → doubt p ≡ false
      → job.writes p ≡ true
      → (marks.was p ≡ job.start p) ⊎ (marks.was p ≡ find (current log) p)
  pub read : (job : Live) (p : Route) → Among jobs job → marks.aside p ≡ false → job.reads p ≡ true
      → find (current log) p ≡ job.start p
  pub apart : (job : Live) (p : Route) → Among jobs job → job.reads p ≡ true → is_written jobs p ≡ false

-- What a crash leaves, parts aside. Under no claim for writing all is as it reads; under a claim for
-- reading as the job found it; under one for writing as it reads, or as the job found it; and in doubt as
-- it reads, or as it was before.
pub record IsSafe (jobs : List Live) (doubt : Route → Bool) (marks : Marks) (log : CallLog)
    (image : FileSystem) : Type 0 where
  pub outside : (p : Route) → marks.aside p ≡ false → doubt p ≡ false → is_written jobs p ≡ false
      → Holds marks (current log) (value_at image p) (find (current log) p)
  pub read : (job : Live) (p : Route) → Among jobs job → marks.aside p ≡ false → doubt p ≡ false
      → job.reads p ≡ true
      → Holds marks (current log) (value_at image p) (job.start p)
  pub written : (job : Live) (p : Route) → Among jobs job → marks.aside p ≡ false → doubt p ≡ false
      → job.writes p ≡ true
      → Holds marks (current log) (value_at image p) (find (current log) p)
      ⊎ Holds marks (current log) (value_at image p) (job.start p)
  pub doubtful : (p : Route) → marks.aside p ≡ false
      → Holds marks (current log) (value_at image p) (find (current log) p)
      ⊎ Holds marks (current log) (value_at image p) (marks.was p)

abbrev pub SafeLaw : Type 0
SafeLaw = (jobs : List Live) (doubt : Route → Bool) (marks : Marks) (log : CallLog) (image : FileSystem)
    → IsTable jobs doubt marks log → IsImage log image
    → IsSafe jobs doubt marks log image

-- A job changes only what it may write, and its parts, which stand aside.
abbrev pub KeepsToClaims : Live → Marks → CallLog → Change → Type 0
KeepsToClaims job marks log c = (p : Route) → IsUnder log c p → marks.aside p ≡ false → job.writes p ≡ true

-- What a job changes is as the job found it, where the change makes a difference.
-- Others' paths it doesn't touch.
abbrev pub ChangesOnce : List Live → Marks → CallLog → Change → Type 0
ChangesOnce jobs marks log c = (job : Live) (p : Route) → Among jobs job → job.writes p ≡ true
    → IsUnder log c p → marks.aside p ≡ false
    → (find (current log) p ≡ job.start p) ⊎ (find (current log) p ≡ find (current (with_change log c)) p)

-- a step of one of the jobs that changes names
abbrev pub StepLaw : Type 0
StepLaw = (jobs : List Live) (job : Live) (doubt : Route → Bool) (marks : Marks) (log : CallLog) (c : Change)
    → IsTable jobs doubt marks log
    → Among jobs job → KeepsToClaims job marks log c → ChangesOnce jobs marks log c → IsNaming marks log c
    → IsTable jobs doubt marks (with_change log c)

-- a step that changes none, of whichever job: a sync, a write to a part
abbrev pub CalmLaw : Type 0
CalmLaw = (jobs : List Live) (doubt : Route → Bool) (marks : Marks) (log : CallLog) (c : Change)
    → IsTable jobs doubt marks log
    → IsQuiet marks log c → IsTable jobs doubt marks (with_change log c)

-- A mode is set, by whichever job, of a thing of which nothing waits, and the thing itself is synced.
pub record ModeStepLaw : Type 0 where
  pub sets : (jobs : List Live) (doubt : Route → Bool) (marks : Marks) (log : CallLog) (i mode : ℕ)
      → IsTable jobs doubt marks log → i < length (current log).nodes → marks.loose i ≡ false
      → marks.modes i ≡ None → IsTable jobs doubt (marks_with_mode i (node (current log) i).mode marks)
      (with_change log (Sets i mode))
  pub synced : (jobs : List Live) (doubt : Route → Bool) (marks : Marks) (log : CallLog) (i : ℕ) → IsTable
      jobs doubt marks log → IsTable jobs doubt (marks_without_mode i marks) (with_change log (Syncs i))

-- a job that begins now with these claims
abbrev pub begins : ℕ → (Route → Bool) → (Route → Bool) → CallLog → Live
begins id writes reads log =
    record { id = id; writes = writes; reads = reads; start = λ p. find (current log) p }

-- what clashes with no live job: neither writes what the other claims
pub record ClashesNot (jobs : List Live) (writes reads : Route → Bool) : Type 0 where
  pub writes_free : (p : Route) → writes p ≡ true → is_written jobs p ≡ false
  pub reads_free : (job : Live) (p : Route) → Among jobs job → job.reads p ≡ true → writes p ≡ false
  pub read_free : (p : Route) → reads p ≡ true → is_written jobs p ≡ false
  pub own : (p : Route) → reads p ≡ true → writes p ≡ false

-- It may begin wherever it clashes with none: nothing else is to be seen to.
abbrev pub BeginLaw : Type 0
BeginLaw = (jobs : List Live) (id : ℕ) (writes reads : Route → Bool) (doubt : Route → Bool) (marks : Marks)
    (log : CallLog) → IsTable jobs doubt marks log
    → ClashesNot jobs writes reads → IsTable (begins id writes reads log ∷ jobs) doubt marks log

-- Paths come to rest: a job ends, a folder in doubt was synced, a part is gone. They are settled; what a
-- live job reads is as it found it. What a job leaves that isn't settled is in doubt.
pub record ComesToRest (over left : Route → Bool) (jobs jobs_after : List Live) (marks : Marks)
    (log : CallLog) : Type 0 where
  pub settled : (p : Route) → over p ≡ true → IsSettledAt log p
  -- what stood aside is gone, or on the disk
  pub solid : (p : Route) (i : ℕ) → marks.aside p ≡ true → over p ≡ true → find (current log) p ≡ Some i
      → (marks.loose i ≡ false) ⊎ (is_folder (node (current log) i) ≡ true)
  pub unchanged : (job : Live) (p : Route) → Among jobs_after job → over p ≡ true → job.reads p ≡ true
      → find (current log) p ≡ job.start p
  pub fewer : (job : Live) → Among jobs_after job → Among jobs job
  pub rests : (p : Route) → is_written jobs p ≡ true → is_written jobs_after p ≡ false
      → (over p || left p) ≡ true

abbrev pub at_rest : (Route → Bool) → CallLog → Marks → Marks
at_rest over log marks = record marks {
  was = λ p. if over p then find (current log) p else marks.was p;
  aside = λ p. marks.aside p && not (over p);
}

abbrev pub in_doubt : (Route → Bool) → (Route → Bool) → (Route → Bool) → Route → Bool
in_doubt over left doubt p = left p || (doubt p && not (over p))

abbrev pub RestLaw : Type 0
RestLaw = (over left : Route → Bool) (jobs jobs_after : List Live) (doubt : Route → Bool) (marks : Marks)
    (log : CallLog) → IsTable jobs doubt marks log
    → ComesToRest over left jobs jobs_after marks log
    → IsTable jobs_after (in_doubt over left doubt) (at_rest over log marks) log

-- a node that was synced is no longer loose, and one that was brought to rest roams no more; and
-- either may be so from now on
abbrev pub NodesLaw : Type 0
NodesLaw = (jobs : List Live) (doubt : Route → Bool) (marks : Marks) (loose roams : ℕ → Bool) (log : CallLog)
    → IsTable jobs doubt marks log
    → MayRemark marks (record marks { loose = loose; roams = roams }) log
    → IsTable jobs doubt (record marks { loose = loose; roams = roams }) log
