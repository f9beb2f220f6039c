-- What refusals tell of the tree: each has its cause there.
use Rattle.std.specs.Prelude.{◌≡◌, ◌⊎◌, ℕ, ⊤, true, ◌||◌, List, [], ◌∷◌, Some, None, Err}
use Rattle.mc_text.specs.Routes.{Route, is_prefix}
use Rattle.tree_trait.specs.declared.calls.TreeError.{TreeError}
use Rattle.tree_trait.specs.declared.calls.TreeError.TheVariants as tree
use Rattle.tree_trait.specs.Calls.{ListFolder, ReadAt, Stat}
use Rattle.tree_trait.specs.Change.{CallLog, current}
use Rattle.tree_trait.specs.Refusals.{refusal_of}
use Rattle.resolving.specs.declared.error.ResolveError.{ResolveError}
use Rattle.resolving.specs.declared.error.ResolveError.TheVariants as resolve
use Rattle.resolving.specs.declared.walking.Wanted.TheVariants.{FolderAlone}
use Rattle.resolving.specs.Errors.{Answers}
use Rattle.resolving.specs.Resolution.{resolved_path}
use Rattle.job_reports.specs.Reading.{IsRefusedWith}
use Rattle.session_entries.specs.declared.refusal.PlanError.{PlanError}
use Rattle.session_entries.specs.declared.refusal.PlanError.TheVariants.{NoSelection, TooLong, Nested}
use Rattle.session_entries.specs.declared.refusal.PlanError.TheVariants.{Source, BadMask, Target}
use Rattle.session_entries.specs.declared.refusal.PlanError.TheVariants.{TargetThere, SameFile, IntoItself}
use Rattle.session_entries.specs.declared.refusal.PlanError.TheVariants.{TwoToOne, BadLinkText}
use Rattle.session_entries.specs.declared.refusal.Refusal.{Refusal}
use Rattle.session_entries.specs.declared.refusal.Refusal.TheVariants as refusal

-- a typed text leads to no folder
abbrev pub LeadsNowhere : CallLog → ResolveError → Type 0
LeadsNowhere log e = (from : Route)
    × ((typed : List ℕ) × Answers {A = Route} (resolved_path (current log) FolderAlone from typed) (Err e))

-- a look at a path is refused
abbrev pub IsUnseen : CallLog → ResolveError → Type 0
IsUnseen log e = (path : Route) × ((cause : TreeError) × (e ≡ resolve.Tree path cause)
    × (refusal_of (current log) (Stat path) ≡ Some cause))

-- the folder of a target isn't found, the target's path is too long, or nothing can be seen of the target
abbrev pub IsTargetRefused : CallLog → ResolveError → Type 0
IsTargetRefused log e = LeadsNowhere log e ⊎ (IsUnseen log e ⊎ (e ≡ resolve.TooLong))

-- a source that was looked at is refused as the look at it is; a device may fail
abbrev pub IsSourceRefused : CallLog → Route → TreeError → Type 0
IsSourceRefused log path tree.Fault = ⊤
IsSourceRefused log path tree.Memory = ⊥
IsSourceRefused log path e = refusal_of (current log) (Stat path) ≡ Some e

-- A plan is refused: nothing is selected, or the mask leaves it out; the path of what is selected is too
-- long; a source lies in another; one isn't there; a mask can't be read or makes no name; no way leads to a
-- target; something stands there; it is a source that is there, lies in it or holds it; two sources that
-- are there have one target; or a link can't say what was typed.
abbrev pub IsPlanRefused : CallLog → PlanError → Type 0
IsPlanRefused log NoSelection = ⊤
IsPlanRefused log TooLong = ⊤
IsPlanRefused log (Nested first second) = (is_prefix first second || is_prefix second first) ≡ true
IsPlanRefused log (Source path e) = IsSourceRefused log path e
IsPlanRefused log BadMask = ⊤
IsPlanRefused log (Target e) = IsTargetRefused log e
IsPlanRefused log (TargetThere path) = refusal_of (current log) (Stat path) ≡ None
IsPlanRefused log (SameFile path) = refusal_of (current log) (Stat path) ≡ None
IsPlanRefused log (IntoItself source target) =
    (refusal_of (current log) (Stat source) ≡ None)
    × ((is_prefix source target || is_prefix target source) ≡ true)
IsPlanRefused log (TwoToOne first second) =
    (refusal_of (current log) (Stat first) ≡ None) × (refusal_of (current log) (Stat second) ≡ None)
IsPlanRefused log BadLinkText = ⊤

-- reading a folder is refused as `list` of it is, with its path; a device may fail, and memory run out
abbrev pub IsListRefused : CallLog → Route → ResolveError → Type 0
IsListRefused log folder (resolve.Tree path e) =
    (path ≡ folder) × (refusal_of (current log) (ListFolder folder) ≡ Some e)
IsListRefused log folder resolve.Fault = ⊤
IsListRefused log folder resolve.Memory = ⊤
IsListRefused log folder resolve.TooManyLinks = ⊥
IsListRefused log folder resolve.TooLong = ⊥
IsListRefused log folder resolve.BadName = ⊥

-- a folder can't be read, or a text leads to none
abbrev pub IsResolveRefused : CallLog → ResolveError → Type 0
IsResolveRefused log e =
    ((folder : Route) × IsListRefused log folder e)
    ⊎ LeadsNowhere log e

-- reading a file is refused as reading none of its bytes is; a device may fail
abbrev pub IsReadRefused : CallLog → Route → TreeError → Type 0
IsReadRefused log path tree.Fault = ⊤
IsReadRefused log path tree.Memory = ⊥
IsReadRefused log path e = refusal_of (current log) (ReadAt path 0 0) ≡ Some e

-- A refusal is that of a look at its path, of reading a file or a folder, or of a plan. That of a job's
-- beginning has its cause in the history, and that of what was typed in the text.
abbrev pub HasCause : CallLog → Refusal → Type 0
HasCause log (refusal.Tree path e) = IsRefusedWith (current log) (Stat path) e
HasCause log (refusal.Read path e) = IsReadRefused log path e
HasCause log (refusal.Resolve e) = IsResolveRefused log e
HasCause log (refusal.Plan error) = IsPlanRefused log error
HasCause log (refusal.Begin error) = ⊤
HasCause log (refusal.Typed error) = ⊤

-- each of these refusals has its cause in the tree
abbrev pub AreRefused : CallLog → List Refusal → Type 0
AreRefused log [] = ⊤
AreRefused log (refusal ∷ more) = HasCause log refusal × AreRefused log more
