-- The texts of refusals and troubles, as they are shown.
use Rattle.std.specs.Prelude.{ℕ, List, ◌++◌, codes}
use Rattle.std.specs.Fmt.{decimal}
use Rattle.tree_trait.specs.declared.calls.TreeError.TheVariants.{IntoItself, Memory}
use Rattle.job_reports.specs.declared.report.Cause.{Cause}
use Rattle.job_reports.specs.declared.report.Cause.TheVariants as cause
use Rattle.session_entries.specs.declared.refusal.PlanError.{PlanError}
use Rattle.session_entries.specs.declared.refusal.PlanError.TheVariants as plan
use Rattle.session_entries.specs.declared.refusal.BeginError.{BeginError}
use Rattle.session_entries.specs.declared.refusal.BeginError.TheVariants.{Full, NoMoreIds}
use Rattle.session_entries.specs.declared.refusal.TypedError.{TypedError}
use Rattle.session_entries.specs.declared.refusal.TypedError.TheVariants.{BadPattern, BadFormat, BadName}
use Rattle.session_entries.specs.declared.refusal.Refusal.{Refusal}
use Rattle.session_entries.specs.declared.refusal.Refusal.TheVariants.{Tree, Read, Resolve}
use Rattle.session_entries.specs.declared.refusal.Refusal.TheVariants.{Plan, Begin, Typed}
use Rattle.ui_words.specs.Causes.{cause_words, resolve_words}

-- what is said of a plan that can't be made
abbrev pub plan_words : PlanError → List ℕ
plan_words plan.NoSelection = codes "nothing selected"
plan_words plan.TooLong = codes "path too long"
plan_words (plan.Nested first second) = codes "one lies in the other"
plan_words (plan.Source path e) = cause_words e
plan_words plan.BadMask = codes "bad mask"
plan_words (plan.Target e) = resolve_words e
plan_words (plan.TargetThere path) = codes "already there"
plan_words (plan.SameFile path) = codes "same file"
plan_words (plan.IntoItself source target) = codes "inside itself"
plan_words (plan.TwoToOne first second) = codes "two files, one target"
plan_words plan.BadLinkText = codes "bad link text"

-- what is said of a job that can't be begun
abbrev pub begin_words : BeginError → List ℕ
begin_words Full = codes "too many jobs"
begin_words NoMoreIds = codes "too many jobs"

-- what is said of what was typed and can't be taken
abbrev pub typed_words : TypedError → List ℕ
typed_words BadPattern = codes "bad pattern"
typed_words (BadFormat at) = codes "position " ++ (decimal at ++ codes " is wrong")
typed_words BadName = codes "bad name"

-- what is said of a refusal
abbrev pub refusal_words : Refusal → List ℕ
refusal_words (Tree path e) = cause_words e
refusal_words (Read path e) = cause_words e
refusal_words (Resolve e) = resolve_words e
refusal_words (Plan error) = plan_words error
refusal_words (Begin error) = begin_words error
refusal_words (Typed error) = typed_words error

-- what is said of a job's trouble
abbrev pub trouble_words : Cause → List ℕ
trouble_words (cause.Tree e) = cause_words e
trouble_words (cause.TargetKind kind) = codes "target is of another kind"
trouble_words cause.SpecialSource = codes "special file"
trouble_words cause.TooDeep = codes "too deep"
trouble_words cause.PartTaken = codes "no free part name"
trouble_words cause.TooLong = codes "path too long"
trouble_words (cause.Unnamed count) = decimal count ++ codes " names can't be shown"
trouble_words (cause.Changed said got) =
    codes "said " ++ (decimal said ++ (codes " bytes, got " ++ decimal got))
trouble_words cause.Memory = codes "out of memory"
