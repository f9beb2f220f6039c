-- The kinds of troubles that are skipped: `Skip all` holds for each later trouble of the same kind, of a
-- refusal of the tree for the same refusal.
use Rattle.std.specs.Prelude.{◌≡◌, ◌&&◌, not, Bool, true, false, if◌then◌else◌, Option, Some, None}
use Rattle.tree_trait.specs.declared.calls.TreeError.{TreeError}
use Rattle.tree_trait.specs.declared.calls.TreeError.TheVariants as refused
use Rattle.job_reports.specs.declared.report.Cause.{Cause}
use Rattle.job_reports.specs.declared.report.Cause.TheVariants as cause
use Rattle.job_reports.specs.declared.report.Did.{Did}
use Rattle.job_reports.specs.declared.report.Did.TheVariants.{Troubled}
use Rattle.job_reports.specs.declared.report.Trouble.{Trouble}
use Rattle.job_answers.specs.declared.skips.CauseKind.{CauseKind}
use Rattle.job_answers.specs.declared.skips.CauseKind.TheVariants.{Tree, TargetKind, SpecialSource}
use Rattle.job_answers.specs.declared.skips.CauseKind.TheVariants.{TooDeep, PartTaken, TooLong}
use Rattle.job_answers.specs.declared.skips.CauseKind.TheVariants.{Unnamed, Changed, Memory}
use Rattle.job_answers.specs.declared.skips.SkippedRefusals.{SkippedRefusals}
use Rattle.job_answers.specs.declared.skips.Skips.{Skips}

-- the kind of a cause
abbrev pub kind_in : Cause → CauseKind
kind_in (cause.Tree e) = Tree e
kind_in (cause.TargetKind kind) = TargetKind
kind_in cause.SpecialSource = SpecialSource
kind_in cause.TooDeep = TooDeep
kind_in cause.PartTaken = PartTaken
kind_in cause.TooLong = TooLong
kind_in (cause.Unnamed count) = Unnamed
kind_in (cause.Changed said got) = Changed
kind_in cause.Memory = Memory

-- the refusal is skipped
abbrev pub holds_refusal : SkippedRefusals → TreeError → Bool
holds_refusal s refused.Missing = s.missing
holds_refusal s refused.NotFolder = s.not_folder
holds_refusal s refused.Denied = s.denied
holds_refusal s refused.Exists = s.exists
holds_refusal s refused.IsFolder = s.is_folder
holds_refusal s refused.NotEmpty = s.not_empty
holds_refusal s refused.IntoItself = s.into_itself
holds_refusal s refused.Mounted = s.mounted
holds_refusal s refused.CrossMount = s.cross_mount
holds_refusal s refused.NoSpace = s.no_space
holds_refusal s refused.Special = s.special
holds_refusal s refused.Fault = s.fault
holds_refusal s refused.Memory = s.memory

-- troubles of the kind are skipped
abbrev pub holds : Skips → CauseKind → Bool
holds s (Tree e) = holds_refusal s.refusals e
holds s TargetKind = s.target_kind
holds s SpecialSource = s.special_source
holds s TooDeep = s.too_deep
holds s PartTaken = s.part_taken
holds s TooLong = s.too_long
holds s Unnamed = s.unnamed
holds s Changed = s.changed
holds s Memory = s.memory

-- a trouble is passed over without a question where its kind is skipped, and it isn't at a barrier
abbrev pub is_passed_over : Skips → Trouble → Bool
is_passed_over skips trouble = not trouble.barrier && holds skips (kind_in trouble.cause)

-- the cause of such a trouble, which is never told
abbrev pub passed_cause : Skips → Did → Option Cause
passed_cause skips (Troubled trouble) = if is_passed_over skips trouble then Some trouble.cause else None
passed_cause skips did = None

-- the refusal is skipped from now on
abbrev pub with_refusal : TreeError → SkippedRefusals → SkippedRefusals
with_refusal refused.Missing s = record s { missing = true }
with_refusal refused.NotFolder s = record s { not_folder = true }
with_refusal refused.Denied s = record s { denied = true }
with_refusal refused.Exists s = record s { exists = true }
with_refusal refused.IsFolder s = record s { is_folder = true }
with_refusal refused.NotEmpty s = record s { not_empty = true }
with_refusal refused.IntoItself s = record s { into_itself = true }
with_refusal refused.Mounted s = record s { mounted = true }
with_refusal refused.CrossMount s = record s { cross_mount = true }
with_refusal refused.NoSpace s = record s { no_space = true }
with_refusal refused.Special s = record s { special = true }
with_refusal refused.Fault s = record s { fault = true }
with_refusal refused.Memory s = record s { memory = true }

-- troubles of the kind are skipped from now on
abbrev pub with_kind : CauseKind → Skips → Skips
with_kind (Tree e) s = record s { refusals = with_refusal e s.refusals }
with_kind TargetKind s = record s { target_kind = true }
with_kind SpecialSource s = record s { special_source = true }
with_kind TooDeep s = record s { too_deep = true }
with_kind PartTaken s = record s { part_taken = true }
with_kind TooLong s = record s { too_long = true }
with_kind Unnamed s = record s { unnamed = true }
with_kind Changed s = record s { changed = true }
with_kind Memory s = record s { memory = true }

-- no refusal is skipped
abbrev pub no_refusals : SkippedRefusals
no_refusals = record {
  missing = false;
  not_folder = false;
  denied = false;
  exists = false;
  is_folder = false;
  not_empty = false;
  into_itself = false;
  mounted = false;
  cross_mount = false;
  no_space = false;
  special = false;
  fault = false;
  memory = false;
}

-- no trouble is skipped
abbrev pub no_skips : Skips
no_skips = record {
  refusals = no_refusals;
  target_kind = false;
  special_source = false;
  too_deep = false;
  part_taken = false;
  too_long = false;
  unnamed = false;
  changed = false;
  memory = false;
}
