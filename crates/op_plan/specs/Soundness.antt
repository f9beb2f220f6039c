-- Which jobs may be begun.
use Rattle.std.specs.Prelude.{◌≡◌, ◌≢◌, ◌≤◌, false, List, [], IfSome}
use Rattle.std.specs.List.{list_any}
use Rattle.mc_text.specs.Routes.{Route}
use Rattle.tree_trait.specs.Answers.{IsLinkText}
use Rattle.job_reports.specs.declared.job.Pair.{Pair}
use Rattle.op_plan.specs.declared.request.Request.{Request}
use Rattle.op_plan.specs.declared.request.Request.TheVariants as asked
use Rattle.op_plan.specs.declared.job.Job.{Job}
use Rattle.op_plan.specs.declared.job.Job.TheVariants.{Copy, Move, Delete, MakeFolder}
use Rattle.op_plan.specs.declared.job.Job.TheVariants.{SetMode, MakeLink, Save}
use Rattle.op_plan.specs.declared.sources.Sources.{Sources}
use Rattle.op_plan.specs.Digests.{LieApart}
use Rattle.op_plan.specs.Meeting.{meet, has_two}
use Rattle.op_plan.specs.Checks.{sources_in, targets_from}

-- at least one path, of which none is or holds another
pub record AreApart (paths : List Route) : Type 0 where
  pub some : paths ≢ []
  pub apart : has_two meet paths ≡ false

-- the folder that is named is that in which all sources lie
abbrev pub IsHeld : Sources → Type 0
IsHeld sources = IfSome sources.holder (λ folder. LieApart folder sources.paths)

-- at least one pair; no source is or holds another, no target is or holds another, and no source is,
-- holds or lies in a target
pub record ArePairsApart (pairs : List Pair) : Type 0 where
  pub some : pairs ≢ []
  pub sources : has_two meet (sources_in pairs) ≡ false
  pub targets : has_two meet (targets_from pairs) ≡ false
  pub across : list_any (λ source. list_any (meet source) (targets_from pairs)) (sources_in pairs) ≡ false

abbrev pub IsSound : Job → Type 0
IsSound (Copy pairs) = ArePairsApart pairs
IsSound (Move pairs) = ArePairsApart pairs
IsSound (Delete paths) = AreApart paths
IsSound (MakeFolder path) = Unit {0}
IsSound (SetMode paths mode) = AreApart paths × (mode ≤ 0o7777)
IsSound (MakeLink path text) = IsLinkText text
IsSound (Save path bytes) = Unit {0}

-- a mode that is asked for has twelve bits
abbrev pub HasMode : Request → Type 0
HasMode (asked.SetMode sources mode) = mode ≤ 0o7777
HasMode request = Unit {0}
