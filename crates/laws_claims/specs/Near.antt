-- What claims say of a path.
use Rattle.std.specs.Prelude.{Bool, ◌&&◌, List}
use Rattle.std.specs.List.{list_any}
use Rattle.mc_text.specs.Routes.{Route, is_prefix}
use Rattle.job_claims.specs.declared.claim.Claim.{Claim}
use Rattle.op_plan.specs.Meeting.{meet}

-- a path lies under a claim for writing
abbrev pub is_written : List Claim → Route → Bool
is_written cs p = list_any (λ c. c.writes && is_prefix c.path p) cs

-- a path lies under a claim, or above one
abbrev pub is_near : List Claim → Route → Bool
is_near cs p = list_any (λ c. meet c.path p) cs
