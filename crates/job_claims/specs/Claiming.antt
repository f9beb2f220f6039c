-- What a job claims, and which claims clash.
use Rattle.std.specs.Prelude.{ℕ, Bool, true, false, ◌&&◌, ◌||◌, List, [], ◌∷◌}
use Rattle.std.specs.Prelude.{map, Option, option_map, option_and_then, slice_get}
use Rattle.std.specs.List.{list_any, position, flat_map}
use Rattle.mc_text.specs.Routes.{Route}
use Rattle.job_reports.specs.declared.job.Pair.{Pair}
use Rattle.job_claims.specs.declared.claim.Claim.{Claim}
use Rattle.op_plan.specs.declared.job.Job.{Job}
use Rattle.op_plan.specs.declared.job.Job.TheVariants.{Copy, Move, Delete, MakeFolder}
use Rattle.op_plan.specs.declared.job.Job.TheVariants.{SetMode, MakeLink, Save}
use Rattle.op_plan.specs.Meeting.{meet}

abbrev pub claim : Bool → Route → Claim
claim writes path = record { path = path; writes = writes }

abbrev pub all_written : List Route → List Claim
all_written = map (claim true)

-- the source of each pair is read, or written where it is moved; its target is written
abbrev pub of_pairs : Bool → List Pair → List Claim
of_pairs moves = flat_map (λ (pair : Pair). claim moves pair.source ∷ claim true pair.target ∷ [])

abbrev pub claims : Job → List Claim
claims (Copy pairs) = of_pairs false pairs
claims (Move pairs) = of_pairs true pairs
claims (Delete paths) = all_written paths
claims (MakeFolder path) = claim true path ∷ []
claims (SetMode paths mode) = all_written paths
claims (MakeLink path text) = claim true path ∷ []
claims (Save path bytes) = claim true path ∷ []

-- two claims clash where their paths meet and at least one is for writing
abbrev pub clash : Claim → Claim → Bool
clash mine theirs = (mine.writes || theirs.writes) && meet mine.path theirs.path

-- some claim of mine clashes with one of theirs
abbrev pub clashes : List Claim → List Claim → Bool
clashes mine theirs = list_any (λ claim. list_any (clash claim) theirs) mine

-- the first of mine that clashes with any of theirs, and the first of theirs with which it does
abbrev pub first_clash : List Claim → List Claim → Option (ℕ × ℕ)
first_clash mine theirs =
    option_and_then (λ i.
    option_and_then (λ claim. option_map (λ j. (i, j)) (position (clash claim) theirs)) (slice_get mine i))
    (position (λ claim. list_any (clash claim) theirs) mine)
