-- What is moved is never lost.
use Rattle.std.specs.Prelude.{◌≡◌, ◌⊎◌, Bool, true, ◌||◌, List, ◌++◌}
use Rattle.mc_text.specs.Routes.{Route}
use Rattle.tree_trait.specs.FileSystem.{View}
use Rattle.job_reports.specs.declared.job.Pair.{Pair}
use Rattle.laws_claims.specs.Works.{Remove, Place}
use Rattle.laws_claims.specs.Outcome.{Decisions, AtTarget, place, moved_spot}
use Rattle.op_plan.specs.Soundness.{ArePairsApart}
use Rattle.laws_claims.specs.Planned.{is_whole, is_special}
use Rattle.op_plan.specs.declared.job.Job.TheVariants.{Move}
use Rattle.laws_claims.specs.Outcome.{outcome}

-- a thing below a pair's source is whole there, or at this way below its target
abbrev pub IsKept : View → Pair → Route → View → Type 0
IsKept start pair rest now =
    ((now (rest ++ pair.source)).value ≡ (start (rest ++ pair.source)).value)
    ⊎ ((now (rest ++ pair.target)).value ≡ (start (rest ++ pair.source)).value)

-- each file, link and special thing of a move is whole at its source or at its target
abbrev pub KeepsMoved : View → List Pair → View → Type 0
KeepsMoved start pairs now =
    (pair : Pair) (rest : Route) → place pairs (rest ++ pair.target) ≡ AtTarget pair rest
    → (is_whole (start (rest ++ pair.source)).value || is_special (start (rest ++ pair.source)).value) ≡ true
    → IsKept start pair rest now

-- Where the pairs are apart and nothing of a source is removed before it was placed, a thing that is moved
-- is whole at its source or at its target.
abbrev pub KeptLaw : Type 0
KeptLaw = (v : View) (pairs : List Pair) (d : Decisions) → ArePairsApart pairs
    → ((pair : Pair) (rest : Route) → place pairs (rest ++ pair.target) ≡ AtTarget pair rest
    → d Remove (rest ++ pair.source) ≡ true
    → (is_whole (v (rest ++ pair.source)).value || is_special (v (rest ++ pair.source)).value) ≡ true
    → d Place (rest ++ pair.target) ≡ true)
    → KeepsMoved v pairs (outcome v (Move pairs) d)
