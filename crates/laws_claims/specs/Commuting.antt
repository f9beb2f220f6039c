-- Jobs whose claims don't clash come to the same in either order.
use Rattle.std.specs.Prelude.{◌≡◌, false, List}
use Rattle.tree_trait.specs.FileSystem.{View}
use Rattle.op_plan.specs.declared.job.Job.{Job}
use Rattle.job_claims.specs.Claiming.{claims, clashes}
use Rattle.op_plan.specs.Soundness.{IsSound}
use Rattle.laws_claims.specs.Works.{Work, after_works}
use Rattle.laws_claims.specs.Outcome.{decisions_of_works, outcome}
use Rattle.laws_claims.specs.Fits.{Fits}

-- whatever each has done so far, in whichever way the works are interleaved, each pair
-- of them may change places
abbrev pub WorksCommute : Type 0
WorksCommute =
    (mine theirs : Job) (my_works their_works : List Work) (v : View)
    → clashes (claims mine) (claims theirs) ≡ false
    → after_works mine my_works (after_works theirs their_works v)
    ≡ after_works theirs their_works (after_works mine my_works v)

-- the outcome of one on that of the other is the same in either order
abbrev pub OutcomesCommute : Type 0
OutcomesCommute =
    (mine theirs : Job) (my_works their_works : List Work) (v : View)
    → clashes (claims mine) (claims theirs) ≡ false
    → IsSound mine → IsSound theirs → Fits mine my_works → Fits theirs their_works
    → outcome (outcome v theirs (decisions_of_works their_works)) mine (decisions_of_works my_works)
    ≡ outcome (outcome v mine (decisions_of_works my_works)) theirs (decisions_of_works their_works)
