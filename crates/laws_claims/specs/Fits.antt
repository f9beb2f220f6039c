-- Which works of a job may follow one another.
use Rattle.std.specs.Prelude.{◌≡◌, Bool, true, false, ◌&&◌, List, [], ◌∷◌, Some}
use Rattle.std.specs.List.{list_any}
use Rattle.mc_text.specs.Routes.{Route, is_prefix}
use Rattle.tree_trait.specs.FileSystem.{View}
use Rattle.job_reports.specs.declared.job.Pair.{Pair}
use Rattle.op_plan.specs.Meeting.{meet}
use Rattle.op_plan.specs.Soundness.{IsSound}
use Rattle.op_plan.specs.declared.job.Job.{Job}
use Rattle.op_plan.specs.declared.job.Job.TheVariants.{Copy, Move, Delete, MakeFolder}
use Rattle.op_plan.specs.declared.job.Job.TheVariants.{SetMode, MakeLink, Save}
use Rattle.laws_claims.specs.Works.{Part, Make, Place, Set, Remove, Work}
use Rattle.laws_claims.specs.Works.{Did, is_part, source_of, after_works}
use Rattle.laws_claims.specs.Outcome.{is_work, decisions_of_works, outcome}

-- a work of this part at this path, or above it
abbrev pub is_above : Part → Route → Work → Bool
is_above part p (Did other path) = is_part other part && is_prefix path p

-- a work of this part at this path, above it or below it
abbrev pub is_near_work : Part → Route → Work → Bool
is_near_work part p (Did other path) = is_part other part && meet path p

abbrev pub IsFree : (Work → Bool) → List Work → Type 0
IsFree test works = list_any test works ≡ false

-- the source of a target has no such work
abbrev pub SourceIsFree : List Pair → Route → (Route → Work → Bool) → List Work → Type 0
SourceIsFree pairs p test works = (source : Route) → source_of pairs p ≡ Some source
    → IsFree (test source) works

-- A folder is made, its mode is set, and then its source is removed, and nothing of this is at or below
-- what was placed. What is placed comes once and whole, before anything of its source is removed.
abbrev pub MayFollow : List Pair → Part → Route → List Work → Type 0
MayFollow pairs Make p older = IsFree (is_above Place p) older × (decisions_of_works older Set p ≡ false)
    × SourceIsFree pairs p (is_work Remove) older
MayFollow pairs Place p older =
    IsFree (is_near_work Place p) older × SourceIsFree pairs p (is_near_work Remove) older
MayFollow pairs Set p older = IsFree (is_above Place p) older × (decisions_of_works older Make p ≡ true)
    × SourceIsFree pairs p (is_work Remove) older
MayFollow pairs Remove p older = Unit {0}

abbrev pub Follow : List Pair → List Work → Type 0
Follow pairs [] = Unit {0}
Follow pairs (Did part p ∷ older) = MayFollow pairs part p older × Follow pairs older

-- the works of a job fit together; of a job without sources each may come at any time
abbrev pub Fits : Job → List Work → Type 0
Fits (Copy pairs) works = Follow pairs works
Fits (Move pairs) works = Follow pairs works
Fits (Delete paths) works = Unit {0}
Fits (MakeFolder path) works = Unit {0}
Fits (SetMode paths mode) works = Unit {0}
Fits (MakeLink path text) works = Unit {0}
Fits (Save path bytes) works = Unit {0}

-- The works of a sound job, in any order in which they fit, leave its outcome.
abbrev pub FitLaw : Type 0
FitLaw = (job : Job) (works : List Work) (v : View) → IsSound job → Fits job works
    → after_works job works v ≡ outcome v job (decisions_of_works works)
