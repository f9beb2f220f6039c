-- What a job has of its request.
use Rattle.std.specs.Prelude.{◌≡◌, ◌⊎◌, ℕ, List, [], ◌∷◌, map, chars, Option, Some}
use Rattle.mc_text.specs.Routes.{Route, last_of}
use Rattle.tagging.specs.declared.glob.GlobPart.{GlobPart}
use Rattle.job_reports.specs.declared.job.Pair.{Pair}
use Rattle.op_plan.specs.declared.mask.MaskPiece.{MaskPiece}
use Rattle.op_plan.specs.declared.mask.MaskPiece.TheVariants.{Star}
use Rattle.op_plan.specs.declared.request.Request.{Request}
use Rattle.op_plan.specs.declared.request.Request.TheVariants as asked
use Rattle.op_plan.specs.declared.job.Job.{Job}
use Rattle.op_plan.specs.declared.job.Job.TheVariants.{Copy, Move, Delete, MakeFolder}
use Rattle.op_plan.specs.declared.job.Job.TheVariants.{SetMode, MakeLink, Save}
use Rattle.op_plan.specs.Masks.{pieces_of}
use Rattle.op_plan.specs.Naming.{pattern_in, chosen_sources, names_for}
use Rattle.op_plan.specs.Destinations.{last_part}
use Rattle.op_plan.specs.Checks.{sources_in, targets_from}

-- the targets lie in one folder, each under the name that a mask makes of its source's
pub record ArePlaced (pattern : Option (List GlobPart)) (mask : List MaskPiece)
    (pairs : List Pair) : Type 0 where
  pub folder : Route
  pub names : List (List ℕ)
  pub targets : targets_from pairs ≡ map (λ name. name ∷ folder) names
  pub named : names_for pattern mask (sources_in pairs) ≡ Some names

-- The sources that the mask takes, in their order. The typed text's last part makes the names of all
-- targets, or each has its source's.
pub record ArePairsFor (sources : List Route) (mask to : List ℕ) (pairs : List Pair) : Type 0 where
  pub sources_are : sources_in pairs ≡ chosen_sources (pattern_in mask) sources
  pub targets_are : ArePlaced (pattern_in mask) (pieces_of (chars (last_part to))) pairs
      ⊎ ArePlaced (pattern_in mask) (Star ∷ []) pairs

-- A job is of the kind that was asked for. It has those of the sources that the mask takes, in their order,
-- the mode, the text and the bytes. What it makes has the name in which the typed text ends.
abbrev pub IsJobFor : Request → Job → Type 0
IsJobFor (asked.Copy sources mask from to) (Copy pairs) = ArePairsFor sources mask to pairs
IsJobFor (asked.Move sources mask from to) (Move pairs) = ArePairsFor sources mask to pairs
IsJobFor (asked.Delete sources) (Delete paths) = paths ≡ sources
IsJobFor (asked.MakeFolder from to) (MakeFolder path) = last_of path ≡ Some (last_part to)
IsJobFor (asked.SetMode sources mode) (SetMode paths given) = (paths ≡ sources) × (given ≡ mode)
IsJobFor (asked.MakeLink from to text) (MakeLink path says) =
    (last_of path ≡ Some (last_part to)) × (says ≡ text)
IsJobFor (asked.Save path bytes) (Save place saved) = (place ≡ path) × (saved ≡ bytes)
IsJobFor request job = ⊥
