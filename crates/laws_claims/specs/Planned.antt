-- What each path holds before a job and when all of it is done, and that it holds nothing else meanwhile.
use Rattle.std.specs.Prelude.{◌≡◌, ◌⊎◌, Bool, true, false, not, ◌&&◌, ◌||◌, ◌++◌, Option, is_some, is_none}
use Rattle.std.specs.Option.{option_map_or}
use Rattle.mc_text.specs.Routes.{Route}
use Rattle.tree_trait.specs.FileSystem.{Value, View}
use Rattle.laws_claims.specs.Views.{one_mount}
use Rattle.mc_text.specs.declared.kind.Kind.{Kind}
use Rattle.mc_text.specs.declared.kind.Kind.TheVariants.{File, Folder, Link, Other}
use Rattle.op_plan.specs.declared.job.Job.{Job}
use Rattle.op_plan.specs.declared.job.Job.TheVariants.{Copy, Move, Delete, MakeFolder}
use Rattle.op_plan.specs.declared.job.Job.TheVariants.{SetMode, MakeLink, Save}
use Rattle.laws_claims.specs.Works.{Part, Make, Place, Set, Remove, is_part, source_of}
use Rattle.laws_claims.specs.Works.{Plain, deleting, making, setting, linking, saving}
use Rattle.laws_claims.specs.Outcome.{Decisions, Spotted, AtTarget, AtSource, Elsewhere, place, outcome}

abbrev pub folder_kind : Kind → Bool
folder_kind File = false
folder_kind Folder = true
folder_kind Link = false
folder_kind Other = false

abbrev pub special_kind : Kind → Bool
special_kind File = false
special_kind Folder = false
special_kind Link = false
special_kind Other = true

abbrev pub is_folder : Option Value → Bool
is_folder o = option_map_or (λ (x : Value). folder_kind x.kind) o false

abbrev pub is_special : Option Value → Bool
is_special o = option_map_or (λ (x : Value). special_kind x.kind) o false

-- a file or a link
abbrev pub is_whole : Option Value → Bool
is_whole o = is_some o && not (is_folder o || is_special o)

-- the parts of an item that is copied, by its source and its target
abbrev pub copy_parts : Option Value → Option Value → Part → Bool
copy_parts source target Make = is_folder source && is_none target
copy_parts source target Place = is_whole source
copy_parts source target Set = is_folder source && is_none target
copy_parts source target Remove = false

-- the parts of an item that is moved: on one mount all goes by renaming, but a folder whose target is there
abbrev pub move_parts : Bool → Option Value → Option Value → Part → Bool
move_parts one source target Make = is_folder source && (is_none target && not one)
move_parts one source target Place =
    is_whole source || (one && (is_special source || (is_folder source && is_none target)))
move_parts one source target Set = is_folder source && (is_none target && not one)
move_parts one source target Remove = false

abbrev pub moving_parts : View → Part → Route → Spotted → Bool
moving_parts v part p (AtTarget pair rest) =
    move_parts (one_mount v (rest ++ pair.source) p) (v (rest ++ pair.source)).value (v p).value part
moving_parts v part p (AtSource pair rest) = is_part part Remove
moving_parts v part p Elsewhere = false

abbrev pub plain_parts : Plain → Part → Route → Bool
plain_parts plain part p = is_part part plain.part && plain.is_at p

-- the parts of a job, by the view at its start
abbrev pub planned_decisions : View → Job → Decisions
planned_decisions v (Copy pairs) part p =
    option_map_or (λ source. copy_parts (v source).value (v p).value part) (source_of pairs p) false
planned_decisions v (Move pairs) part p = moving_parts v part p (place pairs p)
planned_decisions v (Delete paths) part p = plain_parts (deleting paths) part p
planned_decisions v (MakeFolder path) part p = plain_parts (making path) part p
planned_decisions v (SetMode paths mode) part p = plain_parts (setting paths mode) part p
planned_decisions v (MakeLink path text) part p = plain_parts (linking path text) part p
planned_decisions v (Save path bytes) part p = plain_parts (saving path bytes) part p

abbrev pub before : View → Job → Route → Option Value
before v job p = (v p).value

abbrev pub after : View → Job → Route → Option Value
after v job p = (outcome v job (planned_decisions v job) p).value

-- only parts that the job has are done
abbrev pub IsPlanned : View → Job → Decisions → Type 0
IsPlanned v job d = (part : Part) (p : Route) → d part p ≡ true → planned_decisions v job part p ≡ true

-- a value from before or after the job, or a folder where there will be one
abbrev pub IsBetween : View → Job → Route → Option Value → Type 0
IsBetween v job p now = (now ≡ before v job p) ⊎ (now ≡ after v job p)
    ⊎ ((is_folder now ≡ true) × (is_folder (after v job p) ≡ true))

-- Whatever parts are done, each path holds a value from before or after, or is a
-- folder that will stand there.
abbrev pub BetweenLaw : Type 0
BetweenLaw = (v : View) (job : Job) (d : Decisions) → IsPlanned v job d → (p : Route)
    → IsBetween v job p (outcome v job d p).value
