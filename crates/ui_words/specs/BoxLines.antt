-- The lines of the boxes that stand over the panels. Where a path stands in one, it is given how many columns
-- a line has.
use Rattle.std.specs.Prelude.{ℕ, ◌%◌, Bool, true, false, List, [], ◌∷◌, ◌++◌, length}
use Rattle.std.specs.Prelude.{Option, Some, None, codes}
use Rattle.std.specs.Option.{option_map_or}
use Rattle.std.specs.Fmt.{decimal}
use Rattle.mc_text.specs.Routes.{Route, spelled_route}
use Rattle.job_reports.specs.declared.question.Question.{Question}
use Rattle.job_reports.specs.declared.report.Trouble.{Trouble}
use Rattle.job_reports.specs.declared.waits.Waits.{Waits}
use Rattle.job_reports.specs.declared.waits.Waits.TheVariants as waits
use Rattle.resolving.specs.declared.error.ResolveError.{ResolveError}
use Rattle.resolving.specs.declared.error.ResolveError.TheVariants as resolve
use Rattle.session_entries.specs.declared.refusal.PlanError.{PlanError}
use Rattle.session_entries.specs.declared.refusal.PlanError.TheVariants.{NoSelection, TooLong, Nested}
use Rattle.session_entries.specs.declared.refusal.PlanError.TheVariants.{Source, BadMask, Target}
use Rattle.session_entries.specs.declared.refusal.PlanError.TheVariants.{TargetThere, SameFile, IntoItself}
use Rattle.session_entries.specs.declared.refusal.PlanError.TheVariants.{TwoToOne, BadLinkText}
use Rattle.session_entries.specs.declared.refusal.Refusal.{Refusal}
use Rattle.session_entries.specs.declared.refusal.Refusal.TheVariants.{Tree, Read, Resolve}
use Rattle.session_entries.specs.declared.refusal.Refusal.TheVariants.{Plan, Begin, Typed}
use Rattle.mc_dialogs.specs.InputKeys.{InputState}
use Rattle.mc_dialogs.specs.ModeKeys.{ModeState}
use Rattle.ui_words.specs.declared.carry.Carry.{Carry}
use Rattle.ui_words.specs.declared.carry.Carry.TheVariants as carry
use Rattle.ui_words.specs.declared.message.Message.{Message}
use Rattle.ui_words.specs.declared.message.Message.TheVariants.{Refused, PartLeft, OutOfMemory, Help}
use Rattle.ui_words.specs.PathLines.{path_line}
use Rattle.ui_words.specs.Things.{called, things_line}
use Rattle.ui_words.specs.RefusalWords.{refusal_words, trouble_words}

-- the path that can't be read, if one is to blame
abbrev pub resolve_path : ResolveError → Option Route
resolve_path (resolve.Tree path e) = Some path
resolve_path resolve.TooManyLinks = None
resolve_path resolve.TooLong = None
resolve_path resolve.BadName = None
resolve_path resolve.Fault = None
resolve_path resolve.Memory = None

-- the path that a plan was refused for, if it was for one: the first, where it was for two
abbrev pub plan_path : PlanError → Option Route
plan_path NoSelection = None
plan_path TooLong = None
plan_path (Nested first second) = Some first
plan_path (Source path e) = Some path
plan_path BadMask = None
plan_path (Target e) = resolve_path e
plan_path (TargetThere path) = Some path
plan_path (SameFile path) = Some path
plan_path (IntoItself source target) = Some source
plan_path (TwoToOne first second) = Some first
plan_path BadLinkText = None

-- the path that a refusal speaks of, if it speaks of one
abbrev pub refusal_path : Refusal → Option Route
refusal_path (Tree path e) = Some path
refusal_path (Read path e) = Some path
refusal_path (Resolve e) = resolve_path e
refusal_path (Plan error) = plan_path error
refusal_path (Begin error) = None
refusal_path (Typed error) = None

-- a line with a path, where there is one
abbrev pub path_lines : ℕ → Option Route → List (List ℕ)
path_lines columns None = []
path_lines columns (Some path) = path_line columns path ∷ []

-- the lines that tell of a part that is left, if one is
abbrev pub part_lines : ℕ → Option Route → List (List ℕ)
part_lines columns None = []
part_lines columns (Some path) = codes "part left" ∷ path_line columns path ∷ []

-- the lines of a message: what is said, and the path that it is said of
abbrev pub message_lines : ℕ → Message → List (List ℕ)
message_lines columns (Refused refusal) = refusal_words refusal ∷ path_lines columns (refusal_path refusal)
message_lines columns (PartLeft path) = part_lines columns (Some path)
message_lines columns (OutOfMemory part) = codes "job ended: out of memory" ∷ part_lines columns part
message_lines columns Help =
    codes "usage: mc [-b] [-V] [-h] [-P FILE]"
    ∷ codes "       [-v FILE | -e FILE | --drill N | DIR1 [DIR2]]"
    ∷ codes "F1 help  F2 menu  F3 view  F4 edit  F5 copy"
    ∷ codes "F6 move  F7 mkdir  F8 delete  F9 options  F10 quit"
    ∷ []

-- the lines of the box that asks whether to delete some things: their number, and the name of the first
abbrev pub delete_lines : ℕ → List Route → List (List ℕ)
delete_lines columns paths = (codes "Delete " ++ (decimal (length paths) ++ codes " things?"))
    ∷ things_line columns paths ∷ codes "y Delete  g Background  n No" ∷ []

-- the sizes of the source and of what stands at the target
abbrev pub sizes_line : Question → List ℕ
sizes_line question =
    codes "source " ++ (decimal question.source_size
    ++ (codes " bytes, target " ++ (decimal question.target_size ++ codes " bytes")))

-- the lines of a question's box: the target, both sizes, and the letters that answer, with their words
abbrev pub question_lines : ℕ → Question → List (List ℕ)
question_lines columns question =
    codes "Target exists" ∷ path_line columns question.target ∷ sizes_line question
    ∷ codes "y Yes  n No  a All  u Update" ∷ codes "o None  s Size differs  b Abort" ∷ []

-- the letters that answer a trouble, with their words: at a barrier nothing can be skipped
abbrev pub trouble_letter_words : Bool → List ℕ
trouble_letter_words true = codes "r Retry  b Abort"
trouble_letter_words false = codes "r Retry  s Skip  a Skip all  b Abort"

-- the lines of a trouble's box; the path's is empty where there is none
abbrev pub trouble_lines : ℕ → Trouble → List (List ℕ)
trouble_lines columns trouble =
    trouble_words trouble.cause ∷ option_map_or (path_line columns) trouble.path []
    ∷ trouble_letter_words trouble.barrier ∷ []

-- the lines of the box that tells what a job waits with
abbrev pub waits_lines : ℕ → Waits → List (List ℕ)
waits_lines columns (waits.Question question) = question_lines columns question
waits_lines columns (waits.Trouble trouble) = trouble_lines columns trouble

-- the line that asks for the source mask of some things, as it opens
abbrev pub mask_line : List Route → InputState
mask_line paths =
    record { title = codes "Source mask for " ++ called paths; before = codes "*"; behind = [] }

-- the line that asks for a new folder's path, as it opens
abbrev pub folder_line : InputState
folder_line = record { title = codes "Make folder"; before = []; behind = [] }

-- the lines that ask what a link is to say, and then for its path, as they open
abbrev pub link_text_line : List ℕ → InputState
link_text_line text = record { title = codes "Link text"; before = text; behind = [] }

abbrev pub link_name_line : InputState
link_name_line = record { title = codes "Link name"; before = []; behind = [] }

-- what the destination is at first: the other panel's folder and a slash
abbrev pub target_text : Route → List ℕ
target_text folder = spelled_route folder ++ codes "/"

-- the line that asks where things are to be copied or moved to, as it opens
abbrev pub target_title : Carry → List ℕ
target_title carry.Copy = codes "Copy to"
target_title carry.Move = codes "Move to"

abbrev pub target_line : Carry → Route → InputState
target_line how folder = record { title = target_title how; before = target_text folder; behind = [] }

-- the box that asks for a mode, as it opens; a mode has four octal digits
abbrev pub mode_box : ℕ → ModeState
mode_box mode = record { title = codes "Mode"; mode = mode % 4096 }

-- the path of a thing in a folder, however long it is
abbrev pub thing_text : Route → List ℕ → List ℕ
thing_text folder name = target_text folder ++ name
