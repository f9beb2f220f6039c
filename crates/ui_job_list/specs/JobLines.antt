-- What the list of jobs says of a job. Own, after the background jobs of mc(1) ("Command Menu").
use Rattle.std.specs.Prelude.{ℕ, List, [], ◌∷◌, ◌++◌, codes}
use Rattle.std.specs.Fmt.{decimal}
use Rattle.mc_text.specs.Routes.{path_text}
use Rattle.job_reports.specs.declared.row.JobKind.{JobKind}
use Rattle.job_reports.specs.declared.row.JobKind.TheVariants.{Copy, Move, Delete}
use Rattle.job_reports.specs.declared.row.JobKind.TheVariants.{MakeFolder, MakeLink, SetMode}
use Rattle.job_reports.specs.declared.row.JobRow.{JobRow}
use Rattle.job_reports.specs.declared.row.JobState.{JobState}
use Rattle.job_reports.specs.declared.row.JobState.TheVariants.{Ready, Asking, Troubled, Stopped}

-- what a job is at
abbrev pub state_word : JobState → List ℕ
state_word Ready = codes "ready"
state_word Asking = codes "asking"
state_word Troubled = codes "trouble"
state_word Stopped = codes "stopped"

-- what it does
abbrev pub kind_word : JobKind → List ℕ
kind_word Copy = codes "copy"
kind_word Move = codes "move"
kind_word Delete = codes "delete"
kind_word MakeFolder = codes "mkdir"
kind_word MakeLink = codes "symlink"
kind_word SetMode = codes "chmod"

-- a blank and a word more
abbrev pub with_word : List ℕ → List ℕ → List ℕ
with_word line word = (line ++ 32 ∷ []) ++ word

-- the line of a job: its number, what it is at, what it does, and to which path
abbrev pub job_line : JobRow → List ℕ
job_line row = with_word (with_word (with_word (decimal row.job) (state_word row.state)) (kind_word row.kind))
    (path_text row.path)
