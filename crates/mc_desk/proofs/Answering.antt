-- What a history doesn't tell of a job has no part in its answers.
use Rattle.std.proofs.Common.{◌≡◌, ℕ, false, [], ◌∷◌, refl, ◌∙◌, ap, Option, Some, None}
use Rattle.std.specs.Option.{option_map}
use Rattle.copy_move.specs.declared.work.Work.{Work}
use Rattle.copy_move.specs.declared.work.Work.TheVariants.{Copy, Delete, Make, Move, SetMode, RemoveEmptied}
use Rattle.mc_text.specs.Routes.{Route}
use Rattle.job_reports.specs.declared.waits.Waits.{Waits}
use Rattle.job_reports.specs.declared.row.JobKind.{JobKind}
use Rattle.job_reports.specs.declared.row.JobRow.{JobRow}
use Rattle.copy_move.specs.Jobs.{Running, kind_of, part_of, path_of, waits_on}
use Rattle.copy_move.specs.Told.{told_job, work_told}
use Rattle.copy_job.specs.Standing as tree
use Rattle.copy_tree.specs.Ending.{stays_if}
use Rattle.mc_desk.specs.LiveRows.{question_in, rows_of, state_with, trouble_in, waits_in}
use Rattle.mc_desk.specs.Tallies.{can_step}

-- the part of what is copied whole, as one that stays
staying_part : (part : Option Route) → tree.part_of (stays_if part) ≡ part
staying_part None = refl
staying_part (Some part) = refl

work_part : (id : ℕ) (work : Work) → part_of (work_told id work) ≡ part_of work
work_part id (Copy c) = staying_part (tree.part_of c.at.item)
work_part id (Delete d) = refl
work_part id (Make m) = refl
work_part id (Move m) = refl
work_part id (SetMode s) = refl
work_part id (RemoveEmptied r) = refl

pub part_told : (job : Running) → part_of (told_job job).work ≡ part_of job.work
part_told job = work_part job.id job.work

pub waiting_told : (job : Running) → waits_on (told_job job).course ≡ waits_on job.course
waiting_told job = refl

pub steps_told : (job : Option Running) → can_step (option_map told_job job) ≡ can_step job
steps_told None = refl
steps_told (Some job) = refl

-- what it does, and to what
kind_told : (id : ℕ) (work : Work) → kind_of (work_told id work) ≡ kind_of work
kind_told id (Copy c) = refl
kind_told id (Delete d) = refl
kind_told id (Make m) = refl
kind_told id (Move m) = refl
kind_told id (SetMode s) = refl
kind_told id (RemoveEmptied r) = refl

path_told : (id : ℕ) (work : Work) → path_of (work_told id work) ≡ path_of work
path_told id (Copy c) = refl
path_told id (Delete d) = refl
path_told id (Make m) = refl
path_told id (Move m) = refl
path_told id (SetMode s) = refl
path_told id (RemoveEmptied r) = refl

abbrev row_with : Running → Option Waits → JobKind → Route → JobRow
row_with job t kind path =
    record {
      job = job.id;
      state = state_with (waits_in job t);
      kind = kind;
      path = path;
      background = false;
      asked = question_in (waits_in job t);
      trouble = trouble_in (waits_in job t);
    }

-- the row of a job is that of the job as its history tells it
pub rows_untold : (job : Option Running) (t : Option Waits) → rows_of (option_map told_job job) t ≡ rows_of job t
rows_untold None t = refl
rows_untold (Some job) t =
    ap (λ kind. row_with job t kind (path_of (work_told job.id job.work)) ∷ []) (kind_told job.id job.work)
    ∙ ap (λ path. row_with job t (kind_of job.work) path ∷ []) (path_told job.id job.work)

-- where there are no rows no job is live
pub none_of : (job : Option Running) (t : Option Waits) → rows_of job t ≡ [] → job ≡ None
none_of None t h = refl
none_of (Some job) t h = absurd cc
