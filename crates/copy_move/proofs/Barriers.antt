-- A trouble is at a barrier exactly where the work is then.
use Rattle.std.proofs.Common.{◌≡◌, [], ◌∷◌, refl, sym, ◌∙◌, ap}
use Rattle.mc_text.specs.Routes.{Route}
use Rattle.job_reports.specs.declared.report.Did.TheVariants.{Troubled}
use Rattle.job_reports.specs.declared.report.Trouble.{Trouble}
use Rattle.job_answers.specs.declared.replies.Replies.{Replies}
use Rattle.mode_job.specs.Settings.{Setting}
use Rattle.mode_job.specs.Settings as settings
use Rattle.delete_job.specs.Standing as standing
use Rattle.make_job.specs.declared.making.MakingStage.{MakingStage}
use Rattle.make_job.specs.declared.making.MakingStage.TheVariants as making
use Rattle.copy_move.specs.declared.work.Work.{Work}
use Rattle.copy_move.specs.declared.work.Work.TheVariants.{Copy, Delete, Make, Move, SetMode, RemoveEmptied}
use Rattle.copy_move.specs.Jobs.{WorkTells, at_barrier}
use Rattle.make_job.specs.Makings.{Making}
use Rattle.make_job.specs.Makings as makings
use Rattle.move_job.specs.Movings.{Moving}
use Rattle.move_job.specs.Movings as movings
use Rattle.emptied_job.specs.Removals.{Removing}
use Rattle.emptied_job.specs.Removals as removals

-- the trouble of a making is at a barrier where its next call is
making_barrier : (stage : MakingStage) (path : Route) (trouble : Trouble) → makings.IsTroubleAt stage path trouble → trouble.barrier ≡ makings.at_barrier stage
making_barrier making.Make path trouble (e, is) = ap (λ (t : Trouble). t.barrier) is
making_barrier making.Sync [] trouble h = absurd h
making_barrier making.Sync (name ∷ folder) trouble (e, is) = ap (λ (t : Trouble). t.barrier) is
making_barrier making.Finish path trouble h = absurd h
making_barrier making.PassedOver path trouble h = absurd h

pub work_barrier : (replies : Replies) (old new : Work) (trouble : Trouble) → WorkTells replies old (Troubled trouble) new → trouble.barrier ≡ at_barrier new
work_barrier replies (Copy c) (Copy new) trouble t = t.barred trouble refl
work_barrier replies (Delete d) (Delete new) trouble t = t.0 ∙ sym (ap standing.at_barrier t.1.stage_is)
work_barrier replies (Make m) (Make new) trouble t = making_barrier m.stage m.path trouble t.0 ∙ sym (ap (λ (x : Making). makings.at_barrier x.stage) t.1)
work_barrier replies (Move m) (Move new) trouble (barrier, undone, cause, is) = barrier ∙ sym (ap (λ (x : Moving). movings.at_barrier x.stage) is)
work_barrier replies (SetMode s) (SetMode new) trouble (barrier, cause, is) = barrier ∙ sym (ap (λ (x : Setting). settings.at_barrier x.stage) is)
work_barrier replies (RemoveEmptied r) (RemoveEmptied new) trouble (barrier, undone, cause, is) = barrier ∙ sym (ap (λ (x : Removing). removals.at_barrier x.stage) is)
work_barrier replies old new trouble t = absurd t
