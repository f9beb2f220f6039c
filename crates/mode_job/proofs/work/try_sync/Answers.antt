-- The look told what stands there, and the sync was tried; or the look was refused.
use Rattle.tree_trait.specs.Change.{current}
use Rattle.tree_trait.specs.Answers.{IsMeta}
use Rattle.mode_job.proofs.Trying.{look_refused, tried_behind}
use Rattle.mode_job.proofs.work.try_sync.Goals as goal

pub returns-in-Ok : goal.returns-in-Ok
returns-in-Ok g c =
    tried_behind c.args.path.now c.in-Ok.meta.kind c.try_kind.result c.tried.result _ _ _ _ _ _ (λ log known. (c.in-Ok.ensures.answer log known).1.kind)
    c.stat.ensures.same c.stat.ensures.cause.later c.try_kind.ensures.answer c.try_kind.ensures.stays_unknown c.try_kind.ensures.cause c.tried.ensures

pub returns-in-Err : goal.returns-in-Err
returns-in-Err g c =
    look_refused (λ log. IsMeta (current log) c.args.path.now) c.args.path.now c.in-Err.error _ _ _ _ (λ log known. c.in-Err.ensures.answer log known)
    c.stat.ensures.same c.in-Err.ensures.cause
