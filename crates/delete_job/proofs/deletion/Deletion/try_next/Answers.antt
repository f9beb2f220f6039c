-- A folder was tried: it is on the disk, or that was refused.
use Rattle.std.proofs.Common.{◌≡◌, ◌+◌, refl, subst, IfSome}
use Rattle.job_reports.specs.Paths.{without}
use Rattle.delete_job.proofs.Synced.{tries_done, tries_vainly}
use Rattle.delete_job.proofs.Worked.{err_is}
use Rattle.delete_job.proofs.deletion.Deletion.try_next.Goals as goal

pub returns-in-Ok : goal.returns-in-Ok
returns-in-Ok g c =
    tries_done c.args.self.now c.args.ending c.args.from.now c.in-Some.at c.in-Some.at c.get.result.now c.args.dirty.now c.remove_at.new.self
    (g.T.ReadTree.contents c.args.tree.now) (g.T.ReadTree.contents c.sync_folder.new.self) (g.T.ReadTree.fault_count c.args.tree.now) (g.T.ReadTree.fault_count c.sync_folder.new.self) c.in-Some.ensures.own c.get.ensures
    c.tried.result.did c.tried.result.calls c.tried.result.left c.tried.ensures.did c.tried.ensures.calls c.tried.ensures.left
    (subst (λ o. IfSome o (λ folder. c.remove_at.new.self ≡ without folder c.args.dirty.now)) c.get.ensures c.remove_at.ensures) refl (λ log known. c.in-Ok.ensures.answer log known) c.sync_folder.ensures.stays_unknown c.sync_folder.ensures.cause.later

pub returns-in-Err : goal.returns-in-Err
returns-in-Err g c =
    tries_vainly c.args.self.now c.args.ending c.args.from.now (c.in-Some.at + 1) c.in-Some.at c.get.result.now c.args.dirty.now c.args.dirty.now
    (g.T.ReadTree.contents c.args.tree.now) (g.T.ReadTree.contents c.sync_folder.new.self) (g.T.ReadTree.fault_count c.args.tree.now) (g.T.ReadTree.fault_count c.sync_folder.new.self) c.in-Some.ensures.own c.get.ensures
    c.tried-in-Err.result.did c.tried-in-Err.result.calls c.tried-in-Err.result.left c.in-Err.error c.tried-in-Err.ensures.did c.tried-in-Err.ensures.calls c.tried-in-Err.ensures.left
    refl refl (λ log known. c.in-Err.ensures.answer log known) c.sync_folder.ensures.stays_unknown c.sync_folder.ensures.cause.later (λ h. c.in-Err.ensures.cause.risen (err_is c.in-Err.error h))
