-- Each stage is a function of its own.
use Rattle.std.proofs.Common.{◌≡◌, true}
use Rattle.carry_job.specs.declared.stage.CarryStage.TheVariants.{Take, File, Link, SyncTarget, Remove, SyncSource, Settle}
use Rattle.carry_job.proofs.Stepping.{works_at}
use Rattle.carry_job.proofs.working.work.Goals as goal

pub returns-in-Take-clause-works : goal.returns-in-Take-clause-works
returns-in-Take-clause-works g c =
    works_at (λ path. g.P.PartTest.is_free c.args.parts.now path ≡ true) c.args.replies c.args.places.now c.args.stage (Take c.in-Take.folder) c.take.result _ _ _ _ c.in-Take.is c.take.ensures.works

pub returns-in-File-clause-works : goal.returns-in-File-clause-works
returns-in-File-clause-works g c =
    works_at (λ path. g.P.PartTest.is_free c.args.parts.now path ≡ true) c.args.replies c.args.places.now c.args.stage (File c.in-File.copy) c.work_file.result _ _ _ _ c.in-File.is c.work_file.ensures.works

pub returns-in-Link-clause-works : goal.returns-in-Link-clause-works
returns-in-Link-clause-works g c =
    works_at (λ path. g.P.PartTest.is_free c.args.parts.now path ≡ true) c.args.replies c.args.places.now c.args.stage (Link c.in-Link.copy) c.work_link.result _ _ _ _ c.in-Link.is c.work_link.ensures.works

pub returns-in-SyncTarget-clause-works : goal.returns-in-SyncTarget-clause-works
returns-in-SyncTarget-clause-works g c =
    works_at (λ path. g.P.PartTest.is_free c.args.parts.now path ≡ true) c.args.replies c.args.places.now c.args.stage SyncTarget c.sync_target.result _ _ _ _ c.in-SyncTarget.is c.sync_target.ensures.calls

pub returns-in-Remove-clause-works : goal.returns-in-Remove-clause-works
returns-in-Remove-clause-works g c =
    works_at (λ path. g.P.PartTest.is_free c.args.parts.now path ≡ true) c.args.replies c.args.places.now c.args.stage Remove c.remove.result _ _ _ _ c.in-Remove.is c.remove.ensures.removes

pub returns-in-SyncSource-clause-works : goal.returns-in-SyncSource-clause-works
returns-in-SyncSource-clause-works g c =
    works_at (λ path. g.P.PartTest.is_free c.args.parts.now path ≡ true) c.args.replies c.args.places.now c.args.stage SyncSource c.sync_source.result _ _ _ _ c.in-SyncSource.is c.sync_source.ensures.calls

pub returns-in-Settle-clause-works : goal.returns-in-Settle-clause-works
returns-in-Settle-clause-works g c =
    works_at (λ path. g.P.PartTest.is_free c.args.parts.now path ≡ true) c.args.replies c.args.places.now c.args.stage Settle c.settle.result _ _ _ _ c.in-Settle.is c.settle.ensures.calls
