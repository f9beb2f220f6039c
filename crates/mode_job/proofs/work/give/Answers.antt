-- The mode wasn't given.
use Rattle.std.proofs.Common.{false, [], ◌∷◌, subst}
use Rattle.tree_trait.specs.Calls.{SetMode}
use Rattle.job_reports.specs.Stops.{Ran}
use Rattle.mode_job.specs.declared.setting.Stage.TheVariants.{Give}
use Rattle.mode_job.specs.Settings.{setting}
use Rattle.mode_job.specs.SettingSteps.{NotGiven}
use Rattle.mode_job.proofs.Giving.{stays_as_it_was}
use Rattle.mode_job.proofs.work.give.Goals as goal

pub returns-in-Err : goal.returns-in-Err
returns-in-Err g c =
    stays_as_it_was c.args.path.now c.args.mode c.args.replies c.in-Err.stop c.not_given.result (g.T.ReadTree.contents c.args.tree.now) (g.T.ReadTree.contents c.set_mode.new.tree)
    (g.T.ReadTree.fault_count c.args.tree.now) (g.T.ReadTree.fault_count c.set_mode.new.tree)
    (subst (λ r. Ran (SetMode c.args.path.now c.args.mode ∷ []) false r (g.T.ReadTree.contents c.args.tree.now) (g.T.ReadTree.contents c.set_mode.new.tree)
    (g.T.ReadTree.fault_count c.args.tree.now) (g.T.ReadTree.fault_count c.set_mode.new.tree)) c.in-Err.is c.set_mode.ensures)
    (subst (λ path. NotGiven c.args.replies (setting path c.args.mode Give) c.in-Err.stop c.not_given.result) c.in-Ok.ensures c.not_given.ensures)
