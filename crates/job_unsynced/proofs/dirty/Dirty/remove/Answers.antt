-- what is retained is what the closure's test keeps
use Rattle.std.proofs.Common.{rules, ap, ◌∙◌}
use Rattle.std.proofs.lemmas.Fn.{filter_same}
use Rattle.job_reports.specs.Paths.{without}
use Rattle.job_unsynced.proofs.dirty.Dirty.remove.Goals as goal

pub returns : goal.returns
returns c = filter_same _ _ _ (λ x b f' k. search rules) _ _ c.retain.ensures.filtered ∙ ap (without c.args.folder.now) c.self.view_is
