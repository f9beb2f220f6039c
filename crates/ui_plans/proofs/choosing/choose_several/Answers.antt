-- Things in a folder may be chosen.
use Rattle.std.proofs.Common.{subst}
use Rattle.ui_plans.specs.Choices.{ArePathsIn}
use Rattle.ui_plans.proofs.Within.{several_within}
use Rattle.ui_plans.proofs.choosing.choose_several.Goals as goal

pub invariant_of-result : goal.invariant_of-result
invariant_of-result g c =
    let at = subst (ArePathsIn c.folder.result.now c.args.names.now) c.in-Some.is c.in_ok-paths.ensures in
    record { within = several_within c.folder.result.now c.args.names.now c.in-Some.paths at.1 c.requires.several }

pub invariant_of-with_first_mode : goal.invariant_of-with_first_mode
invariant_of-with_first_mode g c =
    let at = subst (ArePathsIn c.folder.result.now c.args.names.now) c.in-Some.is c.in_ok-paths.ensures in
    record { within = several_within c.folder.result.now c.args.names.now c.in-Some.paths at.1 c.requires.several }
