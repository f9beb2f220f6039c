-- The machine begins in its place.
use Rattle.copy_tree.specs.Standing.{seen_copy}
use Rattle.copy_job.proofs.Begun.{begun_going, begun_held, begun_so}
use Rattle.copy_job.proofs.copy.SubtreeCopy.begin.Goals as goal

pub invariant_of-result : goal.invariant_of-result
invariant_of-result c =
    begun_held c.args.job c.args.top c.in_ok-source.source c.in_ok-target.target c.in_ok-folder.folder (seen_copy c.in_ok-new.field-0) c.requires.source c.requires.target c.in_ok-source.ensures c.in_ok-target.ensures c.in_ok-folder.ensures
    c.in_ok-new.ensures

pub returns-clause-begun : goal.returns-clause-begun
returns-clause-begun c =
    begun_so c.args.job c.args.top c.in_ok-source.source c.in_ok-target.target (seen_copy c.in_ok-new.field-0) c.in_ok-source.ensures c.in_ok-target.ensures c.in_ok-new.ensures

pub returns-clause-going : goal.returns-clause-going
returns-clause-going c = begun_going c.args.job c.in_ok-source.source c.in_ok-target.target (seen_copy c.in_ok-new.field-0) c.in_ok-new.ensures
