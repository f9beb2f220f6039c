-- The names so far go before those of the sources that are left.
use Rattle.std.proofs.Common.{◌≡◌, drop}
use Rattle.op_plan.specs.Naming.{all_of, target_name}
use Rattle.op_plan.proofs.NamingLemmas.{joined}
use Rattle.op_plan.proofs.naming.target_names.Given as goal

abbrev pub invariant-loop-source : goal.invariant-loop-source
invariant-loop-source l =
    joined l.names.items (all_of (target_name l.pattern l.mask) (drop l.source-index l.sources)) ≡ all_of (target_name l.pattern l.mask) l.sources
