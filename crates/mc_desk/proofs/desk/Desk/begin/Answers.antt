-- At the opening nothing was taken.
use Rattle.std.proofs.Common.{subst}
use Rattle.mc_desk.specs.StartedDesks.{IsOpened}
use Rattle.mc_desk.proofs.Streams.{fed_first}
use Rattle.mc_desk.proofs.desk.Desk.begin.Goals as goal

pub new-session-requires-clause-opened : goal.new-session-requires-clause-opened
new-session-requires-clause-opened g c =
    (c.args.start, c.requires.start, subst (λ o. IsOpened o c.args.start c.in-Ok.ui c.in-Ok.log) c.requires.opening c.in-Ok.ensures.opened)

pub invariant_of-result : goal.invariant_of-result
invariant_of-result g c = record {
  fed = fed_first _ c.new-session.result c.new-session.ensures.opened c.new-session.ensures.none_taken.0 c.new-session.ensures.none_taken.1;
  uncut = λ unclosed. c.new-session.ensures.uncut;
}
