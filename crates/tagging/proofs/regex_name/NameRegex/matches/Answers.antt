use Rattle.std.proofs.Common.{refl}
use Rattle.tagging.proofs.RegexLemmas.{regex_means}
use Rattle.tagging.proofs.regex_name.NameRegex.matches.Goals as goal

pub returns : goal.returns
returns c =
    c.finds.ensures.found c.args.self.now
    (rw (← c.self.view_is, c.in_ok-matcher.ensures.pattern) (regex_means c.self.inside.regex _ c.self.invariant.0 refl c.self.invariant.1))
