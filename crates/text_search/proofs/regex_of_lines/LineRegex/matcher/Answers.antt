-- The matcher searches for what the text means.
use Rattle.std.proofs.Common.{refl}
use Rattle.text_search.proofs.MeaningLemmas.{regex_means}
use Rattle.text_search.proofs.regex_of_lines.LineRegex.matcher.Goals as goal

pub new-requires : goal.new-requires
new-requires c =
    rw (c.as_str.ensures, c.in_ok-matcher.ensures.pattern) (regex_means c.self.inside.regex _ c.self.invariant.0 refl c.self.invariant.1)
