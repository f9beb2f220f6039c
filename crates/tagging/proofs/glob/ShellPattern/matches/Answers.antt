use Rattle.std.proofs.Common.{◌∙◌, sym}
use Rattle.tagging.proofs.CutLemmas.{MatchesGlob-from_is_match, is_match-from_MatchesGlob}
use Rattle.tagging.proofs.glob.ShellPattern.matches.Goals as goal

pub returns-clause-cut : goal.returns-clause-cut
returns-clause-cut c =
    let test = rw (c.as_slice.ensures.value, c.self.view_is) at c.matches_parts.ensures in
    (λ h. MatchesGlob-from_is_match _ _ (sym test ∙ h), λ h. test ∙ is_match-from_MatchesGlob _ _ h)
