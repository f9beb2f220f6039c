use Rattle.std.proofs.Common.{◌∙◌, sym}
use Rattle.hotlist.proofs.LineLemmas.{without_blanks-none}
use Rattle.hotlist.proofs.lines.without_blanks.Goals as goal

pub returns : goal.returns
returns c = sym (without_blanks-none c.loop-behind.rest.now c.in_default.ensures.found) ∙ c.loop-behind.invariant.same
