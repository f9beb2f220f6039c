use Rattle.std.proofs.Common.{◌∙◌, sym, rules}
use Rattle.tagging.proofs.WalkLemmas.{star_here, star_takes, star_at_end}
use Rattle.tagging.proofs.walk.matches_behind_star.Goals as goal

pub returns-in-Whole : goal.returns-in-Whole
returns-in-Whole c = sym (star_here _ _ c.in-Whole.ensures.fits) ∙ c.loop-behind.invariant.same

pub returns-in_default : goal.returns-in_default
returns-in_default c =
    sym (star_at_end c.loop-behind.parts.now (rw c.in_default.ensures.first at c.in-Differs.ensures.fits))
    ∙ (rw c.in_default.ensures.first at c.loop-behind.invariant.same)

pub loop-behind-preserved : goal.loop-behind-preserved
loop-behind-preserved c = record {
  text = search rules;
  same = star_takes c.loop-behind.parts.now c.in-Some.field-0-0 _ (rw c.in-Some.ensures.first at c.in-Differs.ensures.fits)
      ∙ (rw c.in-Some.ensures.first at c.loop-behind.invariant.same);
}
