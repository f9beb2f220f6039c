-- The opening is a session of no entries.
use Rattle.std.proofs.Common.{sym, subst, ◌∙◌, arith, ap}
use Rattle.mc_desk.specs.Outputs.{FitsScreen}
use Rattle.mc_desk.specs.StartedDesks.{IsOpened}
use Rattle.screen_draw.specs.Drawings.{Display}
use Rattle.mc_desk.specs.KeysAndFaults.{faults_in}
use Rattle.mc_desk.proofs.Keeping.{kept_opening}
use Rattle.mc_desk.proofs.session.Session.new.Goals as goal

pub invariant_of-result : goal.invariant_of-result
invariant_of-result g c =
    let (start, begins, opened) = c.requires.opened in record {
      desk = kept_opening g.N.Tag.start g.N.Tag.opening _ g.N.Tag.tree_faults start c.args.ui c.args.log _ _ _ _ _ begins c.requires.opening
          (subst (λ o. IsOpened o start c.args.ui c.args.log) (sym c.requires.opening) opened) c.new-3.ensures c.new-4.ensures c.new.ensures.put
          (ap (λ (d : Display). d.has_drawn) c.new.ensures.display_is ∙ c.requires.fresh) (subst (λ (d : Display). FitsScreen d.grid c.args.ui) (sym c.new.ensures.display_is) c.requires.fits);
      counted = let none = ap (faults_in g.N.Tag.tree_faults) opened.empty in let had = c.requires.faults in omega (arith, none, had);
      spawner = record { ran = c.requires.runs; failed = c.requires.spawner };
    }
