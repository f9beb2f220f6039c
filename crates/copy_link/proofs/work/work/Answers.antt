-- Each stage is a function of its own.
use Rattle.copy_link.specs.declared.stage.Stage.TheVariants.{Make, Place, Clean, Decided}
use Rattle.copy_link.proofs.Stepping.{moves_at}
use Rattle.copy_link.proofs.work.work.Goals as goal

pub returns-in-Make : goal.returns-in-Make
returns-in-Make g c = moves_at c.args.places.now c.args.stage Make c.args.folder c.make.result _ _ _ _ c.in-Make.is c.make.ensures

pub returns-in-Place : goal.returns-in-Place
returns-in-Place g c = moves_at c.args.places.now c.args.stage Place c.args.folder c.place.result _ _ _ _ c.in-Place.is c.place.ensures

pub returns-in-Clean : goal.returns-in-Clean
returns-in-Clean g c = moves_at c.args.places.now c.args.stage (Clean c.in-Clean.next) c.args.folder c.clean.result _ _ _ _ c.in-Clean.is c.clean.ensures

pub returns-in-Decided : goal.returns-in-Decided
returns-in-Decided g c = moves_at c.args.places.now c.args.stage Decided c.args.folder c.sync.result _ _ _ _ c.in-Decided.is c.sync.ensures
