-- Past the end there is nothing more, wherever the search begins.
use Rattle.mc_viewer.proofs.SeekLemmas.{next-past}
use Rattle.mc_viewer.proofs.seeking.behind.Goals as goal

pub returns-then-place-size-clause-shown : goal.returns-then-place-size-clause-shown
returns-then-place-size-clause-shown g c = λ bytes known size_is.
    next-past c.args.what.now bytes c.args.size c.args.place size_is c.if-place-size.true
