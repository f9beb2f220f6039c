-- The look at the folder is the second one, and the first was no trouble.
use Rattle.std.proofs.Common.{◌∙◌, subst}
use Rattle.tree_trait.specs.Change.{current}
use Rattle.job_reports.specs.Reading.{StatStops}
use Rattle.save_file.proofs.Looked.{second_look}
use Rattle.save_file.proofs.looks.mode_to_take.Goals as goal

pub returns-in-Err-look-clause-known : goal.returns-in-Err-look-clause-known
returns-in-Err-look-clause-known g c = λ log known.
    let t = c.in-Err-look.trouble in
    second_look (current log) c.args.target.now c.in-Ok.found (c.in-Ok.ensures.known log known) t.cause t.path
    (subst (λ path. StatStops (current log) path t.cause t.path) c.requires (c.in-Err-look.ensures.known log (c.in-Ok.ensures.peeks.same ∙ known)))
