-- the first pair is found where some claims clash
use Rattle.std.proofs.Common.{◌∙◌, ap}
use Rattle.job_claims.specs.Claiming.{first_clash}
use Rattle.job_claims.proofs.ClashLemmas.{found_there}
use Rattle.job_claims.proofs.claiming.clash.Goals as goal

pub returns-clause-found : goal.returns-clause-found
returns-clause-found c =
    found_there c.args.mine.now c.args.theirs.now c.first_pair.result
    (c.first_pair.ensures
    ∙ (ap (λ l. first_clash l c.as_slice-2.result.now) c.as_slice.ensures ∙ ap (first_clash c.args.mine.now) c.as_slice-2.ensures))
