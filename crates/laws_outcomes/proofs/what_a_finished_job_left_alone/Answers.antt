use Rattle.laws_outcomes.proofs.UntouchedSteps.{kept_law, untouched_law}
use Rattle.laws_outcomes.proofs.what_a_finished_job_left_alone.Goals as goal

pub returns-clause-untouched : goal.returns-clause-untouched
returns-clause-untouched c = untouched_law

pub returns-clause-kept : goal.returns-clause-kept
returns-clause-kept c = kept_law
