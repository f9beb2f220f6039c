use Rattle.laws_outcomes.proofs.Outcome.{outcome_law}
use Rattle.laws_outcomes.proofs.Together.{all_sources_law}
use Rattle.laws_outcomes.proofs.what_a_finished_job_has_done.Goals as goal

pub returns-clause-done : goal.returns-clause-done
returns-clause-done c = outcome_law

pub returns-clause-with_all : goal.returns-clause-with_all
returns-clause-with_all c = all_sources_law
