-- What the type names is what there is: by computing. (The search finds it too, after minutes.)
use Rattle.std.proofs.Common.{refl}
use Rattle.gate_sessions.proofs.running.run_told.Goals as goal

pub mc_run-requires-clause-start : goal.mc_run-requires-clause-start
mc_run-requires-clause-start c = refl

pub mc_run-requires-clause-opening : goal.mc_run-requires-clause-opening
mc_run-requires-clause-opening c = refl

pub mc_run-requires-clause-stream : goal.mc_run-requires-clause-stream
mc_run-requires-clause-stream c = refl

pub mc_run-requires-clause-given : goal.mc_run-requires-clause-given
mc_run-requires-clause-given c = refl

pub mc_run-requires-clause-runs : goal.mc_run-requires-clause-runs
mc_run-requires-clause-runs c = refl

pub mc_run-requires-clause-faults : goal.mc_run-requires-clause-faults
mc_run-requires-clause-faults c = refl

pub mc_run-requires-clause-source : goal.mc_run-requires-clause-source
mc_run-requires-clause-source c = refl

pub mc_run-requires-clause-sink : goal.mc_run-requires-clause-sink
mc_run-requires-clause-sink c = refl

pub mc_run-requires-clause-spawner : goal.mc_run-requires-clause-spawner
mc_run-requires-clause-spawner c = refl
