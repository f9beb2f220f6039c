-- a key that leaves the line open leads to the next of its states
use Rattle.std.proofs.Common.{arith, ◌∙◌, sym}
use Rattle.std.proofs.lemmas.Grind.{common_steps}
use Rattle.mc_dialogs.proofs.StatesLeft.{states_next}
use Rattle.mc_dialogs.proofs.input_line.InputLine.answer.Goals as goal

pub loop-key-preserved : goal.loop-key-preserved
loop-key-preserved c = (
  grind (arith, common_steps),
  grind (arith, common_steps),
  states_next c.loop-key.self c.key.new.self c.args.keys.now _ c.loop-key.key-index _ (omega arith) (sym c.in_ok-key.ensures.shut ∙ c.in-Stay.is)
      c.in_ok-key.ensures.state c.loop-key.invariant.2,
)
