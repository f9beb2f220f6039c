-- What the viewer's calls say of a step, as it is said of a motion.
use Rattle.std.proofs.Common.{◌≡◌, Result, Ok, Err, IfErr, IfOk, OnOk, ap, sym}
use Rattle.std.specs.Prelude.{⊤}
use Rattle.mc_viewer.specs.declared.error.ViewError.{ViewError}
use Rattle.mc_viewer.specs.declared.error.ViewError.TheVariants as error
use Rattle.mc_viewer.specs.declared.state.State.{State}
use Rattle.mc_viewer.specs.ViewerSteps.{Viewing}
use Rattle.mc_viewer.specs.Viewing.{IsReadError, IfRead}

abbrev pub moved_to : State → Viewing → Viewing
moved_to state v = record v { state = state }

abbrev pub led_there : Viewing → Result Viewing ViewError
led_there v = Ok v

-- a step leads where its call does
pub stepped : {A E : Type 0} (state : State) (before after : Viewing) (r : Result A E) → OnOk r (after ≡ moved_to state before)
    → OnOk r (led_there (moved_to state before) ≡ led_there after)
stepped state before after (Ok x) h = ap led_there (sym h)
stepped state before after (Err e) h = tt

-- one that was read comes of what was read
pub step_read : {B : Type 0} (P : Type 0) (r : Result B ViewError) → IfErr r IsReadError → IfOk r (λ _. P) → IfRead r (⊤ → P)
step_read P (Ok x) h k = λ any. k
step_read P (Err (error.Tree e)) h k = tt
step_read P (Err error.Memory) h k = tt
step_read P (Err error.NotFound) h k = absurd h
step_read P (Err error.BadPattern) h k = absurd h
step_read P (Err (error.LineTooLong line)) h k = absurd h
