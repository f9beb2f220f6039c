-- What the viewer's calls say of a step and of the next search is said of the motion.
use Rattle.std.proofs.Common.{◌≡◌, ℕ, List, Some, Ok, OnOk, sym, subst}
use Rattle.tree_trait.specs.Change.{CallLog}
use Rattle.mc_viewer.specs.ViewerSteps.{after_step}
use Rattle.mc_viewer.specs.Viewing.{held_bytes, IfRead, IsReadable}
use Rattle.ui_viewer.specs.declared.motion.Motion.{Motion}
use Rattle.ui_viewer.specs.Motions.{Reads, led_viewing}
use Rattle.ui_viewer.proofs.MotionLemmas.{step_read, stepped}
use Rattle.ui_viewer.proofs.motion.page_after.Goals as goal

pub returns-in-Step-clause-led : goal.returns-in-Step-clause-led
returns-in-Step-clause-led g c =
    let contents = g.T.ReadTree.contents c.args.tree.now in
    let v = c.args.viewer.now in
    let after = c.step_to_page.new.self in
    let r = c.step_to_page.result in
    subst (λ (m : Motion). (bytes : List ℕ) → held_bytes contents v.subject ≡ Some bytes → OnOk r (led_viewing m bytes v ≡ Ok after)) (sym c.in-Step.is)
    (λ bytes known. stepped (after_step bytes c.in-Step.step v.state) v after r (c.step_to_page.ensures.done bytes known))

pub returns-in-Step-clause-readable : goal.returns-in-Step-clause-readable
returns-in-Step-clause-readable g c =
    let contents = g.T.ReadTree.contents c.args.tree.now in
    let v = c.args.viewer.now in
    let r = c.step_to_page.result in
    subst (λ (m : Motion). (log : CallLog) → contents ≡ Some log → IfRead r (Reads m v → IsReadable log v.subject)) (sym c.in-Step.is)
    (λ log known. step_read (IsReadable log v.subject) r c.step_to_page.ensures.kinds (c.step_to_page.ensures.readable log known))

pub returns-in-SearchNext-clause-readable : goal.returns-in-SearchNext-clause-readable
returns-in-SearchNext-clause-readable g c =
    let contents = g.T.ReadTree.contents c.args.tree.now in
    let v = c.args.viewer.now in
    subst (λ (m : Motion). (log : CallLog) → contents ≡ Some log → IfRead c.next_to_page.result (Reads m v → IsReadable log v.subject))
    (sym c.in-SearchNext.is) c.next_to_page.ensures.readable
