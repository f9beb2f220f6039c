-- The box is the one that the dialog is seen as.
use Rattle.std.proofs.Common.{◌≡◌, sym, subst}
use Rattle.mc_ui.specs.Frames.{with_over}
use Rattle.mc_ui.specs.Boxes.{seen_box}
use Rattle.mc_ui.proofs.frame.paint_box_of.Goals as goal

pub returns-in_ok-paint-in-Job : goal.returns-in_ok-paint-in-Job
returns-in_ok-paint-in-Job c =
    subst (λ d. c.paint.new.grid ≡ with_over (seen_box d) c.args.rows.now c.args.grid.now) (sym c.in-Job.is) c.in_ok-paint-in-Job.ensures

pub returns-in_ok-paint-in-Panel : goal.returns-in_ok-paint-in-Panel
returns-in_ok-paint-in-Panel c =
    subst (λ d. c.paint-in-Panel.new.grid ≡ with_over (seen_box d) c.args.rows.now c.args.grid.now) (sym c.in-Panel.is) c.in_ok-paint-in-Panel.ensures

pub returns-in_ok-paint-in-Find : goal.returns-in_ok-paint-in-Find
returns-in_ok-paint-in-Find c =
    subst (λ d. c.paint-in-Find.new.grid ≡ with_over (seen_box d) c.args.rows.now c.args.grid.now) (sym c.in-Find.is) c.in_ok-paint-in-Find.ensures

pub returns-in_ok-paint-in-Jobs : goal.returns-in_ok-paint-in-Jobs
returns-in_ok-paint-in-Jobs c =
    subst (λ d. c.paint-in-Jobs.new.grid ≡ with_over (seen_box d) c.args.rows.now c.args.grid.now) (sym c.in-Jobs.is) c.in_ok-paint-in-Jobs.ensures
