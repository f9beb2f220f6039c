-- The box of a job is what stood over the panels.
use Rattle.std.proofs.Common.{sym, ◌∙◌, ap}
use Rattle.ui_job_boxes.specs.JobBoxes.{seen_job_box}
use Rattle.mc_ui.specs.Boxes.{OneJobBox, seen_box}
use Rattle.mc_ui.proofs.OverPanels.{box_leads}
use Rattle.mc_ui.proofs.ui.Ui.key_below.Goals as goal

pub returns-in-Job-clause-leads : goal.returns-in-Job-clause-leads
returns-in-Job-clause-leads g c =
    box_leads (g.T.ReadTree.contents c.args.tree.now) c.args.rows.now c.args.key (OneJobBox (seen_job_box c.in-Job.asks)) c.args.self.now
    c.take_box.new.self c.key_in_job_box.new.self c.key_in_job_box.result (sym c.has_message.ensures ∙ c.if-has_message.false)
    (sym (ap seen_box c.in-Job.is) ∙ c.take_box.ensures.taken) c.take_box.ensures.rest c.key_in_job_box.ensures.leads
