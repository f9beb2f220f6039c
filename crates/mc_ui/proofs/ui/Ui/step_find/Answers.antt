-- What is sought is put back as the step left it.
use Rattle.std.proofs.Common.{◌≡◌, true, sym, ◌∙◌, ap, subst}
use Rattle.std.specs.Prelude.{◌<◌, is_some, OnOk, OnErr}
use Rattle.ui_find.specs.FindScreens.{FindScreen, with_listing}
use Rattle.ui_find.specs.Listings.{IsKept, StepLeads, steps_to_end}
use Rattle.mc_ui.specs.Boxes.{FindBox}
use Rattle.mc_ui.specs.Screens.{Screen}
use Rattle.mc_ui.specs.Seekings.{list_in}
use Rattle.mc_ui.proofs.ui.Ui.step_find.Given as given
use Rattle.mc_ui.proofs.ui.Ui.step_find.Goals as goal

abbrev shown : FindScreen → Screen → Screen
shown find before = record before { over = FindBox find }

-- what stands over the panels
abbrev over_is : (g : given.Over) (c : goal.After-show_box g) → c.show_box.new.self.over ≡ FindBox c.step-stepped.new.self
over_is g c = ap (λ (s : Screen). s.over) c.show_box.ensures

pub returns-clause-leads : goal.returns-clause-leads
returns-clause-leads g c =
    subst (λ over. OnOk c.step-stepped.result (StepLeads c.args.find.listing.search (g.T.ReadTree.contents c.args.tree.now) (g.T.ReadTree.fault_count c.args.tree.now)
    (g.T.ReadTree.fault_count c.step-stepped.new.tree) c.args.find.listing (list_in over))) (sym (over_is g c)) c.step-stepped.ensures.leads

pub returns-clause-rest : goal.returns-clause-rest
returns-clause-rest g c =
    c.show_box.ensures
    ∙ ap (λ find. shown find c.args.self.now) (c.step-stepped.ensures.rest ∙ ap (λ over. with_listing (list_in over) c.args.find) (sym (over_is g c)))

pub returns-clause-lost : goal.returns-clause-lost
returns-clause-lost g c =
    subst (λ over. OnErr c.step-stepped.result (list_in over ≡ record c.args.find.listing { search = (list_in over).search })) (sym (over_is g c))
    c.step-stepped.ensures.lost

pub returns-clause-kept : goal.returns-clause-kept
returns-clause-kept g c =
    subst (λ over. IsKept (g.T.ReadTree.contents c.args.tree.now) (g.T.ReadTree.fault_count c.args.tree.now) (g.T.ReadTree.fault_count c.step-stepped.new.tree)
    c.args.find.listing (list_in over)) (sym (over_is g c)) c.step-stepped.ensures.kept

pub returns-clause-falls : goal.returns-clause-falls
returns-clause-falls g c =
    subst (λ over. OnOk c.step-stepped.result (is_some c.args.find.listing.search ≡ true → steps_to_end (list_in over) < steps_to_end c.args.find.listing))
    (sym (over_is g c)) c.step-stepped.ensures.falls

pub returns-clause-still : goal.returns-clause-still
returns-clause-still g c = λ quiet. (
  (c.step-stepped.ensures.still quiet).0,
  c.show_box.ensures ∙ ap (λ find. shown find c.args.self.now) (c.step-stepped.ensures.still quiet).1,
)
