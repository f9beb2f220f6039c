-- The step is that of what stood in the box.
use Rattle.std.proofs.Common.{◌≡◌, true, false, refl, sym, ◌∙◌, ap, subst}
use Rattle.std.specs.Prelude.{◌<◌, is_some, OnOk, OnErr}
use Rattle.ui_find.specs.FindScreens.{with_listing}
use Rattle.std.proofs.lemmas.Bool.{false≢true}
use Rattle.tree_trait.specs.Change.{current}
use Rattle.ui_find.specs.Listings.{IsKept, ListingState, StepLeads, comes_to, steps_to_end}
use Rattle.mc_ui.specs.Boxes.{Box, FindBox, seen_box}
use Rattle.mc_ui.specs.Screens.{Screen}
use Rattle.mc_ui.specs.Seekings.{SeekLeads, list_in, listing_in}
use Rattle.mc_ui.proofs.SeekLemmas.{none_listed, stays_shut}
use Rattle.mc_ui.proofs.ui.Ui.seek.Given as given
use Rattle.mc_ui.proofs.ui.Ui.seek.Goals as goal

abbrev over_by : Box → Screen → Screen
over_by over before = record before { over = over }

abbrev searched_by : ListingState → Box → ListingState
searched_by after over = record (list_in over) { search = after.search }

-- what stood in the box
abbrev box_is : (g : given.Over) (c : goal.After-step_find g) → c.args.self.now.over ≡ FindBox c.in-Find.find
box_is g c = sym c.take_box.ensures.taken ∙ ap seen_box c.in-Find.is

pub returns-in-Find-clause-leads : goal.returns-in-Find-clause-leads
returns-in-Find-clause-leads g c =
    subst (λ over. OnOk c.step_find.result (SeekLeads (g.T.ReadTree.contents c.args.tree.now) (g.T.ReadTree.fault_count c.args.tree.now)
    (g.T.ReadTree.fault_count c.step_find.new.tree) over c.step_find.new.self.over)) (sym (box_is g c)) c.step_find.ensures.leads

pub returns-in-Find-clause-rest : goal.returns-in-Find-clause-rest
returns-in-Find-clause-rest g c =
    let listing = list_in c.step_find.new.self.over in
    c.step_find.ensures.rest
    ∙ (ap (λ before. over_by (FindBox (with_listing listing c.in-Find.find)) before) c.take_box.ensures.rest
    ∙ ap (λ over. over_by (listing_in listing over) c.args.self.now) (sym (box_is g c)))

pub returns-in-Find-clause-lost : goal.returns-in-Find-clause-lost
returns-in-Find-clause-lost g c =
    let listing = list_in c.step_find.new.self.over in
    subst (λ over. OnErr c.step_find.result (listing ≡ searched_by listing over)) (sym (box_is g c)) c.step_find.ensures.lost

pub returns-in-Find-clause-kept : goal.returns-in-Find-clause-kept
returns-in-Find-clause-kept g c =
    subst (λ over. IsKept (g.T.ReadTree.contents c.args.tree.now) (g.T.ReadTree.fault_count c.args.tree.now)
    (g.T.ReadTree.fault_count c.step_find.new.tree) (list_in over) (list_in c.step_find.new.self.over)) (sym (box_is g c)) c.step_find.ensures.kept

pub returns-in-Find-clause-falls : goal.returns-in-Find-clause-falls
returns-in-Find-clause-falls g c =
    subst (λ over. OnOk c.step_find.result (is_some (list_in over).search ≡ true
    → steps_to_end (list_in c.step_find.new.self.over) < steps_to_end (list_in over))) (sym (box_is g c)) c.step_find.ensures.falls

pub returns-in-Find-clause-still : goal.returns-in-Find-clause-still
returns-in-Find-clause-still g c = λ quiet.
    let kept = c.step_find.ensures.still (subst (λ over. is_some (list_in over).search ≡ false) (box_is g c) quiet) in
    (kept.0, kept.1 ∙ (ap (λ before. over_by (FindBox c.in-Find.find) before) c.take_box.ensures.rest ∙ ap (λ over. over_by over c.args.self.now) (sym (box_is g c))))

pub returns-in-Find-clause-size : goal.returns-in-Find-clause-size
returns-in-Find-clause-size g c = record {
  same_lines = ap (λ (s : Screen). s.lines) c.step_find.ensures.rest ∙ ap (λ (s : Screen). s.lines) c.take_box.ensures.rest;
  same_columns = ap (λ (s : Screen). s.columns) c.step_find.ensures.rest ∙ ap (λ (s : Screen). s.columns) c.take_box.ensures.rest;
}

-- another box is put back as it stood, and in it nothing is sought
other_is : (g : given.Over) (c : goal.After-show_box g) → c.args.self.now.over ≡ seen_box c.take_box.result
other_is g c = sym c.take_box.ensures.taken

shown_is : (g : given.Over) (c : goal.After-show_box g) → c.show_box.new.self ≡ over_by (seen_box c.take_box.result) c.args.self.now
shown_is g c = c.show_box.ensures ∙ ap (λ before. over_by (seen_box c.take_box.result) before) c.take_box.ensures.rest

put_back : (g : given.Over) (c : goal.After-show_box g) → c.show_box.new.self ≡ c.args.self.now
put_back g c = shown_is g c ∙ ap (λ over. over_by over c.args.self.now) (sym (other_is g c))

pub returns-in_default-clause-leads : goal.returns-in_default-clause-leads
returns-in_default-clause-leads g c =
    subst (λ over. SeekLeads (g.T.ReadTree.contents c.args.tree.now) (g.T.ReadTree.fault_count c.args.tree.now) (g.T.ReadTree.fault_count c.args.tree.now)
    c.args.self.now.over over) (ap (λ (s : Screen). s.over) (sym (put_back g c)))
    (subst (λ (l : ListingState). StepLeads l.search (g.T.ReadTree.contents c.args.tree.now) (g.T.ReadTree.fault_count c.args.tree.now) (g.T.ReadTree.fault_count c.args.tree.now) l l)
    (sym (ap list_in (other_is g c) ∙ none_listed c.take_box.result c.in_default.not-Find)) refl)

pub returns-in_default-clause-rest : goal.returns-in_default-clause-rest
returns-in_default-clause-rest g c =
    let listing = list_in c.show_box.new.self.over in
    shown_is g c
    ∙ ap (λ over. over_by over c.args.self.now)
    (sym (stays_shut c.take_box.result listing c.in_default.not-Find) ∙ ap (listing_in listing) (sym (other_is g c)))

pub returns-in_default-clause-kept : goal.returns-in_default-clause-kept
returns-in_default-clause-kept g c = λ log known risen. ap (λ (s : Screen). comes_to (current log) (list_in s.over)) (put_back g c)

pub returns-in_default-clause-falls : goal.returns-in_default-clause-falls
returns-in_default-clause-falls g c = λ going.
    absurd (false≢true (subst (λ (l : ListingState). is_some l.search ≡ true) (ap list_in (other_is g c) ∙ none_listed c.take_box.result c.in_default.not-Find) going))

pub returns-in_default-clause-still : goal.returns-in_default-clause-still
returns-in_default-clause-still g c = λ quiet. (refl, put_back g c)

pub returns-in_default-clause-size : goal.returns-in_default-clause-size
returns-in_default-clause-size g c =
    record { same_lines = ap (λ (s : Screen). s.lines) (put_back g c); same_columns = ap (λ (s : Screen). s.columns) (put_back g c) }
