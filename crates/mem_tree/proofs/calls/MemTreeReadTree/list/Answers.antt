use Rattle.std.proofs.Common.{◌≡◌, ℕ, List, length, sym, ◌∙◌, ap, subst, refl}
use Rattle.mc_text.specs.Routes.{Route}
use Rattle.tree_trait.specs.declared.calls.Children.{Children}
use Rattle.tree_trait.specs.FileSystem.{node}
use Rattle.tree_trait.specs.Calls.{ListFolder}
use Rattle.tree_trait.specs.Change.{current, found_node}
use Rattle.tree_trait.specs.Answers.{Reads, IsMeta, IsListing, IsRead, IsInRange}
use Rattle.tree_rules.specs.Told.{IsTold}
use Rattle.mem_tree.specs.Records.{after}
use Rattle.mem_tree.specs.Held.{Held, log_of}
use Rattle.mem_tree.specs.Counted.{is_due}
use Rattle.mem_tree.proofs.Reading.{few_mounts, link_now, meta_now, meta_fits, listing_now, bytes_now, Reads-told, ok_failed, ok_told, told_no_fault, counted_read}
use Rattle.mem_tree.proofs.calls.MemTreeReadTree.list.Goals as goal

pub returns-clause-answer : goal.returns-clause-answer
returns-clause-answer c =
    let s = c.self.inside.opening in
    let t = c.self.inside.stands in
    let now = after s c.self.inside.records.items in
    subst (λ (h : Held). Reads h.log (ListFolder c.args.path.now) c.fail_if-answer.result (IsListing (current h.log) (found_node (current h.log) c.args.path.now))) c.self.view_is
    (Reads-told c.self.inside.opening c.self.inside.records.items c.self.inside.stands c.self.invariant Children (ListFolder c.args.path.now) c.count-due.result c.read_children-read.result c.fail_if-answer.result (IsListing t (found_node t c.args.path.now)) (IsListing now (found_node now c.args.path.now)) (listing_now c.self.inside.opening c.self.inside.records.items c.self.inside.stands c.self.invariant c.args.path.now)
    (subst (λ (p : Route). IsTold c.self.inside.stands (ListFolder p) c.read_children-read.result (IsListing c.self.inside.stands (found_node c.self.inside.stands p))) c.names.ensures.names c.read_children-read.ensures.answer) c.fail_if-answer.ensures)

pub returns-clause-counted : goal.returns-clause-counted
returns-clause-counted c =
    let t = c.self.inside.stands in
    counted_read Children _ _ _ c.count-due.result c.read_children-read.result c.fail_if-answer.result c.self.view_is c.fail_if-answer.ensures
    (told_no_fault Children t (ListFolder c.args.path.now) c.read_children-read.result (IsListing t (found_node t c.args.path.now)) (subst (λ (p : Route). IsTold c.self.inside.stands (ListFolder p) c.read_children-read.result (IsListing c.self.inside.stands (found_node c.self.inside.stands p))) c.names.ensures.names c.read_children-read.ensures.answer))
    (c.count-due.ensures.due ∙ ap (λ (fails : List ℕ). is_due fails c.self.inside.called) c.deref.ensures.value) c.count-due.ensures.called refl refl
