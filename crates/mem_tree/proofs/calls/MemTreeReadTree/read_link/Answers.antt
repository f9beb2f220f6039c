use Rattle.std.proofs.Common.{◌≡◌, ℕ, List, length, sym, ◌∙◌, ap, subst, refl}
use Rattle.mc_text.specs.Routes.{Route}
use Rattle.mc_text.specs.declared.text.Text.{Text}
use Rattle.tree_trait.specs.FileSystem.{node}
use Rattle.tree_trait.specs.Calls.{ReadLink}
use Rattle.tree_trait.specs.Change.{current, found_node}
use Rattle.tree_trait.specs.Answers.{Reads, IsMeta, IsListing, IsRead, IsInRange}
use Rattle.tree_rules.specs.Told.{IsTold}
use Rattle.mem_tree.specs.Records.{after}
use Rattle.mem_tree.specs.Held.{Held, log_of}
use Rattle.mem_tree.specs.Counted.{is_due}
use Rattle.mem_tree.proofs.Reading.{few_mounts, link_now, meta_now, meta_fits, listing_now, bytes_now, Reads-told, ok_failed, ok_told, told_no_fault, counted_read}
use Rattle.mem_tree.proofs.calls.MemTreeReadTree.read_link.Goals as goal

pub read_link_text-read-requires : goal.read_link_text-read-requires
read_link_text-read-requires c = link_now c.self.inside.opening c.self.inside.records.items c.self.inside.stands c.self.invariant

pub returns-clause-answer : goal.returns-clause-answer
returns-clause-answer c =
    let s = c.self.inside.opening in
    let t = c.self.inside.stands in
    let now = after s c.self.inside.records.items in
    subst (λ (h : Held). Reads h.log (ReadLink c.args.path.now) c.fail_if-answer.result (λ (text : Text). text ≡ (node (current h.log) (found_node (current h.log) c.args.path.now)).bytes)) c.self.view_is
    (Reads-told c.self.inside.opening c.self.inside.records.items c.self.inside.stands c.self.invariant Text (ReadLink c.args.path.now) c.count-due.result c.read_link_text-read.result c.fail_if-answer.result (λ (text : Text). text ≡ (node t (found_node t c.args.path.now)).bytes) (λ (text : Text). text ≡ (node now (found_node now c.args.path.now)).bytes) (λ text h. h ∙ bytes_now c.self.inside.opening c.self.inside.records.items c.self.inside.stands c.self.invariant c.args.path.now)
    (subst (λ (p : Route). IsTold c.self.inside.stands (ReadLink p) c.read_link_text-read.result (λ (text : Text). text ≡ (node c.self.inside.stands (found_node c.self.inside.stands p)).bytes)) c.names.ensures.names c.read_link_text-read.ensures.answer) c.fail_if-answer.ensures)

pub returns-clause-counted : goal.returns-clause-counted
returns-clause-counted c =
    let t = c.self.inside.stands in
    counted_read Text _ _ _ c.count-due.result c.read_link_text-read.result c.fail_if-answer.result c.self.view_is c.fail_if-answer.ensures
    (told_no_fault Text t (ReadLink c.args.path.now) c.read_link_text-read.result (λ (text : Text). text ≡ (node t (found_node t c.args.path.now)).bytes) (subst (λ (p : Route). IsTold c.self.inside.stands (ReadLink p) c.read_link_text-read.result (λ (text : Text). text ≡ (node c.self.inside.stands (found_node c.self.inside.stands p)).bytes)) c.names.ensures.names c.read_link_text-read.ensures.answer))
    (c.count-due.ensures.due ∙ ap (λ (fails : List ℕ). is_due fails c.self.inside.called) c.deref.ensures.value) c.count-due.ensures.called refl refl
