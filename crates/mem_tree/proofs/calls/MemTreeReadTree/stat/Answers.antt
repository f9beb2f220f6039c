use Rattle.std.proofs.Common.{◌≡◌, ℕ, List, length, sym, ◌∙◌, ap, subst, refl}
use Rattle.mc_text.specs.Routes.{Route}
use Rattle.tree_trait.specs.declared.calls.Meta.{Meta}
use Rattle.tree_trait.specs.FileSystem.{node}
use Rattle.tree_trait.specs.Calls.{Stat}
use Rattle.tree_trait.specs.Change.{current, found_node}
use Rattle.tree_trait.specs.Answers.{Reads, IsMeta, IsListing, IsRead, IsInRange}
use Rattle.tree_rules.specs.Told.{IsTold}
use Rattle.mem_tree.specs.Records.{after}
use Rattle.mem_tree.specs.Held.{Held, log_of}
use Rattle.mem_tree.specs.Counted.{is_due}
use Rattle.mem_tree.proofs.Reading.{few_mounts, link_now, meta_now, meta_fits, listing_now, bytes_now, Reads-told, ok_failed, ok_told, told_no_fault, counted_read}
use Rattle.mem_tree.proofs.calls.MemTreeReadTree.stat.Goals as goal

pub read_meta-read-requires : goal.read_meta-read-requires
read_meta-read-requires c = few_mounts c.self.inside.opening c.self.inside.records.items c.self.inside.stands c.self.invariant

pub returns-clause-in_range : goal.returns-clause-in_range
returns-clause-in_range c =
    let t = c.self.inside.stands in
    ok_failed Meta c.count-due.result c.read_meta-read.result c.fail_if-answer.result IsInRange
    (ok_told Meta t (Stat c.args.path.now) c.read_meta-read.result (IsMeta t c.args.path.now) IsInRange (meta_fits c.self.inside.opening c.self.inside.records.items t c.self.invariant c.args.path.now)
    (subst (λ (p : Route). IsTold t (Stat p) c.read_meta-read.result (IsMeta t p)) c.names.ensures.names c.read_meta-read.ensures))
    c.fail_if-answer.ensures

pub returns-clause-answer : goal.returns-clause-answer
returns-clause-answer c =
    let s = c.self.inside.opening in
    let t = c.self.inside.stands in
    let now = after s c.self.inside.records.items in
    subst (λ (h : Held). Reads h.log (Stat c.args.path.now) c.fail_if-answer.result (IsMeta (current h.log) c.args.path.now)) c.self.view_is
    (Reads-told c.self.inside.opening c.self.inside.records.items c.self.inside.stands c.self.invariant Meta (Stat c.args.path.now) c.count-due.result c.read_meta-read.result c.fail_if-answer.result (IsMeta t c.args.path.now) (IsMeta now c.args.path.now) (meta_now c.self.inside.opening c.self.inside.records.items c.self.inside.stands c.self.invariant c.args.path.now)
    (subst (λ (p : Route). IsTold c.self.inside.stands (Stat p) c.read_meta-read.result (IsMeta c.self.inside.stands p)) c.names.ensures.names c.read_meta-read.ensures) c.fail_if-answer.ensures)

pub returns-clause-counted : goal.returns-clause-counted
returns-clause-counted c =
    let t = c.self.inside.stands in
    counted_read Meta _ _ _ c.count-due.result c.read_meta-read.result c.fail_if-answer.result c.self.view_is c.fail_if-answer.ensures
    (told_no_fault Meta t (Stat c.args.path.now) c.read_meta-read.result (IsMeta t c.args.path.now) (subst (λ (p : Route). IsTold c.self.inside.stands (Stat p) c.read_meta-read.result (IsMeta c.self.inside.stands p)) c.names.ensures.names c.read_meta-read.ensures))
    (c.count-due.ensures.due ∙ ap (λ (fails : List ℕ). is_due fails c.self.inside.called) c.deref.ensures.value) c.count-due.ensures.called refl refl
