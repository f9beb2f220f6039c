-- One item more, of the last name that was left.
use Rattle.std.proofs.Common.{◌∙◌}
use Rattle.tree_trait.specs.Change.{current}
use Rattle.panel_listing.specs.Items.{child_item}
use Rattle.panel_listing.proofs.ReadingLemmas.{popped-more, names-popped}
use Rattle.panel_listing.proofs.reading.items_of.Goals as goal

pub loop-name-preserved : goal.loop-name-preserved
loop-name-preserved g c =
    let all = c.loop-name.invariant in
    let one = c.in_ok-item.ensures in
    record {
      same = one.same ∙ all.same;
      counts = one.counts ∙ all.counts;
      items_are = λ log told.
          popped-more (child_item (current log) c.args.folder.now) c.loop-name.names.items c.pop.new.self.items c.in-Some.name c.loop-name.items.items
          c.push_item.new.items.items c.in_ok-item.item _ c.in-Some.ensures.items c.in_ok-push_item.ensures.pushed (one.answer log (all.same ∙ told))
          (all.items_are log told);
      names_are =
          names-popped c.loop-name.names.items c.pop.new.self.items c.in-Some.name c.loop-name.items.items c.push_item.new.items.items c.in_ok-item.item _
          c.in-Some.ensures.items c.in_ok-push_item.ensures.pushed one.named all.names_are;
    }
