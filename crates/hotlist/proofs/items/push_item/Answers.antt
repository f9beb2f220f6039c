use Rattle.std.proofs.Common.{ap, ◌∙◌}
use Rattle.hotlist.specs.HotLists.{list_of}
use Rattle.hotlist.specs.HotFiles.{lines_that_say}
use Rattle.hotlist.proofs.ListLemmas.{lines-push}
use Rattle.hotlist.proofs.items.push_item.Goals as goal

pub returns : goal.returns
returns c = ap (λ items. lines_that_say (list_of items)) c.in_ok-push.ensures.items ∙ lines-push c.args.items.now.items c.args.item
