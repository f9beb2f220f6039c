use Rattle.std.proofs.Common.{ap, ◌∙◌}
use Rattle.hotlist.specs.HotLists.{list_of}
use Rattle.hotlist.proofs.EditLemmas.{list_of-push}
use Rattle.hotlist.proofs.edit.push_last.Goals as goal

pub returns-in-Ok-clause-added : goal.returns-in-Ok-clause-added
returns-in-Ok-clause-added c = ap list_of c.in-Ok.ensures.items ∙ list_of-push c.args.items.now.items c.args.item
