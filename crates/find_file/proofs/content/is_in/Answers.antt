-- A place is found just where the content stands.
use Rattle.std.proofs.Common.{◌∙◌}
use Rattle.find_file.proofs.Places.{holds-found}
use Rattle.find_file.proofs.content.is_in.Goals as goal

pub returns : goal.returns
returns c = c.is_some.ensures ∙ holds-found c.args.finder.now c.requires c.args.bytes.now c.find.result c.find.ensures
