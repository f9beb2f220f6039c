use Rattle.std.proofs.Common.{◌∙◌}
use Rattle.tagging.proofs.SetLemmas.{tag_set-clone}
use Rattle.tagging.proofs.tags.Tags.copy.Goals as goal

pub returns : goal.returns
returns c = tag_set-clone c.self.inside.names c.in_ok-clone.field-0 c.in_ok-clone.ensures.cases ∙ c.self.view_is
