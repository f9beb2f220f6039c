use Rattle.std.proofs.Common.{ap, ◌∙◌, sym}
use Rattle.std.specs.FinSet.{contains}
use Rattle.tagging.proofs.SetLemmas.{contains-tag_set}
use Rattle.tagging.proofs.tags.Tags.has.Goals as goal

pub returns : goal.returns
returns c =
    c.contains.ensures ∙ sym (contains-tag_set c.self.inside.names c.args.name.now) ∙ ap (λ tags. contains tags c.args.name.now) c.self.view_is
