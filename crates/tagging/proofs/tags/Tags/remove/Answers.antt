use Rattle.std.proofs.Common.{false, cond, ap, ◌∙◌}
use Rattle.std.specs.FinSet.{remove}
use Rattle.std.specs.Str.{bytes_eq}
use Rattle.std.specs.BTreeSet.{contains_text}
use Rattle.std.proofs.lemmas.Map.Text.{btree_set_updates_text}
use Rattle.tagging.proofs.SetLemmas.{after_remove}
use Rattle.tagging.proofs.tags.Tags.remove.Goals as goal

pub returns : goal.returns
returns c =
    after_remove c.self.inside.names c.remove.new.self c.args.name.now (λ q.
    btree_set_updates_text c.text.result.now c.self.inside.names c.remove.new.self false c.remove.ensures.updates q
    ∙ ap (λ bytes. cond (bytes_eq bytes q) false (contains_text c.self.inside.names q)) c.text.ensures.text)
    ∙ ap (λ tags. remove tags c.args.name.now) c.self.view_is
