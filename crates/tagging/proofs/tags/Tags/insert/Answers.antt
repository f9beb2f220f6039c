use Rattle.std.proofs.Common.{◌≡◌, true, cond, ap, ◌∙◌}
use Rattle.std.specs.FinSet.{insert}
use Rattle.std.specs.Str.{bytes_eq}
use Rattle.std.specs.String.{string_bytes}
use Rattle.std.specs.BTreeSet.{contains_text}
use Rattle.std.proofs.lemmas.Map.Text.{btree_set_updates_text}
use Rattle.tagging.proofs.SetLemmas.{after_insert}
use Rattle.tagging.proofs.tags.Tags.insert.Goals as goal

pub returns-clause-done : goal.returns-clause-done
returns-clause-done c =
    let key : string_bytes c.in_ok-from_str.field-0 ≡ c.args.name.now = c.in_ok-from_str.ensures.ok ∙ c.text.ensures.text in
    after_insert c.self.inside.names c.insert.new.self c.args.name.now (λ q.
    btree_set_updates_text (string_bytes c.in_ok-from_str.field-0) c.self.inside.names c.insert.new.self true c.in_ok-insert.ensures.updates q
    ∙ ap (λ bytes. cond (bytes_eq bytes q) true (contains_text c.self.inside.names q)) key)
    ∙ ap (λ tags. insert tags c.args.name.now) c.self.view_is
