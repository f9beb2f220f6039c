use Rattle.std.proofs.Common.{◌≡◌, ◌∙◌, ℕ, List, Bool, true, cond, ap, sym}
use Rattle.std.specs.Str.{bytes_eq}
use Rattle.std.specs.String.{string_bytes}
use Rattle.std.specs.BTreeSet.{contains_text}
use Rattle.std.proofs.lemmas.Map.Text.{btree_set_updates_text}
use Rattle.op_plan.proofs.CheckLemmas.{any-pushed}
use Rattle.op_plan.proofs.apart.texts_in.Goals as goal

pub loop-name-preserved : goal.loop-name-preserved
loop-name-preserved c = λ name.
    let key : string_bytes c.in_ok-from_str.field-0 ≡ c.name-item.result = c.in_ok-from_str.ensures.ok ∙ c.text.ensures.text in
    btree_set_updates_text (string_bytes c.in_ok-from_str.field-0) c.loop-name.texts c.insert.new.self _ c.in_ok-insert.ensures.updates name
    ∙ (ap (λ (bytes : List ℕ). cond (bytes_eq bytes name) true (contains_text c.loop-name.texts name)) key
    ∙ (ap (λ (held : Bool). cond (bytes_eq c.name-item.result name) true held) (c.loop-name.invariant name)
    ∙ sym (any-pushed c.args.names.now c.loop-name.name-index c.name-item.result name c.loop-name-test.true c.name-item.is)))
