use Rattle.std.proofs.Common.{◌≡◌, ap, ◌∙◌, sym, take, Some, cond}
use Rattle.std.specs.Str.{bytes_eq}
use Rattle.std.specs.String.{string_bytes}
use Rattle.std.specs.BTreeMap.{get_by_text}
use Rattle.std.proofs.lemmas.Map.Text.{btree_map_updates_text}
use Rattle.tagging.specs.Compared.{stamp_in, stamp_of}
use Rattle.tagging.proofs.CompareLemmas.{stamp_of-push}
use Rattle.tagging.proofs.KeepLemmas.{take_one_more}
use Rattle.tagging.proofs.compare.stamps_of.Goals as goal

pub loop-fact-preserved : goal.loop-fact-preserved
loop-fact-preserved c = λ name.
    let changed = btree_map_updates_text (string_bytes c.in_ok-from_str.field-0) c.loop-fact.stamps c.insert.new.self _ c.in_ok-insert.ensures.updates name in
    let key : string_bytes c.in_ok-from_str.field-0 ≡ c.fact-item.result.name = c.in_ok-from_str.ensures.ok ∙ c.text.ensures.text in
    let more = take_one_more c.args.facts.now c.loop-fact.fact-index c.fact-item.result c.loop-fact-test.true c.fact-item.is in
    let name_is = bytes_eq c.fact-item.result.name name in
    changed
    ∙ ap (λ bytes. cond (bytes_eq bytes name) (Some c.stamp.result) (get_by_text c.loop-fact.stamps name)) key
    ∙ ap (λ stamp. cond name_is (Some stamp) (get_by_text c.loop-fact.stamps name)) c.stamp.ensures
    ∙ ap (λ before. cond name_is (Some (stamp_in c.fact-item.result)) before) (c.loop-fact.invariant name)
    ∙ sym (ap (λ facts. stamp_of facts name) more ∙ stamp_of-push (take c.loop-fact.fact-index c.args.facts.now) c.fact-item.result name)
