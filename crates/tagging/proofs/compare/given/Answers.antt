use Rattle.std.proofs.Common.{◌≡◌, ap, ◌∙◌, sym, take, if◌then◌else◌, map, filter, [], ◌∷◌, ◌++◌}
use Rattle.tagging.specs.Compared.{stamp_of, differs}
use Rattle.tagging.proofs.KeepLemmas.{map-filter-take_more}
use Rattle.tagging.proofs.compare.given.Goals as goal

pub loop-fact-preserved : goal.loop-fact-preserved
loop-fact-preserved c =
    let theirs = c.args.theirs.now in
    let more = map-filter-take_more (λ fact. fact.name) (λ fact. differs fact (stamp_of theirs fact.name)) c.args.mine.now c.loop-fact.fact-index c.fact-item.result c.loop-fact-test.true c.fact-item.is in
    let other : c.copied-other.result ≡ stamp_of theirs c.fact-item.result.name =
    c.copied-other.ensures ∙ c.get.ensures.value ∙ c.in_ok-stamps.ensures c.text.result.now ∙ ap (stamp_of theirs) c.text.ensures.text in
    let before = map (λ fact. fact.name) (filter (λ fact. differs fact (stamp_of theirs fact.name)) (take c.loop-fact.fact-index c.args.mine.now)) in
    c.in_ok-keep_if.ensures
    ∙ ap (λ names. names ++ (if c.differs.result then c.fact-item.result.name ∷ [] else [])) c.loop-fact.invariant
    ∙ ap (λ gives. before ++ (if gives then c.fact-item.result.name ∷ [] else [])) (c.differs.ensures ∙ ap (differs c.fact-item.result) other)
    ∙ sym more
