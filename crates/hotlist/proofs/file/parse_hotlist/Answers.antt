use Rattle.hotlist.specs.ListViews.{list_in}
use Rattle.hotlist.proofs.GrammarLemmas.{read_alone}
use Rattle.hotlist.proofs.file.parse_hotlist.Goals as goal

pub returns-clause-only : goal.returns-clause-only
returns-clause-only c = λ list is.
    read_alone list_in c.args.bytes.now list c.parse_bytes.result c.parse_bytes.ensures.read c.parse_bytes.ensures.refused is
