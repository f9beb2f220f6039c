-- Where nothing was tagged, the other answer is to tag.
use Rattle.std.proofs.Common.{ap, ◌∙◌}
use Rattle.tagging.specs.TagSets.{TagSet, names_in, inverted_tags}
use Rattle.panel_state.proofs.TagLemmas.{inverted-empty}
use Rattle.panel_state.proofs.kept.tags_of.Goals as goal

pub returns : goal.returns
returns c =
    c.in_ok-invert.ensures.done
    ∙ ap (λ (tags : TagSet). inverted_tags tags (names_in c.args.names.now)) c.new-tags.ensures
    ∙ inverted-empty (names_in c.args.names.now)
