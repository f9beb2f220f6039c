-- What the look at the child's path shows is what a look at the child shows.
use Rattle.std.proofs.Common.{◌≡◌, ◌∙◌}
use Rattle.std.proofs.lemmas.Result.{IfOk-weaker}
use Rattle.tree_trait.specs.Change.{current}
use Rattle.panel_listing.specs.Items.{child_seen, seen_at}
use Rattle.panel_listing.proofs.ItemLemmas.{child_fits}
use Rattle.panel_listing.proofs.looking.child_seen.Goals as goal

pub returns-in-Ok-clause-answer : goal.returns-in-Ok-clause-answer
returns-in-Ok-clause-answer g c known told =
    let folder = c.args.folder.now in
    let name = c.args.name.now in
    IfOk-weaker c.seen_at.result (λ seen. seen ≡ seen_at (current known) c.in-Ok.path) (λ seen. seen ≡ child_seen (current known) folder name)
    (λ seen is. is ∙ child_fits (current known) folder name c.in-Ok.path c.in-Ok.ensures.joined c.in-Ok.ensures.fits)
    (c.seen_at.ensures.answer known told)
