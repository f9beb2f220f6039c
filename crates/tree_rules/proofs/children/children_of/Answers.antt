use Rattle.std.proofs.Common.{◌∙◌, ap, List}
use Rattle.tree_trait.specs.declared.file_system.NameEdit.{NameEdit}
use Rattle.tree_trait.specs.declared.calls.Children.{Children}
use Rattle.tree_rules.specs.Listed.{gathered_names}
use Rattle.tree_rules.proofs.Listing.{listing, listing_ascends}
use Rattle.tree_rules.proofs.children.children_of.Goals as goal

pub returns-clause-listing : goal.returns-clause-listing
returns-clause-listing c =
    let children : Children = record { names = c.in_ok-gather.field-0.items; unnamed = c.unnamed_at.result } in
    listing c.args.fs.now c.args.i children (c.in_ok-gather.ensures ∙ ap (λ (es : List NameEdit). gathered_names c.args.fs.now c.args.i es) c.as_slice.ensures) c.unnamed_at.ensures

pub returns-clause-ascending : goal.returns-clause-ascending
returns-clause-ascending c =
    let children : Children = record { names = c.in_ok-gather.field-0.items; unnamed = c.unnamed_at.result } in
    listing_ascends c.args.fs.now c.args.i children (c.in_ok-gather.ensures ∙ ap (λ (es : List NameEdit). gathered_names c.args.fs.now c.args.i es) c.as_slice.ensures)
