use Rattle.std.proofs.Common.{◌≡◌, false, List, subst, reverse}
use Rattle.std.specs.List.{list_any}
use Rattle.tree_trait.specs.declared.file_system.NameEdit.{NameEdit}
use Rattle.tree_trait.specs.FileSystem.{is_of}
use Rattle.mem_tree.proofs.Plans.{has_place}
use Rattle.mem_tree.proofs.plan.unlink_in.Goals as goal

pub returns-in-None : goal.returns-in-None
returns-in-None c =
    let s = c.args.fs.now in
    let here = subst (λ (es : List NameEdit). list_any (is_of c.found.result c.args.name.now) es ≡ false) c.as_slice.ensures (c.place_of.ensures.none c.in-None.is) in
    absurd (has_place s c.args.name.now (reverse c.args.front.now) _ c.requires (subst (λ g. list_any (is_of g c.args.name.now) s.names ≡ false) c.found.ensures here))
