use Rattle.std.proofs.Common.{◌≡◌, sym, ◌∙◌, ap, subst, List, None, reverse}
use Rattle.tree_trait.specs.declared.file_system.NameEdit.{NameEdit}
use Rattle.tree_trait.specs.FileSystem.{lookup}
use Rattle.mem_tree.proofs.Puts.{may_put, none_of}
use Rattle.mem_tree.proofs.make.refuse_in.Goals as goal

pub returns : goal.returns
returns c =
    let s = c.args.opening.now in
    let free = subst (λ (es : List NameEdit). lookup es c.args.folder c.args.name.now ≡ None) c.as_slice.ensures (sym c.lookup.ensures ∙ none_of c.lookup.result (sym c.is_some.ensures ∙ c.if-is_some.false)) in
    sym (may_put s c.args.name.now (reverse c.args.front.now) c.args.folder c.requires (sym c.folder_at.ensures ∙ c.if-not-folder_at.false) free)
