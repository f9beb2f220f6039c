use Rattle.std.proofs.Common.{◌≡◌, sym, ◌∙◌, subst, List, Some, false}
use Rattle.std.specs.Prelude.{slice_get}
use Rattle.std.specs.List.{list_any}
use Rattle.tree_trait.specs.declared.file_system.NameEdit.{NameEdit}
use Rattle.tree_trait.specs.FileSystem.{is_of}
use Rattle.mem_tree.proofs.Leading.{nothing_out, remove_out}
use Rattle.mem_tree.proofs.names.take_out.Goals as goal

pub returns-in-None : goal.returns-in-None
returns-in-None c once =
    sym (nothing_out c.args.folder c.args.name.now c.args.names.now
    (subst (λ (es : List NameEdit). list_any (is_of c.args.folder c.args.name.now) es ≡ false) c.as_slice.ensures (c.place_of.ensures.none c.in-None.is)))

pub returns-in-Some : goal.returns-in-Some
returns-in-Some c once =
    let edit = c.in-Some.ensures.edit in
    c.remove.ensures.left
    ∙ remove_out c.args.folder c.args.name.now c.args.names.now c.in-Some.k edit.0 once
    (subst (λ (es : List NameEdit). slice_get es c.in-Some.k ≡ Some edit.0) c.as_slice.ensures edit.1) edit.2
