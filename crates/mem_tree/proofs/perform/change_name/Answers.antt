use Rattle.std.proofs.Common.{◌≡◌, ◌∙◌, ap, subst, sym, ◌∷◌, List, drop, take, ◌++◌, Some}
use Rattle.std.specs.Prelude.{remove}
use Rattle.tree_trait.specs.declared.file_system.NameEdit.{NameEdit}
use Rattle.tree_trait.specs.Change.{edit}
use Rattle.mem_tree.specs.Live.{without_name, IsOnce}
use Rattle.mem_tree.proofs.Ends.{moved}
use Rattle.mem_tree.proofs.perform.change_name.Goals as goal

pub returns-clause-stands : goal.returns-clause-stands
returns-clause-stands c =
    moved c.args.stands.now c.args.at c.args.to c.args.name c.args.moved c.args.replaced c.replace_in_front-old.result c.take_behind.new.names c.requires.once c.replace_in_front-old.ensures.item
    (λ once.
    let left : List NameEdit = remove c.args.stands.now.names c.args.at in
    let is : c.replace_in_front-old.new.self ≡ edit c.args.to c.args.name (Some c.args.moved) ∷ left =
    c.replace_in_front-old.ensures.left ∙ ap (λ n. edit c.args.to n (Some c.args.moved) ∷ left) c.in_ok-copy.ensures in
    subst (λ (es : List NameEdit). IsOnce (drop 1 es) → c.take_behind.new.names ≡ take 1 es ++ without_name c.args.to c.args.name (drop 1 es)) is c.take_behind.ensures once)
