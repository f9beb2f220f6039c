use Rattle.std.proofs.Common.{◌≡◌, List, ℕ, sym, ◌∙◌, ap, subst, reverse}
use Rattle.std.specs.Str.{IsUtf8}
use Rattle.tree_trait.specs.FileSystem.{node}
use Rattle.tree_trait.specs.Change.{found_node}
use Rattle.tree_trait.specs.Answers.{IsLinkText}
use Rattle.mem_tree.specs.Sound.{IsLink}
use Rattle.mem_tree.proofs.Reading.{link_found}
use Rattle.mem_tree.proofs.links.read_link_text.Goals as goal

pub text_of-requires : goal.text_of-requires
text_of-requires c =
    let s = c.args.fs.now in
    let path = reverse c.args.names.now in
    let link : IsLink (node s (found_node s path)).bytes = c.requires (found_node s path) (link_found s path (sym c.refuse_read_link.ensures ∙ c.in-None.is)) in
    subst (λ (bytes : List ℕ). IsUtf8 bytes) (sym (c.bytes_at.ensures ∙ ap (λ i. (node s i).bytes) c.found.ensures)) link.utf8

pub returns-in-Ok-clause-link_text : goal.returns-in-Ok-clause-link_text
returns-in-Ok-clause-link_text c =
    let s = c.args.fs.now in
    let path = reverse c.args.names.now in
    let link : IsLink (node s (found_node s path)).bytes = c.requires (found_node s path) (link_found s path (sym c.refuse_read_link.ensures ∙ c.in-None.is)) in
    subst (λ (bytes : List ℕ). IsLinkText bytes) (sym (c.in-Ok.ensures ∙ (c.bytes_at.ensures ∙ ap (λ i. (node s i).bytes) c.found.ensures))) link.says
