use Rattle.std.proofs.Common.{◌≡◌, false, ◌&&◌, length, sym, ◌∙◌, ap, subst, Option, reverse}
use Rattle.std.specs.Prelude.{is_none}
use Rattle.mc_text.specs.Routes.{Route}
use Rattle.tree_trait.specs.declared.calls.TreeError.{TreeError}
use Rattle.mem_tree.specs.Held.{Held}
use Rattle.mem_tree.specs.Puts.{put_refusal, put_file_refusal, is_full, IsRefusedBy}
use Rattle.mem_tree.proofs.Puts.{file_refused}
use Rattle.mem_tree.proofs.tree.MemTree.put_file.Goals as goal

pub returns-in-Ok-clause-refusal : goal.returns-in-Ok-clause-refusal
returns-in-Ok-clause-refusal c =
    let s = c.self.inside.opening in
    let path = c.args.path.now in
    let count = length c.args.bytes.now in
    let roomy = subst (λ (p : Route). (is_none (put_refusal s p) && is_full s p count) ≡ false) c.names.ensures.names (sym c.is_full_for.ensures ∙ c.if-is_full_for.false) in
    let is : put_refusal s (reverse c.names-in-Ok.result.now) ≡ put_file_refusal c.args.self.now.log.opening path count =
    ap (λ (p : Route). put_refusal s p) c.names-in-Ok.ensures.names
    ∙ (sym (file_refused s path count roomy) ∙ ap (λ (h : Held). put_file_refusal h.log.opening path count) c.self.view_is) in
    subst (λ (o : Option TreeError). IsRefusedBy {A = Unit {0}} o c.put_node.result) is c.put_node.ensures.refusal
